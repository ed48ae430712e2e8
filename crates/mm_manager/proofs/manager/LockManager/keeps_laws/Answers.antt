use Rattle.std.proofs.Common.{subst}
use Rattle.mm_manager.specs.LockState.{LockState, IsLawful}
use Rattle.mm_manager.specs.private.Handed.{seen}
use Rattle.mm_rules.proofs.States.Lookups.{live_within}
use Rattle.mm_manager.proofs.Lemmas.Requests.{one_key}
use Rattle.mm_manager.proofs.Lemmas.Told.{waits_for_owner}
use Rattle.mm_manager.proofs.manager.LockManager.keeps_laws.Goals as goal

pub returns : goal.returns
returns c =
    let i = c.self.inside in
    subst (λ (m : LockState). IsLawful m) c.self.view_is record {
      laws = c.is_at_rest.ensures.laws;
      rest = c.is_at_rest.ensures.rest;
      none = c.is_at_rest.ensures.none;
      apart = c.is_at_rest.ensures.apart;
      names = c.keeps_laws.ensures;
      numbered = c.self.invariant.sound.numbered.named;
      waited = waits_for_owner (seen i.named i.tells i.totals i.names_each) c.is_at_rest.ensures.laws;
      slots = λ k live. live_within i.named.table.table k c.is_at_rest.ensures.laws.lawful.well_formed.sizes live;
      alone = λ j k live_j live_k same. one_key i.named.table.table j k live_j live_k same;
      counted = c.self.invariant.counted;
    }
