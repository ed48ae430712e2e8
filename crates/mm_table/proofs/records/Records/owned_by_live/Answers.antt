use Rattle.std.proofs.Common.{◌≡◌, true, false, Some, IsTrue, nat_eq, refl, sym, ap, subst, ◌∙◌}
use Rattle.std.proofs.lemmas.Bool.{and_parts, eq-eqb, eqb-true}
use Rattle.std.specs.Option.{option_map_or}
use Rattle.std.specs.Prelude.{slice_index, slice_index_or}
use Rattle.mm_arena.specs.declared.key.Key.{Key}
use Rattle.mm_lists.specs.Members.{Among, NoRepeat}
use Rattle.mm_rules.specs.TableState.{TableState, is_live, owns}
use Rattle.mm_rules.proofs.States.Release.{owns_gives}
use Rattle.mm_table.proofs.Fields.Ownership.{listed, one_key}
use Rattle.mm_table.proofs.records.Records.owned_by_live.Goals as goal

pub returns-clause-listed : goal.returns-clause-listed
returns-clause-listed c =
    let s = c.args.self.now in
    let key = c.args.key in
    let lists = listed c.self.inside s c.self.invariant c.self.view_is c.list.ensures.matched in
    λ r. (
      λ among.
          let owner = owns_gives s key.process r (lists.mine key.process r (subst (Among r) c.list.ensures.listed among)) in
          owner.1 ∙ ap Some (one_key s owner.0 key (c.requires.laws.lawful.well_formed.owners r owner.0 owner.1) c.requires.live owner.2),
      λ is.
          let mine : owns s key.process r ≡ true = ap (λ o. option_map_or (λ (k : Key). nat_eq k.process key.process) o false) is ∙ eq-eqb key.process key.process refl in
          subst (Among r) (sym c.list.ensures.listed) (lists.all key.process r mine),
    )

pub returns-clause-once : goal.returns-clause-once
returns-clause-once c = subst NoRepeat (sym c.list.ensures.listed) (c.list.ensures.matched.once c.args.key.process)
