use Rattle.std.proofs.Common.{◌≡◌, true, false, Some, None, nat_eq, ◌&&◌, sym, ap, subst, ◌∙◌}
use Rattle.std.proofs.lemmas.Option.{same_Some}
use Rattle.mm_arena.specs.declared.key.Key.{Key}
use Rattle.mm_manager.proofs.Lemmas.Requests.{same_key, key_itself}
use Rattle.mm_manager.proofs.manager.LockManager.owns.Goals as goal

pub returns-in-None : goal.returns-in-None
returns-in-None c = (
  λ never. (let no : false ≡ true = never in absurd (cc)),
  λ owns. (let no : None ≡ Some c.args.key = sym c.in-None.is ∙ (c.owner.ensures c.args.key).1 owns in absurd (cc)),
)

pub returns-in-Some : goal.returns-in-Some
returns-in-Some c =
    let k = c.args.key in
    let h = c.in-Some.owner in (
      λ is. (c.owner.ensures k).0 (c.in-Some.is ∙ ap Some (same_key h k (sym c.eq.ensures ∙ is))),
      λ owns.
          let same : h ≡ k = same_Some h k (sym c.in-Some.is ∙ (c.owner.ensures k).1 owns) in
          c.eq.ensures ∙ subst (λ (g : Key). (nat_eq g.process k.process && nat_eq g.generation k.generation) ≡ true) (sym same) (key_itself k),
    )
