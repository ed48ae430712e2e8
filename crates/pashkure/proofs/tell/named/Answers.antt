use Rattle.std.proofs.Common.{◌≡◌, ◌∙◌, Some, None, sym}
use Rattle.pashkure.proofs.Kept.{named_is_owned}
use Rattle.pashkure.proofs.tell.named.Goals as goal

pub unreachable-requires : goal.unreachable-requires
unreachable-requires c =
    let owned = named_is_owned c.args.manager.now c.keeps_laws.ensures c.args.number c.in_ok-name.name.now (sym (c.in_ok-name.ensures)) in
    let never : None ≡ Some owned.0 = sym c.in-None.is ∙ (c.owner.ensures owned.0).1 owned.1 in
    absurd (cc)

pub returns : goal.returns
returns c = (sym (c.in_ok-name.ensures), (c.owner.ensures c.in-Some.key).0 c.in-Some.is)
