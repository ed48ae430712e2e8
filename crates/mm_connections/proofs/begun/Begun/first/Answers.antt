use Rattle.std.proofs.Common.{◌≡◌, subst, Some}
use Rattle.mm_lists.specs.Members.{head}
use Rattle.mm_tagged_lists.specs.TaggedLists.{Listing, spot_at, list_at}
use Rattle.mm_connections.proofs.Lemmas.Begun.{first_within, first_is_kept, first_taken}
use Rattle.mm_connections.proofs.begun.Begun.first.Goals as goal

pub spot-requires : goal.spot-requires
spot-requires c = first_within c.self.inside.lists c.args.list c.in_ok-process.process c.in_ok-process.ensures.matched c.in_ok-process.ensures.first

pub returns-in_err-spot-clause-first : goal.returns-in_err-spot-clause-first
returns-in_err-spot-clause-first c = absurd (first_is_kept c.self.inside.lists c.args.list c.in_ok-process.process c.in_ok-process.ensures.matched c.in_ok-process.ensures.first c.in_err-spot.ensures.spot)

pub returns-clause-first : goal.returns-clause-first
returns-clause-first c =
    let p = c.in_ok-process.process in
    let spot = c.in_ok-spot.spot in
    subst (λ (b : Listing). (head (list_at b c.args.list) ≡ Some p) × (spot_at b p ≡ Some (record { list = c.args.list; tag = spot.tag }))) c.self.view_is
    (first_taken c.self.inside.lists c.args.list p c.in_ok-process.ensures.matched c.in_ok-process.ensures.first spot c.in_ok-spot.ensures.spot)
