use Rattle.std.proofs.Common.{◌∙◌, sym}
use Rattle.mm_arena.specs.declared.key.Key.{Key}
use Rattle.mm_tagged_lists.specs.TaggedLists.{list_at}
use Rattle.mm_connections.specs.Begun.{IsOf, aside_list}
use Rattle.mm_connections.specs.Hub.{Hub}
use Rattle.mm_connections.specs.private.Served.{hub_of}
use Rattle.mm_connections.proofs.Lemmas.Begun.{half_aside, of_spot}
use Rattle.mm_connections.proofs.Lemmas.Drops.{first_long, long_first_none, many_keeps}
use Rattle.mm_connections.proofs.served.ServedManager.long_first.Goals as goal

pub returns-in_err-key-clause-first : goal.returns-in_err-key-clause-first
returns-in_err-key-clause-first c =
    let h : Hub = hub_of c.args.self.now in
    c.from_residual.ensures ∙ sym (long_first_none h (list_at h.begun (aside_list c.args.connection)) c.in_err-key.ensures.first)

pub returns-clause-first : goal.returns-clause-first
returns-clause-first c =
    let h : Hub = hub_of c.args.self.now in
    let n = aside_list c.args.connection in
    let key = c.in_ok-key.key in
    let first = c.in_ok-key.ensures.first in
    c.many.ensures ∙ sym (first_long h key.process key.generation n first.1 (list_at h.begun n) first.0)

pub returns-clause-own : goal.returns-clause-own
returns-clause-own c =
    let h : Hub = hub_of c.args.self.now in
    let n = c.args.connection in
    let key = c.in_ok-key.key in
    many_keeps (λ (k : Key). IsOf h.begun n k) h key c.many.result c.many.ensures (of_spot h.begun n (aside_list n) key c.in_ok-key.ensures.first.1 (half_aside n))
