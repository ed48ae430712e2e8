use Rattle.std.proofs.Common.{◌-◌, set, sym, subst, ◌∙◌, arith}
use Rattle.mm_desk.specs.Books.{BooksState, AreCounted}
use Rattle.mm_desk.specs.Calls.{OthersStay}
use Rattle.mm_desk.proofs.Counts.{count_is}
use Rattle.mm_desk.proofs.Names.{unlocked_stay, done_of, was_counted, count_freed, handed_names, nobody, somebody}
use Rattle.mm_desk.proofs.books.Books.unlock.Goals as goal

pub overflow_sub-index_mut : goal.overflow_sub-index_mut
overflow_sub-index_mut c =
    let low = c.of-bucket.ensures.low in
    let size = c.self.invariant.0 in
    let v = count_is c.self.inside.counts.items c.of-bucket.result c.index_mut.result.now (omega arith) c.index_mut.ensures.value in
    let done = done_of c.self.inside.manager c.unlock-answer.new.self c.keeps_laws.ensures c.keeps_laws-2.ensures c.args.key c.args.name.now c.unlock-answer.result c.unlock-answer.ensures.unlocks (sym c.is_err.ensures.value ∙ c.if-is_err.false) in
    let some = was_counted c.self.inside.manager c.unlock-answer.new.self c.keeps_laws.ensures c.keeps_laws-2.ensures c.args.key c.args.name.now c.self.inside.spread c.self.inside.counts.items c.self.invariant c.of-bucket.result c.of-bucket.ensures.bucket low done in
    omega arith

pub invariant_of-self-2 : goal.invariant_of-self-2
invariant_of-self-2 c =
    let low = c.of-bucket.ensures.low in
    let size = c.self.invariant.0 in
    let v = count_is c.self.inside.counts.items c.of-bucket.result c.index_mut.result.now (omega arith) c.index_mut.ensures.value in
    let done = done_of c.self.inside.manager c.unlock-answer.new.self c.keeps_laws.ensures c.keeps_laws-2.ensures c.args.key c.args.name.now c.unlock-answer.result c.unlock-answer.ensures.unlocks (sym c.is_err.ensures.value ∙ c.if-is_err.false) in
    let free = nobody c.unlock-answer.new.self c.args.name.now c.owner.result c.owner.ensures (sym c.is_some.ensures ∙ c.if-is_some.false) in
    subst (λ n. AreCounted c.self.inside.spread c.unlock-answer.new.self.names.names (set c.self.inside.counts.items c.of-bucket.result (n - 1))) (sym v)
    (count_freed c.self.inside.manager c.unlock-answer.new.self c.keeps_laws.ensures c.keeps_laws-2.ensures c.args.key c.args.name.now c.self.inside.spread c.self.inside.counts.items c.self.invariant c.of-bucket.result c.of-bucket.ensures.bucket low done free)

pub invariant_of-self-then-is_some : goal.invariant_of-self-then-is_some
invariant_of-self-then-is_some c =
    let done = done_of c.self.inside.manager c.unlock-answer.new.self c.keeps_laws.ensures c.keeps_laws-2.ensures c.args.key c.args.name.now c.unlock-answer.result c.unlock-answer.ensures.unlocks (sym c.is_err.ensures.value ∙ c.if-is_err.false) in
    let h = somebody c.unlock-answer.new.self c.args.name.now c.owner.result c.owner.ensures (sym c.is_some.ensures ∙ c.if-is_some.true) in
    subst (λ names. AreCounted c.self.inside.spread names c.self.inside.counts.items) (sym (handed_names c.self.inside.manager c.unlock-answer.new.self c.keeps_laws.ensures c.keeps_laws-2.ensures c.args.key c.args.name.now done h.0 h.1)) c.self.invariant

pub returns-then-is_some-clause-stay : goal.returns-then-is_some-clause-stay
returns-then-is_some-clause-stay c = subst (λ (b : BooksState). OthersStay b.manager c.args.key c.args.name.now c.unlock-answer.new.self) c.self.view_is (unlocked_stay c.self.inside.manager c.unlock-answer.new.self c.keeps_laws.ensures c.keeps_laws-2.ensures c.args.key c.args.name.now c.unlock-answer.result c.unlock-answer.ensures.unlocks)

pub returns-clause-stay : goal.returns-clause-stay
returns-clause-stay c = subst (λ (b : BooksState). OthersStay b.manager c.args.key c.args.name.now c.unlock-answer.new.self) c.self.view_is (unlocked_stay c.self.inside.manager c.unlock-answer.new.self c.keeps_laws.ensures c.keeps_laws-2.ensures c.args.key c.args.name.now c.unlock-answer.result c.unlock-answer.ensures.unlocks)
