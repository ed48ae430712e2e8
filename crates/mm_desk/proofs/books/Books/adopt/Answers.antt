use Rattle.std.proofs.Common.{◌+◌, set, sym, subst, arith}
use Rattle.mm_names.specs.Names.{NameTable}
use Rattle.mm_desk.specs.Books.{BooksState, AreCounted}
use Rattle.mm_desk.specs.Calls.{GrowsBy, OwnersStay, WaitsStay}
use Rattle.mm_desk.proofs.Counts.{count_is}
use Rattle.mm_desk.proofs.Names.{adopted_booked, count_granted, small_count}
use Rattle.mm_desk.proofs.books.Books.adopt.Goals as goal

pub overflow_add-index_mut : goal.overflow_add-index_mut
overflow_add-index_mut c =
    let low = c.of-bucket.ensures.low in
    let size = c.self.invariant.0 in
    let v = count_is c.self.inside.counts.items c.of-bucket.result c.index_mut.result.now (omega arith) c.index_mut.ensures.value in
    let few = small_count c.self.inside.manager c.keeps_laws.ensures c.self.inside.spread c.self.inside.counts.items c.of-bucket.result c.self.invariant low in
    omega arith

pub invariant_of-self : goal.invariant_of-self
invariant_of-self c =
    let low = c.of-bucket.ensures.low in
    let size = c.self.invariant.0 in
    let v = count_is c.self.inside.counts.items c.of-bucket.result c.index_mut.result.now (omega arith) c.index_mut.ensures.value in
    let got = (adopted_booked c.self.inside.manager c.args.key c.args.name.now c.adopt-answer.result c.adopt-answer.new.self c.adopt-answer.ensures.adopts c.adopt-answer.ensures.step).granted (c.is_try_granted.ensures.0 c.if-is_try_granted.true) in
    subst (λ n. AreCounted c.self.inside.spread c.adopt-answer.new.self.names.names (set c.self.inside.counts.items c.of-bucket.result (n + 1))) (sym v)
    (count_granted c.self.inside.manager c.keeps_laws.ensures c.self.inside.spread c.self.inside.counts.items c.self.invariant c.args.name.now c.of-bucket.result c.of-bucket.ensures.bucket low c.adopt-answer.new.self got.1.0 got.0 got.1.1)

pub invariant_of-self-else-is_try_granted : goal.invariant_of-self-else-is_try_granted
invariant_of-self-else-is_try_granted c =
    let same = (adopted_booked c.self.inside.manager c.args.key c.args.name.now c.adopt-answer.result c.adopt-answer.new.self c.adopt-answer.ensures.adopts c.adopt-answer.ensures.step).same (λ is. (let never = c.is_try_granted.ensures.1 is in let no = c.if-is_try_granted.false in absurd (grind (arith)))) in
    subst (λ (t : NameTable). AreCounted c.self.inside.spread t.names c.self.inside.counts.items) (sym same) c.self.invariant

pub returns-then-is_try_granted-clause-grows : goal.returns-then-is_try_granted-clause-grows
returns-then-is_try_granted-clause-grows c = subst (λ (b : BooksState). GrowsBy b.manager c.args.name.now c.adopt-answer.new.self) c.self.view_is (adopted_booked c.self.inside.manager c.args.key c.args.name.now c.adopt-answer.result c.adopt-answer.new.self c.adopt-answer.ensures.adopts c.adopt-answer.ensures.step).grows

pub returns-then-is_try_granted-clause-stay : goal.returns-then-is_try_granted-clause-stay
returns-then-is_try_granted-clause-stay c = subst (λ (b : BooksState). OwnersStay b.manager c.adopt-answer.new.self) c.self.view_is (adopted_booked c.self.inside.manager c.args.key c.args.name.now c.adopt-answer.result c.adopt-answer.new.self c.adopt-answer.ensures.adopts c.adopt-answer.ensures.step).stay

pub returns-else-is_try_granted-clause-grows : goal.returns-else-is_try_granted-clause-grows
returns-else-is_try_granted-clause-grows c = subst (λ (b : BooksState). GrowsBy b.manager c.args.name.now c.adopt-answer.new.self) c.self.view_is (adopted_booked c.self.inside.manager c.args.key c.args.name.now c.adopt-answer.result c.adopt-answer.new.self c.adopt-answer.ensures.adopts c.adopt-answer.ensures.step).grows

pub returns-else-is_try_granted-clause-stay : goal.returns-else-is_try_granted-clause-stay
returns-else-is_try_granted-clause-stay c = subst (λ (b : BooksState). OwnersStay b.manager c.adopt-answer.new.self) c.self.view_is (adopted_booked c.self.inside.manager c.args.key c.args.name.now c.adopt-answer.result c.adopt-answer.new.self c.adopt-answer.ensures.adopts c.adopt-answer.ensures.step).stay

pub returns-then-is_try_granted-clause-waits : goal.returns-then-is_try_granted-clause-waits
returns-then-is_try_granted-clause-waits c = subst (λ (b : BooksState). WaitsStay b.manager c.adopt-answer.new.self) c.self.view_is (adopted_booked c.self.inside.manager c.args.key c.args.name.now c.adopt-answer.result c.adopt-answer.new.self c.adopt-answer.ensures.adopts c.adopt-answer.ensures.step).waits

pub returns-else-is_try_granted-clause-waits : goal.returns-else-is_try_granted-clause-waits
returns-else-is_try_granted-clause-waits c = subst (λ (b : BooksState). WaitsStay b.manager c.adopt-answer.new.self) c.self.view_is (adopted_booked c.self.inside.manager c.args.key c.args.name.now c.adopt-answer.result c.adopt-answer.new.self c.adopt-answer.ensures.adopts c.adopt-answer.ensures.step).waits
