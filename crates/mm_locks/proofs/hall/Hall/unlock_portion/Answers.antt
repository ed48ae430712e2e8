use Rattle.std.proofs.Common.{◌≡◌, ◌<◌, ℕ, List, length, take, get_or, sym, ◌∙◌, subst, arith}
use Rattle.std.proofs.lemmas.List.{take_more}
use Rattle.mm_desk.specs.declared.room.Room.{Room}
use Rattle.mm_locks.specs.Calls.{HandsEachOver, HandsNumberOver}
use Rattle.mm_locks.proofs.HandedOver.{one_more, portion}
use Rattle.mm_locks.proofs.hall.Hall.unlock_portion.Goals as goal

pub loop-k-preserved : goal.loop-k-preserved
loop-k-preserved c =
    let numbers = c.list_owned.new.room.numbers.items in
    let many : 256 < length numbers = subst (λ (xs : List ℕ). 256 < length xs) c.numbers.ensures c.if-numbers-le-PORTION.false in
    let within : c.loop-k.k < length numbers = omega (arith, many, c.loop-k-test.true) in
    let same : c.numbers-in-loop-k.result.now ≡ numbers = subst (λ (r : Room). c.numbers-in-loop-k.result.now ≡ r.numbers.items) c.loop-k.invariant.room c.numbers-in-loop-k.ensures in
    let one = subst (λ (xs : List ℕ). HandsNumberOver c.loop-k.self.desk c.args.at (get_or xs c.loop-k.k 0) c.unlock_number.new.self.desk) same c.unlock_number.ensures.hands in
    record {
      room = c.unlock_number.ensures.room ∙ c.loop-k.invariant.room;
      over = subst (λ (xs : List ℕ). HandsEachOver c.args.self.now.desk c.args.at xs c.unlock_number.new.self.desk) (sym (take_more numbers c.loop-k.k 0 within))
          (one_more (take c.loop-k.k numbers) c.args.self.now.desk c.args.at c.loop-k.self.desk (get_or numbers c.loop-k.k 0) c.unlock_number.new.self.desk c.loop-k.invariant.over one);
    }

pub returns-clause-hands : goal.returns-clause-hands
returns-clause-hands c =
    let numbers = c.list_owned.new.room.numbers.items in
    let many : 256 < length numbers = subst (λ (xs : List ℕ). 256 < length xs) c.numbers.ensures c.if-numbers-le-PORTION.false in
    let all : c.loop-k.k ≡ 256 = omega (arith, c.loop-k-test.false, c.loop-k.auto.k-end) in
    portion c.args.self.now.desk c.args.at c.args.self.now.room.numbers.cap numbers c.loop-k.self.desk c.list_owned.ensures.listed many
    (subst (λ (n : ℕ). HandsEachOver c.args.self.now.desk c.args.at (take n numbers) c.loop-k.self.desk) all c.loop-k.invariant.over)
