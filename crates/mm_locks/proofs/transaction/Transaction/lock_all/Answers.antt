use Rattle.std.proofs.Common.{◌≡◌, ◌∙◌, ◌+◌, ℕ, ap, sym, subst, arith, Some, None, List, [], Option}
use Rattle.std.proofs.Math.ListN.{get_or}
use Rattle.std.proofs.lemmas.List.{take_all}
use Rattle.std.proofs.lemmas.Option.{slice_get-get_or}
use Rattle.std.specs.Borrow.{Bor}
use Rattle.std.specs.Option.{IsSomeAnd}
use Rattle.std.specs.List.{slice_get}
use Rattle.mm_locks.specs.declared.error.LockError.{LockError}
use Rattle.mm_locks.specs.Told.{LocksEachSo, bytes_of, refusal_of}
use Rattle.mm_locks.proofs.Each.{goes_on_to, stops_at}
use Rattle.mm_locks.proofs.Telling.{is_error}
use Rattle.mm_locks.proofs.transaction.Transaction.lock_all.Goals as goal

abbrev no_name : Bor (List ℕ)
no_name = record { ref_ptr = (0, 0); now = [] }

pub returns-clause-granted : goal.returns-clause-granted
returns-clause-granted g c = (c.loop-place.invariant.0, c.loop-place.invariant.1, omega (arith, c.loop-place.invariant.2, c.loop-place-test.false))

pub returns-clause-told : goal.returns-clause-told
returns-clause-told g c =
    subst (λ (names : List (Bor (List ℕ))). LocksEachSo c.args.self.now.session.now (bytes_of names) None c.loop-place.self.session.now)
    (take_all c.loop-place.place c.args.names.now c.loop-place-test.false) c.loop-place.invariant.4

pub returns-in_err-one-clause-told : goal.returns-in_err-one-clause-told
returns-in_err-one-clause-told g c =
    let refused = is_error c.from_residual.result c.in_err-one.field-0.0 c.from_residual.ensures.1 in
    subst (λ (why : Option LockError). LocksEachSo c.args.self.now.session.now (bytes_of c.args.names.now) why c.lock.new.self.session.now) (sym (ap refusal_of refused))
    (stops_at c.args.self.now.session.now c.loop-place.self.session.now c.lock.new.self.session.now c.args.names.now c.loop-place.place no_name c.loop-place-test.true c.loop-place.invariant.4 c.in_err-one.field-0.0 c.in_err-one.ensures.told)

pub and-granted-requires-clause-name : goal.and-granted-requires-clause-name
and-granted-requires-clause-name g c =
    let names = c.args.names.now in
    let found : slice_get c.loop-place.granted.names.now c.loop-place.granted.place ≡ Some (get_or names c.loop-place.place no_name) =
    ap (λ (xs : List (Bor (List ℕ))). slice_get xs c.loop-place.granted.place) c.loop-place.invariant.1 ∙ ap (slice_get names) c.loop-place.invariant.2
    ∙ slice_get-get_or names c.loop-place.place no_name c.loop-place-test.true in
    subst (λ (o : Option (Bor (List ℕ))). IsSomeAnd o (λ name. name.now ≡ c.in_ok-one.one.name.now)) (sym found) (sym c.in_ok-one.ensures.granted.1)

pub loop-place-preserved : goal.loop-place-preserved
loop-place-preserved g c = (
  c.and-granted.ensures.at ∙ c.loop-place.invariant.0,
  c.and-granted.ensures.names ∙ c.loop-place.invariant.1,
  c.and-granted.ensures.place ∙ ap (λ n. n + 1) c.loop-place.invariant.2,
  c.lock.ensures.same.0 ∙ c.loop-place.invariant.3,
  goes_on_to c.args.self.now.session.now c.loop-place.self.session.now c.lock.new.self.session.now c.args.names.now c.loop-place.place no_name c.loop-place-test.true c.loop-place.invariant.4 c.in_ok-one.one c.in_ok-one.ensures.told,
)
