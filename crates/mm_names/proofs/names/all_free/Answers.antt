use Rattle.std.proofs.Common.{◌-◌, [], ◌∷◌, length, ap, sym, subst, inl, inr, arith, length-append}
use Rattle.std.proofs.lemmas.Bool.{cases_eq}
use Rattle.mm_lists.specs.Members.{Among, NoRepeat}
use Rattle.mm_lists.proofs.Lemmas.Among.{among_append, among_left, among_right}
use Rattle.mm_names.proofs.Lemmas.Index.{NoRepeat-push}
use Rattle.mm_names.proofs.names.all_free.Goals as goal

pub free-preserved : goal.free-preserved
free-preserved c =
    let old = c.free.free.items in
    let next = c.free.left - 1 in
    let so_far = c.free.invariant in
    let items = c.push_reserved.ensures.items in
    record {
      all = λ n. (
        λ among. elim (among_append old (next ∷ []) n (subst (Among n) items among)) [
          | inl before ↦ (omega (arith, ((so_far.all n).0 before).0), ((so_far.all n).0 before).1)
          | inr here ↦ elim here [ inl same ↦ (omega (arith, same), omega (arith, same, so_far.count)) | inr never ↦ absurd never ]
        ],
        λ within. subst (Among n) (sym items) (elim (cases_eq n next) [
          | inl same ↦ among_right old (next ∷ []) n (inl same)
          | inr apart ↦ among_left old (next ∷ []) n ((so_far.all n).1 (omega (arith, within.0, apart), within.1))
        ]),
      );
      once = subst NoRepeat (sym items) (NoRepeat-push old next so_far.once (λ among. absurd (omega (arith, ((so_far.all next).0 among).0))));
      count = omega (arith, so_far.count, ap length items, length-append old (next ∷ []));
      room = omega (arith, so_far.room, c.push_reserved.ensures.capacity);
    }

pub returns-clause-all : goal.returns-clause-all
returns-clause-all c =
    let so_far = c.free.invariant in
    record {
      all = λ n. (λ among. ((so_far.all n).0 among).1, λ below. (so_far.all n).1 (omega arith, below));
      once = so_far.once;
    }
