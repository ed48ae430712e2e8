-- A worker gives back what one record after the other has taken.
use Rattle.std.proofs.Common.{◌≡◌, ◌≢◌, ℕ, ◌+◌, ◌≤◌, Bool, true, false, [], set, Some, refl, sym, ap, ◌∙◌, subst, ◌⊎◌, inl, inr, arith}
use Rattle.std.specs.Prelude.{slice_get}
use Rattle.std.proofs.lemmas.Bool.{cases_eq}
use Rattle.std.proofs.lemmas.List.{length-set}
use Rattle.std.proofs.lemmas.Option.{slice_get_within, same_Some}
use Rattle.mm_lists.proofs.Lemmas.Set.{slice_get-set_same, slice_get-set_other}
use Rattle.mm_thin.specs.declared.views.RecordView.{RecordView}
use Rattle.mm_thin.specs.declared.reply.GiveUp.{GiveUp}
use Rattle.mm_thin.specs.declared.reply.GiveUp.TheVariants.{Done, NotTaken}
use Rattle.mm_thin.specs.declared.reply.GiveUp.TheVariants as given
use Rattle.mm_thin.specs.Views.{idle}
use Rattle.mm_thin.specs.Parts.{WorkerState}
use Rattle.mm_thin.specs.Calls.{with_record, LeavesName, GivesBackFrom}

module _ (old w : WorkerState) (k : ℕ) (is_left : Bool) (was : GivesBackFrom old (k + 1) is_left w) where
  -- record k has nothing any more
  module _ (r : RecordView) (is : slice_get w.records k ≡ Some r) where
    here : slice_get (set w.records k (idle r)) k ≡ Some (idle r)
    here = slice_get-set_same w.records k (idle r) (slice_get_within w.records k r is)

    each_now : (j : ℕ) (q : RecordView) → slice_get old.records j ≡ Some q → (slice_get (set w.records k (idle r)) j ≡ Some q) ⊎ (slice_get (set w.records k (idle r)) j ≡ Some (idle q))
    each_now j q at = elim (cases_eq j k) [
      | inl same ↦
          let there : slice_get (set w.records k (idle r)) j ≡ Some (idle r) = ap (slice_get (set w.records k (idle r))) same ∙ here in
          elim (was.each j q at) [
            | inl kept ↦ inr (there ∙ ap (λ x. Some (idle x)) (same_Some r q (sym is ∙ ap (slice_get w.records) (sym same) ∙ kept)))
            | inr gone ↦ inr (there ∙ ap (λ x. Some (idle x)) (same_Some r (idle q) (sym is ∙ ap (slice_get w.records) (sym same) ∙ gone)))
          ]
      | inr apart ↦
          let there = slice_get-set_other w.records j k (idle r) apart in
          elim (was.each j q at) [ inl kept ↦ inl (there ∙ kept) | inr gone ↦ inr (there ∙ gone) ]
    ]

    none_now : is_left ≡ false → (j : ℕ) (q : RecordView) → k ≤ j → slice_get (set w.records k (idle r)) j ≡ Some q → q.taken ≡ []
    none_now so j q above at = elim (cases_eq j k) [
      | inl same ↦ ap (λ (x : RecordView). x.taken) (same_Some q (idle r) (sym at ∙ ap (slice_get (set w.records k (idle r))) same ∙ here))
      | inr apart ↦ was.none so j q (omega arith) (sym (slice_get-set_other w.records j k (idle r) apart) ∙ at)
    ]

    some_now : is_left ≡ true → (j : ℕ) × (q : RecordView) × (k ≤ j) × (slice_get (set w.records k (idle r)) j ≡ Some q) × (q.taken ≢ [])
    some_now so =
        let t = was.some so in
        let above = t.2 in
        (t.0, t.1, omega arith, slice_get-set_other w.records t.0 k (idle r) (λ same. omega arith) ∙ t.3, t.4)

    gone_now : GivesBackFrom old k is_left (with_record w k (idle r))
    gone_now = record {
      of = was.of;
      at = was.at;
      size = length-set w.records k (idle r) ∙ was.size;
      each = each_now;
      none = none_now;
      some = some_now;
    }

  -- record k is left
  left_now : (r : RecordView) → slice_get w.records k ≡ Some r → r.taken ≢ [] → GivesBackFrom old k true w
  left_now r is taken = record {
    of = was.of;
    at = was.at;
    size = was.size;
    each = was.each;
    none = λ so. absurd (cc);
    some = λ so. (k, r, omega arith, is, taken);
  }

  -- record k had nothing
  idle_now : ((r : RecordView) → slice_get w.records k ≡ Some r → r.taken ≡ []) → GivesBackFrom old k is_left w
  idle_now none = record {
    of = was.of;
    at = was.at;
    size = was.size;
    each = was.each;
    none = λ so j q above at. elim (cases_eq j k) [
      | inl same ↦ none q (ap (slice_get w.records) (sym same) ∙ at)
      | inr apart ↦ was.none so j q (omega arith) at
    ];
    some = λ so. (let t = was.some so in let above = t.2 in (t.0, t.1, omega arith, t.3, t.4));
  }

  pub gives_one : (g : GiveUp) (new : WorkerState) → LeavesName w k g new → g ≢ given.Changed → GivesBackFrom old k is_left new
  gives_one Done new left done = subst (GivesBackFrom old k is_left) (sym left.3) (gone_now left.0 left.1)
  gives_one given.Changed new left done = absurd (done refl)
  gives_one NotTaken new left done = subst (GivesBackFrom old k is_left) (sym left.0) (idle_now left.1)

  pub leaves_one : (new : WorkerState) → LeavesName w k given.Changed new → GivesBackFrom old k true new
  leaves_one new left = subst (GivesBackFrom old k true) (sym left.0) (left_now left.1.0 left.1.1 left.1.2)
