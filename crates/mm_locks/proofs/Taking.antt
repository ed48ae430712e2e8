-- What a worker has when it has taken a name.
use Rattle.std.proofs.Common.{◌≡◌, ℕ, zero, suc, ◌<◌, List, [], ◌∷◌, Some, length, refl, sym, ap, ◌∙◌, subst, arith, set}
use Rattle.std.specs.Prelude.{slice_get}
use Rattle.mm_lists.proofs.Lemmas.Set.{slice_get-set_same}
use Rattle.mm_thin.specs.Parts.{WorkerState, bucket_of}
use Rattle.mm_thin.specs.Calls.{HasTaken, TakesName}
use Rattle.mm_thin.specs.Views.{with_taken}
use Rattle.mm_thin.specs.declared.views.RecordView.{RecordView}
use Rattle.mm_thin.specs.declared.reply.Take.{Take}
use Rattle.mm_thin.specs.declared.reply.Take.TheVariants.{Taken, Held, Busy, Fat, Full, NotThin}

within : (rs : List RecordView) (k : ℕ) (r : RecordView) → slice_get rs k ≡ Some r → k < length rs
within [] k r is = absurd (cc)
within (x ∷ xs) zero r is = omega arith
within (x ∷ xs) (suc k) r is = (let low = within xs k r is in omega arith)

module _ (w : WorkerState) (name : List ℕ) (after : WorkerState) where
  pub taken_has : TakesName w name Taken after → HasTaken after.records name
  taken_has takes =
      let r = with_taken takes.1 (bucket_of w.of name) name in
      let here : slice_get (set w.records takes.0 r) takes.0 ≡ Some r = slice_get-set_same w.records takes.0 r (within w.records takes.0 takes.1 takes.2) in
      (takes.0, r, ap (λ (x : WorkerState). slice_get x.records takes.0) takes.4 ∙ here, ((λ none. cc), refl))

  pub held_has : TakesName w name Held after → HasTaken after.records name
  held_has takes = subst (λ (x : WorkerState). HasTaken x.records name) (sym takes.0) takes.1

  pub same_at : (take : Take) → TakesName w name take after → after.at ≡ w.at
  same_at Taken takes = ap (λ (x : WorkerState). x.at) takes.4
  same_at Held takes = ap (λ (x : WorkerState). x.at) takes.0
  same_at Busy takes = ap (λ (x : WorkerState). x.at) takes.0
  same_at Fat takes = ap (λ (x : WorkerState). x.at) takes.0
  same_at Full takes = ap (λ (x : WorkerState). x.at) takes.0
  same_at NotThin takes = ap (λ (x : WorkerState). x.at) takes.0
