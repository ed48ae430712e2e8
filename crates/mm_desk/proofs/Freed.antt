-- Buckets that are freed since the manager has no name of them.
use Rattle.std.proofs.Common.{◌≡◌, ◌≢◌, ◌∙◌, ℕ, ◌+◌, ◌<◌, List, refl, sym, ap, subst, inl, inr, arith}
use Rattle.std.proofs.lemmas.Bool.{cases_eq}
use Rattle.mm_arena.specs.declared.key.Key.{Key}
use Rattle.mm_lists.specs.Members.{Among, without}
use Rattle.mm_lists.proofs.Lemmas.Filter.{Among-without}
use Rattle.mm_manager.specs.LockState.{LockState}
use Rattle.mm_thin.specs.declared.views.DeskView.{DeskView}
use Rattle.mm_thin.specs.declared.views.Lent.{Lent}
use Rattle.mm_thin.specs.declared.spread.Spread.{Spread}
use Rattle.mm_thin.specs.Calls.{LooksAt}
use Rattle.mm_thin.specs.Spread.{bucket_by}
use Rattle.mm_thin.specs.Parts.{OfficeState, Opening}
use Rattle.mm_thin.specs.declared.reply.Look.{Look}
use Rattle.mm_thin.specs.declared.reply.Look.TheVariants.{NotFat, Fat, IsLent}
use Rattle.mm_desk.specs.All.{FreesUnused, FreesBelow}
use Rattle.mm_desk.specs.Books.{BooksState, names_in}
use Rattle.mm_desk.specs.Calls.{KeepsManager}
use Rattle.mm_desk.specs.Desk.{DeskState, IsDesk}
use Rattle.mm_desk.proofs.Counts.{counted_name}

module _ (books : BooksState) (o : OfficeState) (keys : List Key) (lent_to : List ℕ) (is : IsDesk books o keys lent_to) (b : ℕ) where
  abbrev names : ℕ
  names = names_in o.of.spread books.manager.names.names b

  -- what is lent has a name
  lent_named : (l : Lent) → Among l o.desk.lent → l.bucket ≡ b → 0 < names
  lent_named l among same =
      let a = is.adopted l among in
      let bucket = ap (λ (s : Spread). bucket_by s l.name) (sym is.spread) ∙ sym a.bucket ∙ same in
      counted_name o.of.spread books.manager.names.names a.owned.2.0 l.name b a.owned.2.1 bucket

  -- a bucket of which the manager has no name, and that is not found fat, is not fat
  pub looked_used : (look : Look) (after : DeskView) → look ≢ Fat → LooksAt o.desk b look after → (Among b after.fat → 0 < names) × ((c : ℕ) → Among c after.fat → Among c o.desk.fat)
  looked_used NotFat after not_fat looks = (λ among. absurd (looks.1 (subst (λ (d : DeskView). Among b d.fat) looks.0 among)), λ c among. subst (λ (d : DeskView). Among c d.fat) looks.0 among)
  looked_used Fat after not_fat looks = absurd (not_fat refl)
  looked_used IsLent after not_fat looks = (λ among. lent_named looks.2.0 looks.2.1 looks.2.2, λ c among. subst (λ (d : DeskView). Among c d.fat) looks.0 among)

-- the fat buckets without one
pub freed_used : (b n : ℕ) (fat left : List ℕ) → left ≡ without b fat → (Among b left → 0 < n) × ((c : ℕ) → Among c left → Among c fat)
freed_used b n fat left is = (
  λ among. absurd ((Among-without b b fat (subst (λ (xs : List ℕ). Among b xs) is among)).1 refl),
  λ c among. (Among-without c b fat (subst (λ (xs : List ℕ). Among c xs) is among)).0,
)

-- one bucket more is freed
pub frees_more : (a b c : DeskState) (k : ℕ) → KeepsManager b c → FreesBelow a k b → FreesUnused b k c → FreesBelow a (k + 1) c
frees_more a b c k keeps first second =
    let names : (j : ℕ) → names_in c.office.of.spread c.manager.names.names j ≡ names_in b.office.of.spread b.manager.names.names j = λ j.
    ap (λ (o : Opening). names_in o.spread c.manager.names.names j) keeps.of ∙ ap (λ (m : LockState). names_in b.office.of.spread m.names.names j) keeps.manager in
    record {
      used = λ j low among. elim (cases_eq j k) [
        | inl same ↦ subst (λ (i : ℕ). 0 < names_in c.office.of.spread c.manager.names.names i) (sym same) (second.used (subst (λ (i : ℕ). Among i c.office.desk.fat) same among))
        | inr apart ↦ subst (λ (n : ℕ). 0 < n) (sym (names j)) (first.used j (omega arith) (second.fewer j among))
      ];
      fewer = λ j among. first.fewer j (second.fewer j among);
    }
