-- Calls one after another.
use Rattle.std.proofs.Common.{ℕ, List, [], ◌++◌, refl, sym, ap, ◌∙◌, append-nil}
use Rattle.std.proofs.lemmas.List.{append_assoc}
use Rattle.mm_tied.specs.declared.views.View.{View}
use Rattle.mm_tied.specs.History.{nobody, all_told, IsSound, Extends, Goes}

module _ {S E : Type 0} (makes : S → E → S → Type 0) (first : S) (id : ℕ) where
  -- a new pass
  pub begins : IsSound makes first id nobody
  begins = record { own = refl; legal = ∣ (first, refl) ∣₁; away = refl }

  -- no call
  pub rests : (v : View S E) → IsSound makes first id v → Goes makes first id v [] v
  rests v sound = record { seen = ([], sym (append-nil v.seen)); mine = sym (append-nil v.mine); sound = sound }

  -- one call
  pub goes_on : (v : View S E) (es : List E) (w : View S E) → Extends makes first id v es w → Goes makes first id v es w
  goes_on v es w x = record { seen = (x.between ++ all_told id es, x.seen ∙ append_assoc v.seen x.between (all_told id es)); mine = x.mine; sound = x.sound }

  -- some calls, and then some more
  pub goes_both : (v w u : View S E) (es fs : List E) → Goes makes first id v es w → Goes makes first id w fs u → Goes makes first id v (es ++ fs) u
  goes_both v w u es fs x y = record {
    seen = (x.seen.0 ++ y.seen.0, y.seen.1 ∙ ap (λ l. l ++ y.seen.0) x.seen.1 ∙ append_assoc v.seen x.seen.0 y.seen.0);
    mine = y.mine ∙ ap (λ l. l ++ fs) x.mine ∙ append_assoc v.mine es fs;
    sound = y.sound;
  }
