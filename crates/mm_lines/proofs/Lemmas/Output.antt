-- What is written, kept or lost.
use Rattle.std.proofs.Common.{◌≡◌, ◌∙◌, sym, ap, refl, subst, ℕ, List, [], ◌++◌, take, drop, Option, append_assoc, take-append-drop}
use Rattle.std.proofs.KnownBytes.{Appends-trans, Appends-nil}
use Rattle.std.specs.Io.KnownBytes.{Appends}
use Rattle.mm_lines.specs.Output.{Writes}

-- nothing is written, and all is left
pub writes_none : (at : Option (List ℕ)) (bytes : List ℕ) → Writes at at bytes bytes
writes_none at bytes = record { written = []; appended = Appends-nil at; whole = refl }

-- the front of what is left is written
pub writes_more : (before mid after : Option (List ℕ)) (bytes rest : List ℕ) (n : ℕ) → Writes before mid bytes rest → Appends mid after (take n rest) → Writes before after bytes (drop n rest)
writes_more before mid after bytes rest n w front = record {
  written = w.written ++ take n rest;
  appended = Appends-trans before mid after w.written (take n rest) w.appended front;
  whole = w.whole ∙ (ap (λ l. w.written ++ l) (sym (take-append-drop n rest)) ∙ sym (append_assoc w.written (take n rest) (drop n rest)));
}

-- what is kept is written, or lost
pub writes_then : (before mid after : Option (List ℕ)) (bytes kept lost : List ℕ) → Writes before mid bytes kept → Writes mid after kept lost → Writes before after bytes lost
writes_then before mid after bytes kept lost first second = record {
  written = first.written ++ second.written;
  appended = Appends-trans before mid after first.written second.written first.appended second.appended;
  whole = first.whole ∙ (ap (λ l. first.written ++ l) second.whole ∙ sym (append_assoc first.written second.written lost));
}

-- what is lost of the one was kept for the other
pub writes_on : {before mid after : Option (List ℕ)} {bytes kept held lost : List ℕ} → Writes before mid bytes kept → kept ≡ held → Writes mid after held lost → Writes before after bytes lost
writes_on {before = before} {mid = mid} {bytes = bytes} first same second = let P : List ℕ → Type 0 = λ l. Writes before mid bytes l in writes_then _ _ _ _ _ _ (subst P same first) second

-- a text is added to what is kept
pub writes_added : (before after : Option (List ℕ)) (bytes kept text : List ℕ) → Writes before after bytes kept → Writes before after (bytes ++ text) (kept ++ text)
writes_added before after bytes kept text w = record { written = w.written; appended = w.appended; whole = ap (λ l. l ++ text) w.whole ∙ append_assoc w.written kept text }

-- a reply is added to what was kept, and that is written, kept or lost
pub writes_reply : {before mid after : Option (List ℕ)} {bytes kept held : List ℕ} (reply : List ℕ) {lost : List ℕ} → Writes before mid bytes kept → kept ≡ held → Writes mid after (held ++ reply) lost
    → Writes before after (bytes ++ reply) lost
writes_reply reply first same second = writes_on (writes_added _ _ _ _ reply first) (ap (λ l. l ++ reply) same) second
