-- How far the lines are answered.
use Rattle.std.proofs.Common.{◌≡◌, sym, refl, subst, ℕ, ◌+◌, ◌<◌, List, [], ◌∷◌, ◌++◌, length, Bool, true, append_assoc, append-nil, take, drop, take-append-drop, length-take, inl, inr, arith}
use Rattle.std.specs.List.{position_or_len, before_first, after_first}
use Rattle.std.proofs.lemmas.Bool.{cases_lt}
use Rattle.std.proofs.lemmas.List.{take_all}
use Rattle.mm_lines.specs.Cut.{is}
use Rattle.mm_lines.specs.Lines.{cut, lines_of, lines_of_parts, IsOpen}
use Rattle.mm_lines.specs.Text.{AreAlike, Text}
use Rattle.mm_lines.proofs.Lemmas.Lines.{cut-line, long_text, parts-open}
use Rattle.mm_lines.proofs.Lemmas.Text.{text_next}

-- from s the lines at the front of the bytes are answered by these replies, to the state t, and the rest is left, whatever follows and whatever state
-- that leads to
pub record Leads {S : Type 0} (answers : S → List ℕ → List ℕ → ℕ → S → Type 0) (s : S) (bytes replies : List ℕ) (malformed : ℕ) (t : S) (rest : List ℕ) : Type 0 where
  pub text : (whole all : Bool) (more out : List ℕ) (others : ℕ) (u : S) → Text answers whole t (cut all (rest ++ more)) out others u
      → Text answers whole s (cut all (bytes ++ more)) (replies ++ out) (malformed + others) u

module _ {S : Type 0} {answers : S → List ℕ → List ℕ → ℕ → S → Type 0} where
  -- no line is answered
  pub leads_none : (s : S) (bytes : List ℕ) → Leads answers s bytes [] 0 s bytes
  leads_none s bytes = record {
    text = λ whole all more out others u h.
        let same : others ≡ 0 + others = omega arith in
        let P : ℕ → Type 0 = λ n. Text answers whole s (cut all (bytes ++ more)) out n u in
        subst P same h;
  }

  -- some lines and then others
  pub leads_then : {s t u : S} {a b c r q : List ℕ} {m n : ℕ} → Leads answers s a r m t b → Leads answers t b q n u c → Leads answers s a (r ++ q) (m + n) u c
  leads_then {s = s} {a = a} {r = r} {q = q} {m = m} {n = n} first second = record {
    text = λ whole all more out others v h.
        let both = first.text whole all more (q ++ out) (n + others) v (second.text whole all more out others v h) in
        let count : m + (n + others) ≡ (m + n) + others = omega arith in
        let P : List ℕ → Type 0 = λ o. Text answers whole s (cut all (a ++ more)) o ((m + n) + others) v in
        let Q : ℕ → Type 0 = λ k. Text answers whole s (cut all (a ++ more)) (r ++ (q ++ out)) k v in
        subst P (sym (append_assoc r q out)) (subst Q count both);
  }

  -- more bytes come
  pub leads_more : {s t : S} {a b r : List ℕ} {m : ℕ} (piece : List ℕ) → Leads answers s a r m t b → Leads answers s (a ++ piece) r m t (b ++ piece)
  leads_more {s = s} {t = t} {a = a} {b = b} {r = r} {m = m} piece leads = record {
    text = λ whole all more out others u h.
        let P : List ℕ → Type 0 = λ l. Text answers whole s (cut all l) (r ++ out) (m + others) u in
        let Q : List ℕ → Type 0 = λ l. Text answers whole t (cut all l) out others u in
        subst P (sym (append_assoc a piece more)) (leads.text whole all (piece ++ more) out others u (subst Q (append_assoc b piece more) h));
  }

  -- the first line
  pub leads_line : {s t : S} {bytes reply : List ℕ} {one : ℕ} → position_or_len (is 0x0a) bytes < length bytes
      → answers s (before_first (is 0x0a) bytes) reply one t → Leads answers s bytes reply one t (after_first (is 0x0a) bytes)
  leads_line {s = s} {t = t} {bytes = bytes} {reply = reply} {one = one} some answer = record {
    text = λ whole all more out others u rest.
        let P : List (List ℕ) → Type 0 = λ ls. Text answers whole s ls (reply ++ out) (one + others) u in
        subst P (sym (cut-line all bytes more some)) (text_next answers whole s t u _ reply one _ out others answer rest);
  }

  -- a line that is too long is cut short
  pub leads_short : {longest : ℕ} → AreAlike answers longest → {s t : S} {a rest r : List ℕ} {m : ℕ} → Leads answers s a r m t rest → IsOpen rest → Leads answers s a r m t (take (longest + 1) rest)
  leads_short {longest = longest} alike {t = t} {rest = rest} leads open_rest = record {
    text = λ whole all more out others u h.
        let front = take (longest + 1) rest in
        let back = drop (longest + 1) rest in
        let split : front ++ back ≡ rest = take-append-drop (longest + 1) rest in
        let P : List ℕ → Type 0 = λ l. Text answers whole t (cut all (l ++ more)) out others u in
        leads.text whole all more out others u (elim (cases_lt longest (length rest)) [
          | inl long ↦ subst P split (long_text alike whole all t u front back more out others (subst IsOpen (sym split) open_rest) (omega (arith, length-take (longest + 1) rest)) h)
          | inr short ↦ subst P (take_all (longest + 1) rest (omega arith)) h
        ]);
  }

-- a line that no newline ends
pub text_open : {S : Type 0} (answers : S → List ℕ → List ℕ → ℕ → S → Type 0) (s t : S) (line reply : List ℕ) (one : ℕ) → IsOpen line → 0 < length line → answers s line reply one t
    → Text answers true s (lines_of line) reply one t
text_open answers s t [] reply one is_open some answer = absurd (omega arith)
text_open answers s t (b ∷ bs) reply one is_open some answer =
    let P : List (List ℕ) → Type 0 = λ parts. Text answers true s (lines_of_parts parts) reply one t in
    subst P (sym (parts-open (b ∷ bs) is_open)) (t, reply, [], one, 0, answer, (refl, refl, refl), sym (append-nil reply), omega arith)
