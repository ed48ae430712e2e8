-- A text is made line by line.
use Rattle.std.proofs.Common.{◌≡◌, ◌∙◌, sym, ap, refl, subst, ℕ, ◌+◌, ◌<◌, inl, inr, true, false, Bool, List, [], ◌∷◌, ◌++◌, length, append_assoc, arith}
use Rattle.mm_lines.specs.Text.{AreAlike, Text}

module _ {S : Type 0} (answers : S → List ℕ → List ℕ → ℕ → S → Type 0) where
  pub text_none : (whole : Bool) (s : S) → Text answers whole s [] [] 0 s
  text_none true s = (refl, refl, refl)
  text_none false s = (refl, refl, refl)

  pub text_next : (whole : Bool) (s t u : S) (line reply : List ℕ) (one : ℕ) (lines : List (List ℕ)) (out : List ℕ) (malformed : ℕ)
      → answers s line reply one t → Text answers whole t lines out malformed u → Text answers whole s (line ∷ lines) (reply ++ out) (one + malformed) u
  text_next true s t u line reply one lines out malformed answer text = (t, reply, out, one, malformed, answer, text, refl, refl)
  text_next false s t u line reply one lines out malformed answer text = inr (t, reply, out, one, malformed, answer, text, refl, refl)

  -- no line is answered
  pub text_front : (s : S) (lines : List (List ℕ)) → Text answers false s lines [] 0 s
  text_front s [] = (refl, refl, refl)
  text_front s (line ∷ lines) = inl (refl, refl, refl)

  -- if all lines are answered so, some at the front are
  pub text_weaker : (s last : S) (lines : List (List ℕ)) (out : List ℕ) (malformed : ℕ) → Text answers true s lines out malformed last → Text answers false s lines out malformed last
  text_weaker s last [] out malformed text = text
  text_weaker s last (line ∷ lines) out malformed (t, reply, rest, one, more, answer, text, both, count) =
      inr (t, reply, rest, one, more, answer, text_weaker t last lines rest more text, both, count)

  -- the lines of a run and of one that goes on from the state that it left are answered as those of one run are
  pub text_then : (whole : Bool) (s mid last : S) (first second : List (List ℕ)) (out more : List ℕ) (malformed others : ℕ)
      → Text answers true s first out malformed mid → Text answers whole mid second more others last → Text answers whole s (first ++ second) (out ++ more) (malformed + others) last
  text_then whole s mid last [] second out more malformed others (none, zero, same) text =
      let M : S → Type 0 = λ t. Text answers whole t second more others last in
      let O : List ℕ → Type 0 = λ o. Text answers whole s second (o ++ more) others last in
      let N : ℕ → Type 0 = λ k. Text answers whole s second (out ++ more) k last in
      let count : others ≡ malformed + others = omega (arith, zero) in
      subst N count (subst O (sym none) (subst M same text))
  text_then whole s mid last (line ∷ lines) second out more malformed others (t, reply, rest, one, count, answer, later, both, all) text =
      let all_lines = text_next whole s t last line reply one (lines ++ second) (rest ++ more) (count + others) answer (text_then whole t mid last lines second rest more count others later text) in
      let replies : reply ++ (rest ++ more) ≡ out ++ more = sym (ap (λ o. o ++ more) both ∙ append_assoc reply rest more) in
      let counted : one + (count + others) ≡ malformed + others = omega (arith, all) in
      let O : List ℕ → Type 0 = λ o. Text answers whole s (line ∷ (lines ++ second)) o (malformed + others) last in
      let N : ℕ → Type 0 = λ k. Text answers whole s (line ∷ (lines ++ second)) (reply ++ (rest ++ more)) k last in
      subst O replies (subst N counted all_lines)

-- one line that is too long is as good as another
module _ {S : Type 0} {answers : S → List ℕ → List ℕ → ℕ → S → Type 0} {longest : ℕ} (alike : AreAlike answers longest) where
  pub text_long : (whole : Bool) (s last : S) (a b : List ℕ) (lines : List (List ℕ)) (out : List ℕ) (malformed : ℕ) → longest < length a → longest < length b
      → Text answers whole s (a ∷ lines) out malformed last → Text answers whole s (b ∷ lines) out malformed last
  text_long true s last a b lines out malformed long_a long_b (t, reply, rest, one, more, answer, text, both, count) =
      (t, reply, rest, one, more, alike s t a b reply one long_a long_b answer, text, both, count)
  text_long false s last a b lines out malformed long_a long_b (inl none) = inl none
  text_long false s last a b lines out malformed long_a long_b (inr (t, reply, rest, one, more, answer, text, both, count)) =
      inr (t, reply, rest, one, more, alike s t a b reply one long_a long_b answer, text, both, count)
