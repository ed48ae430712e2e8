-- What is written piece by piece.
use Rattle.std.proofs.Common.{◌≡◌, ◌∙◌, sym, ap, subst, ℕ, ◌+◌, ◌<◌, ◌≤◌, List, [], ◌∷◌, ◌++◌, length, drop, get_or, Option, append_assoc, append-nil, codes}
use Rattle.std.proofs.lemmas.List.{at_drop_all, at_drop_more}
use Rattle.mm_lines.specs.Output.{Writes}
use Rattle.mm_service.specs.Reply.{line_text}
use Rattle.mm_lines.proofs.Lemmas.Output.{writes_none, writes_then, writes_added}

-- what is kept is written, or lost, before the rest is printed
pub writes_kept : (before mid after : Option (List ℕ)) (bytes kept rest lost : List ℕ) → Writes before mid bytes (kept ++ rest) → Writes mid after kept lost → Writes before after bytes (lost ++ rest)
writes_kept before mid after bytes kept rest lost first second = writes_then before mid after bytes (kept ++ rest) (lost ++ rest) first (writes_added mid after kept lost rest second)

-- a piece of the rest is printed
pub writes_piece : (before after : Option (List ℕ)) (bytes kept piece rest now : List ℕ) → Writes before after bytes (kept ++ (piece ++ rest)) → now ≡ kept ++ piece → Writes before after bytes (now ++ rest)
writes_piece before after bytes kept piece rest now w is =
    let same : kept ++ (piece ++ rest) ≡ now ++ rest = sym (append_assoc kept piece rest) ∙ ap (λ l. l ++ rest) (sym is) in
    subst (Writes before after bytes) same w

-- a text that is printed is kept
pub writes_printed : (at : Option (List ℕ)) (old text new : List ℕ) → new ≡ old ++ text → Writes at at (old ++ text) new
writes_printed at old text new is = subst (Writes at at (old ++ text)) (sym is) (writes_none at (old ++ text))

-- a text is printed, and then another one is written
pub writes_after : (before after : Option (List ℕ)) (old first mid second lost : List ℕ) → mid ≡ old ++ first → Writes before after (mid ++ second) lost → Writes before after (old ++ (first ++ second)) lost
writes_after before after old first mid second lost is w =
    let same : mid ++ second ≡ old ++ (first ++ second) = ap (λ l. l ++ second) is ∙ append_assoc old first second in
    let P : List ℕ → Type 0 = λ l. Writes before after l lost in
    subst P same w

-- the next of a list of lines is printed, where there was room for it
pub writes_next : {X : Type 0} (text : List X → List ℕ) (line : X → List ℕ) → ((x : X) (xs : List X) → text (x ∷ xs) ≡ line x ++ text xs)
    → (before mid after : Option (List ℕ)) (bytes kept room now : List ℕ) (xs : List X) (i : ℕ) (d : X) → i < length xs → Writes before mid bytes (kept ++ text (drop i xs))
    → (lost : List ℕ) × Writes mid after kept lost × (lost ≡ room) → now ≡ room ++ line (get_or xs i d) → Writes before after bytes (now ++ text (drop (i + 1) xs))
writes_next text line first before mid after bytes kept room now xs i d h so_far (lost, w, is) added =
    let next : text (drop i xs) ≡ line (get_or xs i d) ++ text (drop (i + 1) xs) = at_drop_more text xs i d h ∙ first (get_or xs i d) (drop (i + 1) xs) in
    let in_room = subst (Writes mid after kept) is w in
    let all = writes_kept before mid after bytes kept (text (drop i xs)) room so_far in_room in
    let P : List ℕ → Type 0 = λ l. Writes before after bytes (room ++ l) in
    writes_piece before after bytes room (line (get_or xs i d)) (text (drop (i + 1) xs)) now (subst P next all) added

-- the last of a list of lines is printed
pub writes_whole : {X : Type 0} (text : List X → List ℕ) → text [] ≡ []
    → (before after : Option (List ℕ)) (bytes kept : List ℕ) (xs : List X) (i : ℕ) → length xs ≤ i → Writes before after bytes (kept ++ text (drop i xs)) → Writes before after bytes kept
writes_whole text none before after bytes kept xs i h w =
    let same : kept ++ text (drop i xs) ≡ kept = ap (λ l. kept ++ l) (at_drop_all text xs i h ∙ none) ∙ append-nil kept in
    subst (Writes before after bytes) same w

-- the head of a line was printed and its body is written, kept or lost: then its end follows
pub writes_line : (before after : Option (List ℕ)) (old head body now lost : List ℕ) → now ≡ old ++ head → Writes before after (now ++ body) lost → Writes before after (old ++ line_text (head ++ body)) (lost ++ codes "\n")
writes_line before after old head body now lost is w =
    let end = writes_added before after (now ++ body) lost (codes "\n") w in
    let same : (now ++ body) ++ codes "\n" ≡ old ++ line_text (head ++ body) =
    ap (λ l. l ++ codes "\n") (ap (λ l. l ++ body) is ∙ append_assoc old head body) ∙ append_assoc old (head ++ body) (codes "\n") in
    let P : List ℕ → Type 0 = λ l. Writes before after l (lost ++ codes "\n") in
    subst P same end

-- the head of a line was printed, and its body is written with the end of the line
pub writes_ended : (before after : Option (List ℕ)) (old head body now lost : List ℕ) → now ≡ old ++ head → Writes before after (now ++ line_text body) lost → Writes before after (old ++ line_text (head ++ body)) lost
writes_ended before after old head body now lost is w =
    let P : List ℕ → Type 0 = λ l. Writes before after (old ++ l) lost in
    subst P (sym (append_assoc head body (codes "\n"))) (writes_after before after old head now (line_text body) lost is w)

-- a text is written, kept or lost: then the rest of its line follows
pub writes_tail : (before after : Option (List ℕ)) (old text more lost : List ℕ) → Writes before after (old ++ text) lost → Writes before after (old ++ line_text (text ++ more)) (lost ++ line_text more)
writes_tail before after old text more lost w =
    let same : (old ++ text) ++ line_text more ≡ old ++ line_text (text ++ more) =
    append_assoc old text (line_text more) ∙ ap (λ l. old ++ l) (sym (append_assoc text more (codes "\n"))) in
    let P : List ℕ → Type 0 = λ l. Writes before after l (lost ++ line_text more) in
    subst P same (writes_added before after (old ++ text) lost (line_text more) w)
