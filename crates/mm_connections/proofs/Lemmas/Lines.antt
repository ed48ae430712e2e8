-- Lines to a connection, as they are printed and written.
use Rattle.std.proofs.Common.{◌≡◌, ◌∙◌, sym, ap, subst, ℕ, List, ◌++◌, Option, Result, Ok, Err, MatchResult, OnOk, append_assoc, codes, decimal}
use Rattle.mm_lines.specs.declared.fault.Fault.{Fault}
use Rattle.mm_lines.specs.Output.{Writes}
use Rattle.mm_lines.proofs.Lemmas.Output.{writes_then, writes_added, writes_reply}
use Rattle.mm_service.proofs.Lemmas.Pieces.{writes_after}
use Rattle.mm_connections.specs.Hub.{to}

-- a text is printed in two parts
pub printed_both : (old first one second two : List ℕ) → one ≡ old ++ first → two ≡ one ++ second → two ≡ old ++ (first ++ second)
printed_both old first one second two is_one is_two = is_two ∙ ap (λ l. l ++ second) is_one ∙ append_assoc old first second

-- what is told of one more is written after what was
pub writes_on : (before mid after : Option (List ℕ)) (old told kept one lost : List ℕ) → Writes before mid (old ++ told) kept → Writes mid after (kept ++ one) lost → Writes before after (old ++ (told ++ one)) lost
writes_on before mid after old told kept one lost first second =
    let all : Writes before after ((old ++ told) ++ one) lost = writes_then before mid after ((old ++ told) ++ one) (kept ++ one) lost (writes_added before mid (old ++ told) kept one first) second in
    subst (λ l. Writes before after l lost) (append_assoc old told one) all

-- and a last line is kept after it
pub writes_last : (before mid after : Option (List ℕ)) (old told kept room last now : List ℕ) → Writes before mid (old ++ told) kept → Writes mid after kept room → now ≡ room ++ last → Writes before after (old ++ (told ++ last)) now
writes_last before mid after old told kept room last now first second is =
    let all : Writes before after ((old ++ told) ++ last) (room ++ last) = writes_added before after (old ++ told) room last (writes_then before mid after (old ++ told) kept room first second) in
    subst (λ l. Writes before after (old ++ (told ++ last)) l) (sym is) (subst (λ l. Writes before after l (room ++ last)) (append_assoc old told last) all)

-- what was lost stays so, and what follows is lost too
pub lost_on : (before after : Option (List ℕ)) (old told lost one : List ℕ) → Writes before after (old ++ told) lost → Writes before after (old ++ (told ++ one)) (lost ++ one)
lost_on before after old told lost one first =
    subst (λ l. Writes before after l (lost ++ one)) (append_assoc old told one) (writes_added before after (old ++ told) lost one first)

-- a reply is written after the number of its connection
pub writes_to : (before after : Option (List ℕ)) (c : ℕ) (old now reply lost : List ℕ) → now ≡ old ++ (decimal c ++ codes " ") → Writes before after (now ++ reply) lost → Writes before after (old ++ to c reply) lost
writes_to before after c old now reply lost is w = writes_after before after old (decimal c ++ codes " ") now reply lost is w

-- and then what the request caused
pub writes_caused : (before mid after : Option (List ℕ)) (old text caused kept held lost : List ℕ) → Writes before mid (old ++ text) kept → kept ≡ held → Writes mid after (held ++ caused) lost → Writes before after (old ++ (text ++ caused)) lost
writes_caused before mid after old text caused kept held lost first same second =
    subst (λ l. Writes before after l lost) (append_assoc old text caused) (writes_reply caused first same second)

-- what is told of one more is written if what was told before is, and else it is lost with that
pub writes_told : (before mid after : Option (List ℕ)) (old told lost kept one now : List ℕ) (so_far result : Result (Unit {0}) Fault) → Writes before mid (old ++ told) lost → OnOk so_far (lost ≡ kept)
    → MatchResult so_far (λ _. (l : List ℕ) × Writes mid after (kept ++ one) l × OnOk result (l ≡ now)) (λ fault. (after ≡ mid) × (result ≡ Err fault))
    → (l : List ℕ) × Writes before after (old ++ (told ++ one)) l × OnOk result (l ≡ now)
writes_told before mid after old told lost kept one now (Ok done) result first same (l, second, is) =
    (l, writes_on before mid after old told kept one l (subst (λ xs. Writes before mid (old ++ told) xs) same first) second, is)
writes_told before mid after old told lost kept one now (Err fault) result first same (still, failed) = (
  lost ++ one,
  subst (λ at. Writes before at (old ++ (told ++ one)) (lost ++ one)) (sym still) (lost_on before mid old told lost one first),
  subst (λ (r : Result (Unit {0}) Fault). OnOk r (lost ++ one ≡ now)) (sym failed) tt,
)
