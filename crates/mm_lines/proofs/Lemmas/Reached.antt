-- What was read, answered and written so far, and how that ends.
use mir.Val.{bool_byte}
use Rattle.std.proofs.Common.{◌≡◌, ◌∙◌, sym, ap, refl, subst, ℕ, ◌+◌, ◌-◌, ◌≤◌, ◌<◌, Bool, true, false, List, [], ◌∷◌, ◌++◌, length, take, drop, Option, Result, Ok, Err, append-nil, take-append-drop, length-append, length-take, length-drop, arith}
use Rattle.std.proofs.KnownBytes.{Consumes-trans, Consumes-nil, Consumes-kept}
use Rattle.std.specs.Bool.{if◌then◌else◌}
use Rattle.std.specs.Io.KnownBytes.{Appends, Consumes, Keeps}
use Rattle.std.specs.List.{position_or_len, before_first}
use Rattle.std.specs.Result.{IsErrAnd}
use Rattle.std.proofs.Math.Seq.{take-append-add}
use Rattle.std.proofs.lemmas.List.{take_all}
use Rattle.std.proofs.lemmas.Result.{err_from_is_err_and}
use Rattle.mm_lines.specs.Cut.{is}
use Rattle.mm_lines.specs.declared.fault.Fault.{Fault}
use Rattle.mm_lines.specs.declared.fault.Fault.TheVariants.{Read, Write, TooLong}
use Rattle.mm_lines.specs.declared.input.Limits.{Limits}
use Rattle.mm_lines.specs.Input.{InputState, Reads, unread, without_front}
use Rattle.mm_lines.specs.Lines.{cut, lines_of, whole_lines, whole_parts, IsOpen}
use Rattle.mm_lines.specs.Output.{Writes}
use Rattle.mm_lines.specs.Text.{AreAlike, Ends, Text}
use Rattle.mm_lines.proofs.Lemmas.Leads.{Leads, leads_none, leads_then, leads_more, leads_line, leads_short}
use Rattle.mm_lines.proofs.Lemmas.Lines.{open_part, parts-open}
use Rattle.mm_lines.proofs.Lemmas.Text.{text_none, text_front, text_weaker}

-- from `start` the lines at the front of the bytes that were read within the limit are answered by these replies, to `state`, and the rest is held
pub record Reached {S : Type 0} (answers : S → List ℕ → List ℕ → ℕ → S → Type 0) (limits : Limits) (start : S) (reader_before reader_after : Option (List ℕ)) (input : InputState)
    (replies : List ℕ) (malformed : ℕ) (state : S) : Type 0 where
  pub read : List ℕ
  pub consumed : Consumes reader_before reader_after read
  pub leads : Leads answers start (take limits.input read) replies malformed state input.held
  pub counted : input.taken ≡ length read
  pub same_limits : input.limits ≡ limits
  pub one_past : input.taken ≤ limits.input + 1

-- a run that ended so
pub record Served {S : Type 0} (answers : S → List ℕ → List ℕ → ℕ → S → Type 0) (limits : Limits) (start : S) (reader_before reader_after writer_before writer_after : Option (List ℕ))
    (result : Result ℕ Fault) (last : S) : Type 0 where
  pub read : List ℕ
  pub written : List ℕ
  pub consumed : Consumes reader_before reader_after read
  pub appended : Appends writer_before writer_after written
  pub ends : Ends answers limits.input start result read written last

module _ {S : Type 0} {answers : S → List ℕ → List ℕ → ℕ → S → Type 0} {limits : Limits} {start last : S} {rb ra wb wa : Option (List ℕ)} where
  -- the same in the words of `serve`
  pub told : {result : Result ℕ Fault} → Served answers limits start rb ra wb wa result last
      → (read : List ℕ) × (written : List ℕ) × Consumes rb ra read × Appends wb wa written × Ends answers limits.input start result read written last
  told s = (s.read, s.written, s.consumed, s.appended, s.ends)

  -- a fault that a `?` passes on
  pub told_fault : (result : Result ℕ Fault) {fault said : Fault} → Served answers limits start rb ra wb wa (Err fault) last → said ≡ fault → IsErrAnd result (λ f. f ≡ said)
      → (read : List ℕ) × (written : List ℕ) × Consumes rb ra read × Appends wb wa written × Ends answers limits.input start result read written last
  told_fault result s same exit =
      let e = err_from_is_err_and result exit in
      let P : Result ℕ Fault → Type 0 = λ r. Served answers limits start rb ra wb wa r last in
      told (subst P (sym (e.1 ∙ ap Err (e.2 ∙ same))) s)

-- nothing is read yet
pub reached_first : {S : Type 0} (answers : S → List ℕ → List ℕ → ℕ → S → Type 0) (limits : Limits) (start : S) (rb : Option (List ℕ)) → Reached answers limits start rb rb (unread limits) [] 0 start
reached_first answers limits start rb = record {
  read = [];
  consumed = Consumes-nil rb;
  leads = let P : List ℕ → Type 0 = λ l. Leads answers start l [] 0 start [] in subst P (sym (take_all limits.input [] (omega arith))) (leads_none start []);
  counted = refl;
  same_limits = refl;
  one_past = omega arith;
}

-- ---- lines

-- the first line ends within the bytes
pub line_within : {held rest line : List ℕ} → held ≡ rest → position_or_len (is 0x0a) held < length held → line ≡ before_first (is 0x0a) held → length line < length rest
line_within {held = held} is_held some is_line = omega (arith, ap length is_held, ap length is_line, length-take (position_or_len (is 0x0a) held) held)

-- what a `bool` counts as a number
pub counts : (b : Bool) (one n : ℕ) → one ≡ (if b then 1 else 0) → n ≡ bool_byte b → (n ≡ one) × (n ≤ 1)
counts true one n h k = (k ∙ sym h, omega (arith, k))
counts false one n h k = (k ∙ sym h, omega (arith, k))

module _ {S : Type 0} {answers : S → List ℕ → List ℕ → ℕ → S → Type 0} {limits : Limits} {start state : S} {rb ra : Option (List ℕ)} {input : InputState} {replies : List ℕ} {malformed : ℕ}
    (so_far : Reached answers limits start rb ra input replies malformed state) where
  -- the next line is answered
  pub reached_line : {next : S} {held line reply : List ℕ} {one : ℕ} → held ≡ input.held → position_or_len (is 0x0a) held < length held → line ≡ before_first (is 0x0a) held
      → answers state line reply one next → (total : ℕ) → total ≡ malformed + one → Reached answers limits start rb ra (without_front input (length line + 1)) (replies ++ reply) total next
  reached_line {next = next} {line = line} {reply = reply} {one = one} is_held some is_line answer total counted =
      let read : List ℕ = take limits.input so_far.read in
      let more : position_or_len (is 0x0a) input.held < length input.held = rw is_held at some in
      let first : line ≡ before_first (is 0x0a) input.held = rw is_held at is_line in
      let at : position_or_len (is 0x0a) input.held ≡ length line = omega (arith, ap length first, length-take (position_or_len (is 0x0a) input.held) input.held) in
      let A : List ℕ → Type 0 = λ l. answers state l reply one next in
      let L : ℕ → Type 0 = λ k. Leads answers start read (replies ++ reply) (malformed + one) next (drop (k + 1) input.held) in
      let M : ℕ → Type 0 = λ m. Leads answers start read (replies ++ reply) m next (drop (length line + 1) input.held) in
      record {
        read = so_far.read;
        consumed = so_far.consumed;
        leads = subst M (sym counted) (subst L at (leads_then so_far.leads (leads_line more (subst A first answer))));
        counted = so_far.counted;
        same_limits = so_far.same_limits;
        one_past = so_far.one_past;
      }

  -- ---- the text of what is read

  text_of : (whole all : Bool) (more : List ℕ) → Text answers whole state (cut all (input.held ++ more)) [] 0 state
      → Text answers whole start (cut all (take limits.input so_far.read ++ more)) replies malformed state
  text_of whole all more h =
      let count : malformed + 0 ≡ malformed = omega arith in
      let N : ℕ → Type 0 = λ n. Text answers whole start (cut all (take limits.input so_far.read ++ more)) replies n state in
      let R : List ℕ → Type 0 = λ r. Text answers whole start (cut all (take limits.input so_far.read ++ more)) r (malformed + 0) state in
      subst N count (subst R (append-nil replies) (so_far.leads.text whole all more [] 0 state h))

  -- where an open line is left, all lines whose newline came are answered
  whole_text : IsOpen input.held → Text answers true start (whole_lines (take limits.input so_far.read)) replies malformed state
  whole_text open_line =
      let none : whole_lines (input.held ++ []) ≡ [] = ap whole_lines (append-nil input.held) ∙ ap whole_parts (parts-open input.held open_line) in
      let P : List (List ℕ) → Type 0 = λ ls. Text answers true state ls [] 0 state in
      let Q : List ℕ → Type 0 = λ l. Text answers true start (whole_lines l) replies malformed state in
      subst Q (append-nil (take limits.input so_far.read)) (text_of true false [] (subst P (sym none) (text_none answers true state)))

  -- ---- how it ends

  -- a write failed
  pub served_write : {wb wa : Option (List ℕ)} {lost : List ℕ} → Writes wb wa replies lost → Served answers limits start rb ra wb wa (Err Write) state
  served_write {lost = lost} w =
      let P : List ℕ → Type 0 = λ l. Text answers false start (lines_of l) replies malformed state in
      let text = subst P (take-append-drop limits.input so_far.read) (text_of false true (drop limits.input so_far.read) (text_front answers state _)) in
      let R : List ℕ → Type 0 = λ r. Text answers false start (lines_of so_far.read) r malformed state in
      record {
        read = so_far.read;
        written = w.written;
        consumed = so_far.consumed;
        appended = w.appended;
        ends = (omega (arith, so_far.counted, so_far.one_past), (lost, (malformed, subst R w.whole text)));
      }

  -- a byte past the limit was read
  pub served_too_long : {wb wa : Option (List ℕ)} → Writes wb wa replies [] → IsOpen input.held → limits.input < input.taken → Served answers limits start rb ra wb wa (Err TooLong) state
  served_too_long w open_line past =
      let allowed : List ℕ = take limits.input so_far.read in
      let last = only_byte (drop limits.input so_far.read) (omega (arith, so_far.counted, so_far.one_past, length-drop limits.input so_far.read)) in
      let split : so_far.read ≡ allowed ++ last.0 ∷ [] = sym (take-append-drop limits.input so_far.read) ∙ ap (λ l. allowed ++ l) last.1 in
      let long : length allowed ≡ limits.input = omega (arith, so_far.counted, length-take limits.input so_far.read) in
      let R : List ℕ → Type 0 = λ r. Text answers true start (whole_lines allowed) r malformed state in
      record {
        read = so_far.read;
        written = w.written;
        consumed = so_far.consumed;
        appended = w.appended;
        ends = (allowed, last.0, split, long, (malformed, subst R (w.whole ∙ append-nil w.written) (whole_text open_line)));
      }
    where
      only_byte : (l : List ℕ) → length l ≡ 1 → (b : ℕ) × (l ≡ b ∷ [])
      only_byte [] h = absurd (omega arith)
      only_byte (b ∷ []) h = (b, refl)
      only_byte (b ∷ c ∷ l) h = absurd (omega arith)

  module _ (within : input.taken ≤ limits.input) where
    all_within : take limits.input so_far.read ≡ so_far.read
    all_within = take_all limits.input so_far.read (omega (arith, so_far.counted))

    -- a read failed
    pub served_read : {wb wa : Option (List ℕ)} (after : Option (List ℕ)) → Writes wb wa replies [] → IsOpen input.held → Keeps ra after → Served answers limits start rb after wb wa (Err Read) state
    served_read after w open_line unread =
        let P : List ℕ → Type 0 = λ l. Text answers true start (whole_lines l) replies malformed state in
        let R : List ℕ → Type 0 = λ r. Text answers true start (whole_lines so_far.read) r malformed state in
        record {
          read = so_far.read;
          written = w.written;
          consumed = Consumes-kept _ _ _ _ so_far.consumed unread;
          appended = w.appended;
          ends = (omega (arith, so_far.counted), (malformed, subst R (w.whole ∙ append-nil w.written) (subst P all_within (whole_text open_line))));
        }

    -- what is left is answered
    text_all : {held : List ℕ} → held ≡ input.held → (next : S) (reply : List ℕ) (one : ℕ) → Text answers true state (lines_of held) reply one next
        → Text answers true start (lines_of so_far.read) (replies ++ reply) (malformed + one) next
    text_all is_held next reply one answer =
        let P : List ℕ → Type 0 = λ l. Text answers true state (lines_of l) reply one next in
        let Q : List ℕ → Type 0 = λ l. Text answers true start (lines_of l) (replies ++ reply) (malformed + one) next in
        subst Q (append-nil _ ∙ all_within) (so_far.leads.text true true [] reply one next (subst P (is_held ∙ sym (append-nil input.held)) answer))

    pub served_lost : {wb wa : Option (List ℕ)} {held lost : List ℕ} → held ≡ input.held → (next : S) (reply : List ℕ) (one : ℕ) → Text answers true state (lines_of held) reply one next
        → Writes wb wa (replies ++ reply) lost → Served answers limits start rb ra wb wa (Err Write) next
    served_lost {lost = lost} is_held next reply one answer w =
        let R : List ℕ → Type 0 = λ r. Text answers true start (lines_of so_far.read) r (malformed + one) next in
        record {
          read = so_far.read;
          written = w.written;
          consumed = so_far.consumed;
          appended = w.appended;
          ends = (omega (arith, so_far.counted, so_far.one_past), (lost, (malformed + one, text_weaker answers _ _ _ _ _ (subst R w.whole (text_all is_held next reply one answer)))));
        }

    pub served_ok : {wb wa : Option (List ℕ)} {held : List ℕ} → held ≡ input.held → (next : S) (reply : List ℕ) (one : ℕ) → Text answers true state (lines_of held) reply one next
        → Writes wb wa (replies ++ reply) [] → (total : ℕ) → total ≡ malformed + one → Served answers limits start rb ra wb wa (Ok total) next
    served_ok is_held next reply one answer w total counted =
        let R : List ℕ → Type 0 = λ r. Text answers true start (lines_of so_far.read) r (malformed + one) next in
        let N : ℕ → Type 0 = λ n. Text answers true start (lines_of so_far.read) w.written n next in
        record {
          read = so_far.read;
          written = w.written;
          consumed = so_far.consumed;
          appended = w.appended;
          ends = (omega (arith, so_far.counted), subst N (sym counted) (subst R (w.whole ∙ append-nil w.written) (text_all is_held next reply one answer)));
        }

    -- a piece came; what is past the limit is not held, and an open line that is too long is cut short
    module _ (open_line : IsOpen input.held) (alike : AreAlike answers limits.line) {after : Option (List ℕ)} {new : InputState} {some : Bool} (r : Reads ra after input new some) where
      held_is : take (limits.line + 1) input.held ++ take (limits.input - input.taken) r.piece ≡ new.held
      held_is = sym (rw so_far.same_limits at r.held)

      pub reached_read : Reached answers limits start rb after new replies malformed state
      reached_read =
          let piece : List ℕ = take (limits.input - input.taken) r.piece in
          let left : length so_far.read + (limits.input - input.taken) ≡ limits.input = omega (arith, so_far.counted, within) in
          let seen : take limits.input so_far.read ++ piece ≡ take limits.input (so_far.read ++ r.piece) =
          ap (λ l. l ++ piece) all_within ∙ (sym (take-append-add so_far.read r.piece (limits.input - input.taken)) ∙ ap (λ n. take n (so_far.read ++ r.piece)) left) in
          let B : List ℕ → Type 0 = λ l. Leads answers start l replies malformed state new.held in
          let H : List ℕ → Type 0 = λ l. Leads answers start (take limits.input so_far.read ++ piece) replies malformed state l in
          record {
            read = so_far.read ++ r.piece;
            consumed = Consumes-trans _ _ _ _ _ so_far.consumed r.consumed;
            leads = subst B seen (subst H held_is (leads_more piece (leads_short alike so_far.leads open_line)));
            counted = omega (arith, r.taken, so_far.counted, length-append so_far.read r.piece);
            same_limits = r.limits ∙ so_far.same_limits;
            one_past = omega (arith, r.one_past, ap (λ l. l.input) (r.limits ∙ so_far.same_limits));
          }

      -- so few lines of those that are held can be malformed
      pub few_read : malformed + length input.held ≤ input.taken → malformed + length new.held ≤ new.taken
      few_read few = omega (arith, few, r.taken, simp (length-append, length-take) at (ap length held_is))

      -- the reader is at its end
      pub at_end : some ≡ false → (new.taken ≤ limits.input) × IsOpen new.held
      at_end no_more =
          let none = end_of r no_more in
          let nothing : take (limits.input - input.taken) r.piece ≡ [] = ap (take (limits.input - input.taken)) none ∙ take_all (limits.input - input.taken) [] (omega arith) in
          let front : List ℕ = take (limits.line + 1) input.held in
          let is_front : front ≡ new.held = sym (append-nil front) ∙ (ap (λ l. front ++ l) (sym nothing) ∙ held_is) in
          let open_front = open_part front (drop (limits.line + 1) input.held) (subst IsOpen (sym (take-append-drop (limits.line + 1) input.held)) open_line) in
          (omega (arith, r.taken, ap length none, within), subst IsOpen is_front open_front)
        where
          end_of : {some : Bool} (r : Reads ra after input new some) → some ≡ false → r.piece ≡ []
          end_of {some = false} r e = r.end.0
          end_of {some = true} r e = absurd (cc)
