-- Each line has an answer where no table stands or its laws hold, and its answer keeps that, so each text has replies.
use Rattle.std.proofs.Common.{◌∙◌, ap, refl, sym, subst, length, append-nil, append_assoc, length-append, Bool, true, false, MatchBool, ℕ, ◌+◌, ◌≤◌, ◌^◌, ◌⊎◌, inl, inr, List, [], ◌∷◌, ◌++◌, Option, Some, None, Result, Ok, Err, arith}
use Rattle.std.proofs.lemmas.Bool.{cases_lt}
use Rattle.std.specs.Result.{result_ok}
use Rattle.mm_lines.specs.declared.fault.Fault.{Fault}
use Rattle.mm_lines.specs.declared.fault.Fault.TheVariants.{Read, Write, TooLong}
use Rattle.mm_lines.specs.Lines.{lines_of}
use Rattle.mm_lines.specs.Text.{Text}
use Rattle.mm_lines.specs.Text as texts
use Rattle.mm_table.specs.config.Config.{Config}
use Rattle.mm_table.specs.refusal.Refusal.{Refusal}
use Rattle.mm_table.specs.refusal.Refusal.TheVariants.{BadConfig}
use Rattle.mm_table.specs.TableState.{TableState, IsInRange, opening}
use Rattle.mm_table.specs.Laws.{Laws}
use Rattle.mm_table.proofs.States.Wide.{is_wide}
use Rattle.mm_table.proofs.States.Opening.{opening_lawful}
use Rattle.mm_table.proofs.States.EventsKeepLaws.{event_keeps}
use Rattle.mm_table.proofs.States.Sweep.{settles_after}
use Rattle.mm_table.specs.reply.Settled.{Settled}
use Rattle.mm_table.specs.Event as events
use Rattle.mm_table.specs.Event.{Event, Answer, Opens, Gives, Step, Settles, counts_exhausted, begun, acquired, released, finished, transmitted, detected, aborted, given_up, settled, state_of, owner_told}
use Rattle.mm_script.specs.declared.line.Line.{Line}
use Rattle.mm_script.specs.declared.line.Line.TheVariants as kind
use Rattle.mm_script.specs.declared.line.Call.{Call}
use Rattle.mm_script.specs.declared.line.Call.TheVariants as calls
use Rattle.mm_script.specs.declared.line.Header.{Header}
use Rattle.mm_script.specs.declared.reply.Reply.{Reply}
use Rattle.mm_script.specs.declared.reply.Reply.TheVariants as replies_are
use Rattle.mm_script.specs.Reply.{reply_line}
use Rattle.mm_script.specs.Line.{line_of}
use Rattle.mm_script.specs.Script.{Ends, input_limit}
use Rattle.mm_script.specs.Text.{Answers, AnswersLine, Makes, OpensBy, Replies, RepliesWithNone, RepliesWithTable, most_processes, reply_to}

-- no table stands, or its laws hold
abbrev IsLawful : Option TableState → Type 0
IsLawful None = Unit {0}
IsLawful (Some state) = Laws state

both : {A B : Type 0} → A ⊎ (¬ A) → B ⊎ (¬ B) → (A × B) ⊎ (¬ (A × B))
both (inl a) (inl b) = inl (a, b)
both (inl a) (inr b) = inr (λ p. b p.1)
both (inr a) b = inr (λ p. a p.0)

at_most : (m n : ℕ) → (m ≤ n) ⊎ (¬ (m ≤ n))
at_most m n = elim (cases_lt n m) [ inl over ↦ inr (λ h. omega arith) | inr h ↦ inl h ]

-- the numbers of a table are in range or not
in_range : (c : Config) → IsInRange c ⊎ (¬ IsInRange c)
in_range c =
    let tests = both (both (at_most 1 c.processes) (at_most c.processes 65536))
    (both (both (at_most 1 c.resources) (at_most c.resources 65536)) (both (both (at_most 1 c.label_limit) (at_most (c.label_limit + 1) (2 ^ 44))) (at_most 1 c.generation_limit))) in
    elim tests [
      | inl t ↦ inl (record { processes = t.0; resources = t.1.0; label_limit = (t.1.1.0.0, omega (arith, t.1.1.0.1)); generation_limit = t.1.1.1 })
      | inr t ↦ inr (λ h. t (h.processes, (h.resources, ((h.label_limit.0, omega (arith, h.label_limit.1)), h.generation_limit))))
    ]

opens : (c : Config) → (result : Result TableState Refusal) × Opens c result
opens c = elim (in_range c) [
  | inl fits ↦ (Ok (opening c), (fits, refl))
  | inr not_fits ↦ (Err BadConfig, inl (refl, not_fits))
]

-- so does opening by a header
opens_by : (header : Header) (c : Config) → (result : Result TableState Refusal) × OpensBy header c result
opens_by header c = elim (cases_lt (most_processes header) c.processes) [
  | inl over ↦ (Err BadConfig, inl (over, refl))
  | inr within ↦ let o = opens c in (o.0, inr (within, o.1))
]

-- a settle has an answer, by the laws
settles_by : (s : TableState) → Laws s → (full : Bool) → (answer : Result Settled Refusal) × (after : TableState)
    × MatchBool full (Gives (settled s 0) answer after) ((n : ℕ) × Settles s n × Gives (settled s n) answer after)
settles_by s laws true = ((settled s 0).reply, (settled s 0).state, (refl, refl))
settles_by s laws false = let n = settles_after s laws in ((settled s n.0).reply, (settled s n.0).state, (n.0, n.1, (refl, refl)))

settles : (s : TableState) → Laws s → (answer : Result Settled Refusal) × (after : TableState) × Step events.Settle s answer after
settles s laws = settles_by s laws (counts_exhausted s)

replies : (call : Call) (table : Option TableState) → IsLawful table → (reply : Reply) × (next : Option TableState) × Replies call table reply next
replies (calls.Table header c) (Some s) lawful = (replies_are.TableStands, Some s, (refl, refl))
replies calls.Begin (Some s) lawful = (reply_to replies_are.Begun (begun s).reply, Some (begun s).state, ((begun s).reply, (begun s).state, (refl, refl), refl, refl))
replies (calls.Acquire k r) (Some s) lawful = (reply_to replies_are.Acquired (acquired s k r).reply, Some (acquired s k r).state, ((acquired s k r).reply, (acquired s k r).state, (refl, refl), refl, refl))
replies (calls.Release k r) (Some s) lawful = (reply_to replies_are.Released (released s k r).reply, Some (released s k r).state, ((released s k r).reply, (released s k r).state, (refl, refl), refl, refl))
replies (calls.Finish k) (Some s) lawful = (reply_to (λ _. replies_are.Finished) (finished s k).reply, Some (finished s k).state, ((finished s k).reply, (finished s k).state, (refl, refl), refl, refl))
replies (calls.Transmit k) (Some s) lawful = (reply_to replies_are.Transmitted (transmitted s k).reply, Some (transmitted s k).state, ((transmitted s k).reply, (transmitted s k).state, (refl, refl), refl, refl))
replies (calls.Detect k) (Some s) lawful = (reply_to replies_are.Detected (detected s k).reply, Some (detected s k).state, ((detected s k).reply, (detected s k).state, (refl, refl), refl, refl))
replies (calls.Abort k) (Some s) lawful = (reply_to (λ _. replies_are.Aborted) (aborted s k).reply, Some (aborted s k).state, ((aborted s k).reply, (aborted s k).state, (refl, refl), refl, refl))
replies (calls.GiveUp k) (Some s) lawful = (reply_to (λ _. replies_are.Withdrawn) (given_up s k).reply, Some (given_up s k).state, ((given_up s k).reply, (given_up s k).state, (refl, refl), refl, refl))
replies calls.Settle (Some s) lawful = let o = settles s lawful in (reply_to replies_are.Settled o.0, Some o.1, (o.0, o.1, o.2, refl, refl))
replies (calls.State k) (Some s) lawful = (reply_to replies_are.Read (state_of s k), Some s, (refl, refl))
replies (calls.Owner r) (Some s) lawful = (reply_to replies_are.Owned (owner_told s r), Some s, (refl, refl))
replies calls.Totals (Some s) lawful = (replies_are.Counted s.totals, Some s, (refl, refl))
replies (calls.Table header c) None lawful = let o = opens_by header c in (reply_to (λ _. replies_are.Opened) o.0, result_ok o.0, (o.0, o.1, refl, refl))
replies calls.Begin None lawful = (replies_are.NoTable, None, (refl, refl))
replies (calls.Acquire k r) None lawful = (replies_are.NoTable, None, (refl, refl))
replies (calls.Release k r) None lawful = (replies_are.NoTable, None, (refl, refl))
replies (calls.Finish k) None lawful = (replies_are.NoTable, None, (refl, refl))
replies (calls.Transmit k) None lawful = (replies_are.NoTable, None, (refl, refl))
replies (calls.Detect k) None lawful = (replies_are.NoTable, None, (refl, refl))
replies (calls.Abort k) None lawful = (replies_are.NoTable, None, (refl, refl))
replies (calls.GiveUp k) None lawful = (replies_are.NoTable, None, (refl, refl))
replies calls.Settle None lawful = (replies_are.NoTable, None, (refl, refl))
replies (calls.State k) None lawful = (replies_are.NoTable, None, (refl, refl))
replies (calls.Owner r) None lawful = (replies_are.NoTable, None, (refl, refl))
replies calls.Totals None lawful = (replies_are.NoTable, None, (refl, refl))

answers : (line : Line) (table : Option TableState) → IsLawful table → (reply : List ℕ) × (one : ℕ) × (next : Option TableState) × AnswersLine line table reply one next
answers kind.Silent table lawful = ([], 0, table, (refl, refl, refl))
answers kind.Malformed table lawful = (reply_line replies_are.Malformed, 1, table, (refl, refl, refl))
answers (kind.Call call) table lawful = let r = replies call table lawful in (reply_line r.0, 0, r.1, (r.0, r.2, refl, refl))

opens_lawful : (c : Config) (opened : Result TableState Refusal) → Opens c opened → IsLawful (result_ok opened)
opens_lawful c (Ok s) (range, is) = subst Laws (sym is) (opening_lawful c (is_wide c range))
opens_lawful c (Err e) refused = tt

opens_by_lawful : (header : Header) (c : Config) (opened : Result TableState Refusal) → OpensBy header c opened → IsLawful (result_ok opened)
opens_by_lawful header c opened (inl over) = subst (λ o. IsLawful (result_ok o)) (sym over.1) tt
opens_by_lawful header c opened (inr within) = opens_lawful c opened within.1

makes_lawful : (e : Event) (accepted : Answer e → Reply) (s : TableState) (reply : Reply) (new : Option TableState) → Laws s → Makes e accepted s reply new → IsLawful new
makes_lawful e accepted s reply new laws (answer, after, step, said, is) = subst IsLawful (sym is) (event_keeps e s after answer step laws).laws

with_table_lawful : (call : Call) (s : TableState) (reply : Reply) (new : Option TableState) → Laws s → RepliesWithTable call s reply new → IsLawful new
with_table_lawful (calls.Table header c) s reply new laws r = subst IsLawful (sym r.1) laws
with_table_lawful calls.Begin s reply new laws r = makes_lawful events.Begin replies_are.Begun s reply new laws r
with_table_lawful (calls.Acquire k m) s reply new laws r = makes_lawful (events.Acquire k m) replies_are.Acquired s reply new laws r
with_table_lawful (calls.Release k m) s reply new laws r = makes_lawful (events.Release k m) replies_are.Released s reply new laws r
with_table_lawful (calls.Finish k) s reply new laws r = makes_lawful (events.Finish k) (λ _. replies_are.Finished) s reply new laws r
with_table_lawful (calls.Transmit k) s reply new laws r = makes_lawful (events.Transmit k) replies_are.Transmitted s reply new laws r
with_table_lawful (calls.Detect k) s reply new laws r = makes_lawful (events.Detect k) replies_are.Detected s reply new laws r
with_table_lawful (calls.Abort k) s reply new laws r = makes_lawful (events.Abort k) (λ _. replies_are.Aborted) s reply new laws r
with_table_lawful (calls.GiveUp k) s reply new laws r = makes_lawful (events.GiveUp k) (λ _. replies_are.Withdrawn) s reply new laws r
with_table_lawful calls.Settle s reply new laws r = makes_lawful events.Settle replies_are.Settled s reply new laws r
with_table_lawful (calls.State k) s reply new laws r = subst IsLawful (sym r.1) laws
with_table_lawful (calls.Owner m) s reply new laws r = subst IsLawful (sym r.1) laws
with_table_lawful calls.Totals s reply new laws r = subst IsLawful (sym r.1) laws

with_none_lawful : (call : Call) (reply : Reply) (new : Option TableState) → RepliesWithNone call reply new → IsLawful new
with_none_lawful (calls.Table header c) reply new (opened, opens, said, is) = subst IsLawful (sym is) (opens_by_lawful header c opened opens)
with_none_lawful calls.Begin reply new r = subst IsLawful (sym r.1) tt
with_none_lawful (calls.Acquire k m) reply new r = subst IsLawful (sym r.1) tt
with_none_lawful (calls.Release k m) reply new r = subst IsLawful (sym r.1) tt
with_none_lawful (calls.Finish k) reply new r = subst IsLawful (sym r.1) tt
with_none_lawful (calls.Transmit k) reply new r = subst IsLawful (sym r.1) tt
with_none_lawful (calls.Detect k) reply new r = subst IsLawful (sym r.1) tt
with_none_lawful (calls.Abort k) reply new r = subst IsLawful (sym r.1) tt
with_none_lawful (calls.GiveUp k) reply new r = subst IsLawful (sym r.1) tt
with_none_lawful calls.Settle reply new r = subst IsLawful (sym r.1) tt
with_none_lawful (calls.State k) reply new r = subst IsLawful (sym r.1) tt
with_none_lawful (calls.Owner m) reply new r = subst IsLawful (sym r.1) tt
with_none_lawful calls.Totals reply new r = subst IsLawful (sym r.1) tt

call_lawful : (call : Call) (old new : Option TableState) (reply : Reply) → Replies call old reply new → IsLawful old → IsLawful new
call_lawful call None new reply r lawful = with_none_lawful call reply new r
call_lawful call (Some s) new reply r laws = with_table_lawful call s reply new laws r

answers_keep : (line : Line) (old new : Option TableState) (out : List ℕ) (one : ℕ) → AnswersLine line old out one new → IsLawful old → IsLawful new
answers_keep kind.Silent old new out one a lawful = subst IsLawful (sym a.2) lawful
answers_keep kind.Malformed old new out one a lawful = subst IsLawful (sym a.2) lawful
answers_keep (kind.Call call) old new out one (reply, r, said, none) lawful = call_lawful call old new reply r lawful

text_total : (table : Option TableState) → IsLawful table → (lines : List (List ℕ))
    → (out : List ℕ) × (malformed : ℕ) × (last : Option TableState) × Text Answers true table lines out malformed last
text_total table lawful [] = ([], 0, table, (refl, refl, refl))
text_total table lawful (line ∷ lines) =
    let first = answers (line_of line) table lawful in
    let rest = text_total first.2 (answers_keep (line_of line) table first.2 first.0 first.1 first.3 lawful) lines in
    (first.0 ++ rest.0, first.1 + rest.1, rest.2, (first.2, first.0, rest.0, first.1, rest.1, first.3, rest.3, refl, refl))

-- where some lines at the front are answered, all can be
text_whole : (table last : Option TableState) → IsLawful table → (lines : List (List ℕ)) (out : List ℕ) (malformed : ℕ) → Text Answers false table lines out malformed last
    → (more : List ℕ) × (count : ℕ) × (after : Option TableState) × Text Answers true table lines (out ++ more) count after
text_whole table last lawful [] out malformed text = ([], malformed, last, (append-nil out ∙ text.0, text.1, text.2))
text_whole table last lawful (line ∷ lines) out malformed (inl none) =
    let all = text_total table lawful (line ∷ lines) in
    let P : List ℕ → Type 0 = λ o. Text Answers true table (line ∷ lines) (o ++ all.0) all.1 all.2 in
    (all.0, all.1, all.2, subst P (sym none.0) all.3)
text_whole table last lawful (line ∷ lines) out malformed (inr (next, reply, rest, one, more, answer, text, both, count)) =
    let others = text_whole next last (answers_keep (line_of line) table next reply one answer lawful) lines rest more text in
    (others.0, one + others.1, others.2, (next, reply, rest ++ others.0, one, others.1, answer, others.3, ap (λ o. o ++ others.0) both ∙ append_assoc reply rest others.0, refl))

-- ---- how a script ends

pub script_ends : (result : Result ℕ Fault) (read written : List ℕ) (last : Option TableState) → texts.Ends Answers input_limit None result read written last → Ends result read written
script_ends (Err Write) read written last e =
    let lost = e.1.0 in
    let all = text_whole None last tt (lines_of read) (written ++ lost) e.1.1.0 e.1.1.1 in
    let P : List ℕ → Type 0 = λ o. Text Answers true None (lines_of read) o all.1 all.2 in
    (last, e, λ failed. (lost ++ all.0, (all.1, all.2, subst P (append_assoc written lost all.0) all.3)))
script_ends (Ok malformed) read written last e = (last, e, λ failed. absurd (cc))
script_ends (Err Read) read written last e = (last, e, λ failed. absurd (cc))
script_ends (Err TooLong) read written last e = (last, e, λ failed. absurd (cc))

pub script_bounded : (table : Option TableState) (result : Result ℕ Fault) (read written : List ℕ) (last : Option TableState) → texts.Ends Answers input_limit table result read written last → length read ≤ 16777217
script_bounded table (Ok malformed) read written last e = omega (arith, e.0)
script_bounded table (Err Read) read written last e = omega (arith, e.0)
script_bounded table (Err Write) read written last e = omega (arith, e.0)
script_bounded table (Err TooLong) read written last e = omega (arith, ap length e.2, e.3, length-append e.0 (e.1 ∷ []))
