-- What the clauses of an event say at each way out, over plain variables.
use Rattle.std.proofs.Common.{◌≡◌, ◌<◌, ◌+◌, ℕ, List, [], length, map, Result, Ok, Err, OnOk, IfOk, IsErr, IsErrAnd, refl, sym, ap, ◌∙◌, subst, arith}
use Rattle.std.proofs.lemmas.List.{get_or-map}
use Rattle.mm_board.specs.declared.views.Published.{Published}
use Rattle.mm_board.specs.declared.views.Seen.{Seen}
use Rattle.mm_board.specs.Views.{new_seen, current_labels, label_at, last_label, with_label}
use Rattle.mm_board.proofs.Current.{current_label_stored}
use Rattle.mm_board.proofs.Histories.{length-with_label}
use Rattle.mm_arena.specs.declared.key.Key.{Key}
use Rattle.mm_label.specs.Label.{Label, opening_label}
use Rattle.mm_rules.specs.declared.refusal.Refusal.{Refusal}
use Rattle.mm_rules.specs.declared.reply.Acquired.{Acquired}
use Rattle.mm_rules.specs.declared.reply.Transmitted.{Transmitted}
use Rattle.mm_rules.specs.declared.reply.Transmitted.TheVariants.{Raised}
use Rattle.mm_rules.specs.declared.reply.Acquired.TheVariants.{Granted, Waits}
use Rattle.mm_rules.specs.TableState.{TableState}
use Rattle.mm_rules.specs.Event.{Event, Answer, Step, Begin, Acquire, Release, Finish, Transmit, Detect, Abort, GiveUp, Settle}
use Rattle.mm_rules.specs.Laws.{verdicts_made}
use Rattle.mm_counts.specs.Shares.{Shares, CountsEvent}
use Rattle.mm_shared.specs.Published.{holders_of}

-- the reply is this refusal
abbrev pub IsRefused : {A : Type 0} → Result A Refusal → Refusal → Type 0
IsRefused reply refusal = IsErr reply × IsErrAnd reply (λ x. x ≡ refusal)

pub refused_reply : {A : Type 0} (reply : Result A Refusal) (refusal : Refusal) → IsRefused reply refusal → reply ≡ Err refusal
refused_reply (Ok value) refusal is = absurd (cc)
refused_reply (Err other) refusal is = ap Err is.1

-- nothing is said of an answer where there is none
pub none_answered : {A : Type 0} (reply : Result A Refusal) (refusal : Refusal) (P : A → Type 0) → IsRefused reply refusal → IfOk reply P
none_answered (Ok value) refusal P is = absurd (cc)
none_answered (Err other) refusal P is = tt

pub none_done : {A : Type 0} (reply : Result A Refusal) (refusal : Refusal) (P : Type 0) → IsRefused reply refusal → OnOk reply P
none_done (Ok value) refusal P is = absurd (cc)
none_done (Err other) refusal P is = tt

refusal_counts : (e : Event) (refusal : Refusal) (pass : Shares) → CountsEvent e (Err refusal) pass pass
refusal_counts Begin refusal pass = record { accepted = tt; verdicts = refl; aborts = refl; parts = refl; seen = refl; refused = refl }
refusal_counts (Acquire k r) refusal pass = record { accepted = tt; verdicts = refl; aborts = refl; parts = refl; seen = tt; refused = refl }
refusal_counts (Release k r) refusal pass = record { accepted = tt; verdicts = refl; aborts = refl; parts = refl; seen = refl; refused = refl }
refusal_counts (Finish k) refusal pass = record { accepted = tt; verdicts = refl; aborts = refl; parts = refl; seen = refl; refused = refl }
refusal_counts (Transmit k) refusal pass = record { accepted = tt; verdicts = refl; aborts = refl; parts = refl; seen = tt; refused = refl }
refusal_counts (Detect k) refusal pass = record { accepted = tt; verdicts = tt; aborts = refl; parts = refl; seen = refl; refused = refl }
refusal_counts (Abort k) refusal pass = record { accepted = tt; verdicts = refl; aborts = tt; parts = refl; seen = refl; refused = refl }
refusal_counts (GiveUp k) refusal pass = record { accepted = tt; verdicts = refl; aborts = refl; parts = refl; seen = refl; refused = refl }
refusal_counts Settle refusal pass = record { accepted = tt; verdicts = tt; aborts = refl; parts = refl; seen = refl; refused = refl }

module _ (e : Event) (reply : Result (Answer e) Refusal) (refusal : Refusal) (is : IsRefused reply refusal) where
  pub refused_step : (s t : TableState) (said : Result (Answer e) Refusal) → Step e s said t → said ≡ Err refusal → Step e s reply t
  refused_step s t said step was = subst (λ (r : Result (Answer e) Refusal). Step e s r t) (was ∙ sym (refused_reply reply refusal is)) step

  pub refused_counts : (pass : Shares) → CountsEvent e reply pass pass
  refused_counts pass = subst (λ (r : Result (Answer e) Refusal). CountsEvent e r pass pass) (sym (refused_reply reply refusal is)) (refusal_counts e refusal pass)

-- a refusal is no answer
pub refused_not : {A : Type 0} (reply : Result A Refusal) (refusal : Refusal) (answer : A) → IsRefused reply refusal → reply ≡ Ok answer → ⊥
refused_not (Ok value) refusal answer is told = absurd (cc)
refused_not (Err other) refusal answer is told = absurd (cc)

pub answered_step : (e : Event) (s t : TableState) (said : Result (Answer e) Refusal) (answer : Answer e) → Step e s said t → said ≡ Ok answer → Step e s (Ok answer) t
answered_step e s t said answer step was = subst (λ (r : Result (Answer e) Refusal). Step e s r t) was step

-- a reply has one answer
pub same_answer : {A : Type 0} (reply : Result A Refusal) (a b : A) → reply ≡ Ok a → reply ≡ Ok b → a ≡ b
same_answer reply a b first second = cc

-- who does not wait stores no holder
pub none_held : (answer : Acquired) (held : ℕ) → ((h : Key) (l : Label) → answer ≡ Waits h l → ⊥) → held ≡ held + holders_of answer
none_held Granted held not = omega arith
none_held (Waits h l) held not = absurd (not h l refl)

-- ---- what an accepted event counts

module _ (before after : Shares) (counted : after ≡ record before { accepted = before.accepted + 1 }) where
  one : after.accepted ≡ before.accepted + 1
  one = ap (λ (s : Shares). s.accepted) counted

  verdicts : after.verdicts ≡ before.verdicts
  verdicts = ap (λ (s : Shares). s.verdicts) counted

  aborts : after.aborts ≡ before.aborts
  aborts = ap (λ (s : Shares). s.aborts) counted

  parts : after.parts ≡ before.parts
  parts = ap (λ (s : Shares). s.parts) counted

  seen : after.seen ≡ before.seen
  seen = ap (λ (s : Shares). s.seen) counted

  pub begin_counts : (answer : Answer Begin) → CountsEvent Begin (Ok answer) before after
  begin_counts answer = record { accepted = one; verdicts = verdicts; aborts = aborts; parts = parts; seen = seen; refused = tt }

  pub acquire_counts : (k : Key) (r : ℕ) (answer : Acquired) → CountsEvent (Acquire k r) (Ok answer) before after
  acquire_counts k r answer = record { accepted = one; verdicts = verdicts; aborts = aborts; parts = parts; seen = tt; refused = tt }

  pub release_counts : (k : Key) (r : ℕ) (answer : Answer (Release k r)) → CountsEvent (Release k r) (Ok answer) before after
  release_counts k r answer = record { accepted = one; verdicts = verdicts; aborts = aborts; parts = parts; seen = seen; refused = tt }

  pub finish_counts : (k : Key) (answer : Answer (Finish k)) → CountsEvent (Finish k) (Ok answer) before after
  finish_counts k answer = record { accepted = one; verdicts = verdicts; aborts = aborts; parts = parts; seen = seen; refused = tt }

  pub transmit_counts : (k : Key) (answer : Transmitted) → CountsEvent (Transmit k) (Ok answer) before after
  transmit_counts k answer = record { accepted = one; verdicts = verdicts; aborts = aborts; parts = parts; seen = tt; refused = tt }

  pub give_up_counts : (k : Key) (answer : Answer (GiveUp k)) → CountsEvent (GiveUp k) (Ok answer) before after
  give_up_counts k answer = record { accepted = one; verdicts = verdicts; aborts = aborts; parts = parts; seen = seen; refused = tt }

module _ (before between after : Shares) (counted : between ≡ record before { accepted = before.accepted + 1 }) where
  pub abort_counts : (k : Key) (answer : Answer (Abort k)) → after ≡ record between { aborts = between.aborts + 1 } → CountsEvent (Abort k) (Ok answer) before after
  abort_counts k answer ended =
      let whole : after ≡ record before { accepted = before.accepted + 1; aborts = before.aborts + 1 } = ended ∙ ap (λ (s : Shares). record s { aborts = s.aborts + 1 }) counted in
      record {
        accepted = ap (λ (s : Shares). s.accepted) whole;
        verdicts = ap (λ (s : Shares). s.verdicts) whole;
        aborts = ap (λ (s : Shares). s.aborts) whole;
        parts = ap (λ (s : Shares). s.parts) whole;
        seen = ap (λ (s : Shares). s.seen) whole;
        refused = tt;
      }

  module _ (made : ℕ) (judged : after ≡ record between { verdicts = between.verdicts + made }) where
    whole : after ≡ record before { accepted = before.accepted + 1; verdicts = before.verdicts + made }
    whole = judged ∙ ap (λ (s : Shares). record s { verdicts = s.verdicts + made }) counted

    pub settle_counts : (answer : Answer Settle) → made ≡ answer.verdicts → CountsEvent Settle (Ok answer) before after
    settle_counts answer is = record {
      accepted = ap (λ (s : Shares). s.accepted) whole;
      verdicts = ap (λ (s : Shares). s.verdicts) whole ∙ ap (λ n. before.verdicts + n) is;
      aborts = ap (λ (s : Shares). s.aborts) whole;
      parts = ap (λ (s : Shares). s.parts) whole;
      seen = ap (λ (s : Shares). s.seen) whole;
      refused = tt;
    }

    pub detect_counts : (k : Key) (answer : Answer (Detect k)) → made ≡ verdicts_made (Detect k) answer → CountsEvent (Detect k) (Ok answer) before after
    detect_counts k answer is = record {
      accepted = ap (λ (s : Shares). s.accepted) whole;
      verdicts = ap (λ (s : Shares). s.verdicts) whole ∙ ap (λ n. before.verdicts + n) is;
      aborts = ap (λ (s : Shares). s.aborts) whole;
      parts = ap (λ (s : Shares). s.parts) whole;
      seen = ap (λ (s : Shares). s.seen) whole;
      refused = tt;
    }

-- what was seen counts nothing
module _ (before after : Shares) (counted : after ≡ record before { accepted = before.accepted + 1 }) where
  seen_counted : (seen : Seen) → record after { seen = seen } ≡ record (record before { seen = seen }) { accepted = before.accepted + 1 }
  seen_counted seen = ap (λ (s : Shares). record s { seen = seen }) counted

  pub acquire_sees : (k : Key) (r : ℕ) (answer : Acquired) (seen : Seen) → CountsEvent (Acquire k r) (Ok answer) before (record after { seen = seen })
  acquire_sees k r answer seen =
      let c = acquire_counts (record before { seen = seen }) (record after { seen = seen }) (seen_counted seen) k r answer in
      record { accepted = c.accepted; verdicts = c.verdicts; aborts = c.aborts; parts = c.parts; seen = tt; refused = tt }

  pub transmit_sees : (k : Key) (answer : Transmitted) (seen : Seen) → CountsEvent (Transmit k) (Ok answer) before (record after { seen = seen })
  transmit_sees k answer seen =
      let c = transmit_counts (record before { seen = seen }) (record after { seen = seen }) (seen_counted seen) k answer in
      record { accepted = c.accepted; verdicts = c.verdicts; aborts = c.aborts; parts = c.parts; seen = tt; refused = tt }

-- ---- what was shown

-- the label that was just stored is seen
pub stored_is_seen : (p m q : Published) (seen : Seen) (n : ℕ) (l told : Label) → n < length p.histories → m ≡ with_label p n l → q.histories ≡ m.histories → seen ≡ new_seen (current_labels q)
    → l ≡ told → label_at seen.labels n ≡ told
stored_is_seen p m q seen n l told within stored same is equal =
    let histories : q.histories ≡ (with_label p n l).histories = same ∙ ap (λ (r : Published). r.histories) stored in
    ap (λ (s : Seen). label_at s.labels n) is ∙ ap (λ hs. label_at (map last_label hs) n) histories
    ∙ get_or-map last_label (with_label p n l).histories n [] (opening_label 0) (omega (arith, within, length-with_label p n l))
    ∙ current_label_stored p n l within
    ∙ equal

pub same_wait : (reply : Result Acquired Refusal) (h k : Key) (l told : Label) → reply ≡ Ok (Waits h l) → reply ≡ Ok (Waits k told) → l ≡ told
same_wait reply h k l told first second = cc

pub same_raise : (reply : Result Transmitted Refusal) (l told : Label) → reply ≡ Ok (Raised l) → reply ≡ Ok (Raised told) → l ≡ told
same_raise reply l told first second = cc
