use Rattle.std.proofs.Common.{◌≡◌, ◌≢◌, ◌⊎◌, ◌↔◌, ℕ, Bool, true, false, Some, Result, Ok, Err, refl, inl, inr, sym, ap, subst, ◌∙◌}
use Rattle.std.specs.Result.{IsErr, IsErrAnd}
use Rattle.mm_arena.specs.declared.key.Key.{Key}
use Rattle.mm_rules.specs.TableState.{TableState, owner_of}
use Rattle.mm_settled.specs.Calls.{Locks}
use Rattle.mm_settled.specs.declared.reply.Locked.TheVariants as locked
use Rattle.mm_manager.specs.Permit.{first_refusal, may_ask, may_count, may_wait}
use Rattle.mm_manager.specs.declared.refusal.Refusal.{Refusal}
use Rattle.mm_manager.specs.declared.refusal.Refusal.TheVariants.{LabelsFull}
use Rattle.mm_manager.specs.declared.reply.Lock.{Lock}
use Rattle.mm_manager.specs.declared.totals.Totals.{Totals}
use Rattle.mm_manager.specs.private.Requests.{may_ask_more, AnswersNamed}
use Rattle.mm_manager.proofs.Lemmas.Answered.{asks_both}
use Rattle.mm_manager.proofs.Lemmas.Asked.{label_left}
use Rattle.mm_manager.proofs.Lemmas.Counted.{counts_fit}
use Rattle.mm_manager.proofs.Lemmas.May.{counted}
use Rattle.mm_manager.proofs.Lemmas.Requests.{queued_is}
use Rattle.mm_manager.proofs.lock.request_named.Goals as goal

-- ---- it is refused

-- k would wait, and there may be no label left for that
abbrev LacksLabel : TableState → Totals → Key → ℕ → Refusal → Type 0
LacksLabel s t k n refusal = (refusal ≡ LabelsFull) × (may_wait s t ≡ false) × ((h : Key) × (h ≢ k) × (owner_of s n ≡ Some h))

abbrev IsWhy : TableState → Totals → Key → ℕ → Refusal → Type 0
IsWhy s t k n refusal =
    (may_ask_more s k ≡ Err refusal) ⊎ ((may_ask_more s k ≡ Ok tt) × (refusal ≡ LabelsFull) × (may_wait s t ≡ false) × ((h : Key) × (h ≢ k) × (owner_of s n ≡ Some h)))

refused_answer : (s : TableState) (t : Totals) (k : Key) (n : ℕ) (reply : Result Lock Refusal) (refusal : Refusal) → IsErr reply × IsErrAnd reply (λ x. x ≡ refusal) → IsWhy s t k n refusal → AnswersNamed s t k n reply s
refused_answer s t k n (Ok answer) refusal is why = absurd (cc)
refused_answer s t k n (Err other) refusal is why = (refl, subst (IsWhy s t k n) (sym is.1) why)

pub returns-in_err-may_ask : goal.returns-in_err-may_ask
returns-in_err-may_ask c =
    let s = c.args.table.now.table in
    refused_answer s c.args.totals.now c.args.key c.args.number c.from_residual.result c.in_err-may_ask.field-0.0 c.from_residual.ensures
    (inl (ap (λ a. first_refusal a (may_count s)) (ap (λ (t : TableState). may_ask t c.args.key) (sym c.table.ensures) ∙ sym c.in_err-may_ask.ensures)))

pub returns-in_err-may_count : goal.returns-in_err-may_count
returns-in_err-may_count c =
    let s = c.args.table.now.table in
    refused_answer s c.args.totals.now c.args.key c.args.number c.from_residual-in_err-may_count.result c.in_err-may_count.field-0.0 c.from_residual-in_err-may_count.ensures
    (inl (ap (λ a. first_refusal a (may_count s)) (ap (λ (t : TableState). may_ask t c.args.key) (sym c.table.ensures) ∙ sym c.in_ok-may_ask.ensures)
    ∙ (ap may_count (sym c.table-2.ensures) ∙ sym c.in_err-may_count.ensures)))

pub returns-in_err-is_held : goal.returns-in_err-is_held
returns-in_err-is_held c =
    let s = c.args.table.now.table in
    let may = asks_both s c.args.key (ap (λ (t : TableState). may_ask t c.args.key) (sym c.table.ensures) ∙ sym c.in_ok-may_ask.ensures) (ap may_count (sym c.table-2.ensures) ∙ sym c.in_ok-may_count.ensures) in
    let lacks = subst (λ (t : TableState). LacksLabel t c.args.totals.now c.args.key c.args.number c.in_err-is_held.field-0.0) c.table-3.ensures c.in_err-is_held.ensures.refused in
    refused_answer s c.args.totals.now c.args.key c.args.number c.from_residual-in_err-is_held.result c.in_err-is_held.field-0.0 c.from_residual-in_err-is_held.ensures (inr (may, lacks.0, lacks.1, lacks.2))

-- ---- it owns it already

pub returns-then-branch : goal.returns-then-branch
returns-then-branch c =
    let s = c.args.table.now.table in
    let may = asks_both s c.args.key (ap (λ (t : TableState). may_ask t c.args.key) (sym c.table.ensures) ∙ sym c.in_ok-may_ask.ensures) (ap may_count (sym c.table-2.ensures) ∙ sym c.in_ok-may_count.ensures) in
    (may, (subst (λ (t : TableState). owner_of t c.args.number ≡ Some c.args.key) c.table-3.ensures (c.in_ok-is_held.ensures.held.0 c.if-branch.true), refl))

-- ---- the table is asked

module _ (s t : TableState) (counts : Totals) (k : Key) (n : ℕ) (held : Bool) (same : t ≡ s) (other : held ≡ false) (tells : (held ≡ true) ↔ (owner_of t n ≡ Some k)) where
  not_held : ¬ (owner_of t n ≡ Some k)
  not_held mine = (let never : true ≡ false = sym (tells.1 mine) ∙ other in absurd (cc))

  not_owned : ¬ (owner_of s n ≡ Some k)
  not_owned mine = not_held (subst (λ (v : TableState). owner_of v n ≡ Some k) (sym same) mine)

  label_is_left : ((h : Key) → owner_of t n ≡ Some h → h ≢ k → may_wait t counts ≡ true) → (h : Key) → owner_of s n ≡ Some h → may_wait s counts ≡ true
  label_is_left label h owned =
      let before : owner_of t n ≡ Some h = subst (λ (v : TableState). owner_of v n ≡ Some h) (sym same) owned in
      subst (λ (v : TableState). may_wait v counts ≡ true) same (label h before (λ is. not_held (before ∙ ap Some is)))

pub is_held-requires : goal.is_held-requires
is_held-requires c = counts_fit c.args.totals.now c.args.table.now.table c.requires.counted c.requires.left

pub lock_number-requires : goal.lock_number-requires
lock_number-requires c =
    let s = c.args.table.now.table in
    let t = c.table-3.result.now in
    record {
      in_range = c.requires.in_range;
      may = ap (λ (v : TableState). may_ask v c.args.key) (sym c.table.ensures) ∙ sym c.in_ok-may_ask.ensures;
      counted = counted s (ap may_count (sym c.table-2.ensures) ∙ sym c.in_ok-may_count.ensures);
      left = c.requires.left;
      another = not_owned s t c.args.totals.now c.args.key c.args.number c.in_ok-is_held.field-0 c.table-3.ensures c.if-branch.false c.in_ok-is_held.ensures.held;
      label = λ h owned. label_left s c.args.totals.now c.requires.labels
          (label_is_left s t c.args.totals.now c.args.key c.args.number c.in_ok-is_held.field-0 c.table-3.ensures c.if-branch.false c.in_ok-is_held.ensures.held c.in_ok-is_held.ensures.label h owned);
    }

pub returns-in-Granted : goal.returns-in-Granted
returns-in-Granted c =
    let s = c.args.table.now.table in
    let may = asks_both s c.args.key (ap (λ (t : TableState). may_ask t c.args.key) (sym c.table.ensures) ∙ sym c.in_ok-may_ask.ensures) (ap may_count (sym c.table-2.ensures) ∙ sym c.in_ok-may_count.ensures) in
    let locks : Locks s c.args.key c.args.number (Ok locked.Granted) c.lock_number.new.table.table = rw c.in-Granted.is at c.lock_number.ensures.locks in
    (may, locks)

pub returns-in-Waits : goal.returns-in-Waits
returns-in-Waits c =
    let s = c.args.table.now.table in
    let u = c.lock_number.new.table.table in
    let h = c.in-Waits.holder in
    let may = asks_both s c.args.key (ap (λ (t : TableState). may_ask t c.args.key) (sym c.table.ensures) ∙ sym c.in_ok-may_ask.ensures) (ap may_count (sym c.table-2.ensures) ∙ sym c.in_ok-may_count.ensures) in
    let locks : Locks s c.args.key c.args.number (Ok (locked.Waits h)) u = rw c.in-Waits.is at c.lock_number.ensures.locks in
    let label = label_is_left s c.table-3.result.now c.args.totals.now c.args.key c.args.number c.in_ok-is_held.field-0 c.table-3.ensures c.if-branch.false c.in_ok-is_held.ensures.held c.in_ok-is_held.ensures.label in
    (may, (label h (queued_is s u c.args.key h c.args.number locks.0).held, locks))

pub returns-in-Deadlock : goal.returns-in-Deadlock
returns-in-Deadlock c =
    let s = c.args.table.now.table in
    let u = c.lock_number.new.table.table in
    let h = c.in-Deadlock.holder in
    let may = asks_both s c.args.key (ap (λ (t : TableState). may_ask t c.args.key) (sym c.table.ensures) ∙ sym c.in_ok-may_ask.ensures) (ap may_count (sym c.table-2.ensures) ∙ sym c.in_ok-may_count.ensures) in
    let locks : Locks s c.args.key c.args.number (Ok (locked.Deadlock h)) u = rw c.in-Deadlock.is at c.lock_number.ensures.locks in
    let label = label_is_left s c.table-3.result.now c.args.totals.now c.args.key c.args.number c.in_ok-is_held.field-0 c.table-3.ensures c.if-branch.false c.in_ok-is_held.ensures.held c.in_ok-is_held.ensures.label in
    (may, (label h locks.owner, locks))
