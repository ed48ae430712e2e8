use Rattle.std.proofs.Common.{◌≡◌, Bool, true, Ok, Err, drop, length, slice_set, slice_index, nat_eq, if◌then◌else◌, sym, ap, subst, ◌∙◌}
use Rattle.mm_arena.specs.declared.key.Key.{Key}
use Rattle.mm_rules.specs.TableState.{TableState, key_of}
use Rattle.mm_rules.specs.Event.{Begin, Step, begin_tests}
use Rattle.mm_rules.proofs.States.EventsKeepLaws.{event_keeps}
use Rattle.mm_settled.proofs.Lemmas.Accepted.{IsAccepted, accepted}
use Rattle.mm_settled.proofs.Lemmas.Refused.{begin_refused}
use Rattle.mm_manager.specs.Permit.{first_refusal, may_begin, may_count}
use Rattle.mm_manager.specs.declared.refusal.Refusal.{Refusal}
use Rattle.mm_manager.specs.declared.refusal.Refusal.TheVariants.{TransactionsFull}
use Rattle.mm_manager.specs.private.Numbers.{AreNumbered}
use Rattle.mm_manager.specs.private.Room.{HasReserve}
use Rattle.mm_manager.proofs.Lemmas.May.{counted}
use Rattle.mm_manager.proofs.Lemmas.Numbers.{numbered_alike}
use Rattle.mm_manager.proofs.Lemmas.Requests.{if_refused}
use Rattle.mm_manager.proofs.Lemmas.Room.{begin_room}
use Rattle.mm_manager.proofs.named.NamedTable.begin.Goals as goal

pub returns-in-Ok-clause-sound : goal.returns-in-Ok-clause-sound
returns-in-Ok-clause-sound c =
    let s = c.args.self.now.table.table in
    let u = c.begin.new.self.table in
    let k = c.in-Ok.key in
    let n = slice_index s.free 0 in
    let new : TableState = record s { free = drop 1 s.free; live = slice_set s.live n true } in
    let step : Step Begin s (Ok k) u = rw c.in-Ok.is at c.begin.ensures.step in
    let done : IsAccepted Key (begin_tests s) (key_of s n) new k u = accepted (begin_tests s) s (key_of s n) new k u step in
    let config = ap (λ (t : TableState). t.config) done.state in
    record {
      numbered = numbered_alike s c.args.self.now.names c.requires.numbered u (ap (λ (t : TableState). t.owners) done.state) config;
      left = begin_room s u k c.requires.left (event_keeps Begin s u (Ok k) step c.is_at_rest.ensures.laws).laws
          (counted s (ap may_count (sym c.table.ensures) ∙ sym c.in_ok-may_count.ensures)) step;
    }

pub returns-in-Ok-clause-begun : goal.returns-in-Ok-clause-begun
returns-in-Ok-clause-begun c = rw c.in-Ok.is at c.begin.ensures.step

pub returns-in-Ok-clause-may : goal.returns-in-Ok-clause-may
returns-in-Ok-clause-may c =
    let s = c.args.self.now.table.table in
    let n = slice_index s.free 0 in
    let step : Step Begin s (Ok c.in-Ok.key) c.begin.new.self.table = rw c.in-Ok.is at c.begin.ensures.step in
    let done : IsAccepted Key (begin_tests s) (key_of s n) (record s { free = drop 1 s.free; live = slice_set s.live n true }) c.in-Ok.key c.begin.new.self.table =
    accepted (begin_tests s) s (key_of s n) (record s { free = drop 1 s.free; live = slice_set s.live n true }) c.in-Ok.key c.begin.new.self.table step in
    ap (λ r. first_refusal r (if nat_eq (length s.free) 0 then Err TransactionsFull else Ok tt)) (ap may_count (sym c.table.ensures) ∙ sym c.in_ok-may_count.ensures)
    ∙ ap (λ (b : Bool). if b then Err TransactionsFull else Ok tt) done.passed.1.0

-- ---- it is refused

same : (c : goal.In-Err) → c.begin.new.self.table ≡ c.args.self.now.table.table
same c =
    let step : Step Begin c.args.self.now.table.table (Err c.in-Err.field-0) c.begin.new.self.table = rw c.in-Err.is at c.begin.ensures.step in
    begin_refused c.args.self.now.table.table c.begin.new.self.table c.in-Err.field-0 step

pub returns-in-Err-clause-same : goal.returns-in-Err-clause-same
returns-in-Err-clause-same c = same c

pub returns-in-Err-clause-sound : goal.returns-in-Err-clause-sound
returns-in-Err-clause-sound c = record {
  numbered = subst (λ (u : TableState). AreNumbered u c.args.self.now.names) (sym (same c)) c.requires.numbered;
  left = subst HasReserve (sym (same c)) c.requires.left;
}

pub returns-in_err-may_count-clause-refused : goal.returns-in_err-may_count-clause-refused
returns-in_err-may_count-clause-refused c =
    let s = c.args.self.now.table.table in
    if_refused c.from_residual.result c.in_err-may_count.field-0.0 (λ (refusal : Refusal). may_begin s ≡ Err refusal) c.from_residual.ensures
    (ap (λ r. first_refusal r (if nat_eq (length s.free) 0 then Err TransactionsFull else Ok tt)) (ap may_count (sym c.table.ensures) ∙ sym c.in_err-may_count.ensures))
