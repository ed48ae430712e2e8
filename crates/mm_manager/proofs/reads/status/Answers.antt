use Rattle.std.proofs.Common.{◌≡◌, ◌⊎◌, ℕ, inl, inr, sym, ◌∙◌}
use Rattle.mm_arena.specs.declared.key.Key.{Key}
use Rattle.mm_rules.specs.declared.reply.Mode.TheVariants as mode
use Rattle.mm_rules.specs.declared.reply.State.{State}
use Rattle.mm_rules.specs.TableState.{TableState}
use Rattle.mm_manager.proofs.Lemmas.May.{IsTold, Waits, is_told, told_active, told_waiting, told_convicted}
use Rattle.mm_manager.proofs.Lemmas.Reads.{has_holder}
use Rattle.mm_manager.proofs.reads.status.Goals as goal

told_waits : (s : TableState) (k : Key) (state : State) (n : ℕ) → IsTold s k state → (state.mode ≡ mode.Waiting n) ⊎ (state.mode ≡ mode.Convicted n) → Waits s k n
told_waits s k state n is (inl waiting) = told_waiting s k state n is waiting
told_waits s k state n is (inr convicted) = told_convicted s k state n is convicted

pub holder-requires : goal.holder-requires
holder-requires c =
    let s = c.args.table.now in
    let is = is_told s c.args.key c.in-Ok.state (sym c.state.ensures ∙ c.in-Ok.is) in
    has_holder s c.keeps_laws.ensures c.args.key.process c.in-Waiting.number (told_waits s c.args.key c.in-Ok.state c.in-Waiting.number is c.in-Waiting.is).waits

pub returns-in-Active : goal.returns-in-Active
returns-in-Active c =
    let active = told_active c.args.table.now c.args.key c.in-Ok.state (is_told c.args.table.now c.args.key c.in-Ok.state (sym c.state.ensures ∙ c.in-Ok.is)) c.in-Active.is in
    (active.live, active.idle)

pub returns-in-Waiting : goal.returns-in-Waiting
returns-in-Waiting c =
    let is = is_told c.args.table.now c.args.key c.in-Ok.state (sym c.state.ensures ∙ c.in-Ok.is) in
    let waits = told_waits c.args.table.now c.args.key c.in-Ok.state c.in-Waiting.number is c.in-Waiting.is in
    (waits.live, record { waits = waits.waits; holder = c.holder.ensures })
