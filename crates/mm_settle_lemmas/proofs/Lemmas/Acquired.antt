-- Whom an acquire changes: who waits, and at a grant nobody. A begin changes nobody either.
use Rattle.std.proofs.Common.{◌≡◌, ◌≢◌, ◌++◌, ◌<◌, ℕ, Bool, List, [], ◌∷◌, length, Some, None, option_map, option_and_then, refl, sym, ap, ◌∙◌, arith}
use Rattle.mm_label.specs.Label.{Label}
use Rattle.mm_arena.specs.declared.key.Key.{Key}
use Rattle.mm_rules.specs.TableState.{TableState, Wait, owner_of}
use Rattle.mm_rules.specs.Change.{block}
use Rattle.mm_rules.specs.Event.{acquire_change}
use Rattle.mm_rules.specs.Laws.{WellFormed}
use Rattle.mm_rules.proofs.States.Lookups.{waits_here, held}
use Rattle.mm_settle_lemmas.specs.Touched.{IsUnchanged, Touches}
use Rattle.mm_settle_lemmas.specs.Steps.Added.{Adds}
use Rattle.mm_settle_lemmas.proofs.Lemmas.Waiters.{waited_front}
use Rattle.mm_settle_lemmas.proofs.Lemmas.Touched.{unchanged_then, touches_nobody, touches_one, block_else, block_rises, owner_else}

pub queue_else : (s : TableState) (w : Wait) (k : ℕ) → k ≢ w.key.process → IsUnchanged s (record s { waits = s.waits ++ w ∷ [] }) k
queue_else s w k apart =
    let same = waited_front s.waits w k (λ e. apart (sym e)) in
    record {
      private = refl;
      public = refl;
      wait = same;
      holder = ap (λ o. option_map (λ (k : Key). k.process) (option_and_then (owner_of s) o)) same;
      verdict = refl;
    }

pub touches_wait : (s : TableState) (k h : Key) (r : ℕ) (old new : List Bool) → k.process < length s.public → Adds k.process old new → Touches s (acquire_change s k r (Some h)) old new
touches_wait s k h r old new within adds =
    let w : Wait = record { key = k; resource = r } in
    let queued = record s { waits = s.waits ++ w ∷ [] } in
    touches_one s (block queued k.process h.process) k.process old new adds
    (λ n apart. unchanged_then s queued (block queued k.process h.process) n (queue_else s w n apart) (block_else queued k.process h.process n apart))
    (λ same. omega (arith, block_rises queued k.process h.process within, ap (λ (l : Label). l.counter) same.public))

-- nobody waits for what nobody owns
pub touches_grant : (s : TableState) (k : Key) (r : ℕ) (set : List Bool) → WellFormed s → owner_of s r ≡ None → Touches s (acquire_change s k r None) set set
touches_grant s k r set formed free = touches_nobody s (acquire_change s k r None) set (λ n. owner_else s r n (Some k) (λ waits.
    let here = waits_here s n r waits in
    let owned = held s formed here.wait here.among in
    let never : None ≡ Some owned.0 = sym free ∙ ap (owner_of s) (sym here.resource) ∙ owned.1 in
    absurd (cc)))
