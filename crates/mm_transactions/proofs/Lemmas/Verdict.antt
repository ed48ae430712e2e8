-- A transaction gets a verdict, or loses it.
use Rattle.std.proofs.Common.{◌≡◌, List, ℕ, Bool, map, is_some, Some, slice_set, refl, ap, sym, length-set}
use Rattle.std.proofs.lemmas.List.{map-set}
use Rattle.mm_arena.specs.declared.key.Key.{Key}
use Rattle.mm_arena.specs.Slots.{Slots, Place, place_at, lookup, with_value}
use Rattle.mm_queue.specs.Queues.{Queues}
use Rattle.mm_transactions.specs.declared.transaction.Entry.{Entry}
use Rattle.mm_transactions.specs.private.Layout.{arrival_in, arrivals_from, verdict_in, seen, IsConsistent}
use Rattle.mm_transactions.proofs.Lemmas.Slots.{holds, same_slot}
use Rattle.mm_transactions.proofs.Lemmas.Arrivals.{same_arrivals}
use Rattle.mm_transactions.proofs.Lemmas.Consistent.{same_waits}

module _ (ns : List ℕ) (s : Slots Entry) (k : Key) (e : Entry) (found : lookup s k ≡ Some e) (verdict : Bool) where
  abbrev written : Place Entry
  written = record { generation = k.generation; value = Some (record e { has_verdict = verdict }) }

  place : place_at s k.process ≡ record { generation = k.generation; value = Some e }
  place = (holds s k e found).place

  same : arrivals_from ns 0 (slice_set s.places k.process written) ≡ arrivals_from ns 0 s.places
  same = same_arrivals ns s.places k.process written (sym (ap (arrival_in ns k.process) place))

  pub verdict_kept : (q : Queues) (latest waiting : ℕ) → IsConsistent ns s q latest waiting → IsConsistent ns (with_value s k (record e { has_verdict = verdict })) q latest waiting
  verdict_kept q latest waiting = same_waits ns s (with_value s k (record e { has_verdict = verdict })) q latest waiting (length-set s.places k.process written) same

  pub verdict_written : (q : Queues) (latest : ℕ) → seen ns (with_value s k (record e { has_verdict = verdict })) q latest
      ≡ record (seen ns s q latest) { verdicts = slice_set (map verdict_in s.places) k.process verdict }
  verdict_written q latest =
      rw (
        same,
        same_slot (λ q. q.generation) s k.process written (ap (λ q. q.generation) (sym place)),
        same_slot (λ q. is_some q.value) s k.process written (ap (λ q. is_some q.value) (sym place)),
        map-set verdict_in s.places k.process written,
      ) refl
