-- A manager that was just opened.
use Rattle.std.proofs.Common.{◌≡◌, ◌+◌, ℕ, zero, suc, Bool, false, cond, None, is_some, count_by, map, replicate, refl, ap, arith, slice_index_or}
use Rattle.std.specs.List.{range_with_len}
use Rattle.std.proofs.lemmas.List.Sums.{sum_by-cons}
use Rattle.std.proofs.lemmas.List.{length-replicate}
use Rattle.mm_lists.proofs.Lemmas.Set.{read_replicate}
use Rattle.mm_label.specs.Label.{Label, opening_label}
use Rattle.mm_names.specs.Names.{nameless}
use Rattle.mm_rules.specs.declared.config.Config.{Config}
use Rattle.mm_rules.specs.TableState.{IsWide, opening, public_of}
use Rattle.mm_manager.specs.declared.named.NamedTable.{NamedTable}
use Rattle.mm_manager.specs.private.Handed.{IsSound}
use Rattle.mm_manager.specs.private.Numbers.{AreNumbered}
use Rattle.mm_manager.specs.Totals.{nothing_counted}
use Rattle.mm_manager.specs.private.Room.{LabelsAreCounted, HasReserve}

abbrev one : Bool → ℕ
one b = cond b 1 0

none_counted : {X : Type 0} (p : X → Bool) (x : X) → p x ≡ false → (n : ℕ) → count_by p (replicate n x) ≡ 0
none_counted p x fails zero = refl
none_counted p x fails (suc n) = omega (arith, sum_by-cons (λ y. cond (p y) 1 0) x (replicate n x), ap one fails, none_counted p x fails n)

opening_counter : (c : Config) (p : ℕ) → (public_of (opening c) p).counter ≡ 0
opening_counter c p = opening_at c.processes 0 p (opening_label p) refl
  where
    opening_at : (n a p : ℕ) (d : Label) → d.counter ≡ 0 → (slice_index_or (map opening_label (range_with_len a n)) p d).counter ≡ 0
    opening_at zero a p d none = none
    opening_at (suc n) a zero d none = refl
    opening_at (suc n) a (suc p) d none = opening_at n (a + 1) p d none

-- no label is given out, and nobody is to end
opening_room : (c : Config) → IsWide c → HasReserve (opening c)
opening_room c range =
    let labels : (p : ℕ) → (public_of (opening c) p).counter ≡ 0 = λ p. opening_counter c p in
    let owned : count_by is_some (opening c).owners ≡ 0 = none_counted is_some None refl c.resources in
    let live : count_by (λ b. b) (opening c).live ≡ 0 = none_counted (λ b. b) false refl c.processes in
    record {
      labels = λ p. omega (arith, labels p);
      events = omega (arith, owned, live);
      aborts = omega arith;
    }

pub opening_labels : (c : Config) → LabelsAreCounted (opening c) nothing_counted
opening_labels c p = omega (arith, opening_counter c p)

opening_numbered : (c : Config) (name_bytes : ℕ) → AreNumbered (opening c) (nameless c.resources name_bytes)
opening_numbered c name_bytes = record {
  as_many = length-replicate c.resources None;
  named = λ n. ((λ none. read_replicate None c.resources n), (λ none. read_replicate None c.resources n));
}

pub opening_sound : (c : Config) (name_bytes : ℕ) (t : NamedTable) → IsWide c → t.table.table ≡ opening c → t.names ≡ nameless c.resources name_bytes → IsSound t
opening_sound c name_bytes t range table names = record { numbered = rw (table, names) (opening_numbered c name_bytes); left = rw table (opening_room c range) }
