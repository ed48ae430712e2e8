-- An unlock of whatever name a transaction owns is one of that name.
use Rattle.std.specs.Prelude.{is_ok}
use Rattle.std.proofs.Common.{◌≡◌, ◌⊎◌, ℕ, Bool, List, [], refl, subst, ap, Option, Some, None, Result, Ok, Err, IfErr, OnOk, OnErr, IsSome, inl, inr, sym, ◌∙◌}
use Rattle.mm_arena.specs.declared.key.Key.{Key}
use Rattle.mm_names.specs.Names.{name_of, IsLawful as IsLawfulNames}
use Rattle.mm_rules.specs.TableState.{TableState, owner_of}
use Rattle.mm_rules.specs.Laws.{Laws}
use Rattle.mm_manager.specs.Calls.{UnlockAnyRefused, UnlocksAny}
use Rattle.mm_manager.specs.LockState.{LockState, Owns}
use Rattle.mm_manager.specs.Permit.{may_ask}
use Rattle.mm_manager.specs.Totals.{all_of}
use Rattle.mm_manager.specs.declared.named.NamedTable.{NamedTable}
use Rattle.mm_manager.specs.declared.refusal.Refusal.{Refusal}
use Rattle.mm_manager.specs.declared.refusal.Refusal.TheVariants.{NotOwner}
use Rattle.mm_manager.specs.declared.totals.Totals.{Totals}
use Rattle.mm_manager.specs.private.Handed.{HandsOver, IsUntouched, seen}
use Rattle.mm_manager.specs.private.Numbers.{AreNumbered, bare}
use Rattle.mm_manager.proofs.Lemmas.Told.{unlocks, untouched}

some_of : (o : Option (List ℕ)) → ¬ (o ≡ None) → (name : List ℕ) × (o ≡ Some name)
some_of None is = absurd (is refl)
some_of (Some name) is = (name, refl)

-- what is owned has a name
pub name_owned : (t : NamedTable) (k : Key) (n : ℕ) → AreNumbered t.table.table t.names → owner_of t.table.table n ≡ Some k → (name : List ℕ) × (name_of t.names n ≡ Some name)
name_owned t k n numbered owned =
    some_of (name_of t.names n) (λ unnamed. let never : Some k ≡ None = sym owned ∙ (numbered.named n).0 unnamed in cc)

pub is_named : (t : NamedTable) (k : Key) (n : ℕ) → AreNumbered t.table.table t.names → owner_of t.table.table n ≡ Some k → IsSome (name_of t.names n)
is_named t k n numbered owned = let named = name_owned t k n numbered owned in rw named.1 refl

-- a number that k owns was not handed over
pub not_handed : (s : TableState) (m : LockState) (k : Key) (n : ℕ) (refusal : Refusal) → m.table ≡ s → owner_of s n ≡ Some k
    → (may_ask s k ≡ Err refusal) ⊎ ((may_ask s k ≡ Ok tt) × (refusal ≡ NotOwner) × ¬ (owner_of s n ≡ Some k)) → UnlockAnyRefused m k refusal
not_handed s m k n refusal same owned (inl asked) = inl (rw same asked)
not_handed s m k n refusal same owned (inr (asked, is, other)) = absurd (other owned)

-- and if it owns none, it owns no name
pub none_owned : (m : LockState) (k : Key) (refusal : Refusal) → ((n : ℕ) → ¬ (owner_of m.table n ≡ Some k)) → (may_ask m.table k ≡ Err refusal) ⊎ ((may_ask m.table k ≡ Ok tt) × (refusal ≡ NotOwner))
    → UnlockAnyRefused m k refusal
none_owned m k refusal none (inl asked) = inl asked
none_owned m k refusal none (inr (asked, is)) = inr (asked, is, λ name owns. none owns.0 owns.2)

-- what such an unlock hands over
abbrev pub Handed : NamedTable → NamedTable → Key → Result (Unit {0}) Refusal → Type 0
Handed was new k done = OnOk done ((n : ℕ) × (owner_of was.table.table n ≡ Some k) × HandsOver k n was new)

-- the same with the name
abbrev pub HandedName : NamedTable → NamedTable → Key → List ℕ → Result (Unit {0}) Refusal → Type 0
HandedName was new k name done = OnOk done ((n : ℕ) × (name_of was.names n ≡ Some name) × (owner_of was.table.table n ≡ Some k) × HandsOver k n was new)

pub with_name_of : (was new : NamedTable) (k : Key) (done : Result (Unit {0}) Refusal) → AreNumbered was.table.table was.names → Handed was new k done → (name : List ℕ) × HandedName was new k name done
with_name_of was new k (Ok x) numbered (n, owned, handed) = let named = name_owned was k n numbered owned in (named.0, (n, named.1, owned, handed))
with_name_of was new k (Err e) numbered handed = ([], tt)

pub unlocks_any : (was new : NamedTable) (tells : Bool) (before after : Totals) (each : ℕ) (k : Key) → Laws was.table.table → AreNumbered was.table.table was.names → (done : Result (Unit {0}) Refusal) (told : Bool) → told ≡ is_ok done → after ≡ before
    → IsLawfulNames was.names → Handed was new k done → OnErr done (IsUntouched was new) → IfErr done (λ refusal. UnlockAnyRefused (bare was.table.table was.names) k refusal)
    → UnlocksAny (seen was tells before each) k done (seen new told after each)
unlocks_any was new tells before after each k laws numbered (Ok x) told is totals names handed same refused =
    let named = with_name_of was new k (Ok x) numbered handed in
    (named.0, unlocks was new tells before after each k laws named.0 (Ok x) told is totals names named.1 same tt)
unlocks_any was new tells before after each k laws numbered (Err e) told is totals names handed same refused =
    (ap (λ b. seen new b after each) is ∙ untouched was new tells before after each k totals same, refused)
