-- From numbers to names: requests and hand-overs.
use Rattle.std.proofs.Common.{◌≡◌, ℕ, List, Option, Some, None, is_some, if◌then◌else◌, inl, inr, refl, sym, ap, subst, ◌∙◌}
use Rattle.mm_arena.specs.declared.key.Key.{Key}
use Rattle.mm_names.specs.Names.{NameTable, name_of}
use Rattle.mm_rules.specs.TableState.{TableState, owner_of, wait_of}
use Rattle.mm_rules.specs.Laws.{Laws}
use Rattle.mm_rules.proofs.States.Lookups.{waits_here, held}
use Rattle.mm_manager.specs.LockState.{LockState}
use Rattle.mm_manager.specs.Calls.{Passes}
use Rattle.mm_manager.specs.private.HandsDown.{HandsDown}
use Rattle.mm_manager.specs.LockState.{KeepOwned}
use Rattle.mm_manager.proofs.Lemmas.Numbers.{some_not_none}

-- what is waited for has an owner
pub waited_is_owned : (s : TableState) → Laws s → (m q : ℕ) → wait_of s m ≡ Some q → (k : Key) × (owner_of s q ≡ Some k)
waited_is_owned s laws m q waits =
    let here = waits_here s m q waits in
    let holder = held s laws.lawful.well_formed here.wait here.among in
    (holder.0, ap (owner_of s) (sym here.resource) ∙ holder.1)

kept_name : (t : NameTable) (u : TableState) (named : NameTable) → KeepOwned t u named → (q : ℕ) (k : Key) → owner_of u q ≡ Some k → name_of named q ≡ name_of t q
kept_name t u named keep q k owned = keep.named q ∙ ap (λ o. if is_some o then name_of t q else None) owned

name_before_by : (t : NameTable) (u : TableState) (named : NameTable) → KeepOwned t u named → (q : ℕ) (name : List ℕ) (o : Option Key) → owner_of u q ≡ o → name_of named q ≡ Some name → name_of t q ≡ Some name
name_before_by t u named keep q name (Some k) is has = sym (kept_name t u named keep q k is) ∙ has
name_before_by t u named keep q name None is has = absurd (some_not_none (name_of named q) name has (keep.named q ∙ ap (λ o. if is_some o then name_of t q else None) is))

-- a name that is there was there before, of the same number
pub name_before : (t : NameTable) (u : TableState) (named : NameTable) → KeepOwned t u named → (q : ℕ) (name : List ℕ) → name_of named q ≡ Some name → name_of t q ≡ Some name
name_before t u named keep q name has = name_before_by t u named keep q name (owner_of u q) refl has

module _ (old new : LockState) (k : Key) (Loses : ℕ → Key → Type 0) (LosesName : Key → List ℕ → Type 0) (laws : Laws new.table)
    (down : HandsDown old.table k.process Loses new.granted new.table) (keep : KeepOwned old.names new.table new.names)
    (loses : (q : ℕ) (h : Key) (name : List ℕ) → name_of old.names q ≡ Some name → Loses q h → LosesName h name)
    (back : (q : ℕ) (h : Key) (name : List ℕ) → name_of old.names q ≡ Some name → LosesName h name → Loses q h) (each : new.names_each ≡ old.names_each) where
  pub passes : Passes old k LosesName new
  passes = record {
    keeps = λ h name owns kept.
        let owned = down.keeps owns.0 h owns.2 (λ lost. kept (loses owns.0 h name owns.1 lost)) in
        (owns.0, kept_name old.names new.table new.names keep owns.0 h owned ∙ owns.1, owned);
    gains = λ h name owns.
        let named = name_before old.names new.table new.names keep owns.0 name owns.1 in (
          λ lost. down.lost owns.0 h (back owns.0 h name named lost) owns.2,
          elim (down.gains owns.0 h owns.2) [
            | inl before ↦ inl (owns.0, named, before)
            | inr among ↦ inr (record { key = h; resource = owns.0 }, among, refl, named)
          ],
        );
    granted = λ h name granted.
        let g = granted.0 in (
          (g.resource, granted.3, ap (λ (i : Key). wait_of old.table i.process) (sym granted.2) ∙ down.waited g granted.1),
          λ kept.
              let owned : owner_of new.table g.resource ≡ Some g.key = down.owns g granted.1 (λ lost. kept (subst (λ i. LosesName i name) granted.2 (loses g.resource g.key name granted.3 lost))) in
              (g.resource, kept_name old.names new.table new.names keep g.resource g.key owned ∙ granted.3, owned ∙ ap Some granted.2),
        );
    goes_on = λ g name among waits. some_not_none (wait_of new.table g.key.process) waits.0 waits.2 (down.goes_on g among);
    waits = λ h name waits. (waits.0, name_before old.names new.table new.names keep waits.0 name waits.1, down.waits h.process waits.0 waits.2);
    ended = λ h name apart waits. elim (down.ended h.process waits.0 apart waits.2) [
      | inl still ↦
          let owner = waited_is_owned new.table laws h.process waits.0 still in
          inl (waits.0, kept_name old.names new.table new.names keep waits.0 owner.0 owner.1 ∙ waits.1, still)
      | inr g ↦ inr (g.0.key, g.2, (g.0, g.1, refl, ap (name_of old.names) g.3 ∙ waits.1))
    ];
    config = down.config;
    numbers = keep.numbers;
    name_bytes = keep.name_bytes;
    names_each = each;
  }
