-- All that a process owns is freed, where nobody waits.
use Rattle.std.proofs.Common.{◌≡◌, ℕ, Bool, List, [], ◌∷◌, fold, slice_set, Option, None, option_map, refl, sym, ap, ◌∙◌, subst, length-set}
use Rattle.std.proofs.lemmas.List.{length-map, map-set}
use Rattle.mm_arena.specs.declared.key.Key.{Key}
use Rattle.mm_lists.specs.Members.{without}
use Rattle.mm_tagged_lists.specs.TaggedLists.{Listing, ListsMatchSpots, list_at, freed}
use Rattle.mm_rules.specs.declared.config.Config.{Config}
use Rattle.mm_rules.specs.TableState.{TableState, resources_of, waiters_of, wait_of, owns}
use Rattle.mm_rules.specs.Change.{give_to, hand_over}
use Rattle.mm_rules.specs.Laws.{Laws}
use Rattle.mm_rules.proofs.States.HandOverOrder.{any_order}
use Rattle.mm_rules.proofs.States.Lookups.{no_holder}
use Rattle.mm_lists.proofs.Lemmas.Range.{no_repeat_filter_range}
use Rattle.mm_settle_lemmas.specs.Touched.{IsUnchanged}
use Rattle.mm_settle_lemmas.specs.Steps.Vacating.{IsVacating}
use Rattle.mm_settle_lemmas.proofs.Lemmas.Touched.{touches_nobody}
use Rattle.mm_table.specs.declared.records.Records.TheInside.{Inside}
use Rattle.mm_table.specs.declared.labels.ProcessLabels.{ProcessLabels}
use Rattle.mm_table.specs.private.Records.{FieldsAreSized, IsConsistent, key_of, owners_of, state_of_records}
use Rattle.mm_table.proofs.Fields.Ownership.{owned_sized, listed, in_resources, of_resources}
use Rattle.mm_transactions.specs.Transactions.{Transactions}

-- with r owned by nobody
abbrev no_owner_at : List (Option Key) → ℕ → List (Option Key)
no_owner_at owners r = slice_set owners r None

-- where nobody waits, what is handed over is free
handed_one : (s : TableState) (r : ℕ) → s.waits ≡ [] → hand_over s r ≡ record s { owners = no_owner_at s.owners r }
handed_one s r none = ap (give_to s r) (nobody s r none)
  where
    nobody : (s : TableState) (r : ℕ) → s.waits ≡ [] → waiters_of s r ≡ []
    nobody s r none = rw none refl

handed_all : (rs : List ℕ) (s : TableState) → s.waits ≡ [] → fold hand_over s rs ≡ record s { owners = fold no_owner_at s.owners rs }
handed_all [] s none = refl
handed_all (r ∷ rs) s none = ap (λ t. fold hand_over t rs) (handed_one s r none) ∙ handed_all rs (record s { owners = no_owner_at s.owners r }) none

owners_freed : (rs : List ℕ) (o : Listing) → owners_of (fold freed o rs) ≡ fold no_owner_at (owners_of o) rs
owners_freed [] o = refl
owners_freed (r ∷ rs) o = owners_freed rs (freed o r) ∙ ap (λ os. fold no_owner_at os rs) (map-set (option_map key_of) o.spots r None)

pub all_freed_sized : {c : Config} {t : Transactions} {ls : List ProcessLabels} (rs : List ℕ) (o : Listing) → FieldsAreSized c t ls o → FieldsAreSized c t ls (fold freed o rs)
all_freed_sized [] o sizes = sizes
all_freed_sized (r ∷ rs) o sizes = all_freed_sized rs (freed o r) (owned_sized (freed o r) (length-map o.lists (without r)) (length-set o.spots r None) sizes)

-- the state then
pub all_freed_state : (t : Inside) (s : TableState) (n : ℕ) (o : Listing) → IsConsistent t → state_of_records t ≡ s → ListsMatchSpots t.owned → Laws s → s.waits ≡ [] → o ≡ fold freed t.owned (list_at t.owned n)
    → record s { owners = owners_of o } ≡ fold hand_over s (resources_of s n)
all_freed_state t s n o fits is matched laws none o_is =
    let list = list_at t.owned n in
    let lists = listed t s fits is matched in
    let owners : owners_of o ≡ fold no_owner_at s.owners list = ap owners_of o_is ∙ owners_freed list t.owned ∙ ap (λ (u : TableState). fold no_owner_at u.owners list) is in
    ap (λ os. record s { owners = os }) owners ∙ sym (handed_all list s none)
    ∙ any_order s list (resources_of s n) laws.lawful.well_formed.waits_once (matched.once n) (no_repeat_filter_range (owns s n) 0 s.config.resources)
    (λ r found. in_resources s t.owned lists n r found) (λ r found. of_resources s t.owned lists n r found)

-- and it changes nobody
pub all_freed_changes_nobody : (s : TableState) (n : ℕ) (rs : List ℕ) (set : List Bool) → s.waits ≡ [] → IsVacating s n (fold hand_over s rs) set set
all_freed_changes_nobody s n rs set none =
    let v : TableState = record s { owners = fold no_owner_at s.owners rs } in
    let idle : (u : TableState) (k : ℕ) → u.waits ≡ [] → wait_of u k ≡ None = λ u k e. rw e refl in
    let same : (k : ℕ) → IsUnchanged s v k = λ k. record {
      private = refl;
      public = refl;
      wait = refl;
      holder = no_holder v k (idle v k none) ∙ sym (no_holder s k (idle s k none));
      verdict = refl;
    } in
    subst (λ (u : TableState). IsVacating s n u set set) (sym (handed_all rs s none)) (record {
      touches = touches_nobody s v set same;
      held = λ k _. same k;
      idle = λ k _. same k;
    })
