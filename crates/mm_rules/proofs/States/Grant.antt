-- The grant of a resource without owner keeps the laws: nobody waits for that resource, so nobody's holder changes.
use Rattle.std.proofs.Common.{◌≡◌, ◌≢◌, ℕ, ◌<◌, length, slice_set, Option, Some, None, option_map, option_and_then, IsTrue, inl, inr, refl, sym, ap, ◌∙◌, length-set, get_or-set_same, get_or-set_other}
use Rattle.std.proofs.lemmas.Bool.{cases_eq, cases_lt}
use Rattle.std.proofs.lemmas.List.{set_past}
use Rattle.mm_arena.specs.declared.key.Key.{Key}
use Rattle.mm_lists.specs.Members.{Among}
use Rattle.mm_lists.proofs.Lemmas.Among.{all_at, all_from}
use Rattle.mm_rules.specs.TableState.{TableState, Wait, is_live, owner_of, wait_of, public_of, graph_of}
use Rattle.mm_rules.specs.Laws.{IsHeld, Laws}
use Rattle.mm_rules.proofs.States.IsSized.{same_lengths}
use Rattle.mm_rules.proofs.Graph.Change.{same_graph}
use Rattle.mm_rules.proofs.States.LabelOrder.{label_le_same}
use Rattle.mm_rules.proofs.States.Laws.{graph_lawful, laws_by}
use Rattle.mm_rules.proofs.States.Outcome.{KeepsLaws}

abbrev pub owned_by : TableState → ℕ → Option Key → TableState
owned_by s r o = record s { owners = slice_set s.owners r o }

pub owner_now : (s : TableState) (r : ℕ) (o : Option Key) → r < length s.owners → owner_of (owned_by s r o) r ≡ o
owner_now s r o inside = get_or-set_same s.owners r o None inside

pub owner_else : (s : TableState) (r q : ℕ) (o : Option Key) → q ≢ r → owner_of (owned_by s r o) q ≡ owner_of s q
owner_else s r q o apart = get_or-set_other s.owners r q o None apart

module _ (s : TableState) (r : ℕ) (o : Option Key) where
  -- the holder of a process is the same, since what it waits for is another resource
  pub holder_same : (n : ℕ) (waits : Option ℕ) → ((q : ℕ) → waits ≡ Some q → q ≢ r)
      → option_map (λ (k : Key). k.process) (option_and_then (owner_of (owned_by s r o)) waits) ≡ option_map (λ (k : Key). k.process) (option_and_then (owner_of s) waits)
  holder_same n None other = refl
  holder_same n (Some q) other = ap (option_map (λ (k : Key). k.process)) (owner_else s r q o (other q refl))

  -- where nobody waits for r, the wait-for graph is the same, whoever owns r
  pub unwaited_graph : ((n : ℕ) → wait_of s n ≢ Some r) → graph_of (owned_by s r o) ≡ graph_of s
  unwaited_graph nobody = same_graph (graph_of s) (graph_of (owned_by s r o)) refl (λ n. record {
    holder = holder_same n (wait_of s n) (λ q waits e. nobody n (waits ∙ ap Some e));
    private = refl;
    public = refl;
  })

  -- and the laws stay, if the new owner, where there is one, is live
  pub unwaited_keeps : ((n : ℕ) → wait_of s n ≢ Some r) → ((w : Wait) → Among w s.waits → w.resource ≢ r) → ((k : Key) → o ≡ Some k → IsTrue (is_live s k))
      → Laws s → KeepsLaws s (owned_by s r o)
  unwaited_keeps nobody none live laws =
      let graph : graph_of (owned_by s r o) ≡ graph_of s = unwaited_graph nobody in
      record {
        laws = laws_by (owned_by s r o)
            (record {
              config = laws.lawful.well_formed.config;
              sizes = same_lengths s _ laws.lawful.well_formed.sizes refl refl refl refl refl refl (length-set s.owners r o);
              owners = λ q k owned. elim (cases_eq q r) [
                | inl e ↦ elim (cases_lt r (length s.owners)) [
                  | inl inside ↦ live k (sym (owner_now s r o inside) ∙ ap (owner_of (owned_by s r o)) (sym e) ∙ owned)
                  | inr past ↦ laws.lawful.well_formed.owners q k (rw (set_past s.owners r o past) at owned)
                ]
                | inr apart ↦ laws.lawful.well_formed.owners q k (sym (owner_else s r q o apart) ∙ owned)
              ];
              waits = all_from _ s.waits (λ w among.
                  let was : IsTrue (is_live s w.key) × IsHeld s w = all_at (λ w. IsTrue (is_live s w.key) × IsHeld s w) s.waits w laws.lawful.well_formed.waits among in
                  (was.0, rw (owner_else s r w.resource o (none w among)) was.1));
              waits_once = laws.lawful.well_formed.waits_once;
              verdicts = laws.lawful.well_formed.verdicts;
              free = laws.lawful.well_formed.free;
              free_once = laws.lawful.well_formed.free_once;
            })
            (record { own = laws.lawful.private_labels.own; at_most_public = laws.lawful.private_labels.at_most_public })
            (record { made = laws.lawful.label_bounds.made; newest = laws.lawful.label_bounds.newest; limit = laws.lawful.label_bounds.limit })
            (rw graph (graph_lawful s laws))
            laws.lawful.counted
            (λ v verdict. rw graph ((laws.convicted v verdict).0, (laws.convicted v verdict).1));
        rise = λ n. label_le_same (public_of s n);
      }
