-- A raise leaves the greatest label along the waits of each process as it was, and where no raise applies that is the one shown.
use Rattle.std.specs.Prelude.{ℕ, ◌≡◌, ◌≤◌, List, [], ◌∷◌, ◌++◌, ⊤}
use Rattle.std.proofs.Common.{inl, inr, arith, sym, ◌∙◌, refl}
use Rattle.mm_rules.specs.Graph.{Graph, WaitsFor, Path, IsGreatest, IsSettled}
use Rattle.mm_rules.proofs.Graph.Change.{Raises}
use Rattle.mm_rules.proofs.Graph.Walks.{walk_again}
use Rattle.mm_rules.proofs.Graph.Raise.{raise_lowers_nothing, raised_shows, raise_keeps_path}
use Rattle.mm_rules.proofs.Graph.IsSettled.{falls_to}

pub settled_shows_greatest : (g : Graph) → IsSettled g → (k : ℕ) → IsGreatest g k (g.public k)
settled_shows_greatest g settled k = record { bound = falls_to g settled k; place = k; places = []; along = refl; met = refl }

-- a path with one more wait at its end
one_further : (g : Graph) (k : ℕ) (places : List ℕ) (n h : ℕ) → Path g k places n → WaitsFor g n h → Path g k (places ++ (h ∷ [])) h
one_further g k [] n h end waits = (tt, rw end waits, refl)
one_further g k (j ∷ places) n h path waits = (tt, path.1, one_further g j places n h path.2 waits)

module _ (g new : Graph) (n h : ℕ) (r : Raises g n h new) where
  path_before : (k : ℕ) (places : List ℕ) (m : ℕ) → Path new k places m → Path g k places m
  path_before = walk_again new g (λ i. ⊤) (λ i. ⊤) (λ i j waits t. (t, sym (r.holders i) ∙ waits))

  -- where a path leads to the one that is raised, it leads on to the holder
  path_to_holder : (k : ℕ) (places : List ℕ) (x : ℕ) → x ≡ n → Path g k places x → Path g k (places ++ (h ∷ [])) h
  path_to_holder k places x e path = one_further g k places x h path (rw e r.waits)

  bound_before : (k L : ℕ) → IsGreatest new k L → (places : List ℕ) (x : ℕ) → Path g k places x → g.public x ≤ L
  bound_before k L is places x path =
      let after : Path new k places x = raise_keeps_path g new n h r k places x path in
      omega (arith, raise_lowers_nothing g new n h r x, is.bound places x after)

  pub raise_made_no_greatest : (k L : ℕ) → IsGreatest new k L → IsGreatest g k L
  raise_made_no_greatest k L is =
      let along : Path g k is.places is.place = path_before k is.places is.place is.along in
      elim (raised_shows g new n h r is.place) [
        | inl now ↦ record {
          bound = bound_before k L is;
          place = h;
          places = is.places ++ (h ∷ []);
          along = path_to_holder k is.places is.place now.0 along;
          met = sym now.1 ∙ is.met;
        }
        | inr same ↦ record { bound = bound_before k L is; place = is.place; places = is.places; along = along; met = sym same.1 ∙ is.met }
      ]
