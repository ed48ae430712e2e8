-- Names that are locked one after another.
use Rattle.std.proofs.Common.{◌≡◌, ◌++◌, ◌+◌, ◌<◌, ℕ, List, [], ◌∷◌, length, take, drop, Option, Some, None, Ok, Err, inl, inr, refl, sym, ◌∙◌, subst}
use Rattle.std.proofs.Math.ListN.{get_or}
use Rattle.std.proofs.lemmas.List.{at_drop_more, map-append, map_more, take-append-drop}
use Rattle.std.specs.Borrow.{Bor}
use Rattle.mm_locks.specs.declared.error.LockError.{LockError}
use Rattle.mm_locks.specs.declared.session.Session.{Session}
use Rattle.mm_locks.specs.declared.tokens.Granted.{Granted}
use Rattle.mm_locks.specs.Told.{LocksEachSo, LocksSo, bytes_of}

module _ {R : Type 0} where
  pub each_then : (old mid new : Session R) (xs ys : List (List ℕ)) (refused : Option LockError) → LocksEachSo old xs None mid → LocksEachSo mid ys refused new → LocksEachSo old (xs ++ ys) refused new
  each_then old mid new [] ys refused first second = subst (λ (s : Session R). LocksEachSo s ys refused new) first.1 second
  each_then old mid new (x ∷ xs) ys refused (inl first) second = inl (first.0, first.1, first.2, each_then first.0 mid new xs ys refused first.3 second)
  each_then old mid new (x ∷ xs) ys refused (inr first) second = absurd (cc first.1)

  -- one name more
  pub each_more : (old mid new : Session R) (xs : List (List ℕ)) (x : List ℕ) (granted : Granted) → LocksEachSo old xs None mid → LocksSo mid x (Ok granted) new → LocksEachSo old (xs ++ x ∷ []) None new
  each_more old mid new xs x granted first second = each_then old mid new xs (x ∷ []) None first (inl (new, granted, second, (refl, refl)))

  -- the next name is refused
  pub each_refused : (old mid new : Session R) (xs ys : List (List ℕ)) (x : List ℕ) (error : LockError) → LocksEachSo old xs None mid → LocksSo mid x (Err error) new
      → LocksEachSo old (xs ++ x ∷ ys) (Some error) new
  each_refused old mid new xs ys x error first second = each_then old mid new xs (x ∷ ys) (Some error) first (inr (error, refl, second))

module _ {R : Type 0} (old mid new : Session R) (names : List (Bor (List ℕ))) (n : ℕ) (d : Bor (List ℕ)) (low : n < length names) (first : LocksEachSo old (bytes_of (take n names)) None mid) where
  -- the next of the names is locked
  pub goes_on_to : (granted : Granted) → LocksSo mid (get_or names n d).now (Ok granted) new → LocksEachSo old (bytes_of (take (n + 1) names)) None new
  goes_on_to granted locks =
      subst (λ (xs : List (List ℕ)). LocksEachSo old xs None new) (sym (map_more (λ (name : Bor (List ℕ)). name.now) names n d low))
      (each_more old mid new (bytes_of (take n names)) (get_or names n d).now granted first locks)

  -- the next of the names is refused
  pub stops_at : (error : LockError) → LocksSo mid (get_or names n d).now (Err error) new → LocksEachSo old (bytes_of names) (Some error) new
  stops_at error locks =
      let x = get_or names n d in
      let parts : take n names ++ x ∷ drop (n + 1) names ≡ names = sym (at_drop_more (λ (ys : List (Bor (List ℕ))). take n names ++ ys) names n d low) ∙ take-append-drop n names in
      subst (λ (ys : List (Bor (List ℕ))). LocksEachSo old (bytes_of ys) (Some error) new) parts
      (subst (λ (xs : List (List ℕ)). LocksEachSo old xs (Some error) new) (sym (map-append (λ (name : Bor (List ℕ)). name.now) (take n names) (x ∷ drop (n + 1) names)))
      (each_refused old mid new (bytes_of (take n names)) (bytes_of (drop (n + 1) names)) x.now error first locks))
