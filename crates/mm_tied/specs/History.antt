-- The history of all calls, in the order in which they had the lock.
use Rattle.std.specs.Prelude.{◌≡◌, ℕ, List, [], ◌∷◌, ◌++◌, nat_eq, if◌then◌else◌}
use Rattle.mm_tied.specs.declared.views.Told.{Told}
use Rattle.mm_tied.specs.declared.views.Stage.TheVariants.{Away, Holds}
use Rattle.mm_tied.specs.declared.views.View.{View}

module _ {E : Type 0} where
  abbrev pub told : ℕ → E → Told E
  told by e = record { by = by; event = e }

  -- these events, of one pass
  abbrev pub all_told : ℕ → List E → List (Told E)
  all_told by [] = []
  all_told by (e ∷ es) = told by e ∷ all_told by es

  -- what was told, whoever it is of
  abbrev pub events_of : List (Told E) → List E
  events_of [] = []
  events_of (x ∷ xs) = x.event ∷ events_of xs

  -- the events of one pass
  abbrev pub calls_by : ℕ → List (Told E) → List E
  calls_by by [] = []
  calls_by by (x ∷ xs) = if nat_eq x.by by then x.event ∷ calls_by by xs else calls_by by xs

  abbrev pub StartsWith : List (Told E) → List (Told E) → Type 0
  StartsWith log seen = (rest : List (Told E)) × (log ≡ seen ++ rest)

module _ {S E : Type 0} where
  abbrev pub away : List (Told E) → List E → View S E
  away seen mine = record { stage = Away; seen = seen; mine = mine }

  -- a pass that has made no call
  abbrev pub nobody : View S E
  nobody = away [] []

  -- with the lock, the history so far and the state that was found
  abbrev pub holding : View S E → List (Told E) → S → View S E
  holding v log found = record { stage = Holds log found; seen = v.seen; mine = v.mine }

module _ {S E : Type 0} (makes : S → E → S → Type 0) where
  -- the events lead from this state to that, one after another
  abbrev pub Chain : S → List E → S → Type 0
  Chain s [] t = s ≡ t
  Chain s (e ∷ es) t = (mid : S) × makes s e mid × Chain mid es t

  -- a history that the value could have with one thread
  abbrev pub IsLegal : S → List (Told E) → Type 0
  IsLegal first log = (last : S) × Chain first (events_of log) last

  module _ (first : S) (id : ℕ) where
    -- a pass that does not have the lock knows a beginning of the history, which is legal; its own events are all that the history has of it there
    pub record IsSound (v : View S E) : Type 0 where
      pub own : calls_by id v.seen ≡ v.mine
      pub legal : ∥ IsLegal first v.seen ∥₁
      pub away : v.stage ≡ Away

    -- one call: the history begins with all that the pass had seen, and ends with these events, which are the pass's and all that it made since
    pub record Extends (v : View S E) (es : List E) (w : View S E) : Type 0 where
      pub between : List (Told E)
      pub seen : w.seen ≡ (v.seen ++ between) ++ all_told id es
      pub mine : w.mine ≡ v.mine ++ es
      pub sound : IsSound w

    -- calls: the history begins with all that the pass had seen, and of the pass there are just these events more
    pub record Goes (v : View S E) (es : List E) (w : View S E) : Type 0 where
      pub seen : StartsWith w.seen v.seen
      pub mine : w.mine ≡ v.mine ++ es
      pub sound : IsSound w

    -- there is one history, which leads to this state; it begins with all that the pass had seen, and the pass's events are all that it has of it
    pub record LeadsTo (v : View S E) (last : S) : Type 0 where
      pub log : List (Told E)
      pub leads : Chain first (events_of log) last
      pub seen : StartsWith log v.seen
      pub own : calls_by id log ≡ v.mine
