-- A walk through a queue: the processes that were passed, and those that are left.
use Rattle.std.proofs.Common.{◌≡◌, ℕ, ◌<◌, List, [], ◌∷◌, ◌++◌, map, nat_eq, inl, refl, ap, sym, subst, ◌∙◌}
use Rattle.std.proofs.lemmas.List.{append-nil, append_assoc}
use Rattle.mm_lists.specs.Members.{Among}
use Rattle.mm_lists.proofs.Lemmas.Among.{among_map_gives, among_right}
use Rattle.mm_lists.proofs.Lemmas.Filter.{filter_gives}
use Rattle.mm_rules.specs.TableState.{TableState, Wait, waiters_of}

abbrev pub process : Wait → ℕ
process w = w.key.process

-- the processes of those that wait for r, in order
abbrev pub queued : TableState → ℕ → List ℕ
queued s r = map process (waiters_of s r)

module _ (all passed left : List ℕ) (walked : all ≡ passed ++ left) where
  -- one more is passed
  pub walks_on : (n : ℕ) (rest : List ℕ) → left ≡ n ∷ rest → all ≡ (passed ++ n ∷ []) ++ rest
  walks_on n rest steps = walked ∙ ap (λ l. passed ++ l) steps ∙ sym (append_assoc passed (n ∷ []) rest)

  -- it is one of all
  pub walks_among : (n : ℕ) (rest : List ℕ) → left ≡ n ∷ rest → Among n all
  walks_among n rest steps = subst (Among n) (sym (walked ∙ ap (λ l. passed ++ l) steps)) (among_right passed (n ∷ rest) n (inl refl))

  -- none is left
  pub walks_through : left ≡ [] → passed ≡ all
  walks_through none = sym (walked ∙ ap (λ l. passed ++ l) none ∙ append-nil passed)

-- whoever is in a queue is one of the table's processes
pub queued_within : (s : TableState) (r n : ℕ) → ((w : Wait) → Among w s.waits → w.key.process < s.config.processes) → Among n (queued s r) → n < s.config.processes
queued_within s r n within among =
    let found = among_map_gives process (waiters_of s r) n among in
    subst (λ (m : ℕ). m < s.config.processes) (sym found.2) (within found.0 (filter_gives (λ v. nat_eq v.resource r) s.waits found.0 found.1).0)
