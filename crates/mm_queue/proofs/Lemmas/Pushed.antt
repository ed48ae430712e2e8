-- A key that is put last in a list.
use Rattle.std.proofs.Common.{◌≡◌, ◌≢◌, ℕ, ◌<◌, List, [], ◌∷◌, ◌++◌, Option, Some, None, length, length-set, set, slice_get, refl, sym, ap, subst, ◌∙◌, inl, inr, arith}
use Rattle.std.proofs.lemmas.Bool.{cases_eq}
use Rattle.std.proofs.lemmas.List.{get_or-set_same, get_or-set_other, map-set}
use Rattle.std.proofs.lemmas.Option.{same_Some}
use Rattle.mm_arena.specs.declared.key.Key.{Key}
use Rattle.mm_lists.specs.Members.{Among, NoRepeat}
use Rattle.mm_lists.proofs.Lemmas.Among.{among_append, among_left, among_right, among_map}
use Rattle.mm_lists.proofs.Lemmas.NoRepeat.{no_repeat_push}
use Rattle.mm_lists.proofs.Lemmas.Set.{get_or-set_cases, slice_get-set_other, slice_get-set_same}
use Rattle.mm_links.specs.declared.links.Links.{Links}
use Rattle.mm_links.specs.Links.{with_next}
use Rattle.mm_links.specs.Chain.{last_or, IsChain}
use Rattle.mm_links.proofs.Lemmas.Ends.{Among-last_or}
use Rattle.mm_links.proofs.Lemmas.Writes.{slice_get-with_next_other, length-with_next}
use Rattle.mm_links.proofs.Lemmas.Chain.{IsChain-append, IsChain-set, IsChain-new_after}
use Rattle.mm_queue.specs.declared.ends.Ends.{Ends}
use Rattle.mm_queue.specs.Queues.{Queues, queue, with_queue}
use Rattle.mm_queue.specs.private.Linked.{tag_at, processes_of, ends_of, AreLinked}
use Rattle.mm_queue.proofs.Lemmas.Ends.{processes_of-append}
use Rattle.mm_queue.proofs.Lemmas.AreLinked.{in_no_list, chain_kept, one_list_of}

-- the links with a process put after the last one of a list
abbrev pub put_last : List Links → ℕ → Option ℕ → List Links
put_last links p last = with_next (set links p (record { before = last; next = None })) last (Some p)

-- what is neither the process nor in the chain keeps its links
slice_get-put_last : (links : List Links) (p : ℕ) (xs : List ℕ) (r : ℕ) → r ≢ p → (Among r xs → ⊥) → slice_get (put_last links p (last_or None xs)) r ≡ slice_get links r
slice_get-put_last links p xs r other absent =
    slice_get-with_next_other (set links p _) (last_or None xs) (Some p) r (λ is. absent (Among-last_or xs r is))
    ∙ slice_get-set_other links r p _ other

-- and the chain ends with the process
IsChain-put_last : (links : List Links) (p : ℕ) (xs : List ℕ) → p < length links → (Among p xs → ⊥) → NoRepeat xs → IsChain links None xs None → IsChain (put_last links p (last_or None xs)) None (xs ++ p ∷ []) None
IsChain-put_last links p xs inside absent once chain =
    let link : Links = record { before = last_or None xs; next = None } in
    IsChain-append (put_last links p (last_or None xs)) None xs (p ∷ []) None
    (IsChain-new_after (set links p link) None xs None (Some p) once (IsChain-set links p link None xs None absent chain)) (
      slice_get-with_next_other (set links p link) (last_or None xs) (Some p) p (λ is. absent (Among-last_or xs p is))
          ∙ slice_get-set_same links p link inside,
      tt,
    )

module _ (q : Queues) (ends : List Ends) (links : List Links) (tags : List (Option (Key × ℕ))) (linked : AreLinked q ends links tags) (list : ℕ) (key : Key) (below : list < length q.lists) (inside : key.process < q.processes) (free : tag_at tags key.process ≡ None) where
  abbrev keys : List Key
  keys = queue q list

  abbrev xs : List ℕ
  xs = processes_of keys

  abbrev pushed : List Key
  pushed = keys ++ key ∷ []

  abbrev after : Queues
  after = with_queue q list pushed

  abbrev new_links : List Links
  new_links = put_last links key.process (last_or None xs)

  abbrev new_tags : List (Option (Key × ℕ))
  new_tags = set tags key.process (Some (key, list))

  absent : (m : ℕ) → Among key.process (processes_of (queue q m)) → ⊥
  absent = in_no_list q ends links tags linked key.process free

  apart : (m : ℕ) (j : Key) → Among j (queue q m) → j.process ≢ key.process
  apart m j among same =
      absent m (subst (λ p. Among p (processes_of (queue q m))) same (among_map (λ (k : Key). k.process) (queue q m) j among))

  chain_there : IsChain new_links None (processes_of pushed) None
  chain_there =
      subst (λ ys. IsChain new_links None ys None) (sym (processes_of-append keys (key ∷ [])))
      (IsChain-put_last links key.process xs (omega (arith, linked.many_links, inside)) (absent list) (linked.no_repeat list) (linked.chains list))

  chain_other : (m : ℕ) → m ≢ list → IsChain new_links None (processes_of (queue q m)) None
  chain_other m other =
      chain_kept q ends links tags linked new_links m
      (λ r among. slice_get-put_last links key.process xs r
      (λ same. absent m (subst (λ p. Among p (processes_of (queue q m))) same among))
      (λ there. other (one_list_of q ends links tags linked m list r among there)))

  tag_there : tag_at new_tags key.process ≡ Some (key, list)
  tag_there = get_or-set_same tags key.process (Some (key, list)) None (omega (arith, linked.many_tags, inside))

  tag_other : (p : ℕ) → p ≢ key.process → tag_at new_tags p ≡ tag_at tags p
  tag_other p other = get_or-set_other tags key.process p (Some (key, list)) None other

  tag_of : (m : ℕ) (j : Key) → Among j (queue after m) → tag_at new_tags j.process ≡ Some (j, m)
  tag_of m j =
      get_or-set_cases (λ ks. Among j ks → tag_at new_tags j.process ≡ Some (j, m)) q.lists list pushed [] m below
      (λ same among.
      elim (among_append keys (key ∷ []) j among) [
        | inl earlier ↦ tag_other j.process (apart list j earlier) ∙ (linked.tagged list j).0 earlier ∙ ap (λ n. Some (j, n)) (sym same)
        | inr here ↦ elim here [
          | inl is ↦ ap (λ (k : Key). tag_at new_tags k.process) is ∙ tag_there ∙ ap (λ k. Some (k, list)) (sym is) ∙ ap (λ n. Some (j, n)) (sym same)
          | inr never ↦ absurd never
        ]
      ])
      (λ _ among. tag_other j.process (apart m j among) ∙ (linked.tagged m j).0 among)

  -- the keys that were in the list keep their tags
  pub old_tag : (j : Key) → Among j keys → tag_at new_tags j.process ≡ Some (j, list)
  old_tag j among = tag_other j.process (apart list j among) ∙ (linked.tagged list j).0 among

  same_pair : (p m : ℕ) (j : Key) → p ≡ key.process → tag_at new_tags p ≡ Some (j, m) → ◌≡◌ {A = Key × ℕ} (key, list) (j, m)
  same_pair p m j same tag = same_Some _ _ (sym tag_there ∙ ap (tag_at new_tags) (sym same) ∙ tag)

  stands_at_tag : (m : ℕ) (j : Key) → tag_at new_tags j.process ≡ Some (j, m) → Among j (queue after m)
  stands_at_tag m j tag =
      elim (cases_eq j.process key.process) [
        | inl same ↦
            let is = same_pair j.process m j same tag in
            let there : Among key (queue after list) =
            subst (Among key) (sym (get_or-set_same q.lists list pushed [] below)) (among_right keys (key ∷ []) key (inl refl)) in
            subst (λ (t : Key × ℕ). Among t.0 (queue after t.1)) is there
        | inr other ↦
            let was : Among j (queue q m) = (linked.tagged m j).1 (sym (tag_other j.process other) ∙ tag) in
            get_or-set_cases (Among j) q.lists list pushed [] m below
            (λ e. among_left keys (key ∷ []) j (subst (λ n. Among j (queue q n)) e was)) (λ _. was)
      ]

  pub AreLinked-pushed : (e : Ends) → e ≡ ends_of pushed → AreLinked after (set ends list e) new_links new_tags
  AreLinked-pushed e is = record {
    at_ends =
        ap (set ends list) is ∙ ap (λ es. set es list (ends_of pushed)) linked.at_ends ∙ sym (map-set ends_of q.lists list pushed);
    chains = λ m. get_or-set_cases (λ ks. IsChain new_links None (processes_of ks) None) q.lists list pushed [] m below (λ _. chain_there) (chain_other m);
    no_repeat = λ m.
        get_or-set_cases (λ ks. NoRepeat (processes_of ks)) q.lists list pushed [] m below
        (λ _. no_repeat_push (λ (k : Key). k.process) keys key (linked.no_repeat list) (apart list)) (λ _. linked.no_repeat m);
    tagged = λ m j. (tag_of m j, stands_at_tag m j);
    own = λ p j m tag.
        elim (cases_eq p key.process) [
          | inl same ↦ ap (λ (t : Key × ℕ). t.0.process) (sym (same_pair p m j same tag)) ∙ sym same
          | inr other ↦ linked.own p j m (sym (tag_other p other) ∙ tag)
        ];
    many_links = length-with_next (set links key.process _) (last_or None xs) (Some key.process) ∙ length-set links key.process _ ∙ linked.many_links;
    many_tags = length-set tags key.process _ ∙ linked.many_tags;
    small = linked.small;
  }
