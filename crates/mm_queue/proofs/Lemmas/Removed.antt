-- A key that is taken out of its list.
use Rattle.std.proofs.Common.{◌≡◌, ◌≢◌, ℕ, ◌<◌, List, [], ◌∷◌, ◌++◌, Option, Some, None, length, length-set, set, slice_get, refl, sym, ap, subst, ◌∙◌, inl, inr, arith}
use Rattle.std.proofs.lemmas.Bool.{cases_eq}
use Rattle.std.proofs.lemmas.List.{get_or-set_same, get_or-set_other, map-set}
use Rattle.std.proofs.lemmas.Option.{none-some, same_Some}
use Rattle.mm_arena.specs.declared.key.Key.{Key}
use Rattle.mm_lists.specs.Members.{Among, NoRepeat, without}
use Rattle.mm_lists.proofs.Lemmas.Among.{among_left, among_right, among_map, among_map_gives}
use Rattle.mm_lists.proofs.Lemmas.Cut.{AreApart-cut, without-cut, among_around, among_around_gives, no_repeat_around}
use Rattle.mm_lists.proofs.Lemmas.Set.{get_or-set_cases}
use Rattle.mm_links.specs.declared.links.Links.{Links}
use Rattle.mm_links.specs.Links.{taken_out}
use Rattle.mm_links.specs.Chain.{head_or, last_or, IsChain}
use Rattle.mm_links.proofs.Lemmas.Ends.{Among-head_or, Among-last_or}
use Rattle.mm_links.proofs.Lemmas.Chain.{IsCutChain, IsChain-cut}
use Rattle.mm_links.proofs.Lemmas.TakenOut.{length-taken_out, links_there, slice_get-there, slice_get-taken_out, IsChain-taken_out}
use Rattle.mm_queue.specs.declared.ends.Ends.{Ends}
use Rattle.mm_queue.specs.Queues.{Queues, queue, with_queue}
use Rattle.mm_queue.specs.private.Linked.{tag_at, processes_of, ends_of, AreLinked}
use Rattle.mm_queue.proofs.Lemmas.Ends.{processes_of-append}
use Rattle.mm_queue.proofs.Lemmas.AreLinked.{list_in_range, in_range, one_list, one_list_of, chain_kept}

module _ (q : Queues) (ends : List Ends) (links : List Links) (tags : List (Option (Key × ℕ))) (linked : AreLinked q ends links tags) (list : ℕ) (before : List Key) (key : Key) (after : List Key) (whole : queue q list ≡ before ++ key ∷ after) where
  abbrev xs : List ℕ
  xs = processes_of before

  abbrev ys : List ℕ
  ys = processes_of after

  abbrev zs : List ℕ
  zs = processes_of (queue q list)

  abbrev left : List Key
  left = before ++ after

  abbrev rest : Queues
  rest = with_queue q list left

  parts : zs ≡ xs ++ key.process ∷ ys
  parts = ap processes_of whole ∙ processes_of-append before (key ∷ after)

  left_parts : processes_of left ≡ xs ++ ys
  left_parts = processes_of-append before after

  pub among_key : Among key (queue q list)
  among_key = subst (Among key) (sym whole) (among_right before (key ∷ after) key (inl refl))

  among_process : Among key.process zs
  among_process = among_map (λ (k : Key). k.process) (queue q list) key among_key

  pub list_below : list < length q.lists
  list_below = list_in_range q list key among_key

  inside : key.process < q.processes
  inside = in_range q ends links tags linked list key among_key

  -- what the key is linked to
  abbrev pub had : Links
  had = record { before = last_or None xs; next = head_or ys None }

  cut : IsCutChain links None xs key.process ys None
  cut = IsChain-cut links None xs key.process ys None (subst (λ ps. IsChain links None ps None) parts (linked.chains list))

  had_is : links_there links key.process zs among_process (linked.no_repeat list) (linked.chains list) ≡ had
  had_is =
      same_Some _ _ (sym (slice_get-there links key.process zs among_process (linked.no_repeat list) (linked.chains list)) ∙ cut.link)

  -- its links, as they are read
  pub links_are : (l : Links) → slice_get links key.process ≡ Some l → l ≡ had
  links_are l is = same_Some _ _ (sym is ∙ cut.link)

  abbrev new_links : List Links
  new_links = taken_out links key.process had

  abbrev new_tags : List (Option (Key × ℕ))
  new_tags = set tags key.process None

  around : NoRepeat (xs ++ ys) × (Among key.process (xs ++ ys) → ⊥)
  around = no_repeat_around key.process xs ys (subst NoRepeat parts (linked.no_repeat list))

  -- no key of the process is left
  gone : (j : Key) → Among j left → j.process ≢ key.process
  gone j among same =
      around.1 (subst (Among key.process) left_parts (subst (λ p. Among p (processes_of left)) same (among_map (λ (k : Key). k.process) left j among)))

  chain_there : IsChain new_links None (processes_of left) None
  chain_there =
      let without_it : without key.process zs ≡ processes_of left =
      ap (without key.process) parts ∙ without-cut xs key.process ys (AreApart-cut xs key.process ys (subst NoRepeat parts (linked.no_repeat list))) ∙ sym left_parts in
      subst (λ l. IsChain (taken_out links key.process l) None (processes_of left) None) had_is
      (subst (λ ps. IsChain (taken_out links key.process (links_there links key.process zs among_process (linked.no_repeat list) (linked.chains list))) None ps None) without_it
      (IsChain-taken_out links key.process zs among_process (linked.no_repeat list) (linked.chains list)))

  kept : (p : ℕ) → (Among p zs → ⊥) → slice_get new_links p ≡ slice_get links p
  kept p elsewhere =
      subst (λ l. slice_get (taken_out links key.process l) p ≡ slice_get links p) had_is
      (slice_get-taken_out links key.process zs among_process (linked.no_repeat list) (linked.chains list) p elsewhere)

  chain_other : (m : ℕ) → m ≢ list → IsChain new_links None (processes_of (queue q m)) None
  chain_other m other =
      chain_kept q ends links tags linked new_links m
      (λ p among. kept p (λ there. other (one_list_of q ends links tags linked m list p among there)))

  tag_there : tag_at new_tags key.process ≡ None
  tag_there = get_or-set_same tags key.process None None (omega (arith, linked.many_tags, inside))

  tag_other : (p : ℕ) → p ≢ key.process → tag_at new_tags p ≡ tag_at tags p
  tag_other p other = get_or-set_other tags key.process p None None other

  -- the keys that are left in the list keep their tags
  pub tag_left : (j : Key) → Among j left → tag_at new_tags j.process ≡ Some (j, list)
  tag_left j among =
      tag_other j.process (gone j among) ∙ (linked.tagged list j).0 (subst (Among j) (sym whole) (among_around j key before after among))

  tag_of : (m : ℕ) (j : Key) → Among j (queue rest m) → tag_at new_tags j.process ≡ Some (j, m)
  tag_of m j =
      get_or-set_cases (λ ks. Among j ks → tag_at new_tags j.process ≡ Some (j, m)) q.lists list left [] m list_below
      (λ same among. tag_left j among ∙ ap (λ n. Some (j, n)) (sym same))
      (λ other among.
      tag_other j.process (λ same. other (one_list q ends links tags linked m list j key among among_key same)) ∙ (linked.tagged m j).0 among)

  none_there : (p m : ℕ) (j : Key) → p ≡ key.process → tag_at new_tags p ≡ Some (j, m) → ⊥
  none_there p m j same tag = none-some (j, m) (sym tag_there ∙ ap (tag_at new_tags) (sym same) ∙ tag)

  stands_at_tag : (m : ℕ) (j : Key) → tag_at new_tags j.process ≡ Some (j, m) → Among j (queue rest m)
  stands_at_tag m j tag =
      elim (cases_eq j.process key.process) [
        | inl same ↦ absurd (none_there j.process m j same tag)
        | inr other ↦
            let was : Among j (queue q m) = (linked.tagged m j).1 (sym (tag_other j.process other) ∙ tag) in
            get_or-set_cases (Among j) q.lists list left [] m list_below
            (λ e.
            elim (among_around_gives j key before after (subst (Among j) (ap (queue q) e ∙ whole) was)) [
              | inl is ↦ absurd (other (ap (λ (k : Key). k.process) is))
              | inr among ↦ among
            ])
            (λ _. was)
      ]

  pub AreLinked-removed : (e : Ends) → e ≡ ends_of left → AreLinked rest (set ends list e) new_links new_tags
  AreLinked-removed e is = record {
    at_ends =
        ap (set ends list) is ∙ ap (λ es. set es list (ends_of left)) linked.at_ends ∙ sym (map-set ends_of q.lists list left);
    chains = λ m. get_or-set_cases (λ ks. IsChain new_links None (processes_of ks) None) q.lists list left [] m list_below (λ _. chain_there) (chain_other m);
    no_repeat = λ m.
        get_or-set_cases (λ ks. NoRepeat (processes_of ks)) q.lists list left [] m list_below
        (λ _. subst NoRepeat (sym left_parts) around.0) (λ _. linked.no_repeat m);
    tagged = λ m j. (tag_of m j, stands_at_tag m j);
    own = λ p j m tag.
        elim (cases_eq p key.process) [
          | inl same ↦ absurd (none_there p m j same tag)
          | inr other ↦ linked.own p j m (sym (tag_other p other) ∙ tag)
        ];
    many_links = length-taken_out links key.process had ∙ linked.many_links;
    many_tags = length-set tags key.process None ∙ linked.many_tags;
    small = linked.small;
  }

  -- the neighbours have keys that are left
  pub before_left : (p : ℕ) → had.before ≡ Some p → (j : Key) × Among j left × (j.process ≡ p)
  before_left p is =
      let at : (k : Key) × Among k before × (p ≡ k.process) = among_map_gives (λ (k : Key). k.process) before p (Among-last_or xs p is) in
      (at.0, among_left before after at.0 at.1, sym at.2)

  pub next_left : (p : ℕ) → had.next ≡ Some p → (j : Key) × Among j left × (j.process ≡ p)
  next_left p is =
      let at : (k : Key) × Among k after × (p ≡ k.process) = among_map_gives (λ (k : Key). k.process) after p (Among-head_or ys p is) in
      (at.0, among_right before after at.0 at.1, sym at.2)
