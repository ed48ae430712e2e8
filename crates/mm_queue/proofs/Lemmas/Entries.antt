-- The entries as links and tags, and what each call makes of them.
use Rattle.std.proofs.Common.{◌≡◌, ℕ, ◌+◌, ◌-◌, ◌<◌, ◌≤◌, true, cond, List, [], ◌∷◌, ◌++◌, Option, Some, None, is_some, length, length-append, map, set, get_or, slice_get, replicate, refl, sym, ap, subst, ◌∙◌, inl, arith, zero, suc}
use Rattle.std.specs.Option.{option_map, option_and_then}
use Rattle.std.proofs.lemmas.Bool.Decides.{nat_tests}
use Rattle.std.proofs.lemmas.List.{map-set, length-map, set-get_or, length-replicate}
use Rattle.std.proofs.lemmas.Option.{none-some, same_Some, cond_some, slice_get-get_or}
use Rattle.std.proofs.Math.ListN.{get_or-map}
use Rattle.mm_arena.specs.declared.key.Key.{Key}
use Rattle.mm_arena.specs.Shelf.{Entries, key_eq, entry_at, value_under, value_at, HasValue, with_stored}
use Rattle.mm_lists.specs.Members.{Among, NoRepeat, head}
use Rattle.mm_lists.proofs.Lemmas.Among.{among_right, among_map_gives}
use Rattle.mm_lists.proofs.Lemmas.Cut.{Cut, cut_at}
use Rattle.mm_links.specs.declared.links.Links.{Links}
use Rattle.mm_links.specs.Links.{unlinked, with_before, with_next, taken_out}
use Rattle.mm_links.specs.Chain.{head_or, last_or, first_with_next, IsChain}
use Rattle.mm_links.proofs.Lemmas.Ends.{Among-last_or}
use Rattle.mm_queue.specs.declared.standing.Standing.{Standing}
use Rattle.mm_queue.specs.declared.ends.Ends.{Ends}
use Rattle.mm_queue.specs.Queues.{Queues, queue, empty_queues, with_queue, Stands, IsOccupied}
use Rattle.mm_queue.specs.private.Linked.{HasEntry, links_in, tag_in, links_of, tags_of, tag_at, processes_of, ends_of, seen, AreLinked, AreConsistent}
use Rattle.mm_queue.proofs.Lemmas.Ends.{ends_pushed, ends_removed, head_or-head, head-none}
use Rattle.mm_queue.proofs.Lemmas.AreLinked.{tag_in_range, lists_seen, ends_are, short}
use Rattle.mm_queue.proofs.Lemmas.Pushed.{old_tag, AreLinked-pushed}
use Rattle.mm_queue.proofs.Lemmas.Removed.{among_key, links_are, tag_left, before_left, next_left, AreLinked-removed}

-- ---- what is read of the entries

same_key : (j k : Key) → key_eq j k ≡ true → j ≡ k
same_key j k is =
    let process : j.process ≡ k.process = grind (arith, nat_tests) in
    let generation : j.generation ≡ k.generation = grind (arith, nat_tests) in
    λ i. record { process = process i; generation = generation i }

key_eq-same : (k : Key) → key_eq k k ≡ true
key_eq-same k = grind (arith, nat_tests)

value_under-some : (key : Key) (o : Option (Key × Standing)) (e : Standing) → value_under key o ≡ Some e → o ≡ Some (key, e)
value_under-some key None e is = absurd (none-some e is)
value_under-some key (Some x) e is =
    let parts = cond_some (key_eq x.0 key) x.1 e is in
    ap (λ k. Some (k, x.1)) (same_key x.0 key parts.0) ∙ ap (λ y. Some (key, y)) parts.1

pub entry_read : (s : Entries Standing) (key : Key) (e : Standing) → value_at s key ≡ Some e → entry_at s key.process ≡ Some (key, e)
entry_read s key e is = value_under-some key (entry_at s key.process) e is

pub value_read : (s : Entries Standing) (key : Key) (e : Standing) → entry_at s key.process ≡ Some (key, e) → value_at s key ≡ Some e
value_read s key e is =
    ap (value_under key) is ∙ ap (λ b. cond b (Some e) None) (key_eq-same key)

tag_read : (s : Entries Standing) (p : ℕ) → tag_at (tags_of s) p ≡ tag_in (entry_at s p)
tag_read s p = get_or-map tag_in s p None

tag_in-some : (o : Option (Key × Standing)) (k : Key) (list : ℕ) → tag_in o ≡ Some (k, list) → (e : Standing) × (o ≡ Some (k, e)) × (e.list ≡ list)
tag_in-some None k list is = absurd (none-some (k, list) is)
tag_in-some (Some x) k list is =
    let same = same_Some _ _ is in
    (x.1, ap (λ j. Some (j, x.1)) (ap (λ (t : Key × ℕ). t.0) same), ap (λ (t : Key × ℕ). t.1) same)

pub entry_tagged : (s : Entries Standing) (p : ℕ) (k : Key) (list : ℕ) → tag_at (tags_of s) p ≡ Some (k, list) → (e : Standing) × (entry_at s p ≡ Some (k, e)) × (e.list ≡ list)
entry_tagged s p k list is = tag_in-some (entry_at s p) k list (sym (tag_read s p) ∙ is)

HasEntry-tagged : (s : Entries Standing) (p : ℕ) (k : Key) (list : ℕ) → tag_at (tags_of s) p ≡ Some (k, list) → k.process ≡ p → HasEntry s p
HasEntry-tagged s p k list is own =
    let at = entry_tagged s p k list is in
    ap (option_map (λ (x : Key × Standing). x.0.process)) at.1 ∙ ap Some own

tag_of_entry : (s : Entries Standing) (p : ℕ) (k : Key) (e : Standing) → entry_at s p ≡ Some (k, e) → tag_at (tags_of s) p ≡ Some (k, e.list)
tag_of_entry s p k e is = tag_read s p ∙ ap tag_in is

links_read : (s : Entries Standing) (p : ℕ) (k : Key) (e : Standing) → entry_at s p ≡ Some (k, e) → slice_get (links_of s) p ≡ Some e.links
links_read s p k e is =
    let inside : p < length (tags_of s) = tag_in_range (tags_of s) p (k, e.list) (tag_of_entry s p k e is) in
    slice_get-get_or (links_of s) p (links_in None) (omega (arith, inside, length-map s tag_in, length-map s links_in))
    ∙ ap Some (get_or-map links_in s p None ∙ ap links_in is)

append_one : (before : List Key) (key : Key) (after : List Key) → (before ++ key ∷ []) ++ after ≡ before ++ key ∷ after
append_one [] key after = refl
append_one (k ∷ before) key after = ap (λ ks. k ∷ ks) (append_one before key after)

-- an entry, of its key and of its value
entry_is : (o : Option (Key × Standing)) (key : Key) (e : Standing) → option_map (λ (x : Key × Standing). x.0) o ≡ Some key → option_map (λ (x : Key × Standing). x.1) o ≡ Some e → o ≡ Some (key, e)
entry_is None key e its_key its_value = absurd (none-some key its_key)
entry_is (Some x) key e its_key its_value = ap Some (λ i. (same_Some x.0 key its_key i, same_Some x.1 e its_value i))

-- ---- what one write leaves

-- a process with an entry has a value
pub has_value : (s : Entries Standing) (p : ℕ) → HasEntry s p → HasValue s p
has_value s p has = by (entry_at s p) has
  where
    by : (o : Option (Key × Standing)) → option_map (λ (x : Key × Standing). x.0.process) o ≡ Some p → is_some o ≡ true
    by None is = absurd (none-some p is)
    by (Some x) is = refl

-- of a value, the key that it is under
under : (o : Option (Key × Standing)) (e : Standing) → option_map (λ (x : Key × Standing). x.1) o ≡ Some e → (key : Key) × (o ≡ Some (key, e))
under None e is = absurd (none-some e is)
under (Some x) e is = (x.0, ap (λ y. Some (x.0, y)) (same_Some _ _ is))

module _ (s : Entries Standing) (p : ℕ) (e : Standing) (found : option_map (λ (x : Key × Standing). x.1) (entry_at s p) ≡ Some e) where
  there : (key : Key) × (entry_at s p ≡ Some (key, e))
  there = under (entry_at s p) e found

  abbrev with_links : Links → Entries Standing
  with_links links = with_stored s p (record { list = e.list; links = links })

  written : (links : Links) → with_links links ≡ set s p (Some (there.0, record { list = e.list; links = links }))
  written links = ap (λ o. set s p (option_map (λ (x : Key × Standing). (x.0, record { list = e.list; links = links })) o)) there.1

  links_written : (links : Links) → links_of (with_links links) ≡ set (links_of s) p links
  links_written links = ap links_of (written links) ∙ map-set links_in s p _

  pub next_written : (process new : Option ℕ) → process ≡ Some p → links_of (with_links (record { before = e.links.before; next = new })) ≡ with_next (links_of s) process new
  next_written process new is =
      links_written (record { before = e.links.before; next = new })
      ∙ ap (λ b. set (links_of s) p (record { before = b; next = new })) (sym (ap (option_and_then (λ (l : Links). l.before)) (links_read s p there.0 e there.1)))
      ∙ ap (λ o. with_next (links_of s) o new) (sym is)

  pub before_written : (process new : Option ℕ) → process ≡ Some p → links_of (with_links (record { before = new; next = e.links.next })) ≡ with_before (links_of s) process new
  before_written process new is =
      links_written (record { before = new; next = e.links.next })
      ∙ ap (λ n. set (links_of s) p (record { before = new; next = n })) (sym (ap (option_and_then (λ (l : Links). l.next)) (links_read s p there.0 e there.1)))
      ∙ ap (λ o. with_before (links_of s) o new) (sym is)

  pub tags_stay : (links : Links) → tags_of (with_links links) ≡ tags_of s
  tags_stay links =
      ap tags_of (written links) ∙ map-set tag_in s p _
      ∙ ap (set (tags_of s) p) (sym (tag_of_entry s p there.0 e there.1))
      ∙ set-get_or (tags_of s) p None

-- ---- what the fields keep

pub linked_now : (q : Queues) (ends : List Ends) (s : Entries Standing) → seen ends s ≡ q → AreConsistent ends s → AreLinked q ends (links_of s) (tags_of s)
linked_now q ends s is kept = subst (λ t. AreLinked t ends (links_of s) (tags_of s)) is kept

pub record IsShown (q : Queues) (ends : List Ends) (s : Entries Standing) : Type 0 where
  pub kept : AreConsistent ends s
  pub is : seen ends s ≡ q

pub shown : (q : Queues) (ends : List Ends) (s : Entries Standing) → AreLinked q ends (links_of s) (tags_of s) → IsShown q ends s
shown q ends s linked =
    let lists = lists_seen q ends (links_of s) (tags_of s) linked in
    let processes : length s ≡ q.processes = sym (length-map s links_in) ∙ linked.many_links in
    let is : seen ends s ≡ q = λ i. record { lists = lists i; processes = processes i } in
    record { kept = subst (λ t. AreLinked t ends (links_of s) (tags_of s)) (sym is) linked; is = is }

process_after : (after : List Key) → head_or (processes_of after) None ≡ option_map (λ k. k.process) (head after)
process_after [] = refl
process_after (k ∷ after) = refl

module _ (q : Queues) (ends : List Ends) (s : Entries Standing) (linked : AreLinked q ends (links_of s) (tags_of s)) where
  -- the tag of a value that is found
  tag_found : (key : Key) (e : Standing) → value_at s key ≡ Some e → tag_at (tags_of s) key.process ≡ Some (key, e.list)
  tag_found key e found = tag_of_entry s key.process key e (entry_read s key e found)

  pub among_found : (key : Key) (e : Standing) → value_at s key ≡ Some e → Among key (queue q e.list)
  among_found key e found = (linked.tagged e.list key).1 (tag_found key e found)

  pub not_found : (key : Key) → value_at s key ≡ None → Stands q key → ⊥
  not_found key none stands =
      let at = entry_tagged s key.process key stands.0 ((linked.tagged stands.0 key).0 stands.1) in
      none-some at.0 (sym none ∙ value_read s key at.0 at.1)

  -- the key of a process, where it stands in a list
  pub key_read : (list : ℕ) (k : Key) (p : ℕ) → Among k (queue q list) → k.process ≡ p → option_map (λ (x : Key × Standing). x.0) (entry_at s p) ≡ Some k
  key_read list k p among own =
      let at = entry_tagged s k.process k list ((linked.tagged list k).0 among) in
      ap (λ n. option_map (λ (x : Key × Standing). x.0) (entry_at s n)) (sym own) ∙ ap (option_map (λ (x : Key × Standing). x.0)) at.1

  -- a process in which no key stands has no tag
  pub occupied_tag : (p : ℕ) (o : Option (Key × Standing)) → entry_at s p ≡ o → (x : Key × Standing) → o ≡ Some x → IsOccupied q p
  occupied_tag p o is x some =
      let tag = tag_of_entry s p x.0 x.1 (is ∙ some) in
      let own = linked.own p x.0 x.1.list tag in
      (x.0, own, (x.1.list, (linked.tagged x.1.list x.0).1 (ap (tag_at (tags_of s)) own ∙ tag)))

  pub no_tag : (p : ℕ) → (IsOccupied q p → ⊥) → tag_at (tags_of s) p ≡ None
  no_tag p free = tag_read s p ∙ none_in (entry_at s p) refl
    where
      none_in : (o : Option (Key × Standing)) → entry_at s p ≡ o → tag_in o ≡ None
      none_in None is = refl
      none_in (Some x) is = absurd (free (occupied_tag p (Some x) is x refl))

  pub key_of_occupied : (p : ℕ) → IsOccupied q p → (k : Key) × (option_map (λ (x : Key × Standing). x.0) (entry_at s p) ≡ Some k)
  key_of_occupied p o = (o.0, key_read o.2.0 o.0 p o.2.1 o.1)

  pub occupied_some : (p : ℕ) → is_some (option_map (λ (x : Key × Standing). x.0) (entry_at s p)) ≡ true → IsOccupied q p
  occupied_some p is = some_in (entry_at s p) refl is
    where
      some_in : (o : Option (Key × Standing)) → entry_at s p ≡ o → is_some (option_map (λ (x : Key × Standing). x.0) o) ≡ true → IsOccupied q p
      some_in None same is = absurd (cc)
      some_in (Some x) same is = occupied_tag p (Some x) same x refl

  -- the key that follows, or is first
  pub first_read : (list : ℕ) (before after : List Key) (p : ℕ) → queue q list ≡ before ++ after → head_or (processes_of after) None ≡ Some p → option_map (λ (x : Key × Standing). x.0) (entry_at s p) ≡ head after
  first_read list before after p whole is =
      let at = head_or-head after p is in
      let among : Among at.0 (queue q list) =
      subst (Among at.0) (sym (whole ∙ ap (λ ks. before ++ ks) at.2)) (among_right before (at.0 ∷ at.1) at.0 (inl refl)) in
      key_read list at.0 p among at.3 ∙ sym (ap head at.2)

  module _ (list : ℕ) (before : List Key) (key : Key) (after : List Key) (whole : queue q list ≡ before ++ key ∷ after) (entry : Standing) (found : value_at s key ≡ Some entry) where
    next_is : entry.links.next ≡ head_or (processes_of after) None
    next_is =
        ap (λ (l : Links). l.next)
        (links_are q ends (links_of s) (tags_of s) linked list before key after whole entry.links (links_read s key.process key entry (entry_read s key entry found)))

    -- its link leads to the process of the key that follows
    pub links_next : entry.links.next ≡ option_map (λ k. k.process) (head after)
    links_next = next_is ∙ process_after after

    pub next_read_none : entry.links.next ≡ None → head after ≡ None
    next_read_none none = head-none after (sym next_is ∙ none)

    pub next_read : (p : ℕ) → entry.links.next ≡ Some p → option_map (λ (x : Key × Standing). x.0) (entry_at s p) ≡ head after
    next_read p is =
        first_read list (before ++ key ∷ []) after p (whole ∙ sym (append_one before key after)) (sym next_is ∙ is)

  -- what is read of a process is the value of the key that stands there
  pub value_there : (list : ℕ) (k : Key) (p : ℕ) (e : Standing) → Among k (queue q list) → k.process ≡ p → option_map (λ (x : Key × Standing). x.1) (entry_at s p) ≡ Some e → value_at s k ≡ Some e
  value_there list k p e among own is =
      value_read s k e (ap (entry_at s) own ∙ entry_is (entry_at s p) k e (key_read list k p among own) is)

  -- a key is kept under its own process
  pub its_process : (p : ℕ) (k : Key) → option_map (λ (x : Key × Standing). x.0) (entry_at s p) ≡ Some k → k.process ≡ p
  its_process p k is = by (entry_at s p) refl is
    where
      by : (o : Option (Key × Standing)) → entry_at s p ≡ o → option_map (λ (x : Key × Standing). x.0) o ≡ Some k → k.process ≡ p
      by None at none = absurd (none-some k none)
      by (Some x) at some = ap (λ (j : Key). j.process) (sym (same_Some _ _ some)) ∙ linked.own p x.0 x.1.list (tag_of_entry s p x.0 x.1 at)

  -- what is kept of the process of a key that stands in a list
  pub standing : (key : Key) → Stands q key → HasEntry s key.process
  standing key stands = HasEntry-tagged s key.process key stands.0 ((linked.tagged stands.0 key).0 stands.1) refl

  pub standing_value : (key : Key) → Stands q key → (x : Key × Standing) → entry_at s key.process ≡ Some x → value_at s key ≡ Some x.1
  standing_value key stands x is =
      let at = entry_tagged s key.process key stands.0 ((linked.tagged stands.0 key).0 stands.1) in
      let same : ◌≡◌ {A = Key × Standing} (key, at.0) x = same_Some _ _ (sym at.1 ∙ is) in
      value_read s key x.1 (at.1 ∙ ap (λ (y : Key × Standing). Some (key, y.1)) same)

  -- the first key of a list
  front_is : (list : ℕ) (e other : Ends) → list < length q.lists → e ≡ get_or ends list other → e.front ≡ head_or (processes_of (queue q list)) None
  front_is list e other below read = ap (λ (x : Ends). x.front) (ends_are q ends (links_of s) (tags_of s) linked list e other below read)

  pub front_has : (list : ℕ) (e other : Ends) → list < length q.lists → e ≡ get_or ends list other → (p : ℕ) → e.front ≡ Some p → HasEntry s p
  front_has list e other below read p is =
      let at = head_or-head (queue q list) p (sym (front_is list e other below read) ∙ is) in
      let among : Among at.0 (queue q list) = subst (Among at.0) (sym at.2) (inl refl) in
      HasEntry-tagged s p at.0 list (ap (tag_at (tags_of s)) (sym at.3) ∙ (linked.tagged list at.0).0 among) at.3

  pub front_none : (list : ℕ) (e other : Ends) → list < length q.lists → e ≡ get_or ends list other → e.front ≡ None → None ≡ head (queue q list)
  front_none list e other below read none =
      sym (head-none (queue q list) (sym (front_is list e other below read) ∙ none))

  pub front_some : (list : ℕ) (e other : Ends) → list < length q.lists → e ≡ get_or ends list other → (p : ℕ) → e.front ≡ Some p → (generation : ℕ) → option_map (λ (x : Key × Standing). x.0.generation) (entry_at s p) ≡ Some generation → Some (record { process = p; generation = generation }) ≡ head (queue q list)
  front_some list e other below read p is generation there =
      its_key (entry_at s p) refl there ∙ first_read list [] (queue q list) p refl (sym (front_is list e other below read) ∙ is)
    where
      its_key : (o : Option (Key × Standing)) → entry_at s p ≡ o → option_map (λ (x : Key × Standing). x.0.generation) o ≡ Some generation → Some (record { process = p; generation = generation }) ≡ option_map (λ (x : Key × Standing). x.0) (entry_at s p)
      its_key None at none = absurd (none-some generation none)
      its_key (Some x) at some =
          let own : x.0.process ≡ p = its_process p x.0 (ap (option_map (λ (y : Key × Standing). y.0)) at) in
          ap (λ n. Some (record { process = n; generation = generation })) (sym own)
          ∙ ap (λ n. Some (record { process = x.0.process; generation = n })) (sym (same_Some _ _ some)) ∙ sym (ap (option_map (λ (y : Key × Standing). y.0)) at)

  -- how many keys a list has
  pub len_small : (list : ℕ) (e other : Ends) → list < length q.lists → e ≡ get_or ends list other → e.len ≤ 1048576
  len_small list e other below read =
      let is = ends_are q ends (links_of s) (tags_of s) linked list e other below read in
      omega (arith, ap (λ (x : Ends). x.len) is, short q ends (links_of s) (tags_of s) linked list, linked.small)

  pub len_positive : (key : Key) (entry : Standing) (e other : Ends) → value_at s key ≡ Some entry → entry.list < length q.lists → e ≡ get_or ends entry.list other → 1 ≤ e.len
  len_positive key entry e other found below read =
      let is = ends_are q ends (links_of s) (tags_of s) linked entry.list e other below read in
      let parts = cut_at key (queue q entry.list) (among_found key entry found) in
      omega (arith, ap (λ (x : Ends). x.len) is, ap length parts.whole, length-append parts.earlier (key ∷ parts.later))

  -- ---- after a push

  module _ (list : ℕ) (key : Key) (below : list < length q.lists) (inside : key.process < q.processes) (free : IsOccupied q key.process → ⊥) (e other : Ends) (read : e ≡ get_or ends list other) (put : Entries Standing) (stored : put ≡ set s key.process (Some (key, record { list = list; links = record { before = e.back; next = None } }))) where
    e_is : e ≡ ends_of (queue q list)
    e_is = ends_are q ends (links_of s) (tags_of s) linked list e other below read

    none : tag_at (tags_of s) key.process ≡ None
    none = no_tag key.process free

    put_tags : tags_of put ≡ set (tags_of s) key.process (Some (key, list))
    put_tags = ap tags_of stored ∙ map-set tag_in s key.process _

    pub back_has_entry : (p : ℕ) → e.back ≡ Some p → HasEntry put p
    back_has_entry p is =
        let last : last_or None (processes_of (queue q list)) ≡ Some p = sym (ap (λ (x : Ends). x.back) e_is) ∙ is in
        let at : (k : Key) × Among k (queue q list) × (p ≡ k.process) =
        among_map_gives (λ (k : Key). k.process) (queue q list) p (Among-last_or (processes_of (queue q list)) p last) in
        let tag = pushed_tag at.0 at.1 in
        HasEntry-tagged put p at.0 list (ap (λ ts. tag_at ts p) put_tags ∙ ap (tag_at (set (tags_of s) key.process (Some (key, list)))) at.2 ∙ tag) (sym at.2)
      where
        pushed_tag : (k : Key) → Among k (queue q list) → tag_at (set (tags_of s) key.process (Some (key, list))) k.process ≡ Some (k, list)
        pushed_tag k among = old_tag q ends (links_of s) (tags_of s) linked list key below inside none k among

    pub shown_pushed : (front link : Option ℕ) (new : Entries Standing) → link ≡ Some key.process → front ≡ first_with_next e.front e.back link → links_of new ≡ with_next (links_of put) e.back link → tags_of new ≡ tags_of put
        → IsShown (with_queue q list (queue q list ++ key ∷ [])) (set ends list (record { front = front; back = link; len = e.len + 1 })) new
    shown_pushed front link new link_is front_is links tags =
        let written : Ends = record { front = front; back = link; len = e.len + 1 } in
        let ends_now : written ≡ ends_of (queue q list ++ key ∷ []) =
        ap (λ f. record { front = f; back = link; len = e.len + 1 }) front_is
        ∙ ap (λ l. record { front = first_with_next e.front e.back l; back = l; len = e.len + 1 }) link_is
        ∙ ap (λ (x : Ends). record { front = first_with_next x.front x.back (Some key.process); back = Some key.process; len = x.len + 1 }) e_is
        ∙ ends_pushed (queue q list) key in
        let last : Option ℕ = last_or None (processes_of (queue q list)) in
        let base : List Links = set (links_of s) key.process (record { before = last; next = None }) in
        let put_links : links_of put ≡ base =
        ap links_of stored ∙ map-set links_in s key.process _ ∙ ap (λ (x : Ends). set (links_of s) key.process (record { before = x.back; next = None })) e_is in
        let links_now : links_of new ≡ with_next base last (Some key.process) =
        links ∙ ap (λ ls. with_next ls e.back link) put_links
        ∙ ap (with_next base e.back) link_is ∙ ap (λ (x : Ends). with_next base x.back (Some key.process)) e_is in
        shown _ _ new (rw (links_now, tags ∙ put_tags)
        (AreLinked-pushed q ends (links_of s) (tags_of s) linked list key below inside none written ends_now))

  -- ---- after a removal

  module _ (key : Key) (entry : Standing) (found : value_at s key ≡ Some entry) (t : Entries Standing) (took_it : t ≡ set s key.process None) where
    pub cut : Cut key (queue q entry.list)
    cut = cut_at key (queue q entry.list) (among_found key entry found)

    took_links : links_of t ≡ set (links_of s) key.process (links_in None)
    took_links = ap links_of took_it ∙ map-set links_in s key.process None

    took_tags : tags_of t ≡ set (tags_of s) key.process None
    took_tags = ap tags_of took_it ∙ map-set tag_in s key.process None

    module _ (list : ℕ) (before after : List Key) (whole : queue q list ≡ before ++ key ∷ after) where
      pub same_list : list ≡ entry.list
      same_list =
          ap (λ (x : Key × ℕ). x.1) (same_Some _ _ (sym ((linked.tagged list key).0 (among_key q ends (links_of s) (tags_of s) linked list before key after whole)) ∙ tag_found key entry found))

      pub its_links : entry.links ≡ record { before = last_or None (processes_of before); next = head_or (processes_of after) None }
      its_links = links_are q ends (links_of s) (tags_of s) linked list before key after whole entry.links (links_read s key.process key entry (entry_read s key entry found))

      left_has_entry : (u : Entries Standing) → tags_of u ≡ tags_of t → (j : Key) → Among j (before ++ after) → (p : ℕ) → j.process ≡ p → HasEntry u p
      left_has_entry u tags j among p own =
          HasEntry-tagged u p j list
          (ap (λ ts. tag_at ts p) (tags ∙ took_tags) ∙ ap (tag_at (set (tags_of s) key.process None)) (sym own)
          ∙ tag_left q ends (links_of s) (tags_of s) linked list before key after whole j among) own

      pub before_has_entry : (u : Entries Standing) → tags_of u ≡ tags_of t → (p : ℕ) → entry.links.before ≡ Some p → HasEntry u p
      before_has_entry u tags p is =
          let at = before_left q ends (links_of s) (tags_of s) linked list before key after whole p (sym (ap (λ (l : Links). l.before) its_links) ∙ is) in
          left_has_entry u tags at.0 at.1 p at.2

      pub next_has_entry : (u : Entries Standing) → tags_of u ≡ tags_of t → (p : ℕ) → entry.links.next ≡ Some p → HasEntry u p
      next_has_entry u tags p is =
          let at = next_left q ends (links_of s) (tags_of s) linked list before key after whole p (sym (ap (λ (l : Links). l.next) its_links) ∙ is) in
          left_has_entry u tags at.0 at.1 p at.2

      pub shown_removed : (below : list < length q.lists) (e other : Ends) → e ≡ get_or ends entry.list other → (front back : Option ℕ) → front ≡ first_with_next e.front entry.links.before entry.links.next → back ≡ first_with_next e.back entry.links.next entry.links.before
          → (u new : Entries Standing) → links_of u ≡ with_next (links_of t) entry.links.before entry.links.next → tags_of u ≡ tags_of t → links_of new ≡ with_before (links_of u) entry.links.next entry.links.before → tags_of new ≡ tags_of u
          → IsShown (with_queue q list (before ++ after)) (set ends entry.list (record { front = front; back = back; len = e.len - 1 })) new
      shown_removed below e other read front back front_is back_is u new links_u tags_u links_new tags_new =
          let written : Ends = record { front = front; back = back; len = e.len - 1 } in
          let e_is : e ≡ ends_of (before ++ key ∷ after) =
          ends_are q ends (links_of s) (tags_of s) linked list e other below (read ∙ ap (λ n. get_or ends n other) (sym same_list)) ∙ ap ends_of whole in
          let by_links : written ≡ record { front = first_with_next e.front (last_or None (processes_of before)) (head_or (processes_of after) None); back = first_with_next e.back (head_or (processes_of after) None) (last_or None (processes_of before)); len = e.len - 1 } =
          ap (λ f. record { front = f; back = back; len = e.len - 1 }) front_is
          ∙ ap (λ b. record { front = first_with_next e.front entry.links.before entry.links.next; back = b; len = e.len - 1 }) back_is
          ∙ ap (λ (l : Links). record { front = first_with_next e.front l.before l.next; back = first_with_next e.back l.next l.before; len = e.len - 1 }) its_links in
          let ends_now : written ≡ ends_of (before ++ after) =
          by_links
          ∙ ap (λ (x : Ends). record { front = first_with_next x.front (last_or None (processes_of before)) (head_or (processes_of after) None); back = first_with_next x.back (head_or (processes_of after) None) (last_or None (processes_of before)); len = x.len - 1 }) e_is
          ∙ ends_removed before key after in
          let links_now : links_of new ≡ taken_out (links_of s) key.process (record { before = last_or None (processes_of before); next = head_or (processes_of after) None }) =
          links_new ∙ ap (λ ls. with_before ls entry.links.next entry.links.before) (links_u ∙ ap (λ ls. with_next ls entry.links.before entry.links.next) took_links)
          ∙ ap (taken_out (links_of s) key.process) its_links in
          subst (λ l. IsShown (with_queue q list (before ++ after)) (set ends l written) new) same_list
          (shown _ _ new (rw (links_now, tags_new ∙ tags_u ∙ took_tags)
          (AreLinked-removed q ends (links_of s) (tags_of s) linked list before key after whole written ends_now)))

-- ---- at first

slice_none : (n i : ℕ) → get_or (replicate {A = Option (Key × ℕ)} n None) i None ≡ None
slice_none zero i = refl
slice_none (suc n) zero = refl
slice_none (suc n) (suc i) = slice_none n i

no_queue : (n i : ℕ) → get_or (replicate {A = List Key} n []) i [] ≡ []
no_queue zero i = refl
no_queue (suc n) zero = refl
no_queue (suc n) (suc i) = no_queue n i

map-replicate : {X Y : Type 0} (f : X → Y) (x : X) (n : ℕ) → map f (replicate n x) ≡ replicate n (f x)
map-replicate f x zero = refl
map-replicate f x (suc n) = λ i. f x ∷ map-replicate f x n i

AreLinked-empty : (lists processes : ℕ) → processes ≤ 1048576 → AreLinked (empty_queues lists processes) (replicate lists (ends_of [])) (replicate processes unlinked) (replicate processes None)
AreLinked-empty lists processes small = record {
  at_ends = sym (map-replicate ends_of [] lists);
  chains = λ list. subst (λ ks. IsChain (replicate processes unlinked) None (processes_of ks) None) (sym (no_queue lists list)) tt;
  no_repeat = λ list. subst (λ ks. NoRepeat (processes_of ks)) (sym (no_queue lists list)) tt;
  tagged = λ list key. (
    λ among. absurd (subst (Among key) (no_queue lists list) among),
    λ tag. absurd (none-some (key, list) (sym (slice_none processes key.process) ∙ tag)),
  );
  own = λ p key list tag. absurd (none-some (key, list) (sym (slice_none processes p) ∙ tag));
  many_links = length-replicate processes unlinked;
  many_tags = length-replicate {A = Option (Key × ℕ)} processes None;
  small = small;
}

pub shown_empty : (lists processes : ℕ) (ends : List Ends) (s : Entries Standing) → ends ≡ replicate lists (ends_of []) → s ≡ replicate processes None → processes ≤ 1048576 → IsShown (empty_queues lists processes) ends s
shown_empty lists processes ends s ends_are_none s_is small =
    let links : links_of s ≡ replicate processes unlinked = ap links_of s_is ∙ map-replicate links_in None processes in
    let tags : tags_of s ≡ replicate processes None = ap tags_of s_is ∙ map-replicate tag_in None processes in
    shown _ _ s (rw (ends_are_none, links, tags) (AreLinked-empty lists processes small))
