-- What the ends, the links and the tags say of the queues.
use Rattle.std.proofs.Common.{◌≡◌, ℕ, suc, ◌<◌, ◌≤◌, List, [], ◌∷◌, Option, Some, None, length, map, get_or, slice_get, refl, sym, ap, subst, ◌∙◌, inl, inr, arith}
use Rattle.std.proofs.lemmas.Bool.{cases_lt}
use Rattle.std.proofs.lemmas.List.{get_or_past, get_or_default, get_or-map, length-map}
use Rattle.std.proofs.lemmas.Option.{none-some, same_Some}
use Rattle.mm_arena.specs.declared.key.Key.{Key}
use Rattle.mm_lists.specs.Members.{Among}
use Rattle.mm_lists.proofs.Lemmas.Among.{among_map_gives}
use Rattle.mm_lists.proofs.Lemmas.NoRepeat.{length-NoRepeat}
use Rattle.mm_links.specs.declared.links.Links.{Links}
use Rattle.mm_links.specs.Chain.{IsChain}
use Rattle.mm_links.proofs.Lemmas.Chain.{IsChain-kept, walk-IsChain}
use Rattle.mm_queue.specs.declared.ends.Ends.{Ends}
use Rattle.mm_queue.specs.Queues.{Queues, queue, StandsOnce}
use Rattle.mm_queue.specs.private.Linked.{tag_at, key_in, processes_of, ends_of, keys_along, AreLinked}

-- a list with a member is one of those that there are
pub list_in_range : (q : Queues) (list : ℕ) (key : Key) → Among key (queue q list) → list < length q.lists
list_in_range q list key among =
    elim (cases_lt list (length q.lists)) [
      | inl below ↦ below
      | inr past ↦ absurd (subst (Among key) (get_or_past q.lists list [] past) among)
    ]

pub tag_in_range : (tags : List (Option (Key × ℕ))) (p : ℕ) (tag : Key × ℕ) → tag_at tags p ≡ Some tag → p < length tags
tag_in_range tags p tag is =
    elim (cases_lt p (length tags)) [
      | inl below ↦ below
      | inr past ↦ absurd (none-some tag (sym (get_or_past tags p None past) ∙ is))
    ]

-- the keys of the processes are read off the tags
keys_read : (tags : List (Option (Key × ℕ))) (list : ℕ) (keys : List Key) → ((k : Key) → Among k keys → tag_at tags k.process ≡ Some (k, list)) → map (λ p. key_in p (tag_at tags p)) (processes_of keys) ≡ keys
keys_read tags list [] each = refl
keys_read tags list (k ∷ keys) each =
    let here : key_in k.process (tag_at tags k.process) ≡ k = ap (key_in k.process) (each k (inl refl)) in
    let rest = keys_read tags list keys (λ j later. each j (inr later)) in
    λ i. here i ∷ rest i

lists_read : (f : Ends → List Key) (lists : List (List Key)) → ((list : ℕ) → f (ends_of (get_or lists list [])) ≡ get_or lists list []) → map f (map ends_of lists) ≡ lists
lists_read f [] each = refl
lists_read f (keys ∷ lists) each = λ i. each 0 i ∷ lists_read f lists (λ list. each (suc list)) i

module _ (q : Queues) (ends : List Ends) (links : List Links) (tags : List (Option (Key × ℕ))) (linked : AreLinked q ends links tags) where
  pub in_range : (list : ℕ) (key : Key) → Among key (queue q list) → key.process < q.processes
  in_range list key among =
      omega (arith, linked.many_tags, tag_in_range tags key.process (key, list) ((linked.tagged list key).0 among))

  pub process_in_range : (list p : ℕ) → Among p (processes_of (queue q list)) → p < q.processes
  process_in_range list p among =
      let at : (k : Key) × Among k (queue q list) × (p ≡ k.process) = among_map_gives (λ (k : Key). k.process) (queue q list) p among in
      subst (λ n. n < q.processes) (sym at.2) (in_range list at.0 at.1)

  -- keys of one process have one tag
  same_tag : (a b : ℕ) (j k : Key) → Among j (queue q a) → Among k (queue q b) → j.process ≡ k.process → ◌≡◌ {A = Key × ℕ} (j, a) (k, b)
  same_tag a b j k there here same =
      same_Some _ _ (sym ((linked.tagged a j).0 there) ∙ ap (tag_at tags) same ∙ (linked.tagged b k).0 here)

  pub one_list : (a b : ℕ) (j k : Key) → Among j (queue q a) → Among k (queue q b) → j.process ≡ k.process → a ≡ b
  one_list a b j k there here same = ap (λ (tag : Key × ℕ). tag.1) (same_tag a b j k there here same)

  pub one_list_of : (a b p : ℕ) → Among p (processes_of (queue q a)) → Among p (processes_of (queue q b)) → a ≡ b
  one_list_of a b p there here =
      let j : (k : Key) × Among k (queue q a) × (p ≡ k.process) = among_map_gives (λ (k : Key). k.process) (queue q a) p there in
      let k : (k : Key) × Among k (queue q b) × (p ≡ k.process) = among_map_gives (λ (k : Key). k.process) (queue q b) p here in
      one_list a b j.0 k.0 j.1 k.1 (sym j.2 ∙ k.2)

  pub StandsOnce-linked : StandsOnce q
  StandsOnce-linked = record { one_list = one_list; no_repeat = linked.no_repeat; in_range = in_range }

  -- a process without a tag is in no list
  pub in_no_list : (p : ℕ) → tag_at tags p ≡ None → (list : ℕ) → Among p (processes_of (queue q list)) → ⊥
  in_no_list p none list among =
      let at : (k : Key) × Among k (queue q list) × (p ≡ k.process) = among_map_gives (λ (k : Key). k.process) (queue q list) p among in
      none-some (at.0, list) (sym none ∙ ap (tag_at tags) at.2 ∙ (linked.tagged list at.0).0 at.1)

  -- no list is longer than there are processes
  pub short : (list : ℕ) → length (queue q list) ≤ q.processes
  short list =
      omega (arith, length-map (queue q list) (λ (k : Key). k.process), length-NoRepeat (processes_of (queue q list)) q.processes (linked.no_repeat list) (process_in_range list))

  along : (list : ℕ) → keys_along links tags (ends_of (queue q list)) ≡ queue q list
  along list =
      let keys = queue q list in
      let few : length (processes_of keys) ≤ length keys = omega (arith, length-map keys (λ (k : Key). k.process)) in
      ap (map (λ p. key_in p (tag_at tags p))) (walk-IsChain links None (processes_of keys) (length keys) few (linked.chains list))
      ∙ keys_read tags list keys (λ k among. (linked.tagged list k).0 among)

  -- the keys along the links are the lists
  pub lists_seen : map (keys_along links tags) ends ≡ q.lists
  lists_seen = ap (map (keys_along links tags)) linked.at_ends ∙ lists_read (keys_along links tags) q.lists along

  pub length-ends : length ends ≡ length q.lists
  length-ends = ap length linked.at_ends ∙ length-map q.lists ends_of

  -- what a read of the ends gives
  pub ends_are : (list : ℕ) (e other : Ends) → list < length q.lists → e ≡ get_or ends list other → e ≡ ends_of (queue q list)
  ends_are list e other below read =
      read ∙ get_or_default ends list other (ends_of []) (omega (arith, length-ends))
      ∙ ap (λ es. get_or es list (ends_of [])) linked.at_ends ∙ get_or-map ends_of q.lists list [] (ends_of []) below

  -- where its processes keep their links, a list stays chained
  pub chain_kept : (new : List Links) (list : ℕ) → ((p : ℕ) → Among p (processes_of (queue q list)) → slice_get new p ≡ slice_get links p) → IsChain new None (processes_of (queue q list)) None
  chain_kept new list same = IsChain-kept links new None (processes_of (queue q list)) None same (linked.chains list)
