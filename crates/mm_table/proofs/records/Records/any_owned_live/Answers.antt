use Rattle.std.proofs.Common.{◌≡◌, ℕ, List, [], ◌∷◌, Option, Some, None, MatchOption, IsTrue, nat_eq, true, false, inl, refl, sym, ap, ◌∙◌}
use Rattle.std.proofs.lemmas.Bool.{and_parts, eq-eqb, eqb-true}
use Rattle.std.specs.Option.{option_map_or}
use Rattle.std.specs.Prelude.{slice_index, slice_index_or}
use Rattle.mm_arena.specs.declared.key.Key.{Key}
use Rattle.mm_lists.specs.Members.{Among, head}
use Rattle.mm_rules.specs.Laws.{Laws}
use Rattle.mm_rules.specs.TableState.{TableState, is_live, owner_of, owns}
use Rattle.mm_rules.proofs.States.Release.{owns_gives}
use Rattle.mm_tagged_lists.specs.TaggedLists.{Listing, list_at}
use Rattle.mm_table.proofs.Fields.Ownership.{Listed, listed, one_key}
use Rattle.mm_table.proofs.records.Records.any_owned_live.Goals as goal

none_among : (xs : List ℕ) (r : ℕ) → None ≡ head xs → Among r xs → ⊥
none_among [] r none among = among
none_among (x ∷ xs) r none among = cc

head_among : (xs : List ℕ) (r : ℕ) → Some r ≡ head xs → Among r xs
head_among [] r first = absurd (cc)
head_among (x ∷ xs) r first = let same : r ≡ x = cc in inl same

-- the first of the list of k's process
first_is : (s : TableState) (owned : Listing) (k : Key) → Listed s owned → Laws s → IsTrue (is_live s k) → (o : Option ℕ) → o ≡ head (list_at owned k.process)
    → MatchOption o ((r : ℕ) → ¬ (owner_of s r ≡ Some k)) (λ r. owner_of s r ≡ Some k)
first_is s owned k lists laws live None none = λ r is.
    let mine : owns s k.process r ≡ true = ap (λ o. option_map_or (λ (j : Key). nat_eq j.process k.process) o false) is ∙ eq-eqb k.process k.process refl in
    none_among (list_at owned k.process) r none (lists.all k.process r mine)
first_is s owned k lists laws live (Some r) first =
    let owner = owns_gives s k.process r (lists.mine k.process r (head_among (list_at owned k.process) r first)) in
    owner.1 ∙ ap Some (one_key s owner.0 k (laws.lawful.well_formed.owners r owner.0 owner.1) live owner.2)

pub returns : goal.returns
returns c =
    let s = c.args.self.now in
    let lists = listed c.self.inside s c.self.invariant c.self.view_is c.first.ensures.matched in
    first_is s c.self.inside.owned c.args.key lists c.requires.laws c.requires.live c.first.result c.first.ensures.first
