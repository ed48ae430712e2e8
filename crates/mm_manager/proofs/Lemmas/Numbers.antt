-- Names and owners by number, after one of them changed.
use Rattle.std.proofs.Common.{◌≡◌, ◌↔◌, ◌<◌, ℕ, zero, suc, List, [], ◌∷◌, length, true, false, is_some, Option, Some, None, refl, sym, ap, ◌∙◌, inl, inr, arith, slice_set, slice_index_or, length-set, get_or-set_same, get_or-set_other}
use Rattle.std.proofs.lemmas.Bool.{cases_eq}
use Rattle.mm_arena.specs.declared.key.Key.{Key}
use Rattle.mm_lists.specs.Members.{Among}
use Rattle.mm_names.specs.Names.{NameTable, name_of, with_name}
use Rattle.mm_rules.specs.TableState.{TableState, owner_of}
use Rattle.mm_rules.specs.Laws.{Laws}
use Rattle.mm_manager.specs.private.Numbers.{AreNumbered}

-- what is some is not none
pub some_not_none : {X : Type 0} (o : Option X) (x : X) → o ≡ Some x → o ≡ None → ⊥
some_not_none o x some none = (let never : Some x ≡ None = sym some ∙ none in cc)

pub is_some_not_none : {X : Type 0} (o : Option X) → is_some o ≡ true → o ≡ None → ⊥
is_some_not_none o is none = (let never : true ≡ false = sym is ∙ ap is_some none in absurd (cc))

pub some_or_not : {X : Type 0} (o : Option X) → (o ≡ None → ⊥) → (x : X) × (o ≡ Some x)
some_or_not None some = absurd (some refl)
some_or_not (Some x) some = (x, refl)

module _ (s : TableState) (t : NameTable) (numbered : AreNumbered s t) where
  pub numbered_alike : (u : TableState) → u.owners ≡ s.owners → u.config ≡ s.config → AreNumbered u t
  numbered_alike u owners config = record {
    as_many = numbered.as_many ∙ ap (λ c. c.resources) (sym config);
    named = λ q. (
      λ none. ap (λ os. slice_index_or os q None) owners ∙ (numbered.named q).0 none,
      λ none. (numbered.named q).1 (ap (λ os. slice_index_or os q None) (sym owners) ∙ none),
    );
  }

  -- n has this owner, and this name or none
  pub numbered_set : Laws s → (n : ℕ) → n < length t.names → (o : Option Key) (name : Option (List ℕ)) → ((name ≡ None) ↔ (o ≡ None))
      → (u : TableState) → u.owners ≡ slice_set s.owners n o → u.config ≡ s.config → AreNumbered u (with_name t n name)
  numbered_set laws n in_names o name both u owners config =
      let within : n < length s.owners = omega (arith, in_names, numbered.as_many, laws.lawful.well_formed.sizes.owners) in
      let owner_at : (q : ℕ) → owner_of u q ≡ slice_index_or (slice_set s.owners n o) q None = λ q. ap (λ os. slice_index_or os q None) owners in
      record {
        as_many = length-set t.names n name ∙ numbered.as_many ∙ ap (λ c. c.resources) (sym config);
        named = λ q. elim (cases_eq q n) [
          | inl same ↦
              let owner_here : owner_of u q ≡ o = owner_at q ∙ ap (λ i. slice_index_or (slice_set s.owners n o) i None) same ∙ get_or-set_same s.owners n o None within in
              let name_here : name_of (with_name t n name) q ≡ name = ap (name_of (with_name t n name)) same ∙ get_or-set_same t.names n name None in_names in
              (λ none. owner_here ∙ both.0 (sym name_here ∙ none), λ none. name_here ∙ both.1 (sym owner_here ∙ none))
          | inr apart ↦
              let owner_there : owner_of u q ≡ owner_of s q = owner_at q ∙ get_or-set_other s.owners n q o None apart in
              let name_there : name_of (with_name t n name) q ≡ name_of t q = get_or-set_other t.names n q name None apart in
              (λ none. owner_there ∙ (numbered.named q).0 (sym name_there ∙ none), λ none. name_there ∙ (numbered.named q).1 (sym owner_there ∙ none))
        ];
      }

pub among_at : (ns : List ℕ) (i : ℕ) → i < length ns → Among (slice_index_or ns i 0) ns
among_at [] i within = absurd (omega (arith, within))
among_at (n ∷ ns) zero within = inl refl
among_at (n ∷ ns) (suc i) within = inr (among_at ns i (omega (arith, within)))
