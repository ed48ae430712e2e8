-- What a release grants: the resource to its longest waiter, or nothing.
use Rattle.std.proofs.Common.{◌≡◌, ◌<◌, ℕ, List, [], ◌∷◌, filter, nat_eq, Some, None, option_map, Ok, if◌then◌else◌, refl, sym, ap, ◌∙◌, arith}
use Rattle.std.specs.List.{filter_map, range_with_len, cons_option}
use Rattle.std.proofs.lemmas.Bool.{eq-eqb, ne_eqb, lt-ltb, not-false}
use Rattle.mm_arena.specs.declared.key.Key.{Key}
use Rattle.mm_lists.proofs.Lemmas.Range.{among_range, no_repeat_range}
use Rattle.mm_rules.specs.declared.reply.Released.{Released}
use Rattle.mm_rules.specs.declared.reply.Released.TheVariants.{Free, To}
use Rattle.mm_rules.specs.TableState.{TableState, Wait, owner_of, owns, waiters_of}
use Rattle.mm_rules.specs.Change.{hand_over}
use Rattle.mm_rules.specs.Event.{Release, Step, release_tests, release_answer}
use Rattle.mm_rules.specs.Laws.{Laws}
use Rattle.mm_rules.proofs.States.Release.{owns_gives}
use Rattle.mm_settled.specs.Grants.{grants}
use Rattle.mm_settled.specs.private.Lists.{given_to, given}
use Rattle.mm_settled.proofs.Lemmas.Accepted.{IsAccepted, accepted}
use Rattle.mm_settled.proofs.Lemmas.Ends.{HandsOn, release_hands_on, owner_in_range}
use Rattle.mm_settled.proofs.Lemmas.Grants.{given_are_grants}
use Rattle.mm_settled.proofs.Lemmas.HandsOn.{next_owner, hand_over_owner}
use Rattle.mm_settled.proofs.Lemmas.Numbers.{filter_one}

free_next : (ws : List Wait) → release_answer ws ≡ Free → next_owner ws ≡ None
free_next [] is = refl
free_next (w ∷ ws) is = absurd (cc)

to_next : (ws : List Wait) (h : Key) → release_answer ws ≡ To h → next_owner ws ≡ Some h
to_next [] h is = absurd (cc)
to_next (w ∷ ws) h is = (let same : w.key ≡ h = cc in ap Some same)

module _ (s t : TableState) (k : Key) (r : ℕ) (answer : Released) (laws : Laws s) (step : Step (Release k r) s (Ok answer) t) where
  done : IsAccepted Released (release_tests s k r) (release_answer (waiters_of s r)) (hand_over s r) answer t
  done = accepted (release_tests s k r) s (release_answer (waiters_of s r)) (hand_over s r) answer t step

  on : HandsOn s k.process (λ q. nat_eq q r) t
  on = release_hands_on s t k r answer laws step

  within : r < s.config.resources
  within =
      let owner = owns_gives s k.process r (not-false (owns s k.process r) done.passed.1.1.1.1.0) in
      owner_in_range s laws r owner.0 owner.1

  new_owner : owner_of t r ≡ next_owner (waiters_of s r)
  new_owner = ap (λ u. owner_of u r) done.state ∙ hand_over_owner s r (omega (arith, within, laws.lawful.well_formed.sizes.owners))

  -- the resource alone was handed over
  released_one : filter (λ q. nat_eq q r) (range_with_len 0 s.config.resources) ≡ r ∷ []
  released_one =
      filter_one (λ q. nat_eq q r) (range_with_len 0 s.config.resources) r (no_repeat_range 0 s.config.resources)
      (among_range 0 s.config.resources r (omega arith) (omega (arith, within))) (eq-eqb r r refl) (λ q apart. ne_eqb q r apart)

  given_one : given t r ≡ option_map (given_to r) (next_owner (waiters_of s r))
  given_one =
      ap (λ b. if b then option_map (given_to r) (owner_of t r) else None) (lt-ltb r t.config.resources (omega (arith, within, ap (λ c. c.resources) on.config)))
      ∙ ap (option_map (given_to r)) new_owner

  pub released_grants : grants s t ≡ cons_option (option_map (given_to r) (next_owner (waiters_of s r))) []
  released_grants =
      sym (given_are_grants s t k.process (λ q. nat_eq q r) laws on) ∙ ap (filter_map (given t)) released_one ∙ ap (λ o. cons_option o []) given_one

pub free_grants : (s t : TableState) (k : Key) (r : ℕ) → Laws s → Step (Release k r) s (Ok Free) t → grants s t ≡ []
free_grants s t k r laws step =
    let done = accepted (release_tests s k r) s (release_answer (waiters_of s r)) (hand_over s r) Free t step in
    released_grants s t k r Free laws step ∙ ap (λ o. cons_option (option_map (given_to r) o) []) (free_next (waiters_of s r) done.answer)

pub to_grants : (s t : TableState) (k : Key) (r : ℕ) (h : Key) → Laws s → Step (Release k r) s (Ok (To h)) t → grants s t ≡ record { key = h; resource = r } ∷ []
to_grants s t k r h laws step =
    let done = accepted (release_tests s k r) s (release_answer (waiters_of s r)) (hand_over s r) (To h) t step in
    released_grants s t k r (To h) laws step ∙ ap (λ o. cons_option (option_map (given_to r) o) []) (to_next (waiters_of s r) h done.answer)
