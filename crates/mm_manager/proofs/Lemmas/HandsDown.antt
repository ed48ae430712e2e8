-- What one event leaves of owners and waits, by number.
use Rattle.std.proofs.Common.{◌≡◌, ◌⊎◌, ◌<◌, ℕ, Bool, true, false, List, [], ◌∷◌, Option, Some, None, Ok, IsTrue, option_and_then, if◌then◌else◌, nat_eq, inl, inr, refl, sym, ap, subst, ◌∙◌, arith, slice_index_or}
use Rattle.std.specs.Option.{option_map_or}
use Rattle.std.specs.List.{range_with_len}
use Rattle.std.proofs.lemmas.Bool.{cases_Bool, cases_eq, eq-eqb, ne_eqb, not-false}
use Rattle.std.proofs.lemmas.Option.{same_Some}
use Rattle.mm_arena.specs.declared.key.Key.{Key}
use Rattle.mm_lists.specs.Members.{Among}
use Rattle.mm_lists.proofs.Lemmas.Range.{among_range}
use Rattle.mm_rules.specs.declared.reply.Released.{Released}
use Rattle.mm_rules.specs.TableState.{TableState, is_live, owner_of, owns, wait_of, waited_for, waiters_of}
use Rattle.mm_rules.specs.Change.{hand_over}
use Rattle.mm_rules.specs.Event.{Event, Answer, Release, Finish, Settle, release_tests, release_answer}
use Rattle.mm_rules.specs.Laws.{Laws}
use Rattle.mm_rules.proofs.States.EventsKeepLaws.{event_keeps}
use Rattle.mm_rules.proofs.States.Lookups.{waits_here, held}
use Rattle.mm_rules.proofs.States.Release.{owns_gives}
use Rattle.mm_settled.specs.Calls.{Made, Rests}
use Rattle.mm_settled.specs.Grants.{waits_for, to_waiter, grant_of, grants, EndsWaits}
use Rattle.mm_settled.specs.declared.reply.Grant.{Grant}
use Rattle.mm_settled.proofs.Lemmas.Accepted.{accepted}
use Rattle.mm_settled.proofs.Lemmas.Ends.{HandsOn, release_hands_on, finish_hands_on, owner_in_range}
use Rattle.mm_settled.proofs.Lemmas.Grants.{filter_map_keeps}
use Rattle.mm_manager.specs.private.HandsDown.{HandsDown, IsEnding, IsReleased}
use Rattle.mm_manager.proofs.Lemmas.Numbers.{some_not_none}
use Rattle.mm_manager.proofs.Lemmas.Limits.{owner_owns}
use Rattle.mm_manager.proofs.Lemmas.Owners.{RestsAlike, rests_alike, not_mine, finish_was_live}
use Rattle.mm_manager.proofs.Lemmas.Requests.{owner_is_key}

-- the laws hold after it
rest_laws : (mid new : TableState) → Laws mid → Rests mid new → Laws new
rest_laws mid new laws (inl same) = subst (λ (t : TableState). Laws t) (sym same) laws
rest_laws mid new laws (inr settle) = (event_keeps Settle mid new (Ok settle.0) settle.1 laws).laws

pub made_laws : (e : Event) (s new : TableState) (answer : Answer e) → Laws s → Made e s answer new → Laws new
made_laws e s new answer laws made = rest_laws made.mid new (event_keeps e s made.mid (Ok answer) made.event laws).laws made.rests

-- who owns now what it waited for is listed
grant_by : (s u : TableState) (q : ℕ) (h : Key) → wait_of s h.process ≡ Some q → owner_of u q ≡ Some h → grant_of s u q ≡ Some (record { key = h; resource = q })
grant_by s u q h waited owned =
    let waits : waits_for s h.process q ≡ true = ap (λ o. option_map_or (nat_eq q) o false) waited ∙ eq-eqb q q refl in
    ap (option_and_then (to_waiter s q)) owned ∙ ap (λ b. if b then Some (record { key = h; resource = q }) else None) waits

grant_listed : (s u : TableState) (q : ℕ) (h : Key) → wait_of s h.process ≡ Some q → owner_of u q ≡ Some h → q < s.config.resources → Among (record { key = h; resource = q }) (grants s u)
grant_listed s u q h waited owned within =
    filter_map_keeps (grant_of s u) (range_with_len 0 s.config.resources) q (record { key = h; resource = q }) (among_range 0 s.config.resources q (omega arith) (omega (arith, within))) (grant_by s u q h waited owned)

-- an event by which the numbers that pass p are handed over, and nothing or a settle after it
module _ (s mid u : TableState) (n : ℕ) (p : ℕ → Bool) (Loses : ℕ → Key → Type 0) (granted : List Grant) (laws : Laws u) (on : HandsOn s n p mid) (rests : Rests mid u)
    (ends : EndsWaits s u n granted) (are : granted ≡ grants s u) (gone : (q : ℕ) (h : Key) → Loses q h → ¬ (owner_of mid q ≡ Some h)) (lost : (q : ℕ) (h : Key) → owner_of s q ≡ Some h → ¬ Loses q h → p q ≡ false) where
  alike : RestsAlike mid u
  alike = rests_alike mid u rests

  owner : (q : ℕ) → owner_of u q ≡ owner_of mid q
  owner q = ap (λ os. slice_index_or os q None) alike.owners

  wait : (m : ℕ) → wait_of u m ≡ wait_of mid m
  wait m = ap (λ ws. waited_for ws m) alike.waits

  all_config : u.config ≡ s.config
  all_config = alike.config ∙ on.config

  gained : (q : ℕ) (h : Key) → owner_of u q ≡ Some h → (owner_of s q ≡ Some h) ⊎ Among (record { key = h; resource = q }) granted
  gained q h owned = elim (cases_Bool (p q)) [
    | inl handed ↦ inr (subst (Among (record { key = h; resource = q })) (sym are)
        (grant_listed s u q h (on.handed q h handed (sym (owner q) ∙ owned)) owned (omega (arith, owner_in_range u laws q h owned, ap (λ c. c.resources) all_config))))
    | inr other ↦ inl (sym (on.others q other) ∙ sym (owner q) ∙ owned)
  ]

  waited_before : (m q : ℕ) → wait_of u m ≡ Some q → wait_of s m ≡ Some q
  waited_before m q waits = elim (cases_eq m n) [
    | inl same ↦ absurd (some_not_none (wait_of u m) q waits (ap (wait_of u) same ∙ wait n ∙ on.own))
    | inr apart ↦ elim (on.ended m apart) [
      | inl still ↦ sym still ∙ sym (wait m) ∙ waits
      | inr ended ↦ absurd (some_not_none (wait_of u m) q waits (wait m ∙ ended.goes_on))
    ]
  ]

  pub hands_down : HandsDown s n Loses granted u
  hands_down = record {
    config = all_config;
    keeps = λ q h owned kept. owner q ∙ on.others q (lost q h owned kept) ∙ owned;
    gains = gained;
    waits = waited_before;
    ended = λ m q apart waited. elim (on.ended m apart) [
      | inl still ↦ inl (wait m ∙ still ∙ waited)
      | inr over ↦ inr (ends.all m q apart waited (wait m ∙ over.goes_on))
    ];
    waited = λ g among. (ends.each g among).waited;
    goes_on = λ g among. (ends.each g among).goes_on;
    owns = λ g among kept. (ends.each g among).owns;
    lost = λ q h loses owned. gone q h loses (sym (owner q) ∙ owned);
    own = wait n ∙ on.own;
  }

other_key : (s : TableState) (k : Key) → Laws s → IsTrue (is_live s k) → (q : ℕ) (h : Key) → owner_of s q ≡ Some h → ¬ (h ≡ k) → owns s k.process q ≡ false
other_key s k laws live q h owned apart = not_mine s k q laws live (λ mine. apart (let same : Some h ≡ Some k = sym owned ∙ mine in cc))

-- nobody waits for what is its own
not_awaited : (s : TableState) (k : Key) (q : ℕ) → Laws s → owns s k.process q ≡ true → wait_of s k.process ≡ Some q → ⊥
not_awaited s k q laws mine waits =
    let here = waits_here s k.process q waits in
    let holder = held s laws.lawful.well_formed here.wait here.among in
    let owner = owns_gives s k.process q mine in
    let same : Some holder.0 ≡ Some owner.0 = sym holder.1 ∙ ap (owner_of s) here.resource ∙ owner.1 in
    let one : holder.0 ≡ owner.0 = cc in
    holder.2 (ap (λ (h : Key). h.process) one ∙ owner.2 ∙ sym here.process)

-- k owns nothing of what it handed over
gone_by : (s mid : TableState) (k : Key) (p : ℕ → Bool) (q : ℕ) → Laws s → HandsOn s k.process p mid → p q ≡ true → owns s k.process q ≡ true → ¬ (owner_of mid q ≡ Some k)
gone_by s mid k p q laws on handed mine owned = not_awaited s k q laws mine (on.handed q k handed owned)

gone_all : (s mid : TableState) (k : Key) (q : ℕ) → Laws s → HandsOn s k.process (owns s k.process) mid → ¬ (owner_of mid q ≡ Some k)
gone_all s mid k q laws on owned = elim (cases_Bool (owns s k.process q)) [
  | inl mine ↦ gone_by s mid k (owns s k.process) q laws on mine mine owned
  | inr other ↦ (let never : true ≡ false = sym (owner_owns s k q (sym (on.others q other) ∙ owned)) ∙ other in absurd (cc))
]

module _ (s u : TableState) (k : Key) (granted : List Grant) (laws : Laws s) (ends : EndsWaits s u k.process granted) (are : granted ≡ grants s u) where
  pub release_hands_down : (r : ℕ) (answer : Released) → Made (Release k r) s answer u → HandsDown s k.process (IsReleased k r) granted u
  release_hands_down r answer made =
      let done = accepted (release_tests s k r) s (release_answer (waiters_of s r)) (hand_over s r) answer made.mid made.event in
      let on = release_hands_on s made.mid k r answer laws made.event in
      let mine = not-false (owns s k.process r) done.passed.1.1.1.1.0 in
      let owner = owner_is_key s k r laws (not-false (is_live s k) done.passed.1.0) mine in
      hands_down s made.mid u k.process (λ q. nat_eq q r) (IsReleased k r) granted (made_laws (Release k r) s u answer laws made) on made.rests ends are
      (λ q h loses owned. gone_by s made.mid k (λ i. nat_eq i r) r laws on (eq-eqb r r refl) mine (ap (owner_of made.mid) (sym loses.1) ∙ owned ∙ ap Some loses.0))
      (λ q h owned apart. elim (cases_eq q r) [
        | inl same ↦ absurd (apart (let both : Some h ≡ Some k = sym owned ∙ ap (owner_of s) same ∙ owner in let key : h ≡ k = cc in (key, same)))
        | inr other ↦ ne_eqb q r other
      ])

  pub finish_hands_down : Made (Finish k) s tt u → HandsDown s k.process (IsEnding k) granted u
  finish_hands_down made =
      let on = finish_hands_on s made.mid k laws made.event in
      hands_down s made.mid u k.process (owns s k.process) (IsEnding k) granted (made_laws (Finish k) s u tt laws made) on made.rests ends are
      (λ q h loses owned. gone_all s made.mid k q laws on (owned ∙ ap Some loses))
      (other_key s k laws (finish_was_live s made.mid k made.event))

in_none : {P : Type 0} (gs : List Grant) (g : Grant) → gs ≡ [] → Among g gs → P
in_none [] g is among = absurd among
in_none (x ∷ gs) g is among = (let never : x ∷ gs ≡ [] = is in absurd (cc))

-- what a transaction owned that ends nobody owns after that, where the end grants nothing
module _ (s u : TableState) (k : Key) (granted : List Grant) (down : HandsDown s k.process (IsEnding k) granted u) (none : granted ≡ []) (q : ℕ) (owned : owner_of s q ≡ Some k) where
  nobody_by : (o : Option Key) → owner_of u q ≡ o → o ≡ None
  nobody_by None is = refl
  nobody_by (Some h) is = elim (down.gains q h is) [
    | inl before ↦ absurd (down.lost q h (same_Some h k (sym before ∙ owned)) is)
    | inr among ↦ in_none granted (record { key = h; resource = q }) none among
  ]

  pub nobody_owns : owner_of u q ≡ None
  nobody_owns = nobody_by (owner_of u q) refl
