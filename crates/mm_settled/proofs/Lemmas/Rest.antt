-- After a call by which resources are handed over the table is at rest again, and what it tells is true of the whole call.
use Rattle.std.proofs.Common.{◌≡◌, ◌≢◌, ◌↔◌, ◌<◌, ◌+◌, ◌^◌, ℕ, Bool, true, false, List, None, Ok, is_some, slice_index_or, inl, inr, refl, sym, ap, subst, ◌∙◌, arith}
use Rattle.std.specs.Prelude.{nat_lt}
use Rattle.std.proofs.lemmas.Bool.{cases_Bool, and_parts, ltb-true, lt-leb}
use Rattle.mm_rules.specs.TableState.{TableState, owner_of, wait_of, waited_for, has_verdict}
use Rattle.mm_rules.specs.Event.{Event, Settle, Answer, Step, counts_exhausted}
use Rattle.mm_rules.specs.Laws.{Laws, AtRest, Counts, verdicts_made}
use Rattle.mm_rules.specs.Victims.{BeginsWait}
use Rattle.mm_rules.specs.TakeBack.{HasNoVictim}
use Rattle.std.proofs.Math.Decide.{ℕ_discrete}
use Rattle.mm_rules.proofs.States.Config.{event_config}
use Rattle.mm_rules.proofs.States.Counts.{event_counts}
use Rattle.mm_rules.proofs.States.EventsKeepLaws.{event_keeps}
use Rattle.mm_rules.proofs.States.Lookups.{holder_within}
use Rattle.mm_rules.proofs.States.NoVictim.{others_have_no_victim}
use Rattle.mm_rules.proofs.States.Outcome.{KeepsLaws}
use Rattle.mm_rules.proofs.States.Rest.{rest_stays}
use Rattle.mm_rules.proofs.States.Settle.{settle_gives_rest}
use Rattle.mm_rules.proofs.States.SettleKeeps.{SettleKeeps, settle_keeps}
use Rattle.mm_settle_lemmas.specs.Touched.{is_changed, changed_processes}
use Rattle.mm_settle_lemmas.specs.Shown.{IdleShowTheSame}
use Rattle.mm_settle_lemmas.proofs.Lemmas.Told.{unchanged_is}
use Rattle.mm_settled.specs.Calls.{has_room, NoneWaits, Rests, Made}
use Rattle.mm_settled.specs.Grants.{grants, EndsWaits}
use Rattle.mm_settled.specs.declared.reply.Grant.{Grant}
use Rattle.mm_settled.specs.private.Lists.{ComesToRest}
use Rattle.mm_settled.proofs.Lemmas.Changed.{listed_changed}
use Rattle.mm_settled.proofs.Lemmas.Ends.{HandsOn}
use Rattle.mm_settled.proofs.Lemmas.Grants.{grants_alike, ends_waits}

-- after an accepted event that gives no verdict a settle can be counted
pub room_left : (e : Event) (old mid : TableState) (answer : Answer e) → Step e old (Ok answer) mid → verdicts_made e answer ≡ 0 → has_room old ≡ true → counts_exhausted mid ≡ false
room_left e old mid answer event none room =
    let parts = and_parts (nat_lt (old.totals.accepted + 1) (2 ^ 62)) (nat_lt old.totals.verdicts (2 ^ 62)) room in
    let few : old.totals.accepted + 1 < 2 ^ 62 = ltb-true (old.totals.accepted + 1) (2 ^ 62) parts.0 in
    let few_verdicts : old.totals.verdicts < 2 ^ 62 = ltb-true old.totals.verdicts (2 ^ 62) parts.1 in
    let counts : Counts e (Ok answer) old.totals mid.totals = event_counts e old mid (Ok answer) event in
    rw (lt-leb (2 ^ 62) mid.totals.accepted (omega (arith, counts.0, few)), lt-leb (2 ^ 62) mid.totals.verdicts (omega (arith, counts.1, none, few_verdicts))) refl

-- owners, waits and the configuration of what follows are those after the event
hands_on_still : (s mid new : TableState) (n : ℕ) (p : ℕ → Bool) → HandsOn s n p mid → new.config ≡ mid.config → new.owners ≡ mid.owners → new.waits ≡ mid.waits
    → ((v : ℕ) → has_verdict new v ≡ has_verdict mid v) → HandsOn s n p new
hands_on_still s mid new n p on config owners waits verdicts =
    let owner : (r : ℕ) → owner_of new r ≡ owner_of mid r = λ r. ap (λ os. slice_index_or os r None) owners in
    let wait : (m : ℕ) → wait_of new m ≡ wait_of mid m = λ m. ap (λ ws. waited_for ws m) waits in
    record {
      config = config ∙ on.config;
      others = λ r other. owner r ∙ on.others r other;
      handed = λ r k mine owned. on.handed r k mine (sym (owner r) ∙ owned);
      own = wait n ∙ on.own;
      ended = λ m apart. elim (on.ended m apart) [
        | inl same ↦ inl (wait m ∙ same)
        | inr was ↦ inr record {
          resource = was.resource;
          key = was.key;
          process = was.process;
          waited = was.waited;
          owns = owner was.resource ∙ was.owns;
          goes_on = wait m ∙ was.goes_on;
        }
      ];
      verdicts = λ v apart. verdicts v ∙ on.verdicts v apart;
    }

-- no verdict stands still, where n waits for nothing
none_still : (old new : TableState) (n : ℕ) → Laws new → ((v : ℕ) → v ≢ n → has_verdict new v ≡ has_verdict old v) → wait_of new n ≡ None → HasNoVictim old → HasNoVictim new
none_still old new n laws others idle before v = elim (ℕ_discrete v n) [
  | no apart ↦ others v apart ∙ before v
  | yes e ↦ elim (cases_Bool (has_verdict new v)) [
    | inr none ↦ none
    | inl verdict ↦
        let waits : is_some (wait_of new v) ≡ true = laws.lawful.well_formed.verdicts v verdict in
        let never : true ≡ false = sym waits ∙ ap is_some (ap (wait_of new) e ∙ idle) in
        absurd (cc)
  ]
]

-- a call by which process n hands resources over
pub record EndsAtRest (e : Event) (old : TableState) (answer : Answer e) (new : TableState) (n : ℕ) (granted : List Grant) : Type 0 where
  pub made : Made e old answer new
  pub are_granted : granted ≡ grants old new
  pub ended : EndsWaits old new n granted
  pub rest : AtRest new
  pub none : HasNoVictim old → HasNoVictim new
  pub config : new.config ≡ old.config

module _ (e : Event) (old mid new : TableState) (answer : Answer e) (laws : Laws old) (rest : AtRest old) (event : Step e old (Ok answer) mid) where
  after : KeepsLaws old mid
  after = event_keeps e old mid (Ok answer) event laws

  -- no settle is needed where none of those that it changed waits
  idle_rests : IdleShowTheSame old mid → NoneWaits mid (changed_processes old mid) → AtRest mid
  idle_rests idle none = rest_stays e old mid (Ok answer) event laws rest (λ n h waits.
      let config = event_config e old mid (Ok answer) event in
      let within : h < mid.config.processes = (holder_within mid after.laws.lawful.well_formed n h waits).1 in
      elim (cases_Bool (is_changed old mid h)) [
        | inl changed ↦ idle h (none h (listed_changed old mid h (omega (arith, within, ap (λ c. c.processes) config)) changed))
        | inr still ↦ (unchanged_is old mid h still).public
      ])

  module _ (none : BeginsWait e (Ok answer) → ⊥) (idle : IdleShowTheSame old mid) (woken : List ℕ) (tells : woken ≡ changed_processes old mid) (comes : ComesToRest mid woken new) where
    rests_again : AtRest new
    rests_again = elim comes [
      | inl quiet ↦ subst (λ (t : TableState). AtRest t) (sym quiet.1) (idle_rests idle (subst (NoneWaits mid) tells quiet.0))
      | inr settled ↦ (settle_gives_rest mid new settled.0 settled.1 after.laws).at_rest
    ]

    rests : Rests mid new
    rests = elim comes [ inl quiet ↦ inl quiet.1 | inr settled ↦ inr (settled.0, settled.1) ]

    -- a settle is counted, so the table is another one after it
    is_quiet : (new ≡ mid) ↔ NoneWaits mid (changed_processes old mid)
    is_quiet = elim comes [
      | inl quiet ↦ (λ same. subst (NoneWaits mid) tells quiet.0, λ none. quiet.1)
      | inr settled ↦ (
        λ same. absurd (omega (arith, ap (λ (t : TableState). t.totals.accepted) same, (event_counts Settle mid new (Ok settled.0) settled.1).0)),
        λ none. absurd (settled.2 (subst (NoneWaits mid) (sym tells) none)),
      )
    ]

    laws_again : Laws new
    laws_again = elim comes [
      | inl quiet ↦ subst (λ (t : TableState). Laws t) (sym quiet.1) after.laws
      | inr settled ↦ (event_keeps Settle mid new (Ok settled.0) settled.1 after.laws).laws
    ]

    gives_none : (v : ℕ) → has_verdict new v ≡ has_verdict mid v
    gives_none v = elim comes [
      | inl quiet ↦ ap (λ t. has_verdict t v) quiet.1
      | inr settled ↦ (others_have_no_victim e old mid new (Ok answer) settled.0 event none settled.1 laws rest.cycles).1 v
    ]

    -- the settle leaves owners, waits and the configuration
    kept : (new.config ≡ mid.config) × (new.owners ≡ mid.owners) × (new.waits ≡ mid.waits)
    kept = elim comes [
      | inl quiet ↦ (ap (λ (t : TableState). t.config) quiet.1, ap (λ (t : TableState). t.owners) quiet.1, ap (λ (t : TableState). t.waits) quiet.1)
      | inr settled ↦ (let keeps : SettleKeeps mid new = settle_keeps mid new (Ok settled.0) settled.1 in (keeps.config, keeps.owners, keeps.waits))
    ]

    same_config : new.config ≡ old.config
    same_config = kept.0 ∙ event_config e old mid (Ok answer) event

    all_granted : grants old mid ≡ grants old new
    all_granted = sym (grants_alike old mid new kept.1)

    made : has_room old ≡ true → Made e old answer new
    made room = record { room = room; mid = mid; event = event; rests = rests; quiet = is_quiet }

    module _ (n : ℕ) (p : ℕ → Bool) (on : HandsOn old n p mid) where
      on_again : HandsOn old n p new
      on_again = hands_on_still old mid new n p on kept.0 kept.1 kept.2 gives_none

      pub ends_at_rest : has_room old ≡ true → (granted : List Grant) → granted ≡ grants old mid → EndsAtRest e old answer new n granted
      ends_at_rest room granted is =
          let all : granted ≡ grants old new = is ∙ all_granted in
          record {
            made = made room;
            are_granted = all;
            ended = subst (EndsWaits old new n) (sym all) (ends_waits old new n p laws on_again laws_again);
            rest = rests_again;
            none = λ before. none_still old new n laws_again on_again.verdicts on_again.own before;
            config = same_config;
          }
