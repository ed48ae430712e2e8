-- A victim that takes back its wait: the laws stay, the table stays at rest, and of the request that closed the cycle labels and counts alone are left.
use Rattle.std.specs.Prelude.{⊤}
use Rattle.std.proofs.Common.{◌≡◌, ◌≢◌, ◌↔◌, replicate, ◌+◌, ◌++◌, ℕ, ◌<◌, List, [], ◌∷◌, length, filter, not, true, false, Bool, Option, Some, None, Result, Ok, Err, MatchBool, slice_set, IsTrue, inl, inr, refl, sym, ap, subst, ◌∙◌, arith, get_or-set_same, get_or-set_other}
use Rattle.std.proofs.Math.Decide.{ℕ_discrete}
use Rattle.std.proofs.lemmas.Bool.{cases_lt, eq-eqb, ne_eqb, not-false}
use Rattle.std.proofs.lemmas.List.{append-nil, ext_get_or, get_or_past, get_or-replicate, length-replicate}
use Rattle.std.proofs.lemmas.List.Elements.{filter-append}
use Rattle.mm_label.specs.Label.{Label, word_of}
use Rattle.mm_arena.specs.declared.key.Key.{Key}
use Rattle.mm_lists.specs.Members.{Among, NoRepeat}
use Rattle.mm_lists.proofs.Lemmas.Among.{all_from}
use Rattle.mm_lists.proofs.Lemmas.Filter.{filter_not}
use Rattle.mm_lists.proofs.Lemmas.Set.{true_within}
use Rattle.mm_rules.specs.declared.config.Config.{Config}
use Rattle.mm_rules.specs.declared.refusal.Refusal.{Refusal}
use Rattle.mm_rules.specs.declared.reply.Acquired.{Acquired}
use Rattle.mm_rules.specs.declared.reply.Acquired.TheVariants.{Granted, Waits}
use Rattle.mm_rules.specs.declared.reply.Settled.{Settled}
use Rattle.mm_rules.specs.Graph.{Graph, WaitsFor, Walk, Path, Cycle}
use Rattle.mm_rules.specs.TableState.{TableState, Wait, opening, is_live, is_of, wait_of, owner_of, has_verdict, graph_of}
use Rattle.mm_rules.specs.Change.{label_against, take_back}
use Rattle.mm_rules.specs.Event.{Acquire, Settle, Step, Gives, Settles, allowed, decided, acquire_tests, acquire_answer, acquire_change, settle_tests, settled, counts_exhausted}
use Rattle.mm_rules.specs.Laws.{Laws, AtRest}
use Rattle.mm_rules.specs.Victims.{IsOnCycle, OnlyCloserIsConvicted}
use Rattle.mm_rules.specs.TakeBack.{HasNoVictim, LeadsTo, TakeBackKeepsLaws, TakeBackStaysAtRest, ClosesWhereLedBack, IsRefused, CloserIsRefused, RestHasNoCycle}
use Rattle.mm_rules.proofs.Graph.Change.{Blocks}
use Rattle.mm_rules.proofs.Graph.Cycles.{no_repeat, last_among}
use Rattle.mm_rules.proofs.Graph.Walks.{one_holder, active_waits_not, walk_again}
use Rattle.mm_rules.proofs.States.Lookups.{none_of_is_some, waits_of_others}
use Rattle.mm_rules.proofs.States.Config.{event_config}
use Rattle.mm_rules.proofs.States.Outcome.{tests_false}
use Rattle.mm_rules.proofs.States.GiveUp.{take_back_keeps}
use Rattle.mm_rules.proofs.States.EventsKeepLaws.{event_keeps}
use Rattle.mm_rules.proofs.States.EventsCloseNone.{activated_closes_none}
use Rattle.mm_rules.proofs.States.AcquireWaits.{WaitsNow, acquire_cases}
use Rattle.mm_rules.proofs.States.Settle.{settle_gives_rest}
use Rattle.mm_rules.proofs.States.SettleKeeps.{SettleKeeps, settle_keeps}
use Rattle.mm_rules.proofs.States.SpentKeys.{SameKeys}
use Rattle.mm_rules.proofs.States.Keys.{settle_same}
use Rattle.mm_rules.proofs.States.Rest.{closing_none_stays}
use Rattle.mm_rules.proofs.States.Victims.{closer_is_victim}

pub take_back_keeps_laws : TakeBackKeepsLaws
take_back_keeps_laws s n laws verdict = (take_back_keeps s n laws verdict).laws

pub take_back_stays_at_rest : TakeBackStaysAtRest
take_back_stays_at_rest s n laws rest verdict =
    closing_none_stays s (take_back s n) laws (take_back_keeps s n laws verdict)
    (activated_closes_none s n (slice_set s.verdicts n false) (record s.totals { aborts = s.totals.aborts + 1 }) (λ v apart was. get_or-set_other s.verdicts n v false false apart ∙ was))
    rest (λ m h waits. refl)

-- ---- nobody waits for itself

-- a path to n, up to where it first comes to n
first_to : (g : Graph) (n k : ℕ) (places : List ℕ) → Path g k places n → (way : List ℕ) × Walk g (λ i. i ≢ n) k way n
first_to g n k [] path = ([], path)
first_to g n k (j ∷ places) path = elim (ℕ_discrete k n) [
  | yes here ↦ ([], here)
  | no apart ↦ (let later = first_to g n j places path.2 in (j ∷ later.0, (apart, path.1, later.1)))
]

pub rest_has_no_cycle : RestHasNoCycle
rest_has_no_cycle s rest none n h waits (places, path) =
    let first = first_to (graph_of s) n h places path in
    let closed : Path (graph_of s) h first.0 n = walk_again (graph_of s) (graph_of s) (λ k. k ≢ n) (λ _. ⊤) (λ k j waits each. (tt, waits)) h first.0 n first.1 in
    let one = rest.cycles n (h ∷ first.0) record { closed = (tt, waits, closed); moves = omega arith; simple = no_repeat (graph_of s) h first.0 n first.1 } in
    let never : true ≡ false = sym one.verdict ∙ none one.victim in
    absurd (cc)

-- ---- who closes a cycle

module _ (g new : Graph) (n h L : ℕ) (b : Blocks g n h L new) where
  cycle_to_path : (places : List ℕ) → Path new n places n → 0 < length places → NoRepeat places → (way : List ℕ) × Path g h way n
  cycle_to_path [] path moves simple = absurd (omega (arith, moves))
  cycle_to_path (j ∷ places) path moves simple =
      let e : j ≡ h = one_holder new n j h path.1 b.waits in
      (places, subst (λ (i : ℕ). Path g i places n) e (before j places path.2 simple))
    where
      before : (k : ℕ) (places : List ℕ) → Path new k places n → NoRepeat (k ∷ places) → Path g k places n
      before k [] path simple = path
      before k (j ∷ places) path simple =
          let apart : k ≢ n = λ e. simple.0 (subst (λ (i : ℕ). Among i (j ∷ places)) (sym e) (last_among new j places n path.2)) in
          (tt, sym (b.others k apart).holder ∙ path.1, before j places path.2 simple.1)

  path_to_cycle : (way : List ℕ) → Path g h way n → Cycle new n (h ∷ way)
  path_to_cycle way path =
      let apart : (k : ℕ) → (j : ℕ) → WaitsFor g k j → k ≢ n = λ k j waits e. active_waits_not g k (rw e b.was_active) (j, waits) in
      let walk : Walk new (λ k. k ≢ n) h way n
      = walk_again g new (λ _. ⊤) (λ k. k ≢ n) (λ k j waits each. (apart k j waits, (b.others k (apart k j waits)).holder ∙ waits)) h way n path in
      record {
        closed = (tt, b.waits, walk_again new new (λ k. k ≢ n) (λ _. ⊤) (λ k j waits each. (tt, waits)) h way n walk);
        moves = omega arith;
        simple = no_repeat new h way n walk;
      }

module _ (old mid : TableState) (k h : Key) (r : ℕ) (l : Label) (acquire : Step (Acquire k r) old (Ok (Waits h l)) mid) (laws : Laws old) where
  begins : (i : Key) × WaitsNow old k i mid × (◌≡◌ {A = Result Acquired Refusal} (Ok (Waits h l)) (Ok (Waits i (label_against old k.process i.process))))
  begins = elim (acquire_cases old mid k r (Ok (Waits h l)) laws acquire) [
    | inl none ↦ absurd (none.0 tt)
    | inr now ↦ now.1
  ]

  holder_is : begins.0 ≡ h
  holder_is = (let is = begins.2 in cc)

  led_back : IsOnCycle mid k.process ↔ LeadsTo old begins.0.process k.process
  led_back =
      let L = word_of (label_against old k.process begins.0.process) in (
        λ on. cycle_to_path (graph_of old) (graph_of mid) k.process begins.0.process L begins.1.blocks on.0 on.1.closed on.1.moves on.1.simple,
        λ led. (begins.0.process ∷ led.0, path_to_cycle (graph_of old) (graph_of mid) k.process begins.0.process L begins.1.blocks led.0 led.1),
      )

pub closes_where_led_back : ClosesWhereLedBack
closes_where_led_back old mid k h r l acquire laws =
    subst (λ (i : Key). IsOnCycle mid k.process ↔ LeadsTo old i.process k.process) (holder_is old mid k h r l acquire laws) (led_back old mid k h r l acquire laws)

-- ---- what is left of a request that closed a cycle

-- k waits for r, last of all, and but for labels and counts nothing else changed
pub record Queues (s : TableState) (k h : Key) (r : ℕ) (t : TableState) : Type 0 where
  pub live : IsTrue (is_live s k)
  pub owner : owner_of s r ≡ Some h
  pub active : wait_of s k.process ≡ None
  pub waits : t.waits ≡ s.waits ++ record { key = k; resource = r } ∷ []
  pub owners : t.owners ≡ s.owners
  pub keys : SameKeys s t

queues_by : (s t : TableState) (k h : Key) (r : ℕ) (l : Label) (o : Option Key) → owner_of s r ≡ o → (a : Result (Unit {0}) Refusal) → allowed (acquire_tests s k r) ≡ a
    → Ok (Waits h l) ≡ (decided a s (acquire_answer s k o) (acquire_change s k r o)).reply → t ≡ (decided a s (acquire_answer s k o) (acquire_change s k r o)).state → Queues s k h r t
queues_by s t k h r l o owned (Err refusal) is reply state = (let never : Ok (Waits h l) ≡ Err refusal = reply in absurd (cc))
queues_by s t k h r l None owned (Ok u) is reply state = (let never : ◌≡◌ {A = Result Acquired Refusal} (Ok (Waits h l)) (Ok Granted) = reply in absurd (cc))
queues_by s t k h r l (Some g) owned (Ok u) is reply state = record {
  live = not-false (is_live s k) (tests_false (acquire_tests s k r) is).1.0;
  owner = (let same : ◌≡◌ {A = Result Acquired Refusal} (Ok (Waits h l)) (Ok (Waits g (label_against s k.process g.process))) = reply in let e : g ≡ h = cc in owned ∙ ap Some e);
  active = none_of_is_some (wait_of s k.process) (tests_false (acquire_tests s k r) is).1.1.1.0;
  waits = ap (λ (u : TableState). u.waits) state;
  owners = ap (λ (u : TableState). u.owners) state;
  keys = record { generations = ap (λ (u : TableState). u.generations) state; live = ap (λ (u : TableState). u.live) state; free = ap (λ (u : TableState). u.free) state };
}

pub queues : (s t : TableState) (k h : Key) (r : ℕ) (l : Label) → Step (Acquire k r) s (Ok (Waits h l)) t → Queues s k h r t
queues s t k h r l step = queues_by s t k h r l (owner_of s r) refl (allowed (acquire_tests s k r)) refl step.0 step.1

decided_keys : {A : Type 0} (a : Result (Unit {0}) Refusal) (old new : TableState) (answer : A) → SameKeys old new → SameKeys old (decided a old answer new).state
decided_keys (Err refusal) old new answer same = record { generations = refl; live = refl; free = refl }
decided_keys (Ok u) old new answer same = record { generations = same.generations; live = same.live; free = same.free }

settled_keys : (s : TableState) (n : ℕ) → SameKeys s (settled s n).state
settled_keys s n = decided_keys (allowed (settle_tests s)) s _ _ (settle_same s n)

settle_keys_by : (old new : TableState) (reply : Result Settled Refusal) (b : Bool)
    → MatchBool b (Gives (settled old 0) reply new) ((n : ℕ) × Settles old n × Gives (settled old n) reply new) → SameKeys old new
settle_keys_by old new reply true step = rw step.1 (settled_keys old 0)
settle_keys_by old new reply false (n, settles, step) = rw step.1 (settled_keys old n)

pub settle_keys : (old new : TableState) (reply : Result Settled Refusal) → Step Settle old reply new → SameKeys old new
settle_keys old new reply step = settle_keys_by old new reply (counts_exhausted old) step

-- without the wait that came last, the waits are those before it
wait_gone : (s : TableState) (k : Key) (r : ℕ) → wait_of s k.process ≡ None
    → filter (λ (w : Wait). not (is_of k.process w)) (s.waits ++ record { key = k; resource = r } ∷ []) ≡ s.waits
wait_gone s k r active =
    let p : Wait → Bool = λ w. is_of k.process w in
    let others : filter (λ w. not (p w)) s.waits ≡ s.waits
    = filter_not p s.waits (all_from (λ w. p w ≡ false) s.waits (λ w among. ne_eqb w.key.process k.process (waits_of_others s k.process active w among))) in
    rw (filter-append (λ w. not (p w)) s.waits (record { key = k; resource = r } ∷ []), others, eq-eqb k.process k.process refl) (append-nil s.waits)

module _ (old mid settled : TableState) (k h : Key) (r : ℕ) (l : Label) (answer : Settled) (asks : Step (Acquire k r) old (Ok (Waits h l)) mid) (settles : Step Settle mid (Ok answer) settled)
    (laws : Laws old) (rest : AtRest old) (none : HasNoVictim old) (verdict : IsTrue (has_verdict settled k.process)) where
  abbrev n : ℕ
  n = k.process

  abbrev new : TableState
  new = take_back settled n

  mid_laws : Laws mid
  mid_laws = (event_keeps (Acquire k r) old mid (Ok (Waits h l)) asks laws).laws

  settled_laws : Laws settled
  settled_laws = (event_keeps Settle mid settled (Ok answer) settles mid_laws).laws

  keeps : SettleKeeps mid settled
  keeps = settle_keeps mid settled (Ok answer) settles

  keys : SameKeys mid settled
  keys = settle_keys mid settled (Ok answer) settles

  waiting : Queues old k h r mid
  waiting = queues old mid k h r l asks

  only : OnlyCloserIsConvicted old mid settled n answer
  only = closer_is_victim old mid settled k h r l answer asks settles laws rest

  none_now : HasNoVictim new
  none_now v = elim (ℕ_discrete v n) [
    | yes e ↦ rw e (get_or-set_same settled.verdicts n false false (true_within settled.verdicts n verdict))
    | no apart ↦ get_or-set_other settled.verdicts n v false false apart ∙ only.others v apart ∙ none v
  ]

  new_laws : Laws new
  new_laws = take_back_keeps_laws settled n settled_laws verdict

  same_config : new.config ≡ old.config
  same_config = event_config Settle mid settled (Ok answer) settles ∙ event_config (Acquire k r) old mid (Ok (Waits h l)) asks

  is_refused : IsRefused old new
  is_refused = record {
    laws = new_laws;
    rest = take_back_stays_at_rest settled n settled_laws (settle_gives_rest mid settled answer settles mid_laws).at_rest verdict;
    none = none_now;
    same = record {
      config = same_config;
      generations = keys.generations ∙ waiting.keys.generations;
      live = keys.live ∙ waiting.keys.live;
      free = keys.free ∙ waiting.keys.free;
      owners = keeps.owners ∙ waiting.owners;
      waits = ap (filter (λ (w : Wait). not (is_of n w))) (keeps.waits ∙ waiting.waits) ∙ wait_gone old k r waiting.active;
      verdicts = ext_get_or false new.verdicts old.verdicts
          (new_laws.lawful.well_formed.sizes.verdicts ∙ ap (λ c. c.processes) same_config ∙ sym laws.lawful.well_formed.sizes.verdicts) (λ i inside. none_now i ∙ sym (none i));
    };
  }

pub closer_is_refused : CloserIsRefused
closer_is_refused old mid settled k h r l answer asks settles laws rest none verdict = is_refused old mid settled k h r l answer asks settles laws rest none verdict

-- the requester is live still
pub closer_is_live : (old mid settled : TableState) (k h : Key) (r : ℕ) (l : Label) (answer : Settled) → Step (Acquire k r) old (Ok (Waits h l)) mid → Step Settle mid (Ok answer) settled
    → IsTrue (is_live settled k)
closer_is_live old mid settled k h r l answer asks settles =
    let waiting : Queues old k h r mid = queues old mid k h r l asks in
    let keys : SameKeys mid settled = settle_keys mid settled (Ok answer) settles in
    rw (keys.live ∙ waiting.keys.live, keys.generations ∙ waiting.keys.generations) waiting.live

pub opening_convicts_none : (c : Config) → HasNoVictim (opening c)
opening_convicts_none c v = elim (cases_lt v c.processes) [
  | inl inside ↦ get_or-replicate c.processes v false false inside
  | inr past ↦ get_or_past (replicate c.processes false) v false (omega (arith, past, length-replicate c.processes false))
]
