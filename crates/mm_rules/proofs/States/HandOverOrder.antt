-- Resources may be handed over in any order: their queues have no process in common, and a new owner's labels stay.
use Rattle.std.proofs.Common.{◌≡◌, ◌≢◌, ℕ, false, not, nat_eq, List, [], ◌∷◌, ◌++◌, Option, Some, None, map, filter, fold, slice_set, refl, sym, ap, ◌∙◌, inl, inr, cond, get_or-set_other, subst}
use Rattle.std.proofs.lemmas.List.{set_comm}
use Rattle.std.proofs.lemmas.Bool.{cases_Bool, ne_eqb, eqb-true}
use Rattle.std.specs.List.{AllByRecursion}
use Rattle.mm_label.specs.Label.{Label, opening_label}
use Rattle.mm_arena.specs.declared.key.Key.{Key}
use Rattle.mm_lists.specs.Members.{Among, NoRepeat}
use Rattle.mm_lists.proofs.Lemmas.Among.{among_map}
use Rattle.mm_lists.proofs.Lemmas.Filter.{filter_gives}
use Rattle.mm_lists.proofs.Lemmas.NoRepeat.{no_repeat_filter}
use Rattle.mm_lists.proofs.Lemmas.Cut.{cut_at, AreApart-cut, among_around, among_around_gives, no_repeat_around}
use Rattle.mm_rules.specs.TableState.{TableState, Wait, is_of, waiters_of}
use Rattle.mm_rules.specs.Change.{label_against, block, activate, give_to, hand_over}

-- ---- blocks

-- each of these is blocked on process h
abbrev blocks : TableState → ℕ → List Wait → TableState
blocks s h ws = fold (λ t w. block t w.key.process h) s ws

block_comm : (s : TableState) (n h m g : ℕ) → n ≢ m → n ≢ g → m ≢ h → block (block s n h) m g ≡ block (block s m g) n h
block_comm s n h m g apart not_g not_h =
    let a : Label = label_against s n h in
    let b : Label = label_against s m g in
    let m_stays = get_or-set_other s.public n m a (opening_label m) (λ e. apart (sym e)) in
    let g_stays = get_or-set_other s.public n g a (opening_label g) (λ e. not_g (sym e)) in
    let n_stays = get_or-set_other s.public m n b (opening_label n) apart in
    let h_stays = get_or-set_other s.public m h b (opening_label h) (λ e. not_h (sym e)) in
    rw (m_stays, g_stays, n_stays, h_stays, set_comm s.private n m a b apart, set_comm s.public n m a b apart) refl

-- process m and its holder g are others than these processes
abbrev Apart : ℕ → ℕ → List Wait → Type 0
Apart m g ws = AllByRecursion (λ w. (w.key.process ≢ m) × (w.key.process ≢ g)) ws

block_blocks : (s : TableState) (m g h : ℕ) (ws : List Wait) → m ≢ h → Apart m g ws → blocks (block s m g) h ws ≡ block (blocks s h ws) m g
block_blocks s m g h [] not_h apart = refl
block_blocks s m g h (w ∷ ws) not_h (here, later) =
    ap (λ t. blocks t h ws) (block_comm s m g w.key.process h (λ e. here.0 (sym e)) not_h here.1) ∙ block_blocks (block s w.key.process h) m g h ws not_h later

-- no process of the one list, nor its holder, is one of the other
abbrev AllApart : ℕ → ℕ → List Wait → List Wait → Type 0
AllApart h g ws [] = Unit {0}
AllApart h g ws (v ∷ vs) = (v.key.process ≢ h) × Apart v.key.process g ws × AllApart h g ws vs

blocks_comm : (s : TableState) (h g : ℕ) (ws vs : List Wait) → AllApart h g ws vs → blocks (blocks s h ws) g vs ≡ blocks (blocks s g vs) h ws
blocks_comm s h g ws [] apart = refl
blocks_comm s h g ws (v ∷ vs) apart =
    ap (λ t. blocks t g vs) (sym (block_blocks s v.key.process g h ws apart.0 apart.1)) ∙ blocks_comm (block s v.key.process g) h g ws vs apart.2

blocks_own : (s : TableState) (h r : ℕ) (o : Option Key) (ws : List Wait)
    → blocks (record s { owners = slice_set s.owners r o }) h ws ≡ record (blocks s h ws) { owners = slice_set (blocks s h ws).owners r o }
blocks_own s h r o [] = refl
blocks_own s h r o (w ∷ ws) = blocks_own (block s w.key.process h) h r o ws

blocks_activate : (s : TableState) (h n : ℕ) (ws : List Wait) → blocks (activate s n) h ws ≡ activate (blocks s h ws) n
blocks_activate s h n [] = refl
blocks_activate s h n (w ∷ ws) = blocks_activate (block s w.key.process h) h n ws

-- ---- queues

abbrev Once : List Wait → Type 0
Once ws = NoRepeat (map (λ w. w.key.process) ws)

-- a process waits once, so two waits of one process are one
one_wait : (ws : List Wait) → Once ws → (v w : Wait) → Among v ws → Among w ws → v.key.process ≡ w.key.process → v ≡ w
one_wait [] once v w none in_w same = elim none [ ]
one_wait (u ∷ us) once v w (inl v_here) (inl w_here) same = v_here ∙ sym w_here
one_wait (u ∷ us) once v w (inl v_here) (inr w_later) same =
    absurd (once.0 (let P : ℕ → Type 0 = λ n. Among n (map (λ o. o.key.process) us) in subst P (sym same ∙ ap (λ o. o.key.process) v_here) (among_map (λ o. o.key.process) us w w_later)))
one_wait (u ∷ us) once v w (inr v_later) (inl w_here) same =
    absurd (once.0 (let P : ℕ → Type 0 = λ n. Among n (map (λ o. o.key.process) us) in subst P (same ∙ ap (λ o. o.key.process) w_here) (among_map (λ o. o.key.process) us v v_later)))
one_wait (u ∷ us) once v w (inr v_later) (inr w_later) same = one_wait us once.1 v w v_later w_later same

abbrev queue : ℕ → List Wait → List Wait
queue r ws = filter (λ w. nat_eq w.resource r) ws

-- activating a process that does not wait for r leaves the queue of r
queue_stays : (ws : List Wait) (n r : ℕ) → ((w : Wait) → Among w ws → w.resource ≡ r → w.key.process ≢ n)
    → queue r (filter (λ w. not (is_of n w)) ws) ≡ queue r ws
queue_stays [] n r others = refl
queue_stays (w ∷ ws) n r others =
    elim (cases_Bool (is_of n w)) [
      | inl gone ↦
          let not_queued : nat_eq w.resource r ≡ false = ne_eqb w.resource r (λ e. others w (inl refl) e (eqb-true w.key.process n gone)) in
          rw (gone, not_queued) (queue_stays ws n r (λ v v_in. others v (inr v_in)))
      | inr stays ↦
          rw stays (ap (λ vs. cond (nat_eq w.resource r) (w ∷ vs) vs) (queue_stays ws n r (λ v v_in. others v (inr v_in))))
    ]

-- who waits for one resource, waits for no other
other_queue : (ws : List Wait) → Once ws → (r q : ℕ) → r ≢ q → (v w : Wait) → Among v (queue r ws) → Among w ws → w.resource ≡ q → w.key.process ≢ v.key.process
other_queue ws once r q apart v w in_queue w_in for_q same =
    let found = filter_gives (λ o. nat_eq o.resource r) ws v in_queue in
    let one = one_wait ws once v w found.0 w_in (sym same) in
    apart (sym (eqb-true v.resource r found.1) ∙ ap (λ o. o.resource) one ∙ for_q)

-- ---- two hand-overs

blocks_waits : (s : TableState) (h : ℕ) (ws : List Wait) → (blocks s h ws).waits ≡ s.waits
blocks_waits s h [] = refl
blocks_waits s h (w ∷ ws) = blocks_waits (block s w.key.process h) h ws

-- handing over r leaves the queue of q
waiters_stay : (s : TableState) (r q : ℕ) (ws : List Wait) → Once s.waits → r ≢ q → waiters_of s r ≡ ws → waiters_of (give_to s r ws) q ≡ waiters_of s q
waiters_stay s r q [] once apart is = refl
waiters_stay s r q (f ∷ others) once apart is =
    let n = f.key.process in
    let in_queue : Among f (queue r s.waits) = rw is (inl refl) in
    ap (queue q) (blocks_waits (activate (record s { owners = slice_set s.owners r (Some f.key) }) n) n others)
    ∙ queue_stays s.waits n q (λ w w_in for_q. other_queue s.waits once r q apart f w in_queue w_in for_q)

-- no process is in both queues
abbrev NotShared : List Wait → List Wait → Type 0
NotShared ws vs = (w v : Wait) → Among w ws → Among v vs → w.key.process ≢ v.key.process

apart_from : (ws : List Wait) (m g : ℕ) → ((w : Wait) → Among w ws → (w.key.process ≢ m) × (w.key.process ≢ g)) → Apart m g ws
apart_from [] m g each = tt
apart_from (w ∷ ws) m g each = (each w (inl refl), apart_from ws m g (λ v v_in. each v (inr v_in)))

all_apart : (ws vs : List Wait) (h g : ℕ) → NotShared ws vs → ((v : Wait) → Among v vs → v.key.process ≢ h) → ((w : Wait) → Among w ws → w.key.process ≢ g) → AllApart h g ws vs
all_apart ws [] h g apart not_h not_g = tt
all_apart ws (v ∷ vs) h g apart not_h not_g = (
  not_h v (inl refl),
  apart_from ws v.key.process g (λ w w_in. (apart w v w_in (inl refl), not_g w w_in)),
  all_apart ws vs h g (λ w u w_in u_in. apart w u w_in (inr u_in)) (λ u u_in. not_h u (inr u_in)) not_g,
)

filter_comm : (n m : ℕ) (ws : List Wait) → filter (λ w. not (is_of n w)) (filter (λ w. not (is_of m w)) ws) ≡ filter (λ w. not (is_of m w)) (filter (λ w. not (is_of n w)) ws)
filter_comm n m [] = refl
filter_comm n m (w ∷ ws) =
    elim (cases_Bool (is_of m w)) [
      | inl a ↦ elim (cases_Bool (is_of n w)) [
        | inl b ↦ simp (a, b) (filter_comm n m ws)
        | inr b ↦ simp (a, b) (filter_comm n m ws)
      ]
      | inr a ↦ elim (cases_Bool (is_of n w)) [
        | inl b ↦ simp (a, b) (filter_comm n m ws)
        | inr b ↦ simp (a, b) (ap (λ vs. w ∷ vs) (filter_comm n m ws))
      ]
    ]

-- r gets this owner, and the wait of f goes
abbrev own : TableState → ℕ → Option Key → TableState
own s r o = record s { owners = slice_set s.owners r o }

abbrev take_over : TableState → ℕ → Wait → TableState
take_over s r f = activate (own s r (Some f.key)) f.key.process

take_over_comm : (s : TableState) (r q : ℕ) (f g : Wait) → r ≢ q → take_over (take_over s r f) q g ≡ take_over (take_over s q g) r f
take_over_comm s r q f g apart =
    rw (set_comm s.owners r q (Some f.key) (Some g.key) apart, filter_comm g.key.process f.key.process s.waits) refl

take_over_blocks : (s : TableState) (q : ℕ) (g : Wait) (h : ℕ) (ws : List Wait) → take_over (blocks s h ws) q g ≡ blocks (take_over s q g) h ws
take_over_blocks s q g h ws =
    ap (λ t. activate t g.key.process) (sym (blocks_own s h q (Some g.key) ws)) ∙ sym (blocks_activate (own s q (Some g.key)) h g.key.process ws)

free_comm : (s : TableState) (r q : ℕ) (g : Wait) (more : List Wait) → r ≢ q → give_to (own s r None) q (g ∷ more) ≡ own (give_to s q (g ∷ more)) r None
free_comm s r q g more apart =
    ap (λ os. blocks (record (take_over s q g) { owners = os }) g.key.process more) (set_comm s.owners r q None (Some g.key) apart)
    ∙ blocks_own (take_over s q g) g.key.process r None more

gives_comm : (s : TableState) (r q : ℕ) (ws vs : List Wait) → r ≢ q → NotShared ws vs → give_to (give_to s r ws) q vs ≡ give_to (give_to s q vs) r ws
gives_comm s r q [] [] apart none = ap (λ os. record s { owners = os }) (set_comm s.owners r q None None apart)
gives_comm s r q [] (g ∷ more) apart none = free_comm s r q g more apart
gives_comm s r q (f ∷ others) [] apart none = sym (free_comm s q r f others (λ e. apart (sym e)))
gives_comm s r q (f ∷ others) (g ∷ more) apart none =
    let n = f.key.process in
    let m = g.key.process in
    let all = all_apart others more n m (λ w v w_in v_in. none w v (inr w_in) (inr v_in)) (λ v v_in e. none f v (inl refl) (inr v_in) (sym e)) (λ w w_in. none w g (inr w_in) (inl refl)) in
    ap (λ t. blocks t m more) (take_over_blocks (take_over s r f) q g n others)
    ∙ blocks_comm (take_over (take_over s r f) q g) n m others more all
    ∙ ap (λ t. blocks (blocks t m more) n others) (take_over_comm s r q f g apart)
    ∙ ap (λ t. blocks t n others) (sym (take_over_blocks (take_over s q g) r f m more))

pub hand_overs_comm : (s : TableState) (r q : ℕ) → Once s.waits → r ≢ q → hand_over (hand_over s r) q ≡ hand_over (hand_over s q) r
hand_overs_comm s r q once apart =
    let ws = waiters_of s r in
    let vs = waiters_of s q in
    let not_shared = λ (w v : Wait) (w_in : Among w ws) (v_in : Among v vs) (same : w.key.process ≡ v.key.process).
    let found = filter_gives (λ o. nat_eq o.resource q) s.waits v v_in in
    other_queue s.waits once r q apart w v w_in found.0 (eqb-true v.resource q found.1) (sym same) in
    ap (give_to (hand_over s r) q) (waiters_stay s r q ws once apart refl)
    ∙ gives_comm s r q ws vs apart not_shared
    ∙ ap (give_to (hand_over s q) r) (sym (waiters_stay s q r vs once (λ e. apart (sym e)) refl))

pub hand_over_once : (s : TableState) (r : ℕ) → Once s.waits → Once (hand_over s r).waits
hand_over_once s r once = kept (waiters_of s r)
  where
    kept : (ws : List Wait) → Once (give_to s r ws).waits
    kept [] = once
    kept (f ∷ others) =
        let P : List Wait → Type 0 = Once in
        subst P (sym (blocks_waits (take_over s r f) f.key.process others)) (no_repeat_filter (λ (w : Wait). w.key.process) (λ w. not (is_of f.key.process w)) s.waits once)

-- ---- any order

to_front : (s : TableState) (before : List ℕ) (r : ℕ) (after : List ℕ) → Once s.waits → (Among r before → ⊥) → fold hand_over s (before ++ r ∷ after) ≡ fold hand_over (hand_over s r) (before ++ after)
to_front s [] r after once new = refl
to_front s (q ∷ before) r after once new =
    to_front (hand_over s q) before r after (hand_over_once s q once) (λ later. new (inr later))
    ∙ ap (λ t. fold hand_over t (before ++ after)) (hand_overs_comm s q r once (λ e. new (inl (sym e))))

pub any_order : (s : TableState) (xs ys : List ℕ) → Once s.waits → NoRepeat xs → NoRepeat ys → ((r : ℕ) → Among r xs → Among r ys) → ((r : ℕ) → Among r ys → Among r xs) → fold hand_over s xs ≡ fold hand_over s ys
any_order s [] [] once x_once y_once there back = refl
any_order s [] (y ∷ ys) once x_once y_once there back = absurd (back y (inl refl))
any_order s (x ∷ xs) ys once x_once y_once there back =
    let place = cut_at x ys (there x (inl refl)) in
    let cut_once = subst NoRepeat place.whole y_once in
    let around = no_repeat_around x place.earlier place.later cut_once in
    any_order (hand_over s x) xs (place.earlier ++ place.later) (hand_over_once s x once) x_once.1 around.0
    (λ r found. elim (among_around_gives r x place.earlier place.later (let P : List ℕ → Type 0 = λ l. Among r l in subst P place.whole (there r (inr found)))) [
      | inl is ↦ absurd (x_once.0 (let P : ℕ → Type 0 = λ n. Among n xs in subst P is found))
      | inr rest ↦ rest
    ])
    (λ r found. elim (back r (let P : List ℕ → Type 0 = λ l. Among r l in subst P (sym place.whole) (among_around r x place.earlier place.later found))) [
      | inl is ↦ absurd (around.1 (let P : ℕ → Type 0 = λ n. Among n (place.earlier ++ place.later) in subst P is found))
      | inr rest ↦ rest
    ])
    ∙ sym (to_front s place.earlier x place.later once (AreApart-cut place.earlier x place.later cut_once).not_earlier)
    ∙ ap (fold hand_over s) (sym place.whole)
