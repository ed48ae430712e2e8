-- Storing what processes show, one after the other.
use Rattle.std.proofs.Common.{◌≡◌, ◌≢◌, ◌<◌, ◌+◌, ℕ, zero, suc, List, [], ◌∷◌, ◌++◌, length, replicate, drop, slice_index, slice_index_or, Option, Some, None, IsTrue, Result, Ok, Err, inl, inr, refl, sym, ap, ◌∙◌, subst, arith, append-nil, append_assoc, length-set, get_or-set_other, drop-cons}
use Rattle.std.proofs.lemmas.Bool.{cases_eq}
use Rattle.mm_label.specs.Label.{Label, label_le}
use Rattle.mm_arena.specs.declared.key.Key.{Key}
use Rattle.mm_lists.specs.Members.{Among}
use Rattle.mm_board.specs.declared.views.Published.{Published}
use Rattle.mm_board.specs.Views.{last_label, history, current_label, current_holder, with_label, with_holder, IsAnother}
use Rattle.mm_board.proofs.Current.{current_label_stored, current_holder_stored}
use Rattle.mm_board.proofs.Histories.{length-with_label, history_here, history_else}
use Rattle.mm_board.proofs.Order.{label_le_same}
use Rattle.mm_rules.specs.declared.config.Config.{Config}
use Rattle.mm_rules.specs.declared.refusal.Refusal.{Refusal}
use Rattle.mm_rules.specs.declared.reply.Acquired.{Acquired}
use Rattle.mm_rules.specs.declared.reply.Acquired.TheVariants.{Granted, Waits}
use Rattle.mm_rules.specs.declared.reply.Transmitted.{Transmitted}
use Rattle.mm_rules.specs.declared.reply.Transmitted.TheVariants.{Raised, Still}
use Rattle.mm_rules.specs.TableState.{TableState, public_of, holder_of, wait_of}
use Rattle.mm_rules.specs.Event.{Event, Acquire, Transmit, GiveUp, Answer, Step}
use Rattle.mm_rules.specs.Laws.{Laws}
use Rattle.mm_rules.proofs.States.Config.{event_config}
use Rattle.mm_rules.proofs.States.EventsKeepLaws.{event_keeps}
use Rattle.mm_rules.proofs.States.Lookups.{holder_within, holder_apart}
use Rattle.mm_settle_lemmas.specs.Shown.{Shows, shown_anew, ShownBy, ChangesShown, IdleShowTheSame}
use Rattle.mm_settle_lemmas.proofs.Lemmas.Shown.{shown_changes_are_told}
use Rattle.mm_shared.specs.Published.{IsShown, IsPublished, AppendsOnly}
use Rattle.mm_shared.specs.private.Publishing.{IsToPublish, HoldersAreShown, IdleAreShown}

-- ---- what is appended

pub appends_none : (p : Published) (s : TableState) → AppendsOnly p p s
appends_none p s n = (0, sym (append-nil (history p n)))

replicate_more : (k : ℕ) (l : Label) → replicate k l ++ l ∷ [] ≡ replicate (k + 1) l
replicate_more k l = let e : suc k ≡ k + 1 = omega arith in go k ∙ ap (λ (n : ℕ). replicate n l) e
  where
    go : (k : ℕ) → replicate k l ++ l ∷ [] ≡ replicate (suc k) l
    go zero = refl
    go (suc k) = ap (λ ls. l ∷ ls) (go k)

-- the public label of one more process
pub appends_more : (p q : Published) (s : TableState) (x : ℕ) → AppendsOnly p q s → x < length q.histories → AppendsOnly p (with_label q x (public_of s x)) s
appends_more p q s x before inside n = elim (cases_eq n x) [
  | inl e ↦
      let l = public_of s n in
      let k = (before n).0 in (
        k + 1,
        ap (history (with_label q x (public_of s x))) e ∙ history_here q x (public_of s x) inside ∙ ap (λ i. history q i ++ public_of s i ∷ []) (sym e)
            ∙ ap (λ ls. ls ++ l ∷ []) (before n).1
            ∙ append_assoc (history p n) (replicate k l) (l ∷ [])
            ∙ ap (λ ls. history p n ++ ls) (replicate_more k l),
      )
  | inr apart ↦ ((before n).0, history_else q x (public_of s x) n apart ∙ (before n).1)
]

-- ---- what is left to publish

module _ (x : ℕ) (ns : List ℕ) (p : Published) (s : TableState) (left : IsToPublish (x ∷ ns) p s) where
  here : x < s.config.processes
  here = left.within x (inl refl)

  other : (n : ℕ) → n ≢ x → (Among n ns → ⊥) → Among n (x ∷ ns) → ⊥
  other n apart out (inl e) = apart e
  other n apart out (inr later) = out later

  -- once x is shown it is left no more
  done : IsShown p s x → IsToPublish ns p s
  done shown = record {
    histories = left.histories;
    holders = left.holders;
    within = λ n later. left.within n (inr later);
    below = left.below;
    others = λ n within out. elim (cases_eq n x) [ inl e ↦ rw e shown | inr apart ↦ left.others n within (other n apart out) ];
  }

  label_now : current_label (with_label p x (public_of s x)) x ≡ public_of s x
  label_now = current_label_stored p x (public_of s x) (omega (arith, here, left.histories))

  label_put : IsToPublish (x ∷ ns) (with_label p x (public_of s x)) s
  label_put =
      let l = public_of s x in
      record {
        histories = length-with_label p x l ∙ left.histories;
        holders = left.holders;
        within = left.within;
        below = λ n within. elim (cases_eq n x) [
          | inl e ↦ rw (e, label_now) (label_le_same l)
          | inr apart ↦ subst (λ ls. IsTrue (label_le (last_label ls) (public_of s n))) (sym (history_else p x l n apart)) (left.below n within)
        ];
        others = λ n within out.
            let shown = left.others n within out in
            record { label = ap last_label (history_else p x l n (λ e. out (inl e))) ∙ shown.label; holder = shown.holder };
      }

  holder_put : IsToPublish (x ∷ ns) (with_holder p x (holder_of s x)) s
  holder_put = record {
    histories = left.histories;
    holders = length-set p.holders x (holder_of s x) ∙ left.holders;
    within = left.within;
    below = left.below;
    others = λ n within out.
        let shown = left.others n within out in
        record { label = shown.label; holder = get_or-set_other p.holders x n (holder_of s x) None (λ e. out (inl e)) ∙ shown.holder };
  }

module _ (x : ℕ) (ns : List ℕ) (p : Published) (s : TableState) (left : IsToPublish (x ∷ ns) p s) where
  -- its label was stored, and its holder stands there
  pub label_stored : current_holder p x ≡ holder_of s x → IsToPublish ns (with_label p x (public_of s x)) s
  label_stored held = done x ns (with_label p x (public_of s x)) s (label_put x ns p s left) (record { label = label_now x ns p s left; holder = held })

  -- its holder was stored, and its label stands there
  pub holder_stored : current_label p x ≡ public_of s x → IsToPublish ns (with_holder p x (holder_of s x)) s
  holder_stored shown =
      let inside : x < length p.holders = omega (arith, left.within x (inl refl), left.holders) in
      done x ns (with_holder p x (holder_of s x)) s (holder_put x ns p s left) (record { label = shown; holder = current_holder_stored p x (holder_of s x) inside })

pub both_stored : (x : ℕ) (ns : List ℕ) (p : Published) (s : TableState) → IsToPublish (x ∷ ns) p s → IsToPublish ns (with_holder (with_label p x (public_of s x)) x (holder_of s x)) s
both_stored x ns p s left = holder_stored x ns (with_label p x (public_of s x)) s (label_put x ns p s left) (label_now x ns p s left)

-- ---- along a list

module _ (i : ℕ) (ns : List ℕ) (p : Published) (s : TableState) (inside : i < length ns) (left : IsToPublish (drop i ns) p s) where
  pub left_at : IsToPublish (slice_index ns i ∷ drop (i + 1) ns) p s
  left_at = subst (λ ms. IsToPublish ms p s) (drop-cons ns i 0 inside ∙ ap (λ k. slice_index ns i ∷ drop k ns) (let e : suc i ≡ i + 1 = omega arith in e)) left

  pub listed_within : slice_index ns i < s.config.processes
  listed_within = left_at.within (slice_index ns i) (inl refl)

-- its label was stored, and its holder stands there
pub label_stored_at : (i : ℕ) (ns : List ℕ) (p q : Published) (s : TableState) (l : Label) → i < length ns → IsToPublish (drop i ns) p s
    → q ≡ with_label p (slice_index ns i) l → l ≡ public_of s (slice_index ns i) → HoldersAreShown p s → IsToPublish (drop (i + 1) ns) q s
label_stored_at i ns p q s l inside left stored is held =
    let x = slice_index ns i in
    subst (λ r. IsToPublish (drop (i + 1) ns) r s) (sym (stored ∙ ap (with_label p x) is))
    (label_stored x (drop (i + 1) ns) p s (left_at i ns p s inside left) (held x (listed_within i ns p s inside left)))

-- its holder was stored, and its label stands there
pub holder_stored_at : (i : ℕ) (ns : List ℕ) (p q : Published) (s : TableState) (h : Option ℕ) → i < length ns → IsToPublish (drop i ns) p s
    → q ≡ with_holder p (slice_index ns i) h → h ≡ holder_of s (slice_index ns i) → IdleAreShown p s → wait_of s (slice_index ns i) ≡ None → IsToPublish (drop (i + 1) ns) q s
holder_stored_at i ns p q s h inside left stored has idle waits =
    let x = slice_index ns i in
    subst (λ r. IsToPublish (drop (i + 1) ns) r s) (sym (stored ∙ ap (with_holder p x) has))
    (holder_stored x (drop (i + 1) ns) p s (left_at i ns p s inside left) (idle x (listed_within i ns p s inside left) waits))

-- both were stored
pub both_stored_at : (i : ℕ) (ns : List ℕ) (p q r : Published) (s : TableState) (l : Label) (h : Option ℕ) → i < length ns → IsToPublish (drop i ns) p s
    → q ≡ with_label p (slice_index ns i) l → l ≡ public_of s (slice_index ns i) → r ≡ with_holder q (slice_index ns i) h → h ≡ holder_of s (slice_index ns i) → IsToPublish (drop (i + 1) ns) r s
both_stored_at i ns p q r s l h inside left first is second has =
    let x = slice_index ns i in
    let whole : r ≡ with_holder (with_label p x (public_of s x)) x (holder_of s x) = second ∙ ap (with_holder q x) has ∙ ap (λ q. with_holder q x (holder_of s x)) (first ∙ ap (with_label p x) is) in
    subst (λ r. IsToPublish (drop (i + 1) ns) r s) (sym whole) (both_stored x (drop (i + 1) ns) p s (left_at i ns p s inside left))

-- a label that was stored is one more of what was appended
pub appends_at : (p q r : Published) (s : TableState) (x : ℕ) (l : Label) → AppendsOnly p q s → x < length q.histories → r ≡ with_label q x l → l ≡ public_of s x → AppendsOnly p r s
appends_at p q r s x l before inside stored is = subst (λ r. AppendsOnly p r s) (sym (stored ∙ ap (with_label q x) is)) (appends_more p q s x before inside)

-- the labels of those that wait for nothing still stand there
pub idle_at : (p q : Published) (s : TableState) (x : ℕ) (l : Label) → IdleAreShown p s → x < length p.histories → q ≡ with_label p x l → l ≡ public_of s x → IdleAreShown q s
idle_at p q s x l shown inside stored is n within idle =
    ap (λ q. current_label q n) (stored ∙ ap (with_label p x) is) ∙ elim (cases_eq n x) [
      | inl e ↦ rw e (current_label_stored p x (public_of s x) inside)
      | inr apart ↦ ap last_label (history_else p x (public_of s x) n apart) ∙ shown n within idle
    ]

-- ---- at the end

-- nobody is left
pub all_stored : (p : Published) (s : TableState) → IsToPublish [] p s → IsPublished p s
all_stored p s left = record { histories = left.histories; holders = left.holders; shown = λ n within. left.others n within (λ among. among) }

pub still_published : (p q : Published) (s : TableState) → q.histories ≡ p.histories → q.holders ≡ p.holders → IsPublished p s → IsPublished q s
still_published p q s histories holders published = record {
  histories = ap length histories ∙ published.histories;
  holders = ap length holders ∙ published.holders;
  shown = λ n within.
      let shown = published.shown n within in
      record { label = ap (λ hs. last_label (slice_index_or hs n [])) histories ∙ shown.label; holder = ap (λ hs. slice_index_or hs n None) holders ∙ shown.holder };
}

-- ---- after an event

module _ (e : Event) (p : Published) (s t : TableState) (reply : Result (Answer e) Refusal) (step : Step e s reply t) (laws : Laws s) (published : IsPublished p s) where
  pub changes : ChangesShown e reply s t
  changes = shown_changes_are_told e s t reply step laws

  back_within : (n : ℕ) → n < t.config.processes → n < s.config.processes
  back_within n within = subst (λ (c : Config). n < c.processes) (event_config e s t reply step) within

  pub to_publish : IsToPublish (shown_anew e reply s t) p t
  to_publish =
      let size : t.config.processes ≡ s.config.processes = ap (λ c. c.processes) (event_config e s t reply step) in
      record {
        histories = published.histories ∙ sym size;
        holders = published.holders ∙ sym size;
        within = λ n told. subst (λ k. n < k) (sym size) (changes.within n told);
        below = λ n within. subst (λ l. IsTrue (label_le l (public_of t n))) (sym (published.shown n (back_within n within)).label) ((event_keeps e s t reply step laws).rise n);
        others = λ n within out.
            let was = published.shown n (back_within n within) in
            let same = changes.others n (back_within n within) out in
            record { label = was.label ∙ sym same.public; holder = was.holder ∙ sym same.holder };
      }

  pub left_after : (r : Result (Answer e) Refusal) → reply ≡ r → IsToPublish (shown_anew e r s t) p t
  left_after r is = subst (λ (r : Result (Answer e) Refusal). IsToPublish (shown_anew e r s t) p t) is to_publish

  -- a refused event leaves nothing to publish
  pub refused_published : (refusal : Refusal) → reply ≡ Err refusal → IsPublished p t
  refused_published refusal is = all_stored p t (left_after (Err refusal) is)

  -- what is known of those that show something else
  pub known : (r : Result (Answer e) Refusal) → reply ≡ r → ShownBy e r s t
  known r is = subst (λ (r : Result (Answer e) Refusal). ShownBy e r s t) is changes.shown

  -- where holders are as they were, they stand on the board already
  pub holders_stand : ((n : ℕ) → holder_of t n ≡ holder_of s n) → HoldersAreShown p t
  holders_stand stand n within = (published.shown n (back_within n within)).holder ∙ sym (stand n)

  -- and so do the labels of those that wait for nothing, where they are as they were
  pub idle_stand : IdleShowTheSame s t → IdleAreShown p t
  idle_stand stand n within idle = (published.shown n (back_within n within)).label ∙ sym (stand n idle)

-- ---- one process, with what the answer tells

-- this label may be stored of process n; then the board q shows the table
pub record MayStore (p q : Published) (t : TableState) (n : ℕ) (l : Label) : Type 0 where
  pub within : n < length p.histories
  pub rises : IsTrue (label_le (current_label p n) l)
  pub published : IsPublished q t
  pub appends : AppendsOnly p q t

-- the board shows it too once it was shown to a reader, which changes no label and no holder
pub then_shown : (p m q r : Published) (t : TableState) (n : ℕ) (l : Label) → q ≡ m → r.histories ≡ q.histories → r.holders ≡ q.holders → MayStore p m t n l → IsPublished r t × AppendsOnly p r t
then_shown p m q r t n l stored histories holders may = (
  still_published m r t (histories ∙ ap (λ (q : Published). q.histories) stored) (holders ∙ ap (λ (q : Published). q.holders) stored) may.published,
  λ k. ((may.appends k).0, ap (λ hs. slice_index_or hs k []) (histories ∙ ap (λ (q : Published). q.histories) stored) ∙ (may.appends k).1),
)

module _ (n : ℕ) (p : Published) (t : TableState) (l : Label) (h : Option ℕ) (left : IsToPublish (n ∷ []) p t) (shows : Shows t n l h) where
  appends_here : AppendsOnly p (with_label p n l) t
  appends_here = appends_at p p (with_label p n l) t n l (appends_none p t) (omega (arith, shows.within, left.histories)) refl (sym shows.public)

  store_rises : IsTrue (label_le (current_label p n) l)
  store_rises = subst (λ l. IsTrue (label_le (current_label p n) l)) shows.public (left.below n shows.within)

  pub may_store_label : current_holder p n ≡ h → MayStore p (with_label p n l) t n l
  may_store_label held = record {
    within = omega (arith, shows.within, left.histories);
    rises = store_rises;
    published = subst (λ l. IsPublished (with_label p n l) t) shows.public (all_stored _ t (label_stored n [] p t left (held ∙ sym shows.holder)));
    appends = appends_here;
  }

  pub may_store_both : MayStore p (with_holder (with_label p n l) n h) t n l
  may_store_both = record {
    within = omega (arith, shows.within, left.histories);
    rises = store_rises;
    published = subst (λ h. IsPublished (with_holder (with_label p n l) n h) t) shows.holder
        (subst (λ l. IsPublished (with_holder (with_label p n l) n (holder_of t n)) t) shows.public (all_stored _ t (both_stored n [] p t left)));
    appends = appends_here;
  }

module _ (p : Published) (s t : TableState) (k : Key) (laws : Laws s) (published : IsPublished p s) where
  module _ (r : ℕ) (reply : Result Acquired Refusal) (step : Step (Acquire k r) s reply t) (h : Key) (l : Label) (is : reply ≡ Ok (Waits h l)) where
    waits_shown : Shows t k.process l (Some h.process)
    waits_shown = subst (λ (a : Result Acquired Refusal). ShownBy (Acquire k r) a s t) is (changes (Acquire k r) p s t reply step laws published).shown

    pub wait_stored : MayStore p (with_holder (with_label p k.process l) k.process (Some h.process)) t k.process l
    wait_stored = may_store_both k.process p t l (Some h.process) (left_after (Acquire k r) p s t reply step laws published (Ok (Waits h l)) is) waits_shown

    -- the holder is another process of the table
    pub waits_for_another : IsAnother (length p.histories) k.process h.process
    waits_for_another =
        let formed = (event_keeps (Acquire k r) s t reply step laws).laws.lawful.well_formed in
        let size = (left_after (Acquire k r) p s t reply step laws published (Ok (Waits h l)) is).histories in (
          omega (arith, (holder_within t formed k.process h.process waits_shown.holder).1, size),
          λ e. holder_apart t formed k.process h.process waits_shown.holder (sym e),
        )

  module _ (reply : Result Transmitted Refusal) (step : Step (Transmit k) s reply t) (l : Label) (is : reply ≡ Ok (Raised l)) where
    pub raise_stored : MayStore p (with_label p k.process l) t k.process l
    raise_stored =
        let shows : Shows t k.process l (holder_of s k.process) = subst (λ (r : Result Transmitted Refusal). ShownBy (Transmit k) r s t) is (changes (Transmit k) p s t reply step laws published).shown in
        let size = ap (λ c. c.processes) (event_config (Transmit k) s t reply step) in
        may_store_label k.process p t l (holder_of s k.process) (left_after (Transmit k) p s t reply step laws published (Ok (Raised l)) is) shows
        (published.shown k.process (omega (arith, shows.within, size))).holder

  -- who gives up shows the label that stands on the board already, and no holder
  module _ (reply : Result (Unit {0}) Refusal) (step : Step (GiveUp k) s reply t) (answer : Unit {0}) (is : reply ≡ Ok answer) where
    given_up_shown : Shows t k.process (public_of s k.process) None
    given_up_shown = subst (λ (r : Result (Unit {0}) Refusal). ShownBy (GiveUp k) r s t) is (changes (GiveUp k) p s t reply step laws published).shown

    pub given_up_within : k.process < length p.holders
    given_up_within = omega (arith, given_up_shown.within, (left_after (GiveUp k) p s t reply step laws published (Ok answer) is).holders)

    pub given_up_stored : IsPublished (with_holder p k.process None) t
    given_up_stored =
        let left = left_after (GiveUp k) p s t reply step laws published (Ok answer) is in
        let size = ap (λ c. c.processes) (event_config (GiveUp k) s t reply step) in
        let label = (published.shown k.process (omega (arith, given_up_shown.within, size))).label in
        subst (λ (h : Option ℕ). IsPublished (with_holder p k.process h) t) given_up_shown.holder
        (all_stored _ t (holder_stored k.process [] p t left (label ∙ sym given_up_shown.public)))

-- where nobody waits and nobody is raised, nothing is left to publish
module _ (p : Published) (s t : TableState) (k : Key) where
  pub granted_published : (r : ℕ) (answer : Acquired) → ((h : Key) (l : Label) → answer ≡ Waits h l → ⊥) → IsToPublish (shown_anew (Acquire k r) (Ok answer) s t) p t → IsPublished p t
  granted_published r Granted not_waits left = all_stored p t left
  granted_published r (Waits h l) not_waits left = absurd (not_waits h l refl)

  pub unraised_published : (answer : Transmitted) → ((l : Label) → answer ≡ Raised l → ⊥) → IsToPublish (shown_anew (Transmit k) (Ok answer) s t) p t → IsPublished p t
  unraised_published (Raised l) not_raised left = absurd (not_raised l refl)
  unraised_published Still not_raised left = all_stored p t left
