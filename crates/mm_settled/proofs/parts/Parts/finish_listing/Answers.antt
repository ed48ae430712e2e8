use Rattle.std.proofs.Common.{◌≡◌, ℕ, List, [], Ok, Err, IsTrue, false, length, vec_len, refl, sym, ap, subst, ◌∙◌, arith}
use Rattle.std.specs.List.{filter_map}
use Rattle.std.proofs.lemmas.Bool.{eqb-true, not-false}
use Rattle.std.proofs.lemmas.List.{length-replicate}
use Rattle.mm_arena.specs.declared.key.Key.{Key}
use Rattle.mm_lists.proofs.Lemmas.Range.{no_repeat_filter_range}
use Rattle.mm_rules.specs.TableState.{TableState, is_live, owns}
use Rattle.mm_rules.specs.Change.{vacate}
use Rattle.mm_rules.specs.Event.{Finish, Step, finish_tests}
use Rattle.mm_rules.specs.Laws.{Laws}
use Rattle.mm_rules.proofs.States.EventsKeepLaws.{event_keeps}
use Rattle.mm_settle_lemmas.specs.Touched.{changed_processes}
use Rattle.mm_settled.specs.Grants.{grants}
use Rattle.mm_settled.specs.private.Ends.{ListsOwned}
use Rattle.mm_settled.specs.private.Lists.{Fits, given, owned_by_key, owns_key}
use Rattle.mm_settled.proofs.Lemmas.Accepted.{accepted}
use Rattle.mm_settled.proofs.Lemmas.Ends.{finish_hands_on}
use Rattle.mm_settled.proofs.Lemmas.Fits.{fits_again, owned_by_process, owned_within, owned_listed, sorted_owned}
use Rattle.mm_settled.proofs.Lemmas.Grants.{given_are_grants, few_grants, nobody_changed_grants_none}
use Rattle.mm_settled.proofs.Lemmas.Numbers.{no_length}
use Rattle.mm_settled.proofs.Lemmas.Quiet.{same_is_quiet}
use Rattle.mm_settled.proofs.Lemmas.Refused.{finish_refused}
use Rattle.mm_settled.proofs.parts.Parts.finish_listing.Goals as goal

pub returns-in_err-finish_listing-clause-granted : goal.returns-in_err-finish_listing-clause-granted
returns-in_err-finish_listing-clause-granted c =
    let s = c.args.self.now.table in
    let is : Step (Finish c.args.key) s (Err c.in_err-finish_listing.field-0.0) c.finish_listing.new.self = rw c.in_err-finish_listing.was at c.finish_listing.ensures.step in
    let same = finish_refused s c.finish_listing.new.self c.args.key c.in_err-finish_listing.field-0.0 is in
    c.clear.ensures.items ∙ sym (same_is_quiet s c.finish_listing.new.self c.requires.laws same).granted

-- ---- it is accepted

was_live : (s t : TableState) (k : Key) → Step (Finish k) s (Ok tt) t → IsTrue (is_live s k)
was_live s t k is = not-false (is_live s k) (accepted (finish_tests s k) s tt (vacate s k.process) tt t is).passed.1.0

-- those that own now what the transaction owned are the grants
given_now : (s t : TableState) (k : Key) (ns : List ℕ) → Laws s → Step (Finish k) s (Ok tt) t → ns ≡ owned_by_key s k → filter_map (given t) ns ≡ grants s t
given_now s t k ns laws is are_owned =
    ap (filter_map (given t)) (are_owned ∙ owned_by_process s k laws (was_live s t k is)) ∙ given_are_grants s t k.process (owns s k.process) laws (finish_hands_on s t k laws is)

pub returns-then-is_empty-clause-granted : goal.returns-then-is_empty-clause-granted
returns-then-is_empty-clause-granted c =
    let s = c.args.self.now.table in
    let t = c.finish_listing.new.self in
    let is : Step (Finish c.args.key) s (Ok tt) t = rw c.in_ok-finish_listing.was at c.finish_listing.ensures.step in
    let nobody : changed_processes s t ≡ [] = sym c.finish_listing.ensures.woken ∙ no_length c.finish_listing.new.wake.items (omega (arith, c.finish_listing.new.wake.ok, eqb-true (vec_len c.finish_listing.new.wake) 0 (sym c.is_empty.ensures ∙ c.if-is_empty.true))) in
    c.clear.ensures.items ∙ sym (nobody_changed_grants_none s t c.requires.laws (event_keeps (Finish c.args.key) s t (Ok tt) is c.requires.laws).laws nobody)

pub sort-requires-clause-within : goal.sort-requires-clause-within
sort-requires-clause-within c =
    owned_within c.args.self.now.table c.args.key c.finish_listing.new.resources.items (length c.args.self.now.lists.resources) c.requires.laws
    (ap length c.requires.fits.resources ∙ length-replicate c.args.self.now.table.config.resources false) (rw c.in_ok-finish_listing.was at c.finish_listing.ensures.listed)

are_grants : (c : goal.After-list_given-arg-2-1) → filter_map (given c.finish_listing.new.self) c.deref.result.now ≡ grants c.args.self.now.table c.finish_listing.new.self
are_grants c =
    let s = c.args.self.now.table in
    let is : Step (Finish c.args.key) s (Ok tt) c.finish_listing.new.self = rw c.in_ok-finish_listing.was at c.finish_listing.ensures.step in
    given_now s c.finish_listing.new.self c.args.key c.deref.result.now c.requires.laws is
    (c.deref.ensures.value ∙ c.sort.ensures.sorted ∙ sorted_owned s c.args.key c.finish_listing.new.resources.items c.args.self.now.lists.resources c.requires.fits.resources (rw c.in_ok-finish_listing.was at c.finish_listing.ensures.listed))

pub list_given-requires : goal.list_given-requires
list_given-requires c = omega (arith, ap length (are_grants c), few_grants c.args.self.now.table c.finish_listing.new.self c.requires.laws, c.requires.fits.granted, c.clear.ensures.capacity)

is_sorted : (c : goal.After-list_given) → c.sort.new.numbers.items ≡ owned_by_key c.args.self.now.table c.args.key
is_sorted c = c.sort.ensures.sorted ∙ sorted_owned c.args.self.now.table c.args.key c.finish_listing.new.resources.items c.args.self.now.lists.resources c.requires.fits.resources (rw c.in_ok-finish_listing.was at c.finish_listing.ensures.listed)

pub returns-clause-granted : goal.returns-clause-granted
returns-clause-granted c =
    let s = c.args.self.now.table in
    let is : Step (Finish c.args.key) s (Ok tt) c.finish_listing.new.self = rw c.in_ok-finish_listing.was at c.finish_listing.ensures.step in
    c.list_given.ensures.given ∙ given_now s c.finish_listing.new.self c.args.key c.deref.result.now c.requires.laws is (c.deref.ensures.value ∙ is_sorted c)

pub returns-clause-owned : goal.returns-clause-owned
returns-clause-owned c =
    let s = c.args.self.now.table in
    let k = c.args.key in
    subst (ListsOwned s k) (sym (is_sorted c)) record { owned = owned_listed s k c.requires.laws; once = no_repeat_filter_range (owns_key s k) 0 s.config.resources }

pub returns-in_err-finish_listing-clause-fits : goal.returns-in_err-finish_listing-clause-fits
returns-in_err-finish_listing-clause-fits c =
    fits_again c.args.self.now.table.config c.args.self.now.table.config c.args.self.now.lists
    (record c.args.self.now.lists { granted = c.clear.new.self; owned = c.finish_listing.new.resources; woken = c.finish_listing.new.wake }) refl c.requires.fits
    record { granted = c.clear.ensures.capacity; woken = c.finish_listing.ensures.room; owned = c.finish_listing.ensures.room_to_list; resources = refl }

pub returns-then-is_empty-clause-fits : goal.returns-then-is_empty-clause-fits
returns-then-is_empty-clause-fits c =
    fits_again c.args.self.now.table.config c.args.self.now.table.config c.args.self.now.lists
    (record c.args.self.now.lists { granted = c.clear.new.self; owned = c.finish_listing.new.resources; woken = c.finish_listing.new.wake }) refl c.requires.fits
    record { granted = c.clear.ensures.capacity; woken = c.finish_listing.ensures.room; owned = c.finish_listing.ensures.room_to_list; resources = refl }

pub returns-clause-fits : goal.returns-clause-fits
returns-clause-fits c =
    let config = c.args.self.now.table.config in
    let listed = record c.args.self.now.lists { granted = c.clear.new.self; owned = c.finish_listing.new.resources; woken = c.finish_listing.new.wake } in
    let fits : Fits config listed = fits_again config config c.args.self.now.lists listed refl c.requires.fits
    record { granted = c.clear.ensures.capacity; woken = c.finish_listing.ensures.room; owned = c.finish_listing.ensures.room_to_list; resources = refl } in
    fits_again config config listed _ refl fits record { granted = c.list_given.ensures.room; woken = refl; owned = c.sort.ensures.room; resources = c.sort.ensures.none }
