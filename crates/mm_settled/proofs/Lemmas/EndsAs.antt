-- What a call does by which resources are handed over: where it is refused, and where it is accepted.
use Rattle.std.proofs.Common.{◌≡◌, ℕ, Bool, true, false, [], Result, Ok, Err, MatchBool, refl, sym, ap, subst, ◌∙◌}
use Rattle.std.specs.Result.{IsErr, IsErrAnd}
use Rattle.mm_rules.specs.declared.config.Config.{Config}
use Rattle.mm_rules.specs.declared.refusal.Refusal.{Refusal}
use Rattle.mm_rules.specs.declared.refusal.Refusal.TheVariants.{CountsExhausted}
use Rattle.mm_rules.specs.TableState.{TableState}
use Rattle.mm_rules.specs.Event.{Event, Answer, Step}
use Rattle.mm_rules.specs.Laws.{Laws, AtRest}
use Rattle.mm_rules.specs.Victims.{BeginsWait}
use Rattle.mm_rules.specs.TakeBack.{HasNoVictim}
use Rattle.mm_settle_lemmas.specs.Shown.{IdleShowTheSame}
use Rattle.mm_settle_lemmas.specs.Touched.{changed_processes}
use Rattle.mm_settled.specs.declared.lists.Lists.{Lists}
use Rattle.mm_settled.specs.Calls.{has_room, Made, Makes, Refuses}
use Rattle.mm_settled.specs.Grants.{grants}
use Rattle.mm_settled.specs.private.Ends.{Ends}
use Rattle.mm_settled.specs.private.Lists.{ComesToRest, Fits}
use Rattle.mm_settled.proofs.Lemmas.Ends.{HandsOn}
use Rattle.mm_settled.proofs.Lemmas.Fits.{HasSameRoom, fits_again}
use Rattle.mm_settled.proofs.Lemmas.Quiet.{same_is_quiet}
use Rattle.mm_settled.proofs.Lemmas.Refused.{ends_none}
use Rattle.mm_settled.proofs.Lemmas.Rest.{EndsAtRest, ends_at_rest}

pub refused_for_room : (e : Event) (s : TableState) → has_room s ≡ false → Refuses e s CountsExhausted s
refused_for_room e s full = (refl, subst (λ b. MatchBool b (Step e s (Err CountsExhausted) s) (◌≡◌ {A = Refusal} CountsExhausted CountsExhausted)) (sym full) refl)

-- nothing changed, and nothing was granted
pub ends_refused : (s t : TableState) (n : ℕ) (lists : Lists) → Laws s → AtRest s → t ≡ s → lists.granted.items ≡ grants s t → Fits s.config lists → Ends s t n lists
ends_refused s t n lists laws rest same granted fits = record {
  granted = granted;
  ended = ends_none s t n lists.granted.items laws same granted;
  config = ap (λ (u : TableState). u.config) same;
  rest = subst (λ (u : TableState). AtRest u) (sym same) rest;
  none = λ before. subst (λ (u : TableState). HasNoVictim u) (sym same) before;
  fits = subst (λ (f : Config). Fits f lists) (sym (ap (λ (u : TableState). u.config) same)) fits;
}

-- an empty list of grants tells of nobody
pub ends_cleared : (s : TableState) (n : ℕ) (was lists : Lists) → Laws s → AtRest s → Fits s.config was → HasSameRoom was lists → lists.granted.items ≡ [] → Ends s s n lists
ends_cleared s n was lists laws rest fits room granted =
    ends_refused s s n lists laws rest refl (granted ∙ sym (same_is_quiet s s laws refl).granted) (fits_again s.config s.config was lists refl fits room)

-- a reply that is this refusal
pub makes_as : (e : Event) (s t : TableState) (reply : Result (Answer e) Refusal) (refusal : Refusal) → IsErr reply × IsErrAnd reply (λ x. x ≡ refusal) → Refuses e s refusal t → Makes e s reply t
makes_as e s t (Ok answer) refusal is refuses = absurd is.1
makes_as e s t (Err x) refusal is refuses = rw is.1 refuses

-- an event by which process n hands over what passes the test, and the settle after it
module _ (s mid new : TableState) (n : ℕ) (p : ℕ → Bool) (lists : Lists) (laws : Laws s) (rest : AtRest s) (room : has_room s ≡ true) (granted : lists.granted.items ≡ grants s mid)
    (woken : lists.woken.items ≡ changed_processes s mid) (comes : ComesToRest mid lists.woken.items new) (fits : Fits s.config lists) where
  at_rest : (e : Event) (answer : Answer e) → Step e s (Ok answer) mid → (BeginsWait e (Ok answer) → ⊥) → IdleShowTheSame s mid → HandsOn s n p mid → EndsAtRest e s answer new n lists.granted.items
  at_rest e answer step none idle on = ends_at_rest e s mid new answer laws rest step none idle lists.woken.items woken comes n p on room lists.granted.items granted

  pub hands_over_made : (e : Event) (answer : Answer e) → Step e s (Ok answer) mid → (BeginsWait e (Ok answer) → ⊥) → IdleShowTheSame s mid → HandsOn s n p mid → Made e s answer new
  hands_over_made e answer step none idle on = (at_rest e answer step none idle on).made

  pub hands_over_ends : (e : Event) (answer : Answer e) → Step e s (Ok answer) mid → (BeginsWait e (Ok answer) → ⊥) → IdleShowTheSame s mid → HandsOn s n p mid → Ends s new n lists
  hands_over_ends e answer step none idle on =
      let ends = at_rest e answer step none idle on in
      record {
        granted = ends.are_granted;
        ended = ends.ended;
        config = ends.config;
        rest = ends.rest;
        none = ends.none;
        fits = subst (λ (f : Config). Fits f lists) (sym ends.config) fits;
      }
