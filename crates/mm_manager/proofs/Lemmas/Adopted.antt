-- What an adoption leaves of owners, laws and reserves.
use Rattle.std.proofs.Common.{◌≡◌, ℕ, List, Result, Ok, Err, refl, sym, ap, subst, arith}
use Rattle.mm_arena.specs.declared.key.Key.{Key}
use Rattle.mm_names.specs.Names.{NameTable}
use Rattle.mm_rules.specs.Adopt.{Adopts, with_owner}
use Rattle.mm_rules.specs.Laws.{Laws}
use Rattle.mm_rules.specs.TableState.{TableState, is_live}
use Rattle.mm_rules.proofs.States.Adopt.{adopt_keeps_laws}
use Rattle.mm_manager.specs.Calls.{AdoptsNumber}
use Rattle.mm_manager.specs.declared.refusal.Refusal.{Refusal}
use Rattle.mm_manager.specs.declared.reply.TryLock.{TryLock}
use Rattle.mm_manager.specs.declared.reply.TryLock.TheVariants as tried
use Rattle.mm_manager.proofs.Lemmas.Asked.{MayRequest, RequestKeeps, same_keeps}
use Rattle.mm_manager.proofs.Lemmas.Fewer.{few_to_end}
use Rattle.mm_manager.proofs.Lemmas.Requests.{IsGranted}

-- the number was free, and is k's
pub adopted_is : (s u : TableState) (k : Key) (n : ℕ) → Adopts k n s u → IsGranted s k n u
adopted_is s u k n adopts = record {
  free = adopts.free;
  owners = ap (λ (v : TableState). v.owners) adopts.state;
  waits = ap (λ (v : TableState). v.waits) adopts.state;
  live = ap (λ (v : TableState). is_live v k) adopts.state;
  config = ap (λ (v : TableState). v.config) adopts.state;
}

adopted_keeps : (s u : TableState) (k : Key) (n : ℕ) → MayRequest s → Adopts k n s u → RequestKeeps s u
adopted_keeps s u k n may adopts =
    let new = with_owner s n k in
    let laws : Laws new = adopt_keeps_laws k n s new (record { live = adopts.live; free = adopts.free; state = refl }) may.laws in
    subst (λ (v : TableState). RequestKeeps s v) (sym adopts.state) record {
      laws = laws;
      room = record { labels = may.room.labels; events = omega (arith, few_to_end new laws, may.below); aborts = may.room.aborts };
      config = refl;
    }

adopted_by : (s u : TableState) (t named : NameTable) (k : Key) (name : List ℕ) (answer : TryLock) → MayRequest s → AdoptsNumber s t k name answer u named → RequestKeeps s u
adopted_by s u t named k name tried.Granted may adopts = adopted_keeps s u k adopts.0 may adopts.2
adopted_by s u t named k name tried.Held may found = same_keeps s u may found.1
adopted_by s u t named k name (tried.Busy h) may found = same_keeps s u may found.1.1

pub adoption_keeps : (s u : TableState) (t named : NameTable) (k : Key) (name : List ℕ) (reply : Result TryLock Refusal) → MayRequest s
    → ((answer : TryLock) → reply ≡ Ok answer → AdoptsNumber s t k name answer u named) → ((e : Refusal) → reply ≡ Err e → u ≡ s) → RequestKeeps s u
adoption_keeps s u t named k name (Ok answer) may made refused = adopted_by s u t named k name answer may (made answer refl)
adoption_keeps s u t named k name (Err e) may made refused = same_keeps s u may (refused e refl)
