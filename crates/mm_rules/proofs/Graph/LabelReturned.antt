-- A label that returned stays so: no change but the activation of the process itself touches its labels, its wait or its holder's label.
use Rattle.std.specs.Prelude.{ℕ, ◌≡◌, ◌≢◌}
use Rattle.std.proofs.Common.{arith, sym, ap, ◌∙◌}
use Rattle.mm_lists.specs.Members.{Among}
use Rattle.mm_rules.specs.Graph.{Graph, IsWaiting, Propagated, LabelReturned, Deadlocked}
use Rattle.mm_rules.proofs.Graph.Laws.{IsLawful}
use Rattle.mm_rules.proofs.Graph.Change.{SameAt, Blocks, Raises, Activates}
use Rattle.mm_rules.proofs.Graph.Walks.{active_waits_not, begins_waiting, OnTheWay}
use Rattle.mm_rules.proofs.Graph.Cycles.{cycle_holds_next, start_on_cycle}
use Rattle.mm_rules.proofs.Graph.Deadlocked.{way_back, returned_are_deadlocked}

-- the holder of a process whose label returned waits
pub holder_waits : (g : Graph) (v h : ℕ) → IsLawful g → LabelReturned g v h → IsWaiting g h
holder_waits g v h laws returned =
    let back : Propagated g (g.private v) h v = way_back g v h laws returned in
    begins_waiting g (OnTheWay g (g.private v) v) h back.places v back.along (h, returned.waits)

pub block_keeps_returned : (g new : Graph) (n i L v h : ℕ) → Blocks g n i L new → IsLawful g → LabelReturned g v h → LabelReturned new v h
block_keeps_returned g new n i L v h b laws returned =
    let other : (k : ℕ) → IsWaiting g k → k ≢ n = λ k waiting e. active_waits_not g k (rw e b.was_active) waiting in
    let at_v : SameAt g new v = b.others v (other v (h, returned.waits)) in
    let at_h : SameAt g new h = b.others h (other h (holder_waits g v h laws returned)) in
    record {
      waits = at_v.holder ∙ returned.waits;
      own = at_v.private ∙ returned.own ∙ sym at_v.public;
      back = at_v.public ∙ returned.back ∙ sym at_h.public;
    }

-- a raise lifts nobody on the cycle of a deadlocked process, since all there show one label
cycle_not_raised : (g new : Graph) (n i v : ℕ) → Raises g n i new → (locked : Deadlocked g v) → (k : ℕ) → Among k locked.places → k ≢ n
cycle_not_raised g new n i v r locked k on_k e =
    let on_i : Among i locked.places = cycle_holds_next g v locked.places locked.cycle k i on_k (rw e r.waits) in
    omega (arith, r.below, ap g.public e, locked.one_label k on_k, locked.one_label i on_i)

pub raise_keeps_returned : (g new : Graph) (n i v h : ℕ) → Raises g n i new → IsLawful g → LabelReturned g v h → LabelReturned new v h
raise_keeps_returned g new n i v h r laws returned =
    let locked : Deadlocked g v = returned_are_deadlocked g v h laws returned in
    let on_v : Among v locked.places = start_on_cycle g v locked.places locked.cycle in
    let on_h : Among h locked.places = cycle_holds_next g v locked.places locked.cycle v h on_v returned.waits in
    let at_v : new.public v ≡ g.public v = r.publics v (cycle_not_raised g new n i v r locked v on_v) in
    let at_h : new.public h ≡ g.public h = r.publics h (cycle_not_raised g new n i v r locked h on_h) in
    record {
      waits = r.holders v ∙ returned.waits;
      own = r.privates v ∙ returned.own ∙ sym at_v;
      back = at_v ∙ returned.back ∙ sym at_h;
    }

pub activate_keeps_returned : (g new : Graph) (n i v h : ℕ) → Activates g n i new → v ≢ n → LabelReturned g v h → LabelReturned new v h
activate_keeps_returned g new n i v h a apart returned = record {
  waits = a.holders v apart ∙ returned.waits;
  own = a.privates v ∙ returned.own ∙ sym (a.publics v);
  back = a.publics v ∙ returned.back ∙ sym (a.publics h);
}
