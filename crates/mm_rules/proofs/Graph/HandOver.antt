-- A whole hand-over keeps the laws: the first waiter becomes active, and then each other one becomes active and blocks on it.
use Rattle.std.specs.Prelude.{ℕ, None, ◌≡◌, ◌≢◌, ◌<◌, List, [], ◌∷◌}
use Rattle.std.proofs.Common.{inl, inr, arith, sym, subst, ◌∙◌, refl}
use Rattle.std.proofs.Math.Decide.{ℕ_discrete}
use Rattle.mm_lists.specs.Members.{Among, NoRepeat}
use Rattle.mm_rules.specs.Graph.{Graph, WaitsFor, IsActive, LabelReturned}
use Rattle.mm_rules.proofs.Graph.Laws.{IsLawful, HasLabelMakers}
use Rattle.mm_rules.proofs.Graph.Change.{SameAt, Blocks, Activates, MayActivate, same_then, same_back}
use Rattle.mm_rules.proofs.Graph.Walks.{active_waits_not, one_holder}
use Rattle.mm_rules.proofs.Graph.Block.{block_keeps_laws}
use Rattle.mm_rules.proofs.Graph.Activate.{activate_keeps_laws}
use Rattle.mm_rules.proofs.Graph.LabelMakers.{made_labels_are_fresh, block_keeps_makers, activate_keeps_makers}
use Rattle.mm_rules.proofs.Graph.LabelReturned.{holder_waits, block_keeps_returned, activate_keeps_returned}
use Rattle.mm_rules.proofs.Graph.Update.{IsUpdate, update, is_update}

-- o, which is active, gives a resource to f, the first that waits for it.
-- Each of the rest, which wait for it too, waits for f from now on, with a new label of its own.
pub record HandsOver (number : ℕ → ℕ) (g : Graph) (o f : ℕ) (rest : List ℕ) (label : ℕ → ℕ) (new : Graph) : Type 0 where
  pub giver : IsActive g o
  pub first : WaitsFor g f o
  pub waiting : (k : ℕ) → Among k rest → WaitsFor g k o
  pub simple : NoRepeat (f ∷ rest)
  pub above : (k : ℕ) → Among k rest → g.public k < label k
  pub named : (k : ℕ) → Among k rest → number (label k) ≡ k
  pub processes : new.processes ≡ g.processes
  pub first_now : IsActive new f × (new.private f ≡ g.private f) × (new.public f ≡ g.public f)
  pub rest_now : (k : ℕ) → Among k rest → WaitsFor new k f × (new.private k ≡ label k) × (new.public k ≡ label k)
  pub others : (k : ℕ) → k ≢ f → (Among k rest → ⊥) → SameAt g new k

-- the laws, the makers of the labels, and each label that returned in g, are kept in new
pub record KeepsAll (number : ℕ → ℕ) (g new : Graph) : Type 0 where
  pub lawful : IsLawful new
  pub makers : HasLabelMakers number new
  pub returned : (v h : ℕ) → LabelReturned g v h → LabelReturned new v h

keeps_all_then : (number : ℕ → ℕ) (a b c : Graph) → KeepsAll number a b → KeepsAll number b c → KeepsAll number a c
keeps_all_then number a b c first second = record {
  lawful = second.lawful;
  makers = second.makers;
  returned = λ v h was. second.returned v h (first.returned v h was);
}

-- who waits for an active process has no label that returned
returned_elsewhere : (g : Graph) (o k v h : ℕ) → IsLawful g → IsActive g o → WaitsFor g k o → LabelReturned g v h → v ≢ k
returned_elsewhere g o k v h laws active waits returned e =
    active_waits_not g h (rw (one_holder g k h o (rw e at returned.waits) waits) active) (holder_waits g v h laws returned)

activate_keeps_all : (number : ℕ → ℕ) (g new : Graph) (n o : ℕ) → Activates g n o new → IsActive g o
    → IsLawful g → HasLabelMakers number g → KeepsAll number g new
activate_keeps_all number g new n o a active laws makers = record {
  lawful = activate_keeps_laws g new n o a laws;
  makers = activate_keeps_makers number g new n o a makers;
  returned = λ v h returned. activate_keeps_returned g new n o v h a (returned_elsewhere g o n v h laws active a.waited returned) returned;
}

pub block_keeps_all : (number : ℕ → ℕ) (g new : Graph) (n h L : ℕ) → Blocks g n h L new → number L ≡ n
    → IsLawful g → HasLabelMakers number g → KeepsAll number g new
block_keeps_all number g new n h L b named laws makers = record {
  lawful = block_keeps_laws g new n h L b laws;
  makers = block_keeps_makers number g new n h L b named laws.ordered makers;
  returned = λ v i. block_keeps_returned g new n h L v i b laws;
}

-- a process whose wait alone went
pub update_activates : (g new : Graph) (n o : ℕ) → WaitsFor g n o → MayActivate g n o → IsUpdate g n None (g.private n) (g.public n) new → Activates g n o new
update_activates g new n o waits may now =
    let same : (k : ℕ) → (new.private k ≡ g.private k) × (new.public k ≡ g.public k) = λ k. elim (ℕ_discrete k n) [
      | yes e ↦ rw e (now.private, now.public)
      | no apart ↦ ((now.others k apart).private, (now.others k apart).public)
    ] in
    record {
      waited = waits;
      may = may;
      processes = now.processes;
      now_active = now.holder;
      holders = λ k apart. (now.others k apart).holder;
      privates = λ k. (same k).0;
      publics = λ k. (same k).1;
    }

module _ (number : ℕ → ℕ) (g : Graph) (o f : ℕ) (label : ℕ → ℕ) where
  -- with no one else waiting, a hand-over is one activation
  first_activates : (new : Graph) → HandsOver number g o f [] label new → Activates g f o new
  first_activates new over = update_activates g new f o over.first (inl over.giver) record {
    processes = over.processes;
    holder = over.first_now.0;
    private = over.first_now.1;
    public = over.first_now.2;
    others = λ k apart. over.others k apart (λ found. found);
  }

  -- the giver, which is active, is none of those that wait
  giver_stays : (rest : List ℕ) (new : Graph) → HandsOver number g o f rest label new → IsActive new o
  giver_stays rest new over =
      let apart : (k : ℕ) → WaitsFor g k o → o ≢ k = λ k waits e. active_waits_not g k (rw e at over.giver) (o, waits) in
      (over.others o (apart f over.first) (λ among. apart o (over.waiting o among) refl)).holder ∙ over.giver

  -- the last step of a hand-over undone: k waits for o still, with its old labels
  hands_over_without : (k : ℕ) (rest : List ℕ) (mid new : Graph) → HandsOver number g o f (k ∷ rest) label new
      → IsUpdate new k (g.holder k) (g.private k) (g.public k) mid → HandsOver number g o f rest label mid
  hands_over_without k rest mid new over back =
      let at_f : SameAt new mid f = back.others f (λ e. over.simple.0 (inl e)) in
      let apart : (j : ℕ) → Among j rest → j ≢ k = λ j among e. over.simple.1.0 (let P : ℕ → Type 0 = λ x. Among x rest in subst P e among) in
      record {
        giver = over.giver;
        first = over.first;
        waiting = λ j among. over.waiting j (inr among);
        simple = (λ among. over.simple.0 (inr among), over.simple.1.1);
        above = λ j among. over.above j (inr among);
        named = λ j among. over.named j (inr among);
        processes = back.processes ∙ over.processes;
        first_now = (at_f.holder ∙ over.first_now.0, at_f.private ∙ over.first_now.1, at_f.public ∙ over.first_now.2);
        rest_now = λ j among.
            let at_j : SameAt new mid j = back.others j (apart j among) in
            let now : WaitsFor new j f × (new.private j ≡ label j) × (new.public j ≡ label j) = over.rest_now j (inr among) in
            (at_j.holder ∙ now.0, at_j.private ∙ now.1, at_j.public ∙ now.2);
        others = λ j not_f not_rest. elim (ℕ_discrete j k) [
          | yes e ↦ rw e record { holder = back.holder; private = back.private; public = back.public }
          | no not_k ↦
              same_then g new mid j (over.others j not_f (λ among. elim among [ inl e ↦ not_k e | inr later ↦ not_rest later ])) (back.others j not_k)
        ];
      }

  -- the last step of a hand-over: k, which waits for o in mid and for nobody in free, waits for f
  last_blocks : (k : ℕ) (rest : List ℕ) (mid free new : Graph) → HandsOver number g o f (k ∷ rest) label new
      → IsUpdate new k (g.holder k) (g.private k) (g.public k) mid → IsUpdate mid k None (mid.private k) (mid.public k) free
      → IsLawful g → IsLawful free → HasLabelMakers number free → Blocks free k f (label k) new
  last_blocks k rest mid free new over back now laws free_lawful free_makers =
      let k_in : k < free.processes = omega (arith, now.processes, back.processes, over.processes, laws.within k o (over.waiting k (inl refl))) in
      let f_in : f < free.processes = omega (arith, now.processes, back.processes, over.processes, laws.within f o over.first) in
      let above : free.public k < label k = omega (arith, now.public, back.public, over.above k (inl refl)) in
      let last : WaitsFor new k f × (new.private k ≡ label k) × (new.public k ≡ label k) = over.rest_now k (inl refl) in
      record {
        was_active = now.holder;
        within = (k_in, f_in);
        apart = λ e. over.simple.0 (inl (sym e));
        above = above;
        fresh = made_labels_are_fresh number free k (label k) free_makers free_lawful.ordered (over.named k (inl refl)) above k_in;
        processes = sym (now.processes ∙ back.processes);
        waits = last.0;
        private_now = last.1;
        public_now = last.2;
        others = λ j apart. same_back new free j (same_then new mid free j (back.others j apart) (now.others j apart));
      }

  last_keeps_all : (k : ℕ) (rest : List ℕ) (mid free new : Graph) → HandsOver number g o f (k ∷ rest) label new
      → IsUpdate new k (g.holder k) (g.private k) (g.public k) mid → IsUpdate mid k None (mid.private k) (mid.public k) free
      → IsLawful g → KeepsAll number g mid → KeepsAll number g new
  last_keeps_all k rest mid free new over back now laws kept =
      let waits : WaitsFor mid k o = back.holder ∙ over.waiting k (inl refl) in
      let giver : IsActive mid o = giver_stays rest mid (hands_over_without k rest mid new over back) in
      let goes : Activates mid k o free = update_activates mid free k o waits (inl giver) now in
      let frees : KeepsAll number mid free = activate_keeps_all number mid free k o goes giver kept.lawful kept.makers in
      let named : number (label k) ≡ k = over.named k (inl refl) in
      let comes : Blocks free k f (label k) new = last_blocks k rest mid free new over back now laws frees.lawful frees.makers in
      let blocks : KeepsAll number free new = block_keeps_all number free new k f (label k) comes named frees.lawful frees.makers in
      keeps_all_then number g mid new kept (keeps_all_then number mid free new frees blocks)

  pub hand_over_keeps_all : (rest : List ℕ) (new : Graph) → HandsOver number g o f rest label new
      → IsLawful g → HasLabelMakers number g → KeepsAll number g new
  hand_over_keeps_all [] new over laws makers = activate_keeps_all number g new f o (first_activates new over) over.giver laws makers
  hand_over_keeps_all (k ∷ rest) new over laws makers =
      let mid : Graph = update new k (g.holder k) (g.private k) (g.public k) in
      let back : IsUpdate new k (g.holder k) (g.private k) (g.public k) mid = is_update new k (g.holder k) (g.private k) (g.public k) in
      let free : Graph = update mid k None (mid.private k) (mid.public k) in
      let now : IsUpdate mid k None (mid.private k) (mid.public k) free = is_update mid k None (mid.private k) (mid.public k) in
      let kept : KeepsAll number g mid = hand_over_keeps_all rest mid (hands_over_without k rest mid new over back) laws makers in
      last_keeps_all k rest mid free new over back now laws kept
