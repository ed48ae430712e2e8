-- Labels tell their makers: a label that a process makes is nobody else's, and each of the three changes keeps that.
use Rattle.std.specs.Prelude.{ℕ, ◌≡◌, ◌≢◌, ◌≤◌, ◌<◌}
use Rattle.std.proofs.Common.{inl, inr, arith, sym, ap, ◌∙◌}
use Rattle.std.proofs.Math.Decide.{ℕ_discrete}
use Rattle.mm_rules.specs.Graph.{Graph}
use Rattle.mm_rules.proofs.Graph.Laws.{OrderedLaw, WithinLaw, HasLabelMakers}
use Rattle.mm_rules.proofs.Graph.Change.{SameAt, Blocks, Raises, Activates}
use Rattle.mm_rules.proofs.Graph.Raise.{raised_shows}

pub made_labels_are_fresh : (number : ℕ → ℕ) (g : Graph) (n L : ℕ) → HasLabelMakers number g → OrderedLaw g → number L ≡ n → g.public n < L
    → n < g.processes → (k : ℕ) → k < g.processes → k ≢ n → (g.private k ≢ L) × (g.public k ≢ L)
made_labels_are_fresh number g n L makers ordered named above n_in k k_in apart = (
  λ e. apart (sym (makers.named k k_in) ∙ ap number e ∙ named),
  λ e. omega (arith, ordered n n_in, makers.newest k k_in, ap g.private (ap number e ∙ named)),
)

-- what labels must tell at one process
record HasLabelMakerAt (number : ℕ → ℕ) (g : Graph) (k : ℕ) : Type 0 where
  named : number (g.private k) ≡ k
  made : number (g.public k) < g.processes
  newest : g.public k ≤ g.private (number (g.public k))

makers_everywhere : (number : ℕ → ℕ) (g : Graph) → ((k : ℕ) → k < g.processes → HasLabelMakerAt number g k) → HasLabelMakers number g
makers_everywhere number g each = record {
  named = λ k k_in. (each k k_in).named;
  made = λ k k_in. (each k k_in).made;
  newest = λ k k_in. (each k k_in).newest;
}

module _ (number : ℕ → ℕ) (g new : Graph) (n h L : ℕ) (b : Blocks g n h L new) where
  block_lowers_no_private : OrderedLaw g → (k : ℕ) → k < g.processes → g.private k ≤ new.private k
  block_lowers_no_private ordered k k_in = grind (arith, ordered k, b.others k, ℕ_discrete k n)

  blocked_maker : number L ≡ n → (k : ℕ) → k ≡ n → k < g.processes → HasLabelMakerAt number new k
  blocked_maker named k e k_in =
      let shown : number (new.public k) ≡ k = ap number (ap new.public e ∙ b.public_now) ∙ named ∙ sym e in
      record {
        named = ap number (ap new.private e ∙ b.private_now) ∙ named ∙ sym e;
        made = omega (arith, b.processes);
        newest = omega (arith, ap new.private (shown ∙ e), ap new.public e, b.public_now, b.private_now);
      }

  block_keeps_maker_at : OrderedLaw g → HasLabelMakers number g → (k : ℕ) → k ≢ n → k < g.processes → HasLabelMakerAt number new k
  block_keeps_maker_at ordered makers k apart k_in =
      let same : SameAt g new k = b.others k apart in
      let made : number (g.public k) < g.processes = makers.made k k_in in
      let shown : number (new.public k) ≡ number (g.public k) = ap number same.public in
      record {
        named = ap number same.private ∙ makers.named k k_in;
        made = omega (arith, b.processes);
        newest = omega (arith, ap new.private shown, makers.newest k k_in, block_lowers_no_private ordered (number (g.public k)) made);
      }

  pub block_keeps_makers : number L ≡ n → OrderedLaw g → HasLabelMakers number g → HasLabelMakers number new
  block_keeps_makers named ordered makers = makers_everywhere number new (λ k k_in.
      let here : k < g.processes = omega (arith, b.processes) in
      elim (ℕ_discrete k n) [
        | yes e ↦ blocked_maker named k e here
        | no apart ↦ block_keeps_maker_at ordered makers k apart here
      ])

module _ (number : ℕ → ℕ) (g new : Graph) (n h : ℕ) (r : Raises g n h new) where
  -- who shows what j showed
  shows_old_label : HasLabelMakers number g → (k j : ℕ) → k < g.processes → j < g.processes → new.public k ≡ g.public j → HasLabelMakerAt number new k
  shows_old_label makers k j k_in j_in e =
      record {
        named = ap number (r.privates k) ∙ makers.named k k_in;
        made = omega (arith, makers.made j j_in, ap number e, r.processes);
        newest = omega (arith, makers.newest j j_in, ap new.private (ap number e), r.privates (number (g.public j)));
      }

  pub raise_keeps_makers : WithinLaw g → HasLabelMakers number g → HasLabelMakers number new
  raise_keeps_makers within makers = makers_everywhere number new (λ k k_in.
      let here : k < g.processes = omega (arith, r.processes) in
      elim (raised_shows g new n h r k) [
        | inl now ↦ shows_old_label makers k h here (within n h r.waits).1 now.1
        | inr same ↦ shows_old_label makers k k here here same.1
      ])

pub activate_keeps_makers : (number : ℕ → ℕ) (g new : Graph) (n h : ℕ) → Activates g n h new → HasLabelMakers number g → HasLabelMakers number new
activate_keeps_makers number g new n h a makers = makers_everywhere number new (λ k k_in.
    let here : k < g.processes = omega (arith, a.processes) in
    let shown : number (new.public k) ≡ number (g.public k) = ap number (a.publics k) in
    record {
      named = ap number (a.privates k) ∙ makers.named k here;
      made = omega (arith, makers.made k here, a.processes);
      newest = omega (arith, makers.newest k here, a.publics k, ap new.private shown, a.privates (number (g.public k)));
    })
