use Rattle.std.proofs.Common.{ℕ, ◌+◌, ◌<◌, inl, inr, sym, ap, ◌∙◌, subst, arith}
use Rattle.std.proofs.lemmas.Bool.{cases_eq}
use Rattle.mm_lists.specs.Members.{Among}
use Rattle.mm_thin.specs.declared.spread.Spread.{Spread}
use Rattle.mm_desk.specs.Desk.{DeskState}
use Rattle.mm_desk.specs.Calls.{KeepsFat}
use Rattle.mm_desk.proofs.Keeps.{keeps_both}
use Rattle.mm_desk.proofs.desk.Desk.adopt_all.Goals as goal
use Rattle.mm_desk.proofs.desk.Desk.adopt_all.Goals.{in-Fat, in-Changed}

-- one bucket more is fat
one_more : (k : ℕ) (old new : DeskState) → KeepsFat old new → ((b : ℕ) → b < k → Among b old.office.desk.fat) → Among k new.office.desk.fat → (b : ℕ) → b < k + 1 → Among b new.office.desk.fat
one_more k old new keeps below fat b low = elim (cases_eq b k) [ inl same ↦ subst (λ x. Among x new.office.desk.fat) (sym same) fat | inr apart ↦ keeps.fat b (below b (omega arith)) ]

pub returns-in-Refused-clause-keeps : goal.returns-in-Refused-clause-keeps
returns-in-Refused-clause-keeps c = keeps_both c.args.self.now c.loop-bucket.self c.adopt.new.self c.loop-bucket.invariant.0 c.adopt.ensures.keeps

pub returns-in-Refused-clause-refused : goal.returns-in-Refused-clause-refused
returns-in-Refused-clause-refused c = (c.loop-bucket.self, c.loop-bucket.invariant.0, (c.loop-bucket.bucket, c.in-Refused.ensures.refused))

pub loop-bucket-preserved : goal.loop-bucket-preserved
loop-bucket-preserved c =
    let k = c.loop-bucket.bucket in
    let new = c.adopt.new.self in (
      keeps_both c.args.self.now c.loop-bucket.self new c.loop-bucket.invariant.0 c.adopt.ensures.keeps,
      λ so. elim c.match-adopt.branch [
        | in-Fat w ↦ one_more k c.loop-bucket.self new c.adopt.ensures.keeps (c.loop-bucket.invariant.1 (sym w.is_changed-is ∙ so)) w.in-Fat.ensures.adopts
        | in-Changed w ↦ (let never = sym w.is_changed-is ∙ so in absurd (cc))
      ],
    )

pub returns-else-is_changed-clause-adopts : goal.returns-else-is_changed-clause-adopts
returns-else-is_changed-clause-adopts c b low =
    let spread = ap (λ x. x.books.spread.buckets) c.self-inside.view_is ∙ ap (λ (s : Spread). s.buckets) c.self.invariant.spread in
    let words = c.buckets-bucket-end.ensures ∙ spread ∙ c.self.invariant.words ∙ ap (λ (d : DeskState). d.office.of.table.words) c.self.view_is in
    let over = c.loop-bucket-test.false in
    c.loop-bucket.invariant.1 c.if-is_changed.false b (omega arith)
