use Rattle.std.proofs.Common.{◌∙◌, ap, arith}
use Rattle.mm_thin.specs.declared.spread.Spread.{Spread}
use Rattle.mm_desk.specs.Desk.{DeskState}
use Rattle.mm_desk.proofs.Freed.{frees_more}
use Rattle.mm_desk.proofs.Keeps.{same_both}
use Rattle.mm_desk.proofs.desk.Desk.free_all.Goals as goal

pub loop-bucket-preserved : goal.loop-bucket-preserved
loop-bucket-preserved c =
    let new = c.free_if_empty.new.self in
    (same_both c.args.self.now c.loop-bucket.self new c.loop-bucket.invariant.0 c.free_if_empty.ensures.keeps, frees_more c.args.self.now c.loop-bucket.self new c.loop-bucket.bucket c.free_if_empty.ensures.keeps c.loop-bucket.invariant.1 c.free_if_empty.ensures.frees)

pub returns-clause-frees : goal.returns-clause-frees
returns-clause-frees c =
    let spread = ap (λ x. x.books.spread.buckets) c.self-inside.view_is ∙ ap (λ (s : Spread). s.buckets) c.self.invariant.spread in
    let words = c.buckets-bucket-end.ensures ∙ spread ∙ c.self.invariant.words ∙ ap (λ (d : DeskState). d.office.of.table.words) c.self.view_is in
    let over = c.loop-bucket-test.false in
    record { used = λ b low. c.loop-bucket.invariant.1.used b (omega arith); fewer = c.loop-bucket.invariant.1.fewer }
