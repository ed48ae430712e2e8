use Rattle.std.proofs.Common.{◌+◌, sym, ap, ◌∙◌, arith}
use Rattle.mm_thin.specs.declared.worker.TheConstants.{PLACES}
use Rattle.mm_thin.specs.declared.views.DeskView.{DeskView}
use Rattle.mm_thin.specs.Views.{with_records}
use Rattle.mm_thin.specs.Parts.{OfficeState}
use Rattle.mm_thin.proofs.Places.{new_idle, new_length, new_used}
use Rattle.mm_thin.proofs.office.Office.worker_of.Goals as goal

pub returns : goal.returns
returns c =
    let made = c.fill.ensures.made in
    let ps = c.fill.new.places.items in
    let desk = ap (λ d. d.1) (c.fill.ensures.desk) in
    let first = ap (λ d. d.1) c.add_record.ensures.desk in
    let second = ap (λ d. d.1) c.add_record-2.ensures.desk in
    let old = c.self.view_is in
    record {
      of = c.requires.of;
      at = ap (λ (o : OfficeState). o.workers) old;
      full = new_length c.add_record-2.new.self PLACES ps made;
      idle = new_idle c.add_record-2.new.self PLACES ps made;
      office = (
        ap (λ (o : OfficeState). o.of) old,
        ap (λ (d : DeskView). d.fat) (desk ∙ (λ i. with_records (second i) (c.add_record-2.new.self.1.records + PLACES))) ∙ ap (λ (d : DeskView). d.fat) first ∙ ap (λ (o : OfficeState). o.desk.fat) old,
        ap (λ (d : DeskView). d.lent) (desk ∙ (λ i. with_records (second i) (c.add_record-2.new.self.1.records + PLACES))) ∙ ap (λ (d : DeskView). d.lent) first ∙ ap (λ (o : OfficeState). o.desk.lent) old,
      );
      more = (ap (λ (o : OfficeState). o.workers + 1) old, ap (λ (o : OfficeState). o.max_workers) old);
    }

pub invariant_of-result : goal.invariant_of-result
invariant_of-result c =
    let before = c.add_record-2.new.self in
    let first = ap (λ d. d.1.records) c.add_record.ensures.desk in
    let second = ap (λ d. d.1.records) c.add_record-2.ensures.desk in
    let tables = ap (λ d. d.0) c.add_record-2.ensures.desk ∙ ap (λ d. d.0) c.add_record.ensures.desk ∙ c.self.invariant.0 ∙ sym (ap (λ b. b.table) (c.requires.of ∙ sym (ap (λ (o : OfficeState). o.of) c.self.view_is))) in
    let records = c.self.invariant.1 in
    new_used c.args.buckets c.self.inside.workers before c.fill.new.places.items c.fill.ensures.made tables (omega arith)
