use Rattle.std.proofs.Common.{◌≡◌, sym, ap, ◌∙◌, arith}
use Rattle.mm_thin.specs.declared.spread.Spread.{Spread}
use Rattle.mm_desk.specs.Books.{BooksState}
use Rattle.mm_desk.proofs.Keeps.{desk_opened}
use Rattle.mm_desk.proofs.desk.Desk.open_over.Goals as goal

pub invariant_of-result : goal.invariant_of-result
invariant_of-result c =
    let spread = c.begin_all.ensures.spread ∙ c.in_ok-books.ensures.1 ∙ c.spread.ensures.spread in
    let words = ap (λ (s : Spread). s.buckets) (sym c.spread.ensures.spread) ∙ c.spread.ensures.words in
    let len = c.in_ok-lent_to.ensures.len in
    let size = c.buckets.ensures in
    let known = ap (λ (b : BooksState). b.spread.buckets) c.books.view_is in
    let same : c.begin_all.new.books.spread.buckets ≡ c.in_ok-office.office.of.spread.buckets = ap (λ (s : Spread). s.buckets) spread in
    desk_opened c.begin_all.new.books c.in_ok-office.office c.in_ok-keys.keys.items c.in_ok-lent_to.lent_to.items c.begin_all.ensures.none c.in_ok-office.ensures.opened.desk spread words (omega arith)
