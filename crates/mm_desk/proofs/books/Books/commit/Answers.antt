use Rattle.std.proofs.Common.{subst, arith}
use Rattle.mm_desk.specs.Books.{BooksState}
use Rattle.mm_desk.specs.Calls.{IsOver}
use Rattle.mm_desk.proofs.Names.{commits_over, held_inside, others_same}
use Rattle.mm_desk.proofs.Cuts.{cut_to_mend}
use Rattle.mm_desk.proofs.books.Books.commit.Goals as goal

pub uncount-requires : goal.uncount-requires
uncount-requires c = record {
  counted = c.self.invariant;
  once = c.holds.ensures.once;
  inside = held_inside c.self.inside.manager c.keeps_laws.ensures c.args.key c.holds.new.numbers.items c.holds.ensures.owned;
}

pub recount-requires : goal.recount-requires
recount-requires c =
    let old = c.self.inside.manager in
    let new = c.commit-answer.new.self in
    let numbers = c.holds.new.numbers.items in
    let over = commits_over old new c.args.key c.commit-answer.result c.commit-answer.ensures.commits in
    let inside = held_inside old c.keeps_laws.ensures c.args.key numbers c.holds.ensures.owned in
    record {
      mended = (c.uncount.ensures.0, cut_to_mend old.names.names new.names.names numbers c.uncount.ensures.0 c.uncount.ensures.1 over.size (others_same old c.keeps_laws.ensures c.args.key numbers c.holds.ensures.owned new over), c.uncount.ensures.2);
      once = c.holds.ensures.once;
      inside = λ n among. (let low = inside n among in let size = over.size in omega arith);
      few = c.keeps_laws-2.ensures.names.in_range.numbers.1;
    }

pub invariant_of-self : goal.invariant_of-self
invariant_of-self c = c.recount.ensures

pub returns-clause-over : goal.returns-clause-over
returns-clause-over c =
    let new = c.commit-answer.new.self in
    subst (λ (b : BooksState). IsOver b.manager c.args.key new) c.self.view_is (commits_over c.self.inside.manager new c.args.key c.commit-answer.result c.commit-answer.ensures.commits)
