use Rattle.std.proofs.Common.{sym, subst}
use Rattle.mm_names.specs.Names.{NameTable}
use Rattle.mm_desk.specs.Books.{BooksState, AreCounted}
use Rattle.mm_desk.specs.Calls.{NamesFade, OwnersStay}
use Rattle.mm_desk.proofs.Names.{begin_names, begin_fade, begin_stay}
use Rattle.mm_desk.proofs.books.Books.begin.Goals as goal

pub invariant_of-self : goal.invariant_of-self
invariant_of-self c = subst (λ (t : NameTable). AreCounted c.self.inside.spread t.names c.self.inside.counts.items) (sym (begin_names c.self.inside.manager c.begin.new.self c.begin.result c.begin.ensures.begins)) c.self.invariant

pub returns-clause-fade : goal.returns-clause-fade
returns-clause-fade c = subst (λ (b : BooksState). NamesFade b.manager c.begin.new.self) c.self.view_is (begin_fade c.self.inside.manager c.begin.new.self c.begin.result c.begin.ensures.begins)

pub returns-clause-stay : goal.returns-clause-stay
returns-clause-stay c = subst (λ (b : BooksState). OwnersStay b.manager c.begin.new.self) c.self.view_is (begin_stay c.self.inside.manager c.begin.new.self c.begin.result c.begin.ensures.begins)
