use Rattle.std.proofs.Common.{sym, subst}
use Rattle.mm_names.specs.Names.{NameTable}
use Rattle.mm_desk.specs.Books.{BooksState, AreCounted}
use Rattle.mm_desk.specs.Calls.{NamesFade, OwnersStay}
use Rattle.mm_desk.proofs.Names.{cancel_names, cancel_stay, cancel_fade}
use Rattle.mm_desk.proofs.books.Books.cancel.Goals as goal

pub invariant_of-self : goal.invariant_of-self
invariant_of-self c = subst (λ (t : NameTable). AreCounted c.self.inside.spread t.names c.self.inside.counts.items) (sym (cancel_names c.self.inside.manager c.cancel-answer.new.self c.args.key c.cancel-answer.result c.cancel-answer.ensures.cancels)) c.self.invariant

pub returns-clause-fade : goal.returns-clause-fade
returns-clause-fade c = subst (λ (b : BooksState). NamesFade b.manager c.cancel-answer.new.self) c.self.view_is (cancel_fade c.self.inside.manager c.cancel-answer.new.self c.args.key c.cancel-answer.result c.cancel-answer.ensures.cancels)

pub returns-clause-stay : goal.returns-clause-stay
returns-clause-stay c = subst (λ (b : BooksState). OwnersStay b.manager c.cancel-answer.new.self) c.self.view_is (cancel_stay c.self.inside.manager c.cancel-answer.new.self c.args.key c.cancel-answer.result c.cancel-answer.ensures.cancels)
