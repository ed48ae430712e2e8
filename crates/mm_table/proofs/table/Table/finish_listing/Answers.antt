use Rattle.std.proofs.Common.{◌≡◌, ◌↔◌, ℕ, Some, OnOk, subst}
use Rattle.mm_lists.specs.Members.{Among}
use Rattle.mm_rules.specs.TableState.{TableState, owner_of}
use Rattle.mm_rules.specs.Event.{Finish}
use Rattle.mm_settle_lemmas.specs.Touched.{changed_processes}
use Rattle.mm_table.proofs.Fields.Table.{listing_keeps_table, listed}
use Rattle.mm_table.proofs.table.Table.finish_listing.Goals as goal

pub invariant_of-self : goal.invariant_of-self
invariant_of-self c =
    listing_keeps_table (Finish c.args.key) c.self.inside c.finish_listing-answer.new.self c.finish_listing-answer.result c.finish_listing-answer.ensures.step c.self.invariant
    c.finish_listing-answer.new.touched c.move_all.new.to c.move_all.new.self c.finish_listing-answer.ensures.touched c.move_all.ensures.union c.move_all.ensures.sized c.move_all.ensures.none

pub returns-clause-woken : goal.returns-clause-woken
returns-clause-woken c =
    subst (λ (s : TableState). c.move_all.new.list.items ≡ changed_processes s c.finish_listing-answer.new.self) c.self.view_is
    (listed (Finish c.args.key) c.self.inside c.finish_listing-answer.new.self c.finish_listing-answer.result c.finish_listing-answer.ensures.step c.self.invariant c.finish_listing-answer.new.touched c.move_all.new.list.items c.finish_listing-answer.ensures.touched c.move_all.ensures.members)

pub returns-clause-listed : goal.returns-clause-listed
returns-clause-listed c =
    let answer = c.finish_listing-answer in
    subst (λ (s : TableState). OnOk answer.result ((r : ℕ) → Among r answer.new.resources.items ↔ (owner_of s r ≡ Some c.args.key))) c.self.view_is answer.ensures.listed
