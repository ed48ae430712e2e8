use Rattle.std.proofs.Common.{sym, ap, ◌∙◌, subst}
use Rattle.mm_tagged_lists.specs.TaggedLists.{list_at}
use Rattle.mm_rules.specs.TableState.{TableState, resources_of}
use Rattle.mm_settle_lemmas.specs.Steps.Vacating.{IsVacating}
use Rattle.mm_table.specs.private.Records.{owners_of}
use Rattle.mm_table.proofs.Fields.FreedAll.{all_freed_sized, all_freed_state, all_freed_changes_nobody}
use Rattle.mm_table.proofs.records.Records.free_all.Goals as goal

pub invariant_of-self : goal.invariant_of-self
invariant_of-self c = record {
  sizes = rw c.free_all.ensures.freed (all_freed_sized (list_at c.self.inside.owned c.args.process) c.self.inside.owned c.self.invariant.sizes);
  arrivals = c.self.invariant.arrivals;
}

pub returns-clause-state : goal.returns-clause-state
returns-clause-state c =
    let s = c.args.self.now in
    ap (λ (u : TableState). record u { owners = owners_of c.free_all.new.self }) c.self.view_is
    ∙ all_freed_state c.self.inside s c.args.process c.free_all.new.self c.self.invariant c.self.view_is c.free_all.ensures.matched c.requires.laws c.requires.none c.free_all.ensures.freed

pub returns-clause-touched : goal.returns-clause-touched
returns-clause-touched c =
    let s = c.args.self.now in
    let n = c.args.process in
    λ set.
    let state = ap (λ (u : TableState). record u { owners = owners_of c.free_all.new.self }) c.self.view_is
    ∙ all_freed_state c.self.inside s n c.free_all.new.self c.self.invariant c.self.view_is c.free_all.ensures.matched c.requires.laws c.requires.none c.free_all.ensures.freed in
    subst (λ (u : TableState). IsVacating s n u set set) (sym state) (all_freed_changes_nobody s n (resources_of s n) set c.requires.none)
