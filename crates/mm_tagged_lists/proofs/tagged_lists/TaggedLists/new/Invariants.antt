use Rattle.std.proofs.Common.{◌≡◌, ◌≤◌, None, replicate, vec_capacity}
use Rattle.mm_tagged_lists.proofs.Lemmas.Items.{no_spot}
use Rattle.mm_tagged_lists.proofs.tagged_lists.TaggedLists.new.Given as goal

abbrev pub invariant-firsts : goal.invariant-firsts
invariant-firsts l = (l.firsts.items ≡ replicate l.counter None) × (l.lists ≤ vec_capacity l.firsts)

abbrev pub invariant-kept : goal.invariant-kept
invariant-kept l = (l.kept.items ≡ replicate l.counter no_spot) × (l.items ≤ vec_capacity l.kept)
