use Rattle.mm_queue.proofs.Lemmas.AreLinked.{StandsOnce-linked}
use Rattle.mm_queue.proofs.Lemmas.Entries.{linked_now}
use Rattle.mm_queue.proofs.lists.Lists.stands_once.Goals as goal

pub returns : goal.returns
returns c =
    StandsOnce-linked _ _ _ _ (linked_now c.args.self.now c.self.inside.ends.items c.self.inside.entries c.self.view_is c.self.invariant)
