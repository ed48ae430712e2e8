use Rattle.std.proofs.Common.{subst}
use Rattle.mm_names.specs.Names.{IsLawful}
use Rattle.mm_names.proofs.names.Names.keeps_laws.Goals as goal

pub returns : goal.returns
returns c =
    subst IsLawful c.self.view_is (record { distinct = c.self.invariant.0.distinct; in_range = c.keep_range.ensures })
