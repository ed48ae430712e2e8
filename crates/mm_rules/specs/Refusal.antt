-- The number and the name of each refusal, as they are printed.
use Rattle.std.specs.Prelude.{ℕ, List, codes}
use Rattle.mm_rules.specs.declared.refusal.Refusal.{Refusal}
use Rattle.mm_rules.specs.declared.refusal.Refusal.TheVariants.{Stale, NoResource, Waiting, AlreadyOwns, NotOwner, Full, LabelsExhausted, NotWaiting, NoVerdict, Memory, BadConfig, SharesMissing, Carried, UnderVerdict, CountsExhausted}

abbrev pub number_of : Refusal → ℕ
number_of Stale = 1
number_of NoResource = 2
number_of Waiting = 3
number_of AlreadyOwns = 4
number_of NotOwner = 5
number_of Full = 6
number_of LabelsExhausted = 7
number_of NotWaiting = 8
number_of NoVerdict = 9
number_of Memory = 10
number_of BadConfig = 11
number_of SharesMissing = 12
number_of Carried = 13
number_of UnderVerdict = 14
number_of CountsExhausted = 15

abbrev pub name_of : Refusal → List ℕ
name_of Stale = codes "Stale"
name_of NoResource = codes "NoResource"
name_of Waiting = codes "Waiting"
name_of AlreadyOwns = codes "AlreadyOwns"
name_of NotOwner = codes "NotOwner"
name_of Full = codes "Full"
name_of LabelsExhausted = codes "LabelsExhausted"
name_of NotWaiting = codes "NotWaiting"
name_of NoVerdict = codes "NoVerdict"
name_of Memory = codes "Memory"
name_of BadConfig = codes "BadConfig"
name_of SharesMissing = codes "SharesMissing"
name_of Carried = codes "Carried"
name_of UnderVerdict = codes "UnderVerdict"
name_of CountsExhausted = codes "CountsExhausted"
