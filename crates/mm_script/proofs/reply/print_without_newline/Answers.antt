use Rattle.std.proofs.Common.{arith, rules}
use Rattle.std.proofs.lemmas.Grind.{common_steps}
use Rattle.mm_script.proofs.reply.print_without_newline.Goals as goal

pub print_label-requires : goal.print_label-requires
print_label-requires c = grind (arith, common_steps)

pub print_label-requires-in-Transmitted-Raised : goal.print_label-requires-in-Transmitted-Raised
print_label-requires-in-Transmitted-Raised c = grind (arith, common_steps)

pub print_label-requires-in-Detected-Deadlock : goal.print_label-requires-in-Detected-Deadlock
print_label-requires-in-Detected-Deadlock c = grind (arith, common_steps)

pub returns-in-Acquired-Waits : goal.returns-in-Acquired-Waits
returns-in-Acquired-Waits c = grind (arith, common_steps)

pub returns-in-Transmitted-Raised : goal.returns-in-Transmitted-Raised
returns-in-Transmitted-Raised c = grind (arith, common_steps)

pub returns-in-Detected-Deadlock : goal.returns-in-Detected-Deadlock
returns-in-Detected-Deadlock c = grind (arith, common_steps)

pub returns-in-TableStands : goal.returns-in-TableStands
returns-in-TableStands c = rw c.in-TableStands.is (record { added = c.print_text-in-TableStands.ensures; short = search rules })
