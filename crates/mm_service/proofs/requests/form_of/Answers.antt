use Rattle.std.proofs.Common.{rules}
use Rattle.mm_service.proofs.requests.form_of.Goals as goal

pub returns : goal.returns
returns c = search rules
