use Rattle.std.proofs.Common.{inl, inr, refl, ap, Err}
use Rattle.mm_manager.proofs.Lemmas.Entered.{entered_fits, empty_is_empty, long_is_long, full_fits}
use Rattle.mm_manager.proofs.numbers.entry_of.Goals as goal

pub returns-in-Ok-clause-interned : goal.returns-in-Ok-clause-interned
returns-in-Ok-clause-interned c = c.in-Ok.ensures.entered

pub returns-in-Ok-clause-new : goal.returns-in-Ok-clause-new
returns-in-Ok-clause-new c = c.in-Ok.ensures.new

pub returns-in-Ok-clause-allowed : goal.returns-in-Ok-clause-allowed
returns-in-Ok-clause-allowed c = entered_fits c.args.names.now.name_bytes c.args.name.now c.in-Ok.field-0 c.in-Ok.ensures.empty c.in-Ok.ensures.too_long

pub returns-in-Err-Empty-clause-refused : goal.returns-in-Err-Empty-clause-refused
returns-in-Err-Empty-clause-refused c = inl (empty_is_empty c.args.names.now.name_bytes c.args.name.now c.in-Err-Empty.field-0 c.in-Err-Empty.field-0-is c.in-Err-Empty.ensures.empty)

pub returns-in-Err-Empty-clause-same : goal.returns-in-Err-Empty-clause-same
returns-in-Err-Empty-clause-same c = c.in-Err-Empty.ensures.refused

pub returns-in-Err-TooLong-clause-refused : goal.returns-in-Err-TooLong-clause-refused
returns-in-Err-TooLong-clause-refused c =
    inl (long_is_long c.args.names.now.name_bytes c.args.name.now c.in-Err-TooLong.field-0 c.in-Err-TooLong.field-0-is c.in-Err-TooLong.ensures.empty c.in-Err-TooLong.ensures.too_long)

pub returns-in-Err-TooLong-clause-same : goal.returns-in-Err-TooLong-clause-same
returns-in-Err-TooLong-clause-same c = c.in-Err-TooLong.ensures.refused

pub returns-in-Err-Full-clause-refused : goal.returns-in-Err-Full-clause-refused
returns-in-Err-Full-clause-refused c =
    let fits = full_fits c.args.names.now.name_bytes c.args.name.now c.in-Err-Full.field-0 c.in-Err-Full.field-0-is c.in-Err-Full.ensures.empty c.in-Err-Full.ensures.too_long in
    inr (fits, refl, c.in-Err-Full.ensures.full.0 (ap Err c.in-Err-Full.field-0-is))

pub returns-in-Err-Full-clause-same : goal.returns-in-Err-Full-clause-same
returns-in-Err-Full-clause-same c = c.in-Err-Full.ensures.refused
