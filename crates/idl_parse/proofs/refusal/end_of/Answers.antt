use Rattle.std.proofs.Common.{◌+◌, ◌≤◌, arith}
use Rattle.std.proofs.lemmas.List.{nil_from_length}
use Rattle.idl_text_model.specs.LexVerdicts.{most_bytes}
use Rattle.idl_parse.proofs.Refusals.{last_ends, last_within, none_ends}
use Rattle.idl_parse.proofs.refusal.end_of.Goals as goal

pub overflow_add-result : goal.overflow_add-result
overflow_add-result c =
    omega (arith, last_within (λ t. t.place.byte + t.length ≤ most_bytes) c.args.tokens.now _ c.in-Some.last.now c.in-Some.ensures.cases.0 c.requires)

pub returns-in-Some : goal.returns-in-Some
returns-in-Some c = last_ends c.args.tokens.now _ c.in-Some.last.now c.in-Some.ensures.cases.0

pub returns-in-None : goal.returns-in-None
returns-in-None c = none_ends c.args.tokens.now (nil_from_length c.args.tokens.now c.in-None.ensures.cases)
