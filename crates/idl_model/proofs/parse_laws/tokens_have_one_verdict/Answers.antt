use Rattle.std.proofs.Common.{sym, ◌∙◌}
use Rattle.idl_model.proofs.ParseLaws.{parsed_only}
use Rattle.idl_model.proofs.parse_laws.tokens_have_one_verdict.Goals as goal

pub returns : goal.returns
returns c = λ tokens out other is that. sym (parsed_only tokens out is) ∙ parsed_only tokens other that
