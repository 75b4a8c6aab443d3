use Rattle.std.proofs.Common.{subst}
use Rattle.idl_model.proofs.ParseLaws.{parsed_is, parsed_only}
use Rattle.idl_model.specs.ParseVerdicts.{IsParsed}
use Rattle.idl_model.proofs.parse_laws.the_tree_is_read.Goals as goal

pub returns : goal.returns
returns c = λ tokens out. ((λ is. subst (λ z. IsParsed tokens z) is (parsed_is tokens)), parsed_only tokens out)
