use Rattle.std.proofs.Common.{◌∙◌}
use Rattle.idl_entities.proofs.FlagLemmas.{flag_sought}
use Rattle.idl_trees.specs.Members.{flag_of}
use Rattle.idl_entities.proofs.flags.has.Goals as goal

pub returns : goal.returns
returns c = c.has_number.ensures ∙ flag_sought flag_of c.args.flags.now (flag_of c.args.flag) c.number_of.result c.number_of.ensures
