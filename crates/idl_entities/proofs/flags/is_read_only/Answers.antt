use Rattle.std.proofs.Common.{◌∙◌}
use Rattle.idl_entities.proofs.FlagLemmas.{readonly_sought}
use Rattle.idl_trees.specs.Members.{flags_of}
use Rattle.idl_entities.proofs.flags.is_read_only.Goals as goal

pub returns : goal.returns
returns c = c.has.ensures ∙ readonly_sought (flags_of c.args.flags.now)
