use Rattle.std.proofs.Common.{rules}
use Rattle.std.proofs.lemmas.Result.{on_ok_weaker}
use Rattle.uno_entities.specs.Entities.{entity_of}
use Rattle.idl_print.proofs.ModuleLemmas.{one_line, no_line}
use Rattle.idl_print.proofs.canonical.push_unless_built_in.Goals as goal

pub returns-then-is_built_in_name : goal.returns-then-is_built_in_name
returns-then-is_built_in_name c = no_line (entity_of c.args.entity.now) _ (search rules)

pub returns : goal.returns
returns c = on_ok_weaker _ (one_line (entity_of c.args.entity.now) _ _ (search rules)) c.push_line.ensures
