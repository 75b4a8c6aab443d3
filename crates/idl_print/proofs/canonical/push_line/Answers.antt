use Rattle.std.proofs.Common.{rules}
use Rattle.uno_entities.specs.Entities.{entity_of}
use Rattle.idl_print.proofs.ModuleLemmas.{line_written}
use Rattle.idl_print.proofs.canonical.push_line.Goals as goal

pub returns : goal.returns
returns c = line_written (entity_of c.args.entity.now) c.args.text.now.items c.push_in_modules.new.text.items _ (search rules) c.in_ok-extend_from_slice.ensures.items
