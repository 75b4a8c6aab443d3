use Rattle.std.proofs.Common.{◌≡◌, ◌++◌, map, take}
use Rattle.std.specs.List.{flat_map}
use Rattle.uno_entities.specs.Entities.{part_of}
use Rattle.registry_text_model.specs.Canonical.{part_tokens}
use Rattle.idl_print.specs.Tokens.{followed}
use Rattle.idl_print.proofs.service.push_parts.Given as goal

abbrev pub invariant-loop-part : goal.invariant-loop-part
invariant-loop-part l = l.text.items ≡ l.fn.text.items ++ followed (flat_map part_tokens (map part_of (take l.part-index l.parts)))
