use Rattle.std.proofs.Common.{◌≡◌, ◌++◌, map, take}
use Rattle.std.specs.List.{flat_map}
use Rattle.uno_entities.specs.Entities.{constructor_of}
use Rattle.registry_text_model.specs.Canonical.{constructor_tokens}
use Rattle.idl_print.specs.Tokens.{followed}
use Rattle.idl_print.proofs.service.push_all_constructors.Given as goal

abbrev pub invariant-loop-constructor : goal.invariant-loop-constructor
invariant-loop-constructor l = l.text.items ≡ l.fn.text.items ++ followed (flat_map constructor_tokens (map constructor_of (take l.constructor-index l.constructors)))
