use Rattle.std.proofs.Common.{◌≡◌, ◌++◌, map, take}
use Rattle.std.specs.List.{flat_map}
use Rattle.uno_entities.specs.Entities.{base_of}
use Rattle.registry_text_model.specs.Canonical.{base_member}
use Rattle.idl_print.specs.Tokens.{followed}
use Rattle.idl_print.proofs.interface.push_all_bases.Given as goal

abbrev pub invariant-loop-base : goal.invariant-loop-base
invariant-loop-base l = l.text.items ≡ l.fn.text.items ++ followed (flat_map base_member (map base_of (take l.base-index l.bases)))
