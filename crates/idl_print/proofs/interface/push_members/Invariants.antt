use Rattle.std.proofs.Common.{◌≡◌, ◌++◌, map, take}
use Rattle.std.specs.List.{flat_map}
use Rattle.uno_entities.specs.Entities.{member_of}
use Rattle.registry_text_model.specs.Canonical.{member_tokens}
use Rattle.idl_print.specs.Tokens.{followed}
use Rattle.idl_print.proofs.interface.push_members.Given as goal

abbrev pub invariant-loop-member : goal.invariant-loop-member
invariant-loop-member l = l.text.items ≡ l.fn.text.items ++ followed (flat_map member_tokens (map member_of (take l.member-index l.members)))
