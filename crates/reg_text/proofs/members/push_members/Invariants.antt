use Rattle.std.proofs.Common.{◌≡◌, ◌++◌, map, take}
use Rattle.std.specs.List.{flat_map}
use Rattle.uno_entities.specs.Entities.{member_of}
use Rattle.registry_text_model.specs.Lines.{member_lines, text_of}
use Rattle.reg_text.proofs.members.push_members.Given as goal

abbrev pub invariant-loop-member : goal.invariant-loop-member
invariant-loop-member l = l.text.items ≡ l.fn.text.items ++ text_of (flat_map member_lines (map member_of (take l.member-index l.members)))
