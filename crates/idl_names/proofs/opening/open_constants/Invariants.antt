use Rattle.std.proofs.Common.{[], get_or, map, take}
use Rattle.idl_trees.specs.Members.{constant_of}
use Rattle.idl_names.specs.Opened.{Numbers, behind_all}
use Rattle.idl_names.proofs.opening.open_constants.Given as goal

abbrev pub invariant-loop-constant : goal.invariant-loop-constant
invariant-loop-constant l =
    Numbers l.fn.paths l.fn.numbers.items (behind_all (get_or l.fn.paths l.group []) (map (λ i. i.name) (map constant_of (take l.constant-index l.constants)))) l.paths l.numbers.items
