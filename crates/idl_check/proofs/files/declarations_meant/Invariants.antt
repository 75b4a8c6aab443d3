use Rattle.std.proofs.Common.{◌≡◌, map, take}
use Rattle.idl_check.specs.Asked.{told_among}
use Rattle.idl_check.specs.Meant.{telling_of}
use Rattle.idl_meaning_model.specs.Declarations.{entities_declared}
use Rattle.idl_meant.specs.Resolving.{all_in}
use Rattle.idl_check.proofs.files.declarations_meant.Given as goal

abbrev pub invariant-loop-number : goal.invariant-loop-number
invariant-loop-number l = map telling_of l.all.items ≡ map (told_among (all_in l.resolved)) (entities_declared (take l.number (all_in l.resolved)))
