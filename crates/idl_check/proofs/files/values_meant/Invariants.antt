use Rattle.std.proofs.Common.{◌≡◌, map, take}
use Rattle.idl_check.specs.Broken.{values_told}
use Rattle.idl_check.specs.Meant.{telling_of}
use Rattle.idl_check.proofs.files.values_meant.Given as goal

abbrev pub invariant-loop-declaration : goal.invariant-loop-declaration
invariant-loop-declaration l = map (λ v. v.now) l.worth.items ≡ map values_told (map telling_of (take l.declaration-index l.all))
