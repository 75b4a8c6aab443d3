-- Of which type it is that names an interface or an exception.
use Rattle.std.proofs.Common.{◌≡◌, ap, ℕ, List, Some}
use Rattle.uno_model.specs.Kinds.{Kind, interface_of, exception_of}
use Rattle.uno_model.specs.Kinds as kd
use Rattle.uno_model.proofs.Options.{same_some, none_some}

pub interface_is : (k : Kind) (name : List ℕ) → interface_of k ≡ Some name → k ≡ kd.interface name
interface_is (kd.interface other) name is = ap kd.interface (same_some is)
interface_is _ name is = absurd (none_some is)

pub exception_is : (k : Kind) (name : List ℕ) → exception_of k ≡ Some name → k ≡ kd.exception name
exception_is (kd.exception other) name is = ap kd.exception (same_some is)
exception_is _ name is = absurd (none_some is)
