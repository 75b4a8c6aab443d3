-- Options that are the same.
use Rattle.std.proofs.Common.{◌≡◌, None, Some}

pub same_some : {Y : Type 0} {y z : Y} → Some y ≡ Some z → y ≡ z
same_some is = cc

pub none_some : {Y : Type 0} {y : Y} → None ≡ Some y → ⊥
none_some is = cc
