use Rattle.std.proofs.Common.{arith, refl}
use Rattle.idl_values.proofs.KeyLemmas.{key_is}
use Rattle.idl_values.proofs.keyed.key_of.Goals as goal

pub returns : goal.returns
returns c =
    let fits = c.ranges.byte.fits in
    key_is c.args.file c.args.byte _ (omega (arith, fits)) refl
