use Rattle.idl_values.proofs.KeyLemmas.{beside_told}
use Rattle.idl_values.proofs.told.told_by_keys.Goals as goal

pub returns : goal.returns
returns c = λ p. beside_told c.args.names.now c.args.keys.items c.in_ok-numbers.numbers.items c.requires.keys c.requires.rise c.in_ok-numbers.ensures p
