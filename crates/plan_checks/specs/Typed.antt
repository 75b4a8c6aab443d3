-- What is given for parameters, as it is found one after the other.
use Rattle.std.specs.Prelude.{List, ◌++◌, Option}
use Rattle.std.specs.Option.{option_map}

abbrev pub behind_list : {X : Type 0} → List X → Option (List X) → Option (List X)
behind_list xs rest = option_map (λ ys. xs ++ ys) rest
