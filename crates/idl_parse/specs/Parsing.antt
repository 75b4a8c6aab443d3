-- What the parser makes of tokens, as a verdict; of want of memory nothing is said.
use Rattle.std.specs.Prelude.{◌≡◌, Result, Ok, Err}
use Rattle.idl_model.specs.ParseVerdicts.{ParseFault, unexpected, nested}
use Rattle.idl_model.specs.Trees as plain
use Rattle.idl_trees.specs.Names.{place_of}
use Rattle.idl_trees.specs.Trees.{tree_of}
use Rattle.idl_trees.specs.declared.declaration.Tree.{Tree}
use Rattle.idl_parse.specs.declared.error.ParseError.{ParseError}
use Rattle.idl_parse.specs.declared.error.ParseError.TheVariants as error

-- the verdict is of this kind
abbrev pub Judges : Result Tree ParseError → (Result plain.Tree ParseFault → Type 0) → Type 0
Judges (Ok tree) Is = Is (Ok (tree_of tree))
Judges (Err error.NoMemory) Is = Unit {0}
Judges (Err (error.Unexpected place)) Is = Is (Err (unexpected (place_of place)))
Judges (Err (error.Nested place)) Is = Is (Err (nested (place_of place)))

-- the refusal is for this fault
abbrev pub RefusesFor : ParseError → ParseFault → Type 0
RefusesFor error.NoMemory fault = ⊥
RefusesFor (error.Unexpected place) fault = fault ≡ unexpected (place_of place)
RefusesFor (error.Nested place) fault = fault ≡ nested (place_of place)
