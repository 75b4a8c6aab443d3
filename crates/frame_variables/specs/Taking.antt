-- What code has for variables, and for the references that are let go for them: values, whose references these are.
use Rattle.std.specs.Prelude.{ℕ, List, [], ◌∷◌, map, Option, None, Some}
use Rattle.std.specs.List.{flat_map}
use Rattle.uno_model.specs.Values.{Ref, null, Plain, refs}
use Rattle.uno_model.specs.Kinds.{Kind}
use Rattle.uno_model.specs.Kinds as kd
use Rattle.uno_model.specs.Values as v
use Rattle.plan_model.specs.Holdings.{Taken, takes}
use Rattle.plan_types.specs.Frames.{variables_of}
use Rattle.plan_types.specs.declared.frame.Variable.{Variable}
use Rattle.uno_values.specs.Values.{plain_of, reference_in}
use Rattle.uno_values.specs.declared.value.Value.{Value}

-- the references in values, in order
abbrev pub refs_in : List Value → List Ref
refs_in xs = flat_map refs (map plain_of xs)

abbrev pub refs_of_rest : Option Value → List Ref
refs_of_rest None = []
refs_of_rest (Some x) = refs (plain_of x)

abbrev pub taken_of : List Variable → List Value → Taken
taken_of xs gone = record { variables = variables_of xs; let_go = refs_in gone }

abbrev pub taken_with : List Variable → Option Value → Taken
taken_with xs rest = record { variables = variables_of xs; let_go = refs_of_rest rest }

-- the first of these values stands under a name, where there is one
abbrev pub takes_first : List ℕ → List Plain → Taken → Taken
takes_first name [] t = t
takes_first name (x ∷ xs) t = takes name x t

abbrev pub one_or_none : {A : Type 0} → Option A → List A
one_or_none None = []
one_or_none (Some x) = x ∷ []

-- the reference in an any
abbrev pub reference_inside : Plain → Ref
reference_inside (v.any k x) = reference_in x
reference_inside x = null
