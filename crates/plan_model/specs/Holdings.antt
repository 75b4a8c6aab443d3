-- What a frame has before and behind each statement: its variables, the references that it takes, and those that it lets go.
use Rattle.std.specs.Prelude.{ℕ, suc, Bool, false, List, [], ◌∷◌, ◌++◌, Option, None, Some, slice_get, unwrap_or, drop, not, if◌then◌else◌}
use Rattle.std.specs.List.{filter, flat_map}
use Rattle.std.specs.Str.{bytes_eq}
use Rattle.message_model.specs.Calls.{goes}
use Rattle.uno_model.specs.Defaults.{default_of_kind}
use Rattle.uno_model.specs.Entities.{Entity, Field, Param}
use Rattle.uno_model.specs.Kinds.{Kind}
use Rattle.uno_model.specs.Kinds as kd
use Rattle.uno_model.specs.Reaches.{is_base_of}
use Rattle.uno_model.specs.Values.{Ref, null, own, Plain, refs}
use Rattle.uno_model.specs.Values as v
use Rattle.plan_model.specs.Asking.{Effect, lets, sets, sets_field, drops}
use Rattle.plan_model.specs.Evaluation.{value_under}
use Rattle.plan_model.specs.Expressions.{Argument, into, out, both}
use Rattle.plan_model.specs.Frames.{Variable, Body}
use Rattle.plan_model.specs.Plans.{supports}
use Rattle.plan_model.specs.Statements.{Call}

-- ---- variables

-- another value under a name that is there
unfoldable pub put : List ℕ → Plain → List Variable → List Variable
put name x [] = []
put name x (y ∷ ys) = if bytes_eq name y.name then record { name = y.name; value = x } ∷ ys else y ∷ put name x ys

abbrev pub without : List ℕ → List Variable → List Variable
without name xs = filter (λ x. not (bytes_eq name x.name)) xs

abbrev pub with_variable : List ℕ → Plain → List Variable → List Variable
with_variable name x xs = xs ++ record { name = name; value = x } ∷ []

-- the references in the values of variables, in order
unfoldable pub refs_under : List Variable → List Ref
refs_under xs = flat_map (λ x. refs x.value) xs

-- the variables of a method that begins: its parameters, with the arguments, or with the default of its type where one only comes out
abbrev pub first_value : List Entity → Param → List Plain → Plain
first_value reg p args = if goes p.way then unwrap_or (slice_get args 0) v.void else default_of_kind reg p.kind

abbrev pub behind_argument : Param → List Plain → List Plain
behind_argument p args = if goes p.way then drop 1 args else args

unfoldable pub first_variables : List Entity → List Param → List Plain → List Variable
first_variables reg [] args = []
first_variables reg (p ∷ ps) args = record { name = p.name; value = first_value reg p args } ∷ first_variables reg ps (behind_argument p args)

-- ---- what an effect does to its own frame and object

unfoldable pub variables_after : Effect → List Variable → List Variable
variables_after (lets x) xs = with_variable x.name x.value xs
variables_after (sets x) xs = put x.name x.value xs
variables_after (drops name) xs = without name xs
variables_after e xs = xs

unfoldable pub fields_after : Effect → List Variable → List Variable
fields_after (sets_field x) xs = put x.name x.value xs
fields_after e xs = xs

-- the references that are held from then on: by the frame, or in a field by the object
unfoldable pub held_by : Effect → List Ref
held_by (lets x) = refs x.value
held_by (sets x) = refs x.value
held_by (sets_field x) = refs x.value
held_by e = []

-- the references that are let go behind that: of the value that was there before
unfoldable pub let_go_by : List Variable → List Variable → Effect → List Ref
let_go_by variables fields (sets x) = refs (value_under x.name variables)
let_go_by variables fields (sets_field x) = refs (value_under x.name fields)
let_go_by variables fields (drops name) = refs (value_under name variables)
let_go_by variables fields e = []

-- what a frame lets go when it ends, behind what leaves it: the references in its variables, and the own object last, under the interface that was called
unfoldable pub let_go_at_end : List ℕ → Body → List Ref
let_go_at_end oid b = refs_under b.variables ++ own oid b.face ∷ []

-- the frame behind a statement
unfoldable pub goes_on : List Variable → Body → Body
goes_on variables b = record b { variables = variables; place = suc b.place }

-- ---- what the answer to a call does

-- variables, and the references that are let go for them
pub record Taken : Type 0 where
  pub variables : List Variable
  pub let_go : List Ref

-- a value that a variable gets in the place of its own
abbrev pub takes : List ℕ → Plain → Taken → Taken
takes name x t = record { variables = put name x t.variables; let_go = t.let_go ++ refs (value_under name t.variables) }

-- the values that came out, each for the variable that was given for its parameter
unfoldable pub takes_outs : List Argument → List Plain → Taken → Taken
takes_outs [] xs t = t
takes_outs (into a ∷ args) xs t = takes_outs args xs t
takes_outs (out name ∷ args) [] t = t
takes_outs (out name ∷ args) (x ∷ xs) t = takes_outs args xs (takes name x t)
takes_outs (both name ∷ args) [] t = t
takes_outs (both name ∷ args) (x ∷ xs) t = takes_outs args xs (takes name x t)

-- the result becomes a variable; where it is not named, what it holds is let go before all else
abbrev pub takes_result : Option Field → Plain → List Variable → Taken
takes_result None x xs = record { variables = xs; let_go = refs x }
takes_result (Some f) x xs = record { variables = with_variable f.name x xs; let_go = [] }

unfoldable pub takes_answer : Call → Plain → List Plain → List Variable → Taken
takes_answer c x outs xs = takes_outs c.arguments outs (takes_result c.to x xs)

-- ---- what the answer to a query does

-- the answer to a query of an own object: an any of the wanted interface with the object where it supports it, else the void any
abbrev pub no_object : Plain
no_object = v.any kd.void v.void

unfoldable pub query_answer : List Entity → List (List ℕ) → (oid : List ℕ) → Kind → Plain
query_answer reg faces oid (kd.interface wanted) = if supports reg faces wanted then v.any (kd.interface wanted) (v.ref (own oid wanted)) else no_object
query_answer reg faces oid k = no_object

-- the reference in an any, where its type is assignable to the wanted one, else null
abbrev pub reference_of : List Entity → List ℕ → Plain → Ref
reference_of reg wanted (v.any (kd.interface face) (v.ref r)) = if is_base_of reg wanted face then r else null
reference_of reg wanted x = null

abbrev pub is_taken : List Entity → List ℕ → Plain → Bool
is_taken reg wanted (v.any (kd.interface face) (v.ref r)) = is_base_of reg wanted face
is_taken reg wanted x = false

-- it becomes a variable; where it is not taken, what the any holds is let go
unfoldable pub takes_reference : List Entity → (wanted to : List ℕ) → Plain → List Variable → Taken
takes_reference reg wanted to x xs =
    record { variables = with_variable to (v.ref (reference_of reg wanted x)) xs; let_go = if is_taken reg wanted x then [] else refs x }
