-- The effects of calls and queries.
use Rattle.std.specs.Prelude.{ℕ, Bool, not, ◌&&◌, nat_lt, List, [], ◌∷◌, Option, None, Some, if◌then◌else◌}
use Rattle.std.specs.List.{position_or_len}
use Rattle.std.specs.Option.{option_map}
use Rattle.std.specs.Str.{bytes_eq}
use Rattle.message_model.specs.Messages.{request}
use Rattle.message_model.specs.Sayable.{message_weight}
use Rattle.uno_model.specs.Entities.{Entity}
use Rattle.uno_model.specs.Functions.{functions_of}
use Rattle.uno_model.specs.Kinds as kd
use Rattle.uno_model.specs.Values.{Ref, null, own, peer, Plain, plains, depth_in}
use Rattle.uno_model.specs.Values as v
use Rattle.plan_model.specs.Asking.{Effect, calls, queries, Running, fails}
use Rattle.plan_model.specs.Evaluation.{Scene, value_under, value_of_word, value_of, is_heavy, is_deep}
use Rattle.plan_model.specs.Expressions.{Argument, into, out, both}
use Rattle.plan_model.specs.Statements.{Callee, Call, Query}
use Rattle.plan_model.specs.declared.runtime_cause.RuntimeCause.TheVariants.{Null, Range, Depth, TooLarge, TooDeep}

-- the values that go with a call: those of expressions, and of variables that go both ways; none where an operation has no result
unfoldable pub given_values : Scene → List Argument → Option (List Plain)
given_values s [] = Some []
given_values s (into a ∷ args) = with_value (value_of s a) (given_values s args)
  where
    with_value : Option Plain → Option (List Plain) → Option (List Plain)
    with_value (Some x) (Some xs) = Some (x ∷ xs)
    with_value x xs = None
given_values s (out name ∷ args) = given_values s args
given_values s (both name ∷ args) = option_map (λ xs. value_under name s.variables ∷ xs) (given_values s args)

-- the number of a function in the table of an interface
unfoldable pub number_in : List Entity → List ℕ → Callee → ℕ
number_in reg face c = position_or_len (λ f. bytes_eq c.owner f.owner && bytes_eq c.name f.name) (functions_of reg face)

-- the object that a value is
abbrev pub object_of : Plain → Ref
object_of (v.ref r) = r
object_of x = null

-- a stack has at most so many frames when a call or a query is made
unfoldable pub is_full : ℕ → Bool
is_full frames = not (nat_lt frames 1000)

-- ---- calls

-- a call of an object, whose arguments are worked out, or why there is none, in the order in which this is tried
abbrev pub sent : List Entity → Running → (oid face : List ℕ) → ℕ → List Plain → Effect → Effect
sent reg r oid face number args e =
    if is_full r.depth then fails reg r Depth
    else (if is_heavy (message_weight (request r.tid oid face number args)) then fails reg r TooLarge
    else (if is_deep (depth_in (plains args)) then fails reg r TooDeep else e))

abbrev pub calls_object : List Entity → Running → Call → Ref → (oid face : List ℕ) → Option (List Plain) → Effect
calls_object reg r c target oid face None = fails reg r Range
calls_object reg r c target oid face (Some args) =
    sent reg r oid face (number_in reg face c.callee) args (calls target (number_in reg face c.callee) args (option_map (λ f. f.name) c.to))

abbrev pub calls_target : List Entity → Running → Call → Ref → Effect
calls_target reg r c null = fails reg r Null
calls_target reg r c (own oid face) = calls_object reg r c (own oid face) oid face (given_values r.scene c.arguments)
calls_target reg r c (peer oid face) = calls_object reg r c (peer oid face) oid face (given_values r.scene c.arguments)

unfoldable pub call_effect : List Entity → Running → Call → Effect
call_effect reg r c = calls_target reg r c (object_of (value_of_word r.scene c.target))

-- ---- queries

-- a query is a call of function 0 with the wanted interface
abbrev pub queries_object : List Entity → Running → Query → Ref → (oid face : List ℕ) → Effect
queries_object reg r q target oid face = sent reg r oid face 0 (v.kind (kd.interface q.wanted) ∷ []) (queries target q.wanted q.to)

abbrev pub queries_target : List Entity → Running → Query → Ref → Effect
queries_target reg r q null = fails reg r Null
queries_target reg r q (own oid face) = queries_object reg r q (own oid face) oid face
queries_target reg r q (peer oid face) = queries_object reg r q (peer oid face) oid face

unfoldable pub query_effect : List Entity → Running → Query → Effect
query_effect reg r q = queries_target reg r q (object_of (value_of_word r.scene q.target))
