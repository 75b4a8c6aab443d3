-- What is left of a method that runs: the statement at its place, and those behind it, typed.
use Rattle.std.specs.Prelude.{◌≡◌, ℕ, ◌==◌, true, List, drop, Option, None, Some, slice_get, if◌then◌else◌}
use Rattle.message_model.specs.Calls.{numbered}
use Rattle.uno_model.specs.BuiltIn.{factory_name}
use Rattle.uno_model.specs.Entities.{Entity, Field}
use Rattle.uno_model.specs.Fits.{FitAll}
use Rattle.uno_model.specs.Functions.{Function}
use Rattle.uno_model.specs.Kinds as kd
use Rattle.uno_model.specs.Registry.{IsBaseOf}
use Rattle.uno_model.specs.Values.{Ref, null, own, peer, plains}
use Rattle.plan_model.specs.Asking.{Effect, lets, sets, sets_field, drops, skips, calls, creates, returns, raises, Running}
use Rattle.plan_model.specs.Contexts.{parameters}
use Rattle.plan_model.specs.Effects.{method_for, methods_of}
use Rattle.plan_model.specs.Holdings.{variables_after, fields_after}
use Rattle.plan_model.specs.Plans.{Plan, Method, manager}
use Rattle.plan_model.specs.Statements.{Statement}
use Rattle.plan_typing.specs.Statements.{AreTyped, types_behind}
use Rattle.plan_typing.specs.Types.{Types}

-- the method that runs, where one is written: the service manager has none
abbrev pub method_of : Plan → ℕ → Function → Option Method
method_of plan behaviour f = if behaviour == manager then None else method_for f (methods_of (slice_get plan.behaviours behaviour))

-- its statement at a place
abbrev pub at_place : ℕ → Option Method → Option Statement
at_place place None = None
at_place place (Some m) = slice_get m.body place

abbrev pub statement_at : Plan → (behaviour place : ℕ) → Function → Option Statement
statement_at plan behaviour place f = at_place place (method_of plan behaviour f)

-- the types behind the statement at a place, where there is one
abbrev pub types_at : Option Statement → Types → Types
types_at None ts = ts
types_at (Some s) ts = types_behind s ts

-- the types where a function begins to run on an object with these fields
abbrev pub beginning_types : Function → List Field → Types
beginning_types f fields = record { variables = parameters f.params; fields = fields; own = f.owner }

-- the statements from the place on are typed, and the service manager is called under a base of its interface
pub record RestTyped (reg : List Entity) (plan : Plan) (behaviour place : ℕ) (face : List ℕ) (f : Function) (ts : Types) : Type 0 where
  pub manages : (behaviour == manager) ≡ true → IsBaseOf reg face factory_name
  pub typed : (m : Method) → method_of plan behaviour f ≡ Some m → AreTyped reg plan f ts (drop place m.body)

-- the frame ends
abbrev pub IsEnd : Effect → Type 0
IsEnd (returns x outs) = Unit
IsEnd (raises k x) = Unit
IsEnd e = ⊥

-- what the frame does to its own variables, or its object's fields
abbrev pub IsOwn : Effect → Type 0
IsOwn (lets x) = Unit
IsOwn (sets x) = Unit
IsOwn (sets_field x) = Unit
IsOwn (drops name) = Unit
IsOwn skips = Unit
IsOwn e = ⊥

-- the frame behind that
abbrev pub runs_after : Effect → Running → Running
runs_after e r =
    record r { scene = record { variables = variables_after e r.scene.variables; fields = fields_after e r.scene.fields; own = r.scene.own } }

-- an object's function of this number, by the table of the object's own interface
abbrev pub IsFunctionOf : List Entity → Function → Ref → ℕ → Type 0
IsFunctionOf reg f null number = ⊥
IsFunctionOf reg f (own oid face) number = numbered reg face number ≡ Some f
IsFunctionOf reg f (peer oid face) number = numbered reg face number ≡ Some f

-- a call of this function, or the end of the frame
abbrev pub CallsFunction : List Entity → Function → Effect → Type 0
CallsFunction reg f (calls target number args to) = IsFunctionOf reg f target number
CallsFunction reg f e = IsEnd e

-- what the service manager is asked to create is given anys
abbrev pub GivesAnys : List Entity → Effect → Type 0
GivesAnys reg (creates name args) = FitAll reg (plains args) kd.any
GivesAnys reg e = Unit
