-- What stands before a line: the blocks that are closed, the one that is open, and the variables that are known there.
use Rattle.std.specs.Prelude.{ℕ, Bool, List, [], ◌∷◌, ◌++◌, drop, Option, None, Some}
use Rattle.std.specs.List.{find, position}
use Rattle.std.specs.Option.{option_map}
use Rattle.std.specs.Str.{bytes_eq}
use Rattle.message_model.specs.Calls.{comes}
use Rattle.uno_model.specs.Codes.{same_kind}
use Rattle.uno_model.specs.Entities.{Entity, Field, Param}
use Rattle.uno_model.specs.Functions.{Function, declared_by, functions_of}
use Rattle.uno_model.specs.Kinds.{Kind}
use Rattle.uno_model.specs.Kinds as kd
use Rattle.uno_model.specs.Reaches.{is_base_of}
use Rattle.uno_model.specs.Registry.{find_entity}
use Rattle.plan_model.specs.Expressions.{Word, variable, field, own}
use Rattle.plan_model.specs.Plans.{Plan, empty_plan, Behaviour, Method}
use Rattle.plan_model.specs.Statements.{RootStatement}

-- a variable that is known, its type, and whether it is a parameter whose value comes out
pub record Scoped : Type 0 where
  pub name : List ℕ
  pub kind : Kind
  pub comes_out : Bool

-- the block in which a line stands, with what it has so far; a method also has its function
pub data Block : Type 0 where
  at_top : Block
  in_behaviour : Behaviour → Block
  in_method : Behaviour → Method → Function → Block
  in_thread : List RootStatement → Block

pub record Context : Type 0 where
  pub plan : Plan
  pub block : Block
  pub variables : List Scoped

abbrev pub opening : Context
opening = record { plan = empty_plan; block = at_top; variables = [] }

-- ---- behaviours and fields

-- the behaviour whose block is open
abbrev pub open_behaviours : Block → List Behaviour
open_behaviours (in_behaviour b) = b ∷ []
open_behaviours (in_method b m f) = b ∷ []
open_behaviours _ = []

-- all behaviours that stand before a line, the open one last
abbrev pub behaviours_before : Context → List Behaviour
behaviours_before c = c.plan.behaviours ++ open_behaviours c.block

-- the number of a behaviour
abbrev pub behaviour_number : Context → List ℕ → Option ℕ
behaviour_number c name = position (λ b. bytes_eq name b.name) (behaviours_before c)

abbrev pub behaviour_named : Context → List ℕ → Option Behaviour
behaviour_named c name = find (λ b. bytes_eq name b.name) (behaviours_before c)

-- the fields that are known: those of the open behaviour
abbrev pub first_fields : List Behaviour → List Field
first_fields [] = []
first_fields (b ∷ bs) = b.fields

abbrev pub known_fields : Context → List Field
known_fields c = first_fields (open_behaviours c.block)

-- ---- words

abbrev pub known_variable : Context → List ℕ → Option Scoped
known_variable c name = find (λ x. bytes_eq name x.name) c.variables

-- the own object is of the interface that declares the function
abbrev pub own_kind : Block → Option Kind
own_kind (in_method b m f) = Some (kd.interface m.face)
own_kind _ = None

unfoldable pub kind_of_variable : Context → List ℕ → Option Kind
kind_of_variable c name = option_map (λ x. x.kind) (known_variable c name)

unfoldable pub kind_of_field : Context → List ℕ → Option Kind
kind_of_field c name = option_map (λ f. f.kind) (find (λ f. bytes_eq name f.name) (known_fields c))

unfoldable pub kind_of_word : Context → Word → Option Kind
kind_of_word c (variable name) = kind_of_variable c name
kind_of_word c (field name) = kind_of_field c name
kind_of_word c own = own_kind c.block

-- ---- functions

-- the function that an interface declares itself
unfoldable pub declared_function : List Entity → List ℕ → List ℕ → Option Function
declared_function reg face name = find (λ f. bytes_eq name f.name) (declared_by face (find_entity face reg))

-- the function of an interface that a call names; queryInterface, acquire and release, the first three, are not called so
unfoldable pub called_function : List Entity → List ℕ → List ℕ → Option Function
called_function reg face name = find (λ f. bytes_eq name f.name) (drop 3 (functions_of reg face))

-- the function whose method is open
abbrev pub open_function : Block → Option Function
open_function (in_method b m f) = Some f
open_function _ = None

-- ---- which type fits which

-- a variable fits where its type is the wanted one, or an interface that is assignable to it
abbrev pub kind_fits : List Entity → Kind → Kind → Bool
kind_fits reg (kd.interface wanted) (kd.interface from) = is_base_of reg wanted from
kind_fits reg wanted from = same_kind wanted from

-- the parameters of a function as variables
unfoldable pub parameters : List Param → List Scoped
parameters [] = []
parameters (p ∷ ps) = record { name = p.name; kind = p.kind; comes_out = comes p.way } ∷ parameters ps
