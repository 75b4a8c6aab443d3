-- The service manager: what the name of a service or a singleton creates from arguments.
use Rattle.std.specs.Prelude.{ℕ, Bool, List, [], ◌∷◌, map, Option, None, Some, Result, Ok, Err, slice_get, codes, ◌++◌, if◌then◌else◌}
use Rattle.std.specs.List.{filter, find, list_any, position_or_len}
use Rattle.std.specs.Option.{option_or}
use Rattle.std.specs.Str.{bytes_eq}
use Rattle.uno_model.specs.BuiltIn.{exception_name}
use Rattle.uno_model.specs.Defaults.{default_of_kind}
use Rattle.uno_model.specs.Entities.{Entity, Field, Constructor, new_service}
use Rattle.uno_model.specs.Entities as plain
use Rattle.uno_model.specs.Fits.{does_fit}
use Rattle.uno_model.specs.Kinds.{Kind}
use Rattle.uno_model.specs.Kinds as kd
use Rattle.uno_model.specs.Registry.{find_entity}
use Rattle.uno_model.specs.Values.{Plain, plains}
use Rattle.uno_model.specs.Values as v
use Rattle.plan_model.specs.Frames.{Variable}
use Rattle.plan_model.specs.Plans.{Plan, Behaviour, Offer}
use Rattle.plan_model.specs.declared.refusal.Refusal.{Refusal}
use Rattle.plan_model.specs.declared.refusal.Refusal.TheVariants.{UnknownService, BadArguments}

-- a new object of a behaviour with these values of its fields, or the singleton at a place among the plan's, from 0
pub data Created : Type 0 where
  fresh : ℕ → List Plain → Created
  singleton : ℕ → Created

-- ---- constructors

-- what an any holds
abbrev pub content_of : Plain → Plain
content_of (v.any k x) = x
content_of x = x

-- a parameter of type any takes an any whole, another one takes the content that fits it
abbrev pub filled : List Entity → Field → Plain → Option Variable
filled reg p arg = whole p.kind
  where
    whole : Kind → Option Variable
    whole kd.any = Some (record { name = p.name; value = arg })
    whole k = if does_fit reg (content_of arg) k then Some (record { name = p.name; value = content_of arg }) else None

-- the arguments behind the parameters: none, or those of the rest parameter, each whole
abbrev pub rest_filled : Option (List ℕ) → List Plain → Option (List Variable)
rest_filled None [] = Some []
rest_filled None (arg ∷ args) = None
rest_filled (Some name) args = Some (record { name = name; value = v.list kd.any (plains args) } ∷ [])

-- the arguments under the names of the parameters, where they fit them in number and type
unfoldable pub all_filled : List Entity → List Field → Option (List ℕ) → List Plain → Option (List Variable)
all_filled reg [] rest args = rest_filled rest args
all_filled reg (p ∷ ps) rest [] = None
all_filled reg (p ∷ ps) rest (arg ∷ args) = with_first (filled reg p arg) (all_filled reg ps rest args)
  where
    with_first : Option Variable → Option (List Variable) → Option (List Variable)
    with_first (Some x) (Some xs) = Some (x ∷ xs)
    with_first x xs = None

-- what the first constructor that takes the arguments takes
unfoldable pub first_filled : List Entity → List Constructor → List Plain → Option (List Variable)
first_filled reg [] args = None
first_filled reg (c ∷ cs) args = option_or (all_filled reg c.params c.rest args) (first_filled reg cs args)

-- ---- the fields of what is made

-- the value that was taken under a field's name, or the default of its type
abbrev pub field_value : List Entity → List Variable → Field → Plain
field_value reg xs f = of_filled (find (λ x. bytes_eq f.name x.name) xs)
  where
    of_filled : Option Variable → Plain
    of_filled (Some x) = x.value
    of_filled None = default_of_kind reg f.kind

unfoldable pub fields_with : List Entity → List Variable → List Field → List Plain
fields_with reg xs fs = map (field_value reg xs) fs

abbrev pub fields_of_behaviour : Option Behaviour → List Field
fields_of_behaviour None = []
fields_of_behaviour (Some b) = b.fields

-- ---- creating

-- the constructors of a service of the new form
abbrev pub constructors_of : Option Entity → List Constructor
constructors_of None = []
constructors_of (Some e) = of_body e.body
  where
    of_body : plain.Body → List Constructor
    of_body (new_service base cs) = cs
    of_body _ = []

abbrev pub of_service : List Entity → Plan → Offer → List Plain → Result Created Refusal
of_service reg plan o args = made (first_filled reg (constructors_of (find_entity o.name reg)) args)
  where
    made : Option (List Variable) → Result Created Refusal
    made None = Err BadArguments
    made (Some xs) = Ok (fresh o.behaviour (fields_with reg xs (fields_of_behaviour (slice_get plan.behaviours o.behaviour))))

-- a singleton takes no arguments
abbrev pub of_singleton : ℕ → List Plain → Result Created Refusal
of_singleton place [] = Ok (singleton place)
of_singleton place (arg ∷ args) = Err BadArguments

abbrev pub has_name : List ℕ → Offer → Bool
has_name name o = bytes_eq name o.name

abbrev pub among_singletons : List ℕ → List Offer → List Plain → Result Created Refusal
among_singletons name os args = if list_any (has_name name) os then of_singleton (position_or_len (has_name name) os) args else Err UnknownService

-- what a name creates, or why it creates nothing
unfoldable pub created : Plan → List Entity → List ℕ → List Plain → Result Created Refusal
created plan reg name args = of_offer (find (has_name name) plan.services)
  where
    of_offer : Option Offer → Result Created Refusal
    of_offer (Some o) = of_service reg plan o args
    of_offer None = among_singletons name plan.singletons args

-- the exception that is raised where nothing is created
unfoldable pub refusal_message : Refusal → List ℕ → List ℕ
refusal_message UnknownService name = codes "unknown service " ++ name
refusal_message BadArguments name = codes "bad arguments " ++ name

abbrev pub refusal_exception : Refusal → List ℕ → Plain
refusal_exception why name = v.tuple exception_name (v.more (v.str (refusal_message why name)) (v.more (v.ref v.null) v.none))

-- ---- the names of the services

-- those of the registry's entities that the plan has services for, in the registry's order, which is that of their bytes
unfoldable pub service_names : List Entity → Plan → List (List ℕ)
service_names reg plan = filter (λ name. list_any (has_name name) plan.services) (map (λ e. e.name) reg)
