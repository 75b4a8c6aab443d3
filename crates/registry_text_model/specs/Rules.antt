-- The rules of a registry by their numbers, and the first that is broken.
use Rattle.std.specs.Prelude.{◌≡◌, ℕ, ◌<◌, List, length, take, get_or, Contains, IsTrue}
use Rattle.std.specs.List.{list_all}
use Rattle.uno_model.specs.Entities.{Entity}
use Rattle.uno_model.specs.Sound.{is_named}
use Rattle.registry_text_model.specs.BasesAreOfTheirKind.{bases_are_of_their_kind}
use Rattle.registry_text_model.specs.NoCircles.{IsOnNoCircle}
use Rattle.registry_text_model.specs.NamesDiffer.{names_differ}
use Rattle.registry_text_model.specs.OneWayMethods.{one_way_gives_nothing}
use Rattle.registry_text_model.specs.RaisedExceptions.{raises_exceptions}
use Rattle.registry_text_model.specs.EnumValues.{values_are_long}
use Rattle.registry_text_model.specs.ConstantValues.{constants_are_in_range}
use Rattle.registry_text_model.specs.ServiceParts.{services_have_parts}
use Rattle.registry_text_model.specs.SingletonTargets.{singletons_have_targets}
use Rattle.registry_text_model.specs.TypesAtTheirPlaces.{types_stand_at_their_places}
use Rattle.registry_text_model.specs.WholeWithinLimits.{is_whole_within_limits}

pub data Rule : Type 0 where
  bases : Rule
  circles : Rule
  names : Rule
  one_way : Rule
  raised : Rule
  values : Rule
  constant_values : Rule
  services : Rule
  singletons : Rule
  types : Rule
  whole : Rule

abbrev pub number_of : Rule → ℕ
number_of bases = 1
number_of circles = 2
number_of names = 3
number_of one_way = 4
number_of raised = 5
number_of values = 6
number_of constant_values = 7
number_of services = 8
number_of singletons = 9
number_of types = 10
number_of whole = 11

-- an entity keeps a rule in a registry
abbrev pub Keeps : List Entity → Rule → Entity → Type 0
Keeps reg bases e = IsTrue (bases_are_of_their_kind reg e)
Keeps reg circles e = IsOnNoCircle reg e
Keeps reg names e = IsTrue (names_differ reg e)
Keeps reg one_way e = IsTrue (one_way_gives_nothing e)
Keeps reg raised e = IsTrue (raises_exceptions reg e)
Keeps reg values e = IsTrue (values_are_long e)
Keeps reg constant_values e = IsTrue (constants_are_in_range e)
Keeps reg services e = IsTrue (services_have_parts reg e)
Keeps reg singletons e = IsTrue (singletons_have_targets reg e)
Keeps reg types e = IsTrue (types_stand_at_their_places reg e)
Keeps reg whole e = IsTrue (is_whole_within_limits reg e)

-- each entity keeps a rule
abbrev pub AllKeep : List Entity → Rule → Type 0
AllKeep reg rule = (e : Entity) → Contains reg e → Keeps reg rule e

-- the names are names, and each entity keeps each rule
pub record KeepsTheRules (reg : List Entity) : Type 0 where
  pub named : IsTrue (list_all is_named reg)
  pub each : (rule : Rule) → AllKeep reg rule

-- of all rules that are broken it is the least, and of the entities that break it the first
pub record BreaksFirst (reg : List Entity) (rule : Rule) (e : Entity) : Type 0 where
  pub place : ℕ
  pub within : place < length reg
  pub there : get_or reg place e ≡ e
  pub broken : ¬ Keeps reg rule e
  pub least : (lesser : Rule) → number_of lesser < number_of rule → AllKeep reg lesser
  pub first : (d : Entity) → Contains (take place reg) d → Keeps reg rule d
