-- Where the rules are broken, and the verdict: the registry of the declarations, or of all broken rules the one of the least number, and of that the least place.
use Rattle.std.specs.Prelude.{◌≡◌, ◌<◌, List, [], Result, Ok, Err}
use Rattle.std.specs.List.{flat_map}
use Rattle.uno_model.specs.Entities.{Entity}
use Rattle.registry_text_model.specs.Rules.{Rule, number_of}
use Rattle.registry_text_model.specs.Rules as rule
use Rattle.idl_model.specs.Places.{Place, IsLeast}
use Rattle.idl_model.specs.Trees.{Tree}
use Rattle.idl_meaning_model.specs.Declarations.{Declared, declarations, entities_declared}
use Rattle.idl_meaning_model.specs.Meaning.{registry_of, meant}
use Rattle.idl_rules_model.specs.Bases.{wrong_bases}
use Rattle.idl_rules_model.specs.Circles.{on_circles}
use Rattle.idl_rules_model.specs.NamesDiffer.{repeated_names}
use Rattle.idl_rules_model.specs.OneWay.{giving_one_way}
use Rattle.idl_rules_model.specs.Raised.{wrong_raises}
use Rattle.idl_rules_model.specs.ItemValues.{wrong_items}
use Rattle.idl_rules_model.specs.ConstantRanges.{wrong_constants}
use Rattle.idl_rules_model.specs.Services.{wrong_parts}
use Rattle.idl_rules_model.specs.Singletons.{wrong_targets}
use Rattle.idl_rules_model.specs.TypePlaces.{wrong_types}
use Rattle.idl_rules_model.specs.Whole.{past_limits}

-- where a declaration breaks a rule, among all declarations and in their registry
abbrev pub broken_by : Rule → List Declared → List Entity → Declared → List Place
broken_by rule.bases ds reg d = wrong_bases ds reg d
broken_by rule.circles ds reg d = on_circles ds reg d
broken_by rule.names ds reg d = repeated_names ds reg d
broken_by rule.one_way ds reg d = giving_one_way ds reg d
broken_by rule.raised ds reg d = wrong_raises ds reg d
broken_by rule.values ds reg d = wrong_items ds reg d
broken_by rule.constant_values ds reg d = wrong_constants ds reg d
broken_by rule.services ds reg d = wrong_parts ds reg d
broken_by rule.singletons ds reg d = wrong_targets ds reg d
broken_by rule.types ds reg d = wrong_types ds reg d
broken_by rule.whole ds reg d = past_limits ds reg d

abbrev pub broken_among : Rule → List Declared → List Place
broken_among r ds = flat_map (broken_by r ds (registry_of ds)) (entities_declared ds)

-- all places at which files break a rule
unfoldable pub broken : Rule → List Tree → List Place
broken r trees = broken_among r (declarations trees)

-- a rule is broken, none of a lesser number is, and this is the least place
pub record IsFirstBroken (trees : List Tree) (r : Rule) (place : Place) : Type 0 where
  pub least : IsLeast place (broken r trees)
  pub lesser : (s : Rule) → number_of s < number_of r → broken s trees ≡ []

-- the files keep the rules and mean this registry, or they break this rule at this place
abbrev pub IsChecked : List Tree → Result (List Entity) (Rule × Place) → Type 0
IsChecked trees (Ok reg) = ((r : Rule) → broken r trees ≡ []) × (reg ≡ meant trees)
IsChecked trees (Err fault) = IsFirstBroken trees fault.0 fault.1
