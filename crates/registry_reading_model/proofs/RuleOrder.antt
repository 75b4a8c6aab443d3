-- The eleven rules one after the other: the first entity that fails the test of one, and what is kept where none does.
use Rattle.std.proofs.Common.{◌≡◌, ℕ, suc, ◌<◌, ◌==◌, not, List, length, None, Some, if◌then◌else◌, refl, sym, ap, ◌∙◌, subst, arith}
use Rattle.std.proofs.Common.{◌⊎◌, inl, inr}
use Rattle.std.specs.Prelude.{slice_get}
use Rattle.std.specs.List.{position}
use Rattle.std.proofs.lemmas.Bool.{cases_lt}
use Rattle.uno_model.specs.Entities.{Entity}
use Rattle.registry_text_model.specs.BasesAreOfTheirKind.{bases_are_of_their_kind}
use Rattle.registry_text_model.specs.NamesDiffer.{names_differ}
use Rattle.registry_text_model.specs.NoCircles.{IsOnNoCircle}
use Rattle.registry_text_model.specs.OneWayMethods.{one_way_gives_nothing}
use Rattle.registry_text_model.specs.RaisedExceptions.{raises_exceptions}
use Rattle.registry_text_model.specs.EnumValues.{values_are_long}
use Rattle.registry_text_model.specs.ConstantValues.{constants_are_in_range}
use Rattle.registry_text_model.specs.ServiceParts.{services_have_parts}
use Rattle.registry_text_model.specs.SingletonTargets.{singletons_have_targets}
use Rattle.registry_text_model.specs.TypesAtTheirPlaces.{types_stand_at_their_places}
use Rattle.registry_text_model.specs.WholeWithinLimits.{is_whole_within_limits}
use Rattle.registry_text_model.specs.Rules as r
use Rattle.registry_text_model.specs.Rules.{Rule, number_of, Keeps, AllKeep}
use Rattle.registry_reading_model.proofs.RulePlaces.{BreaksAtPlace, LesserKept, breaks_at_place, all_keep_at_places, breaks_at, all_keep}

-- ---- each rule that is a test

module _ (reg : List Entity) where
  pub bases_at : LesserKept reg r.bases → (place : ℕ) → position (λ e. not (bases_are_of_their_kind reg e)) reg ≡ Some place
      → BreaksAtPlace reg r.bases place
  bases_at = breaks_at reg r.bases (λ e. bases_are_of_their_kind reg e) (λ e kept. kept) (λ e passed. passed)

  pub all_bases : position (λ e. not (bases_are_of_their_kind reg e)) reg ≡ None → AllKeep reg r.bases
  all_bases = all_keep reg r.bases (λ e. bases_are_of_their_kind reg e) (λ e kept. kept) (λ e passed. passed)

  pub names_at : LesserKept reg r.names → (place : ℕ) → position (λ e. not (names_differ reg e)) reg ≡ Some place → BreaksAtPlace reg r.names place
  names_at = breaks_at reg r.names (λ e. names_differ reg e) (λ e kept. kept) (λ e passed. passed)

  pub all_names : position (λ e. not (names_differ reg e)) reg ≡ None → AllKeep reg r.names
  all_names = all_keep reg r.names (λ e. names_differ reg e) (λ e kept. kept) (λ e passed. passed)

  pub one_way_at : LesserKept reg r.one_way → (place : ℕ) → position (λ e. not (one_way_gives_nothing e)) reg ≡ Some place
      → BreaksAtPlace reg r.one_way place
  one_way_at = breaks_at reg r.one_way (λ e. one_way_gives_nothing e) (λ e kept. kept) (λ e passed. passed)

  pub all_one_way : position (λ e. not (one_way_gives_nothing e)) reg ≡ None → AllKeep reg r.one_way
  all_one_way = all_keep reg r.one_way (λ e. one_way_gives_nothing e) (λ e kept. kept) (λ e passed. passed)

  pub raised_at : LesserKept reg r.raised → (place : ℕ) → position (λ e. not (raises_exceptions reg e)) reg ≡ Some place
      → BreaksAtPlace reg r.raised place
  raised_at = breaks_at reg r.raised (λ e. raises_exceptions reg e) (λ e kept. kept) (λ e passed. passed)

  pub all_raised : position (λ e. not (raises_exceptions reg e)) reg ≡ None → AllKeep reg r.raised
  all_raised = all_keep reg r.raised (λ e. raises_exceptions reg e) (λ e kept. kept) (λ e passed. passed)

  pub values_at : LesserKept reg r.values → (place : ℕ) → position (λ e. not (values_are_long e)) reg ≡ Some place → BreaksAtPlace reg r.values place
  values_at = breaks_at reg r.values (λ e. values_are_long e) (λ e kept. kept) (λ e passed. passed)

  pub all_values : position (λ e. not (values_are_long e)) reg ≡ None → AllKeep reg r.values
  all_values = all_keep reg r.values (λ e. values_are_long e) (λ e kept. kept) (λ e passed. passed)

  pub constant_values_at : LesserKept reg r.constant_values → (place : ℕ) → position (λ e. not (constants_are_in_range e)) reg ≡ Some place
      → BreaksAtPlace reg r.constant_values place
  constant_values_at = breaks_at reg r.constant_values (λ e. constants_are_in_range e) (λ e kept. kept) (λ e passed. passed)

  pub all_constant_values : position (λ e. not (constants_are_in_range e)) reg ≡ None → AllKeep reg r.constant_values
  all_constant_values = all_keep reg r.constant_values (λ e. constants_are_in_range e) (λ e kept. kept) (λ e passed. passed)

  pub services_at : LesserKept reg r.services → (place : ℕ) → position (λ e. not (services_have_parts reg e)) reg ≡ Some place
      → BreaksAtPlace reg r.services place
  services_at = breaks_at reg r.services (λ e. services_have_parts reg e) (λ e kept. kept) (λ e passed. passed)

  pub all_services : position (λ e. not (services_have_parts reg e)) reg ≡ None → AllKeep reg r.services
  all_services = all_keep reg r.services (λ e. services_have_parts reg e) (λ e kept. kept) (λ e passed. passed)

  pub singletons_at : LesserKept reg r.singletons → (place : ℕ) → position (λ e. not (singletons_have_targets reg e)) reg ≡ Some place
      → BreaksAtPlace reg r.singletons place
  singletons_at = breaks_at reg r.singletons (λ e. singletons_have_targets reg e) (λ e kept. kept) (λ e passed. passed)

  pub all_singletons : position (λ e. not (singletons_have_targets reg e)) reg ≡ None → AllKeep reg r.singletons
  all_singletons = all_keep reg r.singletons (λ e. singletons_have_targets reg e) (λ e kept. kept) (λ e passed. passed)

  pub types_at : LesserKept reg r.types → (place : ℕ) → position (λ e. not (types_stand_at_their_places reg e)) reg ≡ Some place
      → BreaksAtPlace reg r.types place
  types_at = breaks_at reg r.types (λ e. types_stand_at_their_places reg e) (λ e kept. kept) (λ e passed. passed)

  pub all_types : position (λ e. not (types_stand_at_their_places reg e)) reg ≡ None → AllKeep reg r.types
  all_types = all_keep reg r.types (λ e. types_stand_at_their_places reg e) (λ e kept. kept) (λ e passed. passed)

  pub whole_at : LesserKept reg r.whole → (place : ℕ) → position (λ e. not (is_whole_within_limits reg e)) reg ≡ Some place
      → BreaksAtPlace reg r.whole place
  whole_at = breaks_at reg r.whole (λ e. is_whole_within_limits reg e) (λ e kept. kept) (λ e passed. passed)

  pub all_whole : position (λ e. not (is_whole_within_limits reg e)) reg ≡ None → AllKeep reg r.whole
  all_whole = all_keep reg r.whole (λ e. is_whole_within_limits reg e) (λ e kept. kept) (λ e passed. passed)

-- ---- circles

-- the entity at the place is on a circle, and none before it is
pub circles_at : (reg : List Entity) → LesserKept reg r.circles → (place : ℕ) → place < length reg
    → ((e : Entity) → slice_get reg place ≡ Some e → ¬ IsOnNoCircle reg e)
    → ((i : ℕ) (e : Entity) → i < place → slice_get reg i ≡ Some e → IsOnNoCircle reg e)
    → BreaksAtPlace reg r.circles place
circles_at reg least place within broken before = breaks_at_place reg r.circles least place within broken before

pub all_circles : (reg : List Entity) → ((i : ℕ) (e : Entity) → slice_get reg i ≡ Some e → IsOnNoCircle reg e) → AllKeep reg r.circles
all_circles reg each = all_keep_at_places reg r.circles each

-- ---- the lesser rules

rule_of : ℕ → Rule
rule_of n =
    if n == 1 then r.bases
    else (if n == 2 then r.circles
    else (if n == 3 then r.names
    else (if n == 4 then r.one_way
    else (if n == 5 then r.raised
    else (if n == 6 then r.values
    else (if n == 7 then r.constant_values
    else (if n == 8 then r.services
    else (if n == 9 then r.singletons
    else (if n == 10 then r.types
    else r.whole)))))))))

numbered : (rule : Rule) → rule_of (number_of rule) ≡ rule
unfolding rule_of
numbered r.bases = refl
numbered r.circles = refl
numbered r.names = refl
numbered r.one_way = refl
numbered r.raised = refl
numbered r.values = refl
numbered r.constant_values = refl
numbered r.services = refl
numbered r.singletons = refl
numbered r.types = refl
numbered r.whole = refl

pub same_number : (a b : Rule) → number_of a ≡ number_of b → a ≡ b
same_number a b is = sym (numbered a) ∙ ap rule_of is ∙ numbered b

at_most : (a b : ℕ) → a < suc b → (a < b) ⊎ (a ≡ b)
at_most a b low = elim (cases_lt a b) [ inl below ↦ inl below | inr above ↦ inr (omega (arith, low, above)) ]

-- the rule behind another, where that and all lesser ones are kept
one_rule_more : (reg : List Entity) (rule next : Rule) → number_of next ≡ suc (number_of rule) → LesserKept reg rule → AllKeep reg rule
    → LesserKept reg next
one_rule_more reg rule next is least all lesser low = elim (at_most (number_of lesser) (number_of rule) (omega (arith, low, is))) [
  | inl below ↦ least lesser below
  | inr same ↦ subst (AllKeep reg) (sym (same_number lesser rule same)) all
]

above_none : (rule : Rule) → 0 < number_of rule
above_none r.bases = omega arith
above_none r.circles = omega arith
above_none r.names = omega arith
above_none r.one_way = omega arith
above_none r.raised = omega arith
above_none r.values = omega arith
above_none r.constant_values = omega arith
above_none r.services = omega arith
above_none r.singletons = omega arith
above_none r.types = omega arith
above_none r.whole = omega arith

module _ (reg : List Entity) where
  pub lesser_than_1 : LesserKept reg r.bases
  lesser_than_1 lesser low = absurd (omega (arith, low, above_none lesser))

  pub lesser_than_2 : LesserKept reg r.bases → AllKeep reg r.bases → LesserKept reg r.circles
  lesser_than_2 = one_rule_more reg r.bases r.circles refl

  pub lesser_than_3 : LesserKept reg r.circles → AllKeep reg r.circles → LesserKept reg r.names
  lesser_than_3 = one_rule_more reg r.circles r.names refl

  pub lesser_than_4 : LesserKept reg r.names → AllKeep reg r.names → LesserKept reg r.one_way
  lesser_than_4 = one_rule_more reg r.names r.one_way refl

  pub lesser_than_5 : LesserKept reg r.one_way → AllKeep reg r.one_way → LesserKept reg r.raised
  lesser_than_5 = one_rule_more reg r.one_way r.raised refl

  pub lesser_than_6 : LesserKept reg r.raised → AllKeep reg r.raised → LesserKept reg r.values
  lesser_than_6 = one_rule_more reg r.raised r.values refl

  pub lesser_than_7 : LesserKept reg r.values → AllKeep reg r.values → LesserKept reg r.constant_values
  lesser_than_7 = one_rule_more reg r.values r.constant_values refl

  pub lesser_than_8 : LesserKept reg r.constant_values → AllKeep reg r.constant_values → LesserKept reg r.services
  lesser_than_8 = one_rule_more reg r.constant_values r.services refl

  pub lesser_than_9 : LesserKept reg r.services → AllKeep reg r.services → LesserKept reg r.singletons
  lesser_than_9 = one_rule_more reg r.services r.singletons refl

  pub lesser_than_10 : LesserKept reg r.singletons → AllKeep reg r.singletons → LesserKept reg r.types
  lesser_than_10 = one_rule_more reg r.singletons r.types refl

  pub lesser_than_11 : LesserKept reg r.types → AllKeep reg r.types → LesserKept reg r.whole
  lesser_than_11 = one_rule_more reg r.types r.whole refl

below_twelve : (rule : Rule) → number_of rule < 12
below_twelve r.bases = omega arith
below_twelve r.circles = omega arith
below_twelve r.names = omega arith
below_twelve r.one_way = omega arith
below_twelve r.raised = omega arith
below_twelve r.values = omega arith
below_twelve r.constant_values = omega arith
below_twelve r.services = omega arith
below_twelve r.singletons = omega arith
below_twelve r.types = omega arith
below_twelve r.whole = omega arith

-- all eleven
pub each_rule : (reg : List Entity) → LesserKept reg r.whole → AllKeep reg r.whole → (rule : Rule) → AllKeep reg rule
each_rule reg least all rule = elim (at_most (number_of rule) 11 (below_twelve rule)) [
  | inl below ↦ least rule below
  | inr same ↦ subst (AllKeep reg) (sym (same_number rule r.whole same)) all
]
