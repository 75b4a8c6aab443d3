-- The built-in entities keep each rule in every registry that has them.
use Rattle.std.proofs.Common.{◌≡◌, true, ◌&&◌, nat_le, List, map, length, Contains, refl, ap}
use Rattle.std.proofs.lemmas.Bool.{and_from}
use Rattle.uno_model.specs.BuiltIn.{built_in, HasBuiltIn, disposed_exception, factory, base_exception, runtime_exception, x_interface}
use Rattle.uno_model.specs.Entities.{Entity}
use Rattle.uno_model.specs.Names.{parts_of}
use Rattle.uno_model.specs.Registry.{IsRising}
use Rattle.uno_model.specs.Sound.{all_differ, is_complete, has_member, is_within_limits, is_some_list}
use Rattle.registry_text_model.specs.BasesAreOfTheirKind.{bases_are_of_their_kind}
use Rattle.registry_text_model.specs.ConstantValues.{constants_are_in_range}
use Rattle.registry_text_model.specs.EnumValues.{values_are_long}
use Rattle.registry_text_model.specs.NamesDiffer.{own_names_differ, names_differ}
use Rattle.registry_text_model.specs.OneWayMethods.{one_way_gives_nothing}
use Rattle.registry_text_model.specs.RaisedExceptions.{raises_exceptions}
use Rattle.registry_text_model.specs.Rules as r
use Rattle.registry_text_model.specs.Rules.{Rule, Keeps}
use Rattle.registry_text_model.specs.ServiceParts.{services_have_parts}
use Rattle.registry_text_model.specs.SingletonTargets.{singletons_have_targets}
use Rattle.registry_text_model.specs.TypesAtTheirPlaces.{types_stand_at_their_places}
use Rattle.registry_text_model.specs.WholeWithinLimits.{has_few_functions, is_whole_within_limits}
use Rattle.registry_reading_model.proofs.BuiltInFacts.{each_built_in, runtime_there, base_there, root_there, root, root_functions, factory_functions}
use Rattle.registry_reading_model.proofs.BuiltInFacts.{base_functions, runtime_functions, disposed_functions, base_members, runtime_members}
use Rattle.registry_reading_model.proofs.BuiltInFacts.{disposed_members, no_circle}

module _ (reg : List Entity) (has : HasBuiltIn reg) where
  -- ---- rule by rule

  keep_bases : (e : Entity) → Contains built_in e → bases_are_of_their_kind reg e ≡ true
  unfolding bases_are_of_their_kind
  keep_bases =
      each_built_in (λ e. bases_are_of_their_kind reg e ≡ true) (ap (λ b. b && true) (runtime_there reg has))
      (ap (λ b. b && true) (root_there reg has)) refl
      (ap (λ b. b && true) (base_there reg has)) refl

  keep_names : (e : Entity) → Contains built_in e → names_differ reg e ≡ true
  unfolding names_differ all_differ
  keep_names = each_built_in (λ e. names_differ reg e ≡ true)
      (ap (λ fs. all_differ (map (λ f. f.name) fs)) (disposed_members reg has))
      (ap (λ fs. own_names_differ factory.body && all_differ (map (λ f. f.name) fs)) (factory_functions reg has))
      (ap (λ fs. all_differ (map (λ f. f.name) fs)) (base_members reg has))
      (ap (λ fs. all_differ (map (λ f. f.name) fs)) (runtime_members reg has))
      (ap (λ fs. own_names_differ x_interface.body && all_differ (map (λ f. f.name) fs)) (root_functions reg has))

  keep_one_way : (e : Entity) → Contains built_in e → one_way_gives_nothing e ≡ true
  unfolding one_way_gives_nothing
  keep_one_way = each_built_in (λ e. one_way_gives_nothing e ≡ true) refl refl refl refl refl

  keep_raised : (e : Entity) → Contains built_in e → raises_exceptions reg e ≡ true
  unfolding raises_exceptions
  keep_raised = each_built_in (λ e. raises_exceptions reg e ≡ true) refl (ap (λ b. (b && (b && true)) && true) (base_there reg has)) refl refl refl

  keep_values : (e : Entity) → Contains built_in e → values_are_long e ≡ true
  unfolding values_are_long
  keep_values = each_built_in (λ e. values_are_long e ≡ true) refl refl refl refl refl

  keep_constant_values : (e : Entity) → Contains built_in e → constants_are_in_range e ≡ true
  unfolding constants_are_in_range
  keep_constant_values = each_built_in (λ e. constants_are_in_range e ≡ true) refl refl refl refl refl

  keep_services : (e : Entity) → Contains built_in e → services_have_parts reg e ≡ true
  unfolding services_have_parts
  keep_services = each_built_in (λ e. services_have_parts reg e ≡ true) refl refl refl refl refl

  keep_singletons : (e : Entity) → Contains built_in e → singletons_have_targets reg e ≡ true
  unfolding singletons_have_targets
  keep_singletons = each_built_in (λ e. singletons_have_targets reg e ≡ true) refl refl refl refl refl

  keep_types : (e : Entity) → Contains built_in e → types_stand_at_their_places reg e ≡ true
  unfolding types_stand_at_their_places
  keep_types = each_built_in (λ e. types_stand_at_their_places reg e ≡ true) refl (rw (root reg has) refl) (rw (root reg has) refl) refl refl

  whole_of : (e : Entity) → is_complete e ≡ true → has_member reg e ≡ true → is_within_limits e ≡ true → has_few_functions reg e ≡ true
      → is_whole_within_limits reg e ≡ true
  unfolding is_whole_within_limits
  whole_of e complete member limits few =
      and_from (is_complete e && has_member reg e) (is_within_limits e && has_few_functions reg e)
      (and_from (is_complete e) (has_member reg e) complete member)
      (and_from (is_within_limits e) (has_few_functions reg e) limits few)

  keep_whole : (e : Entity) → Contains built_in e → is_whole_within_limits reg e ≡ true
  unfolding parts_of
  keep_whole = each_built_in (λ e. is_whole_within_limits reg e ≡ true)
      (whole_of disposed_exception refl (ap is_some_list (disposed_members reg has)) refl
      (ap (λ fs. nat_le (length fs) 65536) (disposed_functions reg has)))
      (whole_of factory refl refl refl (ap (λ fs. nat_le (length fs) 65536) (factory_functions reg has)))
      (whole_of base_exception refl (ap is_some_list (base_members reg has)) refl (ap (λ fs. nat_le (length fs) 65536) (base_functions reg has)))
      (whole_of runtime_exception refl (ap is_some_list (runtime_members reg has)) refl (ap (λ fs. nat_le (length fs) 65536) (runtime_functions reg has)))
      (whole_of x_interface refl refl refl (ap (λ fs. nat_le (length fs) 65536) (root_functions reg has)))

pub built_in_keeps : (reg : List Entity) → IsRising reg → HasBuiltIn reg → (e : Entity) → Contains built_in e → (rule : Rule) → Keeps reg rule e
built_in_keeps reg rising has e in' r.bases = keep_bases reg has e in'
built_in_keeps reg rising has e in' r.circles = no_circle reg has e in'
built_in_keeps reg rising has e in' r.names = keep_names reg has e in'
built_in_keeps reg rising has e in' r.one_way = keep_one_way reg has e in'
built_in_keeps reg rising has e in' r.raised = keep_raised reg has e in'
built_in_keeps reg rising has e in' r.values = keep_values reg has e in'
built_in_keeps reg rising has e in' r.constant_values = keep_constant_values reg has e in'
built_in_keeps reg rising has e in' r.services = keep_services reg has e in'
built_in_keeps reg rising has e in' r.singletons = keep_singletons reg has e in'
built_in_keeps reg rising has e in' r.types = keep_types reg has e in'
built_in_keeps reg rising has e in' r.whole = keep_whole reg has e in'
