-- A rule of which no item is asked is kept in a registry exactly where it is kept in what a reader keeps of it.
use Rattle.std.proofs.Common.{◌≡◌, ℕ, Bool, true, not, ◌&&◌, ◌||◌, nat_le, List, ◌≢◌, refl, sym, ap, ap₂, ◌∙◌}
use Rattle.std.specs.List.{list_all, flat_map}
use Rattle.uno_model.specs.Entities.{Field, Base}
use Rattle.uno_model.specs.Entities.{Body, interface, struct, exception, new_service, old_service, new_singleton}
use Rattle.uno_model.specs.Entities.{old_singleton, Entity}
use Rattle.uno_model.specs.Kinds.{Kind}
use Rattle.uno_model.specs.Kinds as kd
use Rattle.uno_model.specs.Registry.{all_members, at_most_one}
use Rattle.uno_model.specs.Sound.{is_there, is_interface, is_struct, is_exception, is_service, is_some_list, has_member, is_within_limits, all_differ}
use Rattle.uno_model.specs.Sound.{kind_known, bases_known, raises_known, types_known, types_allowed, is_value, elements_storable, is_target}
use Rattle.uno_model.specs.Sound.{few_modules, short_name, few_params}
use Rattle.uno_model.specs.Uses.{interfaces_of_part, services_of_part}
use Rattle.registry_text_model.specs.BasesAreOfTheirKind.{bases_are_of_their_kind}
use Rattle.registry_text_model.specs.NamesDiffer.{all_names_differ, names_differ}
use Rattle.registry_text_model.specs.NoCircles.{leads_on_to}
use Rattle.registry_text_model.specs.OneWayMethods.{one_way_gives_nothing}
use Rattle.registry_text_model.specs.RaisedExceptions.{raises_exceptions}
use Rattle.registry_text_model.specs.Rules as r
use Rattle.registry_text_model.specs.Rules.{Rule, Keeps}
use Rattle.registry_text_model.specs.ServiceParts.{parts_of_service_known, services_have_parts}
use Rattle.registry_text_model.specs.SingletonTargets.{target_known, singletons_have_targets}
use Rattle.registry_text_model.specs.TypesAtTheirPlaces.{types_stand_at_their_places}
use Rattle.registry_text_model.specs.WholeWithinLimits.{has_few_functions, is_whole_within_limits}
use Rattle.registry_reading_model.specs.Changes.{body_changed, entity_changed}
use Rattle.registry_reading_model.specs.Kept.{limited}
use Rattle.registry_reading_model.proofs.ChangedBodies.{interface_seen, struct_seen, exception_seen, enum_seen, service_seen, type_seen, SeesClass}
use Rattle.registry_reading_model.proofs.ChangedBodies.{raises_changed, setters_alike, parts_interfaces, parts_services}
use Rattle.registry_reading_model.proofs.ChangedBodies.{own_names_alike, complete_alike, counts_changed, one_way_alike}
use Rattle.registry_reading_model.proofs.ChangedKinds.{kinds_pass, values_pass, results_pass, targets_pass, namable_alike, constants_alike}
use Rattle.registry_reading_model.proofs.ChangedRegistries.{all_changed, there_changed, functions_named, functions_counted, all_members_named}
use Rattle.registry_reading_model.proofs.ChangedRegistries.{leads_changed, same_ways}
use Rattle.registry_reading_model.proofs.CutLaws.{cut_alike}
use Rattle.registry_reading_model.proofs.Mapped.{all_alike, some_mapped}

-- whether an entity of a class is there, in a registry and in what is kept of it
there : (wanted : Body → Bool) → SeesClass limited wanted → (reg : List Entity) (name : List ℕ)
    → is_there (all_changed limited reg) wanted name ≡ is_there reg wanted name
there wanted sees reg name = there_changed limited wanted sees reg name

all_there : (wanted : Body → Bool) → SeesClass limited wanted → (reg : List Entity) (names : List (List ℕ))
    → list_all (is_there (all_changed limited reg) wanted) names ≡ list_all (is_there reg wanted) names
all_there wanted sees reg names = all_alike (is_there (all_changed limited reg) wanted) (is_there reg wanted) (there wanted sees reg) names

-- ---- rule by rule

bases_body : (reg : List Entity) (b : Body) → bases_known (all_changed limited reg) (body_changed limited b) ≡ bases_known reg b
bases_body reg (interface bases members) =
    all_alike (λ (b : Base). is_there (all_changed limited reg) is_interface b.name) (λ b. is_there reg is_interface b.name)
    (λ b. there is_interface (interface_seen limited) reg b.name) bases
bases_body reg (struct base members) = all_there is_struct (struct_seen limited) reg (at_most_one base)
bases_body reg (exception base members) = all_there is_exception (exception_seen limited) reg (at_most_one base)
bases_body reg _ = refl

bases_alike : (reg : List Entity) (e : Entity)
    → bases_are_of_their_kind (all_changed limited reg) (entity_changed limited e) ≡ bases_are_of_their_kind reg e
unfolding bases_are_of_their_kind
bases_alike reg e = bases_body reg e.body

names_body : (reg : List Entity) (name : List ℕ) (b : Body)
    → all_names_differ (all_changed limited reg) name (body_changed limited b) ≡ all_names_differ reg name b
names_body reg name (interface bases members) = ap all_differ (functions_named limited reg name)
names_body reg name (struct base members) = ap all_differ (all_members_named limited reg name)
names_body reg name (exception base members) = ap all_differ (all_members_named limited reg name)
names_body reg name _ = refl

names_alike : (reg : List Entity) (e : Entity) → names_differ (all_changed limited reg) (entity_changed limited e) ≡ names_differ reg e
unfolding names_differ
names_alike reg e = ap₂ (λ own all. own && all) (own_names_alike limited e.body) (names_body reg e.name e.body)

one_way_same : (e : Entity) → one_way_gives_nothing (entity_changed limited e) ≡ one_way_gives_nothing e
unfolding one_way_gives_nothing
one_way_same e = one_way_alike e.body

raises_alike : (reg : List Entity) (e : Entity) → raises_exceptions (all_changed limited reg) (entity_changed limited e) ≡ raises_exceptions reg e
unfolding raises_exceptions
raises_alike reg e =
    let known : raises_known (all_changed limited reg) (body_changed limited e.body) ≡ raises_known reg e.body =
    ap (list_all (is_there (all_changed limited reg) is_exception)) (raises_changed limited e.body)
    ∙ all_there is_exception (exception_seen limited) reg _ in
    ap₂ (λ a b. a && b) known (setters_alike limited e.body)

services_body : (reg : List Entity) (b : Body) → parts_of_service_known (all_changed limited reg) (body_changed limited b) ≡ parts_of_service_known reg b
services_body reg (new_service base constructors) = there is_interface (interface_seen limited) reg base
services_body reg (old_service parts) =
    ap₂ (λ a b. a && b)
    (ap (list_all (is_there (all_changed limited reg) is_interface)) (parts_interfaces limited parts)
    ∙ all_there is_interface (interface_seen limited) reg (flat_map interfaces_of_part parts))
    (ap (list_all (is_there (all_changed limited reg) is_service)) (parts_services limited parts)
    ∙ all_there is_service (service_seen limited) reg (flat_map services_of_part parts))
services_body reg _ = refl

services_alike : (reg : List Entity) (e : Entity) → services_have_parts (all_changed limited reg) (entity_changed limited e) ≡ services_have_parts reg e
unfolding services_have_parts
services_alike reg e = services_body reg e.body

singletons_body : (reg : List Entity) (b : Body) → target_known (all_changed limited reg) (body_changed limited b) ≡ target_known reg b
singletons_body reg (new_singleton base) = there is_interface (interface_seen limited) reg base
singletons_body reg (old_singleton service) = there is_service (service_seen limited) reg service
singletons_body reg _ = refl

singletons_alike : (reg : List Entity) (e : Entity)
    → singletons_have_targets (all_changed limited reg) (entity_changed limited e) ≡ singletons_have_targets reg e
unfolding singletons_have_targets
singletons_alike reg e = singletons_body reg e.body

-- ---- types

kind_there : (reg : List Entity) (k : Kind) → kind_known (all_changed limited reg) k ≡ kind_known reg k
kind_there reg (kd.enum name) = there _ (enum_seen limited) reg name
kind_there reg (kd.struct name) = there is_struct (struct_seen limited) reg name
kind_there reg (kd.exception name) = there is_exception (exception_seen limited) reg name
kind_there reg (kd.interface name) = there is_interface (interface_seen limited) reg name
kind_there reg (kd.sequence k) = kind_there reg k
kind_there reg _ = refl

types_alike : (reg : List Entity) (e : Entity)
    → types_stand_at_their_places (all_changed limited reg) (entity_changed limited e) ≡ types_stand_at_their_places reg e
unfolding types_stand_at_their_places
types_alike reg e =
    let known : types_known (all_changed limited reg) (body_changed limited e.body) ≡ types_known reg e.body =
    kinds_pass (kind_known (all_changed limited reg)) (kind_known reg)
    (λ k. cut_alike (kind_known (all_changed limited reg)) (λ j. refl) k ∙ kind_there reg k) e.body in
    let allowed : types_allowed (body_changed limited e.body) ≡ types_allowed e.body =
    ap₂ (λ a b. a && b) (values_pass is_value is_value (cut_alike is_value (λ k. refl)) e.body)
    (ap₂ (λ a b. a && b) (results_pass elements_storable elements_storable (cut_alike elements_storable (λ k. refl)) e.body)
    (targets_pass is_target is_target (cut_alike is_target (λ k. refl)) e.body)) in
    ap₂ (λ a b. a && b) known allowed

-- ---- what is whole, and the limits

has_member_alike : (reg : List Entity) (e : Entity) → has_member (all_changed limited reg) (entity_changed limited e) ≡ has_member reg e
has_member_alike reg e =
    let some : is_some_list (all_members (all_changed limited reg) e.name) ≡ is_some_list (all_members reg e.name) =
    sym (some_mapped (λ (f : Field). f.name) (all_members (all_changed limited reg) e.name)) ∙ ap is_some_list (all_members_named limited reg e.name)
    ∙ some_mapped (λ (f : Field). f.name) (all_members reg e.name) in
    ap₂ (λ a b. not a || b) (ap₂ (λ a b. a || b) (struct_seen limited e.body) (exception_seen limited e.body)) some

limits_alike : (e : Entity) → is_within_limits (entity_changed limited e) ≡ is_within_limits e
limits_alike e =
    ap₂ (λ a b. a && b) (ap (λ b. few_modules e.name && (not b || short_name e.name)) (type_seen limited e.body))
    (ap₂ (λ a b. a && b) (namable_alike e.body) (ap (list_all few_params) (counts_changed limited e.body)))

functions_alike : (reg : List Entity) (e : Entity) → has_few_functions (all_changed limited reg) (entity_changed limited e) ≡ has_few_functions reg e
functions_alike reg e = ap (λ n. nat_le n 65536) (functions_counted limited reg e.name)

whole_alike : (reg : List Entity) (e : Entity) → is_whole_within_limits (all_changed limited reg) (entity_changed limited e) ≡ is_whole_within_limits reg e
unfolding is_whole_within_limits
whole_alike reg e =
    ap₂ (λ a b. a && b) (ap₂ (λ a b. a && b) (complete_alike limited e) (has_member_alike reg e))
    (ap₂ (λ a b. a && b) (limits_alike e) (functions_alike reg e))

-- ---- the law

-- what one test says, the other says
abbrev BothWays : Bool → Bool → Type 0
BothWays a b = (a ≡ true → b ≡ true) × (b ≡ true → a ≡ true)

of_alike : (a b : Bool) → a ≡ b → BothWays a b
of_alike a b same = (λ is. sym same ∙ is, λ is. same ∙ is)

pub limited_keeps : (reg : List Entity) (rule : Rule) (e : Entity) → rule ≢ r.values
    → (Keeps (all_changed limited reg) rule (entity_changed limited e) → Keeps reg rule e)
    × (Keeps reg rule e → Keeps (all_changed limited reg) rule (entity_changed limited e))
limited_keeps reg r.bases e other = of_alike _ _ (bases_alike reg e)
limited_keeps reg r.circles e other =
    let there = leads_changed reg in (
      λ none way. none (same_ways (leads_on_to reg) (leads_on_to (all_changed limited reg)) (λ n. sym (there n)) e.name e.name way),
      λ none way. none (same_ways (leads_on_to (all_changed limited reg)) (leads_on_to reg) there e.name e.name way),
    )
limited_keeps reg r.names e other = of_alike _ _ (names_alike reg e)
limited_keeps reg r.one_way e other = of_alike _ _ (one_way_same e)
limited_keeps reg r.raised e other = of_alike _ _ (raises_alike reg e)
limited_keeps reg r.values e other = absurd (other refl)
limited_keeps reg r.constant_values e other = of_alike _ _ (constants_alike e)
limited_keeps reg r.services e other = of_alike _ _ (services_alike reg e)
limited_keeps reg r.singletons e other = of_alike _ _ (singletons_alike reg e)
limited_keeps reg r.types e other = of_alike _ _ (types_alike reg e)
limited_keeps reg r.whole e other = of_alike _ _ (whole_alike reg e)
