-- What an entity writes that keeps the rules is such as can be read: its names are names, its types short and its numbers small.
use Rattle.std.proofs.Common.{◌≡◌, ℕ, suc, ◌^◌, ℤ, pos, negsuc, Bool, true, false, not, ◌&&◌, ◌||◌, nat_lt, nat_le, List, [], ◌∷◌, ◌++◌, map, filter, refl}
use Rattle.std.proofs.Common.{flat_map, Contains, arith, cond, int_le}
use Rattle.std.proofs.lemmas.Bool.{and_parts, and_from, ltb-true, lt-ltb, leb-true, false≢true}
use Rattle.std.specs.List.{list_all}
use Rattle.registry_reading_model.proofs.PartTests.{all_of_map}
use Rattle.registry_text_model.specs.BasesAreOfTheirKind.{bases_are_of_their_kind}
use Rattle.registry_text_model.specs.ConstantValues.{is_in_range, body_is_in_range, constants_are_in_range}
use Rattle.registry_text_model.specs.EnumValues.{is_between, is_long, items_are_long, values_are_long}
use Rattle.registry_text_model.specs.Lines.{is_built_in_name, written}
use Rattle.registry_text_model.specs.RaisedExceptions.{raises_exceptions, setters_raise_rightly}
use Rattle.registry_text_model.specs.Rules as rule
use Rattle.registry_text_model.specs.Rules.{KeepsTheRules}
use Rattle.registry_text_model.specs.ServiceParts.{services_have_parts, parts_of_service_known}
use Rattle.registry_text_model.specs.SingletonTargets.{singletons_have_targets, target_known}
use Rattle.registry_text_model.specs.TypesAtTheirPlaces.{types_stand_at_their_places}
use Rattle.registry_text_model.specs.WholeWithinLimits.{is_whole_within_limits, has_few_functions}
use Rattle.uno_model.proofs.AllLaws.{all_both, of_append, of_flat}
use Rattle.uno_model.proofs.CircleLaws.{all_at, all_from}
use Rattle.uno_model.proofs.NameLaws.{there_named}
use Rattle.uno_model.specs.Entities.{Entity, Body, Field, Param, Member, attribute, method, Item, Constant, Constructor, Part, face, subservice, property}
use Rattle.uno_model.specs.Entities.{interface, struct, exception, enum, constants, typedef, new_service, old_service, new_singleton, old_singleton}
use Rattle.uno_model.specs.Kinds.{Kind, nesting}
use Rattle.uno_model.specs.Kinds as kd
use Rattle.uno_model.specs.Names.{is_identifier, is_entity_name}
use Rattle.uno_model.specs.Registry.{at_most_one}
use Rattle.uno_model.specs.Sound.{is_named, is_there, is_interface, is_struct, is_exception, is_enum, is_service, kind_known, bases_known, raises_known}
use Rattle.uno_model.specs.Sound.{types_known, types_allowed, is_some_list}
use Rattle.uno_model.specs.Sound.{is_complete, has_member, is_namable, is_within_limits, few_modules, short_name, is_type_body, few_params}
use Rattle.uno_model.specs.Uses.{member_names, constructor_names, part_names, inner_names, raised_by, raised_names, interfaces_of_part, services_of_part}
use Rattle.uno_model.specs.Uses.{value_kinds_of, property_kinds, value_kinds}
use Rattle.uno_model.specs.Uses.{result_kinds_of, result_kinds, target_kinds, kinds_in, param_counts}
use Rattle.canonical_laws.proofs.TypeReadings.{kind_named, fine_kind, is_small}
use Rattle.canonical_laws.proofs.MemberReadings.{fine_param, fine_member, fine_base}
use Rattle.canonical_laws.proofs.PartReadings.{fine_field, fine_item, fine_constant, fine_constructor, fine_part}
use Rattle.canonical_laws.proofs.EntityReadings.{fine_body, fine_entity}

-- ---- tests of lists

-- what passes one test passes another
pub all_weaker : {X : Type 0} (p q : X → Bool) → ((x : X) → p x ≡ true → q x ≡ true) → (xs : List X) → list_all p xs ≡ true → list_all q xs ≡ true
all_weaker p q so [] all = refl
all_weaker p q so (x ∷ xs) all =
    let parts = and_parts (p x) (list_all p xs) all in
    and_from (q x) (list_all q xs) (so x parts.0) (all_weaker p q so xs parts.1)

-- what passes for two parts of each element
named_and_kinds : {X : Type 0} (names : X → List ℕ) (kinds : X → Kind) (xs : List X) → list_all is_identifier (map names xs) ≡ true
    → list_all fine_kind (map kinds xs) ≡ true
    → list_all (λ x. is_identifier (names x) && fine_kind (kinds x)) xs ≡ true
named_and_kinds names kinds xs named kind =
    all_both (λ x. is_identifier (names x)) (λ x. fine_kind (kinds x)) xs (all_of_map is_identifier names xs named) (all_of_map fine_kind kinds xs kind)

-- ---- numbers

long_is_small : (z : ℤ) → is_long z ≡ true → is_small z ≡ true
long_is_small (pos n) long =
    let e = leb-true n 2147483647 (and_parts (int_le (negsuc 2147483647) (pos n)) (int_le (pos n) (pos 2147483647)) long).1 in
    lt-ltb n (2 ^ 64) (omega (arith, e))
long_is_small (negsuc n) long =
    let e = leb-true n 2147483647 (and_parts (int_le (negsuc 2147483647) (negsuc n)) (int_le (negsuc n) (pos 2147483647)) long).0 in
    lt-ltb (suc n) (2 ^ 64) (omega (arith, e))

-- a number of a whole type
between_small : (least most : ℕ) (z : ℤ) → nat_lt (suc least) (2 ^ 64) ≡ true → nat_lt most (2 ^ 64) ≡ true → is_between (negsuc least) (pos most) z ≡ true
    → is_small z ≡ true
between_small least most (pos n) low high is =
    let e = leb-true n most (and_parts (int_le (negsuc least) (pos n)) (int_le (pos n) (pos most)) is).1 in
    let h = ltb-true most (2 ^ 64) high in
    lt-ltb n (2 ^ 64) (omega (arith, e, h))
between_small least most (negsuc n) low high is =
    let e = leb-true n least (and_parts (int_le (negsuc least) (negsuc n)) (int_le (negsuc n) (pos most)) is).0 in
    let h = ltb-true (suc least) (2 ^ 64) low in
    lt-ltb (suc n) (2 ^ 64) (omega (arith, e, h))

natural_small : (most : ℕ) (z : ℤ) → nat_lt most (2 ^ 64) ≡ true → is_between (pos 0) (pos most) z ≡ true → is_small z ≡ true
natural_small most (pos n) high is =
    let e = leb-true n most (and_parts (int_le (pos 0) (pos n)) (int_le (pos n) (pos most)) is).1 in
    let h = ltb-true most (2 ^ 64) high in
    lt-ltb n (2 ^ 64) (omega (arith, e, h))
natural_small most (negsuc n) high is = absurd (false≢true (and_parts (int_le (pos 0) (negsuc n)) (int_le (negsuc n) (pos most)) is).0)

in_range_small : (k : Kind) (z : ℤ) → is_in_range k z ≡ true → is_small z ≡ true
in_range_small kd.boolean z is = natural_small 1 z refl is
in_range_small kd.byte z is = between_small 127 127 z refl refl is
in_range_small kd.short z is = between_small 32767 32767 z refl refl is
in_range_small kd.unsigned_short z is = natural_small 65535 z refl is
in_range_small kd.long z is = long_is_small z is
in_range_small kd.unsigned_long z is = natural_small 4294967295 z refl is
in_range_small kd.hyper z is = between_small 9223372036854775807 9223372036854775807 z refl refl is
in_range_small kd.unsigned_hyper z is = natural_small 18446744073709551615 z refl is
in_range_small _ z is = absurd (false≢true is)

-- ---- what holds of one body

module _ (reg : List Entity) (named : list_all is_named reg ≡ true) where
  there : (wanted : Body → Bool) (full : List ℕ) → is_there reg wanted full ≡ true → is_entity_name full ≡ true
  there wanted full is = there_named reg wanted full named is

  all_there : (wanted : Body → Bool) (names : List (List ℕ)) → list_all (is_there reg wanted) names ≡ true → list_all is_entity_name names ≡ true
  all_there wanted names all = all_weaker (is_there reg wanted) is_entity_name (there wanted) names all

  kind_is_named : (k : Kind) → kind_known reg k ≡ true → kind_named k ≡ true
  kind_is_named (kd.enum full) is = there is_enum full is
  kind_is_named (kd.struct full) is = there is_struct full is
  kind_is_named (kd.exception full) is = there is_exception full is
  kind_is_named (kd.interface full) is = there is_interface full is
  kind_is_named (kd.sequence k) is = kind_is_named k is
  kind_is_named _ is = refl

  kind_is_fine : (k : Kind) → (kind_known reg k && is_namable k) ≡ true → fine_kind k ≡ true
  kind_is_fine k both =
      let parts = and_parts (kind_known reg k) (is_namable k) both in
      let short = and_parts _ (nat_le (nesting k) 64) parts.1 in
      and_from (kind_named k) (nat_le (nesting k) 64) (kind_is_named k parts.0) short.1

  kinds_are_fine : (ks : List Kind) → list_all (kind_known reg) ks ≡ true → list_all is_namable ks ≡ true → list_all fine_kind ks ≡ true
  kinds_are_fine ks known short =
      all_weaker (λ k. kind_known reg k && is_namable k) fine_kind kind_is_fine ks (all_both (kind_known reg) is_namable ks known short)

-- ---- the parts of bodies

member_fine : (m : Member)
    → ((list_all is_identifier (member_names m) && list_all is_entity_name (raised_by m))
    && (list_all fine_kind (value_kinds_of m) && list_all fine_kind (result_kinds_of m))) ≡ true
    → fine_member m ≡ true
member_fine (attribute a) all =
    let outer =
    and_parts (list_all is_identifier (a.name ∷ []) && list_all is_entity_name (a.get_raises ++ a.set_raises)) (list_all fine_kind (a.kind ∷ []) && true) all in
    let first = and_parts (list_all is_identifier (a.name ∷ [])) (list_all is_entity_name (a.get_raises ++ a.set_raises)) outer.0 in
    let name = and_parts (is_identifier a.name) true first.0 in
    let raised = of_append is_entity_name a.get_raises a.set_raises first.1 in
    let kinds = and_parts (list_all fine_kind (a.kind ∷ [])) true outer.1 in
    let kind = and_parts (fine_kind a.kind) true kinds.0 in
    and_from _ _ (and_from (is_identifier a.name) (fine_kind a.kind) name.0 kind.0)
    (and_from (list_all is_entity_name a.get_raises) (list_all is_entity_name a.set_raises) raised.0 raised.1)
member_fine (method m) all =
    let outer = and_parts (list_all is_identifier (m.name ∷ map (λ p. p.name) m.params) && list_all is_entity_name m.raises)
    (list_all fine_kind (map (λ p. p.kind) m.params) && list_all fine_kind (m.result_kind ∷ [])) all in
    let first = and_parts (list_all is_identifier (m.name ∷ map (λ p. p.name) m.params)) (list_all is_entity_name m.raises) outer.0 in
    let names = and_parts (is_identifier m.name) (list_all is_identifier (map (λ p. p.name) m.params)) first.0 in
    let kinds = and_parts (list_all fine_kind (map (λ p. p.kind) m.params)) (list_all fine_kind (m.result_kind ∷ [])) outer.1 in
    let result = and_parts (fine_kind m.result_kind) true kinds.1 in
    and_from _ _ (and_from (is_identifier m.name) (fine_kind m.result_kind) names.0 result.0)
    (and_from (list_all fine_param m.params) (list_all is_entity_name m.raises)
    (named_and_kinds (λ (p : Param). p.name) (λ (p : Param). p.kind) m.params names.1 kinds.0) first.1)

members_fine : (ms : List Member) → list_all is_identifier (flat_map member_names ms) ≡ true → list_all is_entity_name (flat_map raised_by ms) ≡ true
    → list_all fine_kind (flat_map value_kinds_of ms) ≡ true → list_all fine_kind (flat_map result_kinds_of ms) ≡ true → list_all fine_member ms ≡ true
members_fine ms names raises values results =
    all_weaker (λ m. (list_all is_identifier (member_names m) && list_all is_entity_name (raised_by m))
    && (list_all fine_kind (value_kinds_of m) && list_all fine_kind (result_kinds_of m)))
    fine_member member_fine ms
    (all_both (λ m. list_all is_identifier (member_names m) && list_all is_entity_name (raised_by m))
    (λ m. list_all fine_kind (value_kinds_of m) && list_all fine_kind (result_kinds_of m)) ms
    (all_both (λ m. list_all is_identifier (member_names m)) (λ m. list_all is_entity_name (raised_by m)) ms (of_flat is_identifier member_names ms names)
    (of_flat is_entity_name raised_by ms raises))
    (all_both (λ m. list_all fine_kind (value_kinds_of m)) (λ m. list_all fine_kind (result_kinds_of m)) ms (of_flat fine_kind value_kinds_of ms values)
    (of_flat fine_kind result_kinds_of ms results)))

constructor_fine : (c : Constructor)
    → ((list_all is_identifier (constructor_names c) && list_all is_entity_name c.raises) && list_all fine_kind (map (λ p. p.kind) c.params)) ≡ true
    → fine_constructor c ≡ true
constructor_fine c all =
    let outer =
    and_parts (list_all is_identifier (constructor_names c) && list_all is_entity_name c.raises) (list_all fine_kind (map (λ p. p.kind) c.params)) all in
    let first = and_parts (list_all is_identifier (constructor_names c)) (list_all is_entity_name c.raises) outer.0 in
    let names = of_append is_identifier (c.name ∷ map (λ p. p.name) c.params) (at_most_one c.rest) first.0 in
    let own = and_parts (is_identifier c.name) (list_all is_identifier (map (λ p. p.name) c.params)) names.0 in
    and_from _ _
    (and_from (is_identifier c.name) (list_all fine_field c.params) own.0
    (named_and_kinds (λ (f : Field). f.name) (λ (f : Field). f.kind) c.params own.1 outer.1))
    (and_from (list_all is_identifier (at_most_one c.rest)) (list_all is_entity_name c.raises) names.1 first.1)

constructors_fine : (cs : List Constructor) → list_all is_identifier (flat_map constructor_names cs) ≡ true
    → list_all is_entity_name (flat_map (λ c. c.raises) cs) ≡ true
    → list_all fine_kind (flat_map (λ c. map (λ p. p.kind) c.params) cs) ≡ true → list_all fine_constructor cs ≡ true
constructors_fine cs names raises kinds =
    all_weaker (λ c. (list_all is_identifier (constructor_names c) && list_all is_entity_name c.raises) && list_all fine_kind
    (map (λ p. p.kind) c.params)) fine_constructor constructor_fine cs
    (all_both (λ c. list_all is_identifier (constructor_names c) && list_all is_entity_name c.raises) (λ c. list_all fine_kind (map (λ p. p.kind) c.params)) cs
    (all_both (λ c. list_all is_identifier (constructor_names c)) (λ c. list_all is_entity_name c.raises) cs (of_flat is_identifier constructor_names cs names)
    (of_flat is_entity_name (λ (c : Constructor). c.raises) cs raises))
    (of_flat fine_kind (λ (c : Constructor). map (λ p. p.kind) c.params) cs kinds))

part_fine : (p : Part) → ((list_all is_identifier (part_names p) && list_all fine_kind (property_kinds p))
    && (list_all is_entity_name (interfaces_of_part p) && list_all is_entity_name (services_of_part p))) ≡ true → fine_part p ≡ true
part_fine (face optional full) all =
    let faces = and_parts (list_all is_entity_name (full ∷ [])) true (and_parts true (list_all is_entity_name (full ∷ []) && true) all).1 in
    (and_parts (is_entity_name full) true faces.0).0
part_fine (subservice optional full) all = (and_parts (is_entity_name full) true (and_parts true (list_all is_entity_name (full ∷ [])) all).1).0
part_fine (property name flags k) all =
    let both = and_parts (list_all is_identifier (name ∷ []) && list_all fine_kind (k ∷ [])) true all in
    let parts = and_parts (list_all is_identifier (name ∷ [])) (list_all fine_kind (k ∷ [])) both.0 in
    and_from (is_identifier name) (fine_kind k) (and_parts (is_identifier name) true parts.0).0 (and_parts (fine_kind k) true parts.1).0

service_parts_fine : (ps : List Part) → list_all is_identifier (flat_map part_names ps) ≡ true → list_all fine_kind (flat_map property_kinds ps) ≡ true
    → list_all is_entity_name (flat_map interfaces_of_part ps) ≡ true → list_all is_entity_name (flat_map services_of_part ps) ≡ true
    → list_all fine_part ps ≡ true
service_parts_fine ps names kinds faces services =
    all_weaker (λ p. (list_all is_identifier (part_names p) && list_all fine_kind (property_kinds p))
    && (list_all is_entity_name (interfaces_of_part p) && list_all is_entity_name (services_of_part p))) fine_part part_fine ps
    (all_both (λ p. list_all is_identifier (part_names p) && list_all fine_kind (property_kinds p))
    (λ p. list_all is_entity_name (interfaces_of_part p) && list_all is_entity_name (services_of_part p)) ps
    (all_both (λ p. list_all is_identifier (part_names p)) (λ p. list_all fine_kind (property_kinds p)) ps (of_flat is_identifier part_names ps names)
    (of_flat fine_kind property_kinds ps kinds))
    (all_both (λ p. list_all is_entity_name (interfaces_of_part p)) (λ p. list_all is_entity_name (services_of_part p)) ps
    (of_flat is_entity_name interfaces_of_part ps faces)
    (of_flat is_entity_name services_of_part ps services)))

-- ---- bodies

-- what the rules say of a body, names of entities as names alone
record Facts (reg : List Entity) (body : Body) : Type 0 where
  names : list_all is_identifier (inner_names body) ≡ true
  bases : bases_known reg body ≡ true
  raises : list_all is_entity_name (raised_names body) ≡ true
  services : parts_of_service_known reg body ≡ true
  targets : target_known reg body ≡ true
  values : list_all fine_kind (value_kinds body) ≡ true
  results : list_all fine_kind (result_kinds body) ≡ true
  types : list_all fine_kind (target_kinds body) ≡ true
  longs : items_are_long body ≡ true
  ranges : body_is_in_range body ≡ true

-- an enum has an item
abbrev has_items : Body → Bool
has_items (enum items) = is_some_list items
has_items _ = true

small_items : (items : List Item) → list_all is_identifier (map (λ i. i.name) items) ≡ true → list_all (λ i. is_long i.number) items ≡ true
    → list_all fine_item items ≡ true
small_items items names longs =
    all_both (λ i. is_identifier i.name) (λ i. is_small i.number) items (all_of_map is_identifier (λ (i : Item). i.name) items names)
    (all_weaker (λ i. is_long i.number) (λ i. is_small i.number) (λ i long. long_is_small i.number long) items longs)

small_constants : (cs : List Constant) → list_all is_identifier (map (λ c. c.name) cs) ≡ true → list_all fine_kind (map (λ c. c.kind) cs) ≡ true
    → list_all (λ c. is_in_range c.kind c.number) cs ≡ true → list_all fine_constant cs ≡ true
small_constants cs names kinds ranges =
    all_both (λ c. is_identifier c.name) (λ c. fine_kind c.kind && is_small c.number) cs (all_of_map is_identifier (λ (c : Constant). c.name) cs names)
    (all_both (λ c. fine_kind c.kind) (λ c. is_small c.number) cs (all_of_map fine_kind (λ (c : Constant). c.kind) cs kinds)
    (all_weaker (λ c. is_in_range c.kind c.number) (λ c. is_small c.number) (λ c ranged. in_range_small c.kind c.number ranged) cs ranges))

module _ (reg : List Entity) (named : list_all is_named reg ≡ true) where
  body_fine : (body : Body) → has_items body ≡ true → Facts reg body → fine_body body ≡ true
  body_fine (interface bases own) some f =
      and_from (list_all fine_base bases) (list_all fine_member own)
      (all_weaker (λ b. is_there reg is_interface b.name) fine_base (λ b is. there reg named is_interface b.name is) bases f.bases)
      (members_fine own f.names f.raises f.values f.results)
  body_fine (struct base fields) some f =
      and_from (list_all is_entity_name (at_most_one base)) (list_all fine_field fields) (all_there reg named is_struct (at_most_one base) f.bases)
      (named_and_kinds (λ (x : Field). x.name) (λ (x : Field). x.kind) fields f.names f.values)
  body_fine (exception base fields) some f =
      and_from (list_all is_entity_name (at_most_one base)) (list_all fine_field fields) (all_there reg named is_exception (at_most_one base) f.bases)
      (named_and_kinds (λ (x : Field). x.name) (λ (x : Field). x.kind) fields f.names f.values)
  body_fine (enum items) some f = and_from (is_some_list items) (list_all fine_item items) some (small_items items f.names f.longs)
  body_fine (constants cs) some f = small_constants cs f.names f.values f.ranges
  body_fine (typedef k) some f = (and_parts (fine_kind k) true f.types).0
  body_fine (new_service base cs) some f =
      and_from (is_entity_name base) (list_all fine_constructor cs) (there reg named is_interface base f.services)
      (constructors_fine cs f.names f.raises f.values)
  body_fine (old_service ps) some f =
      let known =
      and_parts (list_all (is_there reg is_interface) (flat_map interfaces_of_part ps))
      (list_all (is_there reg is_service) (flat_map services_of_part ps)) f.services in
      service_parts_fine ps f.names f.values (all_there reg named is_interface (flat_map interfaces_of_part ps) known.0)
      (all_there reg named is_service (flat_map services_of_part ps) known.1)
  body_fine (new_singleton base) some f = there reg named is_interface base f.targets
  body_fine (old_singleton service) some f = there reg named is_service service f.targets

-- ---- each rule

bases_kept : (reg : List Entity) (e : Entity) → bases_are_of_their_kind reg e ≡ true → bases_known reg e.body ≡ true
unfolding bases_are_of_their_kind
bases_kept reg e keeps = keeps

raises_kept : (reg : List Entity) (e : Entity) → raises_exceptions reg e ≡ true → raises_known reg e.body ≡ true
unfolding raises_exceptions
raises_kept reg e keeps = (and_parts (raises_known reg e.body) (setters_raise_rightly e.body) keeps).0

services_kept : (reg : List Entity) (e : Entity) → services_have_parts reg e ≡ true → parts_of_service_known reg e.body ≡ true
unfolding services_have_parts
services_kept reg e keeps = keeps

targets_kept : (reg : List Entity) (e : Entity) → singletons_have_targets reg e ≡ true → target_known reg e.body ≡ true
unfolding singletons_have_targets
targets_kept reg e keeps = keeps

types_kept : (reg : List Entity) (e : Entity) → types_stand_at_their_places reg e ≡ true → types_known reg e.body ≡ true
unfolding types_stand_at_their_places
types_kept reg e keeps = (and_parts (types_known reg e.body) (types_allowed e.body) keeps).0

longs_kept : (e : Entity) → values_are_long e ≡ true → items_are_long e.body ≡ true
unfolding values_are_long
longs_kept e keeps = keeps

ranges_kept : (e : Entity) → constants_are_in_range e ≡ true → body_is_in_range e.body ≡ true
unfolding constants_are_in_range
ranges_kept e keeps = keeps

whole_kept : (reg : List Entity) (e : Entity) → is_whole_within_limits reg e ≡ true → (is_complete e ≡ true) × (is_within_limits e ≡ true)
unfolding is_whole_within_limits
whole_kept reg e keeps =
    let both = and_parts (is_complete e && has_member reg e) (is_within_limits e && has_few_functions reg e) keeps in
    ((and_parts (is_complete e) (has_member reg e) both.0).0, (and_parts (is_within_limits e) (has_few_functions reg e) both.1).0)

items_of_complete : (name : List ℕ) (published : Bool) (body : Body) → is_complete (record { name = name; published = published; body = body }) ≡ true
    → has_items body ≡ true
items_of_complete name published (enum items) is = is
items_of_complete name published (interface bases own) is = refl
items_of_complete name published (struct base fields) is = refl
items_of_complete name published (exception base fields) is = refl
items_of_complete name published (constants cs) is = refl
items_of_complete name published (typedef k) is = refl
items_of_complete name published (new_service base cs) is = refl
items_of_complete name published (old_service ps) is = refl
items_of_complete name published (new_singleton base) is = refl
items_of_complete name published (old_singleton service) is = refl

limits_kept : (e : Entity) → is_within_limits e ≡ true → (few_modules e.name ≡ true) × (list_all is_namable (kinds_in e.body) ≡ true)
limits_kept e limits =
    let outer =
    and_parts (few_modules e.name && (not (is_type_body e.body) || short_name e.name))
    (list_all is_namable (kinds_in e.body) && list_all few_params (param_counts e.body)) limits in (
      (and_parts (few_modules e.name) (not (is_type_body e.body) || short_name e.name) outer.0).0,
      (and_parts (list_all is_namable (kinds_in e.body)) (list_all few_params (param_counts e.body)) outer.1).0,
    )

-- an entity of a registry that keeps the rules can be read, and stands in at most 64 modules
abbrev pub is_printable : Entity → Bool
is_printable e = fine_entity e && few_modules e.name

one_printable : (reg : List Entity) → KeepsTheRules reg → (e : Entity) → Contains reg e → is_printable e ≡ true
one_printable reg keeps e has =
    let own = and_parts (is_entity_name e.name) (list_all is_identifier (inner_names e.body)) (all_at is_named reg e keeps.named has) in
    let whole = whole_kept reg e (keeps.each rule.whole e has) in
    let limits = limits_kept e whole.1 in
    let kinds = kinds_are_fine reg keeps.named (kinds_in e.body) (types_kept reg e (keeps.each rule.types e has)) limits.1 in
    let first = of_append fine_kind (value_kinds e.body) (result_kinds e.body ++ target_kinds e.body) kinds in
    let second = of_append fine_kind (result_kinds e.body) (target_kinds e.body) first.1 in
    let facts : Facts reg e.body = record {
      names = own.1;
      bases = bases_kept reg e (keeps.each rule.bases e has);
      raises = all_there reg keeps.named is_exception (raised_names e.body) (raises_kept reg e (keeps.each rule.raised e has));
      services = services_kept reg e (keeps.each rule.services e has);
      targets = targets_kept reg e (keeps.each rule.singletons e has);
      values = first.0;
      results = second.0;
      types = second.1;
      longs = longs_kept e (keeps.each rule.values e has);
      ranges = ranges_kept e (keeps.each rule.constant_values e has);
    } in
    let body = body_fine reg keeps.named e.body (items_of_complete e.name e.published e.body whole.0) facts in
    and_from (fine_entity e) (few_modules e.name) (and_from (is_entity_name e.name) (fine_body e.body) own.0 body) limits.0

-- those that are kept of a list
all_kept : {X : Type 0} (p keep : X → Bool) (xs : List X) → list_all p xs ≡ true → list_all p (filter keep xs) ≡ true
all_kept p keep [] all = refl
all_kept p keep (x ∷ xs) all =
    let parts = and_parts (p x) (list_all p xs) all in
    by_test (keep x) parts.0 (all_kept p keep xs parts.1)
  where
    by_test : (b : Bool) → p x ≡ true → list_all p (filter keep xs) ≡ true → list_all p (cond b (x ∷ filter keep xs) (filter keep xs)) ≡ true
    by_test true here others = and_from (p x) (list_all p (filter keep xs)) here others
    by_test false here others = others

pub all_printable : (reg : List Entity) → KeepsTheRules reg → list_all is_printable (written reg) ≡ true
all_printable reg keeps = all_kept is_printable (λ e. not (is_built_in_name e.name)) reg (all_from is_printable reg (λ e has. one_printable reg keeps e has))
