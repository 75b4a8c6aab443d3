-- What a change of types and numbers leaves of a body: its class, its names, and how many there are.
use Rattle.std.proofs.Common.{◌≡◌, ℕ, ◌+◌, Bool, not, ◌&&◌, ◌||◌, List, [], ◌∷◌, ◌++◌, map, length, refl, ap, ap₂}
use Rattle.std.specs.List.{flat_map}
use Rattle.std.proofs.lemmas.List.{length-map}
use Rattle.uno_model.specs.Entities.{Field, Param, Member, attribute, method, Item, Constant, Constructor, Part, face, subservice, property}
use Rattle.uno_model.specs.Entities.{Body, interface, struct, enum, constants, new_service, old_service}
use Rattle.uno_model.specs.Entities.{Entity}
use Rattle.uno_model.specs.Registry.{at_most_one, contained, led_to, struct_in}
use Rattle.uno_model.specs.Sound.{is_interface, is_struct, is_exception, is_enum, is_service, is_type_body, is_complete, is_some_list, all_differ}
use Rattle.uno_model.specs.Uses.{raised_by, raised_names, interfaces_of_part, services_of_part, part_names, param_counts_of, param_counts}
use Rattle.registry_text_model.specs.NamesDiffer.{declared_name, params_differ, given_differ, own_names_differ}
use Rattle.registry_text_model.specs.NoCircles.{is_typedef}
use Rattle.registry_text_model.specs.OneWayMethods.{is_void, goes_in_alone, member_goes_one_way, body_goes_one_way}
use Rattle.registry_text_model.specs.RaisedExceptions.{setter_raises_rightly, setters_raise_rightly}
use Rattle.registry_reading_model.specs.Changes.{Change, field_changed, param_changed, member_changed, item_changed, constant_changed}
use Rattle.registry_reading_model.specs.Changes.{constructor_changed, part_changed, body_changed, entity_changed}
use Rattle.registry_reading_model.specs.Kept.{limited}
use Rattle.registry_reading_model.proofs.CutLaws.{cut_alike}
use Rattle.registry_reading_model.proofs.Mapped.{all_mapped, map_mapped, flat_mapped, some_mapped}

module _ (c : Change) where
  -- ---- its class

  -- a test of the class, which sees nothing else of a body
  abbrev pub SeesClass : (Body → Bool) → Type 0
  SeesClass wanted = (b : Body) → wanted (body_changed c b) ≡ wanted b

  pub interface_seen : SeesClass is_interface
  interface_seen (interface bases members) = refl
  interface_seen _ = refl

  pub struct_seen : SeesClass is_struct
  struct_seen (interface bases members) = refl
  struct_seen _ = refl

  pub exception_seen : SeesClass is_exception
  exception_seen (interface bases members) = refl
  exception_seen _ = refl

  pub enum_seen : SeesClass is_enum
  enum_seen (interface bases members) = refl
  enum_seen _ = refl

  pub service_seen : SeesClass is_service
  service_seen (interface bases members) = refl
  service_seen _ = refl

  pub typedef_seen : SeesClass is_typedef
  typedef_seen (interface bases members) = refl
  typedef_seen _ = refl

  pub type_seen : SeesClass is_type_body
  type_seen (interface bases members) = refl
  type_seen _ = refl

  -- ---- names of others

  member_raises : (m : Member) → raised_by (member_changed c m) ≡ raised_by m
  member_raises (attribute a) = refl
  member_raises (method m) = refl

  pub raises_changed : (b : Body) → raised_names (body_changed c b) ≡ raised_names b
  raises_changed (interface bases members) = flat_mapped (member_changed c) raised_by raised_by member_raises members
  raises_changed (new_service base constructors) =
      flat_mapped (constructor_changed c) (λ (k : Constructor). k.raises) (λ k. k.raises) (λ k. refl) constructors
  raises_changed _ = refl

  setter_alike : (m : Member) → setter_raises_rightly (member_changed c m) ≡ setter_raises_rightly m
  setter_alike (attribute a) = refl
  setter_alike (method m) = refl

  pub setters_alike : (b : Body) → setters_raise_rightly (body_changed c b) ≡ setters_raise_rightly b
  setters_alike (interface bases members) = all_mapped (member_changed c) setter_raises_rightly setter_raises_rightly setter_alike members
  setters_alike _ = refl

  part_interfaces : (p : Part) → interfaces_of_part (part_changed c p) ≡ interfaces_of_part p
  part_interfaces (face optional name) = refl
  part_interfaces (subservice optional name) = refl
  part_interfaces (property name flags k) = refl

  part_services : (p : Part) → services_of_part (part_changed c p) ≡ services_of_part p
  part_services (face optional name) = refl
  part_services (subservice optional name) = refl
  part_services (property name flags k) = refl

  pub parts_interfaces : (ps : List Part) → flat_map interfaces_of_part (map (part_changed c) ps) ≡ flat_map interfaces_of_part ps
  parts_interfaces ps = flat_mapped (part_changed c) interfaces_of_part interfaces_of_part part_interfaces ps

  pub parts_services : (ps : List Part) → flat_map services_of_part (map (part_changed c) ps) ≡ flat_map services_of_part ps
  parts_services ps = flat_mapped (part_changed c) services_of_part services_of_part part_services ps

  -- ---- its own names

  fields_named : (fs : List Field) → map (λ f. f.name) (map (field_changed c) fs) ≡ map (λ f. f.name) fs
  fields_named fs = map_mapped (field_changed c) (λ (f : Field). f.name) (λ f. f.name) (λ f. refl) fs

  params_named : (ps : List Param) → map (λ p. p.name) (map (param_changed c) ps) ≡ map (λ p. p.name) ps
  params_named ps = map_mapped (param_changed c) (λ (p : Param). p.name) (λ p. p.name) (λ p. refl) ps

  member_declared : (m : Member) → declared_name (member_changed c m) ≡ declared_name m
  member_declared (attribute a) = refl
  member_declared (method m) = refl

  member_params : (m : Member) → params_differ (member_changed c m) ≡ params_differ m
  member_params (attribute a) = refl
  member_params (method m) = ap all_differ (params_named m.params)

  constructor_params : (k : Constructor) → given_differ (constructor_changed c k) ≡ given_differ k
  constructor_params k = ap (λ names. all_differ (names ++ at_most_one k.rest)) (fields_named k.params)

  part_named : (p : Part) → part_names (part_changed c p) ≡ part_names p
  part_named (face optional name) = refl
  part_named (subservice optional name) = refl
  part_named (property name flags k) = refl

  pub own_names_alike : (b : Body) → own_names_differ (body_changed c b) ≡ own_names_differ b
  own_names_alike (interface bases members) =
      ap₂ (λ names params. all_differ names && params) (map_mapped (member_changed c) declared_name declared_name member_declared members)
      (all_mapped (member_changed c) params_differ params_differ member_params members)
  own_names_alike (enum items) = ap all_differ (map_mapped (item_changed c) (λ (i : Item). i.name) (λ i. i.name) (λ i. refl) items)
  own_names_alike (constants cs) = ap all_differ (map_mapped (constant_changed c) (λ (k : Constant). k.name) (λ k. k.name) (λ k. refl) cs)
  own_names_alike (new_service base constructors) =
      ap₂ (λ names params. all_differ names && params)
      (map_mapped (constructor_changed c) (λ (k : Constructor). k.name) (λ k. k.name) (λ k. refl) constructors)
      (all_mapped (constructor_changed c) given_differ given_differ constructor_params constructors)
  own_names_alike (old_service parts) = ap all_differ (flat_mapped (part_changed c) part_names part_names part_named parts)
  own_names_alike _ = refl

  -- ---- how many there are

  complete_body : (name : List ℕ) (published : Bool) (b : Body)
      → is_complete (record { name = name; published = published; body = body_changed c b })
      ≡ is_complete (record { name = name; published = published; body = b })
  complete_body name published (enum items) = some_mapped (item_changed c) items
  complete_body name published (new_service base constructors) = some_mapped (constructor_changed c) constructors
  complete_body name published _ = refl

  pub complete_alike : (e : Entity) → is_complete (entity_changed c e) ≡ is_complete e
  complete_alike e = complete_body e.name e.published e.body

  member_counts : (m : Member) → param_counts_of (member_changed c m) ≡ param_counts_of m
  member_counts (attribute a) = refl
  member_counts (method m) = ap (λ n. n ∷ []) (length-map m.params (param_changed c))

  pub counts_changed : (b : Body) → param_counts (body_changed c b) ≡ param_counts b
  counts_changed (interface bases members) = flat_mapped (member_changed c) param_counts_of param_counts_of member_counts members
  counts_changed (new_service base constructors) =
      map_mapped (constructor_changed c) (λ (k : Constructor). length k.params + length (at_most_one k.rest))
      (λ k. length k.params + length (at_most_one k.rest))
      (λ k. ap (λ n. n + length (at_most_one k.rest)) (length-map k.params (field_changed c))) constructors
  counts_changed _ = refl

-- ---- what a reader keeps

method_alike : (m : Member) → member_goes_one_way (member_changed limited m) ≡ member_goes_one_way m
method_alike (attribute a) = refl
method_alike (method m) =
    ap₂ (λ void given. not m.oneway || (void && (given && not (is_some_list m.raises)))) (cut_alike is_void (λ k. refl) m.result_kind)
    (all_mapped (param_changed limited) (λ p. goes_in_alone p.way) (λ p. goes_in_alone p.way) (λ p. refl) m.params)

pub one_way_alike : (b : Body) → body_goes_one_way (body_changed limited b) ≡ body_goes_one_way b
one_way_alike (interface bases members) = all_mapped (member_changed limited) member_goes_one_way member_goes_one_way method_alike members
one_way_alike _ = refl

contained_changed : (fs : List Field) → contained (map (field_changed limited) fs) ≡ contained fs
contained_changed fs = flat_mapped (field_changed limited) (λ f. struct_in f.kind) (λ f. struct_in f.kind) (λ f. cut_alike struct_in (λ k. refl) f.kind) fs

pub led_to_changed : (b : Body) → led_to (body_changed limited b) ≡ led_to b
led_to_changed (struct base members) = ap (λ names. at_most_one base ++ names) (contained_changed members)
led_to_changed _ = refl
