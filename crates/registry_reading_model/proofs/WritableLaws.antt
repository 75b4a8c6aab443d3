-- An entity can be written where each of its parts can.
use Rattle.std.proofs.Common.{◌≡◌, ℕ, true, ◌&&◌, List, map, Option, refl}
use Rattle.std.specs.List.{list_all}
use Rattle.std.proofs.lemmas.Bool.{and_parts, and_from}
use Rattle.uno_model.specs.Entities.{Field, Body, interface, struct, exception, enum, constants, typedef, new_service, old_service, new_singleton}
use Rattle.uno_model.specs.Entities.{old_singleton, Entity}
use Rattle.uno_model.specs.Names.{is_identifier, is_entity_name}
use Rattle.uno_model.specs.Registry.{at_most_one}
use Rattle.registry_text_model.specs.Reading.{is_spelled, is_writable}
use Rattle.registry_reading_model.proofs.GoodParts.{is_good_field, is_good_member, is_good_constructor, is_good_body}
use Rattle.registry_reading_model.proofs.PartTests.{Tests, tests_of, of_tests, all_of_map, map_of_all, both_of_maps, maps_of_both, only, alone}
use Rattle.registry_reading_model.proofs.PartTests.{good_members, members_good}
use Rattle.registry_reading_model.proofs.ServiceTests.{good_constructors, constructors_good, good_parts, parts_good}

-- ---- bodies

good_of_tests : (body : Body) → Tests body → is_good_body body ≡ true
good_of_tests (interface bases members) t =
    and_from (list_all (λ b. is_entity_name b.name) bases) (list_all is_good_member members) (all_of_map is_entity_name (λ b. b.name) bases t.bases)
    (good_members bases members t)
good_of_tests (struct base members) t =
    and_from (list_all is_entity_name (at_most_one base)) (list_all is_good_field members) t.bases
    (both_of_maps (λ f. f.name) (λ f. f.kind) members t.inner t.values)
good_of_tests (exception base members) t =
    and_from (list_all is_entity_name (at_most_one base)) (list_all is_good_field members) t.bases
    (both_of_maps (λ f. f.name) (λ f. f.kind) members t.inner t.values)
good_of_tests (enum items) t = all_of_map is_identifier (λ i. i.name) items t.inner
good_of_tests (constants cs) t = both_of_maps (λ c. c.name) (λ c. c.kind) cs t.inner t.values
good_of_tests (typedef k) t = only (is_spelled k) t.targets
good_of_tests (new_service base constructors) t =
    and_from (is_entity_name base) (list_all is_good_constructor constructors) (only (is_entity_name base) t.interfaces)
    (good_constructors base constructors t)
good_of_tests (old_service parts) t = good_parts parts t
good_of_tests (new_singleton base) t = only (is_entity_name base) t.interfaces
good_of_tests (old_singleton service) t = only (is_entity_name service) t.services

fields_good : (base : Option (List ℕ)) (fs : List Field) → (list_all is_entity_name (at_most_one base) && list_all is_good_field fs) ≡ true
    → (list_all is_entity_name (at_most_one base) ≡ true) × (list_all is_identifier (map (λ f. f.name) fs) ≡ true)
    × (list_all is_spelled (map (λ f. f.kind) fs) ≡ true)
fields_good base fs good =
    let both = and_parts (list_all is_entity_name (at_most_one base)) (list_all is_good_field fs) good in
    let parts = maps_of_both (λ f. f.name) (λ f. f.kind) fs both.1 in
    (both.0, parts.0, parts.1)

tests_of_good : (body : Body) → is_good_body body ≡ true → Tests body
tests_of_good (interface bases members) good =
    let both = and_parts (list_all (λ b. is_entity_name b.name) bases) (list_all is_good_member members) good in
    members_good bases members (map_of_all is_entity_name (λ b. b.name) bases both.0) both.1
tests_of_good (struct base members) good =
    let parts = fields_good base members good in
    record {
      inner = parts.1;
      bases = parts.0;
      raised = refl;
      interfaces = refl;
      services = refl;
      values = parts.2;
      results = refl;
      targets =
          refl;
      void = refl;
    }
tests_of_good (exception base members) good =
    let parts = fields_good base members good in
    record {
      inner = parts.1;
      bases = parts.0;
      raised = refl;
      interfaces = refl;
      services = refl;
      values = parts.2;
      results = refl;
      targets =
          refl;
      void = refl;
    }
tests_of_good (enum items) good =
    record {
      inner = map_of_all is_identifier (λ i. i.name) items good;
      bases = refl;
      raised = refl;
      interfaces = refl;
      services = refl;
      values = refl;
      results = refl;
      targets = refl;
      void = refl;
    }
tests_of_good (constants cs) good =
    let parts = maps_of_both (λ c. c.name) (λ c. c.kind) cs good in
    record {
      inner = parts.0;
      bases = refl;
      raised = refl;
      interfaces = refl;
      services = refl;
      values = parts.1;
      results = refl;
      targets =
          refl;
      void = refl;
    }
tests_of_good (typedef k) good =
    record {
      inner = refl;
      bases = refl;
      raised = refl;
      interfaces = refl;
      services = refl;
      values = refl;
      results = refl;
      targets = alone
          (is_spelled k) good;
      void = refl;
    }
tests_of_good (new_service base constructors) good =
    let both = and_parts (is_entity_name base) (list_all is_good_constructor constructors) good in
    constructors_good base constructors both.0 both.1
tests_of_good (old_service parts) good = parts_good parts good
tests_of_good (new_singleton base) good =
    record {
      inner = refl;
      bases = refl;
      raised = refl;
      interfaces = alone (is_entity_name base) good;
      services = refl;
      values = refl;
      results =
          refl;
      targets = refl;
      void = refl;
    }
tests_of_good (old_singleton service) good =
    record {
      inner = refl;
      bases = refl;
      raised = refl;
      interfaces = refl;
      services = alone (is_entity_name service) good;
      values = refl;
      results =
          refl;
      targets = refl;
      void = refl;
    }

-- ---- entities

pub good_of_writable : (e : Entity) → is_writable e ≡ true → (is_entity_name e.name ≡ true) × (is_good_body e.body ≡ true)
good_of_writable e writable =
    let tests = tests_of e writable in
    (tests.0, good_of_tests e.body tests.1)

pub writable_of_good : (e : Entity) → is_entity_name e.name ≡ true → is_good_body e.body ≡ true → is_writable e ≡ true
writable_of_good e named good = of_tests e named (tests_of_good e.body good)
