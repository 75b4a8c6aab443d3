-- What a service says, test by test, passes where each of its constructors or parts can be written.
use Rattle.std.proofs.Common.{◌≡◌, ℕ, Bool, true, ◌&&◌, List, ◌∷◌, map, refl}
use Rattle.std.specs.List.{list_all}
use Rattle.std.proofs.lemmas.Bool.{and_parts, and_from}
use Rattle.uno_model.proofs.AllLaws.{all_both, each_of_both, all_append, of_append, all_flat, of_flat}
use Rattle.uno_model.specs.Entities.{Constructor, Part, face, subservice, property, new_service, old_service}
use Rattle.uno_model.specs.Names.{is_identifier, is_entity_name}
use Rattle.uno_model.specs.Registry.{at_most_one}
use Rattle.uno_model.specs.Uses.{constructor_names, part_names, interfaces_of_part, services_of_part, property_kinds}
use Rattle.registry_text_model.specs.Reading.{is_spelled}
use Rattle.registry_reading_model.proofs.GoodParts.{is_good_constructor, is_good_part, tests_of_constructor, good_constructor}
use Rattle.registry_reading_model.proofs.PartTests.{Tests, both_of_maps, maps_of_both, all_more, only, alone}

-- ---- constructors

abbrev uses_pass : Constructor → Bool
uses_pass k = list_all is_identifier (constructor_names k) && list_all is_entity_name k.raises

abbrev params_pass : Constructor → Bool
params_pass k = list_all is_spelled (map (λ p. p.kind) k.params)

constructor_of_tests : (k : Constructor) → (uses_pass k && params_pass k) ≡ true → is_good_constructor k ≡ true
constructor_of_tests k passes =
    let both = and_parts (uses_pass k) (params_pass k) passes in
    let front = and_parts (list_all is_identifier (constructor_names k)) (list_all is_entity_name k.raises) both.0 in
    let names = of_append is_identifier (k.name ∷ map (λ p. p.name) k.params) (at_most_one k.rest) front.0 in
    let own = and_parts (is_identifier k.name) (list_all is_identifier (map (λ p. p.name) k.params)) names.0 in
    let params = both_of_maps (λ p. p.name) (λ p. p.kind) k.params own.1 both.1 in
    good_constructor k (record { named = own.0; good_params = params; rest_named = names.1; raised = front.1 })

tests_of_good_constructor : (k : Constructor) → is_good_constructor k ≡ true → (uses_pass k && params_pass k) ≡ true
tests_of_good_constructor k good =
    let t = tests_of_constructor k good in
    let params = maps_of_both (λ p. p.name) (λ p. p.kind) k.params t.good_params in
    let own = and_from (is_identifier k.name) (list_all is_identifier (map (λ p. p.name) k.params)) t.named params.0 in
    let names = all_append is_identifier (k.name ∷ map (λ p. p.name) k.params) (at_most_one k.rest) own t.rest_named in
    and_from (uses_pass k) (params_pass k) (and_from (list_all is_identifier (constructor_names k))
    (list_all is_entity_name k.raises) names t.raised) params.1

pub good_constructors : (base : List ℕ) (ks : List Constructor) → Tests (new_service base ks) → list_all is_good_constructor ks ≡ true
good_constructors base ks t =
    let inner = of_flat is_identifier constructor_names ks t.inner in
    let raised = of_flat is_entity_name (λ k. k.raises) ks t.raised in
    let values = of_flat is_spelled (λ k. map (λ p. p.kind) k.params) ks t.values in
    let uses = all_both (λ k. list_all is_identifier (constructor_names k)) (λ k. list_all is_entity_name k.raises) ks inner raised in
    all_more (λ k. uses_pass k && params_pass k) is_good_constructor constructor_of_tests ks (all_both uses_pass params_pass ks uses values)

pub constructors_good : (base : List ℕ) (ks : List Constructor) → is_entity_name base ≡ true → list_all is_good_constructor ks ≡ true
    → Tests (new_service base ks)
constructors_good base ks named good =
    let tests = all_more is_good_constructor (λ k. uses_pass k && params_pass k) tests_of_good_constructor ks good in
    let all = each_of_both uses_pass params_pass ks tests in
    let uses = each_of_both (λ k. list_all is_identifier (constructor_names k)) (λ k. list_all is_entity_name k.raises) ks all.0 in
    record {
      inner = all_flat is_identifier constructor_names ks uses.0;
      bases = refl;
      raised = all_flat is_entity_name (λ k. k.raises) ks uses.1;
      interfaces = alone (is_entity_name base) named;
      services = refl;
      values = all_flat is_spelled (λ k. map (λ p. p.kind) k.params) ks all.1;
      results = refl;
      targets = refl;
      void = refl;
    }

-- ---- parts of old services

abbrev part_names_pass : Part → Bool
part_names_pass p = list_all is_identifier (part_names p) && list_all is_spelled (property_kinds p)

abbrev part_uses_pass : Part → Bool
part_uses_pass p = list_all is_entity_name (interfaces_of_part p) && list_all is_entity_name (services_of_part p)

good_part : (p : Part) → (part_names_pass p && part_uses_pass p) ≡ true → is_good_part p ≡ true
good_part (face optional name) passes = only (is_entity_name name) (only (is_entity_name name && true) passes)
good_part (subservice optional name) passes = only (is_entity_name name) passes
good_part (property name flags k) passes =
    let both = and_parts (is_identifier name && true) (is_spelled k && true)
    (and_parts ((is_identifier name && true) && (is_spelled k && true)) true passes).0 in
    and_from (is_identifier name) (is_spelled k) (only (is_identifier name) both.0) (only (is_spelled k) both.1)

part_good : (p : Part) → is_good_part p ≡ true → (part_names_pass p && part_uses_pass p) ≡ true
part_good (face optional name) good = alone (is_entity_name name && true) (alone (is_entity_name name) good)
part_good (subservice optional name) good = alone (is_entity_name name) good
part_good (property name flags k) good =
    let both = and_parts (is_identifier name) (is_spelled k) good in
    alone ((is_identifier name && true) && (is_spelled k && true))
    (and_from (is_identifier name && true) (is_spelled k && true) (alone (is_identifier name) both.0) (alone (is_spelled k) both.1))

pub good_parts : (ps : List Part) → Tests (old_service ps) → list_all is_good_part ps ≡ true
good_parts ps t =
    let names = of_flat is_identifier part_names ps t.inner in
    let kinds = of_flat is_spelled property_kinds ps t.values in
    let faces = of_flat is_entity_name interfaces_of_part ps t.interfaces in
    let services = of_flat is_entity_name services_of_part ps t.services in
    let first = all_both (λ p. list_all is_identifier (part_names p)) (λ p. list_all is_spelled (property_kinds p)) ps names kinds in
    let second = all_both (λ p. list_all is_entity_name (interfaces_of_part p))
    (λ p. list_all is_entity_name (services_of_part p)) ps faces services in
    all_more (λ p. part_names_pass p && part_uses_pass p) is_good_part good_part ps (all_both part_names_pass part_uses_pass ps first second)

pub parts_good : (ps : List Part) → list_all is_good_part ps ≡ true → Tests (old_service ps)
parts_good ps good =
    let all = each_of_both part_names_pass part_uses_pass ps (all_more is_good_part (λ p. part_names_pass p && part_uses_pass p) part_good ps good) in
    let first = each_of_both (λ p. list_all is_identifier (part_names p)) (λ p. list_all is_spelled (property_kinds p)) ps all.0 in
    let second = each_of_both (λ p. list_all is_entity_name (interfaces_of_part p)) (λ p. list_all is_entity_name (services_of_part p)) ps all.1 in
    record {
      inner = all_flat is_identifier part_names ps first.0;
      bases = refl;
      raised = refl;
      interfaces = all_flat is_entity_name interfaces_of_part ps second.0;
      services = all_flat is_entity_name services_of_part ps second.1;
      values = all_flat is_spelled property_kinds ps first.1;
      results = refl;
      targets = refl;
      void = refl;
    }
