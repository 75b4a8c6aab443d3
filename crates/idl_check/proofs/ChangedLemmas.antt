-- What is asked of entities with less kept of their types and numbers is what is asked of those that are meant.
use Rattle.std.proofs.Common.{◌≡◌, refl, sym, ap, ap₂, ◌∙◌, ℕ, suc, Bool, true, false, not, ◌&&◌, ◌||◌, List, [], ◌∷◌, ◌++◌, map, filter, Contains, if◌then◌else◌, arith}
use Rattle.std.specs.List.{flat_map}
use Rattle.std.specs.Option.{option_to_list}
use Rattle.std.specs.Ordering.{nat_cmp, is_lt}
use Rattle.std.specs.Cmp.Lexicographic.{slice_cmp}
use Rattle.idl_check.specs.Asked.{entities_kept, told_among, told_of}
use Rattle.idl_check.specs.Broken.{broken_told}
use Rattle.idl_entities.specs.Telling.{entity_told}
use Rattle.idl_joint_places.proofs.AlikeLaws.{circles_alike, past_alike}
use Rattle.idl_meaning_model.specs.Declarations.{Declared, entities_declared}
use Rattle.idl_meaning_model.specs.Meaning.{entity_meant, is_read_only, name_meant, path_meant, placed, registry_of, sorted}
use Rattle.idl_meaning_model.specs.Uses.{accessor_raises}
use Rattle.idl_model.specs.Places.{Place}
use Rattle.idl_model.specs.Trees.{Path, WrittenType, simple, named, sequence_of, Declaration}
use Rattle.idl_model.specs.Trees as tree
use Rattle.idl_rules_model.specs.Bases.{bases_in, two_ways, wrong_bases, wrong_bases_in}
use Rattle.idl_rules_model.specs.CheckVerdicts.{broken_among, broken_by}
use Rattle.idl_rules_model.specs.ConstantRanges.{wrong_constants}
use Rattle.idl_rules_model.specs.ItemValues.{wrong_items}
use Rattle.idl_rules_model.specs.OneWay.{giving_one_way}
use Rattle.idl_rules_model.specs.Raised.{attributes_in, raised_in, wrong_raises}
use Rattle.idl_rules_model.specs.Services.{face_in, subservice_in, wrong_parts, wrong_parts_in}
use Rattle.idl_rules_model.specs.Singletons.{wrong_targets, wrong_targets_in}
use Rattle.idl_rules_model.specs.TypePlaces.{Standing, Stands, at_unless, is_type_name, kind_may_stand, types_standing, value, wrong_in_type, wrong_rests, wrong_types}
use Rattle.idl_rules_model.specs.WherePaths.{failing, names, not_named}
use Rattle.idl_repeated_names.proofs.AlikeLaws.{repeated_alike}
use Rattle.registry_reading_model.specs.Changes.{entity_changed}
use Rattle.registry_reading_model.specs.Kept.{limited}
use Rattle.registry_reading_model.proofs.ChangedBodies.{SeesClass, exception_seen, interface_seen, service_seen, struct_seen, type_seen, typedef_seen}
use Rattle.registry_reading_model.proofs.ChangedRegistries.{all_changed, there_changed}
use Rattle.registry_reading_model.proofs.Lifted.{built_in_stays}
use Rattle.registry_text_model.specs.Rules.{Rule}
use Rattle.registry_text_model.specs.Rules as rule
use Rattle.uno_model.specs.BuiltIn.{built_in}
use Rattle.uno_model.specs.Entities.{Body, Entity}
use Rattle.uno_model.specs.Sound.{is_exception, is_interface, is_service, is_some_list, is_struct}

-- ---- lists

failing_alike : {X : Type 0} (f g : X → Bool) (place : X → Place) → ((x : X) → f x ≡ g x) → (xs : List X) → failing f place xs ≡ failing g place xs
failing_alike f g place same [] = refl
failing_alike f g place same (x ∷ xs) = by_test (f x) (g x) (same x) (failing_alike f g place same xs)
  where
    by_test : (b c : Bool) → b ≡ c → failing f place xs ≡ failing g place xs
        → map place (if not b then x ∷ filter (λ y. not (f y)) xs else filter (λ y. not (f y)) xs) ≡ map place (if not c then x ∷ filter (λ y. not (g y)) xs else filter (λ y. not (g y)) xs)
    by_test true true is rest = rest
    by_test true false is rest = let bad : ⊥ = cc in absurd bad
    by_test false true is rest = let bad : ⊥ = cc in absurd bad
    by_test false false is rest = ap (λ ps. place x ∷ ps) rest

flat_same : {X Y : Type 0} (f g : X → List Y) → ((x : X) → f x ≡ g x) → (xs : List X) → flat_map f xs ≡ flat_map g xs
flat_same f g same [] = refl
flat_same f g same (x ∷ xs) = ap₂ (λ a b. a ++ b) (same x) (flat_same f g same xs)

flat_of_map : {X Y Z : Type 0} (f : Y → List Z) (g : X → Y) (xs : List X) → flat_map f (map g xs) ≡ flat_map (λ x. f (g x)) xs
flat_of_map f g [] = refl
flat_of_map f g (x ∷ xs) = ap (λ k. f (g x) ++ k) (flat_of_map f g xs)

pub map_of_map : {X Y Z : Type 0} (f : Y → Z) (g : X → Y) (xs : List X) → map f (map g xs) ≡ map (λ x. f (g x)) xs
map_of_map f g [] = refl
map_of_map f g (x ∷ xs) = ap (λ k. f (g x) ∷ k) (map_of_map f g xs)

pub map_join : {X Y : Type 0} (f : X → Y) (xs ys : List X) → map f (xs ++ ys) ≡ map f xs ++ map f ys
map_join f [] ys = refl
map_join f (x ∷ xs) ys = ap (λ k. f x ∷ k) (map_join f xs ys)

-- ---- rules that ask which entities are there

module _ (ds : List Declared) (reg : List Entity) where
  abbrev kept : List Entity
  kept = all_changed limited reg

  not_named_same : (wanted : Body → Bool) → SeesClass limited wanted → (modules : List (List ℕ)) (paths : List Path) → not_named ds kept wanted modules paths ≡ not_named ds reg wanted modules paths
  not_named_same wanted sees modules paths =
      failing_alike (names ds kept wanted modules) (names ds reg wanted modules) (λ path. path.place) (λ path. there_changed limited wanted sees reg (name_meant ds modules path)) paths

  bases_same : (modules : List (List ℕ)) (body : Declaration) → wrong_bases_in ds kept modules body ≡ wrong_bases_in ds reg modules body
  bases_same modules (tree.interface base members) = ap (λ ps. ps ++ two_ways base members) (not_named_same is_interface (interface_seen limited) modules (option_to_list base ++ bases_in members))
  bases_same modules (tree.struct base members) = not_named_same is_struct (struct_seen limited) modules (option_to_list base)
  bases_same modules (tree.exception base members) = not_named_same is_exception (exception_seen limited) modules (option_to_list base)
  bases_same modules tree.forward = refl
  bases_same modules (tree.enum items) = refl
  bases_same modules (tree.constants cs) = refl
  bases_same modules (tree.typedef t) = refl
  bases_same modules (tree.new_service base constructors) = refl
  bases_same modules (tree.old_service members) = refl
  bases_same modules (tree.new_singleton base) = refl
  bases_same modules (tree.old_singleton service) = refl

  parts_same : (modules : List (List ℕ)) (body : Declaration) → wrong_parts_in ds kept modules body ≡ wrong_parts_in ds reg modules body
  parts_same modules (tree.new_service base constructors) = not_named_same is_interface (interface_seen limited) modules (base ∷ [])
  parts_same modules (tree.old_service members) =
      ap₂ (λ a b. a ++ b) (not_named_same is_interface (interface_seen limited) modules (flat_map face_in members)) (not_named_same is_service (service_seen limited) modules (flat_map subservice_in members))
  parts_same modules tree.forward = refl
  parts_same modules (tree.interface base members) = refl
  parts_same modules (tree.struct base members) = refl
  parts_same modules (tree.exception base members) = refl
  parts_same modules (tree.enum items) = refl
  parts_same modules (tree.constants cs) = refl
  parts_same modules (tree.typedef t) = refl
  parts_same modules (tree.new_singleton base) = refl
  parts_same modules (tree.old_singleton service) = refl

  targets_same : (modules : List (List ℕ)) (body : Declaration) → wrong_targets_in ds kept modules body ≡ wrong_targets_in ds reg modules body
  targets_same modules (tree.new_singleton base) = not_named_same is_interface (interface_seen limited) modules (base ∷ [])
  targets_same modules (tree.old_singleton service) = not_named_same is_service (service_seen limited) modules (service ∷ [])
  targets_same modules tree.forward = refl
  targets_same modules (tree.interface base members) = refl
  targets_same modules (tree.struct base members) = refl
  targets_same modules (tree.exception base members) = refl
  targets_same modules (tree.enum items) = refl
  targets_same modules (tree.constants cs) = refl
  targets_same modules (tree.typedef t) = refl
  targets_same modules (tree.new_service base constructors) = refl
  targets_same modules (tree.old_service members) = refl

  type_name_seen : SeesClass limited is_type_name
  type_name_seen b = ap₂ (λ x y. x || y) (type_seen limited b) (typedef_seen limited b)

  type_same : (modules : List (List ℕ)) (s : Standing) (t : WrittenType) → wrong_in_type ds kept modules s t ≡ wrong_in_type ds reg modules s t
  unfolding wrong_in_type
  type_same modules s (simple p t) = refl
  type_same modules s (named path ts) =
      ap (λ b. at_unless path.place (b && kind_may_stand s (path_meant ds modules path))) (there_changed limited is_type_name type_name_seen reg (name_meant ds modules path))
  type_same modules s (sequence_of p t) = type_same modules value t

  -- ---- each rule

  broken_same : (r : Rule) (d : Declared) → broken_by r ds kept d ≡ broken_by r ds reg d
  unfolding wrong_bases giving_one_way wrong_raises wrong_items wrong_constants wrong_parts wrong_targets wrong_types
  broken_same rule.bases d = bases_same d.modules d.body
  broken_same rule.circles d = circles_alike limited (λ k. refl) ds reg d
  broken_same rule.names d = repeated_alike limited ds reg d
  broken_same rule.one_way d = refl
  broken_same rule.raised d =
      ap (λ ps. ps ++ failing (λ a. not (is_read_only a) || not (is_some_list (accessor_raises a.set))) (λ a. a.name.place) (attributes_in d.body))
      (not_named_same is_exception (exception_seen limited) d.modules (raised_in d.body))
  broken_same rule.values d = refl
  broken_same rule.constant_values d = refl
  broken_same rule.services d = parts_same d.modules d.body
  broken_same rule.singletons d = targets_same d.modules d.body
  broken_same rule.types d =
      ap (λ ps. ps ++ wrong_rests ds d.modules d.body)
      (flat_same (λ (s : Stands). wrong_in_type ds kept d.modules s.standing s.type) (λ s. wrong_in_type ds reg d.modules s.standing s.type) (λ s. type_same d.modules s.standing s.type)
      (types_standing d.body))
  broken_same rule.whole d = past_alike ds limited reg d

-- ---- of all declarations

pub among_same : (r : Rule) (ds : List Declared) → flat_map (broken_by r ds (entities_kept ds)) (entities_declared ds) ≡ broken_among r ds
among_same r ds = flat_same (broken_by r ds (entities_kept ds)) (broken_by r ds (registry_of ds)) (broken_same ds (registry_of ds) r) (entities_declared ds)

pub told_same : (r : Rule) (ds : List Declared) → flat_map (broken_told r (entities_kept ds)) (told_of ds) ≡ broken_among r ds
told_same r ds = flat_of_map (broken_told r (entities_kept ds)) (told_among ds) (entities_declared ds) ∙ among_same r ds

-- ---- the registry

placed_changed : (e : Entity) (es : List Entity) → placed (entity_changed limited e) (all_changed limited es) ≡ all_changed limited (placed e es)
unfolding placed
placed_changed e [] = refl
placed_changed e (f ∷ fs) = by_order (is_lt (slice_cmp nat_cmp e.name f.name)) (placed_changed e fs)
  where
    by_order : (b : Bool) → placed (entity_changed limited e) (all_changed limited fs) ≡ all_changed limited (placed e fs)
        → (if b then entity_changed limited e ∷ (entity_changed limited f ∷ all_changed limited fs) else entity_changed limited f ∷ placed (entity_changed limited e) (all_changed limited fs))
        ≡ all_changed limited (if b then e ∷ (f ∷ fs) else f ∷ placed e fs)
    by_order true rest = refl
    by_order false rest = ap (λ k. entity_changed limited f ∷ k) rest

sorted_changed : (es : List Entity) → sorted (all_changed limited es) ≡ all_changed limited (sorted es)
unfolding sorted
sorted_changed [] = refl
sorted_changed (e ∷ es) = ap (placed (entity_changed limited e)) (sorted_changed es) ∙ placed_changed e (sorted es)

pub each_stays : (es : List Entity) → ((e : Entity) → Contains es e → entity_changed limited e ≡ e) → all_changed limited es ≡ es
each_stays [] stays = refl
each_stays (e ∷ es) stays = ap₂ (λ x xs. x ∷ xs) (stays e (0, omega arith, refl)) (each_stays es (λ x in'. stays x (suc in'.0, omega (arith, in'.1), in'.2)))

-- what is told of all declarations makes the registry that they mean, with less kept
pub registry_kept : (ds : List Declared) → sorted (built_in ++ map entity_told (told_of ds)) ≡ entities_kept ds
unfolding registry_of
registry_kept ds =
    let es = entities_declared ds in
    let told : map entity_told (told_of ds) ≡ all_changed limited (map (entity_meant ds) es) = map_of_map entity_told (told_among ds) es ∙ sym (map_of_map (entity_changed limited) (entity_meant ds) es) in
    ap₂ (λ a b. sorted (a ++ b)) (sym (each_stays built_in built_in_stays)) told
    ∙ ap sorted (sym (map_join (entity_changed limited) built_in (map (entity_meant ds) es))) ∙ sorted_changed (built_in ++ map (entity_meant ds) es)
