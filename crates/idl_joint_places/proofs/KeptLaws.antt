-- Entities that are kept within the same limits as they are meant are whole where they are meant so.
use Rattle.std.proofs.Common.{◌≡◌, refl, ap, ap₂, ◌∙◌, Bool, true, false, not, ◌&&◌, ◌||◌, List, [], ◌∷◌, ◌++◌, map, if◌then◌else◌}
use Rattle.std.specs.List.{AllByRecursion, filter, flat_map, list_all}
use Rattle.uno_model.specs.Entities.{Entity}
use Rattle.uno_model.specs.Kinds.{Kind}
use Rattle.uno_model.specs.Registry.{all_members, find_entity}
use Rattle.uno_model.specs.Sound.{few_modules, few_params, is_namable, is_some_list, short_name}
use Rattle.registry_text_model.specs.WholeWithinLimits.{has_few_functions, is_whole_within_limits}
use Rattle.registry_reading_model.specs.Changes.{Change, entity_changed}
use Rattle.registry_reading_model.proofs.ChangedBodies.{complete_alike, counts_changed, exception_seen, struct_seen, type_seen}
use Rattle.registry_reading_model.proofs.ChangedKinds.{all_kinds_changed}
use Rattle.registry_reading_model.proofs.Mapped.{all_mapped}
use Rattle.uno_model.specs.Uses.{kinds_in}
use Rattle.idl_meaning_model.specs.Declarations.{Declared, entities_declared, full_name, is_forward}
use Rattle.idl_meaning_model.specs.Meaning.{entity_meant}
use Rattle.idl_meaning_model.proofs.EachLaws.{at_each, each_kept}
use Rattle.idl_rules_model.specs.TypePlaces.{at_unless}
use Rattle.idl_rules_model.specs.Whole.{past_limits}
use Rattle.idl_joint_places.specs.There.{AreKept, failing_there, passes}

-- in one registry an entity is whole exactly where it is as it is kept
whole_alike : (c : Change) (reg : List Entity) (e : Entity) → ((k : Kind) → is_namable (c.kind k) ≡ is_namable k)
    → is_whole_within_limits reg (entity_changed c e) ≡ is_whole_within_limits reg e
unfolding is_whole_within_limits
whole_alike c reg e limits =
    let carries = ap₂ (λ a b. a || b) (struct_seen c e.body) (exception_seen c e.body) in
    let kinds = ap (list_all is_namable) (all_kinds_changed c e.body) ∙ all_mapped c.kind is_namable is_namable limits (kinds_in e.body) in
    ap₂ (λ a b. a && b) (ap₂ (λ a b. a && b) (complete_alike c e) (ap (λ b. not b || is_some_list (all_members reg e.name)) carries))
    (ap (λ a. a && has_few_functions reg e)
    (ap₂ (λ a b. a && b) (ap (λ b. few_modules e.name && (not b || short_name e.name)) (type_seen c e.body)) (ap₂ (λ a b. a && b) kinds (ap (list_all few_params) (counts_changed c e.body)))))

-- the entity of a declaration is there, and whole where it is meant so
abbrev IsThere : List Declared → List Entity → Declared → Type 0
IsThere ds reg d = (not (is_forward d.body) ≡ true) → passes (is_whole_within_limits reg) (find_entity (full_name d) reg) ≡ is_whole_within_limits reg (entity_meant ds d)

each_there : (ds : List Declared) (reg : List Entity) → AreKept ds reg → AllByRecursion (IsThere ds reg) ds
unfolding entities_declared
each_there ds reg are =
    each_kept (λ d. passes (is_whole_within_limits reg) (find_entity (full_name d) reg) ≡ is_whole_within_limits reg (entity_meant ds d)) (λ d. not (is_forward d.body)) ds
    (at_each (λ d. passes (is_whole_within_limits reg) (find_entity (full_name d) reg) ≡ is_whole_within_limits reg (entity_meant ds d)) (filter (λ d. not (is_forward d.body)) ds)
    (λ d has. ap (passes (is_whole_within_limits reg)) (are.there d has) ∙ whole_alike are.kept reg (entity_meant ds d) are.limits))

one_past : (ds : List Declared) (reg : List Entity) (d : Declared) (b : Bool) → b ≡ is_whole_within_limits reg (entity_meant ds d) → at_unless d.name.place b ≡ past_limits ds reg d
unfolding past_limits
one_past ds reg d b is = by_test (is_whole_within_limits reg (entity_meant ds d)) refl
  where
    by_test : (t : Bool) → is_whole_within_limits reg (entity_meant ds d) ≡ t → at_unless d.name.place b ≡ map (λ e. e.name.place) (if not t then d ∷ [] else [])
    by_test true whole = ap (at_unless d.name.place) (is ∙ whole)
    by_test false beyond = ap (at_unless d.name.place) (is ∙ beyond)

among : (ds : List Declared) (reg : List Entity) (es : List Declared) → AllByRecursion (IsThere ds reg) es
    → flat_map (failing_there (is_whole_within_limits reg) reg) es ≡ flat_map (past_limits ds reg) (entities_declared es)
unfolding entities_declared failing_there
among ds reg [] each = refl
among ds reg (e ∷ es) each = by_kind (is_forward e.body) refl (among ds reg es each.1)
  where
    by_kind : (b : Bool) → is_forward e.body ≡ b → flat_map (failing_there (is_whole_within_limits reg) reg) es ≡ flat_map (past_limits ds reg) (entities_declared es)
        → (if b then [] else at_unless e.name.place (passes (is_whole_within_limits reg) (find_entity (full_name e) reg))) ++ flat_map (failing_there (is_whole_within_limits reg) reg) es
        ≡ flat_map (past_limits ds reg) (if not b then e ∷ filter (λ d. not (is_forward d.body)) es else filter (λ d. not (is_forward d.body)) es)
    by_kind true is rest = rest
    by_kind false is rest = ap₂ (λ xs ys. xs ++ ys) (one_past ds reg e (passes (is_whole_within_limits reg) (find_entity (full_name e) reg)) (each.0 (ap not is))) rest

pub past_among : (ds : List Declared) (reg : List Entity) → AreKept ds reg
    → flat_map (failing_there (is_whole_within_limits reg) reg) ds ≡ flat_map (past_limits ds reg) (entities_declared ds)
past_among ds reg are = among ds reg ds (each_there ds reg are)
