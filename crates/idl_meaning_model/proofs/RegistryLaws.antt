-- The registry that declarations mean: what its entities are, what is found in it, that it has the built-in ones, and that its names rise.
use Rattle.std.proofs.Common.{◌≡◌, ℕ, Bool, true, false, not, ◌&&◌, List, [], ◌∷◌, ◌++◌, map, None, Some, Option, is_some, refl, sym, ap, subst, ◌∙◌, arith, if◌then◌else◌}
use Rattle.std.specs.List.{AllByRecursion, Contains, filter, find}
use Rattle.std.specs.Option.{option_map, option_or}
use Rattle.std.specs.Str.{bytes_eq}
use Rattle.std.proofs.lemmas.Bool.{and_parts}
use Rattle.std.proofs.lemmas.Slice.Eq.{bytes_eq-Decides}
use Rattle.uno_model.proofs.Options.{same_some}
use Rattle.uno_model.specs.BuiltIn.{built_in, HasBuiltIn}
use Rattle.uno_model.specs.Entities.{Entity}
use Rattle.uno_model.specs.Registry.{IsRising, find_entity}
use Rattle.idl_meaning_model.specs.Declarations.{Declared, entities_declared, full_name, is_forward}
use Rattle.idl_meaning_model.specs.FromFiles.{leaf_places, are_apart}
use Rattle.idl_meaning_model.specs.Meaning.{entity_meant, registry_of}
use Rattle.idl_meaning_model.specs.NameFaults.{declared_twice}
use Rattle.idl_meaning_model.specs.Scopes.{declared_as, is_built_in}
use Rattle.idl_meaning_model.proofs.ApartLaws.{Once, all_once, all_apart}
use Rattle.idl_meaning_model.proofs.EachLaws.{AllPairsOf, each_append, each_mapped, each_at, at_each, each_kept, each_filtered, each_weaker}
use Rattle.idl_meaning_model.proofs.SortedLaws.{each_sorted, found_sorted, found_append, sorted_rising}

-- what holds of the built-in entities and of each that is declared holds of all
pub each_of_registry : (P : Entity → Type 0) (ds : List Declared) → ((e : Entity) → Contains built_in e → P e) → AllByRecursion (λ d. P (entity_meant ds d)) (entities_declared ds)
    → (e : Entity) → Contains (registry_of ds) e → P e
unfolding registry_of
each_of_registry P ds built declared e in' =
    each_at P (registry_of ds) e (each_sorted P (built_in ++ map (entity_meant ds) (entities_declared ds))
    (each_append P built_in (map (entity_meant ds) (entities_declared ds)) (at_each P built_in built) (each_mapped P (entity_meant ds) (entities_declared ds) declared))) in'

-- the first declaration of a name is the one whose entity is found
found_declared : (ds : List Declared) (name : List ℕ) (xs : List Declared)
    → find_entity name (map (entity_meant ds) (filter (λ d. not (is_forward d.body)) xs)) ≡ option_map (entity_meant ds) (find (λ d. not (is_forward d.body) && bytes_eq name (full_name d)) xs)
unfolding find_entity
found_declared ds name [] = refl
found_declared ds name (d ∷ xs) = by_tests (not (is_forward d.body)) (bytes_eq name (full_name d)) (found_declared ds name xs)
  where
    by_tests : (b c : Bool)
        → find_entity name (map (entity_meant ds) (filter (λ x. not (is_forward x.body)) xs)) ≡ option_map (entity_meant ds) (find (λ x. not (is_forward x.body) && bytes_eq name (full_name x)) xs)
        → find_entity name (map (entity_meant ds) (if b then d ∷ filter (λ x. not (is_forward x.body)) xs else filter (λ x. not (is_forward x.body)) xs))
        ≡ option_map (entity_meant ds) (if b && bytes_eq name (full_name d) then Some d else find (λ x. not (is_forward x.body) && bytes_eq name (full_name x)) xs)
    by_tests true c rest = by_name (bytes_eq name (full_name d)) rest
      where
        by_name : (b : Bool)
            → find_entity name (map (entity_meant ds) (filter (λ x. not (is_forward x.body)) xs)) ≡ option_map (entity_meant ds) (find (λ x. not (is_forward x.body) && bytes_eq name (full_name x)) xs)
            → (if b then Some (entity_meant ds d) else find_entity name (map (entity_meant ds) (filter (λ x. not (is_forward x.body)) xs)))
            ≡ option_map (entity_meant ds) (if b then Some d else find (λ x. not (is_forward x.body) && bytes_eq name (full_name x)) xs)
        by_name true rest = refl
        by_name false rest = rest
    by_tests false c rest = rest

-- what is found is one of the list, and passes
pub found_each : {X : Type 0} (Q : X → Type 0) (test : X → Bool) (xs : List X) (x : X) → AllByRecursion Q xs → find test xs ≡ Some x → Q x × (test x ≡ true)
found_each Q test [] x all found = let bad : ⊥ = cc in absurd bad
found_each {X = X} Q test (y ∷ ys) x all found = by_test (test y) refl found (found_each Q test ys x all.1)
  where
    by_test : (b : Bool) → test y ≡ b → (if b then Some y else find test ys) ≡ Some x → (find test ys ≡ Some x → Q x × (test x ≡ true)) → Q x × (test x ≡ true)
    by_test true is found rest = let same : y ≡ x = same_some found in (subst Q same all.0, subst (λ z. test z ≡ true) same is)
    by_test false is found rest = rest found

-- the declaration of an entity is no forward one
no_true : (b : Bool) → not b ≡ true → b ≡ false
no_true true is = let bad : ⊥ = cc in absurd bad
no_true false is = refl

each_entity : (xs : List Declared) → AllByRecursion (λ d. not (is_forward d.body) ≡ true → is_forward d.body ≡ false) xs
each_entity [] = tt
each_entity (x ∷ xs) = (no_true (is_forward x.body), each_entity xs)

pub not_forward : (ds : List Declared) → AllByRecursion (λ d. is_forward d.body ≡ false) (entities_declared ds)
unfolding entities_declared
not_forward ds = each_filtered (λ d. is_forward d.body ≡ false) (λ d. not (is_forward d.body)) ds (each_entity ds)

-- what holds of each declaration of an entity holds of the one that is found, and its name is that
pub declared_each : (P : Declared → Type 0) (ds : List Declared) (name : List ℕ) (d : Declared) → AllByRecursion P (entities_declared ds) → declared_as ds name ≡ Some d
    → P d × (name ≡ full_name d)
unfolding declared_as entities_declared
declared_each P ds name d all found =
    let both = found_each (λ x. not (is_forward x.body) ≡ true → P x) (λ x. not (is_forward x.body) && bytes_eq name (full_name x)) ds d
    (each_kept P (λ x. not (is_forward x.body)) ds all) found in
    let parts = and_parts (not (is_forward d.body)) (bytes_eq name (full_name d)) both.1 in
    (both.0 parts.0, (bytes_eq-Decides name (full_name d)).0 parts.1)

module _ (ds : List Declared) (apart : are_apart (leaf_places ds) ≡ true) (none : declared_twice ds ≡ []) where
  -- the entity of a name is the built-in one, or that of its declaration
  pub found_in_registry : (name : List ℕ) → find_entity name (registry_of ds) ≡ option_or (find_entity name built_in) (option_map (entity_meant ds) (declared_as ds name))
  unfolding registry_of declared_as entities_declared
  found_in_registry name =
      found_sorted name (built_in ++ map (entity_meant ds) (entities_declared ds)) (all_apart ds apart none)
      ∙ found_append name built_in (map (entity_meant ds) (entities_declared ds))
      ∙ ap (option_or (find_entity name built_in)) (found_declared ds name ds)

  built_in_found : AllByRecursion (λ x. option_or (find_entity x.name built_in) (option_map (entity_meant ds) (declared_as ds x.name)) ≡ Some x) built_in
  unfolding find_entity
  built_in_found = (refl, (refl, (refl, (refl, (refl, tt)))))

  pub registry_has_built_in : HasBuiltIn (registry_of ds)
  registry_has_built_in =
      record { found = λ e in'. found_in_registry e.name ∙ each_at (λ x. option_or (find_entity x.name built_in) (option_map (entity_meant ds) (declared_as ds x.name)) ≡ Some x) built_in e built_in_found in' }

  pub registry_rises : IsRising (registry_of ds)
  unfolding registry_of
  registry_rises = sorted_rising (built_in ++ map (entity_meant ds) (entities_declared ds)) (all_apart ds apart none)

  -- a declaration's entity is the one of its name
  pub found_of_declared : (name : List ℕ) (d : Declared) → declared_as ds name ≡ Some d → find_entity name (registry_of ds) ≡ Some (entity_meant ds d)
  unfolding is_built_in
  found_of_declared name d found =
      let both = declared_each (λ x. is_built_in (full_name x) ≡ false) ds name d
      (each_weaker (Once ds) (λ x. is_built_in (full_name x) ≡ false) (entities_declared ds) (λ x o. o.0) (all_once ds none)) found in
      found_in_registry name ∙ declared_alone (find_entity name built_in) (declared_as ds name) (ap (λ n. is_some (find_entity n built_in)) both.1 ∙ both.0) found
    where
      declared_alone : (o : Option Entity) (p : Option Declared) → is_some o ≡ false → p ≡ Some d → option_or o (option_map (entity_meant ds) p) ≡ Some (entity_meant ds d)
      declared_alone None p none is = ap (option_map (entity_meant ds)) is
      declared_alone (Some e) p none is = let bad : ⊥ = cc in absurd bad

  -- where there is none, it is the built-in one, or none
  pub found_of_others : (name : List ℕ) → declared_as ds name ≡ None → find_entity name (registry_of ds) ≡ find_entity name built_in
  found_of_others name absent = found_in_registry name ∙ ap (λ p. option_or (find_entity name built_in) (option_map (entity_meant ds) p)) absent ∙ or_none (find_entity name built_in)
    where
      or_none : (o : Option Entity) → option_or o None ≡ o
      or_none None = refl
      or_none (Some e) = refl
