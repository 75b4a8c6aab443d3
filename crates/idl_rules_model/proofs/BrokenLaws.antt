-- A rule is broken nowhere exactly where all entities meant keep it, and all declarations what entities do not show of it.
use Rattle.std.proofs.Common.{◌≡◌, ℕ, ℤ, zero, suc, Bool, true, false, not, ◌||◌, List, [], ◌∷◌, ◌++◌, map, None, Some, Option, is_some, Ok, refl, ap₂, subst, arith, if◌then◌else◌}
use Rattle.std.proofs.lemmas.Bool.{not_from_false, and_from}
use Rattle.std.proofs.lemmas.List.Elements.{Contains-append_right}
use Rattle.std.specs.List.{Contains, list_all, flat_map}
use Rattle.std.specs.Ordering.{nat_cmp, is_lt}
use Rattle.std.specs.Option.{option_to_list}
use Rattle.std.specs.Cmp.Lexicographic.{slice_cmp}
use Rattle.uno_model.specs.BuiltIn.{built_in}
use Rattle.uno_model.specs.Entities.{Entity}
use Rattle.uno_model.specs.Sound.{is_some_list}
use Rattle.uno_model.proofs.CircleLaws.{all_at, all_from}
use Rattle.registry_text_model.specs.BasesAreOfTheirKind.{bases_are_of_their_kind}
use Rattle.registry_text_model.specs.ConstantValues.{is_in_range}
use Rattle.registry_text_model.specs.EnumValues.{is_long}
use Rattle.registry_text_model.specs.Rules.{Rule, Keeps, AllKeep}
use Rattle.registry_text_model.specs.Rules as rule
use Rattle.registry_text_model.specs.ServiceParts.{services_have_parts}
use Rattle.registry_text_model.specs.SingletonTargets.{singletons_have_targets}
use Rattle.registry_text_model.specs.WholeWithinLimits.{is_whole_within_limits}
use Rattle.registry_reading_model.proofs.BuiltInFacts.{root_there}
use Rattle.idl_model.specs.Places.{Place}
use Rattle.idl_model.specs.Trees.{Path, InterfaceMember, Declaration, Tree}
use Rattle.idl_model.specs.Trees as tree
use Rattle.idl_meaning_model.specs.ConstantsMeant.{value_meant}
use Rattle.idl_meaning_model.specs.Declarations.{Declared, declarations, entities_declared, full_name, is_forward, valued_in, constant_valued, all_valued}
use Rattle.idl_meaning_model.specs.FromFiles.{AreOfFiles, leaf_places, are_apart}
use Rattle.idl_meaning_model.specs.Meaning.{type_meant, entity_meant, placed, sorted, registry_of, meant}
use Rattle.idl_meaning_model.specs.NameFaults.{declared_twice, IsResolved}
use Rattle.idl_meaning_model.proofs.EachLaws.{append_none, at_each, each_at, none_of_each, none_of_all}
use Rattle.idl_meaning_model.proofs.FaultLaws.{map_has, in_kept}
use Rattle.idl_meaning_model.proofs.RegistryLaws.{registry_has_built_in}
use Rattle.idl_rules_model.specs.Bases.{bases_in, two_ways, wrong_bases, wrong_bases_in}
use Rattle.idl_rules_model.specs.CheckVerdicts.{broken_by, broken}
use Rattle.idl_rules_model.specs.Circles.{entity_comes_back, value_comes_back, on_circles}
use Rattle.idl_rules_model.specs.ConstantRanges.{constants_in, wrong_constants}
use Rattle.idl_rules_model.specs.ItemValues.{passes, items_in, wrong_items}
use Rattle.idl_rules_model.specs.Services.{wrong_parts}
use Rattle.idl_rules_model.specs.Singletons.{wrong_targets}
use Rattle.idl_rules_model.specs.Unshown.{bases_stand_in_one_way, members_have_names, keeps_unshown, all_keep_unshown}
use Rattle.idl_rules_model.specs.WherePaths.{failing, not_named}
use Rattle.idl_rules_model.specs.Whole.{past_limits}
use Rattle.uno_model.specs.Sound.{is_interface}
use Rattle.idl_rules_model.proofs.BaseLaws.{StandOneWay, no_wrong_bases}
use Rattle.idl_rules_model.proofs.CircleLaws.{never_back}
use Rattle.idl_rules_model.proofs.FailingLaws.{all_pass, none_fail, all_weaker}
use Rattle.idl_rules_model.proofs.KeptLaws.{NoneBreaks, all_keep, once_declared}
use Rattle.idl_rules_model.proofs.NameLaws.{no_repeated_names}
use Rattle.idl_rules_model.proofs.OneWayLaws.{none_gives}
use Rattle.idl_rules_model.proofs.RaisedLaws.{none_raised}
use Rattle.idl_rules_model.proofs.ServiceLaws.{no_wrong_parts, no_wrong_targets}
use Rattle.idl_rules_model.proofs.TypeBackLaws.{unshown_types, no_wrong_types}
use Rattle.idl_rules_model.proofs.ValueLaws.{no_wrong_items, no_wrong_constants}

-- ---- the entity of a declaration is in the registry

placed_first : (e : Entity) (es : List Entity) → Contains (placed e es) e
unfolding placed
placed_first e [] = (0, omega arith, refl)
placed_first e (f ∷ fs) = by_order (is_lt (slice_cmp nat_cmp e.name f.name)) (placed_first e fs)
  where
    by_order : (b : Bool) → Contains (placed e fs) e → Contains (if b then e ∷ (f ∷ fs) else f ∷ placed e fs) e
    by_order true in' = (0, omega arith, refl)
    by_order false in' = (suc in'.0, omega (arith, in'.1), in'.2)

placed_others : (e x : Entity) (es : List Entity) → Contains es x → Contains (placed e es) x
unfolding placed
placed_others e x [] in' = let bad : ⊥ = omega (arith, in'.1) in absurd bad
placed_others e x (f ∷ fs) (zero, low, is) = by_order (is_lt (slice_cmp nat_cmp e.name f.name))
  where
    by_order : (b : Bool) → Contains (if b then e ∷ (f ∷ fs) else f ∷ placed e fs) x
    by_order true = (1, omega arith, is)
    by_order false = (0, omega arith, is)
placed_others e x (f ∷ fs) (suc k, low, is) = by_order (is_lt (slice_cmp nat_cmp e.name f.name)) (placed_others e x fs (k, omega arith, is))
  where
    by_order : (b : Bool) → Contains (placed e fs) x → Contains (if b then e ∷ (f ∷ fs) else f ∷ placed e fs) x
    by_order true in' = (suc (suc k), omega arith, is)
    by_order false in' = (suc in'.0, omega (arith, in'.1), in'.2)

sorted_has : (es : List Entity) (x : Entity) → Contains es x → Contains (sorted es) x
unfolding sorted
sorted_has [] x in' = in'
sorted_has (e ∷ es) x (zero, low, is) = subst (λ y. Contains (placed e (sorted es)) y) is (placed_first e (sorted es))
sorted_has (e ∷ es) x (suc k, low, is) = placed_others e x (sorted es) (sorted_has es x (k, omega arith, is))

in_registry : (ds : List Declared) (d : Declared) → Contains (entities_declared ds) d → Contains (registry_of ds) (entity_meant ds d)
unfolding registry_of
in_registry ds d in' =
    sorted_has (built_in ++ map (entity_meant ds) (entities_declared ds)) (entity_meant ds d)
    (Contains-append_right built_in (map (entity_meant ds) (entities_declared ds)) (entity_meant ds d) (map_has (entity_meant ds) (entities_declared ds) d in'))

-- ---- bases in one way

no_bases_twice : (base : Option Path) (members : List InterfaceMember) → two_ways base members ≡ [] → (not (is_some_list (bases_in members)) || not (is_some base)) ≡ true
unfolding two_ways
no_bases_twice base members none = by_test (is_some_list (bases_in members)) base none
  where
    by_test : (b : Bool) (o : Option Path) → (if b then map (λ (path : Path). path.place) (option_to_list o) else []) ≡ [] → (not b || not (is_some o)) ≡ true
    by_test true None none = refl
    by_test true (Some path) none = let bad : ⊥ = cc in absurd bad
    by_test false o none = refl

bases_once : (base : Option Path) (members : List InterfaceMember) → (not (is_some_list (bases_in members)) || not (is_some base)) ≡ true → two_ways base members ≡ []
unfolding two_ways
bases_once base members one = by_test (is_some_list (bases_in members)) base one
  where
    by_test : (b : Bool) (o : Option Path) → (not b || not (is_some o)) ≡ true → (if b then map (λ (path : Path). path.place) (option_to_list o) else []) ≡ []
    by_test true None one = refl
    by_test true (Some path) one = let bad : ⊥ = cc in absurd bad
    by_test false o one = refl

-- a value that passes is one
some_passes : (test : ℤ → Bool) (o : Option ℤ) → passes test o ≡ true → is_some o ≡ true
some_passes test None right = right
some_passes test (Some n) right = refl

module _ (ds : List Declared) (apart : are_apart (leaf_places ds) ≡ true) (once : declared_twice ds ≡ []) where
  abbrev reg : List Entity
  reg = registry_of ds

  one_way_from : (d : Declared) (body : Declaration) → wrong_bases_in ds reg d.modules body ≡ [] → bases_stand_in_one_way body ≡ true
  one_way_from d tree.forward none = refl
  one_way_from d (tree.interface base members) none =
      no_bases_twice base members (append_none (not_named ds reg is_interface d.modules (option_to_list base ++ bases_in members)) (two_ways base members) none).1
  one_way_from d (tree.struct base members) none = refl
  one_way_from d (tree.exception base members) none = refl
  one_way_from d (tree.enum items) none = refl
  one_way_from d (tree.constants cs) none = refl
  one_way_from d (tree.typedef t) none = refl
  one_way_from d (tree.new_service base constructors) none = refl
  one_way_from d (tree.old_service members) none = refl
  one_way_from d (tree.new_singleton base) none = refl
  one_way_from d (tree.old_singleton service) none = refl

  to_one_way : (d : Declared) (root : _) (body : Declaration) → bases_stand_in_one_way body ≡ true → StandOneWay ds reg d root body
  to_one_way d root tree.forward one = tt
  to_one_way d root (tree.interface base members) one = bases_once base members one
  to_one_way d root (tree.struct base members) one = tt
  to_one_way d root (tree.exception base members) one = tt
  to_one_way d root (tree.enum items) one = tt
  to_one_way d root (tree.constants cs) one = tt
  to_one_way d root (tree.typedef t) one = tt
  to_one_way d root (tree.new_service base constructors) one = tt
  to_one_way d root (tree.old_service members) one = tt
  to_one_way d root (tree.new_singleton base) one = tt
  to_one_way d root (tree.old_singleton service) one = tt

  -- ---- a declaration that breaks nothing keeps what its entity does not show

  unshown : (r : Rule) (d : Declared) → broken_by r ds reg d ≡ [] → keeps_unshown r ds d ≡ true
  unfolding wrong_bases on_circles wrong_items wrong_constants
  unshown rule.bases d none = one_way_from d d.body none
  unshown rule.circles d none =
      all_pass (λ v. not (value_comes_back (all_valued ds) v)) (λ v. v.name.place) (valued_in d d.body)
      (append_none (failing (λ (e : Declared). not (entity_comes_back reg (full_name e))) (λ e. e.name.place) (d ∷ []))
      (failing (λ v. not (value_comes_back (all_valued ds) v)) (λ v. v.name.place) (valued_in d d.body)) none).1
  unshown rule.names d none = refl
  unshown rule.one_way d none = refl
  unshown rule.raised d none = refl
  unshown rule.values d none =
      all_weaker (λ v. passes is_long (value_meant (all_valued ds) v)) (λ v. is_some (value_meant (all_valued ds) v)) (items_in d d.body)
      (λ v right. some_passes is_long (value_meant (all_valued ds) v) right)
      (all_pass (λ v. passes is_long (value_meant (all_valued ds) v)) (λ v. v.name.place) (items_in d d.body) none)
  unshown rule.constant_values d none =
      all_weaker (λ c. passes (is_in_range (type_meant ds d.modules c.type)) (value_meant (all_valued ds) (constant_valued d c)))
      (λ c. is_some (value_meant (all_valued ds) (constant_valued d c))) (constants_in d.body)
      (λ c right. some_passes (is_in_range (type_meant ds d.modules c.type)) (value_meant (all_valued ds) (constant_valued d c)) right)
      (all_pass (λ c. passes (is_in_range (type_meant ds d.modules c.type)) (value_meant (all_valued ds) (constant_valued d c))) (λ c. c.name.place) (constants_in d.body) none)
  unshown rule.services d none = refl
  unshown rule.singletons d none = refl
  unshown rule.types d none = unshown_types ds reg d none
  unshown rule.whole d none = refl

  -- ---- and one that keeps all breaks nothing

  nothing_broken : (r : Rule) (d : Declared) → (r ≡ rule.types → members_have_names d.body ≡ true) → Keeps reg r (entity_meant ds d) → keeps_unshown r ds d ≡ true → broken_by r ds reg d ≡ []
  unfolding wrong_bases wrong_parts wrong_targets on_circles past_limits bases_are_of_their_kind services_have_parts singletons_have_targets
  nothing_broken rule.bases d some kept unseen =
      let root = root_there reg (registry_has_built_in ds apart once) in
      no_wrong_bases ds reg d root d.body kept (to_one_way d root d.body unseen)
  nothing_broken rule.circles d some kept unseen =
      ap₂ (λ ps qs. ps ++ qs)
      (none_fail (λ (e : Declared). not (entity_comes_back reg (full_name e))) (λ e. e.name.place) (d ∷ [])
      (and_from (not (entity_comes_back reg (full_name d))) true (not_from_false (entity_comes_back reg (full_name d)) (never_back reg (full_name d) kept)) refl))
      (none_fail (λ v. not (value_comes_back (all_valued ds) v)) (λ v. v.name.place) (valued_in d d.body) unseen)
  nothing_broken rule.names d some kept unseen = no_repeated_names ds apart once d kept
  nothing_broken rule.one_way d some kept unseen = none_gives ds reg d kept
  nothing_broken rule.raised d some kept unseen = none_raised ds reg d kept
  nothing_broken rule.values d some kept unseen = no_wrong_items ds reg d kept unseen
  nothing_broken rule.constant_values d some kept unseen = no_wrong_constants ds reg d kept unseen
  nothing_broken rule.services d some kept unseen = no_wrong_parts ds reg d d.body kept
  nothing_broken rule.singletons d some kept unseen = no_wrong_targets ds reg d d.body kept
  nothing_broken rule.types d some kept unseen = no_wrong_types ds apart once d (some refl) unseen kept
  nothing_broken rule.whole d some kept unseen =
      none_fail (λ (e : Declared). is_whole_within_limits reg (entity_meant ds e)) (λ e. e.name.place) (d ∷ []) (and_from (is_whole_within_limits reg (entity_meant ds d)) true kept refl)

  -- ---- of all declarations

  abbrev AllUnshown : Rule → Type 0
  AllUnshown r = list_all (keeps_unshown r ds) (entities_declared ds) ≡ true

  pub kept_where_none_breaks : (r : Rule) → (r ≡ rule.types → NoneBreaks ds rule.circles) → NoneBreaks ds r → AllKeep reg r × AllUnshown r
  kept_where_none_breaks r round right = (
    all_keep ds apart once r round right,
    all_from (keeps_unshown r ds) (entities_declared ds) (λ d in'. unshown r d (each_at (λ e. broken_by r ds reg e ≡ []) (entities_declared ds) d right in')),
  )

  one_has_names : (d : Declared) → list_all (λ (e : Declared). members_have_names e.body) ds ≡ true → Contains (entities_declared ds) d → members_have_names d.body ≡ true
  unfolding entities_declared
  one_has_names d all in' = all_at (λ (e : Declared). members_have_names e.body) ds d all (in_kept (λ (e : Declared). not (is_forward e.body)) ds d in').0

  pub none_breaks_where_kept : (r : Rule) → (r ≡ rule.types → list_all (λ (d : Declared). members_have_names d.body) ds ≡ true) → AllKeep reg r → AllUnshown r
      → flat_map (broken_by r ds reg) (entities_declared ds) ≡ []
  none_breaks_where_kept r some kept unseen =
      none_of_all (broken_by r ds reg) (entities_declared ds)
      (at_each (λ d. broken_by r ds reg d ≡ []) (entities_declared ds) (λ d in'.
      nothing_broken r d (λ is. one_has_names d (some is) in') (kept (entity_meant ds d) (in_registry ds d in'))
      (all_at (keeps_unshown r ds) (entities_declared ds) d unseen in')))

-- ---- of files

abbrev MembersHaveNames : List Tree → Type 0
MembersHaveNames trees = list_all (λ (d : Declared). members_have_names d.body) (declarations trees) ≡ true

pub kept_where_broken_nowhere : (trees : List Tree) (names : List (Place × List ℕ)) (r : Rule) → AreOfFiles trees → IsResolved trees (Ok names) → (r ≡ rule.types → broken rule.circles trees ≡ [])
    → broken r trees ≡ [] → AllKeep (meant trees) r × (all_keep_unshown r trees ≡ true)
unfolding meant broken all_keep_unshown
kept_where_broken_nowhere trees names r files resolved round nowhere =
    let ds = declarations trees in
    kept_where_none_breaks ds files.apart (once_declared trees resolved.0) r (λ is. none_of_each (broken_by rule.circles ds (registry_of ds)) (entities_declared ds) (round is))
    (none_of_each (broken_by r ds (registry_of ds)) (entities_declared ds) nowhere)

pub broken_nowhere_where_kept : (trees : List Tree) (names : List (Place × List ℕ)) (r : Rule) → AreOfFiles trees → IsResolved trees (Ok names) → (r ≡ rule.types → MembersHaveNames trees)
    → AllKeep (meant trees) r → all_keep_unshown r trees ≡ true → broken r trees ≡ []
unfolding meant broken all_keep_unshown
broken_nowhere_where_kept trees names r files resolved some kept unseen =
    none_breaks_where_kept (declarations trees) files.apart (once_declared trees resolved.0) r some kept unseen
