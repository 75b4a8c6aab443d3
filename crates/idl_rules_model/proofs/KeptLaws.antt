-- Files that break no rule mean a registry that keeps the rules.
use Rattle.std.proofs.Common.{◌≡◌, ℕ, Bool, true, false, not, ◌&&◌, List, [], ◌∷◌, ◌++◌, Some, Ok, refl, sym, subst}
use Rattle.std.proofs.lemmas.Bool.{and_parts}
use Rattle.std.specs.List.{AllByRecursion, list_all}
use Rattle.uno_model.specs.BuiltIn.{built_in, HasBuiltIn}
use Rattle.uno_model.specs.Circles.{Leads}
use Rattle.uno_model.specs.Entities.{Entity}
use Rattle.uno_model.specs.Names.{parts_of}
use Rattle.uno_model.specs.Registry.{IsRising}
use Rattle.uno_model.specs.Sound.{is_named}
use Rattle.uno_model.proofs.CircleLaws.{all_at, all_from}
use Rattle.registry_text_model.specs.BasesAreOfTheirKind.{bases_are_of_their_kind}
use Rattle.registry_text_model.specs.NoCircles.{leads_on_to}
use Rattle.registry_text_model.specs.Rules.{Rule, Keeps, AllKeep, KeepsTheRules}
use Rattle.registry_text_model.specs.Rules as rule
use Rattle.registry_text_model.specs.ServiceParts.{services_have_parts}
use Rattle.registry_text_model.specs.SingletonTargets.{singletons_have_targets}
use Rattle.registry_text_model.specs.WholeWithinLimits.{is_whole_within_limits}
use Rattle.registry_reading_model.proofs.BuiltInFacts.{root_there}
use Rattle.registry_reading_model.proofs.BuiltInKeep.{built_in_keeps}
use Rattle.idl_model.specs.Places.{Place}
use Rattle.idl_model.specs.Trees.{Tree}
use Rattle.idl_meaning_model.specs.Declarations.{Declared, declarations, entities_declared, full_name, is_forward, valued_in, all_valued}
use Rattle.idl_meaning_model.specs.FromFiles.{AreOfFiles, leaf_places, are_apart, has_identifiers}
use Rattle.idl_meaning_model.specs.Meaning.{entity_meant, registry_of, meant}
use Rattle.idl_meaning_model.specs.NameFaults.{unknown_uses, forward_alone, declared_twice, refused_types, faults, IsResolved}
use Rattle.idl_meaning_model.specs.Scopes.{declared_as}
use Rattle.idl_meaning_model.proofs.EachLaws.{append_none, each_both, each_filtered, each_weaker, at_each, none_of_each}
use Rattle.idl_meaning_model.proofs.RegistryLaws.{declared_each, each_of_registry, not_forward, registry_has_built_in, registry_rises}
use Rattle.idl_rules_model.specs.Bases.{wrong_bases}
use Rattle.idl_rules_model.specs.CheckVerdicts.{broken_by, broken, IsChecked}
use Rattle.idl_rules_model.specs.Circles.{entity_comes_back, value_comes_back, on_circles}
use Rattle.idl_rules_model.specs.Services.{wrong_parts}
use Rattle.idl_rules_model.specs.Singletons.{wrong_targets}
use Rattle.idl_rules_model.specs.WherePaths.{failing}
use Rattle.idl_rules_model.specs.Whole.{past_limits}
use Rattle.idl_rules_model.proofs.BaseLaws.{bases_kept}
use Rattle.idl_rules_model.proofs.CircleLaws.{on_no_circle}
use Rattle.idl_rules_model.proofs.FailingLaws.{all_pass}
use Rattle.idl_rules_model.proofs.NamedLaws.{entity_named}
use Rattle.idl_rules_model.proofs.NameLaws.{names_kept}
use Rattle.idl_rules_model.proofs.OneWayLaws.{one_way_kept}
use Rattle.idl_rules_model.proofs.RaisedLaws.{raised_kept}
use Rattle.idl_rules_model.proofs.ServiceLaws.{parts_kept, targets_kept}
use Rattle.idl_rules_model.proofs.TypeLaws.{types_kept}
use Rattle.idl_rules_model.proofs.ValueLaws.{items_kept, constants_kept}

-- ---- a declaration that breaks nothing, rule by rule

one_passes : (b : Bool) → (not b && true) ≡ true → b ≡ false
one_passes true is = sym is
one_passes false is = refl

never_brought_back : (ds : List Declared) (reg : List Entity) (d : Declared) → on_circles ds reg d ≡ [] → entity_comes_back reg (full_name d) ≡ false
unfolding on_circles
never_brought_back ds reg d nothing =
    let parts = append_none (failing (λ (e : Declared). not (entity_comes_back reg (full_name e))) (λ e. e.name.place) (d ∷ []))
    (failing (λ v. not (value_comes_back (all_valued ds) v)) (λ v. v.name.place) (valued_in d d.body)) nothing in
    one_passes (entity_comes_back reg (full_name d)) (all_pass (λ (e : Declared). not (entity_comes_back reg (full_name e))) (λ e. e.name.place) (d ∷ []) parts.0)

whole_kept : (ds : List Declared) (reg : List Entity) (d : Declared) → past_limits ds reg d ≡ [] → is_whole_within_limits reg (entity_meant ds d) ≡ true
unfolding past_limits
whole_kept ds reg d nothing =
    (and_parts (is_whole_within_limits reg (entity_meant ds d)) true (all_pass (λ (e : Declared). is_whole_within_limits reg (entity_meant ds e)) (λ e. e.name.place) (d ∷ []) nothing)).0

-- no declaration breaks a rule
abbrev pub NoneBreaks : List Declared → Rule → Type 0
NoneBreaks ds r = AllByRecursion (λ d. broken_by r ds (registry_of ds) d ≡ []) (entities_declared ds)

module _ (ds : List Declared) (apart : are_apart (leaf_places ds) ≡ true) (once : declared_twice ds ≡ []) where
  abbrev reg : List Entity
  reg = registry_of ds

  has : HasBuiltIn reg
  has = registry_has_built_in ds apart once

  -- no declared name is on a circle
  no_circle : NoneBreaks ds rule.circles → (name : List ℕ) (d : Declared) → declared_as ds name ≡ Some d → ¬ Leads (leads_on_to reg) name name
  no_circle round name d found =
      let both = declared_each (λ e. on_circles ds reg e ≡ []) ds name d round found in
      subst (λ n. ¬ Leads (leads_on_to reg) n n) (sym both.1) (on_no_circle reg (full_name d) (never_brought_back ds reg d both.0))

  keeps : (r : Rule) → (r ≡ rule.types → NoneBreaks ds rule.circles) → NoneBreaks ds r → (d : Declared) → is_forward d.body ≡ false → broken_by r ds reg d ≡ [] → Keeps reg r (entity_meant ds d)
  unfolding wrong_bases wrong_parts wrong_targets bases_are_of_their_kind services_have_parts singletons_have_targets
  keeps rule.bases round right d entity nothing = bases_kept ds reg d (root_there reg has) d.body nothing
  keeps rule.circles round right d entity nothing = on_no_circle reg (full_name d) (never_brought_back ds reg d nothing)
  keeps rule.names round right d entity nothing = names_kept ds apart once d entity nothing
  keeps rule.one_way round right d entity nothing = one_way_kept ds reg d nothing
  keeps rule.raised round right d entity nothing = raised_kept ds reg d nothing
  keeps rule.values round right d entity nothing = items_kept ds reg d nothing
  keeps rule.constant_values round right d entity nothing = constants_kept ds reg d nothing
  keeps rule.services round right d entity nothing = parts_kept ds reg d d.body nothing
  keeps rule.singletons round right d entity nothing = targets_kept ds reg d d.body nothing
  keeps rule.types round right d entity nothing = types_kept ds apart once (no_circle (round refl)) right d nothing
  keeps rule.whole round right d entity nothing = whole_kept ds reg d nothing

  pub all_keep : (r : Rule) → (r ≡ rule.types → NoneBreaks ds rule.circles) → NoneBreaks ds r → AllKeep reg r
  all_keep r round right e in' =
      each_of_registry (Keeps reg r) ds (λ b in''. built_in_keeps reg (registry_rises ds apart once) has b in'' r)
      (each_weaker (λ d. (is_forward d.body ≡ false) × (broken_by r ds reg d ≡ [])) (λ d. Keeps reg r (entity_meant ds d)) (entities_declared ds) (λ d both. keeps r round right d both.0 both.1)
      (each_both (λ d. is_forward d.body ≡ false) (λ d. broken_by r ds reg d ≡ []) (entities_declared ds) (not_forward ds) right)) e in'

  -- names are names where those that are declared are identifiers
  built_in_named : list_all is_named built_in ≡ true
  unfolding parts_of
  built_in_named = refl

  pub all_named : list_all has_identifiers ds ≡ true → list_all is_named reg ≡ true
  unfolding entities_declared
  all_named spelled =
      all_from is_named reg (λ e in'. each_of_registry (λ b. is_named b ≡ true) ds (λ b in''. all_at is_named built_in b built_in_named in'')
      (each_filtered (λ d. is_named (entity_meant ds d) ≡ true) (λ d. not (is_forward d.body)) ds
      (at_each (λ d. not (is_forward d.body) ≡ true → is_named (entity_meant ds d) ≡ true) ds (λ d in''. λ passes. entity_named ds d (all_at has_identifiers ds d spelled in'')))) e in')

-- ---- of files

pub once_declared : (trees : List Tree) → faults trees ≡ [] → declared_twice (declarations trees) ≡ []
unfolding faults
once_declared trees nothing =
    let ds = declarations trees in
    let first = append_none (unknown_uses ds) (forward_alone ds ++ (declared_twice ds ++ refused_types ds)) nothing in
    let second = append_none (forward_alone ds) (declared_twice ds ++ refused_types ds) first.1 in
    (append_none (declared_twice ds) (refused_types ds) second.1).0

pub what_breaks_none_keeps_all : (trees : List Tree) (names : List (Place × List ℕ)) (reg : List Entity) → AreOfFiles trees → IsResolved trees (Ok names) → IsChecked trees (Ok reg)
    → KeepsTheRules reg × HasBuiltIn reg × IsRising reg
unfolding meant broken
what_breaks_none_keeps_all trees names registry files resolved checked =
    let ds = declarations trees in
    let once = once_declared trees resolved.0 in
    let right : (r : Rule) → NoneBreaks ds r = λ r. none_of_each (broken_by r ds (registry_of ds)) (entities_declared ds) (checked.0 r) in
    subst (λ r. KeepsTheRules r × HasBuiltIn r × IsRising r) (sym checked.1)
    (record { named = all_named ds files.apart once files.identifiers; each = λ r. all_keep ds files.apart once r (λ e. right rule.circles) (right r) }, registry_has_built_in ds files.apart once, registry_rises ds files.apart once)
