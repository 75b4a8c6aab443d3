-- From the least places of rules, one after the other, to what files are refused for, or to their registry.
use Rattle.std.proofs.Common.{◌≡◌, ◌≢◌, refl, sym, ap, subst, ◌∙◌, ℕ, suc, ◌+◌, ◌<◌, Bool, true, false, ◌&&◌, ◌||◌, not, List, [], ◌∷◌, ◌++◌, map, Option, None, Some, option_map, Contains, inl, inr, if◌then◌else◌, Result, Ok, Err, IsErr, arith}
use Rattle.std.proofs.lemmas.Bool.{and_parts, cases_lt}
use Rattle.std.proofs.lemmas.List.Elements.{Contains-append_right}
use Rattle.std.specs.List.{flat_map, list_all, position, position_from}
use Rattle.std.proofs.lemmas.Iterator.Adapters.{position_from-zero}
use Rattle.std.specs.Prelude.{IfErr, is_some}
use Rattle.std.specs.Result.{IsErrAnd}
use Rattle.idl_check.specs.Asked.{AreResolvedAmong, IsAsked, IsJudged, IsKeptAmong, IsRefusedFor, NoneBelow, entities_kept, told_among, told_of}
use Rattle.idl_check.specs.Broken.{broken_told}
use Rattle.idl_joint_places.specs.Circles.{FindsLeast}
use Rattle.idl_check.specs.declared.error.CheckError.{CheckError}
use Rattle.idl_check.specs.declared.error.CheckError.TheVariants as error
use Rattle.idl_check.proofs.ChangedLemmas.{among_same, each_stays, map_join, map_of_map, registry_kept, told_same}
use Rattle.idl_check.proofs.RegistryLemmas.{found_of, name_of, names_of_pairs, registry_made}
use Rattle.idl_entities.specs.Telling.{Telling, entity_told}
use Rattle.idl_joint_places.specs.There.{AreKept}
use Rattle.idl_meaning_model.specs.Declarations.{Declared, entities_declared, full_name}
use Rattle.idl_meaning_model.specs.Meaning.{entity_meant, registry_of, sorted}
use Rattle.idl_meaning_model.proofs.ApartLaws.{all_apart}
use Rattle.idl_meaning_model.proofs.EachLaws.{none_of_each}
use Rattle.idl_meaning_model.proofs.FaultLaws.{in_map, map_has}
use Rattle.idl_meaning_model.proofs.SortedLaws.{found_sorted}
use Rattle.idl_rules_model.specs.CheckVerdicts.{broken_among, broken_by}
use Rattle.idl_rules_model.specs.Unshown.{keeps_unshown}
use Rattle.idl_rules_model.proofs.BrokenLaws.{none_breaks_where_kept}
use Rattle.idl_rules_model.proofs.KeptLaws.{all_keep}
use Rattle.idl_trees.specs.declared.place.Place as code
use Rattle.registry_reading_model.specs.Changes.{entity_changed}
use Rattle.registry_reading_model.specs.Kept.{limited}
use Rattle.registry_reading_model.proofs.ChangedRegistries.{find_changed}
use Rattle.registry_reading_model.proofs.CutLaws.{cut_namable}
use Rattle.registry_reading_model.proofs.LimitedKeeps.{limited_keeps}
use Rattle.registry_reading_model.proofs.RuleOrder.{all_names, same_number}
use Rattle.registry_reading_model.proofs.RulePlaces.{position_mapped}
use Rattle.registry_reading_model.proofs.SameWithin.{same_within}
use Rattle.registry_text_model.specs.BasesAreOfTheirKind.{bases_are_of_their_kind}
use Rattle.registry_text_model.specs.NamesDiffer.{names_differ}
use Rattle.registry_text_model.specs.Rules.{AllKeep, Keeps, Rule, number_of}
use Rattle.registry_text_model.specs.Rules as rule
use Rattle.registry_text_model.specs.WholeWithinLimits.{has_few_functions, is_whole_within_limits}
use Rattle.registry_text_model.proofs.SoundLaws.{no_circle}
use Rattle.uno_entities.specs.Entities.{entities_of, entity_of}
use Rattle.uno_entities.specs.declared.entity.Entity as code_entity
use Rattle.uno_model.specs.Circles.{HasNoCircle}
use Rattle.uno_model.specs.BuiltIn.{built_in}
use Rattle.uno_model.specs.Entities.{Entity}
use Rattle.uno_model.specs.Registry.{IsRising, find_entity, leads_to}
use Rattle.uno_model.specs.Sound.{all_differ, few_modules, has_member, is_complete, is_namable, is_within_limits, short_name, is_type_body, few_params}
use Rattle.uno_model.specs.Uses.{kinds_in, param_counts}
use Rattle.uno_model.proofs.CircleLaws.{all_from}

-- ---- one rule more

pub none_below_first : (ds : List Declared) → NoneBelow 1 ds
none_below_first ds rule.bases low = absurd (omega (arith, low))
none_below_first ds rule.circles low = absurd (omega (arith, low))
none_below_first ds rule.names low = absurd (omega (arith, low))
none_below_first ds rule.one_way low = absurd (omega (arith, low))
none_below_first ds rule.raised low = absurd (omega (arith, low))
none_below_first ds rule.values low = absurd (omega (arith, low))
none_below_first ds rule.constant_values low = absurd (omega (arith, low))
none_below_first ds rule.services low = absurd (omega (arith, low))
none_below_first ds rule.singletons low = absurd (omega (arith, low))
none_below_first ds rule.types low = absurd (omega (arith, low))
none_below_first ds rule.whole low = absurd (omega (arith, low))

one_more_below : (r : Rule) (n : ℕ) (ds : List Declared) → number_of r ≡ n → NoneBelow n ds → broken_among r ds ≡ [] → NoneBelow (suc n) ds
one_more_below r n ds is below none s low = elim (cases_lt (number_of s) n) [
  | inl lesser ↦ below s lesser
  | inr same ↦ subst (λ k. broken_among k ds ≡ []) (sym (same_number s r (omega (arith, low, same, is)))) none
]

-- ---- what a rule's least place says

pub judged_none : (r : Rule) (n : ℕ) (ds : List Declared) → number_of r ≡ n → NoneBelow n ds → FindsLeast (broken_among r ds) None → IsJudged n ds (Ok tt)
judged_none r n ds is below finds = (one_more_below r n ds is below finds, tt)

pub judged_some : (r : Rule) (n : ℕ) (ds : List Declared) (place : code.Place) → number_of r ≡ n → NoneBelow n ds → FindsLeast (broken_among r ds) (Some place)
    → IsJudged n ds (Err (error.Rule n place))
judged_some r n ds place is below finds = (tt, record { rule = r; numbered = is; least = finds; lesser = below })

pub no_memory_judged : (n : ℕ) (ds : List Declared) (r : Result (Unit {0}) CheckError) → IsErr r × IsErrAnd r (λ e. e ≡ error.NoMemory) → IsJudged n ds r
no_memory_judged n ds (Ok u) is = let bad : ⊥ = cc in absurd bad
no_memory_judged n ds (Err e) is = (tt, subst (IsRefusedFor ds) (sym is.1) tt)

-- what a rule before was refused for
pub judged_err : (n m : ℕ) (ds : List Declared) (r : Result (Unit {0}) CheckError) (e : CheckError) → IsErr r × IsErrAnd r (λ f. f ≡ e) → IsJudged n ds (Err e) → IsJudged m ds r
judged_err n m ds (Ok u) e is judged = let bad : ⊥ = cc in absurd bad
judged_err n m ds (Err f) e is judged = (tt, subst (IsRefusedFor ds) (sym is.1) judged.1)

pub refused_err : {X : Type 0} (n : ℕ) (ds : List Declared) (r : Result X CheckError) (e : CheckError) → IsErr r × IsErrAnd r (λ f. f ≡ e) → IsJudged n ds (Err e) → IfErr r (IsRefusedFor ds)
refused_err n ds (Ok x) e is judged = tt
refused_err n ds (Err f) e is judged = subst (IsRefusedFor ds) (sym is.1) judged.1

-- of a rule that is asked of each declaration alone, and of one that is asked of all
pub found_each : (r : Rule) (ds : List Declared) (ts : List Telling) (reg : List Entity) (found : Option code.Place) → IsAsked ds ts reg
    → FindsLeast (flat_map (broken_told r reg) ts) found → FindsLeast (broken_among r ds) found
found_each r ds ts reg found asked finds =
    subst (λ ps. FindsLeast ps found) (ap (λ es. flat_map (broken_told r es) ts) asked.registry ∙ ap (flat_map (broken_told r (entities_kept ds))) asked.told ∙ told_same r ds) finds

pub found_among : (r : Rule) (ds : List Declared) (ts : List Telling) (reg : List Entity) (found : Option code.Place) → IsAsked ds ts reg
    → FindsLeast (flat_map (broken_by r ds reg) (entities_declared ds)) found → FindsLeast (broken_among r ds) found
found_among r ds ts reg found asked finds =
    subst (λ ps. FindsLeast ps found) (ap (λ es. flat_map (broken_by r ds es) (entities_declared ds)) asked.registry ∙ among_same r ds) finds

-- ---- what follows for the entities

namable_of : (reg : List Entity) (e : Entity) → is_whole_within_limits reg e ≡ true → list_all is_namable (kinds_in e.body) ≡ true
unfolding is_whole_within_limits
namable_of reg e whole =
    let parts = and_parts (is_complete e && has_member reg e) (is_within_limits e && has_few_functions reg e) whole in
    let limits = (and_parts (is_within_limits e) (has_few_functions reg e) parts.1).0 in
    let kinds = (and_parts (few_modules e.name && (not (is_type_body e.body) || short_name e.name)) (list_all is_namable (kinds_in e.body) && list_all few_params (param_counts e.body)) limits).1 in
    (and_parts (list_all is_namable (kinds_in e.body)) (list_all few_params (param_counts e.body)) kinds).0

module _ (ds : List Declared) (resolved : AreResolvedAmong ds) where
  kept : (n : ℕ) → NoneBelow n ds → (r : Rule) → number_of r < n → AllKeep (registry_of ds) r
  kept n below r low =
      all_keep ds resolved.apart resolved.once r
      (λ is. none_of_each (broken_by rule.circles ds (registry_of ds)) (entities_declared ds) (below rule.circles (omega (arith, low, ap number_of is))))
      (none_of_each (broken_by r ds (registry_of ds)) (entities_declared ds) (below r low))

  still_kept : (n : ℕ) → NoneBelow n ds → (r : Rule) → number_of r < n → r ≢ rule.values → AllKeep (entities_kept ds) r
  still_kept n below r low other e in' =
      let from = in_map (entity_changed limited) (registry_of ds) e in' in
      subst (Keeps (entities_kept ds) r) from.2 ((limited_keeps (registry_of ds) r from.0 other).1 (kept n below r low from.0 from.1))

  -- where neither of the first two rules is broken
  pub no_circle_kept : (n : ℕ) → NoneBelow n ds → 2 < n → HasNoCircle (leads_to (entities_kept ds))
  no_circle_kept n below low = no_circle (entities_kept ds) (still_kept n below rule.circles low (λ is. absurd (omega (arith, ap number_of is))))

  pub kinds_kept : (n : ℕ) → NoneBelow n ds → 1 < n → AllKeep (entities_kept ds) rule.bases
  kinds_kept n below low = still_kept n below rule.bases low (λ is. absurd (omega (arith, ap number_of is)))

  -- where none is broken, nothing is beyond the limits, and all is kept
  pub all_is_kept : NoneBelow 12 ds → entities_kept ds ≡ registry_of ds
  all_is_kept below =
      each_stays (registry_of ds)
      (λ e in'. same_within e (namable_of (registry_of ds) e (kept 12 below rule.whole (omega arith) e in')) (kept 12 below rule.constant_values (omega arith) e in') (kept 12 below rule.values (omega arith) e in'))

below_twelve : (r : Rule) → number_of r < 12
below_twelve rule.bases = omega arith
below_twelve rule.circles = omega arith
below_twelve rule.names = omega arith
below_twelve rule.one_way = omega arith
below_twelve rule.raised = omega arith
below_twelve rule.values = omega arith
below_twelve rule.constant_values = omega arith
below_twelve rule.services = omega arith
below_twelve rule.singletons = omega arith
below_twelve rule.types = omega arith
below_twelve rule.whole = omega arith

pub all_below : (ds : List Declared) → NoneBelow 12 ds → (r : Rule) → broken_among r ds ≡ []
all_below ds below r = below r (below_twelve r)

-- each declared entity is there, as it is kept
pub are_kept : (ds : List Declared) → AreResolvedAmong ds → AreKept ds (entities_kept ds)
unfolding registry_of
are_kept ds resolved =
    record {
      kept = limited;
      limits = cut_namable;
      there = λ d in'.
          let all = built_in ++ map (entity_meant ds) (entities_declared ds) in
          let pairs = all_apart ds resolved.apart resolved.once in
          find_changed limited (full_name d) (registry_of ds)
          ∙ ap (option_map (entity_changed limited))
          (found_sorted (full_name d) all pairs
          ∙ found_of all (entity_meant ds d) pairs (Contains-append_right built_in (map (entity_meant ds) (entities_declared ds)) (entity_meant ds d) (map_has (entity_meant ds) (entities_declared ds) d in')));
    }

-- the entities that are told have names that differ
pub told_differ : (ds : List Declared) → AreResolvedAmong ds → all_differ (map name_of (built_in ++ map entity_told (told_of ds))) ≡ true
told_differ ds resolved =
    ap all_differ
    (map_join name_of built_in (map entity_told (told_of ds))
    ∙ ap (λ ns. map name_of built_in ++ ns) (map_of_map name_of entity_told (told_of ds) ∙ map_of_map (λ t. name_of (entity_told t)) (told_among ds) (entities_declared ds) ∙ sym (map_of_map name_of (entity_meant ds) (entities_declared ds)))
    ∙ sym (map_join name_of built_in (map (entity_meant ds) (entities_declared ds))))
    ∙ names_of_pairs (built_in ++ map (entity_meant ds) (entities_declared ds)) (all_apart ds resolved.apart resolved.once)

pub registry_asked : (ds : List Declared) (ts : List Telling) (es reg : List Entity) → AreResolvedAmong ds → ts ≡ told_of ds → es ≡ reg → IsRising reg
    → ((name : List ℕ) → find_entity name reg ≡ find_entity name (built_in ++ map entity_told ts)) → IsAsked ds ts es
registry_asked ds ts es reg resolved told are rising found =
    record {
      resolved = resolved;
      told = told;
      registry =
          are
          ∙ registry_made (map entity_told ts) reg (subst (λ us. all_differ (map name_of (built_in ++ map entity_told us)) ≡ true) (sym told) (told_differ ds resolved)) rising found
          ∙ ap (λ us. sorted (built_in ++ map entity_told us)) told ∙ registry_kept ds;
    }

-- no place is found where all pass
pub none_at : (test : Entity → Bool) (es : List code_entity.Entity) → ((e : Entity) → Contains (entities_of es) e → test e ≡ true) → position (λ e. not (test (entity_of e))) es ≡ None
none_at test es all = position_from-zero (λ e. not (test (entity_of e))) es ∙ from 0 es all
  where
    from : (n : ℕ) (fs : List code_entity.Entity) → ((e : Entity) → Contains (entities_of fs) e → test e ≡ true) → position_from (λ e. not (test (entity_of e))) n fs ≡ None
    from n [] each = refl
    from n (f ∷ fs) each =
        ap (λ (b : Bool). if not b then Some n else position_from (λ e. not (test (entity_of e))) (n + 1) fs) (each (entity_of f) (0, omega arith, refl))
        ∙ from (n + 1) fs (λ x in'. each x (suc in'.0, omega (arith, in'.1), in'.2))

-- ---- what the rules ask of the entities

pub asked_no_circle : (n : ℕ) (ds : List Declared) (ts : List Telling) (reg : List Entity) → IsAsked ds ts reg → NoneBelow n ds → 2 < n → HasNoCircle (leads_to reg)
asked_no_circle n ds ts reg asked below low = subst (λ es. HasNoCircle (leads_to es)) (sym asked.registry) (no_circle_kept ds asked.resolved n below low)

pub asked_kept : (ds : List Declared) (ts : List Telling) (reg : List Entity) → IsAsked ds ts reg → AreKept ds reg
asked_kept ds ts reg asked = subst (AreKept ds) (sym asked.registry) (are_kept ds asked.resolved)

pub asked_kinds : (n : ℕ) (ds : List Declared) (ts : List Telling) (es : List code_entity.Entity) → IsAsked ds ts (entities_of es) → NoneBelow n ds → 1 < n
    → position (λ e. not (bases_are_of_their_kind (entities_of es) (entity_of e))) es ≡ None
asked_kinds n ds ts es asked below low =
    none_at (bases_are_of_their_kind (entities_of es)) es
    (subst (λ reg. (e : Entity) → Contains reg e → bases_are_of_their_kind reg e ≡ true) (sym asked.registry) (kinds_kept ds asked.resolved n below low))

pub asked_all : (ds : List Declared) (ts : List Telling) (reg : List Entity) → IsAsked ds ts reg → NoneBelow 12 ds → IsKeptAmong ds reg
asked_all ds ts reg asked below = (all_below ds below, asked.registry ∙ all_is_kept ds asked.resolved below)

-- where no entity has two of one name, no declaration has
all_names_kept : (ds : List Declared) → AllKeep (entities_kept ds) rule.names → AllKeep (registry_of ds) rule.names
all_names_kept ds kept e in' =
    (limited_keeps (registry_of ds) rule.names e (λ is. absurd (omega (arith, ap number_of is)))).0 (kept (entity_changed limited e) (map_has (entity_changed limited) (registry_of ds) e in'))

pub no_twins : (ds : List Declared) (ts : List Telling) (es : List code_entity.Entity) → IsAsked ds ts (entities_of es) → (found : Option ℕ) (gone : Bool)
    → found ≡ position (λ e. not (names_differ (entities_of es) (entity_of e))) es → is_some found ≡ not gone → gone ≡ true → broken_among rule.names ds ≡ []
no_twins ds ts es asked (Some i) true at is holds = let bad : ⊥ = cc in absurd bad
no_twins ds ts es asked (Some i) false at is holds = let bad : ⊥ = cc in absurd bad
no_twins ds ts es asked None gone at is holds =
    let all : AllKeep (entities_of es) rule.names = all_names (entities_of es) (sym (position_mapped entity_of (λ e. not (names_differ (entities_of es) e)) es) ∙ sym at) in
    none_breaks_where_kept ds asked.resolved.apart asked.resolved.once rule.names (λ is. absurd (omega (arith, ap number_of is)))
    (all_names_kept ds (subst (λ reg. AllKeep reg rule.names) asked.registry all))
    (all_from (keeps_unshown rule.names ds) (entities_declared ds) (λ d in'. refl))
