-- A tree that writes a registry which keeps the rules has no fault of names, breaks no rule, and means that registry.
use Rattle.std.proofs.Common.{◌≡◌, true, false, not, List, [], ◌∷◌, ◌++◌, map, Ok, Contains, refl, sym, ap, ◌∙◌, subst}
use Rattle.std.specs.List.{list_all}
use Rattle.uno_model.specs.BuiltIn.{built_in, HasBuiltIn}
use Rattle.uno_model.specs.Entities.{Entity}
use Rattle.uno_model.specs.Registry.{IsRising}
use Rattle.uno_model.specs.Sound.{IsSound, bases_known, raises_known, services_known, types_known, is_complete}
use Rattle.uno_model.proofs.CircleLaws.{all_at}
use Rattle.registry_text_model.specs.ConstantValues.{constants_are_in_range, body_is_in_range}
use Rattle.registry_text_model.specs.EnumValues.{values_are_long, items_are_long}
use Rattle.registry_text_model.specs.Lines.{is_built_in_name, written}
use Rattle.registry_text_model.specs.Rules.{Rule, AllKeep, KeepsTheRules}
use Rattle.registry_text_model.specs.Rules as rule
use Rattle.registry_text_model.proofs.SoundLaws.{rules_make_sound}
use Rattle.idl_model.specs.Trees.{Tree}
use Rattle.idl_meaning_model.specs.Declarations.{Declared, declarations, entities_declared}
use Rattle.idl_meaning_model.specs.FromFiles.{AreOfFiles}
use Rattle.idl_meaning_model.specs.Meaning.{entity_meant, sorted, registry_of, meant}
use Rattle.idl_meaning_model.specs.NameFaults.{faults, names_told}
use Rattle.idl_meaning_model.proofs.EachLaws.{each_at}
use Rattle.idl_meaning_model.proofs.FaultLaws.{in_kept}
use Rattle.idl_rules_model.specs.CheckVerdicts.{broken, IsChecked}
use Rattle.idl_rules_model.specs.Unshown.{members_have_names, keeps_unshown, all_keep_unshown}
use Rattle.idl_rules_model.proofs.BrokenLaws.{broken_nowhere_where_kept}
use Rattle.canonical_laws.specs.Written.{Each, WritesRegistry}
use Rattle.canonical_laws.proofs.SortedRegistry.{written_own, sorted_is}
use Rattle.canonical_laws.proofs.WrittenNames.{WritesDeclared, written_declared, all_entities}
use Rattle.canonical_laws.proofs.WrittenBodies.{each_is, body_is}
use Rattle.canonical_laws.proofs.WrittenFaults.{NamesKnown, no_faults}
use Rattle.canonical_laws.proofs.WrittenUnshown.{have_names, unshown_kept}
use Rattle.canonical_laws.proofs.WrittenUses.{each_passes}

-- ---- what the rules say of an entity that is written

in_registry : (reg : List Entity) (e : Entity) → Contains (written reg) e → Contains reg e
in_registry reg e in' = (in_kept (λ x. not (is_built_in_name x.name)) reg e in').0

long_of : (e : Entity) → values_are_long e ≡ true → items_are_long e.body ≡ true
unfolding values_are_long
long_of e kept = kept

range_of : (e : Entity) → constants_are_in_range e ≡ true → body_is_in_range e.body ≡ true
unfolding constants_are_in_range
range_of e kept = kept

names_of : (reg : List Entity) → IsSound reg → (e : Entity) → Contains reg e → NamesKnown reg e
names_of reg sound e in' =
    record {
      bases = all_at (λ (x : Entity). bases_known reg x.body) reg e sound.bases in';
      raises = all_at (λ (x : Entity). raises_known reg x.body) reg e sound.raises in';
      services = all_at (λ (x : Entity). services_known reg x.body) reg e sound.services in';
      types = all_at (λ (x : Entity). types_known reg x.body) reg e sound.types in';
    }

module _ (ds : List Declared) (reg : List Entity) (keeps : KeepsTheRules reg) (has : HasBuiltIn reg) (rising : IsRising reg)
    (all : Each WritesDeclared ds (written reg)) where
  sound : IsSound reg
  sound = rules_make_sound reg keeps

  long : (e : Entity) → Contains (written reg) e → items_are_long e.body ≡ true
  long e in' = long_of e (keeps.each rule.values e (in_registry reg e in'))

  range : (e : Entity) → Contains (written reg) e → body_is_in_range e.body ≡ true
  range e in' = range_of e (keeps.each rule.constant_values e (in_registry reg e in'))

  -- ---- the registry meant

  entity_is : (d : Declared) (e : Entity) → Contains (written reg) e → WritesDeclared d e → entity_meant ds d ≡ e
  entity_is d e in' writes =
      let own : is_built_in_name e.name ≡ false = each_at (λ (x : Entity). is_built_in_name x.name ≡ false) (written reg) e (written_own reg) in' in
      let there = in_registry reg e in' in
      let body =
      body_is ds reg has all d e.name d.body e.body own writes.body (all_at (λ (x : Entity). types_known reg x.body) reg e sound.types there)
      (all_at is_complete reg e sound.complete there) (long e in') (range e in') in
      rw (body, writes.named, writes.published) refl

  registry_is : registry_of ds ≡ reg
  unfolding registry_of
  registry_is =
      ap (λ xs. sorted (built_in ++ map (entity_meant ds) xs)) (all_entities ds (written reg) all)
      ∙ ap (λ es. sorted (built_in ++ es)) (each_is WritesDeclared (entity_meant ds) ds (written reg) entity_is all) ∙ sorted_is reg has rising

  -- ---- what is not shown

  all_unshown : (r : Rule) → list_all (keeps_unshown r ds) (entities_declared ds) ≡ true
  all_unshown r =
      ap (list_all (keeps_unshown r ds)) (all_entities ds (written reg) all)
      ∙ each_passes WritesDeclared (keeps_unshown r ds) ds (written reg) (λ d e in' w. unshown_kept ds reg has all r d e w (long e in') (range e in')) all

  all_have_names : list_all (λ (d : Declared). members_have_names d.body) ds ≡ true
  all_have_names = each_passes WritesDeclared (λ (d : Declared). members_have_names d.body) ds (written reg) (λ d e in' w. have_names d.body e.body w.body) all

-- ---- the law

pub written_checks : (reg : List Entity) → KeepsTheRules reg → HasBuiltIn reg → IsRising reg → (t : Tree) → AreOfFiles (t ∷ []) → WritesRegistry t reg
    → (faults (t ∷ []) ≡ []) × IsChecked (t ∷ []) (Ok reg)
unfolding faults meant all_keep_unshown
written_checks reg keeps has rising t files writes =
    let trees = t ∷ [] in
    let ds = declarations trees in
    let all = written_declared t reg writes in
    let nothing : faults trees ≡ [] = no_faults ds reg has all rising (λ e in'. names_of reg (rules_make_sound reg keeps) e (in_registry reg e in')) in
    let is : meant trees ≡ reg = registry_is ds reg keeps has rising all in
    let kept : (r : Rule) → AllKeep (meant trees) r = λ r. subst (λ es. AllKeep es r) (sym is) (keeps.each r) in
    let none : (r : Rule) → broken r trees ≡ [] =
    λ r. broken_nowhere_where_kept trees (names_told trees) r files (nothing, refl) (λ types. all_have_names ds reg keeps has rising all) (kept r)
    (all_unshown ds reg keeps has rising all r) in
    (nothing, (none, sym is))
