-- The fifth rule is kept by the entities meant exactly where no place breaks it.
use Rattle.std.proofs.Common.{◌≡◌, ℕ, Bool, true, not, ◌&&◌, ◌||◌, List, [], ◌∷◌, ◌++◌, map, refl, sym, ap₂, ◌∙◌}
use Rattle.std.proofs.lemmas.Bool.{and_parts, and_from}
use Rattle.std.proofs.lemmas.List.Folds.{list_all-map}
use Rattle.std.specs.List.{list_all, filter_map, flat_map}
use Rattle.uno_model.specs.Entities.{Entity}
use Rattle.uno_model.specs.Sound.{is_there, is_exception, is_some_list, raises_known}
use Rattle.uno_model.specs.Uses.{raised_names}
use Rattle.uno_model.specs.Uses as uses
use Rattle.registry_text_model.specs.RaisedExceptions.{setter_raises_rightly, setters_raise_rightly, raises_exceptions}
use Rattle.idl_model.specs.Trees.{Path, InterfaceMember, Attribute, Constructor, Declaration}
use Rattle.idl_model.specs.Trees as tree
use Rattle.idl_meaning_model.specs.Declarations.{Declared}
use Rattle.idl_meaning_model.specs.Meaning.{name_meant, is_read_only, member_meant, constructor_meant, with_create, body_meant, entity_meant}
use Rattle.idl_meaning_model.specs.Uses.{accessor_raises}
use Rattle.idl_meaning_model.proofs.EachLaws.{append_none}
use Rattle.idl_rules_model.specs.Raised.{raised_by, raised_in, attribute_in, attributes_in, wrong_raises}
use Rattle.idl_rules_model.specs.WherePaths.{names, not_named, failing}
use Rattle.idl_rules_model.proofs.FailingLaws.{all_pass, none_fail, joined}

module _ (ds : List Declared) (reg : List Entity) (modules : List (List ℕ)) where
  abbrev is_raisable : List ℕ → Bool
  is_raisable name = is_there reg is_exception name

  abbrev names_exception : Path → Bool
  names_exception path = names ds reg is_exception modules path

  paths_known : (paths : List Path) → list_all is_raisable (map (name_meant ds modules) paths) ≡ list_all names_exception paths
  paths_known paths = list_all-map is_raisable (name_meant ds modules) paths

  members_raise : (members : List InterfaceMember) → list_all is_raisable (flat_map uses.raised_by (filter_map (member_meant ds modules) members)) ≡ list_all names_exception (flat_map raised_by members)
  members_raise [] = refl
  members_raise (tree.base_member optional path ∷ ms) = members_raise ms
  members_raise (tree.attribute a ∷ ms) =
      let get = map (name_meant ds modules) (accessor_raises a.get) in
      let set = map (name_meant ds modules) (accessor_raises a.set) in
      joined is_raisable names_exception (get ++ set) (flat_map uses.raised_by (filter_map (member_meant ds modules) ms)) (accessor_raises a.get ++ accessor_raises a.set) (flat_map raised_by ms)
      (joined is_raisable names_exception get set (accessor_raises a.get) (accessor_raises a.set) (paths_known (accessor_raises a.get)) (paths_known (accessor_raises a.set))) (members_raise ms)
  members_raise (tree.method m ∷ ms) =
      joined is_raisable names_exception (map (name_meant ds modules) m.raises) (flat_map uses.raised_by (filter_map (member_meant ds modules) ms)) m.raises (flat_map raised_by ms) (paths_known m.raises) (members_raise ms)

  each_raises : (cs : List Constructor) → list_all is_raisable (flat_map (λ c. c.raises) (map (constructor_meant ds modules) cs)) ≡ list_all names_exception (flat_map (λ c. c.raises) cs)
  each_raises [] = refl
  each_raises (c ∷ cs) =
      joined is_raisable names_exception (map (name_meant ds modules) c.raises) (flat_map (λ k. k.raises) (map (constructor_meant ds modules) cs)) c.raises (flat_map (λ k. k.raises) cs) (paths_known c.raises) (each_raises cs)

  constructors_raise : (cs : List Constructor) → list_all is_raisable (flat_map (λ c. c.raises) (with_create (map (constructor_meant ds modules) cs))) ≡ list_all names_exception (flat_map (λ c. c.raises) cs)
  unfolding with_create
  constructors_raise [] = refl
  constructors_raise (c ∷ cs) = each_raises (c ∷ cs)

  some_mapped : (paths : List Path) → is_some_list (map (name_meant ds modules) paths) ≡ is_some_list paths
  some_mapped [] = refl
  some_mapped (p ∷ ps) = refl

  abbrev sets_rightly : Attribute → Bool
  sets_rightly a = not (is_read_only a) || not (is_some_list (accessor_raises a.set))

  members_set : (members : List InterfaceMember) → list_all setter_raises_rightly (filter_map (member_meant ds modules) members) ≡ list_all sets_rightly (flat_map attribute_in members)
  members_set [] = refl
  members_set (tree.base_member optional path ∷ ms) = members_set ms
  members_set (tree.attribute a ∷ ms) = ap₂ (λ s b. (not (is_read_only a) || not s) && b) (some_mapped (accessor_raises a.set)) (members_set ms)
  members_set (tree.method m ∷ ms) = members_set ms

module _ (ds : List Declared) (reg : List Entity) where
  body_raises : (d : Declared) (body : Declaration) → raises_known reg (body_meant ds d body) ≡ list_all (names ds reg is_exception d.modules) (raised_in body)
  unfolding body_meant
  body_raises d tree.forward = refl
  body_raises d (tree.interface base members) = members_raise ds reg d.modules members
  body_raises d (tree.struct base members) = refl
  body_raises d (tree.exception base members) = refl
  body_raises d (tree.enum items) = refl
  body_raises d (tree.constants cs) = refl
  body_raises d (tree.typedef t) = refl
  body_raises d (tree.new_service base constructors) = constructors_raise ds reg d.modules constructors
  body_raises d (tree.old_service members) = refl
  body_raises d (tree.new_singleton base) = refl
  body_raises d (tree.old_singleton service) = refl

  body_sets : (d : Declared) (body : Declaration) → setters_raise_rightly (body_meant ds d body) ≡ list_all (sets_rightly ds reg d.modules) (attributes_in body)
  unfolding body_meant
  body_sets d tree.forward = refl
  body_sets d (tree.interface base members) = members_set ds reg d.modules members
  body_sets d (tree.struct base members) = refl
  body_sets d (tree.exception base members) = refl
  body_sets d (tree.enum items) = refl
  body_sets d (tree.constants cs) = refl
  body_sets d (tree.typedef t) = refl
  body_sets d (tree.new_service base constructors) = refl
  body_sets d (tree.old_service members) = refl
  body_sets d (tree.new_singleton base) = refl
  body_sets d (tree.old_singleton service) = refl

  pub raised_kept : (d : Declared) → wrong_raises ds reg d ≡ [] → raises_exceptions reg (entity_meant ds d) ≡ true
  unfolding wrong_raises raises_exceptions
  raised_kept d none =
      let parts = append_none (not_named ds reg is_exception d.modules (raised_in d.body)) (failing (sets_rightly ds reg d.modules) (λ a. a.name.place) (attributes_in d.body)) none in
      and_from (raises_known reg (body_meant ds d d.body)) (setters_raise_rightly (body_meant ds d d.body))
      (body_raises d d.body ∙ all_pass (names ds reg is_exception d.modules) (λ path. path.place) (raised_in d.body) parts.0)
      (body_sets d d.body ∙ all_pass (sets_rightly ds reg d.modules) (λ a. a.name.place) (attributes_in d.body) parts.1)

  pub none_raised : (d : Declared) → raises_exceptions reg (entity_meant ds d) ≡ true → wrong_raises ds reg d ≡ []
  unfolding wrong_raises raises_exceptions
  none_raised d kept =
      let parts = and_parts (raises_known reg (body_meant ds d d.body)) (setters_raise_rightly (body_meant ds d d.body)) kept in
      ap₂ (λ ps qs. ps ++ qs) (none_fail (names ds reg is_exception d.modules) (λ path. path.place) (raised_in d.body) (sym (body_raises d d.body) ∙ parts.0))
      (none_fail (sets_rightly ds reg d.modules) (λ a. a.name.place) (attributes_in d.body) (sym (body_sets d d.body) ∙ parts.1))
