-- The fourth rule is kept by the entities meant exactly where no place breaks it.
use Rattle.std.proofs.Common.{◌≡◌, ℕ, Bool, true, not, ◌&&◌, ◌||◌, List, [], ◌∷◌, refl, sym, ap, ◌∙◌}
use Rattle.std.specs.List.{list_all, filter_map, flat_map}
use Rattle.uno_model.specs.Entities.{Entity}
use Rattle.registry_text_model.specs.OneWayMethods.{gives_nothing, member_goes_one_way, body_goes_one_way, one_way_gives_nothing}
use Rattle.idl_model.specs.Trees.{InterfaceMember, Method, Declaration}
use Rattle.idl_model.specs.Trees as tree
use Rattle.idl_meaning_model.specs.Declarations.{Declared}
use Rattle.idl_meaning_model.specs.Meaning.{method_meant, member_meant, body_meant, entity_meant}
use Rattle.idl_rules_model.specs.OneWay.{method_in, methods_in, giving_one_way}
use Rattle.idl_rules_model.proofs.FailingLaws.{all_pass, none_fail}

module _ (ds : List Declared) (reg : List Entity) where
  abbrev goes_one_way : List (List ℕ) → Method → Bool
  goes_one_way modules m = not m.oneway || gives_nothing (method_meant ds modules m)

  members_go : (modules : List (List ℕ)) (members : List InterfaceMember) → list_all member_goes_one_way (filter_map (member_meant ds modules) members) ≡ list_all (goes_one_way modules) (flat_map method_in members)
  members_go modules [] = refl
  members_go modules (tree.base_member optional path ∷ ms) = members_go modules ms
  members_go modules (tree.attribute a ∷ ms) = members_go modules ms
  members_go modules (tree.method m ∷ ms) = ap (λ b. goes_one_way modules m && b) (members_go modules ms)

  body_goes : (d : Declared) (body : Declaration) → body_goes_one_way (body_meant ds d body) ≡ list_all (goes_one_way d.modules) (methods_in body)
  unfolding body_meant
  body_goes d tree.forward = refl
  body_goes d (tree.interface base members) = members_go d.modules members
  body_goes d (tree.struct base members) = refl
  body_goes d (tree.exception base members) = refl
  body_goes d (tree.enum items) = refl
  body_goes d (tree.constants cs) = refl
  body_goes d (tree.typedef t) = refl
  body_goes d (tree.new_service base constructors) = refl
  body_goes d (tree.old_service members) = refl
  body_goes d (tree.new_singleton base) = refl
  body_goes d (tree.old_singleton service) = refl

  pub one_way_kept : (d : Declared) → giving_one_way ds reg d ≡ [] → one_way_gives_nothing (entity_meant ds d) ≡ true
  unfolding giving_one_way one_way_gives_nothing
  one_way_kept d none = body_goes d d.body ∙ all_pass (goes_one_way d.modules) (λ m. m.name.place) (methods_in d.body) none

  pub none_gives : (d : Declared) → one_way_gives_nothing (entity_meant ds d) ≡ true → giving_one_way ds reg d ≡ []
  unfolding giving_one_way one_way_gives_nothing
  none_gives d kept = none_fail (goes_one_way d.modules) (λ m. m.name.place) (methods_in d.body) (sym (body_goes d d.body) ∙ kept)
