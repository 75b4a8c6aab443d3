-- The first rule is kept by the entities meant where no place breaks it.
use Rattle.std.proofs.Common.{◌≡◌, ℕ, Bool, true, false, ◌&&◌, List, [], ◌∷◌, ◌++◌, map, None, Some, Option, refl, sym, ap, ◌∙◌, if◌then◌else◌}
use Rattle.std.specs.List.{list_all, filter_map}
use Rattle.std.specs.Option.{option_map, option_to_list}
use Rattle.uno_model.specs.BuiltIn.{x_interface_name}
use Rattle.uno_model.specs.Entities.{Entity, Base}
use Rattle.uno_model.specs.Registry.{mandatory_bases, at_most_one}
use Rattle.uno_model.specs.Sound.{is_there, is_interface, is_struct, is_exception, is_some_list, bases_known}
use Rattle.idl_model.specs.Trees.{Path, InterfaceMember, Declaration}
use Rattle.idl_model.specs.Trees as tree
use Rattle.idl_meaning_model.specs.Declarations.{Declared}
use Rattle.idl_meaning_model.specs.Meaning.{name_meant, base_meant, bases_written, with_root, body_meant}
use Rattle.idl_meaning_model.proofs.EachLaws.{append_none}
use Rattle.idl_rules_model.specs.Bases.{bases_in, two_ways, wrong_bases_in}
use Rattle.idl_rules_model.specs.WherePaths.{names, not_named}
use Rattle.idl_rules_model.proofs.FailingLaws.{all_pass, none_fail, joined}

module _ (ds : List Declared) (reg : List Entity) (modules : List (List ℕ)) where
  abbrev known : Base → Bool
  known b = is_there reg is_interface b.name

  member_bases_known : (members : List InterfaceMember) → list_all known (filter_map (base_meant ds modules) members) ≡ list_all (names ds reg is_interface modules) (bases_in members)
  member_bases_known [] = refl
  member_bases_known (tree.base_member optional path ∷ ms) = ap (λ b. is_there reg is_interface (name_meant ds modules path) && b) (member_bases_known ms)
  member_bases_known (tree.attribute a ∷ ms) = member_bases_known ms
  member_bases_known (tree.method m ∷ ms) = member_bases_known ms

  colon_known : (base : Option Path) → list_all known (map (λ (path : Path). record { optional = false; name = name_meant ds modules path }) (option_to_list base))
      ≡ list_all (names ds reg is_interface modules) (option_to_list base)
  colon_known None = refl
  colon_known (Some path) = refl

  pub written_known : (base : Option Path) (members : List InterfaceMember)
      → list_all known (bases_written ds modules base members) ≡ list_all (names ds reg is_interface modules) (option_to_list base ++ bases_in members)
  written_known base members =
      joined known (names ds reg is_interface modules) (map (λ (path : Path). record { optional = false; name = name_meant ds modules path }) (option_to_list base))
      (filter_map (base_meant ds modules) members) (option_to_list base) (bases_in members) (colon_known base) (member_bases_known members)

  root_known : (bases : List Base) → is_there reg is_interface x_interface_name ≡ true → list_all known (with_root bases) ≡ list_all known bases
  unfolding with_root
  root_known bases there = by_test (is_some_list (mandatory_bases bases))
    where
      by_test : (b : Bool) → list_all known (if b then bases else record { optional = false; name = x_interface_name } ∷ bases) ≡ list_all known bases
      by_test true = refl
      by_test false = ap (λ b. b && list_all known bases) there

  base_known : (wanted : _) (base : Option Path) → list_all (is_there reg wanted) (at_most_one (option_map (name_meant ds modules) base)) ≡ list_all (names ds reg wanted modules) (option_to_list base)
  base_known wanted None = refl
  base_known wanted (Some path) = refl

module _ (ds : List Declared) (reg : List Entity) (d : Declared) (root : is_there reg is_interface x_interface_name ≡ true) where
  -- where nothing is wrong each base is of its kind
  pub bases_kept : (body : Declaration) → wrong_bases_in ds reg d.modules body ≡ [] → bases_known reg (body_meant ds d body) ≡ true
  unfolding body_meant
  bases_kept tree.forward none = refl
  bases_kept (tree.interface base members) none =
      let parts = append_none (not_named ds reg is_interface d.modules (option_to_list base ++ bases_in members)) (two_ways base members) none in
      root_known ds reg d.modules (bases_written ds d.modules base members) root ∙ written_known ds reg d.modules base members
      ∙ all_pass (names ds reg is_interface d.modules) (λ path. path.place) (option_to_list base ++ bases_in members) parts.0
  bases_kept (tree.struct base members) none =
      base_known ds reg d.modules is_struct base ∙ all_pass (names ds reg is_struct d.modules) (λ path. path.place) (option_to_list base) none
  bases_kept (tree.exception base members) none =
      base_known ds reg d.modules is_exception base ∙ all_pass (names ds reg is_exception d.modules) (λ path. path.place) (option_to_list base) none
  bases_kept (tree.enum items) none = refl
  bases_kept (tree.constants cs) none = refl
  bases_kept (tree.typedef t) none = refl
  bases_kept (tree.new_service base constructors) none = refl
  bases_kept (tree.old_service members) none = refl
  bases_kept (tree.new_singleton base) none = refl
  bases_kept (tree.old_singleton service) none = refl

  -- what entities cannot show of the first rule
  abbrev pub StandOneWay : Declaration → Type 0
  StandOneWay (tree.interface base members) = two_ways base members ≡ []
  StandOneWay _ = Unit {0}

  -- and where each is, and bases are written in one way, nothing is wrong
  pub no_wrong_bases : (body : Declaration) → bases_known reg (body_meant ds d body) ≡ true → StandOneWay body → wrong_bases_in ds reg d.modules body ≡ []
  unfolding body_meant
  no_wrong_bases tree.forward known one = refl
  no_wrong_bases (tree.interface base members) known one =
      rw one (ap (λ ps. ps ++ []) (none_fail (names ds reg is_interface d.modules) (λ path. path.place) (option_to_list base ++ bases_in members)
      (sym (written_known ds reg d.modules base members) ∙ sym (root_known ds reg d.modules (bases_written ds d.modules base members) root) ∙ known)))
  no_wrong_bases (tree.struct base members) known one =
      none_fail (names ds reg is_struct d.modules) (λ path. path.place) (option_to_list base) (sym (base_known ds reg d.modules is_struct base) ∙ known)
  no_wrong_bases (tree.exception base members) known one =
      none_fail (names ds reg is_exception d.modules) (λ path. path.place) (option_to_list base) (sym (base_known ds reg d.modules is_exception base) ∙ known)
  no_wrong_bases (tree.enum items) known one = refl
  no_wrong_bases (tree.constants cs) known one = refl
  no_wrong_bases (tree.typedef t) known one = refl
  no_wrong_bases (tree.new_service base constructors) known one = refl
  no_wrong_bases (tree.old_service members) known one = refl
  no_wrong_bases (tree.new_singleton base) known one = refl
  no_wrong_bases (tree.old_singleton service) known one = refl
