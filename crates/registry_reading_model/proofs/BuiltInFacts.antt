-- What a registry that has the built-in entities says of them: their functions, their members and their ways.
use Rattle.std.proofs.Common.{◌≡◌, ℕ, zero, suc, ◌≤◌, true, false, ◌&&◌, List, [], ◌∷◌, ◌++◌, length, Some, Contains, refl, sym, ap, ap₂}
use Rattle.std.proofs.Common.{◌∙◌, subst, arith, ◌-◌}
use Rattle.std.specs.Prelude.{slice_get}
use Rattle.std.specs.List.{list_all, flat_map}
use Rattle.std.specs.Str.{bytes_eq}
use Rattle.std.proofs.lemmas.Bool.{both_ways}
use Rattle.std.proofs.lemmas.Option.{slice_get_within}
use Rattle.uno_model.specs.BuiltIn.{built_in, HasBuiltIn, disposed_exception, factory, base_exception, runtime_exception, x_interface}
use Rattle.uno_model.specs.BuiltIn.{disposed_exception_name, factory_name, exception_name, runtime_exception_name, x_interface_name, message_field}
use Rattle.uno_model.specs.BuiltIn.{context_field}
use Rattle.uno_model.specs.Circles.{Leads, ends_within}
use Rattle.uno_model.specs.Entities.{Entity, Field}
use Rattle.uno_model.specs.Functions.{Function, declared_by, is_met, visit_all, met_within, interfaces_of, functions_of}
use Rattle.uno_model.specs.Registry.{find_entity, stands_on_body, member_bases, own_members, members_within, all_members}
use Rattle.uno_model.specs.Sound.{is_there, is_interface, is_exception}
use Rattle.uno_model.proofs.CircleLaws.{ends_no_circle}
use Rattle.uno_model.proofs.ReachLaws.{found_place}
use Rattle.registry_text_model.specs.NoCircles.{leads_on, leads_on_to}

-- what holds of each of the five
pub each_built_in : (P : Entity → Type 0) → P disposed_exception → P factory → P base_exception → P runtime_exception → P x_interface → (e : Entity)
    → Contains built_in e → P e
each_built_in P d f b r x e (zero, low, is) = subst P is d
each_built_in P d f b r x e (suc zero, low, is) = subst P is f
each_built_in P d f b r x e (suc (suc zero), low, is) = subst P is b
each_built_in P d f b r x e (suc (suc (suc zero)), low, is) = subst P is r
each_built_in P d f b r x e (suc (suc (suc (suc zero))), low, is) = subst P is x
each_built_in P d f b r x e (suc (suc (suc (suc (suc k)))), low, is) = absurd (omega (arith, low))

module _ (reg : List Entity) (has : HasBuiltIn reg) where
  disposed : find_entity disposed_exception_name reg ≡ Some disposed_exception
  disposed = has.found disposed_exception (0, omega arith, refl)

  factory_found : find_entity factory_name reg ≡ Some factory
  factory_found = has.found factory (1, omega arith, refl)

  pub base : find_entity exception_name reg ≡ Some base_exception
  base = has.found base_exception (2, omega arith, refl)

  runtime : find_entity runtime_exception_name reg ≡ Some runtime_exception
  runtime = has.found runtime_exception (3, omega arith, refl)

  pub root : find_entity x_interface_name reg ≡ Some x_interface
  root = has.found x_interface (4, omega arith, refl)

  -- ---- there are three entities and more

  apart : (i j : ℕ) (d e : Entity) → slice_get reg i ≡ Some d → slice_get reg j ≡ Some e → bytes_eq d.name e.name ≡ false
      → bytes_eq e.name e.name ≡ true → i ≡ j → ⊥
  apart i j d e at_i at_j other itself same =
      let both : Some d ≡ Some e = sym at_i ∙ ap (slice_get reg) same ∙ at_j in
      let one : d ≡ e = cc in
      both_ways (bytes_eq d.name e.name) other (ap (λ x. bytes_eq x.name e.name) one ∙ itself)

  three : 3 ≤ length reg
  three =
      let d = found_place disposed_exception_name reg disposed_exception disposed in
      let b = found_place exception_name reg base_exception base in
      let r = found_place runtime_exception_name reg runtime_exception runtime in
      let db = apart d.0 b.0 disposed_exception base_exception d.1 b.1 refl refl in
      let dr = apart d.0 r.0 disposed_exception runtime_exception d.1 r.1 refl refl in
      let br = apart b.0 r.0 base_exception runtime_exception b.1 r.1 refl refl in
      let dw = slice_get_within reg d.0 disposed_exception d.1 in
      let bw = slice_get_within reg b.0 base_exception b.1 in
      let rw' = slice_get_within reg r.0 runtime_exception r.1 in
      omega (arith, db, dr, br, dw, bw, rw')

  -- ---- what is there

  pub runtime_there : is_there reg is_exception runtime_exception_name ≡ true
  runtime_there = rw runtime refl

  pub base_there : is_there reg is_exception exception_name ≡ true
  base_there = rw base refl

  pub root_there : is_there reg is_interface x_interface_name ≡ true
  root_there = rw root refl

  -- ---- functions

  root_met : (l : ℕ) → met_within (suc l) reg [] x_interface_name ≡ x_interface_name ∷ []
  unfolding met_within visit_all is_met
  root_met l = ap (λ o. visit_all (met_within l reg) [] (stands_on_body o) ++ x_interface_name ∷ []) root

  factory_met : (l : ℕ) → met_within (suc (suc l)) reg [] factory_name ≡ x_interface_name ∷ (factory_name ∷ [])
  unfolding met_within visit_all is_met
  factory_met l =
      ap (λ o. visit_all (met_within (suc l) reg) [] (stands_on_body o) ++ factory_name ∷ []) factory_found
      ∙ ap (λ ms. ms ++ factory_name ∷ []) (root_met l)

  base_met : (l : ℕ) → met_within (suc l) reg [] exception_name ≡ exception_name ∷ []
  unfolding met_within visit_all is_met
  base_met l = ap (λ o. visit_all (met_within l reg) [] (stands_on_body o) ++ exception_name ∷ []) base

  runtime_met : (l : ℕ) → met_within (suc (suc l)) reg [] runtime_exception_name ≡ exception_name ∷ (runtime_exception_name ∷ [])
  unfolding met_within visit_all is_met
  runtime_met l =
      ap (λ o. visit_all (met_within (suc l) reg) [] (stands_on_body o) ++ runtime_exception_name ∷ []) runtime
      ∙ ap (λ ms. ms ++ runtime_exception_name ∷ []) (base_met l)

  disposed_met : (l : ℕ)
      → met_within (suc (suc (suc l))) reg [] disposed_exception_name ≡ exception_name ∷ (runtime_exception_name ∷ (disposed_exception_name ∷ []))
  unfolding met_within visit_all is_met
  disposed_met l =
      ap (λ o. visit_all (met_within (suc (suc l)) reg) [] (stands_on_body o) ++ disposed_exception_name ∷ []) disposed
      ∙ ap (λ ms. ms ++ disposed_exception_name ∷ []) (runtime_met l)

  -- the levels that there are, three of them counted
  levels : (n : ℕ) × (length reg ≡ suc (suc (suc n)))
  levels = (length reg - 3, omega (arith, three))

  abbrev Brings : List ℕ → List (List ℕ) → Type 0
  Brings name names = interfaces_of reg name ≡ names

  root_interfaces : Brings x_interface_name (x_interface_name ∷ [])
  root_interfaces = root_met (length reg)

  factory_interfaces : Brings factory_name (x_interface_name ∷ (factory_name ∷ []))
  factory_interfaces = ap (λ n. met_within (suc n) reg [] factory_name) levels.1 ∙ factory_met (suc (suc levels.0))

  base_interfaces : Brings exception_name (exception_name ∷ [])
  base_interfaces = base_met (length reg)

  runtime_interfaces : Brings runtime_exception_name (exception_name ∷ (runtime_exception_name ∷ []))
  runtime_interfaces = ap (λ n. met_within (suc n) reg [] runtime_exception_name) levels.1 ∙ runtime_met (suc (suc levels.0))

  disposed_interfaces : Brings disposed_exception_name (exception_name ∷ (runtime_exception_name ∷ (disposed_exception_name ∷ [])))
  disposed_interfaces = ap (λ n. met_within (suc n) reg [] disposed_exception_name) levels.1 ∙ disposed_met (suc levels.0)

  -- the functions that interfaces declare by their names
  abbrev declared : List ℕ → List Function
  declared owner = declared_by owner (find_entity owner reg)

  pub root_functions : functions_of reg x_interface_name ≡ declared_by x_interface_name (Some x_interface) ++ []
  root_functions = ap (flat_map declared) root_interfaces ∙ ap (λ o. declared_by x_interface_name o ++ []) root

  pub factory_functions : functions_of reg factory_name
      ≡ declared_by x_interface_name (Some x_interface) ++ (declared_by factory_name (Some factory) ++ [])
  factory_functions =
      ap (flat_map declared) factory_interfaces ∙ ap₂ (λ o p. declared_by x_interface_name o ++ (declared_by factory_name p ++ [])) root factory_found

  pub base_functions : functions_of reg exception_name ≡ []
  base_functions = ap (flat_map declared) base_interfaces ∙ ap (λ o. declared_by exception_name o ++ []) base

  pub runtime_functions : functions_of reg runtime_exception_name ≡ []
  runtime_functions =
      ap (flat_map declared) runtime_interfaces ∙ ap₂ (λ o p. declared_by exception_name o ++ (declared_by runtime_exception_name p ++ [])) base runtime

  pub disposed_functions : functions_of reg disposed_exception_name ≡ []
  disposed_functions =
      ap (flat_map declared) disposed_interfaces
      ∙ ap₂ (λ o p. declared_by exception_name o ++ (declared_by runtime_exception_name p ++ (declared disposed_exception_name ++ []))) base runtime
      ∙ ap (λ o. declared_by disposed_exception_name o ++ []) disposed

  -- ---- members

  abbrev exception_fields : List Field
  exception_fields = message_field ∷ (context_field ∷ [])

  base_fields : (l : ℕ) → members_within (suc l) reg exception_name ≡ exception_fields
  unfolding members_within
  base_fields l = ap (λ o. flat_map (members_within l reg) (member_bases o) ++ own_members o) base

  runtime_fields : (l : ℕ) → members_within (suc (suc l)) reg runtime_exception_name ≡ exception_fields
  unfolding members_within
  runtime_fields l =
      ap (λ o. flat_map (members_within (suc l) reg) (member_bases o) ++ own_members o) runtime ∙ ap (λ fs. (fs ++ []) ++ []) (base_fields l)

  disposed_fields : (l : ℕ) → members_within (suc (suc (suc l))) reg disposed_exception_name ≡ exception_fields
  unfolding members_within
  disposed_fields l =
      ap (λ o. flat_map (members_within (suc (suc l)) reg) (member_bases o) ++ own_members o) disposed ∙ ap (λ fs. (fs ++ []) ++ []) (runtime_fields l)

  pub base_members : all_members reg exception_name ≡ exception_fields
  base_members = base_fields (length reg)

  pub runtime_members : all_members reg runtime_exception_name ≡ exception_fields
  runtime_members = ap (λ n. members_within (suc n) reg runtime_exception_name) levels.1 ∙ runtime_fields (suc (suc levels.0))

  pub disposed_members : all_members reg disposed_exception_name ≡ exception_fields
  disposed_members = ap (λ n. members_within (suc n) reg disposed_exception_name) levels.1 ∙ disposed_fields (suc levels.0)

  -- ---- circles

  abbrev Next : List ℕ → List (List ℕ) → Type 0
  Next name names = leads_on_to reg name ≡ names

  root_leads : Next x_interface_name []
  unfolding leads_on_to
  root_leads = ap (leads_on reg) root

  factory_leads : Next factory_name (x_interface_name ∷ [])
  unfolding leads_on_to
  factory_leads = ap (leads_on reg) factory_found

  base_leads : Next exception_name []
  unfolding leads_on_to
  base_leads = ap (leads_on reg) base

  runtime_leads : Next runtime_exception_name (exception_name ∷ [])
  unfolding leads_on_to
  runtime_leads = ap (leads_on reg) runtime

  disposed_leads : Next disposed_exception_name (runtime_exception_name ∷ [])
  unfolding leads_on_to
  disposed_leads = ap (leads_on reg) disposed

  ends_here : (d : ℕ) (name : List ℕ) → Next name [] → ends_within (leads_on_to reg) (suc d) name ≡ true
  unfolding ends_within
  ends_here d name none = ap (list_all (ends_within (leads_on_to reg) d)) none

  ends_behind : (d : ℕ) (name next : List ℕ) → Next name (next ∷ []) → ends_within (leads_on_to reg) d next ≡ true
      → ends_within (leads_on_to reg) (suc d) name ≡ true
  unfolding ends_within
  ends_behind d name next one ends = ap (list_all (ends_within (leads_on_to reg) d)) one ∙ ap (λ b. b && true) ends

  base_ends : ends_within (leads_on_to reg) 1 exception_name ≡ true
  base_ends = ends_here 0 exception_name base_leads

  runtime_ends : ends_within (leads_on_to reg) 2 runtime_exception_name ≡ true
  runtime_ends = ends_behind 1 runtime_exception_name exception_name runtime_leads base_ends

  pub no_circle : (e : Entity) → Contains built_in e → ¬ Leads (leads_on_to reg) e.name e.name
  no_circle = each_built_in (λ e. ¬ Leads (leads_on_to reg) e.name e.name)
      (ends_no_circle (leads_on_to reg) 3 disposed_exception_name
      (ends_behind 2 disposed_exception_name runtime_exception_name disposed_leads runtime_ends))
      (ends_no_circle (leads_on_to reg) 2 factory_name
      (ends_behind 1 factory_name x_interface_name factory_leads (ends_here 0 x_interface_name root_leads)))
      (ends_no_circle (leads_on_to reg) 1 exception_name base_ends)
      (ends_no_circle (leads_on_to reg) 2 runtime_exception_name runtime_ends)
      (ends_no_circle (leads_on_to reg) 1 x_interface_name (ends_here 0 x_interface_name root_leads))
