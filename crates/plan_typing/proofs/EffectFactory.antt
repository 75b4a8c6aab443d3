-- The functions that the service manager has: the three of its interface, and the root's.
use Rattle.std.proofs.Common.{◌≡◌, refl, sym, ap, ◌∙◌, ℕ, Bool, true, false, not, List, [], ◌∷◌, ◌++◌, Some, ◌⊎◌, inl, inr, arith}
use Rattle.std.specs.Prelude.{Contains}
use Rattle.std.specs.List.{list_all}
use Rattle.std.specs.Str.{bytes_eq}
use Rattle.std.proofs.lemmas.List.Elements.{Contains-append_cases}
use mathlib.Core.Path.{subst}
use Rattle.message_model.specs.Calls.{numbered}
use Rattle.uno_model.specs.BuiltIn.{HasBuiltIn, x_interface_name, factory, factory_name, create_instance, create_with_arguments, available_names}
use Rattle.uno_model.specs.Circles.{Leads, step, on}
use Rattle.uno_model.specs.Entities.{Entity}
use Rattle.uno_model.specs.Functions.{Function, functions_of, interfaces_of, root_functions}
use Rattle.uno_model.specs.Functions as fn
use Rattle.uno_model.specs.Registry.{find_entity, IsBaseOf, stands_on, stands_on_body}
use Rattle.uno_model.specs.Sound.{IsSound}
use Rattle.uno_model.proofs.CircleLaws.{all_at}
use Rattle.uno_model.proofs.FunctionLaws.{functions_of_base}
use Rattle.uno_model.proofs.PlaceLaws.{contains_cases}
use Rattle.uno_model.proofs.VisitLaws.{interfaces_are_bases}
use Rattle.plan_typing.proofs.CalleeOwners.{owned, declared_at}
use Rattle.plan_typing.proofs.CalleePlaces.{among_contains}
use Rattle.plan_typing.proofs.EffectRuntime.{interface_found}

-- ---- functions by their names

module _ (name : List ℕ) (f : Function) (named : bytes_eq f.name name ≡ true) where
  abbrev is_other : Function → Bool
  is_other g = not (bytes_eq g.name name)

  -- among functions of other names it is not
  pub none_named : (fs : List Function) → list_all is_other fs ≡ true → Contains fs f → ⊥
  none_named fs others has =
      let other : not (bytes_eq f.name name) ≡ true = all_at is_other fs f others has in
      let bad : false ≡ true = sym (ap not named) ∙ other in cc

  -- among functions of which one alone has the name it is that one
  pub one_named : (before : List Function) (g : Function) (after : List Function) → list_all is_other before ≡ true → list_all is_other after ≡ true
      → Contains (before ++ g ∷ after) f → g ≡ f
  one_named before g after others also has = elim (Contains-append_cases before (g ∷ after) f has) [
    | inl earlier ↦ absurd (none_named before others earlier)
    | inr behind ↦ elim (contains_cases g after f behind) [ inl here ↦ here | inr later ↦ absurd (none_named after also later) ]
  ]

abbrev pub factory_functions : List Function
factory_functions = fn.call factory_name create_instance ∷ (fn.call factory_name create_with_arguments ∷ (fn.call factory_name available_names ∷ []))

-- ---- the bases of its interface: that, and the root

one_there : (x n : List ℕ) → Contains (x ∷ []) n → x ≡ n
one_there x n has = elim (contains_cases x [] n has) [ inl here ↦ here | inr none ↦ absurd (omega (arith, none.1)) ]

module _ (next : List ℕ → List (List ℕ)) (top root : List ℕ) (over_top : next top ≡ root ∷ []) (over_root : next root ≡ []) where
  none_over_root : (a n : List ℕ) → root ≡ a → Leads next a n → ⊥
  none_over_root a n is (step from to has) = let none : Contains [] to = subst (λ l. Contains l to) (ap next (sym is) ∙ over_root) has in omega (arith, none.1)
  none_over_root a n is (on from via to has more) = let none : Contains [] via = subst (λ l. Contains l via) (ap next (sym is) ∙ over_root) has in omega (arith, none.1)

  only_root : (a n : List ℕ) → top ≡ a → Leads next a n → root ≡ n
  only_root a n is (step from to has) = one_there root to (subst (λ l. Contains l to) (ap next (sym is) ∙ over_top) has)
  only_root a n is (on from via to has more) =
      let first : root ≡ via = one_there root via (subst (λ l. Contains l via) (ap next (sym is) ∙ over_top) has) in
      absurd (none_over_root via to first more)

module _ (reg : List Entity) (sound : IsSound reg) (built : HasBuiltIn reg) where
  factory_found : find_entity factory_name reg ≡ Some factory
  factory_found = built.found factory (1, omega arith, refl)

  factory_base : (n : List ℕ) → IsBaseOf reg n factory_name → (factory_name ≡ n) ⊎ (x_interface_name ≡ n)
  factory_base n (inl same) = inl same
  factory_base n (inr leads) =
      inr (only_root (stands_on reg) factory_name x_interface_name (ap stands_on_body factory_found) (ap stands_on_body (interface_found reg built)) factory_name n refl leads)

  -- the manager's functions
  pub manager_functions : (face : List ℕ) (number : ℕ) (f : Function) → IsBaseOf reg face factory_name → numbered reg face number ≡ Some f
      → Contains factory_functions f ⊎ Contains root_functions f
  unfolding numbered
  manager_functions face number f base found =
      let has = functions_of_base reg factory_name face f sound.no_circle base (among_contains (functions_of reg face) number f found) in
      let own = owned reg (interfaces_of reg factory_name) f has in
      elim (factory_base f.owner (interfaces_are_bases reg factory_name f.owner own.owner)) [
        | inl factory_own ↦ inl (subst (λ l. Contains l f) (ap (declared_at reg) (sym factory_own) ∙ ap (fn.declared_by factory_name) factory_found) own.declared)
        | inr root_own ↦ inr (subst (λ l. Contains l f) (ap (declared_at reg) (sym root_own) ∙ ap (fn.declared_by x_interface_name) (interface_found reg built)) own.declared)
      ]
