-- The function that a call names stands at its number in the table of the object's own interface, and is none of the root's three.
use Rattle.std.proofs.Common.{◌≡◌, ◌≢◌, refl, sym, ap, ◌∙◌, ℕ, ◌<◌, ◌≤◌, ◌^◌, Bool, true, false, ◌&&◌, List, [], ◌++◌, length, drop, Option, None, Some, slice_get, arith}
use Rattle.std.specs.Prelude.{Contains}
use Rattle.std.specs.List.{position_or_len}
use Rattle.std.specs.Str.{bytes_eq}
use Rattle.std.proofs.lemmas.Bool.{and_parts, and_from}
use Rattle.std.proofs.lemmas.Option.{slice_get_within}
use Rattle.std.proofs.lemmas.Slice.Eq.{bytes_eq-Decides}
use mathlib.Core.Path.{subst}
use Rattle.message_model.specs.Calls.{numbered, acquire_number, release_number}
use Rattle.uno_model.specs.BuiltIn.{HasBuiltIn, x_interface_name, query_interface}
use Rattle.uno_model.specs.Entities.{Entity}
use Rattle.uno_model.specs.Functions.{Function, interfaces_of, functions_of, root_functions}
use Rattle.uno_model.specs.Functions as fn
use Rattle.uno_model.specs.Registry.{find_entity, IsBaseOf}
use Rattle.uno_model.specs.Sound.{IsSound, is_there, is_interface}
use Rattle.uno_model.proofs.FindLaws.{same_equal}
use Rattle.uno_model.proofs.FunctionLaws.{functions_of_base, rooted, no_functions}
use Rattle.uno_model.proofs.Options.{same_some}
use Rattle.uno_model.proofs.ReachLaws.{found_place}
use Rattle.uno_model.proofs.VisitLaws.{Extends}
use Rattle.plan_model.specs.Calling.{number_in}
use Rattle.plan_model.specs.Contexts.{called_function}
use Rattle.plan_model.specs.Statements.{Callee}
use Rattle.plan_typing.specs.Effects.{NamesDiffer}
use Rattle.plan_typing.proofs.CalleeOwners.{owned, declared_at, not_of_root}
use Rattle.plan_typing.proofs.CalleePlaces.{among_contains, contains_among, first_that}
use Rattle.plan_typing.proofs.EffectRuntime.{interface_found}
use Rattle.plan_typing.proofs.TermFunctions.{Among, in_rest, found_among}

-- ---- owner and name

abbrev pub is_callee : Callee → Function → Bool
is_callee c f = bytes_eq c.owner f.owner && bytes_eq c.name f.name

is_itself : (c : Callee) (f : Function) → c.owner ≡ f.owner → c.name ≡ f.name → is_callee c f ≡ true
is_itself c f owner name =
    and_from (bytes_eq c.owner f.owner) (bytes_eq c.name f.name)
    (subst (λ n. bytes_eq c.owner n ≡ true) owner (same_equal c.owner))
    (subst (λ n. bytes_eq c.name n ≡ true) name (same_equal c.name))

is_named : (c : Callee) (f : Function) → is_callee c f ≡ true → (c.owner ≡ f.owner) × (c.name ≡ f.name)
is_named c f is =
    let parts = and_parts (bytes_eq c.owner f.owner) (bytes_eq c.name f.name) is in
    ((bytes_eq-Decides c.owner f.owner).0 parts.0, (bytes_eq-Decides c.name f.name).0 parts.1)

-- ---- the root's functions come first

second_owner : (fs more : List Function) (g : Function) (n : ℕ) → fs ≡ root_functions ++ more → slice_get fs n ≡ Some g → n ≡ 1 → g.owner ≡ x_interface_name
second_owner fs more g n whole at is =
    let there : slice_get (root_functions ++ more) 1 ≡ Some g = subst (λ l. slice_get l 1 ≡ Some g) whole (subst (λ k. slice_get fs k ≡ Some g) is at) in
    ap (λ h. h.owner) (sym (same_some there))

third_owner : (fs more : List Function) (g : Function) (n : ℕ) → fs ≡ root_functions ++ more → slice_get fs n ≡ Some g → n ≡ 2 → g.owner ≡ x_interface_name
third_owner fs more g n whole at is =
    let there : slice_get (root_functions ++ more) 2 ≡ Some g = subst (λ l. slice_get l 2 ≡ Some g) whole (subst (λ k. slice_get fs k ≡ Some g) is at) in
    ap (λ h. h.owner) (sym (same_some there))

first_function : (fs more : List Function) → fs ≡ root_functions ++ more → slice_get fs 0 ≡ Some (fn.call x_interface_name query_interface)
first_function fs more whole = ap (λ l. slice_get l 0) whole

behind_three : (fs more : List Function) (f : Function) → fs ≡ root_functions ++ more → Among (drop 3 fs) f → Among more f
behind_three fs more f whole at = subst (λ l. Among (drop 3 l) f) whole at

-- ---- the number of a function

-- a function of an interface that is called like others, by its number
pub record NumberFits (reg : List Entity) (face : List ℕ) (c : Callee) (f : Function) : Type 0 where
  pub found : numbered reg face (number_in reg face c) ≡ Some f
  pub small : number_in reg face c < 2 ^ 16
  pub no_acquire : number_in reg face c ≢ acquire_number
  pub no_release : number_in reg face c ≢ release_number

module _ (reg : List Entity) (sound : IsSound reg) (built : HasBuiltIn reg) where
  -- what has a function is an interface
  is_face : (face : List ℕ) (f : Function) → Contains (functions_of reg face) f → is_there reg is_interface face ≡ true
  is_face face f has = by_test (is_there reg is_interface face) refl
    where
      by_test : (b : Bool) → is_there reg is_interface face ≡ b → is_there reg is_interface face ≡ true
      by_test true is = is
      by_test false no_one =
          let none : Contains [] f = subst (λ l. Contains l f) (no_functions reg face sound no_one) has in
          absurd (omega (arith, none.1))

  pub root_first : (face : List ℕ) → is_there reg is_interface face ≡ true → Extends root_functions (functions_of reg face)
  root_first face is = (rooted reg face sound (interface_found reg built) is).0

  -- no interface has more than 65,536 functions
  pub few : (face : List ℕ) → length (functions_of reg face) ≤ 65536
  few face = by_entity (find_entity face reg) refl
    where
      by_entity : (o : Option Entity) → find_entity face reg ≡ o → length (functions_of reg face) ≤ 65536
      by_entity None none =
          let no_one : is_there reg is_interface face ≡ false = rw none refl in
          let empty : length (functions_of reg face) ≡ 0 = ap length (no_functions reg face sound no_one) in
          omega (arith, empty)
      by_entity (Some e) found =
          let place = found_place face reg e found in
          subst (λ n. length (functions_of reg n) ≤ 65536) place.2 (sound.functions e (among_contains reg place.0 e place.1))

  -- what a call names is there, and not the root's
  called_there : (face name : List ℕ) (f : Function) → called_function reg face name ≡ Some f → Contains (functions_of reg face) f
  unfolding called_function
  called_there face name f is =
      let at = in_rest 3 (functions_of reg face) f (found_among (λ g. bytes_eq name g.name) (drop 3 (functions_of reg face)) f is) in
      among_contains (functions_of reg face) at.0 f at.1

  called_not_root : (face name : List ℕ) (f : Function) → called_function reg face name ≡ Some f → f.owner ≡ x_interface_name → ⊥
  unfolding called_function
  called_not_root face name f is root_owned =
      let first = root_first face (is_face face f (called_there face name f is)) in
      let at = behind_three (functions_of reg face) first.0 f first.1 (found_among (λ g. bytes_eq name g.name) (drop 3 (functions_of reg face)) f is) in
      not_of_root reg (interface_found reg built) sound face first.0 f first.1 (among_contains first.0 at.0 f at.1) root_owned

  -- owner and name tell a function
  same_function : NamesDiffer reg → (f g : Function) → Contains (declared_at reg f.owner) f → Contains (declared_at reg g.owner) g → f.owner ≡ g.owner → f.name ≡ g.name → f ≡ g
  same_function differ f g has also owner name = differ.functions g.owner f g (subst (λ n. Contains (declared_at reg n) f) owner has) also name

  -- ---- at the number

  -- the first that owner and name tell is the very function
  record IsAt (face : List ℕ) (c : Callee) (f : Function) : Type 0 where
    at : slice_get (functions_of reg face) (number_in reg face c) ≡ Some f

  stands_at : NamesDiffer reg → (face : List ℕ) (c : Callee) (f : Function) → Contains (functions_of reg face) f → c.owner ≡ f.owner → c.name ≡ f.name → IsAt face c f
  unfolding number_in
  stands_at differ face c f has owner name =
      let fs = functions_of reg face in
      let place = contains_among fs f has in
      let one = first_that (is_callee c) fs place.0 f place.1 (is_itself c f owner name) in
      let told = is_named c one.first one.passes in
      let its = owned reg (interfaces_of reg face) one.first (among_contains fs (position_or_len (is_callee c) fs) one.first one.at) in
      let own = owned reg (interfaces_of reg face) f has in
      let same : one.first ≡ f = same_function differ one.first f its.declared own.declared (sym told.0 ∙ owner) (sym told.1 ∙ name) in
      record { at = one.at ∙ ap Some same }

  pub number_fits : NamesDiffer reg → (face wanted : List ℕ) (c : Callee) (f : Function) → IsBaseOf reg wanted face → called_function reg wanted c.name ≡ Some f
      → c.owner ≡ f.owner → c.name ≡ f.name → NumberFits reg face c f
  unfolding numbered
  number_fits differ face wanted c f base called owner name =
      let fs = functions_of reg face in
      let has = functions_of_base reg face wanted f sound.no_circle base (called_there wanted c.name f called) in
      let it = stands_at differ face c f has owner name in
      let first = root_first face (is_face face f has) in
      let n = number_in reg face c in
      let within : n < length fs = slice_get_within fs n f it.at in
      let most = few face in
      record {
        found = it.at;
        small = omega (arith, within, most);
        no_acquire = λ is. called_not_root wanted c.name f called (second_owner fs first.0 f n first.1 it.at is);
        no_release = λ is. called_not_root wanted c.name f called (third_owner fs first.0 f n first.1 it.at is);
      }

  -- the first of every interface is queryInterface
  pub query_at : (face : List ℕ) → is_there reg is_interface face ≡ true → numbered reg face 0 ≡ Some (fn.call x_interface_name query_interface)
  unfolding numbered
  query_at face is = let first = root_first face is in first_function (functions_of reg face) first.0 first.1
