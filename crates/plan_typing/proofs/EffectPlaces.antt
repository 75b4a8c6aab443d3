-- The statements of a method from a place on: what the one there asks fits, and those behind it are typed.
use Rattle.std.proofs.Common.{◌≡◌, refl, sym, ap, ◌∙◌, ℕ, zero, suc, ◌&&◌, List, [], ◌∷◌, drop, Some, slice_get, ◌⊎◌}
use Rattle.std.specs.Prelude.{Contains}
use Rattle.std.specs.List.{AllByRecursion}
use Rattle.std.specs.Str.{bytes_eq}
use Rattle.std.proofs.lemmas.Bool.{and_parts}
use Rattle.std.proofs.lemmas.Slice.Eq.{bytes_eq-Decides}
use mathlib.Core.Path.{subst}
use Rattle.message_model.specs.Calls.{numbered}
use Rattle.message_model.proofs.FunctionKindLaws.{numbered_typed}
use Rattle.uno_model.specs.BuiltIn.{HasBuiltIn}
use Rattle.uno_model.specs.Entities.{Entity, Field, Param}
use Rattle.uno_model.specs.Functions.{Function, declared_by, functions_of, interfaces_of}
use Rattle.uno_model.specs.Registry.{find_entity}
use Rattle.uno_model.specs.Sound.{IsSound, is_storable}
use Rattle.uno_model.specs.Types.{is_type}
use Rattle.uno_model.proofs.AllLaws.{each_of_both}
use Rattle.uno_model.proofs.Options.{same_some, none_some}
use Rattle.plan_model.specs.Asking.{Running}
use Rattle.plan_model.specs.Contexts.{declared_function, parameters}
use Rattle.plan_model.specs.Effects.{place_effect, method_for}
use Rattle.plan_model.specs.Plans.{Plan, Behaviour, Method}
use Rattle.plan_model.specs.Statements.{Statement}
use Rattle.plan_typing.specs.Effects.{NamesDiffer, TypesStand, RunFits, EffectFits}
use Rattle.plan_typing.specs.Going.{types_at}
use Rattle.plan_typing.specs.Statements.{IsTyped, Ends, AreTyped, types_behind, first_types, IsTypedField, IsTypedMethod, IsTypedBehaviour, IsTypedPlan}
use Rattle.plan_typing.specs.Types.{Types}
use Rattle.plan_typing.proofs.CalleeOwners.{owned, declared_at}
use Rattle.plan_typing.proofs.CalleePlaces.{among_contains}
use Rattle.plan_typing.proofs.EffectStatements.{statement_fits, end_fits}
use Rattle.plan_typing.proofs.EffectTypes.{first_stand}
use Rattle.plan_typing.proofs.TermFunctions.{found_passes, found_among}

-- ---- from a place on

-- what stands at a place is the first of the rest
pub first_of_rest : {X : Type 0} (xs : List X) (n : ℕ) → slice_get (drop n xs) 0 ≡ slice_get xs n
first_of_rest xs zero = refl
first_of_rest [] (suc n) = refl
first_of_rest (x ∷ xs) (suc n) = first_of_rest xs n

rest_is : {X : Type 0} (xs : List X) (n : ℕ) (x : X) → slice_get xs n ≡ Some x → drop n xs ≡ x ∷ drop (suc n) xs
rest_is [] n x is = absurd (none_some is)
rest_is (y ∷ ys) zero x is = ap (λ z. z ∷ ys) (same_some is)
rest_is (y ∷ ys) (suc n) x is = rest_is ys n x is

module _ (reg : List Entity) (plan : Plan) (f : Function) where
  -- the statement at a place is typed, and those behind it are, where it does not end the method
  pub rest_typed : (ts : Types) (body : List Statement) (place : ℕ) (s : Statement) → AreTyped reg plan f ts (drop place body) → slice_get body place ≡ Some s
      → IsTyped reg plan f ts s × (Ends s ⊎ AreTyped reg plan f (types_behind s ts) (drop (suc place) body))
  unfolding AreTyped
  rest_typed ts body place s typed at = subst (λ l. AreTyped reg plan f ts l) (rest_is body place s at) typed

module _ (reg : List Entity) (sound : IsSound reg) (built : HasBuiltIn reg) (differ : NamesDiffer reg) (plan : Plan) (r : Running) (ts : Types) (fit : RunFits reg r ts) where
  first_fits : (rest : List Statement) → AreTyped reg plan r.function ts rest
      → EffectFits reg plan r.function r.tid ts (types_at (slice_get rest 0) ts) r.scene (place_effect reg r (slice_get rest 0))
  unfolding AreTyped
  first_fits [] typed = end_fits reg sound built plan r ts fit ts typed
  first_fits (s ∷ ss) typed = statement_fits reg sound built plan r ts fit differ s typed.0

  pub place_fits : (body : List Statement) (place : ℕ) → AreTyped reg plan r.function ts (drop place body)
      → EffectFits reg plan r.function r.tid ts (types_at (slice_get body place) ts) r.scene (place_effect reg r (slice_get body place))
  place_fits body place typed =
      subst (λ o. EffectFits reg plan r.function r.tid ts (types_at o ts) r.scene (place_effect reg r o)) (first_of_rest body place) (first_fits (drop place body) typed)

-- ---- where a method begins

pub all_at_place : {X : Type 0} (P : X → Type 0) (xs : List X) (n : ℕ) (x : X) → AllByRecursion P xs → slice_get xs n ≡ Some x → P x
all_at_place P [] n x all is = absurd (none_some is)
all_at_place P (y ∷ ys) zero x all is = subst P (same_some is) all.0
all_at_place P (y ∷ ys) (suc n) x all is = all_at_place P ys n x all.1 is

module _ (reg : List Entity) (differ : NamesDiffer reg) where
  -- a function by its number is declared by its owner
  pub numbered_declared : (face : List ℕ) (number : ℕ) (f : Function) → numbered reg face number ≡ Some f → Contains (declared_at reg f.owner) f
  unfolding numbered
  numbered_declared face number f found = (owned reg (interfaces_of reg face) f (among_contains (functions_of reg face) number f found)).declared

  -- the function of a method is the one for which it is found
  same_declared : (face name : List ℕ) (f g : Function) → face ≡ f.owner → name ≡ f.name → Contains (declared_at reg f.owner) f → declared_function reg face name ≡ Some g → g ≡ f
  unfolding declared_function
  same_declared face name f g owner named declared is =
      let at = found_among (λ h. bytes_eq name h.name) (declared_by face (find_entity face reg)) g is in
      let has = among_contains (declared_by face (find_entity face reg)) at.0 g at.1 in
      let its_name : name ≡ g.name = (bytes_eq-Decides name g.name).0 (found_passes (λ h. bytes_eq name h.name) (declared_by face (find_entity face reg)) g is) in
      differ.functions face g f has (subst (λ n. Contains (declared_at reg n) f) (sym owner) declared) (sym its_name ∙ named)

  -- the method that a behaviour has for a function is typed as that function's
  pub method_typed : (plan : Plan) (n : ℕ) (b : Behaviour) (m : Method) (f : Function) → IsTypedPlan reg plan → slice_get plan.behaviours n ≡ Some b → method_for f b.methods ≡ Some m
      → Contains (declared_at reg f.owner) f → (m.face ≡ f.owner) × AreTyped reg plan f (first_types b m f) m.body × AllByRecursion (IsTypedField reg) b.fields
  method_typed plan n b m f typed at found declared =
      let test = λ (k : Method). bytes_eq k.face f.owner && bytes_eq k.function f.name in
      let behaviour = all_at_place (IsTypedBehaviour reg plan) plan.behaviours n b typed at in
      let place = found_among test b.methods m found in
      let method = all_at_place (IsTypedMethod reg plan b) b.methods place.0 m behaviour.methods place.1 in
      let parts = and_parts (bytes_eq m.face f.owner) (bytes_eq m.function f.name) (found_passes test b.methods m found) in
      let owner : m.face ≡ f.owner = (bytes_eq-Decides m.face f.owner).0 parts.0 in
      let named : m.function ≡ f.name = (bytes_eq-Decides m.function f.name).0 parts.1 in
      let same = same_declared m.face m.function f method.function owner named declared method.found in
      (owner, subst (λ g. AreTyped reg plan g (first_types b m g) m.body) same method.body, behaviour.fields)

  -- the types where a method begins stand
  pub types_stand_first : IsSound reg → (face : List ℕ) (number : ℕ) (f : Function) (fields : List Field) (own : List ℕ) → numbered reg face number ≡ Some f
      → AllByRecursion (IsTypedField reg) fields → TypesStand reg f (record { variables = parameters f.params; fields = fields; own = own })
  types_stand_first sound face number f fields own found typed =
      let types = numbered_typed reg sound face number f found in
      first_stand reg f differ fields own (numbered_declared face number f found)
      ((each_of_both (λ (p : Param). is_storable p.kind) (λ p. is_type reg p.kind) f.params types.1).1) typed
