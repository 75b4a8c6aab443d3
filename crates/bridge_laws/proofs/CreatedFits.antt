-- What a name creates fits, and supports XInterface.
use Rattle.std.proofs.Common.{◌≡◌, ℕ, zero, suc, ◌<◌, ◌==◌, eqb-true, Bool, true, false, if◌then◌else◌, List, [], ◌∷◌, length, Option, None, Some, Result, Ok, Err, slice_get, refl, sym, ap, subst, arith, ◌+◌, ◌||◌, ◌++◌, map, ◌∙◌}
use Rattle.std.specs.List.{AllByRecursion, list_any, find, position_or_len}
use Rattle.uno_model.specs.BuiltIn.{x_interface_name, x_interface, factory_name}
use Rattle.uno_model.specs.Fits.{FitAll, IsInterface}
use Rattle.uno_model.specs.Kinds as kd
use Rattle.uno_model.specs.Registry.{find_entity}
use Rattle.uno_model.specs.Values.{Plain, plains}
use Rattle.plan_model.specs.Frames.{Variable}
use Rattle.plan_model.specs.Plans.{Behaviour, Offer, manager, faces_in, faces_of, supports}
use Rattle.plan_model.specs.Services.{Created, fresh, singleton, first_filled, fields_with, fields_of_behaviour, constructors_of, of_service, of_singleton, has_name, created}
use Rattle.plan_model.specs.declared.refusal.Refusal.{Refusal}
use Rattle.plan_typing.specs.Scenes.{FieldsFit}
use Rattle.plan_typing.specs.Statements.{IsTypedBehaviour}
use Rattle.plan_typing.proofs.EffectPlaces.{all_at_place}
use Rattle.plan_typing.proofs.EffectRuntime.{interface_found}
use Rattle.plan_typing.proofs.TermFunctions.{interface_type}
use Rattle.bridge_model.specs.Objects.{fields_of, as_variables}
use Rattle.bridge_model.specs.Settings.{Setting}
use Rattle.bridge_laws.proofs.TypedGiven.{ServiceFits, FieldsDiffer, IsGiven}
use Rattle.bridge_laws.proofs.CreatingFits.{TakesPlace, OnEach, first_fits, fields_fit}
use Rattle.bridge_laws.proofs.JobFits.{found_all}
use Rattle.uno_model.proofs.Options.{same_some}
use Rattle.uno_model.specs.Sound.{is_some_list}

-- ---- places in lists

pub slice_behind : {X : Type 0} (xs ys : List X) (n : ℕ) → slice_get (xs ++ ys) (length xs + n) ≡ slice_get ys n
slice_behind [] ys n = let same : 0 + n ≡ n = omega arith in ap (slice_get ys) same
slice_behind (x ∷ xs) ys n = let same : suc (length xs) + n ≡ suc (length xs + n) = omega arith in ap (slice_get (x ∷ (xs ++ ys))) same ∙ slice_behind xs ys n

pub slice_mapped : {X Y : Type 0} (f : X → Y) (xs : List X) (n : ℕ) (x : X) → slice_get xs n ≡ Some x → slice_get (map f xs) n ≡ Some (f x)
slice_mapped f [] n x is = absurd (cc)
slice_mapped f (y ∷ xs) zero x is = ap (λ z. Some (f z)) (same_some is)
slice_mapped f (y ∷ xs) (suc n) x is = slice_mapped f xs n x is

pub has_some : (a : Bool) (xs : List Offer) (n : ℕ) (x : Offer) → slice_get xs n ≡ Some x → (a || is_some_list xs) ≡ true
has_some true xs n x is = refl
has_some false [] n x is = absurd (cc)
has_some false (y ∷ xs) n x is = refl

-- ---- behaviours at their places

pub place_within : {X : Type 0} (xs : List X) (n : ℕ) (x : X) → slice_get xs n ≡ Some x → n < length xs
place_within [] n x is = absurd (cc)
place_within (y ∷ xs) zero x is = omega arith
place_within (y ∷ xs) (suc n) x is = let rest = place_within xs n x is in omega arith

not_manager_by : (g : Setting) (n : ℕ) (b : Behaviour) (c : Bool) → (n == manager) ≡ c → n < 256 → slice_get g.plan.behaviours n ≡ Some b
    → (if c then factory_name ∷ [] else faces_in (slice_get g.plan.behaviours n)) ≡ b.faces
unfolding manager
not_manager_by g n b true is few at = let same = eqb-true n 256 is in absurd (omega arith)
not_manager_by g n b false is few at = ap faces_in at

-- the faces of a behaviour that is written
pub faces_are : (g : Setting) → IsGiven g → (n : ℕ) (b : Behaviour) → slice_get g.plan.behaviours n ≡ Some b → faces_of g.plan n ≡ b.faces
unfolding faces_of
faces_are g given n b at = let within = place_within g.plan.behaviours n b at in let few = given.behaviours in not_manager_by g n b (n == manager) refl (omega arith) at

pub root_interface : (g : Setting) → IsGiven g → IsInterface g.registry x_interface_name
root_interface g given = interface_type g.registry given.sound x_interface_name x_interface (interface_found g.registry given.built) refl

-- ---- what a name creates

pub record FreshFits (g : Setting) (n : ℕ) (values : List Plain) : Type 0 where
  pub fields : FieldsFit g.registry (as_variables (fields_of g n) values) (fields_of g n)
  pub root : supports g.registry (faces_of g.plan n) x_interface_name ≡ true

abbrev pub CreatedFits : Setting → Result Created Refusal → Type 0
CreatedFits g (Ok (fresh n fields)) = FreshFits g n fields
CreatedFits g (Ok (singleton place)) = Unit
CreatedFits g (Err why) = Unit

module _ (g : Setting) (given : IsGiven g) (args : List Plain) (fits : FitAll g.registry (plains args) kd.any) where
  fresh_fits : (o : Offer) (xs : List Variable) (service : ServiceFits g.registry g.plan o) → AllByRecursion (TakesPlace g.registry service.behaviour) xs
      → FreshFits g o.behaviour (fields_with g.registry xs (fields_of_behaviour (slice_get g.plan.behaviours o.behaviour)))
  fresh_fits o xs service all =
      let typed = all_at_place (IsTypedBehaviour g.registry g.plan) g.plan.behaviours o.behaviour service.behaviour given.typed service.found in
      let differ = all_at_place FieldsDiffer g.plan.behaviours o.behaviour service.behaviour given.fields service.found in
      let fit = fields_fit g.registry given.sound service.behaviour differ xs all typed.fields in
      record {
        fields =
            subst (λ b. FieldsFit g.registry (as_variables (fields_of_behaviour b) (fields_with g.registry xs (fields_of_behaviour b))) (fields_of_behaviour b)) (sym service.found) fit;
        root = subst (λ faces. supports g.registry faces x_interface_name ≡ true) (sym (faces_are g given o.behaviour service.behaviour service.found)) service.root;
      }

  service_by : (o : Offer) (xs : Option (List Variable)) (service : ServiceFits g.registry g.plan o) → first_filled g.registry (constructors_of (find_entity o.name g.registry)) args ≡ xs
      → OnEach g.registry service.behaviour xs → CreatedFits g (of_service g.registry g.plan o args)
  service_by o None service is all = rw is tt
  service_by o (Some xs) service is all = let made = fresh_fits o xs service all in rw is made

  singleton_by : (place : ℕ) (more : List Plain) → CreatedFits g (of_singleton place more)
  singleton_by place [] = tt
  singleton_by place (arg ∷ more) = tt

  among_by : (b : Bool) (place : ℕ) (why : Refusal) → CreatedFits g (if b then of_singleton place args else Err why)
  among_by true place why = singleton_by place args
  among_by false place why = tt

  created_by : (name : List ℕ) (o : Option Offer) → find (has_name name) g.plan.services ≡ o → CreatedFits g (created g.plan g.registry name args)
  unfolding created
  created_by name None is = let among = among_by (list_any (has_name name) g.plan.singletons) (position_or_len (has_name name) g.plan.singletons) _ in rw is among
  created_by name (Some o) is =
      let service = found_all (ServiceFits g.registry g.plan) (has_name name) g.plan.services o given.services is in
      let made = service_by o (first_filled g.registry (constructors_of (find_entity o.name g.registry)) args) service refl
      (first_fits g.registry given.sound service.behaviour (constructors_of (find_entity o.name g.registry)) args service.serves fits) in
      rw is made

  pub created_fits : (name : List ℕ) → CreatedFits g (created g.plan g.registry name args)
  created_fits name = created_by name (find (has_name name) g.plan.services) refl
