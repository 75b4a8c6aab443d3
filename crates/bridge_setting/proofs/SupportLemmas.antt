-- Which objects support an interface.
use Rattle.std.proofs.Common.{◌≡◌, ◌≢◌, ℕ, Bool, true, false, ◌||◌, ◌==◌, List, IsTrue, length, ◌↔◌, refl, sym, slice_get, arith}
use Rattle.plan_model.specs.Plans.{Plan, manager, faces_in, faces_of, supports}
use Rattle.uno_model.specs.BuiltIn.{factory_name}
use Rattle.uno_model.specs.Entities.{Entity}
use Rattle.uno_model.proofs.ReachesLaws.{reaches_bases}
use Rattle.uno_model.specs.Reaches.{is_base_of}
use Rattle.uno_model.specs.Registry.{IsBaseOf}
use Rattle.uno_model.specs.Sound.{IsSound}

-- the service manager has one face
pub manager_supports : (reg : List Entity) (p : Plan) (n : ℕ) (wanted : List ℕ) (b : Bool) → n ≡ 256 → b ≡ is_base_of reg wanted factory_name → b ≡ supports reg (faces_of p n) wanted
unfolding supports faces_of manager
manager_supports reg p n wanted b is same = rw (is, same) (one (is_base_of reg wanted factory_name))
  where
    one : (b : Bool) → b ≡ (b || false)
    one true = refl
    one false = refl

-- any other behaviour has those that are written
pub behaviour_supports : (reg : List Entity) (p : Plan) (n : ℕ) (wanted : List ℕ) (b : Bool) → n ≢ 256 → b ≡ supports reg (faces_in (slice_get p.behaviours n)) wanted
    → b ≡ supports reg (faces_of p n) wanted
unfolding faces_of manager
behaviour_supports reg p n wanted b other same = rw (not_manager) same
  where
    not_manager : (n == 256) ≡ false
    not_manager = grind arith

-- two tests of one fact answer the same
same_truth : {B : Type 0} (a b : Bool) → (IsTrue a ↔ B) → ((b ≡ true) ↔ B) → a ≡ b
same_truth true true x y = refl
same_truth false false x y = refl
same_truth true false x y = let bad : false ≡ true = y.1 (x.0 refl) in sym bad
same_truth false true x y = x.1 (y.0 refl)

pub base_told : (reg : List Entity) (base name : List ℕ) (answer : Bool) → IsSound reg → (IsTrue answer ↔ IsBaseOf reg base name) → answer ≡ is_base_of reg base name
unfolding is_base_of
base_told reg base name answer sound told = same_truth answer (is_base_of reg base name) told (reaches_bases (length reg) reg base name sound.no_circle refl)
