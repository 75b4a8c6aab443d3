-- The built-in entities alone are a sound registry.
use Rattle.std.proofs.Common.{◌≡◌, ℕ, ◌≤◌, zero, suc, Bool, true, false, List, [], ◌∷◌, length, Option, None, Some, refl, subst, arith, if◌then◌else◌}
use Rattle.std.specs.List.{list_all}
use Rattle.std.specs.Str.{bytes_eq}
use Rattle.uno_model.specs.BuiltIn.{built_in, disposed_exception, factory, base_exception, runtime_exception, x_interface}
use Rattle.uno_model.specs.Circles.{HasNoCircle, ends_within}
use Rattle.uno_model.specs.Entities.{Entity}
use Rattle.uno_model.specs.Functions.{functions_of, is_met, visit_all, met_within}
use Rattle.uno_model.specs.Names.{parts_of}
use Rattle.uno_model.specs.Registry.{find_entity, leads_to, leads_to_body, members_within}
use Rattle.uno_model.specs.Sound.{IsSound, HasFewFunctions, all_differ}
use Rattle.uno_model.proofs.CircleLaws.{ends_no_circle}

-- each way from a name ends within four steps: from DisposedException over RuntimeException to Exception
abbrev EndsFrom : Option Entity → Type 0
EndsFrom o = list_all (ends_within (leads_to built_in) 4) (leads_to_body o) ≡ true

ends_from_each : (name : List ℕ) → EndsFrom (find_entity name built_in)
unfolding find_entity ends_within
ends_from_each name = first (bytes_eq name disposed_exception.name)
  where
    fifth : (t : Bool) → EndsFrom (if t then Some x_interface else None)
    fifth true = refl
    fifth false = refl

    fourth : (t : Bool) → EndsFrom (if t then Some runtime_exception else find_entity name (x_interface ∷ []))
    fourth true = refl
    fourth false = fifth (bytes_eq name x_interface.name)

    third : (t : Bool) → EndsFrom (if t then Some base_exception else find_entity name (runtime_exception ∷ (x_interface ∷ [])))
    third true = refl
    third false = fourth (bytes_eq name runtime_exception.name)

    second : (t : Bool) → EndsFrom (if t then Some factory else find_entity name (base_exception ∷ (runtime_exception ∷ (x_interface ∷ []))))
    second true = refl
    second false = third (bytes_eq name base_exception.name)

    first : (t : Bool) → EndsFrom (if t then Some disposed_exception else find_entity name (factory ∷ (base_exception ∷ (runtime_exception ∷ (x_interface ∷ [])))))
    first true = refl
    first false = second (bytes_eq name factory.name)

built_in_no_circle : HasNoCircle (leads_to built_in)
unfolding ends_within
built_in_no_circle name way = ends_no_circle (leads_to built_in) 5 name (ends_from_each name) way

few : (d e : Entity) → d ≡ e → length (functions_of built_in d.name) ≤ 65536 → length (functions_of built_in e.name) ≤ 65536
few d e same is = subst (λ x. length (functions_of built_in x.name) ≤ 65536) same is

-- none has more than six functions
built_in_few : HasFewFunctions built_in
unfolding met_within visit_all is_met find_entity
built_in_few e (zero, low, is) = few disposed_exception e is (omega arith)
built_in_few e (suc zero, low, is) = few factory e is (omega arith)
built_in_few e (suc (suc zero), low, is) = few base_exception e is (omega arith)
built_in_few e (suc (suc (suc zero)), low, is) = few runtime_exception e is (omega arith)
built_in_few e (suc (suc (suc (suc zero))), low, is) = few x_interface e is (omega arith)
built_in_few e (suc (suc (suc (suc (suc k)))), low, is) = absurd (omega (arith, low))

pub built_in_sound : IsSound built_in
unfolding all_differ find_entity members_within parts_of
built_in_sound =
    record {
      named = refl;
      differ = refl;
      bases = refl;
      raises = refl;
      services = refl;
      types = refl;
      allowed = refl;
      complete = refl;
      members = refl;
      limits = refl;
      functions = built_in_few;
      no_circle = built_in_no_circle;
    }
