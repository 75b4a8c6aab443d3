-- The second rule: no entity leads back to itself, over bases, contained structs or typedefs, and no constant or item over what gives its value.
use Rattle.std.specs.Prelude.{ℕ, zero, suc, Bool, false, not, ◌||◌, List, [], ◌∷◌, ◌++◌, length}
use Rattle.std.specs.List.{list_any}
use Rattle.std.specs.Str.{bytes_eq}
use Rattle.uno_model.specs.Entities.{Entity}
use Rattle.registry_text_model.specs.NoCircles.{leads_on_to}
use Rattle.idl_model.specs.Places.{Place, is_at}
use Rattle.idl_meaning_model.specs.Declarations.{Declared, full_name, Valued, valued_in, all_valued}
use Rattle.idl_meaning_model.specs.ConstantsMeant.{leads_to_valued}
use Rattle.idl_rules_model.specs.WherePaths.{failing}

-- a way of at most so many steps leads to what is wanted
unfoldable pub comes_to : {X : Type 0} → (X → List X) → (X → Bool) → ℕ → X → Bool
comes_to next wanted zero a = false
comes_to next wanted (suc steps) a = list_any (λ b. wanted b || comes_to next wanted steps b) (next a)

-- a way back that comes to nothing twice has no more steps than there are entities, or constants
unfoldable pub entity_comes_back : List Entity → List ℕ → Bool
entity_comes_back reg name = comes_to (leads_on_to reg) (bytes_eq name) (length reg) name

unfoldable pub value_comes_back : List Valued → Valued → Bool
value_comes_back vs v = comes_to (leads_to_valued vs) (λ other. is_at other.name.place v.name.place) (length vs) v

-- at the name of a declaration, constant or item that is on a circle
unfoldable pub on_circles : List Declared → List Entity → Declared → List Place
on_circles ds reg d =
    failing (λ e. not (entity_comes_back reg (full_name e))) (λ e. e.name.place) (d ∷ [])
    ++ failing (λ v. not (value_comes_back (all_valued ds) v)) (λ v. v.name.place) (valued_in d d.body)
