-- What is wrong with the names of files, each fault with its place, and the verdict: what each name stands for, or the fault that comes first.
use Rattle.std.specs.Prelude.{◌≡◌, ℕ, Bool, true, false, not, ◌&&◌, ◌||◌, List, [], ◌∷◌, ◌++◌, map, is_none, Option, None, Some, Result, Ok, Err, Contains, if◌then◌else◌}
use Rattle.std.specs.List.{filter, flat_map, list_any}
use Rattle.std.specs.Str.{bytes_eq}
use Rattle.uno_model.specs.BuiltIn.{built_in}
use Rattle.uno_model.specs.Sound.{is_there, is_interface}
use Rattle.idl_model.specs.Places.{Place, is_before}
use Rattle.idl_model.specs.Trees.{Declaration, interface, Tree}
use Rattle.idl_meaning_model.specs.Declarations.{Declared, declarations, entities_declared, full_name, is_forward}
use Rattle.idl_meaning_model.specs.Scopes.{is_built_in}
use Rattle.idl_meaning_model.specs.Uses.{uses, path_of, stands_for, types_in, floats}

-- a name that is declared nowhere; one that is declared twice, with the place of its first declaration, if it is not built in; a type that there is not
pub data NameFault : Type 0 where
  unknown : NameFault
  twice : Option Place → NameFault
  float_refused : NameFault

-- ---- names that stand for nothing

unfoldable pub unknown_uses : List Declared → List (Place × NameFault)
unknown_uses ds = map (λ u. ((path_of u.used).place, unknown)) (filter (λ u. is_none (stands_for ds u)) (uses ds))

-- the interface of a forward declaration is declared, or built in
abbrev pub is_interface_declaration : Declaration → Bool
is_interface_declaration (interface base members) = true
is_interface_declaration _ = false

abbrev pub has_interface : List Declared → List ℕ → Bool
has_interface ds name = is_there built_in is_interface name || list_any (λ d. is_interface_declaration d.body && bytes_eq name (full_name d)) ds

unfoldable pub forward_alone : List Declared → List (Place × NameFault)
forward_alone ds = map (λ d. (d.name.place, unknown)) (filter (λ d. is_forward d.body && not (has_interface ds (full_name d))) ds)

-- ---- names that are declared twice

-- all places where an entity of this name is declared
abbrev pub places_declared : List Declared → List ℕ → List Place
places_declared ds name = map (λ d. d.name.place) (filter (λ d. bytes_eq name (full_name d)) (entities_declared ds))

abbrev pub first_place : Place → Option Place → Place
first_place p None = p
first_place p (Some q) = q

-- the first of the places that come before this one
unfoldable pub first_before : Place → List Place → Option Place
first_before place [] = None
first_before place (p ∷ ps) = if is_before p place then Some (first_place p (first_before p ps)) else first_before place ps

abbrev pub twice_by : Bool → Place → Option Place → List (Place × NameFault)
twice_by true place first = (place, twice None) ∷ []
twice_by false place None = []
twice_by false place (Some first) = (place, twice (Some first)) ∷ []

-- an entity that is built in, or declared at a place before
unfoldable pub declared_twice : List Declared → List (Place × NameFault)
declared_twice ds =
    flat_map (λ d. twice_by (is_built_in (full_name d)) d.name.place (first_before d.name.place (places_declared ds (full_name d)))) (entities_declared ds)

-- ---- all faults, and the verdict

unfoldable pub refused_types : List Declared → List (Place × NameFault)
refused_types ds = map (λ p. (p, float_refused)) (flat_map (λ d. flat_map floats (types_in d.body)) ds)

abbrev pub faults_among : List Declared → List (Place × NameFault)
faults_among ds = unknown_uses ds ++ (forward_alone ds ++ (declared_twice ds ++ refused_types ds))

unfoldable pub faults : List Tree → List (Place × NameFault)
faults trees = faults_among (declarations trees)

-- what each name that is used stands for, by the place of its first token
abbrev pub name_told : Place → Option (List ℕ) → List (Place × List ℕ)
name_told place None = []
name_told place (Some name) = (place, name) ∷ []

unfoldable pub names_told : List Tree → List (Place × List ℕ)
names_told trees = flat_map (λ u. name_told (path_of u.used).place (stands_for (declarations trees) u)) (uses (declarations trees))

-- it is one of the faults, and no other comes before it
pub record IsFirstFault (trees : List Tree) (place : Place) (fault : NameFault) : Type 0 where
  pub one : Contains (faults trees) (place, fault)
  pub first : (other : Place × NameFault) → Contains (faults trees) other → is_before other.0 place ≡ false

-- the names of files are resolved, or refused for the first fault
abbrev pub IsResolved : List Tree → Result (List (Place × List ℕ)) (Place × NameFault) → Type 0
IsResolved trees (Ok names) = (faults trees ≡ []) × (names ≡ names_told trees)
IsResolved trees (Err fault) = IsFirstFault trees fault.0 fault.1
