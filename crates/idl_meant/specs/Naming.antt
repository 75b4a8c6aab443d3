-- What names and types stand for, by the numbers of paths.
use Rattle.std.specs.Prelude.{◌≡◌, ℕ, ◌<◌, ◌≤◌, true, List, length, get_or, is_some, IfSome, Option, Some, None}
use Rattle.idl_meaning_model.specs.Meaning.{name_meant, path_meant, type_meant}
use Rattle.idl_meaning_model.specs.Scopes.{is_entity}
use Rattle.idl_meant.specs.Owning.{AreOwners}
use Rattle.idl_meant.specs.Resolving.{all_in, modules_at}
use Rattle.idl_meant.specs.Shaping.{bound_of}
use Rattle.idl_meant.specs.Typing.{shape_kind}
use Rattle.idl_meant.specs.Using.{AreHeld}
use Rattle.idl_meant.specs.declared.names.Names.{Names}
use Rattle.idl_meant.specs.declared.shapes.Shape.{Shape}
use Rattle.idl_model.specs.Places.{Place}
use Rattle.idl_model.specs.Trees.{Path, WrittenType}
use Rattle.idl_names.specs.Standing.{AreOnce, IsRight, name_at}
use Rattle.idl_names.specs.declared.resolving.Resolved.{Resolved}
use Rattle.idl_types.specs.Bodies.{bodies_of, steps_below, told_at}
use Rattle.idl_types.specs.Steps.{most}
use Rattle.idl_values.specs.Told.{number_at, number_told}
use Rattle.registry_reading_model.specs.Kept.{cut}
use Rattle.typedef_chains.specs.Chains.{IsEnd}
use Rattle.uno_model.specs.Kinds.{Kind}
use Rattle.uno_model.specs.Kinds as kd

-- names are told as they are resolved
pub record NamesMeant (r : Resolved) (names : Names) : Type 0 where
  pub once : AreOnce r.paths
  pub told : (p : Place) → number_at names.told.numbers p ≡ number_told r.names.items p
  pub uses : AreHeld r.declared.items names.uses
  pub owners : AreOwners r.declared.items names.owners.items
  pub ends : (n : ℕ) → n < length r.paths → IsEnd (steps_below (told_at names.told) (bodies_of r.declared.items) names.owners.items (length r.paths)) most n (get_or names.ends.items n None)

-- an answer is right, and there is one where it is due
abbrev pub IsAnswer : {X : Type 0} → Type 0 → (X → Type 0) → Option X → Type 0
IsAnswer due right answer = IfSome answer right × (due → is_some answer ≡ true)

-- the number is that of the path of the entity which a path names in these modules
pub record Stands (r : Resolved) (modules : ℕ) (path : Path) (n : ℕ) : Type 0 where
  pub right : IsRight r.paths (Some n)
  pub name : name_at r.paths n ≡ name_meant (all_in r) (modules_at r modules) path
  pub entity : is_entity (all_in r) (name_at r.paths n) ≡ true

-- the shape is that of a type, of which no more than 65 sequences are kept
pub record IsShapeOf (r : Resolved) (owners : List (Option ℕ)) (k : Kind) (s : Shape) : Type 0 where
  pub kind : cut k ≡ shape_kind r.paths r.declared.items owners s
  pub low : bound_of s.leaf ≤ length r.paths

abbrev pub HasPathShape : Resolved → List (Option ℕ) → ℕ → Path → Shape → Type 0
HasPathShape r owners modules path = IsShapeOf r owners (path_meant (all_in r) (modules_at r modules) path)

abbrev pub HasShape : Resolved → List (Option ℕ) → ℕ → WrittenType → Shape → Type 0
HasShape r owners modules t = IsShapeOf r owners (type_meant (all_in r) (modules_at r modules) t)

abbrev pub HasSequenceShape : Resolved → List (Option ℕ) → ℕ → WrittenType → Shape → Type 0
HasSequenceShape r owners modules t = IsShapeOf r owners (kd.sequence (type_meant (all_in r) (modules_at r modules) t))
