-- The numbers of objects: to each object that is made the next one is given, and to none a number that was given before.
use Rattle.std.specs.Prelude.{◌≡◌, ℕ, ◌≤◌, ◌==◌, List, Option, None, Some}
use Rattle.table_model.specs.Bags.{how_many}
use Rattle.bridge_model.specs.Objects.{object_numbered, object_named}
use Rattle.bridge_model.specs.Settings.{Setting}
use Rattle.bridge_model.specs.Sides.{Object, Tables}

-- how many of the objects that live have a number
abbrev pub living_with : ℕ → List Object → ℕ
living_with n os = how_many (λ o. n == o.number) os

-- numbers are given from 1 on: no two objects that live have the same one, and none has one that was not given
pub record AreNumbered (t : Tables) : Type 0 where
  pub one : (n : ℕ) → living_with n t.objects ≤ 1
  pub given : (n : ℕ) → 1 ≤ living_with n t.objects → (1 ≤ n) × (n ≤ t.objects_made)

-- the behaviour of an object that lives: by its number, and by its identity
abbrev pub behaviour_in : Option Object → Option ℕ
behaviour_in None = None
behaviour_in (Some o) = Some o.behaviour

abbrev pub behaviour_numbered : ℕ → List Object → Option ℕ
behaviour_numbered n os = behaviour_in (object_numbered n os)

abbrev pub behaviour_named : Setting → List ℕ → List Object → Option ℕ
behaviour_named g oid os = behaviour_in (object_named g oid os)

-- later tables: an object that lives, and whose number was given before, lived before and had the behaviour that it has
pub record KeepsObjects (before now : Tables) : Type 0 where
  pub made : before.objects_made ≤ now.objects_made
  pub same : (n behaviour : ℕ) → n ≤ before.objects_made → behaviour_numbered n now.objects ≡ Some behaviour → behaviour_numbered n before.objects ≡ Some behaviour
