-- Objects whose fields fit, and have references that are fine; those of the beginning are there.
use Rattle.std.specs.Prelude.{◌≡◌, ℕ, suc, ◌≤◌, ◌<◌, true, List, Some, slice_get}
use Rattle.std.specs.List.{AllByRecursion}
use Rattle.plan_model.specs.Plans.{first_objects}
use Rattle.plan_typing.specs.Scenes.{FieldsFit}
use Rattle.bridge_laws.specs.Counting.{total}
use Rattle.bridge_model.specs.Objects.{object_supports, fields_of, as_variables}
use Rattle.bridge_model.specs.References.{refs_of_values}
use Rattle.bridge_model.specs.Settings.{Setting}
use Rattle.bridge_model.specs.Sides.{Object}
use Rattle.bridge_laws.proofs.Fine.{wrong}
use Rattle.bridge_laws.proofs.FramesFit.{behaviour_at}

-- an object is one of those that were made, and its fields fit those of its behaviour
pub record ObjectFits (g : Setting) (made : ℕ) (o : Object) : Type 0 where
  pub least : 1 ≤ o.number
  pub most : o.number ≤ made
  pub fields : FieldsFit g.registry (as_variables (fields_of g o.behaviour) o.fields) (fields_of g o.behaviour)

-- how many references in its fields are not fine
unfoldable pub object_wrong : Setting → List Object → Object → ℕ
object_wrong g os o = total (wrong g os) (refs_of_values o.fields)

pub record ObjectsFit (g : Setting) (os : List Object) (made : ℕ) : Type 0 where
  pub each : AllByRecursion (ObjectFits g made) os
  pub fine : total (object_wrong g os) os ≡ 0
  pub first : (n k : ℕ) → n < made → slice_get (first_objects g.plan) n ≡ Some k → behaviour_at (suc n) os ≡ Some k
  pub few : made ≤ 2000000

-- objects keep their behaviours, and support what they supported
pub record Lasts (g : Setting) (os now : List Object) : Type 0 where
  pub behaves : (n k : ℕ) → behaviour_at n os ≡ Some k → behaviour_at n now ≡ Some k
  pub supported : (oid face : List ℕ) → object_supports g oid face os ≡ true → object_supports g oid face now ≡ true
