use Rattle.std.proofs.Common.{◌≡◌, ◌≤◌, ◌<◌, ℕ, Some}
use Rattle.std.specs.Prelude.{slice_get}
use Rattle.uno_model.specs.Entities.{Entity}
use Rattle.uno_model.specs.Registry.{own_members}
use Rattle.default_depths.specs.Depths.{deepest}
use Rattle.default_depths.proofs.shallow.are_members_shallow.Given as goal

-- the members of the entities so far are shallow
abbrev pub invariant-loop-entity : goal.invariant-loop-entity
invariant-loop-entity l = (p : ℕ) (e : Entity) → p < l.entity-index → slice_get l.registry p ≡ Some e → deepest l.registry (own_members (Some e)) ≤ 1023
