-- A trail from an entity up to what stands on it alone, with the names that were seen on the way.
use Rattle.std.specs.Prelude.{◌≡◌, ℕ, ◌≤◌, Bool, true, List, [], ◌∷◌, length, take, Some, slice_get}
use Rattle.uno_model.specs.Entities.{Entity}
use Rattle.rules_over_bases.specs.Known.{names_over}
use Rattle.rules_over_bases.specs.Occurring.{occurs}
use Rattle.rules_over_bases.specs.Seen.{HasSeen}
use Rattle.rules_over_bases.specs.declared.seen.Seen.{Seen}
use Rattle.rules_over_bases.specs.declared.trail.Step.{Step}
use Rattle.rules_over_bases.specs.declared.trail.Trail.{Trail}

-- the entity at the place has these names over its bases, each as often
abbrev pub AreOver : List Entity → ℕ → List (List ℕ) → Type 0
AreOver reg place names = (e : Entity) → slice_get reg place ≡ Some e → (asked : List ℕ) → occurs asked names ≡ occurs asked (names_over reg e.name)

-- each step was made when the first names, no fewer than at the step before it, were those over its entity
unfoldable pub Climbs : List Entity → List (List ℕ) → ℕ → List Step → Type 0
Climbs reg names low [] = low ≤ length names
Climbs reg names low (step ∷ steps) = (low ≤ step.names) × AreOver reg step.place (take step.names names) × Climbs reg names step.names steps

-- the names that were seen are those of the trail, with others behind them
pub record Follows (reg : List Entity) (trail : Trail) : Type 0 where
  pub names : List (List ℕ)
  pub seen : HasSeen trail.seen names
  pub steps : Climbs reg names 0 trail.steps.items

-- the names that were seen are those over the entity at the place
pub record StandsAt (reg : List Entity) (trail : Trail) (place : ℕ) : Type 0 where
  pub names : List (List ℕ)
  pub seen : HasSeen trail.seen names
  pub steps : Climbs reg names 0 trail.steps.items
  pub over : AreOver reg place names

-- what a trail follows stays, and where the entity at the place was found the trail ends there
pub record GoesBack (old new : Trail) (place : ℕ) (found : Bool) : Type 0 where
  pub follows : (reg : List Entity) → Follows reg old → Follows reg new
  pub stands : (reg : List Entity) → Follows reg old → found ≡ true → StandsAt reg new place

-- some names were seen, and where the answer says so they are those over the entity at the place
pub record SeenOver (reg : List Entity) (place : ℕ) (seen : Seen) (answer : Bool) : Type 0 where
  pub names : List (List ℕ)
  pub has_seen : HasSeen seen names
  pub over : answer ≡ true → AreOver reg place names
