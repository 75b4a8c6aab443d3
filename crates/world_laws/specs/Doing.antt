-- Which pairings moves lead to, and what it is that a move can be done.
use Rattle.std.specs.Prelude.{◌≡◌, ℕ, Option, Some}
use Rattle.world_model.specs.Moves.{Move}
use Rattle.world_model.specs.Pairs.{Pairing, begins_pair, does, does_some}
use Rattle.world_model.specs.Worlds.{Settings}

-- moves one after the other lead to it, whichever are chosen
pub data IsReached (g : Settings) (seed : Option ℕ) (cut : ℕ) : Pairing → Type 0 where
  at_first : IsReached g seed cut (begins_pair g seed)
  at_next : (p next : Pairing) → IsReached g seed cut p → (m : Move) → does_some g cut p (Some m) ≡ Some next → IsReached g seed cut next

abbrev pub CanBeDone : Settings → (cut : ℕ) → Pairing → Move → Type 0
CanBeDone g cut p m = (after : Pairing) × (does g cut p m ≡ Some after)
