-- What may be done at an end, as code counts and names it.
use Rattle.std.specs.Prelude.{◌≡◌, ℕ, ◌-◌, ◌^◌, min, is_some, List, length, Some, slice_get}
use Rattle.plan_model.specs.Roots.{Run}
use Rattle.bridge_model.specs.Answers.{bytes_wait, may_reap, ready_at}
use Rattle.bridge_model.specs.Histories.{Told}
use Rattle.bridge_model.specs.Settings.{Setting}
use Rattle.world_model.specs.Moves as plain
use Rattle.world_model.specs.Moves.{applying, applies, stepping, reaps, drains, carries, closes, may_carry, may_close}
use Rattle.move_choice.specs.declared.choices.Choices.{Choices}
use Rattle.move_choice.specs.declared.choices.Deed.{Deed}
use Rattle.move_choice.specs.declared.choices.Deed.TheVariants as deed

-- as far as a u32 counts
abbrev pub counted : ℕ → ℕ
counted n = min n (2 ^ 32 - 1)

-- how much of each kind there is at an end, where the other is as it is
pub record AreChoices (g h : Setting) (one other : Told) (rs : List Run) (c : Choices) : Type 0 where
  pub ready : c.ready ≡ counted (length (applying one.side))
  pub moving : c.moving ≡ counted (length (stepping g one.side 0 rs))
  pub reaps : c.reaps ≡ is_some (may_reap g one.side)
  pub drains : c.drains ≡ bytes_wait g one.side
  pub carries : c.carries ≡ may_carry other one
  pub closes : c.closes ≡ may_close h other one

-- a deed as code names it: a thread by its place among those that are ready, and a root by its place among those that move
abbrev pub IsDeed : Setting → Told → List Run → plain.Deed → Deed → Type 0
IsDeed g one rs d (deed.Applies nth) = (tid : List ℕ) × (ready_at one.side nth ≡ Some tid) × (d ≡ applies tid)
IsDeed g one rs d (deed.Steps nth) = slice_get (stepping g one.side 0 rs) nth ≡ Some d
IsDeed g one rs d deed.Reaps = (object : ℕ) × (may_reap g one.side ≡ Some object) × (d ≡ reaps object)
IsDeed g one rs d deed.Drains = d ≡ drains
IsDeed g one rs d deed.Carries = d ≡ carries
IsDeed g one rs d deed.Closes = d ≡ closes
