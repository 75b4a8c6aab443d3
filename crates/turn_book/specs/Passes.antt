-- What a contract says of a pass.
use Rattle.std.specs.Prelude.{◌≡◌, ℕ, ◌<◌, List, [], ◌∷◌, length, Option, Some, None}
use Rattle.atomic_table.specs.declared.shared.Shared.{Shared}
use Rattle.std.specs.declared.snapshot.Snapshot.{Snapshot}
use Rattle.atomic_table.specs.declared.shared.Seat.{Seat}
use Rattle.turn_book.specs.declared.view.View.{View}
use Rattle.turn_book.specs.declared.view.Stage.TheVariants.{Idle, Turns}
use Rattle.turn_book.specs.History.{numbers_of}

module _ {B I F : Type 0} where
  -- the items that the pass has seen
  abbrev pub seen : Seat (Option B) (View I F) → List I
  seen p = p.me.0.seen

  -- its own items, number by number
  abbrev pub own : Seat (Option B) (View I F) → List (ℕ × List I)
  own p = p.me.0.own

  abbrev pub numbers : Seat (Option B) (View I F) → List ℕ
  numbers p = numbers_of p.me.0.own

  -- how many passes can still be split from it
  abbrev pub room : Seat (Option B) (View I F) → ℕ
  room p = p.me.0.room

module _ {B I F P : Type 0} (fixed : B → F) (lock : Shared (Option B) (View I F) (Snapshot B) P) where
  -- it is a pass of this lock
  pub record IsOf (p : Seat (Option B) (View I F)) : Type 0 where
    pub table : p.table_id ≡ lock.table_id
    pub fixed_is : p.me.0.fixed ≡ Some (fixed lock.key.value)
    pub numbered : 0 < length p.me.0.own

  -- the same, and no turn of it is out
  pub record Rests (p : Seat (Option B) (View I F)) : Type 0 where
    pub of_lock : IsOf p
    pub idle : p.me.0.stage ≡ Idle
    pub empty : p.me.1 ≡ []

  -- the same, and a turn of it is out
  pub record HasTurn (p : Seat (Option B) (View I F)) : Type 0 where
    pub of_lock : IsOf p
    pub ticket : ℕ
    pub turn : p.me.0.stage ≡ Turns ticket
    pub out : p.me.1 ≡ (0, None) ∷ []
