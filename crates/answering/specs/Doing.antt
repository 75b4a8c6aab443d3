-- The first thing that can be done before an end is fed.
use Rattle.std.specs.Prelude.{◌≡◌, ℕ, List, [], ◌∷◌, ◌++◌, Option, None, Some}
use Rattle.plan_model.specs.Roots.{Run}
use Rattle.bridge_model.specs.Answers.{ready_at, may_reap, drained_next}
use Rattle.bridge_model.specs.Entries.{Entry, applied, reaped, drained}
use Rattle.bridge_model.specs.Histories.{Told, bytes_drained}
use Rattle.bridge_model.specs.Orders.{root_move, or_full, most_drained}
use Rattle.bridge_model.specs.Settings.{Setting}
use Rattle.bridge_model.specs.Sides.{Side}
use Rattle.bridge_laws.specs.Working.{AllIsDone, IsInOrder}

-- a statement of the oldest method that is ready; else the move of the lowest root that moves; else the lowest object that may go; else the next bytes: with what
-- roots there are then, and with its entry
pub data First (g : Setting) (s : Side) (runs : List Run) : List Run → Option Entry → Type 0 where
  of_method : (tid : List ℕ) → ready_at s 0 ≡ Some tid → First g s runs runs (Some (or_full s (applied tid)))
  of_root : ready_at s 0 ≡ None → (next : List Run) → (x : Option Entry) → root_move g s runs ≡ Some (record { runs = next; entry = x }) → First g s runs next x
  of_object : ready_at s 0 ≡ None → root_move g s runs ≡ None → (n : ℕ) → may_reap g s ≡ Some n → First g s runs runs (Some (reaped n))
  of_bytes : ready_at s 0 ≡ None → root_move g s runs ≡ None → may_reap g s ≡ None → (b : ℕ) → (more : List ℕ) → drained_next g most_drained s ≡ b ∷ more
      → First g s runs runs (Some (drained (b ∷ more)))

-- the bytes that go out with it
abbrev pub bytes_with : Option Entry → List ℕ
bytes_with None = []
bytes_with (Some e) = bytes_drained e

-- a front of a piece, up to where it may be cut, or a limit, keeps an end in order
pub record Feeds (g : Setting) (t u : Told) (piece left : List ℕ) : Type 0 where
  pub order : (bytes more : List ℕ) → (runs : List Run) → AllIsDone g t.side runs → IsInOrder g bytes t runs (piece ++ more) → IsInOrder g bytes u runs (left ++ more)
  pub out : u.bytes_out ≡ t.bytes_out

-- the input has ended, and all is done
pub record Closes (g : Setting) (t u : Told) (runs next : List Run) : Type 0 where
  pub order : (bytes : List ℕ) → IsInOrder g bytes t runs [] → IsInOrder g bytes u next []
  pub done : AllIsDone g u.side next
  pub out : u.bytes_out ≡ t.bytes_out
