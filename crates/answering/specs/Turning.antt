-- What turns of `answer` lead to, from one moment of an end to a later one.
use Rattle.std.specs.Prelude.{◌≡◌, ℕ, false, List, [], ◌++◌, Option, Some}
use Rattle.std.specs.Io.KnownBytes.{Appends}
use Rattle.message_model.specs.Said.{spell}
use Rattle.plan_model.specs.Roots.{Run}
use Rattle.uno_io.specs.Fronts.{AppendsFront}
use Rattle.bridge_model.specs.Histories.{Told}
use Rattle.bridge_model.specs.Settings.{Setting}
use Rattle.bridge_model.specs.Sides.{stands}
use Rattle.bridge_model.specs.declared.cause.Cause.TheVariants as cause
use Rattle.bridge_laws.specs.Working.{IsInOrder}

-- the bridge ended with its input, and all that was said went out
pub record IsClosed (g : Setting) (t : Told) : Type 0 where
  pub cause : t.side.cause ≡ Some cause.Ended
  pub quiet : t.side.stacks ≡ []
  pub all : spell g.registry t.said ≡ t.bytes_out

-- what is in order stays in order, whatever bytes are to come; what has ended stays so, and what is closed says no more; and what went out was taken
pub record Turns (g : Setting) (t u : Told) (runs next : List Run) (old new : Option (List ℕ)) : Type 0 where
  pub order : (bytes rest : List ℕ) → IsInOrder g bytes t runs rest → IsInOrder g bytes u next rest
  pub ended : stands t.side ≡ false → stands u.side ≡ false
  pub closed : IsClosed g t → IsClosed g u × (u.bytes_out ≡ t.bytes_out)
  pub out : List ℕ
  pub more : u.bytes_out ≡ t.bytes_out ++ out
  pub taken : Appends old new out

-- turns led on in order, and a front of what went out was taken
pub record Halts (g : Setting) (t : Told) (runs : List Run) (old new : Option (List ℕ)) : Type 0 where
  pub told : Told
  pub next : List Run
  pub order : (bytes rest : List ℕ) → IsInOrder g bytes t runs rest → IsInOrder g bytes told next rest
  pub closed : IsClosed g t → told.bytes_out ≡ t.bytes_out
  pub out : List ℕ
  pub more : told.bytes_out ≡ t.bytes_out ++ out
  pub taken : AppendsFront old new out

-- the same with a piece, of which so much is left
pub record Answers (g : Setting) (t u : Told) (runs next : List Run) (piece left : List ℕ) (old new : Option (List ℕ)) : Type 0 where
  pub order : (bytes more : List ℕ) → IsInOrder g bytes t runs (piece ++ more) → IsInOrder g bytes u next (left ++ more)
  pub out : List ℕ
  pub more : u.bytes_out ≡ t.bytes_out ++ out
  pub taken : Appends old new out

pub record HaltsIn (g : Setting) (t : Told) (runs : List Run) (piece : List ℕ) (old new : Option (List ℕ)) : Type 0 where
  pub told : Told
  pub next : List Run
  pub left : List ℕ
  pub order : (bytes more : List ℕ) → IsInOrder g bytes t runs (piece ++ more) → IsInOrder g bytes told next (left ++ more)
  pub out : List ℕ
  pub more : told.bytes_out ≡ t.bytes_out ++ out
  pub taken : AppendsFront old new out
