-- What `answer` wrote, and why it stopped.
use Rattle.std.specs.Prelude.{◌≡◌, ℕ, Bool, true, false, List, [], ◌++◌, Option, None, Some}
use Rattle.std.specs.Io.KnownBytes.{Appends, Consumes}
use Rattle.uno_io.specs.Fronts.{AppendsFront}
use Rattle.plan_model.specs.Roots.{Run}
use Rattle.bridge_model.specs.Answers.{awaits_input}
use Rattle.bridge_model.specs.Histories.{Told}
use Rattle.bridge_model.specs.Settings.{Setting}
use Rattle.bridge_model.specs.Sides.{stands}
use Rattle.bridge_model.specs.declared.cause.Cause.{Cause}
use Rattle.bridge_laws.specs.Working.{AllIsDone, IsDone, IsInOrder}

-- a source that tells had these bytes at its front, and has them no more
abbrev pub WasRead : Option (List ℕ) → Option (List ℕ) → List ℕ → Type 0
WasRead (Some old) (Some new) bytes = old ≡ bytes ++ new
WasRead (Some old) None bytes = ⊥
WasRead None new bytes = ⊥

-- a source that tells what it has left goes on telling it: it has lost a front
pub record GoesOnTelling (old new : Option (List ℕ)) : Type 0 where
  pub front : List ℕ
  pub consumed : Consumes old new front

-- whether these bytes, which were read, are all; the bridge may have ended before, whatever was to come behind them
pub data Had (read : List ℕ) : Bool → List ℕ → Type 0 where
  no_more : Had read true read
  more : (rest : List ℕ) → Had read false (read ++ rest)

-- with any such bytes the order of `answer` ends where this was told; all that went out was taken; and this is why the bridge has ended
pub record AnsweredWhole (g : Setting) (read : List ℕ) (all : Bool) (old new : Option (List ℕ)) (cause : Cause) : Type 0 where
  pub told : Told
  pub done : (bytes : List ℕ) → Had read all bytes → IsDone g bytes told
  pub written : Appends old new told.bytes_out
  pub ended : told.side.cause ≡ Some cause

-- the bytes were the last; with them all was done, and this is whether the bridge awaited more
pub record InputEnded (g : Setting) (read : List ℕ) (cut : Bool) : Type 0 where
  pub told : Told
  pub runs : List Run
  pub order : IsInOrder g read told runs []
  pub done : AllIsDone g told.side runs
  pub stood : stands told.side ≡ true
  pub awaited : awaits_input told.side ≡ cut

-- a history in that order with bytes of which these are the front, and a front of what went out in it was taken
pub record AnsweredPart (g : Setting) (read : List ℕ) (old new : Option (List ℕ)) : Type 0 where
  pub told : Told
  pub runs : List Run
  pub left : List ℕ
  pub order : (more : List ℕ) → IsInOrder g (read ++ more) told runs (left ++ more)
  pub written : AppendsFront old new told.bytes_out
