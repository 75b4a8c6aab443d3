-- Bytes as they are written in hexadecimal digits, and what is seen of a journal.
use Rattle.std.proofs.Common.{ℕ, ◌+◌, ◌*◌, ◌-◌, nat_lt, ◌==◌, List, [], ◌∷◌, length, Option, option_map, if◌then◌else◌}
use Rattle.bridge_model.specs.Entries.{Entry}
use Rattle.bridge_model.specs.Going.{waiting_bytes}
use Rattle.bridge_model.specs.Histories.{replay}
use Rattle.bridge_model.specs.Settings.{Setting}
use Rattle.bridge_model.specs.Sides.{Side}
use Rattle.bridge_model.specs.declared.cause.Cause.{Cause}

abbrev digit : ℕ → ℕ
digit c = if nat_lt c 58 then c - 48 else c - 55

-- two digits a byte, with blanks between bytes where one wants them
abbrev pub hex : List ℕ → List ℕ
hex [] = []
hex (c ∷ []) = []
hex (c ∷ (d ∷ cs)) = if c == 32 then hex (d ∷ cs) else (digit c * 16 + digit d) ∷ hex cs

-- the bytes that wait, how many stubs, occurrences, objects and stacks there are, and why the bridge has ended
pub record Seen : Type 0 where
  pub waiting : List ℕ
  pub stubs : ℕ
  pub held : ℕ
  pub objects : ℕ
  pub stacks : ℕ
  pub cause : Option Cause

abbrev pub seen_of : Setting → Side → Seen
seen_of g s =
    record {
      waiting = waiting_bytes g s;
      stubs = length s.tables.stubs;
      held = length s.tables.holdings;
      objects = length s.tables.objects;
      stacks = length s.stacks;
      cause = s.cause;
    }

-- what is seen behind a journal, if it is one
abbrev pub seen : Setting → List Entry → Option Seen
seen g es = option_map (λ x. seen_of g x.side) (replay g es)
