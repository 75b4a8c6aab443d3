-- Histories: the entries of a journal one after the other, and all that they told.
use Rattle.std.specs.Prelude.{◌≡◌, ℕ, List, [], ◌∷◌, ◌++◌, Option, None, Some}
use Rattle.message_model.specs.Messages.{Message}
use Rattle.bridge_model.specs.Entries.{Entry, fed, drained}
use Rattle.bridge_model.specs.Settings.{Setting}
use Rattle.bridge_model.specs.Sides.{Side}
use Rattle.bridge_model.specs.Steps.{Turn, step, opening}

-- a side, the messages that it got and said from the beginning, and the bytes that came in and went out
pub record Told : Type 0 where
  pub side : Side
  pub got : List Message
  pub said : List Message
  pub bytes_in : List ℕ
  pub bytes_out : List ℕ

abbrev pub nothing_told : Setting → Told
nothing_told g = record { side = opening g; got = []; said = []; bytes_in = []; bytes_out = [] }

abbrev pub bytes_fed : Entry → List ℕ
bytes_fed (fed b) = b
bytes_fed e = []

abbrev pub bytes_drained : Entry → List ℕ
bytes_drained (drained b) = b
bytes_drained e = []

abbrev pub told_more : Told → Entry → Turn → Told
told_more x e u =
    record {
      side = u.side;
      got = x.got ++ u.got;
      said = x.said ++ u.said;
      bytes_in = x.bytes_in ++ bytes_fed e;
      bytes_out = x.bytes_out ++ bytes_drained e;
    }

abbrev pub told_by : Told → Entry → Option Turn → Option Told
told_by x e None = None
told_by x e (Some u) = Some (told_more x e u)

abbrev pub tells : Setting → Told → Entry → Option Told
tells g x e = told_by x e (step g x.side e)

-- the entries behind what was told; nothing where one of them may not stand
unfoldable pub tells_all : Setting → Option Told → List Entry → Option Told
tells_all g None es = None
tells_all g (Some x) [] = Some x
tells_all g (Some x) (e ∷ es) = tells_all g (tells g x e) es

unfoldable pub replay : Setting → List Entry → Option Told
replay g es = tells_all g (Some (nothing_told g)) es

-- a journal leads to what was told
abbrev pub Leads : Setting → List Entry → Told → Type 0
Leads g es x = replay g es ≡ Some x
