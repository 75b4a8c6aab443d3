-- The entry of an end with a mark.
use Rattle.std.specs.Prelude.{◌≡◌, ◌≤◌, ◌<◌, ℕ, List, Some, get_or, length, slice_get}
use Rattle.bridge_endpoint.specs.Journals.{Endpoint}
use Rattle.bridge_model.specs.Entries.{Entry}

-- marks, none of which is above a later one
abbrev pub Rise : List ℕ → Type 0
Rise ns = (i j : ℕ) → i ≤ j → j < length ns → get_or ns i 0 ≤ get_or ns j 0

pub record IsMarked (e : Endpoint) (mark : ℕ) (x : Entry) : Type 0 where
  pub place : ℕ
  pub mark_there : slice_get e.stamps place ≡ Some mark
  pub entry_there : slice_get e.entries place ≡ Some x
