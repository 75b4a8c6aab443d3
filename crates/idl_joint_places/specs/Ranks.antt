-- Places as numbers.
use Rattle.std.specs.Prelude.{ℕ, ◌/◌, ◌%◌}
use Rattle.idl_model.specs.Places.{Place}

abbrev pub placed : ℕ → ℕ → Place
placed file byte = record { file = file; byte = byte }

-- the place of a number: the lesser number is that of the place that comes before
abbrev pub place_ranked : ℕ → Place
place_ranked rank = placed (rank / 4294967296) (rank % 4294967296)
