-- What is told of names at the places where they are used.
use Rattle.std.specs.BTreeMap.{BTreeMap, get_by}
use Rattle.std.specs.Ordering.{nat_cmp, ordering_then}
use Rattle.std.specs.Prelude.{ℕ, List, [], ◌∷◌, Option, None, Some, if◌then◌else◌}
use Rattle.idl_model.specs.Places.{Place, is_at}
use Rattle.idl_trees.specs.Names.{place_of}
use Rattle.idl_trees.specs.declared.place.Place as code
use Rattle.idl_values.specs.Keys.{number_beside}
use Rattle.idl_values.specs.declared.told.Numbers.{Numbers}
use Rattle.idl_values.specs.declared.told.Numbers.TheVariants as numbers

-- by the keys of a map
abbrev pub mapped_at : BTreeMap (ℕ × ℕ) ℕ → Place → Option ℕ
mapped_at numbers p = get_by (λ key. ordering_then (nat_cmp p.file key.0) (nat_cmp p.byte key.1)) numbers

-- the number that is there for a place
abbrev pub number_at : Numbers → Place → Option ℕ
number_at (numbers.Keyed keyed) p = number_beside keyed.keys.items keyed.numbers.items p
number_at (numbers.Mapped map) p = mapped_at map p

-- the number that is told there, the last one of several
abbrev pub later : Option ℕ → Option ℕ → Option ℕ
later first None = first
later first (Some n) = Some n

unfoldable pub number_told : List (code.Place × ℕ) → Place → Option ℕ
number_told [] p = None
number_told (x ∷ xs) p = later (if is_at (place_of x.0) p then Some x.1 else None) (number_told xs p)
