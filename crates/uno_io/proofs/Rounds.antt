-- A list used round and round from place i on, seen as a list that begins with what is next.
use Rattle.std.proofs.Common.{◌≡◌, ℕ, ◌+◌, ◌<◌, List, [], ◌∷◌, ◌++◌, length, take, drop, get_or, append_assoc}
use Rattle.std.proofs.lemmas.List.{drop_more, take_more}
use Rattle.uno_io.specs.Sizes.{turned}

-- the next place is one on
pub turned_on : (xs : List ℕ) (i : ℕ) → i < length xs → turned (drop i xs ++ take i xs) ≡ drop (i + 1) xs ++ take (i + 1) xs
turned_on xs i within =
    rw (drop_more xs i 0 within, take_more xs i 0 within) (append_assoc (drop (i + 1) xs) (take i xs) (get_or xs i 0 ∷ []))
