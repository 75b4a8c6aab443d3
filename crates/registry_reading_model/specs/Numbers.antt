-- Whole numbers in decimal digits.
use Rattle.std.specs.Prelude.{ℕ, zero, suc, ◌+◌, ◌-◌, ◌*◌, Bool, ◌&&◌, ◌==◌, nat_le, ℤ, pos, negsuc, List, [], ◌∷◌, Option, None, Some, codes, if◌then◌else◌}
use Rattle.std.specs.List.{list_all}
use Rattle.std.specs.Str.{bytes_eq}
use Rattle.registry_reading_model.specs.Words.{on_some, where_}

abbrev pub is_digit : ℕ → Bool
is_digit c = nat_le 48 c && nat_le c 57

-- the number that digits go on to write behind those of another
unfoldable pub read_on : ℕ → List ℕ → ℕ
read_on n [] = n
read_on n (c ∷ cs) = read_on (n * 10 + (c - 48)) cs

-- digits, the first of which is not 0
unfoldable pub magnitude_of : List ℕ → Option ℕ
magnitude_of [] = None
magnitude_of (c ∷ cs) = where_ (list_all is_digit (c ∷ cs) && nat_le 49 c) (Some (read_on 0 (c ∷ cs)))

abbrev pub negated : ℕ → ℤ
negated zero = pos 0
negated (suc n) = negsuc n

-- `0`, or such digits, behind `-` where the number is negative
unfoldable pub number_of : List ℕ → Option ℤ
number_of [] = None
number_of (c ∷ cs) =
    if bytes_eq (c ∷ cs) (codes "0") then Some (pos 0)
    else (if c == 45 then on_some (magnitude_of cs) (λ n. Some (negated n))
    else on_some (magnitude_of (c ∷ cs)) (λ n. Some (pos n)))
