-- The numbers of UNOIDL as they are written: decimal, octal behind a 0, or hexadecimal behind `0x`.
use Rattle.std.specs.Prelude.{ℕ, ◌^◌, Bool, ◌&&◌, nat_lt, List, take, drop, Option, None, Some, codes, if◌then◌else◌}
use Rattle.std.specs.Char.{digit_value}
use Rattle.std.specs.List.{list_all}
use Rattle.std.specs.Str.{bytes_eq}
use Rattle.std.specs.Str.Parse.{digits_value}
use Rattle.uno_model.specs.Sound.{is_some_list}

-- one digit or more, each of the base; a letter is a digit from 10 on, capital or not
abbrev pub are_digits : (base : ℕ) → List ℕ → Bool
are_digits base ds = is_some_list ds && list_all (λ c. nat_lt (digit_value c) base) ds

-- a number in its base, if it is below 2 ^ 64
unfoldable pub number_in : (base : ℕ) → List ℕ → Option ℕ
number_in base ds = if are_digits base ds && nat_lt (digits_value base ds) (2 ^ 64) then Some (digits_value base ds) else None

-- the number that is written so
unfoldable pub number_of_word : List ℕ → Option ℕ
number_of_word w =
    if bytes_eq (take 2 w) (codes "0x") then number_in 16 (drop 2 w)
    else (if bytes_eq (take 1 w) (codes "0") then number_in 8 w
    else number_in 10 w)
