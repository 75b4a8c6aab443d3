-- What `parse` says of 1 to 20 digits.
use Rattle.std.proofs.Common.{◌≡◌, ℕ, ◌<◌, ◌≤◌, ◌^◌, true, List, length, None, Some, rules, arith}
use Rattle.std.specs.Prelude.{Result, Ok, Err}
use Rattle.std.specs.List.{list_all}
use Rattle.std.specs.Char.{is_ascii_digit}
use Rattle.std.specs.Result.{OkIff}
use Rattle.std.specs.Str.Parse.{digits_value, ParsesUnsigned}
use Rattle.std.proofs.lemmas.Str.Parse.{IsNumeralModel, numerals_by_value, parse_digits}
use Rattle.command_words.specs.Numbers.{is_number, number_within}

-- digits write the number that std says
own : IsNumeralModel (λ ds. list_all is_ascii_digit ds ≡ true) (digits_value 10)
own = numerals_by_value _ (search rules)

are_digits : (text : List ℕ) → is_number text ≡ true → (list_all is_ascii_digit text ≡ true) × (0 < length text)
unfolding is_number
are_digits text is = grind arith

pub parsed : {E : Type 0} (text : List ℕ) (r : Result ℕ E) → ParsesUnsigned 64 10 text r → is_number text ≡ true → OkIff r ((0 < length text) × (digits_value 10 text < 2 ^ 64)) (digits_value 10 text)
parsed text r says is = parse_digits own 64 text r says (are_digits text is).0

-- a number that is none of 64 bits is none of the range
pub not_parsed : {E : Type 0} (least most : ℕ) (text : List ℕ) (e : E) → ParsesUnsigned 64 10 text (Err e) → is_number text ≡ true → most < 2 ^ 64 → None ≡ number_within least most text
unfolding number_within
not_parsed least most text e says is fits =
    let beyond = parsed text (Err e) says is in
    let some = (are_digits text is).1 in
    grind arith

pub below_least : (least most n : ℕ) (text : List ℕ) → ParsesUnsigned {E = ℕ} 64 10 text (Ok n) → is_number text ≡ true → n < least → None ≡ number_within least most text
unfolding number_within
below_least least most n text says is below =
    let same = (parsed {E = ℕ} text (Ok n) says is).1 in
    grind arith

pub above_most : (least most n : ℕ) (text : List ℕ) → ParsesUnsigned {E = ℕ} 64 10 text (Ok n) → is_number text ≡ true → most < n → None ≡ number_within least most text
unfolding number_within
above_most least most n text says is above =
    let same = (parsed {E = ℕ} text (Ok n) says is).1 in
    grind arith

pub in_range : (least most n : ℕ) (text : List ℕ) → ParsesUnsigned {E = ℕ} 64 10 text (Ok n) → is_number text ≡ true → least ≤ n → n ≤ most → Some n ≡ number_within least most text
unfolding number_within
in_range least most n text says is least_of most_of =
    let same = (parsed {E = ℕ} text (Ok n) says is).1 in
    grind arith
