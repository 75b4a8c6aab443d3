-- Numbers of the words, and the numbers of the options.
use Rattle.std.specs.Prelude.{ℕ, Bool, ◌&&◌, List, [], ◌∷◌, length, nat_le, Option, Some, None, option_map, if◌then◌else◌}
use Rattle.std.specs.List.{list_all}
use Rattle.std.specs.Option.{option_and_then}
use Rattle.std.specs.Char.{is_ascii_digit}
use Rattle.std.specs.Str.Parse.{digits_value}
use Rattle.command_words.specs.Names.{Text, is_option, least_of, most_of}
use Rattle.command_words.specs.Parts.{Chosen}
use Rattle.command_words.specs.declared.option_name.OptionName.{OptionName}
use Rattle.command_words.specs.declared.option_name.OptionName.TheVariants.{Seed, Cut, Threads, Sessions}
use Rattle.command_words.specs.declared.numbers.Numbers.{Numbers}

-- 1 to 20 decimal digits
unfoldable pub is_number : Text → Bool
is_number text = nat_le 1 (length text) && (nat_le (length text) 20 && list_all is_ascii_digit text)

-- the number that the digits write, if it is in the range
unfoldable pub number_within : ℕ → ℕ → Text → Option ℕ
number_within least most text =
    if is_number text && (nat_le least (digits_value 10 text) && nat_le (digits_value 10 text) most) then Some (digits_value 10 text) else None

-- the values that are given to the option, in order
unfoldable pub values_of : OptionName → List Chosen → List Text
values_of option [] = []
values_of option (c ∷ cs) = if is_option c.option option then c.value ∷ values_of option cs else values_of option cs

-- the number of an option with these values; it has one at most, and that is a number of its range
unfoldable pub number_of : OptionName → List Text → Option (Option ℕ)
number_of option [] = Some None
number_of option (value ∷ []) = option_map (λ n. Some n) (number_within (least_of option) (most_of option) value)
number_of option (value ∷ next ∷ values) = None

-- the numbers of all options
unfoldable pub numbers_of : List Chosen → Option Numbers
numbers_of choices =
    option_and_then (λ seed. option_and_then (λ cut. option_and_then (λ threads. option_map (λ sessions. record {
      seed = seed;
      cut = cut;
      threads = threads;
      sessions = sessions;
    })
    (number_of Sessions (values_of Sessions choices)))
    (number_of Threads (values_of Threads choices)))
    (number_of Cut (values_of Cut choices)))
    (number_of Seed (values_of Seed choices))
