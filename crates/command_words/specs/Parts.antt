-- The words behind the command, taken apart: plain words, and options with their values.
use Rattle.std.specs.Prelude.{ℕ, Bool, false, not, ◌==◌, List, [], ◌∷◌, ◌++◌, Option, Some, None, option_map, codes, if◌then◌else◌, slice_index}
use Rattle.std.specs.List.{list_any, before_first, after_first}
use Rattle.std.specs.Option.{option_and_then}
use Rattle.std.specs.Str.{bytes_eq}
use Rattle.command_words.specs.Names.{Text, option_named}
use Rattle.command_words.specs.declared.option_name.OptionName.{OptionName}

-- an option and the value that is given to it
pub record Chosen : Type 0 where
  pub option : OptionName
  pub value : Text

-- the plain words in order, and the options with their values in order
pub record Apart : Type 0 where
  pub plain : List Text
  pub choices : List Chosen

abbrev pub with_plain : Text → Apart → Apart
with_plain word p = record { plain = word ∷ p.plain; choices = p.choices }

abbrev pub with_choice : OptionName → Text → Apart → Apart
with_choice option value p = record { plain = p.plain; choices = record { option = option; value = value } ∷ p.choices }

-- `--`, behind which every word is plain
abbrev pub is_end : Text → Bool
is_end word = bytes_eq word (codes "--")

-- the word begins with `-`
abbrev pub begins_with_hyphen : Text → Bool
begins_with_hyphen word = slice_index word 0 == 45

-- the word has `=`: its name stands before the first of them, and its value behind it
abbrev pub is_equals : ℕ → Bool
is_equals c = c == 61

-- the words, where an option may wait for its value: `--` ends the options, no other word before it begins with `-`, and an option has its
-- value behind `=` or in the next word
unfoldable pub apart : Option OptionName → List Text → Option Apart
apart None [] = Some (record { plain = []; choices = [] })
apart (Some option) [] = None
apart (Some option) (word ∷ words) = option_map (with_choice option word) (apart None words)
apart None (word ∷ words) =
    if is_end word then Some (record { plain = words; choices = [] })
    else (if not (begins_with_hyphen word) then option_map (with_plain word) (apart None words)
    else (if list_any is_equals word
    then option_and_then (λ option. option_map (with_choice option (after_first is_equals word)) (apart None words)) (option_named (before_first is_equals word))
    else option_and_then (λ option. apart (Some option) words) (option_named word)))

-- one and then the other
abbrev pub joined : Apart → Apart → Apart
joined p q = record { plain = p.plain ++ q.plain; choices = p.choices ++ q.choices }

-- what was taken apart, with what the words behind it are
unfoldable pub onto : Apart → Option OptionName → List Text → Option Apart
onto p waiting words = option_map (joined p) (apart waiting words)

-- no option waits, and the word is `--`
abbrev pub ends_here : Option OptionName → Text → Bool
ends_here None word = is_end word
ends_here (Some option) word = false
