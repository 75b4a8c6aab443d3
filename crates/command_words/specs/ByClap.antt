-- The command as clap knows it, and what its matches show of words that are taken apart.
use Rattle.std.specs.Prelude.{◌≡◌, true, false, List, [], ◌∷◌, Option, Some, None, codes}
use Rattle.clap.specs.Walk.{Row, Rule, all_of}
use Rattle.clap.specs.Simple.{App, new_app, new_rule, on_top, with_rule}
use Rattle.clap.specs.declared.builder.action.ArgAction.TheVariants.{Set, Append}
use Rattle.command_words.specs.Names.{Text}
use Rattle.command_words.specs.Numbers.{values_of}
use Rattle.command_words.specs.Parts.{Apart, apart, begins_with_hyphen}
use Rattle.command_words.specs.declared.option_name.OptionName.{OptionName}
use Rattle.command_words.specs.declared.option_name.OptionName.TheVariants.{Seed, Cut, Threads, Sessions}

-- the arguments of the command: its words, and its options
abbrev pub words_rule : Rule
words_rule = record (new_rule (codes "words")) { action = Some Append }

abbrev pub option_rule : Text → Rule
option_rule name = record (new_rule name) { long = Some name; action = Some Set }

abbrev pub bare : App
bare = on_top (λ s. record s { no_binary_name = true; disable_help_flag = true; disable_version_flag = true }) (new_app (codes "uno"))

abbrev pub uno : App
uno = with_rule (with_rule (with_rule (with_rule (with_rule bare words_rule) (option_rule (codes "seed"))) (option_rule (codes "cut"))) (option_rule (codes "threads"))) (option_rule (codes "sessions"))

-- an argument: the words, or an option
abbrev pub Slot : Type 0
Slot = Option OptionName

abbrev pub id_of : Slot → Text
id_of None = codes "words"
id_of (Some Seed) = codes "seed"
id_of (Some Cut) = codes "cut"
id_of (Some Threads) = codes "threads"
id_of (Some Sessions) = codes "sessions"

-- the rule of an argument, as it is built
abbrev pub rule_at : Slot → Rule
rule_at None = words_rule
rule_at (Some o) = option_rule (id_of (Some o))

-- the values of an argument as its row has them; without one there is no row
abbrev pub as_row : List Text → Option (List Text)
as_row [] = None
as_row (v ∷ vs) = Some (v ∷ vs)

-- the rows show what was taken apart
pub record Shows (rows : List Row) (q : Apart) : Type 0 where
  pub plain : all_of (codes "words") rows ≡ as_row q.plain
  pub each : (o : OptionName) → all_of (id_of (Some o)) rows ≡ as_row (values_of o q.choices)

-- an option has one value at most, and that does not begin with `-`
abbrev pub IsFine : List Text → Type 0
IsFine [] = Unit {0}
IsFine (v ∷ []) = begins_with_hyphen v ≡ false
IsFine (v ∷ w ∷ vs) = ⊥

abbrev pub AreFine : Apart → Type 0
AreFine whole = (o : OptionName) → IsFine (values_of o whole.choices)

-- the words are taken apart, and each option has one value at most
pub record IsAccepted (words : List Text) : Type 0 where
  pub whole : Apart
  pub is : apart None words ≡ Some whole
  pub fine : AreFine whole
