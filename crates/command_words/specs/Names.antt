-- The names of the commands and of the options, and which command has which options.
use Rattle.std.specs.Prelude.{ℕ, Bool, true, false, List, Option, Some, None, codes, if◌then◌else◌}
use Rattle.std.specs.Str.{bytes_eq}
use Rattle.command_words.specs.declared.command_name.CommandName.{CommandName}
use Rattle.command_words.specs.declared.command_name.CommandName.TheVariants.{Compile, Idl, Answer, Pair, Serve, Call, Drill}
use Rattle.command_words.specs.declared.option_name.OptionName.{OptionName}
use Rattle.command_words.specs.declared.option_name.OptionName.TheVariants.{Seed, Cut, Threads, Sessions}

-- a word, by its bytes
abbrev pub Text : Type 0
Text = List ℕ

-- the command of a name
unfoldable pub command_named : Text → Option CommandName
command_named word =
    if bytes_eq word (codes "compile") then Some Compile
    else (if bytes_eq word (codes "idl") then Some Idl
    else (if bytes_eq word (codes "answer") then Some Answer
    else (if bytes_eq word (codes "pair") then Some Pair
    else (if bytes_eq word (codes "serve") then Some Serve
    else (if bytes_eq word (codes "call") then Some Call
    else (if bytes_eq word (codes "drill") then Some Drill
    else None))))))

-- the option of a name
unfoldable pub option_named : Text → Option OptionName
option_named word =
    if bytes_eq word (codes "--seed") then Some Seed
    else (if bytes_eq word (codes "--cut") then Some Cut
    else (if bytes_eq word (codes "--threads") then Some Threads
    else (if bytes_eq word (codes "--sessions") then Some Sessions
    else None)))

-- the command has the option
abbrev pub allows : CommandName → OptionName → Bool
allows Pair Seed = true
allows Pair Cut = true
allows Pair Threads = true
allows Serve Threads = true
allows Serve Sessions = true
allows Call Threads = true
allows _ _ = false

-- they are one option
abbrev pub is_option : OptionName → OptionName → Bool
is_option Seed Seed = true
is_option Cut Cut = true
is_option Threads Threads = true
is_option Sessions Sessions = true
is_option _ _ = false

-- the least number of an option
abbrev pub least_of : OptionName → ℕ
least_of Seed = 0
least_of Cut = 1
least_of Threads = 1
least_of Sessions = 1

-- the greatest number of an option
abbrev pub most_of : OptionName → ℕ
most_of Seed = 18446744073709551615
most_of Cut = 65536
most_of Threads = 16
most_of Sessions = 1000
