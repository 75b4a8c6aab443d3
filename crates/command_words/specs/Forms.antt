-- The written forms of the command's words, and what they ask.
use Rattle.std.specs.Prelude.{◌≡◌, ℕ, Bool, ◌&&◌, List, [], ◌∷◌, map, length, nat_le, Option, Some, None, option_map, unwrap_or, is_some, if◌then◌else◌, string_bytes, Result, Ok, Err}
use Rattle.std.specs.List.{list_all}
use Rattle.std.specs.Option.{option_and_then}
use Rattle.command_words.specs.Names.{Text, command_named, allows}
use Rattle.command_words.specs.Numbers.{number_within, numbers_of}
use Rattle.command_words.specs.Parts.{Apart, apart}
use Rattle.command_words.specs.declared.command.Command.{Command}
use Rattle.command_words.specs.declared.command.Command.TheVariants as command
use Rattle.command_words.specs.declared.command_name.CommandName.{CommandName}
use Rattle.command_words.specs.declared.command_name.CommandName.TheVariants.{Compile, Idl, Answer, Pair, Serve, Call, Drill}
use Rattle.command_words.specs.declared.error.WordsError.{WordsError}
use Rattle.command_words.specs.declared.error.WordsError.TheVariants.{NoMemory, Words}
use Rattle.command_words.specs.declared.numbers.Numbers.{Numbers}

-- what words ask, each word by its bytes
pub data Order : Type 0 where
  compile : (files : List Text) → Order
  idl : (types : Text) → Order
  answer : Order
  answer_plan : (types plan : Text) → Order
  pair : (types plan_a plan_b : Text) (seed : Option ℕ) (cut : ℕ) (threads : Option ℕ) → Order
  serve : (types plan folder accept : Text) (threads sessions : ℕ) → Order
  call : (types plan folder url : Text) (threads : ℕ) → Order
  drill : (rounds seed : ℕ) → Order

-- 1 to 64 files
unfoldable pub compile_form : List Text → Option Order
compile_form files = if nat_le 1 (length files) && nat_le (length files) 64 then Some (compile files) else None

unfoldable pub idl_form : List Text → Option Order
idl_form (types ∷ []) = Some (idl types)
idl_form _ = None

unfoldable pub answer_form : List Text → Option Order
answer_form [] = Some answer
answer_form (types ∷ plan ∷ []) = Some (answer_plan types plan)
answer_form _ = None

-- a seed has no use with threads; all bytes are cut to 65,536 where nothing else is said
unfoldable pub pair_form : List Text → Numbers → Option Order
pair_form (types ∷ plan_a ∷ plan_b ∷ []) n = if is_some n.seed && is_some n.threads then None else Some (pair types plan_a plan_b n.seed (unwrap_or n.cut 65536) n.threads)
pair_form _ n = None

-- 4 threads and 1 session where nothing else is said
unfoldable pub serve_form : List Text → Numbers → Option Order
serve_form (types ∷ plan ∷ folder ∷ accept ∷ []) n = Some (serve types plan folder accept (unwrap_or n.threads 4) (unwrap_or n.sessions 1))
serve_form _ n = None

unfoldable pub call_form : List Text → Numbers → Option Order
call_form (types ∷ plan ∷ folder ∷ url ∷ []) n = Some (call types plan folder url (unwrap_or n.threads 4))
call_form _ n = None

-- 1 to 10,000 rounds
unfoldable pub drill_form : List Text → Option Order
drill_form (rounds ∷ seed ∷ []) = option_and_then (λ r. option_map (λ s. drill r s) (number_within 0 18446744073709551615 seed)) (number_within 1 10000 rounds)
drill_form _ = None

-- the form of each command
abbrev pub form_of : CommandName → List Text → Numbers → Option Order
form_of Compile plain n = compile_form plain
form_of Idl plain n = idl_form plain
form_of Answer plain n = answer_form plain
form_of Pair plain n = pair_form plain n
form_of Serve plain n = serve_form plain n
form_of Call plain n = call_form plain n
form_of Drill plain n = drill_form plain

-- the command has all the options that are given
abbrev pub are_allowed : CommandName → Apart → Bool
are_allowed name p = list_all (λ c. allows name c.option) p.choices

-- the numbers of its options, if it has all that are given
unfoldable pub numbers_by : CommandName → Apart → Option Numbers
numbers_by name p = if are_allowed name p then numbers_of p.choices else None

-- what the command asks with its plain words and options
unfoldable pub order_by : CommandName → Apart → Option Order
order_by name p = option_and_then (form_of name p.plain) (numbers_by name p)

-- what the words ask: the first is the name of a command, and those behind it are in its form
unfoldable pub order_of : List Text → Option Order
order_of [] = None
order_of (word ∷ behind) = option_and_then (λ name. option_and_then (order_by name) (apart None behind)) (command_named word)

-- a command as the order that it is
unfoldable pub order_in : Command → Order
order_in (command.Compile files) = compile (map string_bytes files.items)
order_in (command.Idl types) = idl (string_bytes types)
order_in command.Answer = answer
order_in (command.AnswerPlan types plan) = answer_plan (string_bytes types) (string_bytes plan)
order_in (command.Pair types plan_a plan_b seed cut threads) = pair (string_bytes types) (string_bytes plan_a) (string_bytes plan_b) seed cut threads
order_in (command.Serve types plan folder accept threads sessions) =
    serve (string_bytes types) (string_bytes plan) (string_bytes folder) (string_bytes accept) threads sessions
order_in (command.Call types plan folder url threads) = call (string_bytes types) (string_bytes plan) (string_bytes folder) (string_bytes url) threads
order_in (command.Drill rounds seed) = drill rounds seed

-- the command is what is meant, `Words` is answered exactly where nothing is, or memory is wanted
abbrev pub Orders : Option Order → Result Command WordsError → Type 0
Orders meant (Ok command) = meant ≡ Some (order_in command)
Orders meant (Err Words) = meant ≡ None
Orders meant (Err NoMemory) = Unit {0}
