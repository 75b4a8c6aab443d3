-- What comes of files that are compiled together: the registry that they mean, or the one refusal that counts. Files are lexed and parsed one after the other,
-- then the names of all are resolved, and then the rules are asked.
use Rattle.std.specs.Prelude.{◌≡◌, ℕ, suc, Bool, true, List, [], ◌∷◌, ◌++◌, length, Result, Ok, Err}
use Rattle.uno_model.specs.Entities.{Entity}
use Rattle.registry_text_model.specs.Rules.{Rule}
use Rattle.idl_text_model.specs.LexVerdicts.{LexFault, too_long, bad_utf8, bad_token, open_comment, most_bytes, IsLexed}
use Rattle.idl_text_model.specs.Tokens.{Token}
use Rattle.idl_model.specs.ParseVerdicts.{ParseFault, unexpected, nested, IsParsed}
use Rattle.idl_model.specs.PlacedTokens.{in_file}
use Rattle.idl_model.specs.Places.{Place}
use Rattle.idl_model.specs.Trees.{Tree}
use Rattle.idl_model.specs.Values.{numbers_fit}
use Rattle.idl_meaning_model.specs.Declarations.{Origin, expression}
use Rattle.idl_meaning_model.specs.NameFaults.{NameFault, IsResolved}
use Rattle.idl_rules_model.specs.CheckVerdicts.{IsChecked}

-- ---- refusals

-- the bytes of the file of this number are no tokens; the tokens of a file are no text of the grammar; a name is wrong; a rule is broken
pub data Refusal : Type 0 where
  lexed : (file : ℕ) → LexFault → Refusal
  parsed : ParseFault → Refusal
  named : Place → NameFault → Refusal
  broken : Rule → Place → Refusal

abbrev pub byte_of : LexFault → ℕ
byte_of too_long = most_bytes
byte_of (bad_utf8 byte) = byte
byte_of (bad_token byte) = byte
byte_of (open_comment byte) = byte

abbrev pub place_of_parse : ParseFault → Place
place_of_parse (unexpected place) = place
place_of_parse (nested place) = place

-- the file and the byte at which files are refused
unfoldable pub refused_at : Refusal → Place
refused_at (lexed file fault) = record { file = file; byte = byte_of fault }
refused_at (parsed fault) = place_of_parse fault
refused_at (named place fault) = place
refused_at (broken rule place) = place

-- ---- files that are read

-- a file, under its number, is the text of a tree
pub record IsRead (file : ℕ) (text : List ℕ) (tree : Tree) : Type 0 where
  pub tokens : List Token
  pub lexed : IsLexed text (Ok tokens)
  pub parsed : IsParsed (in_file file tokens) (Ok tree)

-- files, numbered from here on, are the texts of trees
abbrev pub AreRead : ℕ → List (List ℕ) → List Tree → Type 0
AreRead file [] [] = Unit {0}
AreRead file [] (tree ∷ trees) = ⊥
AreRead file (text ∷ texts) [] = ⊥
AreRead file (text ∷ texts) (tree ∷ trees) = IsRead file text tree × AreRead (suc file) texts trees

-- a file, under its number, is refused before names are asked
abbrev pub IsUnread : ℕ → List ℕ → Refusal → Type 0
IsUnread file text (lexed number fault) = (number ≡ file) × IsLexed text (Err fault)
IsUnread file text (parsed fault) = (tokens : List Token) × IsLexed text (Ok tokens) × IsParsed (in_file file tokens) (Err fault)
IsUnread file text (named place fault) = ⊥
IsUnread file text (broken rule place) = ⊥

-- the numbers of what gives a value are below 2^64, as those of tokens are
abbrev pub origin_fits : Origin → Bool
origin_fits (expression e) = numbers_fit e
origin_fits _ = true

-- ---- verdicts

-- the files before one are read, and that one is not
pub record StopsAtFile (texts : List (List ℕ)) (refusal : Refusal) : Type 0 where
  pub before : List (List ℕ)
  pub text : List ℕ
  pub behind : List (List ℕ)
  pub split : texts ≡ before ++ text ∷ behind
  pub trees : List Tree
  pub read : AreRead 0 before trees
  pub unread : IsUnread (length before) text refusal

-- all files are read, and a name is refused
pub record StopsAtName (texts : List (List ℕ)) (place : Place) (fault : NameFault) : Type 0 where
  pub trees : List Tree
  pub read : AreRead 0 texts trees
  pub resolved : IsResolved trees (Err (place, fault))

-- all names stand for something, and this comes of the rules
pub record ComesToRules (texts : List (List ℕ)) (checked : Result (List Entity) (Rule × Place)) : Type 0 where
  pub trees : List Tree
  pub read : AreRead 0 texts trees
  pub names : List (Place × List ℕ)
  pub resolved : IsResolved trees (Ok names)
  pub verdict : IsChecked trees checked

-- the registry of files, or what they are refused for
abbrev pub IsCompiled : List (List ℕ) → Result (List Entity) Refusal → Type 0
IsCompiled texts (Ok reg) = ComesToRules texts (Ok reg)
IsCompiled texts (Err (lexed file fault)) = StopsAtFile texts (lexed file fault)
IsCompiled texts (Err (parsed fault)) = StopsAtFile texts (parsed fault)
IsCompiled texts (Err (named place fault)) = StopsAtName texts place fault
IsCompiled texts (Err (broken rule place)) = ComesToRules texts (Err (rule, place))
