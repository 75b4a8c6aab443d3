-- What files are refused for, as code tells it: a place and a reason.
use Rattle.std.specs.Prelude.{◌≡◌, ℕ, List, [], ◌∷◌, ◌++◌, map, length}
use Rattle.idl_compiled_model.specs.Compiling.{Refusal, refused_at, IsRead}
use Rattle.idl_compiled_model.specs.Compiling as refusal
use Rattle.idl_meaning_model.specs.NameFaults.{NameFault}
use Rattle.idl_meaning_model.specs.NameFaults as fault
use Rattle.idl_model.specs.ParseVerdicts.{ParseFault, unexpected, nested}
use Rattle.idl_model.specs.Trees as plain
use Rattle.idl_text_model.specs.LexVerdicts.{LexFault, too_long, bad_utf8, bad_token, open_comment}
use Rattle.idl_trees.specs.Names.{place_of}
use Rattle.idl_trees.specs.Trees.{trees_of}
use Rattle.idl_trees.specs.declared.declaration.Tree.{Tree}
use Rattle.idl_trees.specs.declared.place.Place.{Place}
use Rattle.registry_text_model.specs.Rules.{number_of}
use Rattle.std.specs.Borrow.{Bor}
use Rattle.idl_compile.specs.declared.error.CompileError.{CompileError}
use Rattle.idl_compile.specs.declared.error.CompileError.TheVariants as error
use Rattle.idl_compile.specs.declared.error.Reason.{Reason}
use Rattle.idl_compile.specs.declared.error.Reason.TheVariants as reason

abbrev pub lex_reason : LexFault → Reason
lex_reason too_long = reason.TooLong
lex_reason (bad_utf8 byte) = reason.BadUtf8
lex_reason (bad_token byte) = reason.BadToken
lex_reason (open_comment byte) = reason.OpenComment

abbrev pub parse_reason : ParseFault → Reason
parse_reason (unexpected place) = reason.Unexpected
parse_reason (nested place) = reason.Nested

abbrev pub name_reason : NameFault → Reason
name_reason fault.unknown = reason.Unknown
name_reason (fault.twice first) = reason.Twice
name_reason fault.float_refused = reason.FloatRefused

-- the reason that a refusal gives
abbrev pub reason_of : Refusal → Reason
reason_of (refusal.lexed file why) = lex_reason why
reason_of (refusal.parsed why) = parse_reason why
reason_of (refusal.named place why) = name_reason why
reason_of (refusal.broken rule place) = reason.Rule (number_of rule)

-- this place and this reason tell a refusal
pub record IsToldAs (place : Place) (why : Reason) (of : Refusal) : Type 0 where
  pub at : refused_at of ≡ place_of place
  pub told : reason_of of ≡ why

-- an error tells a refusal of this kind; want of memory tells none
abbrev pub Tells : CompileError → (Refusal → Type 0) → Type 0
Tells error.NoMemory Is = Unit {0}
Tells (error.Refused place why) Is = (of : Refusal) × Is of × IsToldAs place why of

-- the texts of files, as code has them
abbrev pub texts_of : List (Bor (List ℕ)) → List (List ℕ)
texts_of files = map (λ text. text.now) files

-- the tree of this text stands behind those that were read
pub record AddsTree (old : List Tree) (text : List ℕ) (new : List Tree) : Type 0 where
  pub tree : plain.Tree
  pub read : IsRead (length old) text tree
  pub added : trees_of new ≡ trees_of old ++ tree ∷ []
