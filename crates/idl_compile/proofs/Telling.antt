-- The errors of the steps tell refusals.
use Rattle.std.proofs.Common.{◌≡◌, refl, sym, ap, subst, ◌∙◌, ℕ, List, Result, Ok, Err, IsErr, option_map}
use Rattle.idl_check.specs.Judging.{IsBroken}
use Rattle.idl_check.specs.declared.error.CheckError.{CheckError}
use Rattle.idl_check.specs.declared.error.CheckError.TheVariants as check
use Rattle.idl_compile.specs.declared.error.Reason.TheVariants as reason
use Rattle.idl_meaning_model.specs.NameFaults.{IsResolved}
use Rattle.idl_compile.specs.Errors.{of_check, of_lex, of_parse, of_name}
use Rattle.idl_compile.specs.Refusing.{Tells}
use Rattle.idl_compile.specs.Checking.{ComesOfTrees}
use Rattle.idl_compile.specs.declared.error.CompileError.{CompileError}
use Rattle.idl_compile.specs.declared.error.CompileError.TheVariants as error
use Rattle.idl_compiled_model.specs.Compiling.{Refusal, IsRead, IsUnread, StopsAtFile, IsCompiled, AreRead}
use Rattle.idl_compiled_model.specs.Compiling as refusal
use Rattle.idl_lex.specs.Lexing as lexing
use Rattle.idl_lex.specs.declared.error.LexError.{LexError}
use Rattle.idl_lex.specs.declared.error.LexError.TheVariants as lex
use Rattle.idl_meaning_model.specs.NameFaults as fault
use Rattle.idl_model.specs.ParseVerdicts.{IsParsed, unexpected, nested}
use Rattle.idl_model.specs.PlacedTokens.{PlacedToken, in_file}
use Rattle.idl_model.specs.Places.{Place}
use Rattle.idl_model.specs.Trees as plain
use Rattle.idl_names.specs.Resolving as naming
use Rattle.idl_names.specs.declared.error.NameError.{NameError}
use Rattle.idl_names.specs.declared.error.NameError.TheVariants as names
use Rattle.idl_parse.specs.Parsing.{Judges}
use Rattle.idl_parse.specs.declared.error.ParseError.{ParseError}
use Rattle.idl_parse.specs.declared.error.ParseError.TheVariants as parse
use Rattle.idl_text_model.specs.LexVerdicts.{IsLexed, too_long, bad_utf8, bad_token, open_comment}
use Rattle.idl_text_model.specs.Tokens.{Token}
use Rattle.idl_trees.specs.Names.{place_of}
use Rattle.std.specs.Prelude.{IfErr, IfOk}
use Rattle.std.specs.Result.{IsErrAnd}
use Rattle.uno_model.specs.Entities.{Entity}

abbrev place_at : ℕ → ℕ → Place
place_at f b = record { file = f; byte = b }

at_file : (f g b : ℕ) → f ≡ g → place_at f b ≡ place_at g b
at_file f g b same = ap (λ k. place_at k b) same

at_byte : (f g b c : ℕ) → f ≡ g → b ≡ c → place_at f b ≡ place_at g c
at_byte f g b c same too = ap (λ k. place_at k b) same ∙ ap (place_at g) too

pub lex_told : (file : ℕ) (text : List ℕ) (e : LexError) → lexing.IsRefused file text e → Tells (of_lex e) (IsUnread file text)
unfolding refusal.refused_at
lex_told file text lex.NoMemory is = tt
lex_told file text (lex.BadUtf8 p) is = (refusal.lexed file (bad_utf8 p.byte), (refl, is.0), record { at = at_file file p.file p.byte (sym is.1); told = refl })
lex_told file text (lex.BadToken p) is = (refusal.lexed file (bad_token p.byte), (refl, is.0), record { at = at_file file p.file p.byte (sym is.1); told = refl })
lex_told file text (lex.OpenComment p) is = (refusal.lexed file (open_comment p.byte), (refl, is.0), record { at = at_file file p.file p.byte (sym is.1); told = refl })
lex_told file text (lex.TooLong p) is = (refusal.lexed file too_long, (refl, is.0), record { at = at_byte file p.file 4194304 p.byte (sym is.1) (sym is.2); told = refl })

pub parse_told : (file : ℕ) (text : List ℕ) (tokens : List Token) (placed : List PlacedToken) (e : ParseError) → IsLexed text (Ok tokens) → placed ≡ in_file file tokens
    → Judges (Err e) (IsParsed placed) → Tells (of_parse e) (IsUnread file text)
unfolding refusal.refused_at
parse_told file text tokens placed parse.NoMemory lexed same is = tt
parse_told file text tokens placed (parse.Unexpected p) lexed same is =
    (refusal.parsed (unexpected (place_of p)), (tokens, lexed, subst (λ t. IsParsed t (Err (unexpected (place_of p)))) same is), record { at = refl; told = refl })
parse_told file text tokens placed (parse.Nested p) lexed same is =
    (refusal.parsed (nested (place_of p)), (tokens, lexed, subst (λ t. IsParsed t (Err (nested (place_of p)))) same is), record { at = refl; told = refl })

pub name_told : (trees : List plain.Tree) (e : NameError) → naming.IsRefused trees e → Tells (of_name e) (λ r. ComesOfTrees trees (Err r))
unfolding refusal.refused_at
name_told trees names.NoMemory is = tt
name_told trees (names.Unknown p) is = (refusal.named (place_of p) fault.unknown, is, record { at = refl; told = refl })
name_told trees (names.Twice p first) is = (refusal.named (place_of p) (fault.twice (option_map place_of first)), is, record { at = refl; told = refl })
name_told trees (names.FloatRefused p) is = (refusal.named (place_of p) fault.float_refused, is, record { at = refl; told = refl })

-- what is told of one kind is told of another
pub told_as : (e : CompileError) (Is Was : Refusal → Type 0) → ((r : Refusal) → Is r → Was r) → Tells e Is → Tells e Was
told_as error.NoMemory Is Was turn told = tt
told_as (error.Refused p why) Is Was turn told = (told.0, turn told.0 told.1, told.2)

-- ---- from trees to files

pub of_files : (texts : List (List ℕ)) (trees : List plain.Tree) (r : Refusal) → AreRead 0 texts trees → ComesOfTrees trees (Err r) → IsCompiled texts (Err r)
of_files texts trees (refusal.lexed file why) read is = absurd is
of_files texts trees (refusal.parsed why) read is = absurd is
of_files texts trees (refusal.named place why) read is = record { trees = trees; read = read; resolved = is }
of_files texts trees (refusal.broken rule place) read is = record { trees = trees; read = read; names = is.names; resolved = is.resolved; verdict = is.verdict }

pub stops_there : (texts : List (List ℕ)) (r : Refusal) → StopsAtFile texts r → IsCompiled texts (Err r)
stops_there texts (refusal.lexed file why) is = is
stops_there texts (refusal.parsed why) is = is
stops_there texts (refusal.named place why) is = absurd is.unread
stops_there texts (refusal.broken rule place) is = absurd is.unread

-- ---- of the rules

pub check_told : (trees : List plain.Tree) (names : List (Place × List ℕ)) (e : CheckError) → IsResolved trees (Ok names) → IsBroken trees e → Tells (of_check e) (λ r. ComesOfTrees trees (Err r))
unfolding refusal.refused_at
check_told trees names check.NoMemory resolved is = tt
check_told trees names (check.Rule number p) resolved is =
    (refusal.broken is.0 (place_of p), record { names = names; resolved = resolved; verdict = is.2 }, record { at = refl; told = ap (λ n. reason.Rule n) is.1 })

-- ---- of the steps

pub is_read : (file : ℕ) (text : List ℕ) (tokens placed : List PlacedToken) (tree : plain.Tree) → lexing.AreLexed file text tokens → placed ≡ tokens → IsParsed placed (Ok tree) → IsRead file text tree
is_read file text tokens placed tree lexed same is =
    record { tokens = lexed.plain; lexed = lexed.lexed; parsed = subst (λ ts. IsParsed ts (Ok tree)) (same ∙ lexed.placed) is }

pub parse_refused : (file : ℕ) (text : List ℕ) (tokens placed : List PlacedToken) (e : ParseError) → lexing.AreLexed file text tokens → placed ≡ tokens → Judges (Err e) (IsParsed placed)
    → Tells (of_parse e) (IsUnread file text)
parse_refused file text tokens placed e lexed same is = parse_told file text lexed.plain placed e lexed.lexed (same ∙ lexed.placed) is

pub handed_on : {X : Type 0} (r : Result X CompileError) (Is : Refusal → Type 0) (e : CompileError) → IsErr r × IsErrAnd r (λ f. f ≡ e) → Tells e Is → IfErr r (λ f. Tells f Is)
handed_on (Ok x) Is e is told = tt
handed_on (Err f) Is e is told = subst (λ g. Tells g Is) (sym is.1) told

pub accepted_files : (texts : List (List ℕ)) (trees : List plain.Tree) (r : Result (List Entity) CompileError) → AreRead 0 texts trees → IfOk r (λ reg. ComesOfTrees trees (Ok reg))
    → IfOk r (λ reg. IsCompiled texts (Ok reg))
accepted_files texts trees (Ok reg) read is = record { trees = trees; read = read; names = is.names; resolved = is.resolved; verdict = is.verdict }
accepted_files texts trees (Err e) read is = tt

pub refused_files : {X : Type 0} (texts : List (List ℕ)) (trees : List plain.Tree) (r : Result X CompileError) → AreRead 0 texts trees → IfErr r (λ e. Tells e (λ of. ComesOfTrees trees (Err of)))
    → IfErr r (λ e. Tells e (λ of. IsCompiled texts (Err of)))
refused_files texts trees (Ok x) read is = tt
refused_files texts trees (Err e) read is = told_as e (λ of. ComesOfTrees trees (Err of)) (λ of. IsCompiled texts (Err of)) (λ of comes. of_files texts trees of read comes) is
