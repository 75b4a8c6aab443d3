-- The errors of the steps, as errors of the compiler.
use Rattle.idl_check.specs.declared.error.CheckError.{CheckError}
use Rattle.idl_check.specs.declared.error.CheckError.TheVariants as check
use Rattle.idl_lex.specs.declared.error.LexError.{LexError}
use Rattle.idl_lex.specs.declared.error.LexError.TheVariants as lex
use Rattle.idl_names.specs.declared.error.NameError.{NameError}
use Rattle.idl_names.specs.declared.error.NameError.TheVariants as names
use Rattle.idl_parse.specs.declared.error.ParseError.{ParseError}
use Rattle.idl_parse.specs.declared.error.ParseError.TheVariants as parse
use Rattle.idl_compile.specs.declared.error.CompileError.{CompileError}
use Rattle.idl_compile.specs.declared.error.CompileError.TheVariants as error
use Rattle.idl_compile.specs.declared.error.Reason.TheVariants as reason

abbrev pub of_lex : LexError → CompileError
of_lex lex.NoMemory = error.NoMemory
of_lex (lex.BadUtf8 place) = error.Refused place reason.BadUtf8
of_lex (lex.BadToken place) = error.Refused place reason.BadToken
of_lex (lex.OpenComment place) = error.Refused place reason.OpenComment
of_lex (lex.TooLong place) = error.Refused place reason.TooLong

abbrev pub of_parse : ParseError → CompileError
of_parse parse.NoMemory = error.NoMemory
of_parse (parse.Unexpected place) = error.Refused place reason.Unexpected
of_parse (parse.Nested place) = error.Refused place reason.Nested

abbrev pub of_name : NameError → CompileError
of_name names.NoMemory = error.NoMemory
of_name (names.Unknown place) = error.Refused place reason.Unknown
of_name (names.Twice place first) = error.Refused place reason.Twice
of_name (names.FloatRefused place) = error.Refused place reason.FloatRefused

abbrev pub of_check : CheckError → CompileError
of_check check.NoMemory = error.NoMemory
of_check (check.Rule rule place) = error.Refused place (reason.Rule rule)
