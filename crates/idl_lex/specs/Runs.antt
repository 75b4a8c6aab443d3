-- The kinds of bytes that stand in runs.
use Rattle.std.specs.Prelude.{ℕ, Bool, nat_lt}
use Rattle.idl_text_model.specs.Pieces.{is_blank, is_in_line}
use Rattle.uno_model.specs.Names.{goes_on_identifier}
use Rattle.idl_lex.specs.declared.run.Run.{Run}
use Rattle.idl_lex.specs.declared.run.Run.TheVariants as run

abbrev pub test_of : Run → ℕ → Bool
test_of run.Blank = is_blank
test_of run.Word = goes_on_identifier
test_of run.Line = is_in_line

abbrev pub is_ascii : ℕ → Bool
is_ascii c = nat_lt c 128
