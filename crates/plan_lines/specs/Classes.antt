-- Classes of bytes.
use Rattle.std.specs.Prelude.{ℕ, Bool, ◌==◌, ◌||◌, nat_lt, List, IsTrue}
use Rattle.std.specs.List.{list_all}
use Rattle.uno_model.specs.Names.{goes_on_identifier}
use Rattle.plan_model.specs.Forms.{is_export_byte}
use Rattle.plan_reading_model.specs.LineReading.{is_not_blank}
use Rattle.plan_reading_model.specs.Parts.{is_path_byte, is_type_byte}
use Rattle.plan_lines.specs.declared.class.Class.{Class}
use Rattle.plan_lines.specs.declared.class.Class.TheVariants as class

abbrev pub is_bracket : ℕ → Bool
is_bracket c = (c == 91) || (c == 93)

abbrev pub test_of : Class → ℕ → Bool
test_of class.Word = goes_on_identifier
test_of class.Path = is_path_byte
test_of class.Type = is_type_byte
test_of class.Bracket = is_bracket
test_of class.Exported = is_export_byte
test_of class.Visible = is_not_blank

abbrev pub is_ascii : ℕ → Bool
is_ascii c = nat_lt c 128

-- bytes of each class but the visible ones are below 128
abbrev pub IsAscii : Class → List ℕ → Type 0
IsAscii class.Visible bytes = Unit {0}
IsAscii _ bytes = IsTrue (list_all is_ascii bytes)
