-- Worked texts: the tokens of each, or its first fault. Each table is checked by computation of `lexed`, which is the verdict on each file.
use Rattle.std.proofs.Common.{◌≡◌, ℕ, List, [], ◌∷◌, ◌++◌, length, Result, Ok, Err, refl, subst, codes, arith}
use Rattle.std.specs.List.{AllByRecursion}
use Rattle.std.specs.Str.{chars, is_utf8}
use Rattle.std.specs.Str.Lossy.{utf8_valid_len}
use lib.Utf8.{encode}
use Rattle.idl_text_model.proofs.VerdictLaws.{verdict_said}
use Rattle.idl_text_model.specs.LexVerdicts.{LexFault, too_long, bad_utf8, bad_token, open_comment, IsLexed}
use Rattle.idl_text_model.specs.Numbers.{number_in, number_of_word}
use Rattle.idl_text_model.specs.Readings.{comment_at, mark_at, piece_at, pieces_within, lexed}
use Rattle.idl_text_model.specs.Tokens.{Word, identifier, number, quoted, mark, Token, word_of, tokens_from}
use Rattle.literal_model.specs.Shapes.{run_of, behind_run}

-- a text, and what comes of it
abbrev Row : Type 0
Row = List ℕ × Result (List Token) LexFault

abbrev IsRow : Row → Type 0
IsRow row = IsLexed row.0 row.1

abbrev computed : List Row → List Row
computed [] = []
computed (row ∷ rows) = (row.0, lexed row.0) ∷ computed rows

all_computed : (rows : List Row) → AllByRecursion IsRow (computed rows)
all_computed [] = tt
all_computed (row ∷ rows) = (verdict_said row.0, all_computed rows)

are_rows : (rows : List Row) → computed rows ≡ rows → AllByRecursion IsRow rows
are_rows rows e = subst (AllByRecursion IsRow) e (all_computed rows)

abbrev token : Word → (byte length : ℕ) → Token
token w byte length = record { word = w; byte = byte; length = length }

-- one token from the front of a text on
abbrev alone : Word → (length : ℕ) → Result (List Token) LexFault
alone w length = Ok (token w 0 length ∷ [])

abbrev bad : ℕ → Result (List Token) LexFault
bad byte = Err (bad_token byte)

-- ---- numbers

abbrev numbers : List Row
numbers =
    (codes "0", alone (number 0) 1)
    ∷ ((codes "00", alone (number 0) 2)
    ∷ ((codes "10", alone (number 10) 2)
    ∷ ((codes "017", alone (number 15) 3)
    ∷ ((codes "0x1F", alone (number 31) 4)
    ∷ ((codes "0xAbCd", alone (number 43981) 6)
    ∷ ((codes "18446744073709551615", alone (number 18446744073709551615) 20)
    ∷ ((codes "01777777777777777777777", alone (number 18446744073709551615) 23)
    ∷ ((codes "0xFFFFFFFFFFFFFFFF", alone (number 18446744073709551615) 18)
    ∷ ((codes "0x00000000000000000001", alone (number 1) 22)
    ∷ ((codes "18446744073709551616", bad 0)
    ∷ ((codes "02000000000000000000000", bad 0)
    ∷ ((codes "0x10000000000000000", bad 0)
    ∷ ((codes "08", bad 0)
    ∷ ((codes "0x", bad 0)
    ∷ ((codes "0X1F", bad 0)
    ∷ ((codes "0x1g", bad 0)
    ∷ ((codes "12ab", bad 0)
    ∷ ((codes "1_000", bad 0)
    ∷ ((codes "a 1b", bad 2)
    ∷ [])))))))))))))))))))

number_rows : AllByRecursion IsRow numbers
unfolding lexed is_utf8 chars encode utf8_valid_len piece_at mark_at comment_at pieces_within run_of behind_run number_of_word number_in word_of tokens_from
number_rows = are_rows numbers refl

-- ---- words and marks

abbrev words : List Row
words =
    (codes "", Ok [])
    ∷ ((codes "_a1", alone (identifier (codes "_a1")) 3)
    ∷ ((codes "module", alone (quoted (codes "module")) 6)
    ∷ ((codes "moduleX", alone (identifier (codes "moduleX")) 7)
    ∷ ((codes "hyper", alone (quoted (codes "hyper")) 5)
    ∷ ((codes "TRUE true", Ok (token (quoted (codes "TRUE")) 0 4 ∷ (token (identifier (codes "true")) 5 4 ∷ [])))
    ∷ ((codes "a::b", Ok (token (identifier (codes "a")) 0 1 ∷ (token (mark (codes "::")) 1 2 ∷ (token (identifier (codes "b")) 3 1 ∷ []))))
    ∷ ((codes ":::", Ok (token (mark (codes "::")) 0 2 ∷ (token (mark (codes ":")) 2 1 ∷ [])))
    ∷ ((codes "<<", Ok (token (mark (codes "<")) 0 1 ∷ (token (mark (codes "<")) 1 1 ∷ [])))
    ∷ ((codes "...", alone (mark (codes "...")) 3)
    ∷ ((codes "/", alone (mark (codes "/")) 1)
    ∷ ((codes "....", bad 3)
    ∷ ((codes "a.b", bad 1)
    ∷ ((codes "..", bad 0)
    ∷ ((codes "a !", bad 2)
    ∷ ((codes "$", bad 0)
    ∷ ((codes "a\r", bad 1)
    ∷ ((codes "Caf" ++ 195 ∷ 169 ∷ [], bad 3)
    ∷ [])))))))))))))))))

word_rows : AllByRecursion IsRow words
unfolding lexed is_utf8 chars encode utf8_valid_len piece_at mark_at comment_at pieces_within run_of behind_run number_of_word number_in word_of tokens_from
word_rows = are_rows words refl

-- ---- comments

abbrev comments : List Row
comments =
    (codes "/**/", Ok [])
    ∷ ((codes "/***/;", Ok (token (mark (codes ";")) 5 1 ∷ []))
    ∷ ((codes "/*/*/;", Ok (token (mark (codes ";")) 5 1 ∷ []))
    ∷ ((codes "a/* // */b", Ok (token (identifier (codes "a")) 0 1 ∷ (token (identifier (codes "b")) 9 1 ∷ [])))
    ∷ ((codes "// /*\na", Ok (token (identifier (codes "a")) 6 1 ∷ []))
    ∷ ((codes "//", Ok [])
    ∷ ((47 ∷ 42 ∷ 13 ∷ 195 ∷ 169 ∷ 42 ∷ 47 ∷ [], Ok [])
    ∷ ((codes "/* x", Err (open_comment 0))
    ∷ ((codes "/*/", Err (open_comment 0))
    ∷ ((codes "a /* b", Err (open_comment 2))
    ∷ ((codes "/* /* */ */", Ok (token (mark (codes "*")) 9 1 ∷ (token (mark (codes "/")) 10 1 ∷ [])))
    ∷ []))))))))))

comment_rows : AllByRecursion IsRow comments
unfolding lexed is_utf8 chars encode utf8_valid_len piece_at mark_at comment_at pieces_within run_of behind_run number_of_word number_in word_of tokens_from
comment_rows = are_rows comments refl

-- ---- directives

abbrev directives : List Row
directives =
    (codes "#include <x>", Ok [])
    ∷ ((codes " \t# ! /* \na", Ok (token (identifier (codes "a")) 10 1 ∷ []))
    ∷ ((codes "a\n\n  # x\n", Ok (token (identifier (codes "a")) 0 1 ∷ []))
    ∷ ((codes "// x\n#", Ok [])
    ∷ ((codes "# x \\\na", Ok (token (identifier (codes "a")) 6 1 ∷ []))
    ∷ ((codes "a # b", bad 2)
    ∷ ((codes "/* */ # x", bad 6)
    ∷ ((codes "/*\n*/ # x", bad 6)
    ∷ [])))))))

directive_rows : AllByRecursion IsRow directives
unfolding lexed is_utf8 chars encode utf8_valid_len piece_at mark_at comment_at pieces_within run_of behind_run number_of_word number_in word_of tokens_from
directive_rows = are_rows directives refl

-- ---- which fault counts

abbrev faults : List Row
faults =
    (codes "! /* " ++ 255 ∷ [], Err (bad_utf8 5))
    ∷ ((codes "//" ++ 195 ∷ 40 ∷ [], Err (bad_utf8 2))
    ∷ ((codes "a // " ++ 226 ∷ 130 ∷ [], Err (bad_utf8 5))
    ∷ ((codes "# " ++ 237 ∷ 160 ∷ 128 ∷ [], Err (bad_utf8 2))
    ∷ ((codes "// " ++ 192 ∷ 128 ∷ [], Err (bad_utf8 3))
    ∷ ((codes "// " ++ 195 ∷ 164 ∷ 32 ∷ 245 ∷ 128 ∷ 128 ∷ 128 ∷ 32 ∷ 255 ∷ [], Err (bad_utf8 6))
    ∷ ((239 ∷ 187 ∷ 191 ∷ codes "a", bad 0)
    ∷ ((codes "a ! /* b", bad 2)
    ∷ ((codes "a /* ! b", Err (open_comment 2))
    ∷ []))))))))

fault_rows : AllByRecursion IsRow faults
unfolding lexed is_utf8 chars encode utf8_valid_len piece_at mark_at comment_at pieces_within run_of behind_run number_of_word number_in word_of tokens_from
fault_rows = are_rows faults refl

-- a byte more than a file may have
long_row : (text : List ℕ) → length text ≡ 4194305 → IsLexed text (Err too_long)
long_row text long = omega (arith, long)
