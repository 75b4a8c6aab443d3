-- Bytes of a class are below 128, and so a text.
use Rattle.std.proofs.Common.{◌≡◌, ℕ, zero, suc, ◌<◌, Bool, true, false, ◌==◌, ◌||◌, List, [], ◌∷◌, ◌++◌, get_or, IsTrue, refl, arith}
use Rattle.std.proofs.lemmas.Bool.{and_parts, and_from}
use Rattle.std.proofs.lemmas.Str.{IsUtf8-from_ascii}
use Rattle.std.specs.List.{list_all}
use Rattle.std.specs.Str.{IsUtf8}
use Rattle.uno_model.specs.Names.{goes_on_identifier}
use Rattle.plan_lines.specs.Classes.{test_of, is_ascii, IsAscii}
use Rattle.plan_lines.specs.declared.class.Class.{Class}
use Rattle.plan_lines.specs.declared.class.Class.TheVariants as class

all_ascii : (test : ℕ → Bool) → ((c : ℕ) → test c ≡ true → is_ascii c ≡ true) → (xs : List ℕ) → list_all test xs ≡ true → list_all is_ascii xs ≡ true
all_ascii test each [] all = refl
all_ascii test each (x ∷ xs) all = let parts = and_parts (test x) (list_all test xs) all in and_from (is_ascii x) _ (each x parts.0) (all_ascii test each xs parts.1)

word_byte : (c : ℕ) → test_of class.Word c ≡ true → is_ascii c ≡ true
word_byte c passes = grind arith

path_byte : (c : ℕ) → test_of class.Path c ≡ true → is_ascii c ≡ true
path_byte c passes = grind arith

mark_byte : (c : ℕ) → ((c == 46) || ((c == 91) || (c == 93))) ≡ true → is_ascii c ≡ true
mark_byte c passes = grind arith

type_byte : (c : ℕ) → test_of class.Type c ≡ true → is_ascii c ≡ true
type_byte c passes = by_word (goes_on_identifier c) refl passes
  where
    by_word : (b : Bool) → goes_on_identifier c ≡ b → (b || ((c == 46) || ((c == 91) || (c == 93)))) ≡ true → is_ascii c ≡ true
    by_word true is e = word_byte c is
    by_word false is e = mark_byte c e

bracket_byte : (c : ℕ) → test_of class.Bracket c ≡ true → is_ascii c ≡ true
bracket_byte c passes = grind arith

exported_byte : (c : ℕ) → test_of class.Exported c ≡ true → is_ascii c ≡ true
exported_byte c passes = grind arith

pub run_is_ascii : (k : Class) (xs : List ℕ) → IsTrue (list_all (test_of k) xs) → IsAscii k xs
run_is_ascii class.Word xs all = all_ascii _ word_byte xs all
run_is_ascii class.Path xs all = all_ascii _ path_byte xs all
run_is_ascii class.Type xs all = all_ascii _ type_byte xs all
run_is_ascii class.Bracket xs all = all_ascii _ bracket_byte xs all
run_is_ascii class.Exported xs all = all_ascii _ exported_byte xs all
run_is_ascii class.Visible xs all = tt

pub ascii_is_text : (bytes : List ℕ) → IsTrue (list_all is_ascii bytes) → IsUtf8 bytes
ascii_is_text bytes all = IsUtf8-from_ascii bytes (each bytes all)
  where
    byte : (c : ℕ) → is_ascii c ≡ true → c < 128
    byte c passes = grind arith

    each : (xs : List ℕ) → list_all is_ascii xs ≡ true → (i : ℕ) → get_or xs i 0 < 128
    each [] passes i = omega arith
    each (x ∷ xs) passes zero = byte x (and_parts (is_ascii x) _ passes).0
    each (x ∷ xs) passes (suc i) = each xs (and_parts (is_ascii x) _ passes).1 i

pub ascii_behind : (xs ys : List ℕ) → list_all is_ascii xs ≡ true → list_all is_ascii ys ≡ true → IsTrue (list_all is_ascii (xs ++ ys))
ascii_behind [] ys all others = others
ascii_behind (x ∷ xs) ys all others = let parts = and_parts (is_ascii x) (list_all is_ascii xs) all in and_from (is_ascii x) _ parts.0 (ascii_behind xs ys parts.1 others)
