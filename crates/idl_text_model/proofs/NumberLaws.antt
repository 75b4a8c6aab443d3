-- What is a number begins with a digit, and has only letters and digits.
use Rattle.std.proofs.Common.{Option, None, Some, if◌then◌else◌, ◌≡◌, ℕ, ◌<◌, ◌≤◌, ◌-◌, Bool, true, false, nat_lt, List, [], ◌∷◌, ◌++◌, take, drop, is_some}
use Rattle.std.proofs.Common.{refl, sym, ap, subst, ◌∙◌, codes, arith}
use Rattle.std.proofs.lemmas.Bool.{and_parts, and_from, false≢true, ltb-true, lt-ltb}
use Rattle.std.proofs.lemmas.Slice.Eq.{bytes_eq-Decides}
use Rattle.std.proofs.lemmas.List.{take-append-drop}
use Rattle.std.specs.Char.{digit_value, is_ascii_digit}
use Rattle.std.specs.List.{list_all}
use Rattle.std.specs.Str.{bytes_eq}
use Rattle.std.specs.Str.Parse.{digits_value}
use Rattle.idl_text_model.specs.Numbers.{are_digits, number_in, number_of_word}
use Rattle.uno_model.specs.Names.{goes_on_identifier}

-- by a test
split : {P : Type 0} (b : Bool) → (b ≡ true → P) → (b ≡ false → P) → P
split true here other = here refl
split false here other = other refl

-- a digit of base 16 is a digit, or a letter up to `f`
module _ (c : ℕ) (digit : nat_lt (digit_value c) 16 ≡ true) where
  hex_goes_on : goes_on_identifier c ≡ true
  hex_goes_on =
      split (nat_lt c 48) (λ e. let wrong : false ≡ true = rw e at digit in absurd (false≢true wrong))
      (λ low. split (nat_lt c 58) (λ e. grind (arith, low, e))
      (λ past. split (nat_lt c 65) (λ e. let wrong : false ≡ true = rw (low, past, e) at digit in absurd (false≢true wrong))
      (λ capital. split (nat_lt c 91) (λ e. grind (arith, capital, e))
      (λ behind. split (nat_lt c 97) (λ e. let wrong : false ≡ true = rw (low, past, capital, behind, e) at digit in absurd (false≢true wrong))
      (λ small. split (nat_lt c 123) (λ e. grind (arith, small, e))
      (λ e. let wrong : false ≡ true = rw (low, past, capital, behind, small, e) at digit in absurd (false≢true wrong)))))))

-- a digit of a base up to 10 is a digit
decimal_digit : (base c : ℕ) → base ≤ 10 → nat_lt (digit_value c) base ≡ true → is_ascii_digit c ≡ true
decimal_digit base c small digit =
    let value : digit_value c < 10 = let below = ltb-true (digit_value c) base digit in omega (arith, below, small) in
    let ten : nat_lt (digit_value c) 10 ≡ true = lt-ltb (digit_value c) 10 value in
    split (nat_lt c 48) (λ e. let wrong : false ≡ true = rw e at ten in absurd (false≢true wrong))
    (λ low. split (nat_lt c 58) (λ e. grind (arith, low, e))
    (λ past. split (nat_lt c 65) (λ e. let wrong : false ≡ true = rw (low, past, e) at ten in absurd (false≢true wrong))
    (λ capital. split (nat_lt c 91) (λ e. let letter : nat_lt (c - 55) 10 ≡ true = rw (low, past, capital, e) at ten in grind (arith, capital, letter))
    (λ behind. split (nat_lt c 97) (λ e. let wrong : false ≡ true = rw (low, past, capital, behind, e) at ten in absurd (false≢true wrong))
    (λ small. split (nat_lt c 123)
    (λ e. let letter : nat_lt (c - 87) 10 ≡ true = rw (low, past, capital, behind, small, e) at ten in grind (arith, small, letter))
    (λ e. let wrong : false ≡ true = rw (low, past, capital, behind, small, e) at ten in absurd (false≢true wrong)))))))

all_go_on : (base : ℕ) (ds : List ℕ) → base ≤ 16 → list_all (λ c. nat_lt (digit_value c) base) ds ≡ true → list_all goes_on_identifier ds ≡ true
all_go_on base [] small all = refl
all_go_on base (c ∷ cs) small all =
    let parts = and_parts (nat_lt (digit_value c) base) _ all in
    let below = ltb-true (digit_value c) base parts.0 in
    and_from (goes_on_identifier c) _ (hex_goes_on c (lt-ltb (digit_value c) 16 (omega (arith, below, small)))) (all_go_on base cs small parts.1)

-- what is a number begins with a digit, and goes on with letters and digits
pub record IsNumeral (w : List ℕ) : Type 0 where
  pub first : ℕ
  pub others : List ℕ
  pub word : w ≡ first ∷ others
  pub digit : is_ascii_digit first ≡ true
  pub letters : list_all goes_on_identifier w ≡ true

-- what there is where a test holds alone
where_held : (b : Bool) (v : ℕ) → is_some (if b then Some v else None) ≡ true → b ≡ true
where_held true v some = refl
where_held false v some = absurd (false≢true some)

in_base : (base : ℕ) (ds : List ℕ) → is_some (number_in base ds) ≡ true → are_digits base ds ≡ true
unfolding number_in
in_base base ds some = (and_parts (are_digits base ds) _ (where_held _ (digits_value base ds) some)).0

decimal_numeral : (base : ℕ) (w : List ℕ) → base ≤ 10 → is_some (number_in base w) ≡ true → IsNumeral w
decimal_numeral base w small some = by_list w (in_base base w some)
  where
    by_list : (ds : List ℕ) → are_digits base ds ≡ true → IsNumeral ds
    by_list [] digits = absurd (false≢true digits)
    by_list (c ∷ cs) digits =
        let all = (and_parts true (list_all (λ d. nat_lt (digit_value d) base) (c ∷ cs)) digits).1 in
        record {
          first = c;
          others = cs;
          word = refl;
          digit = decimal_digit base c small (and_parts (nat_lt (digit_value c) base) _ all).0;
          letters = all_go_on base (c ∷ cs) (omega (arith, small)) all;
        }

hex_numeral : (w : List ℕ) → bytes_eq (take 2 w) (codes "0x") ≡ true → is_some (number_in 16 (drop 2 w)) ≡ true → IsNumeral w
hex_numeral w front some =
    let digits = (and_parts _ (list_all (λ d. nat_lt (digit_value d) 16) (drop 2 w)) (in_base 16 (drop 2 w) some)).1 in
    let letters : list_all goes_on_identifier (48 ∷ 120 ∷ drop 2 w) ≡ true = all_go_on 16 (drop 2 w) (omega arith) digits in
    let same : take 2 w ≡ codes "0x" = (bytes_eq-Decides (take 2 w) (codes "0x")).0 front in
    let word : w ≡ 48 ∷ 120 ∷ drop 2 w = sym (take-append-drop 2 w) ∙ ap (λ x. x ++ drop 2 w) same in
    record { first = 48; others = 120 ∷ drop 2 w; word = word; digit = refl; letters = subst (λ x. list_all goes_on_identifier x ≡ true) (sym word) letters }

-- by the first of two that there is
by_one : {P : Type 0} (b : Bool) (x y : Option ℕ) → is_some (if b then x else y) ≡ true → (b ≡ true → is_some x ≡ true → P)
    → (b ≡ false → is_some y ≡ true → P) → P
by_one true x y some here other = here refl some
by_one false x y some here other = other refl some

pub is_numeral : (w : List ℕ) → is_some (number_of_word w) ≡ true → IsNumeral w
unfolding number_of_word
is_numeral w some =
    by_one (bytes_eq (take 2 w) (codes "0x")) _ _ some (hex_numeral w)
    (λ hex other. by_one (bytes_eq (take 1 w) (codes "0")) _ _ other (λ front. decimal_numeral _ w (omega arith)) (λ front. decimal_numeral _ w (omega arith)))
