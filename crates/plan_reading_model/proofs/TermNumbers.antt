-- A number that is read is spelled, and is one that some type has.
use Rattle.std.proofs.Common.{◌≡◌, ℕ, suc, ◌+◌, ◌-◌, ◌*◌, ◌/◌, ◌%◌, ◌^◌, ◌<◌, ◌≤◌, pos, Bool, true, false, ◌&&◌, ◌==◌, List, [], ◌∷◌, ◌++◌, length}
use Rattle.std.proofs.Common.{Ok, refl, sym, ap, ◌∙◌, append_assoc, arith, nat_le}
use Rattle.std.proofs.lemmas.Bool.{and_parts, leb-true, le-leb, lt-ltb, eqb-true}
use Rattle.std.proofs.lemmas.Fmt.{decimal_digit, decimal_step}
use Rattle.std.specs.Fmt.{decimal, signed_decimal}
use Rattle.literal_model.specs.Literals.{Token, number, spell}
use Rattle.literal_model.specs.Shapes.{largest, lowest, digits_on, digits_at, negative_of, number_at}
use Rattle.literal_model.proofs.ScanLaws.{not_ok, IsNumber}
use Rattle.literal_model.proofs.TypedLaws.{ok_step, ok_holds}
use Rattle.uno_model.specs.Entities.{Entity}
use Rattle.plan_model.specs.Forms.{is_leaf}

one_digit_more : (m c : ℕ) → 1 ≤ m → 48 ≤ c → c ≤ 57 → m * 10 + (c - 48) < 2 ^ 64 → decimal (m * 10 + (c - 48)) ≡ decimal m ++ c ∷ []
one_digit_more m c some low high fits =
    let n = m * 10 + (c - 48) in
    let front_it : n / 10 ≡ m = omega arith in
    let last : 48 + n % 10 ≡ c = omega arith in
    decimal_step n (omega arith) fits ∙ ap (λ k. decimal k ++ (48 + n % 10) ∷ []) front_it ∙ ap (λ k. decimal m ++ k ∷ []) last

digits_back : (limit m : ℕ) (cs : List ℕ) (x : ℕ × List ℕ) → limit < 2 ^ 64 → 1 ≤ m → m ≤ limit → digits_on limit m cs ≡ Ok x → IsNumber limit m cs x.0 x.1
unfolding digits_on
digits_back limit m [] x small some within e = ok_holds (IsNumber limit m []) m x.0 [] x.1 e (record { spelled = refl; some = some; within = within })
digits_back limit m (c ∷ cs) x small some within e = by_digit (nat_le 48 c && nat_le c 57) refl (λ a b f. digits_back limit (m * 10 + (c - 48)) cs x small a b f)
  where
    Inner : Type 0
    Inner = 1 ≤ m * 10 + (c - 48) → m * 10 + (c - 48) ≤ limit → digits_on limit (m * 10 + (c - 48)) cs ≡ Ok x → IsNumber limit (m * 10 + (c - 48)) cs x.0 x.1

    by_limit : (b : Bool) → (nat_le 48 c && nat_le c 57) ≡ true → nat_le (m * 10 + (c - 48)) limit ≡ b → Inner → IsNumber limit m (c ∷ cs) x.0 x.1
    by_limit true digit few inner =
        let parts = and_parts (nat_le 48 c) (nat_le c 57) digit in
        let low = leb-true 48 c parts.0 in
        let high = leb-true c 57 parts.1 in
        let below = leb-true (m * 10 + (c - 48)) limit few in
        let is = inner (omega arith) below (rw (digit, few) at e) in
        let more = one_digit_more m c some low high (omega arith) in
        record { spelled = sym (append_assoc (decimal m) (c ∷ []) cs) ∙ ap (λ t. t ++ cs) (sym more) ∙ is.spelled; some = is.some; within = is.within }
    by_limit false digit many inner = absurd (not_ok (suc (length cs)) x (rw (digit, many) at e))

    by_digit : (b : Bool) → (nat_le 48 c && nat_le c 57) ≡ b → Inner → IsNumber limit m (c ∷ cs) x.0 x.1
    by_digit true digit inner = by_limit (nat_le (m * 10 + (c - 48)) limit) digit refl inner
    by_digit false other inner = ok_holds (IsNumber limit m (c ∷ cs)) m x.0 (c ∷ cs) x.1 (rw other at e) (record { spelled = refl; some = some; within = within })

-- digits in front, of which the first is not 0
record AreDigits (limit : ℕ) (bytes : List ℕ) (n : ℕ) (r : List ℕ) : Type 0 where
  spelled : bytes ≡ decimal n ++ r
  some : 1 ≤ n
  within : n ≤ limit

first_back : (limit : ℕ) (bytes : List ℕ) (x : ℕ × List ℕ) → 9 ≤ limit → limit < 2 ^ 64 → digits_at limit bytes ≡ Ok x → AreDigits limit bytes x.0 x.1
first_back limit [] x room small e = absurd (not_ok 0 x e)
first_back limit (c ∷ cs) x room small e = by_digit (nat_le 49 c && nat_le c 57) refl
  where
    by_digit : (b : Bool) → (nat_le 49 c && nat_le c 57) ≡ b → AreDigits limit (c ∷ cs) x.0 x.1
    by_digit true digit =
        let parts = and_parts (nat_le 49 c) (nat_le c 57) digit in
        let low = leb-true 49 c parts.0 in
        let high = leb-true c 57 parts.1 in
        let is = digits_back limit (c - 48) cs x small (omega arith) (omega arith) (rw digit at e) in
        let first : 48 + (c - 48) ≡ c = omega arith in
        let one : decimal (c - 48) ≡ c ∷ [] = decimal_digit (c - 48) (omega arith) ∙ ap (λ d. d ∷ []) first in
        record { spelled = ap (λ t. t ++ cs) (sym one) ∙ is.spelled; some = is.some; within = is.within }
    by_digit false other = absurd (not_ok (suc (length cs)) x (rw other at e))

negative_is : (n : ℕ) → 1 ≤ n → signed_decimal (negative_of n) ≡ 45 ∷ decimal n
negative_is n some = let back : suc (n - 1) ≡ n = omega arith in ap (λ m. 45 ∷ decimal m) back

minus_spelled : (c n : ℕ) (cs r : List ℕ) → (c == 45) ≡ true → 1 ≤ n → cs ≡ decimal n ++ r → c ∷ cs ≡ signed_decimal (negative_of n) ++ r
minus_spelled c n cs r minus some split = ap (λ y. y ∷ cs) (eqb-true c 45 minus) ∙ ap (λ y. 45 ∷ y) split ∙ ap (λ y. y ++ r) (sym (negative_is n some))

-- ---- numbers

pub record IsLeafAt (reg : List Entity) (bytes : List ℕ) (t : Token) (r : List ℕ) : Type 0 where
  pub formed : is_leaf reg t ≡ true
  pub spelled : bytes ≡ spell t ++ r

pub number_back : (reg : List Entity) (bytes : List ℕ) (x : Token × List ℕ) → number_at bytes ≡ Ok x → IsLeafAt reg bytes x.0 x.1
number_back reg [] x e = absurd (not_ok 0 x e)
number_back reg (c ∷ cs) x e = by_zero (c == 48) refl
  where
    Is : Token → List ℕ → Type 0
    Is t r = IsLeafAt reg (c ∷ cs) t r

    by_minus : (b : Bool) → (c == 48) ≡ false → (c == 45) ≡ b → Is x.0 x.1
    by_minus true no_zero minus =
        let at = ok_step {B = Token × List ℕ} (digits_at lowest cs) (λ y. Ok (number (negative_of y.0), y.1)) x (rw (no_zero, minus) at e) in
        let is = first_back lowest cs at.0 (omega arith) (omega arith) at.1 in
        let few : at.0.0 - 1 < lowest = omega (arith, is.some, is.within) in
        ok_holds Is (number (negative_of at.0.0)) x.0 at.0.1 x.1 at.2
        (record {
          formed = lt-ltb (at.0.0 - 1) lowest few;
          spelled = minus_spelled c at.0.0 cs at.0.1 minus is.some is.spelled;
        })
    by_minus false no_zero plus =
        let at = ok_step {B = Token × List ℕ} (digits_at largest (c ∷ cs)) (λ y. Ok (number (pos y.0), y.1)) x (rw (no_zero, plus) at e) in
        let is = first_back largest (c ∷ cs) at.0 (omega arith) (omega arith) at.1 in
        ok_holds Is (number (pos at.0.0)) x.0 at.0.1 x.1 at.2 (record { formed = le-leb at.0.0 largest is.within; spelled = is.spelled })

    by_zero : (b : Bool) → (c == 48) ≡ b → Is x.0 x.1
    by_zero true zero_it =
        ok_holds Is (number (pos 0)) x.0 cs x.1 (rw zero_it at e)
        (record { formed = refl; spelled = ap (λ y. y ∷ cs) (eqb-true c 48 zero_it) ∙ ap (λ y. y ++ cs) (sym (decimal_digit 0 (omega arith))) })
    by_zero false no_zero = by_minus (c == 45) no_zero refl
