-- What is scanned of a text is spelled there.
use Rattle.std.proofs.Common.{◌≡◌, ℕ, zero, suc, ◌+◌, ◌-◌, ◌*◌, ◌/◌, ◌%◌, ◌^◌, ◌<◌, ◌≤◌, pos, Bool, true, false, ◌&&◌, ◌||◌, ◌==◌, List, [], ◌∷◌, ◌++◌}
use Rattle.std.proofs.Common.{length, Option, None, Some, MatchOption, Result, Ok, Err, IsTrue, refl, sym, ap, subst, ◌∙◌, arith, nat_le}
use Rattle.std.proofs.lemmas.Bool.{and_parts, leb-true, eqb-true}
use Rattle.std.proofs.lemmas.Fmt.{decimal_digit, decimal_step}
use Rattle.std.proofs.lemmas.List.{append_assoc}
use Rattle.std.specs.Fmt.{decimal, signed_decimal}
use Rattle.std.specs.List.{list_all, flat_map}
use Rattle.uno_model.proofs.TypeTextLaws.{text_finds}
use Rattle.literal_model.proofs.TypedLaws.{HasType, Typed, bare, ok_holds, ok_step}
use Rattle.uno_model.specs.Entities.{Entity}
use Rattle.uno_model.specs.Kinds.{Kind, name_of}
use Rattle.uno_model.specs.Kinds as kd
use Rattle.literal_model.specs.Literals.{escaped, Bracket, square, curly, Token, opens, closes, comma, number, word, string, named, cast, spell, spells}
use Rattle.uno_model.specs.NamedTypes.{IsNamed, type_of_text}
use Rattle.uno_model.specs.Names.{begins_identifier, goes_on_identifier}
use Rattle.literal_model.specs.Shapes.{largest, lowest, is_known_word, run_of, behind_run}
use Rattle.literal_model.specs.Shapes.{digits_on, digits_at, on_ok, with_byte, escape_of, string_at, is_name_byte, name_stop, type_at, cast_of, word_at, negative_of, number_at, value_at, Awaited}
use Rattle.literal_model.specs.Shapes.{value, element, separator, behind, opened, closing, separator_at, element_at, token_at, Placed, with_token, is_at_end, tokens_at}
use Rattle.uno_model.specs.Sound.{is_named}
use Rattle.uno_model.specs.Types.{is_type}

ok_parts : {A B : Type 0} (a c : A) (b d : B) → ◌≡◌ {A = Result (A × B) ℕ} (Ok (a, b)) (Ok (c, d)) → (a ≡ c) × (b ≡ d)
ok_parts {A} {B} a c b d e = let pair : ◌≡◌ {A = A × B} (a, b) (c, d) = cc in (ap (λ (y : A × B). y.0) pair, ap (λ (y : A × B). y.1) pair)

pub not_ok : {Y : Type 0} (left : ℕ) (y : Y) → Err left ≡ Ok y → ⊥
not_ok left y e = cc

-- a run and what is behind it are the whole
pub front_rest : (test : ℕ → Bool) (bytes : List ℕ) → bytes ≡ run_of test bytes ++ behind_run test bytes
unfolding run_of behind_run
front_rest test [] = refl
front_rest test (c ∷ cs) = by_test (test c) refl (front_rest test cs)
  where
    by_test : (b : Bool) → test c ≡ b → cs ≡ run_of test cs ++ behind_run test cs → c ∷ cs ≡ run_of test (c ∷ cs) ++ behind_run test (c ∷ cs)
    by_test true passes inner = rw (passes) (ap (λ xs. c ∷ xs) inner)
    by_test false fails inner = rw (fails) refl

-- ---- numbers

one_digit_more : (m c : ℕ) → 1 ≤ m → 48 ≤ c → c ≤ 57 → m * 10 + (c - 48) < 2 ^ 64 → decimal (m * 10 + (c - 48)) ≡ decimal m ++ c ∷ []
one_digit_more m c some low high fits =
    let n = m * 10 + (c - 48) in
    let front_it : n / 10 ≡ m = omega arith in
    let last : 48 + n % 10 ≡ c = omega arith in
    decimal_step n (omega arith) fits ∙ ap (λ k. decimal k ++ (48 + n % 10) ∷ []) front_it ∙ ap (λ k. decimal m ++ k ∷ []) last

pub record IsNumber (limit m : ℕ) (cs : List ℕ) (n : ℕ) (r : List ℕ) : Type 0 where
  pub spelled : decimal m ++ cs ≡ decimal n ++ r
  pub some : 1 ≤ n
  pub within : n ≤ limit

digits_sound : (limit m : ℕ) (cs : List ℕ) (n : ℕ) (r : List ℕ) → limit < 2 ^ 64 → 1 ≤ m → m ≤ limit → digits_on limit m cs ≡ Ok (n, r) → IsNumber limit m cs n r
unfolding digits_on
digits_sound limit m [] n r small some within e = ok_holds (IsNumber limit m []) m n [] r e (record { spelled = refl; some = some; within = within })
digits_sound limit m (c ∷ cs) n r small some within e = by_digit (nat_le 48 c && nat_le c 57) refl (λ a b f. digits_sound limit (m * 10 + (c - 48)) cs n r small a b f)
  where
    Inner : Type 0
    Inner = 1 ≤ m * 10 + (c - 48) → m * 10 + (c - 48) ≤ limit → digits_on limit (m * 10 + (c - 48)) cs ≡ Ok (n, r) → IsNumber limit (m * 10 + (c - 48)) cs n r

    by_limit : (b : Bool) → (nat_le 48 c && nat_le c 57) ≡ true → nat_le (m * 10 + (c - 48)) limit ≡ b → Inner → IsNumber limit m (c ∷ cs) n r
    by_limit true digit few inner =
        let parts = and_parts (nat_le 48 c) (nat_le c 57) digit in
        let low = leb-true 48 c parts.0 in
        let high = leb-true c 57 parts.1 in
        let below = leb-true (m * 10 + (c - 48)) limit few in
        let is = inner (omega arith) below (rw (digit, few) at e) in
        let more = one_digit_more m c some low high (omega arith) in
        record { spelled = sym (append_assoc (decimal m) (c ∷ []) cs) ∙ ap (λ t. t ++ cs) (sym more) ∙ is.spelled; some = is.some; within = is.within }
    by_limit false digit many inner = absurd (not_ok (suc (length cs)) (n, r) (rw (digit, many) at e))

    by_digit : (b : Bool) → (nat_le 48 c && nat_le c 57) ≡ b → Inner → IsNumber limit m (c ∷ cs) n r
    by_digit true digit inner = by_limit (nat_le (m * 10 + (c - 48)) limit) digit refl inner
    by_digit false other inner = ok_holds (IsNumber limit m (c ∷ cs)) m n (c ∷ cs) r (rw other at e) (record { spelled = refl; some = some; within = within })

digits_at_sound : (limit : ℕ) (bytes : List ℕ) (n : ℕ) (r : List ℕ) → 9 ≤ limit → limit < 2 ^ 64 → digits_at limit bytes ≡ Ok (n, r) → (bytes ≡ decimal n ++ r) × (1 ≤ n)
digits_at_sound limit [] n r room small e = absurd (not_ok 0 (n, r) e)
digits_at_sound limit (c ∷ cs) n r room small e = by_digit (nat_le 49 c && nat_le c 57) refl
  where
    by_digit : (b : Bool) → (nat_le 49 c && nat_le c 57) ≡ b → (c ∷ cs ≡ decimal n ++ r) × (1 ≤ n)
    by_digit true digit =
        let parts = and_parts (nat_le 49 c) (nat_le c 57) digit in
        let low = leb-true 49 c parts.0 in
        let high = leb-true c 57 parts.1 in
        let is = digits_sound limit (c - 48) cs n r small (omega arith) (omega arith) (rw digit at e) in
        let first : 48 + (c - 48) ≡ c = omega arith in
        let one : decimal (c - 48) ≡ c ∷ [] = decimal_digit (c - 48) (omega arith) ∙ ap (λ x. x ∷ []) first in
        (ap (λ t. t ++ cs) (sym one) ∙ is.spelled, is.some)
    by_digit false other = absurd (not_ok (suc (length cs)) (n, r) (rw other at e))

-- ---- quoted texts

abbrev pending : Bool → List ℕ
pending true = 92 ∷ []
pending false = []

byte_parts : (c : ℕ) (m : Result (List ℕ × List ℕ) ℕ) (s r : List ℕ) → with_byte c m ≡ Ok (s, r) → (t : List ℕ) × (m ≡ Ok (t, r)) × (s ≡ c ∷ t)
byte_parts c (Ok x) s r e = let parts = ok_parts (c ∷ x.0) s x.1 r e in (x.0, ap (λ y. Ok (x.0, y)) parts.1, sym parts.0)
byte_parts c (Err left) s r e = absurd (not_ok left (s, r) e)

escape_is : (c b : ℕ) → escape_of c ≡ Some b → escaped b ≡ 92 ∷ (c ∷ [])
escape_is c b e = by_n (c == 110) refl
  where
    by_mark : (t : Bool) → ((c == 34) || (c == 92)) ≡ t → (c == 110) ≡ false → escaped b ≡ 92 ∷ (c ∷ [])
    by_mark true mark other =
        let one : Some c ≡ Some b = rw (other, mark) at e in
        let is : c ≡ b = cc in
        let marked : ((b == 34) || (b == 92)) ≡ true = subst (λ x. ((x == 34) || (x == 92)) ≡ true) is mark in
        rw marked (ap (λ x. 92 ∷ (x ∷ [])) (sym is))
    by_mark false none other = let bad : None ≡ Some b = rw (other, none) at e in let worse : ⊥ = cc in absurd worse

    by_n : (t : Bool) → (c == 110) ≡ t → escaped b ≡ 92 ∷ (c ∷ [])
    by_n true letter =
        let one : Some 10 ≡ Some b = rw letter at e in
        let is : 10 ≡ b = cc in
        let it : c ≡ 110 = eqb-true c 110 letter in
        subst (λ x. escaped x ≡ 92 ∷ (c ∷ [])) is (ap (λ x. 92 ∷ (x ∷ [])) (sym it))
    by_n false other = by_mark ((c == 34) || (c == 92)) refl other

string_sound : (flag : Bool) (cs s r : List ℕ) → string_at flag cs ≡ Ok (s, r) → pending flag ++ cs ≡ flat_map escaped s ++ 34 ∷ r
unfolding string_at
string_sound flag [] s r e = absurd (not_ok 0 (s, r) e)
string_sound true (c ∷ cs) s r e = by_escape (escape_of c) refl (λ t f. string_sound false cs t r f)
  where
    by_escape : (o : Option ℕ) → escape_of c ≡ o → ((t : List ℕ) → string_at false cs ≡ Ok (t, r) → cs ≡ flat_map escaped t ++ 34 ∷ r)
        → 92 ∷ (c ∷ cs) ≡ flat_map escaped s ++ 34 ∷ r
    by_escape (Some b) is inner =
        let parts = byte_parts b (string_at false cs) s r (rw is at e) in
        let front_it = escape_is c b is in
        ap (λ x. 92 ∷ (c ∷ x)) (inner parts.0 parts.1) ∙ ap (λ x. x ++ (flat_map escaped parts.0 ++ 34 ∷ r)) (sym front_it)
        ∙ sym (append_assoc (escaped b) (flat_map escaped parts.0) (34 ∷ r)) ∙ ap (λ x. flat_map escaped x ++ 34 ∷ r) (sym parts.2)
    by_escape None is inner = absurd (not_ok (suc (length cs)) (s, r) (rw is at e))
string_sound false (c ∷ cs) s r e = by_quote (c == 34) refl (λ t f. string_sound false cs t r f) (λ f. string_sound true cs s r f)
  where
    Plainly : Type 0
    Plainly = (t : List ℕ) → string_at false cs ≡ Ok (t, r) → cs ≡ flat_map escaped t ++ 34 ∷ r

    Escaped : Type 0
    Escaped = string_at true cs ≡ Ok (s, r) → 92 ∷ cs ≡ flat_map escaped s ++ 34 ∷ r

    by_line : (b : Bool) → (c == 34) ≡ false → (c == 92) ≡ false → (c == 10) ≡ b → Plainly → c ∷ cs ≡ flat_map escaped s ++ 34 ∷ r
    by_line true no_quote no_slash line inner = absurd (not_ok (suc (length cs)) (s, r) (rw (no_quote, no_slash, line) at e))
    by_line false no_quote no_slash no_line inner =
        let parts = byte_parts c (string_at false cs) s r (rw (no_quote, no_slash, no_line) at e) in
        let itself : escaped c ≡ c ∷ [] = rw (no_quote, no_slash, no_line) refl in
        ap (λ x. c ∷ x) (inner parts.0 parts.1) ∙ ap (λ x. x ++ (flat_map escaped parts.0 ++ 34 ∷ r)) (sym itself)
        ∙ sym (append_assoc (escaped c) (flat_map escaped parts.0) (34 ∷ r)) ∙ ap (λ x. flat_map escaped x ++ 34 ∷ r) (sym parts.2)

    by_slash : (b : Bool) → (c == 34) ≡ false → (c == 92) ≡ b → Plainly → Escaped → c ∷ cs ≡ flat_map escaped s ++ 34 ∷ r
    by_slash true no_quote slash inner escapes = ap (λ x. x ∷ cs) (eqb-true c 92 slash) ∙ escapes (rw (no_quote, slash) at e)
    by_slash false no_quote no_slash inner escapes = by_line (c == 10) no_quote no_slash refl inner

    by_quote : (b : Bool) → (c == 34) ≡ b → Plainly → Escaped → c ∷ cs ≡ flat_map escaped s ++ 34 ∷ r
    by_quote true quote inner escapes =
        let parts = ok_parts [] s cs r (rw quote at e) in
        ap (λ x. x ∷ cs) (eqb-true c 34 quote) ∙ ap (λ x. 34 ∷ x) parts.1 ∙ ap (λ x. flat_map escaped x ++ 34 ∷ r) parts.0
    by_quote false no_quote inner escapes = by_slash (c == 92) no_quote refl inner escapes

-- ---- types and words

pub record IsTypeAt (reg : List Entity) (mark : ℕ) (bytes : List ℕ) (k : Kind) (r : List ℕ) : Type 0 where
  pub spelled : bytes ≡ name_of k ++ mark ∷ r
  pub type : IsTrue (is_type reg k)

type_sound : (reg : List Entity) (mark : ℕ) (bytes : List ℕ) (k : Kind) (r : List ℕ) → list_all is_named reg ≡ true
    → type_at reg mark bytes ≡ Ok (k, r) → IsTypeAt reg mark bytes k r
type_sound reg mark bytes k r named_all e = by_rest (behind_run is_name_byte bytes) refl
  where
    by_type : (c : ℕ) (cs : List ℕ) (o : Option Kind) → behind_run is_name_byte bytes ≡ c ∷ cs → (c == mark) ≡ true
        → type_of_text reg (run_of is_name_byte bytes) ≡ o
        → MatchOption o ((j : Kind) → IsNamed reg (run_of is_name_byte bytes) j → ⊥) (IsNamed reg (run_of is_name_byte bytes))
        → IsTypeAt reg mark bytes k r
    by_type c cs (Some j) behind_it marked found is =
        ok_holds (IsTypeAt reg mark bytes) j k cs r (rw (behind_it, marked, found) at e)
        (record {
          spelled = front_rest is_name_byte bytes ∙ ap (λ x. run_of is_name_byte bytes ++ x) (behind_it ∙ ap (λ x. x ∷ cs) (eqb-true c mark marked)) ∙ ap (λ x. x ++ mark ∷ cs) (sym is.named);
          type = is.is;
        })
    by_type c cs None behind_it marked found is = absurd (not_ok (length bytes) (k, r) (rw (behind_it, marked, found) at e))

    by_mark : (c : ℕ) (cs : List ℕ) (b : Bool) → behind_run is_name_byte bytes ≡ c ∷ cs → (c == mark) ≡ b → IsTypeAt reg mark bytes k r
    by_mark c cs true behind_it marked = by_type c cs (type_of_text reg (run_of is_name_byte bytes)) behind_it marked refl (text_finds reg (run_of is_name_byte bytes) named_all)
    by_mark c cs false behind_it other = absurd (not_ok (name_stop reg (run_of is_name_byte bytes) (suc (length cs))) (k, r) (rw (behind_it, other) at e))

    by_rest : (xs : List ℕ) → behind_run is_name_byte bytes ≡ xs → IsTypeAt reg mark bytes k r
    by_rest [] none = absurd (not_ok (name_stop reg (run_of is_name_byte bytes) 0) (k, r) (rw none at e))
    by_rest (c ∷ cs) behind_it = by_mark c cs (c == mark) behind_it refl

-- a token is spelled in front, and its type is one of the registry
pub record IsTokenAt (reg : List Entity) (bytes : List ℕ) (t : Token) (r : List ℕ) : Type 0 where
  pub spelled : bytes ≡ spell t ++ r
  pub typed : HasType reg t

cast_sound : (reg : List Entity) (left : ℕ) (bytes : List ℕ) (k : Kind) (cs : List ℕ) (t : Token) (r : List ℕ) → IsTypeAt reg 41 bytes k cs
    → cast_of left (k, cs) ≡ Ok (t, r) → IsTokenAt reg (40 ∷ bytes) t r
cast_sound reg left bytes kd.any cs t r is e = absurd (not_ok left (t, r) e)
cast_sound reg left bytes k cs t r is e =
    ok_holds (IsTokenAt reg (40 ∷ bytes)) (cast k) t cs r e
    (record { spelled = ap (λ x. 40 ∷ x) (is.spelled ∙ sym (append_assoc (name_of k) (41 ∷ []) cs)); typed = ((λ same. let bad : ⊥ = cc in bad), is.type) })

word_sound : (reg : List Entity) (bytes : List ℕ) (t : Token) (r : List ℕ) → word_at reg bytes ≡ Ok (t, r) → IsTokenAt reg bytes t r
word_sound reg bytes t r e = by_known (is_known_word reg (run_of goes_on_identifier bytes)) refl
  where
    by_known : (b : Bool) → is_known_word reg (run_of goes_on_identifier bytes) ≡ b → IsTokenAt reg bytes t r
    by_known true known =
        ok_holds (IsTokenAt reg bytes) (word (run_of goes_on_identifier bytes)) t (behind_run goes_on_identifier bytes) r (rw known at e)
        (record { spelled = front_rest goes_on_identifier bytes; typed = tt })
    by_known false unknown = absurd (not_ok (length bytes) (t, r) (rw unknown at e))

negative_is : (n : ℕ) → 1 ≤ n → signed_decimal (negative_of n) ≡ 45 ∷ decimal n
negative_is n some = let back : suc (n - 1) ≡ n = omega arith in ap (λ m. 45 ∷ decimal m) back

number_sound : (reg : List Entity) (bytes : List ℕ) (t : Token) (r : List ℕ) → number_at bytes ≡ Ok (t, r) → IsTokenAt reg bytes t r
number_sound reg [] t r e = absurd (not_ok 0 (t, r) e)
number_sound reg (c ∷ cs) t r e = by_zero (c == 48) refl
  where
    by_minus : (b : Bool) → (c == 48) ≡ false → (c == 45) ≡ b → IsTokenAt reg (c ∷ cs) t r
    by_minus true no_zero minus =
        let at = ok_step {B = Token × List ℕ} (digits_at lowest cs) (λ x. Ok (number (negative_of x.0), x.1)) (t, r) (rw (no_zero, minus) at e) in
        let is = digits_at_sound lowest cs at.0.0 at.0.1 (omega arith) (omega arith) at.1 in
        ok_holds (IsTokenAt reg (c ∷ cs)) (number (negative_of at.0.0)) t at.0.1 r at.2
        (record { spelled = ap (λ y. y ∷ cs) (eqb-true c 45 minus) ∙ ap (λ y. 45 ∷ y) is.0 ∙ ap (λ y. y ++ at.0.1) (sym (negative_is at.0.0 is.1)); typed = tt })
    by_minus false no_zero plus =
        let at = ok_step {B = Token × List ℕ} (digits_at largest (c ∷ cs)) (λ x. Ok (number (pos x.0), x.1)) (t, r) (rw (no_zero, plus) at e) in
        let is = digits_at_sound largest (c ∷ cs) at.0.0 at.0.1 (omega arith) (omega arith) at.1 in
        ok_holds (IsTokenAt reg (c ∷ cs)) (number (pos at.0.0)) t at.0.1 r at.2 (record { spelled = is.0; typed = tt })

    by_zero : (b : Bool) → (c == 48) ≡ b → IsTokenAt reg (c ∷ cs) t r
    by_zero true zero_it =
        ok_holds (IsTokenAt reg (c ∷ cs)) (number (pos 0)) t cs r (rw zero_it at e)
        (record { spelled = ap (λ y. y ∷ cs) (eqb-true c 48 zero_it) ∙ ap (λ y. y ++ cs) (sym (decimal_digit 0 (omega arith))); typed = tt })
    by_zero false no_zero = by_minus (c == 45) no_zero refl

-- one fixed byte
fixed_sound : (reg : List Entity) (c d : ℕ) (cs : List ℕ) (u t : Token) (r : List ℕ) → (c == d) ≡ true → spell u ≡ d ∷ [] → HasType reg u
    → ◌≡◌ {A = Result (Token × List ℕ) ℕ} (Ok (u, cs)) (Ok (t, r)) → IsTokenAt reg (c ∷ cs) t r
fixed_sound reg c d cs u t r same spelled_so typed e =
    ok_holds (IsTokenAt reg (c ∷ cs)) u t cs r e (record { spelled = ap (λ y. y ∷ cs) (eqb-true c d same) ∙ ap (λ y. y ++ cs) (sym spelled_so); typed = typed })

string_token_sound : (reg : List Entity) (c : ℕ) (cs : List ℕ) (t : Token) (r : List ℕ) → (c == 34) ≡ true
    → on_ok {B = Token × List ℕ} (string_at false cs) (λ x. Ok (string x.0, x.1)) ≡ Ok (t, r) → IsTokenAt reg (c ∷ cs) t r
string_token_sound reg c cs t r quote e =
    let at = ok_step (string_at false cs) (λ x. Ok (string x.0, x.1)) (t, r) e in
    ok_holds (IsTokenAt reg (c ∷ cs)) (string at.0.0) t at.0.1 r at.2
    (record {
      spelled = ap (λ y. y ∷ cs) (eqb-true c 34 quote) ∙ ap (λ y. 34 ∷ y) (string_sound false cs at.0.0 at.0.1 at.1 ∙ sym (append_assoc (flat_map escaped at.0.0) (34 ∷ []) at.0.1));
      typed = tt;
    })

named_token_sound : (reg : List Entity) (c : ℕ) (cs : List ℕ) (t : Token) (r : List ℕ) → list_all is_named reg ≡ true → (c == 60) ≡ true
    → on_ok {B = Token × List ℕ} (type_at reg 62 cs) (λ x. Ok (named x.0, x.1)) ≡ Ok (t, r) → IsTokenAt reg (c ∷ cs) t r
named_token_sound reg c cs t r named_all mark e =
    let at = ok_step (type_at reg 62 cs) (λ x. Ok (named x.0, x.1)) (t, r) e in
    let is = type_sound reg 62 cs at.0.0 at.0.1 named_all at.1 in
    ok_holds (IsTokenAt reg (c ∷ cs)) (named at.0.0) t at.0.1 r at.2
    (record { spelled = ap (λ y. y ∷ cs) (eqb-true c 60 mark) ∙ ap (λ y. 60 ∷ y) (is.spelled ∙ sym (append_assoc (name_of at.0.0) (62 ∷ []) at.0.1)); typed = is.type })

cast_token_sound : (reg : List Entity) (c : ℕ) (cs : List ℕ) (t : Token) (r : List ℕ) → list_all is_named reg ≡ true → (c == 40) ≡ true
    → on_ok (type_at reg 41 cs) (cast_of (length cs)) ≡ Ok (t, r) → IsTokenAt reg (c ∷ cs) t r
cast_token_sound reg c cs t r named_all mark e =
    let at = ok_step (type_at reg 41 cs) (cast_of (length cs)) (t, r) e in
    let it : IsTokenAt reg (40 ∷ cs) t r = cast_sound reg (length cs) cs at.0.0 at.0.1 t r (type_sound reg 41 cs at.0.0 at.0.1 named_all at.1) at.2 in
    subst (λ y. IsTokenAt reg (y ∷ cs) t r) (sym (eqb-true c 40 mark)) it

value_sound : (reg : List Entity) (bytes : List ℕ) (t : Token) (r : List ℕ) → list_all is_named reg ≡ true → value_at reg bytes ≡ Ok (t, r) → IsTokenAt reg bytes t r
unfolding value_at
value_sound reg [] t r named_all e = absurd (not_ok 0 (t, r) e)
value_sound reg (c ∷ cs) t r named_all e = by_square (c == 91) refl
  where
    by_word : (b : Bool) → (c == 91) ≡ false → (c == 123) ≡ false → (c == 34) ≡ false → (c == 60) ≡ false → (c == 40) ≡ false → begins_identifier c ≡ b → IsTokenAt reg (c ∷ cs) t r
    by_word true f g h i j letter = word_sound reg (c ∷ cs) t r (rw (f, g, h, i, j, letter) at e)
    by_word false f g h i j other = number_sound reg (c ∷ cs) t r (rw (f, g, h, i, j, other) at e)

    by_cast : (b : Bool) → (c == 91) ≡ false → (c == 123) ≡ false → (c == 34) ≡ false → (c == 60) ≡ false → (c == 40) ≡ b → IsTokenAt reg (c ∷ cs) t r
    by_cast true f g h i is = cast_token_sound reg c cs t r named_all is (rw (f, g, h, i, is) at e)
    by_cast false f g h i other = by_word (begins_identifier c) f g h i other refl

    by_named : (b : Bool) → (c == 91) ≡ false → (c == 123) ≡ false → (c == 34) ≡ false → (c == 60) ≡ b → IsTokenAt reg (c ∷ cs) t r
    by_named true f g h is = named_token_sound reg c cs t r named_all is (rw (f, g, h, is) at e)
    by_named false f g h other = by_cast (c == 40) f g h other refl

    by_string : (b : Bool) → (c == 91) ≡ false → (c == 123) ≡ false → (c == 34) ≡ b → IsTokenAt reg (c ∷ cs) t r
    by_string true f g is = string_token_sound reg c cs t r is (rw (f, g, is) at e)
    by_string false f g other = by_named (c == 60) f g other refl

    by_curly : (b : Bool) → (c == 91) ≡ false → (c == 123) ≡ b → IsTokenAt reg (c ∷ cs) t r
    by_curly true f is = fixed_sound reg c 123 cs (opens curly) t r is refl tt (rw (f, is) at e)
    by_curly false f other = by_string (c == 34) f other refl

    by_square : (b : Bool) → (c == 91) ≡ b → IsTokenAt reg (c ∷ cs) t r
    by_square true is = fixed_sound reg c 91 cs (opens square) t r is refl tt (rw is at e)
    by_square false other = by_curly (c == 123) other refl

separator_sound : (reg : List Entity) (outer : List Bracket) (bytes : List ℕ) (t : Token) (r : List ℕ) → separator_at outer bytes ≡ Ok (t, r) → IsTokenAt reg bytes t r
separator_sound reg outer [] t r e = absurd (not_ok 0 (t, r) e)
separator_sound reg [] (c ∷ cs) t r e = absurd (not_ok (suc (length cs)) (t, r) e)
separator_sound reg (b ∷ outer) (c ∷ cs) t r e = by_comma (c == 44) refl
  where
    closed : (a : Bracket) → spell (closes a) ≡ closing a ∷ []
    closed square = refl
    closed curly = refl

    by_close : (x : Bool) → (c == 44) ≡ false → (c == closing b) ≡ x → IsTokenAt reg (c ∷ cs) t r
    by_close true f is = fixed_sound reg c (closing b) cs (closes b) t r is (closed b) tt (rw (f, is) at e)
    by_close false f other = absurd (not_ok (suc (length cs)) (t, r) (rw (f, other) at e))

    by_comma : (x : Bool) → (c == 44) ≡ x → IsTokenAt reg (c ∷ cs) t r
    by_comma true is = fixed_sound reg c 44 cs comma t r is refl tt (rw is at e)
    by_comma false other = by_close (c == closing b) other refl

element_sound : (reg : List Entity) (bytes : List ℕ) (t : Token) (r : List ℕ) → list_all is_named reg ≡ true → element_at reg bytes ≡ Ok (t, r) → IsTokenAt reg bytes t r
element_sound reg [] t r named_all e = absurd (not_ok 0 (t, r) e)
element_sound reg (c ∷ cs) t r named_all e = by_close (c == 93) refl
  where
    by_close : (x : Bool) → (c == 93) ≡ x → IsTokenAt reg (c ∷ cs) t r
    by_close true is = fixed_sound reg c 93 cs (closes square) t r is refl tt (rw is at e)
    by_close false other = value_sound reg (c ∷ cs) t r named_all (rw other at e)

token_sound : (reg : List Entity) (awaited : Awaited) (outer : List Bracket) (bytes : List ℕ) (t : Token) (r : List ℕ) → list_all is_named reg ≡ true
    → token_at reg awaited outer bytes ≡ Ok (t, r) → IsTokenAt reg bytes t r
token_sound reg value outer bytes t r named_all e = value_sound reg bytes t r named_all e
token_sound reg element outer bytes t r named_all e = element_sound reg bytes t r named_all e
token_sound reg separator outer bytes t r named_all e = separator_sound reg outer bytes t r e

-- the tokens of a text spell it
pub record AreTokens (reg : List Entity) (bytes : List ℕ) (ps : List Placed) : Type 0 where
  pub spelled : bytes ≡ spells (bare ps)
  pub typed : Typed reg ps

list_parts : (p : Placed) (m : Result (List Placed) ℕ) (ps : List Placed) → with_token p m ≡ Ok ps → (qs : List Placed) × (m ≡ Ok qs) × (ps ≡ p ∷ qs)
list_parts p (Ok qs) ps e = let is : p ∷ qs ≡ ps = cc in (qs, refl, sym is)
list_parts p (Err left) ps e = absurd (not_ok left ps e)

whole_is_empty : (awaited : Awaited) (outer : List Bracket) (bytes : List ℕ) → is_at_end awaited outer bytes ≡ true → bytes ≡ []
whole_is_empty separator [] [] e = refl
whole_is_empty separator [] (c ∷ cs) e = let bad : ⊥ = cc in absurd bad
whole_is_empty separator (b ∷ outer) bytes e = let bad : ⊥ = cc in absurd bad
whole_is_empty value outer bytes e = let bad : ⊥ = cc in absurd bad
whole_is_empty element outer bytes e = let bad : ⊥ = cc in absurd bad

pub tokens_sound : (n : ℕ) (reg : List Entity) (awaited : Awaited) (outer : List Bracket) (bytes : List ℕ) (ps : List Placed)
    → list_all is_named reg ≡ true → tokens_at n reg awaited outer bytes ≡ Ok ps → AreTokens reg bytes ps
unfolding tokens_at
tokens_sound zero reg awaited outer bytes ps named_all e = absurd (not_ok 0 ps e)
tokens_sound (suc n) reg awaited outer bytes ps named_all e = by_whole (is_at_end awaited outer bytes) refl (λ t r qs f. tokens_sound n reg (behind t) (opened t outer) r qs named_all f)
  where
    Inner : Type 0
    Inner = (t : Token) (r : List ℕ) (qs : List Placed) → tokens_at n reg (behind t) (opened t outer) r ≡ Ok qs → AreTokens reg r qs

    by_token : (m : Result (Token × List ℕ) ℕ) → is_at_end awaited outer bytes ≡ false → token_at reg awaited outer bytes ≡ m → Inner → AreTokens reg bytes ps
    by_token (Ok x) going read inner =
        let parts = list_parts (record { left = length bytes; token = x.0 }) (tokens_at n reg (behind x.0) (opened x.0 outer) x.1) ps (rw (going, read) at e) in
        let one = token_sound reg awaited outer bytes x.0 x.1 named_all read in
        let others = inner x.0 x.1 parts.0 parts.1 in
        let all : AreTokens reg bytes (record { left = length bytes; token = x.0 } ∷ parts.0) =
        record { spelled = one.spelled ∙ ap (λ y. spell x.0 ++ y) others.spelled; typed = (one.typed, others.typed) } in
        subst (AreTokens reg bytes) (sym parts.2) all
    by_token (Err left) going read inner = absurd (not_ok left ps (rw (going, read) at e))

    by_whole : (b : Bool) → is_at_end awaited outer bytes ≡ b → Inner → AreTokens reg bytes ps
    by_whole true whole inner =
        let none : Ok [] ≡ Ok ps = rw whole at e in
        let is : [] ≡ ps = cc in
        subst (AreTokens reg bytes) is (record { spelled = whole_is_empty awaited outer bytes whole; typed = tt })
    by_whole false going inner = by_token (token_at reg awaited outer bytes) going refl inner
