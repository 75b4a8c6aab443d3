-- The opening that a sender writes spells its function and what is new.
use Rattle.std.proofs.Common.{◌≡◌, ℕ, ◌+◌, ◌/◌, ◌%◌, ◌^◌, ◌<◌, ◌≤◌, ◌||◌, nat_lt, Bool, true, false, [], ◌∷◌, ◌++◌, if◌then◌else◌, refl, sym, subst, inr, arith}
use Rattle.std.proofs.lemmas.Bool.{ltb-true, ltb-false}
use Rattle.std.specs.Int.{w16, to_be_bytes, from_be_bytes}
use Rattle.std.proofs.lemmas.Nat.{from_be_bytes-to_be_bytes_2}
use Rattle.urp_model.proofs.PieceLaws.{number_2}
use Rattle.message_model.specs.Headers.{Last, Opening}
use Rattle.message_model.specs.ReadingMessages.{short_opening}
use Rattle.message_model.specs.SpellingMessages.{SpellsFunction, SpellsAnswered, SpellsOpening, short, two_bytes, long}
use Rattle.message_model.specs.WritingMessages.{is_new, is_new_face, if_new, Heading, is_long, long_flags, function_bytes, short_bytes, opening_spelling}
use Rattle.message_model.proofs.FlagLaws.{flags_say}

-- what the opening of a request says
abbrev pub opening_of : Heading → Last → Opening
opening_of h last =
    record { function = h.function; answered = h.answered; new_type = is_new_face h.face last.kind; new_oid = is_new h.oid last.oid; new_tid = is_new h.tid last.tid }

-- a function in the bytes that it needs
function_is : (function : ℕ) → function < 2 ^ 16 → SpellsFunction (nat_lt 255 function) function (function_bytes function)
function_is function low = by_test (nat_lt 255 function)
  where
    by_test : (b : Bool) → SpellsFunction b function (if b then to_be_bytes w16 function else function ∷ [])
    by_test true = number_2 function low
    by_test false = refl

-- the second byte of flags
answered_is : (answered : Bool) → SpellsAnswered answered answered (if_new answered (192 ∷ []))
answered_is true = (192, refl, inr (omega arith, refl))
answered_is false = (refl, refl)

-- flags and what follows them
long_is : (h : Heading) (last : Last) → h.function < 2 ^ 16
    → SpellsOpening (opening_of h last) (long_flags h last ∷ (if_new h.answered (192 ∷ []) ++ function_bytes h.function))
long_is h last low =
    let s = flags_say (is_new_face h.face last.kind) (is_new h.oid last.oid) (is_new h.tid last.tid) (nat_lt 255 h.function) h.answered in
    long (long_flags h last) (if_new h.answered (192 ∷ [])) (function_bytes h.function) s.marked refl
    (subst (λ b. SpellsAnswered b h.answered (if_new h.answered (192 ∷ []))) (sym s.more_is) (answered_is h.answered))
    (subst (λ b. SpellsFunction b h.function (function_bytes h.function)) (sym s.wide_is) (function_is h.function low))
    (sym s.type_is) (sym s.oid_is) (sym s.tid_is)

-- the two bytes of a number
two : (n : ℕ) → to_be_bytes w16 n ≡ (n / 256 % 256) ∷ (n % 256) ∷ []
two n = refl

-- a short header
short_is : (function : ℕ) → function < 16384 → SpellsOpening (short_opening function) (short_bytes function)
short_is function low = by_test (nat_lt function 64) refl
  where
    two_are : 64 ≤ function → SpellsOpening (short_opening function) (to_be_bytes w16 (16384 + function))
    two_are large =
        two_bytes ((16384 + function) / 256 % 256) ((16384 + function) % 256) function (omega arith) (omega arith)
        (let back : from_be_bytes w16 (to_be_bytes w16 (16384 + function)) ≡ 16384 + function = from_be_bytes-to_be_bytes_2 (16384 + function) (omega arith) in omega (arith, back))
        refl refl

    by_test : (b : Bool) → nat_lt function 64 ≡ b → SpellsOpening (short_opening function) (if b then function ∷ [] else to_be_bytes w16 (16384 + function))
    by_test true is = short function (ltb-true function 64 is) refl refl
    by_test false is = two_are (ltb-false function 64 is)

-- nothing is new, and no flags are needed
pub record IsShort (k o t m w : Bool) : Type 0 where
  pub type_is : k ≡ false
  pub oid_is : o ≡ false
  pub tid_is : t ≡ false
  pub more_is : m ≡ false
  pub wide_is : w ≡ false

none_of : (k o t m w : Bool) → (k || (o || (t || (m || w)))) ≡ false → IsShort k o t m w
none_of false false false false false is = record { type_is = refl; oid_is = refl; tid_is = refl; more_is = refl; wide_is = refl }
none_of true o t m w is = absurd cc
none_of false true t m w is = absurd cc
none_of false false true m w is = absurd cc
none_of false false false true w is = absurd cc
none_of false false false false true is = absurd cc

pub opening_is : (h : Heading) (last : Last) → h.function < 2 ^ 16 → SpellsOpening (opening_of h last) (opening_spelling h last)
unfolding opening_spelling
opening_is h last low = by_test (is_long h last) refl
  where
    by_test : (b : Bool) → is_long h last ≡ b
        → SpellsOpening (opening_of h last) (if b then long_flags h last ∷ (if_new h.answered (192 ∷ []) ++ function_bytes h.function) else short_bytes h.function)
    by_test true is = long_is h last low
    by_test false is =
        let n = none_of (is_new_face h.face last.kind) (is_new h.oid last.oid) (is_new h.tid last.tid) h.answered (nat_lt 16383 h.function) is in
        let same : opening_of h last ≡ short_opening h.function
        = λ i. record { function = h.function; answered = n.more_is i; new_type = n.type_is i; new_oid = n.oid_is i; new_tid = n.tid_is i } in
        let below : h.function ≤ 16383 = ltb-false 16383 h.function n.wide_is in
        subst (λ o. SpellsOpening o (short_bytes h.function)) (sym same) (short_is h.function (omega arith))
