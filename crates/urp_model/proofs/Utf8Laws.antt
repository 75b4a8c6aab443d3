-- The names of types are ASCII, and so UTF-8.
use Rattle.std.proofs.Common.{◌≡◌, ℕ, zero, suc, ◌<◌, ◌≤◌, Bool, true, false, ◌==◌, ◌&&◌, ◌||◌, nat_lt, nat_le, List, [], ◌∷◌, refl, inl, inr, arith}
use Rattle.std.specs.List.{list_all}
use Rattle.std.specs.Str.{is_utf8, IsUtf8, IsAscii}
use Rattle.std.specs.Char.{is_ascii_alphanumeric, is_ascii_alphabetic}
use Rattle.std.specs.Int.{is_in_range}
use Rattle.std.proofs.lemmas.Bool.{ltb-true, lt-ltb, eqb-true, leb-true, and_parts, and_from, or_cases}
use Rattle.std.proofs.lemmas.Str.{is_utf8-from_IsUtf8, IsUtf8-from_ascii}
use Rattle.uno_model.specs.Entities.{Entity}
use Rattle.uno_model.specs.Kinds.{Kind, name_of}
use Rattle.uno_model.specs.Kinds as kd
use Rattle.uno_model.specs.Names.{begins_identifier, goes_on_identifier, is_identifier, is_entity_name, parts_of}
use Rattle.uno_model.specs.Sound.{is_named, kind_known, is_enum, is_struct, is_exception, is_interface}
use Rattle.uno_model.proofs.NameLaws.{there_named}

-- each byte is below 128
abbrev pub are_ascii : List ℕ → Bool
are_ascii text = list_all (λ b. nat_lt b 128) text

pub each_ascii : (text : List ℕ) → are_ascii text ≡ true → IsAscii text
each_ascii [] all i = omega arith
each_ascii (b ∷ text) all zero = ltb-true b 128 (and_parts (nat_lt b 128) (are_ascii text) all).0
each_ascii (b ∷ text) all (suc i) = each_ascii text (and_parts (nat_lt b 128) (are_ascii text) all).1 i

pub utf8_of_ascii : (text : List ℕ) → are_ascii text ≡ true → IsUtf8 text
utf8_of_ascii text all = IsUtf8-from_ascii text (each_ascii text all)

pub is_utf8_ascii : (text : List ℕ) → are_ascii text ≡ true → is_utf8 text ≡ true
is_utf8_ascii text all = is_utf8-from_IsUtf8 text (utf8_of_ascii text all)

-- a letter, a digit or `_`
range_ascii : (low high c : ℕ) → high < 128 → is_in_range low high c ≡ true → nat_lt c 128 ≡ true
range_ascii low high c below is =
    let top : c ≤ high = leb-true c high (and_parts (nat_le low c) (nat_le c high) is).1 in
    lt-ltb c 128 (omega arith)

underscore_ascii : (c : ℕ) → (c == 95) ≡ true → nat_lt c 128 ≡ true
underscore_ascii c is = let same : c ≡ 95 = eqb-true c 95 is in lt-ltb c 128 (omega arith)

goes_on_ascii : (c : ℕ) → goes_on_identifier c ≡ true → nat_lt c 128 ≡ true
goes_on_ascii c is = elim (or_cases (is_ascii_alphanumeric c) (c == 95) is) [
  | inl word ↦ elim (or_cases (is_in_range 48 57 c || is_in_range 65 90 c) (is_in_range 97 122 c) word) [
    | inl front ↦ elim (or_cases (is_in_range 48 57 c) (is_in_range 65 90 c) front) [ inl digit ↦ range_ascii 48 57 c (omega arith) digit | inr upper ↦ range_ascii 65 90 c (omega arith) upper ]
    | inr lower ↦ range_ascii 97 122 c (omega arith) lower
  ]
  | inr mark ↦ underscore_ascii c mark
]

begins_ascii : (c : ℕ) → begins_identifier c ≡ true → nat_lt c 128 ≡ true
begins_ascii c is = elim (or_cases (is_ascii_alphabetic c) (c == 95) is) [
  | inl letter ↦ elim (or_cases (is_in_range 65 90 c) (is_in_range 97 122 c) letter) [ inl upper ↦ range_ascii 65 90 c (omega arith) upper | inr lower ↦ range_ascii 97 122 c (omega arith) lower ]
  | inr mark ↦ underscore_ascii c mark
]

all_go_on : (cs : List ℕ) → list_all goes_on_identifier cs ≡ true → are_ascii cs ≡ true
all_go_on [] all = refl
all_go_on (c ∷ cs) all =
    let p = and_parts (goes_on_identifier c) (list_all goes_on_identifier cs) all in
    and_from (nat_lt c 128) (are_ascii cs) (goes_on_ascii c p.0) (all_go_on cs p.1)

identifier_ascii : (part : List ℕ) → is_identifier part ≡ true → are_ascii part ≡ true
identifier_ascii [] is = refl
identifier_ascii (c ∷ cs) is =
    let p = and_parts (begins_identifier c) (list_all goes_on_identifier cs) (and_parts (begins_identifier c && list_all goes_on_identifier cs) _ is).0 in
    and_from (nat_lt c 128) (are_ascii cs) (begins_ascii c p.0) (all_go_on cs p.1)

identifiers_ascii : (parts : List (List ℕ)) → list_all is_identifier parts ≡ true → list_all are_ascii parts ≡ true
identifiers_ascii [] all = refl
identifiers_ascii (part ∷ parts) all =
    let p = and_parts (is_identifier part) (list_all is_identifier parts) all in
    and_from (are_ascii part) (list_all are_ascii parts) (identifier_ascii part p.0) (identifiers_ascii parts p.1)

-- what has only ASCII between its points is ASCII
parts_ascii : (name : List ℕ) → list_all are_ascii (parts_of name) ≡ true → are_ascii name ≡ true
unfolding parts_of
parts_ascii [] all = refl
parts_ascii (c ∷ cs) all = by_parts (parts_of cs) refl (c == 46) refl (parts_ascii cs) all
  where
    by_parts : (parts : List (List ℕ)) → parts_of cs ≡ parts → (t : Bool) → (c == 46) ≡ t → (list_all are_ascii (parts_of cs) ≡ true → are_ascii cs ≡ true)
        → list_all are_ascii (parts_of (c ∷ cs)) ≡ true
        → are_ascii (c ∷ cs) ≡ true
    by_parts parts are true point behind all =
        let is : c ≡ 46 = eqb-true c 46 point in
        let rest : list_all are_ascii (parts_of cs) ≡ true = rw point at all in
        and_from (nat_lt c 128) (are_ascii cs) (lt-ltb c 128 (omega arith)) (behind rest)
    by_parts [] are false other behind all =
        let all_ : list_all are_ascii ((c ∷ []) ∷ []) ≡ true = rw (other, are) at all in
        let first = and_parts (are_ascii (c ∷ [])) true all_ in
        and_from (nat_lt c 128) (are_ascii cs) (and_parts (nat_lt c 128) true first.0).0 (behind (rw are refl))
    by_parts (part ∷ parts) are false other behind all =
        let all_ : list_all are_ascii ((c ∷ part) ∷ parts) ≡ true = rw (other, are) at all in
        let first = and_parts (are_ascii (c ∷ part)) (list_all are_ascii parts) all_ in
        let front = and_parts (nat_lt c 128) (are_ascii part) first.0 in
        and_from (nat_lt c 128) (are_ascii cs) front.0 (behind (rw are (and_from (are_ascii part) (list_all are_ascii parts) front.1 first.1)))

entity_ascii : (name : List ℕ) → is_entity_name name ≡ true → are_ascii name ≡ true
entity_ascii name is = parts_ascii name (identifiers_ascii (parts_of name) is)

-- so the name of a type is ASCII
pub name_ascii : (reg : List Entity) (k : Kind) → list_all is_named reg ≡ true → kind_known reg k ≡ true → are_ascii (name_of k) ≡ true
name_ascii reg (kd.enum name) named known = entity_ascii name (there_named reg is_enum name named known)
name_ascii reg (kd.struct name) named known = entity_ascii name (there_named reg is_struct name named known)
name_ascii reg (kd.exception name) named known = entity_ascii name (there_named reg is_exception name named known)
name_ascii reg (kd.interface name) named known = entity_ascii name (there_named reg is_interface name named known)
name_ascii reg (kd.sequence k) named known = name_ascii reg k named known
name_ascii reg _ named known = refl
