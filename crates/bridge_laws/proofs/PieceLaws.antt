-- A piece that may be fed may be fed in two parts: bytes that ended nothing did not end anything before, and two parts are no longer than the whole.
use Rattle.std.proofs.Common.{◌≡◌, refl, sym, ap, subst, ◌∙◌, ℕ, ◌+◌, ◌≤◌, Bool, true, false, not, ◌&&◌, ◌||◌, ◌==◌, nat_lt, List, [], ◌∷◌, ◌++◌, length, take, drop, Some, None, arith, if◌then◌else◌}
use Rattle.std.proofs.lemmas.Bool.{and_parts, ltb-false, le-ltb, not-true, true≢false, false≢true}
use Rattle.std.proofs.lemmas.List.{append_assoc, length-append, take-append-le, drop-append-le, length-drop}
use Rattle.std.specs.Int.{w32, from_be_bytes}
use Rattle.urp_model.specs.PlacedBlocks.{largest_size}
use Rattle.urp_model.specs.declared.reason.Reason.TheVariants.{TooLarge, NoMessages}
use Rattle.bridge_model.specs.Feeding.{size_said, count_said, has_header, header_fault, block_stands, is_some_reason, ends_part}
use Rattle.bridge_model.specs.Sides.{Incoming}
use Rattle.bridge_model.specs.Steps.{most_fed, fed_count, but_last, is_some_bytes, may_feed}

-- ---- bytes that end a block

or_more : (p q r : Bool) → (q ≡ true → r ≡ true) → (p || q) ≡ true → (p || r) ≡ true
or_more true q r more is = refl
or_more false q r more is = more is

-- the test that ends a part, of what it reads
abbrev ends_by_header : (size count long : ℕ) → Bool
ends_by_header size count long =
    is_some_reason (if nat_lt largest_size size then Some TooLarge else (if count == 0 then Some NoMessages else None)) || not (nat_lt long (8 + size))

longer_stands : (size long longer : ℕ) → long ≤ longer → not (nat_lt long (8 + size)) ≡ true → not (nat_lt longer (8 + size)) ≡ true
longer_stands size long longer le is =
    let whole = ltb-false long (8 + size) (not-true (nat_lt long (8 + size)) is) in
    let more : 8 + size ≤ longer = omega arith in
    ap not (le-ltb longer (8 + size) more)

longer_ends : (size count long longer : ℕ) → long ≤ longer → ends_by_header size count long ≡ true → ends_by_header size count longer ≡ true
longer_ends size count long longer le is =
    or_more
    (is_some_reason (if nat_lt largest_size size then Some TooLarge else (if count == 0 then Some NoMessages else None)))
    (not (nat_lt long (8 + size)))
    (not (nat_lt longer (8 + size)))
    (longer_stands size long longer le)
    is

ends_with_header : (x : List ℕ) → has_header x ≡ true → ends_part x ≡ ends_by_header (size_said x) (count_said x) (length x)
unfolding ends_part header_fault block_stands
ends_with_header x has = rw (has) refl

no_end_without : (x : List ℕ) → has_header x ≡ false → ends_part x ≡ false
unfolding ends_part header_fault block_stands
no_end_without x has = rw (has) refl

long_header : (x : List ℕ) → has_header x ≡ true → 8 ≤ length x
long_header x has = ltb-false (length x) 8 (not-true (nat_lt (length x) 8) has)

header_more : (x y : List ℕ) → has_header x ≡ true → has_header (x ++ y) ≡ true
header_more x y has =
    let long = long_header x has in
    let both = length-append x y in
    let more : 8 ≤ length (x ++ y) = omega arith in
    ap not (le-ltb (length (x ++ y)) 8 more)

size_more : (x y : List ℕ) → 8 ≤ length x → size_said (x ++ y) ≡ size_said x
size_more x y long = let four : 4 ≤ length x = omega arith in ap (from_be_bytes w32) (take-append-le 4 x y four)

count_more : (x y : List ℕ) → 8 ≤ length x → count_said (x ++ y) ≡ count_said x
count_more x y long =
    let four : 4 ≤ length x = omega arith in
    let left = length-drop 4 x in
    let rest : 4 ≤ length (drop 4 x) = omega arith in
    ap (from_be_bytes w32) (ap (take 4) (drop-append-le 4 x y four) ∙ take-append-le 4 (drop 4 x) y rest)

ends_by_more : (x y : List ℕ) (b : Bool) → has_header x ≡ b → ends_part x ≡ true → ends_part (x ++ y) ≡ true
ends_by_more x y false has is = absurd (true≢false (sym is ∙ no_end_without x has))
ends_by_more x y true has is =
    let long = long_header x has in
    let both = length-append x y in
    let more : length x ≤ length (x ++ y) = omega arith in
    let read = sym (ends_with_header x has) ∙ is in
    ends_with_header (x ++ y) (header_more x y has)
    ∙ (ap (λ n. ends_by_header n (count_said (x ++ y)) (length (x ++ y))) (size_more x y long)
    ∙ (ap (λ n. ends_by_header (size_said x) n (length (x ++ y))) (count_more x y long)
    ∙ longer_ends (size_said x) (count_said x) (length x) (length (x ++ y)) more read))

-- what has ended has ended with more behind it
pub ends_more : (x y : List ℕ) → ends_part x ≡ true → ends_part (x ++ y) ≡ true
ends_more x y is = ends_by_more x y (has_header x) refl is

by_bool : (b : Bool) → (b ≡ true → ⊥) → b ≡ false
by_bool true no_way = absurd (no_way refl)
by_bool false no_way = refl

-- so what has not ended did not end before
pub no_end_before : (x y : List ℕ) → ends_part (x ++ y) ≡ false → ends_part x ≡ false
no_end_before x y is = by_bool (ends_part x) (λ e. true≢false (sym (ends_more x y e) ∙ is))

-- ---- all bytes but the last

but_last_two : (a : List ℕ) (c : ℕ) (cs : List ℕ) → but_last (a ++ c ∷ cs) ≡ a ++ but_last (c ∷ cs)
but_last_two [] c cs = refl
but_last_two (x ∷ []) c cs = refl
but_last_two (x ∷ (y ∷ ys)) c cs = ap (λ zs. x ∷ zs) (but_last_two (y ∷ ys) c cs)

pub but_last_append : (a b : List ℕ) → is_some_bytes b ≡ true → but_last (a ++ b) ≡ a ++ but_last b
but_last_append a [] some = absurd (false≢true some)
but_last_append a (c ∷ cs) some = but_last_two a c cs

last_behind : (a : List ℕ) → (rest : List ℕ) × (a ≡ but_last a ++ rest)
last_behind [] = ([], refl)
last_behind (x ∷ []) = (x ∷ [], refl)
last_behind (x ∷ (y ∷ ys)) = let behind = last_behind (y ∷ ys) in (behind.0, ap (λ zs. x ∷ zs) behind.1)

-- ---- a piece in two

three : (a b c : List ℕ) → a ++ (b ++ c) ≡ (a ++ b) ++ c
three a b c = sym (append_assoc a b c)

open_first : (held a b : List ℕ) → is_some_bytes b ≡ true → ends_part (held ++ but_last (a ++ b)) ≡ false → ends_part (held ++ but_last a) ≡ false
open_first held a b some is =
    let behind = last_behind a in
    let whole : held ++ but_last (a ++ b) ≡ (held ++ but_last a) ++ (behind.0 ++ but_last b) =
    ap (λ z. held ++ z) (but_last_append a b some ∙ ap (λ z. z ++ but_last b) behind.1) ∙ regroup held (but_last a) behind.0 (but_last b) in
    no_end_before (held ++ but_last a) (behind.0 ++ but_last b) (subst (λ z. ends_part z ≡ false) whole is)
  where
    regroup : (p q r t : List ℕ) → p ++ ((q ++ r) ++ t) ≡ (p ++ q) ++ (r ++ t)
    regroup p q r t = simp append_assoc

open_second : (held a b : List ℕ) → is_some_bytes b ≡ true → ends_part (held ++ but_last (a ++ b)) ≡ false → ends_part ((held ++ a) ++ but_last b) ≡ false
open_second held a b some is =
    subst (λ z. ends_part z ≡ false) (ap (λ z. held ++ z) (but_last_append a b some) ∙ three held a (but_last b)) is

-- what a piece is tested for
pub record MayFeed (b : List ℕ) (place : ℕ) (held : List ℕ) : Type 0 where
  pub some : is_some_bytes b ≡ true
  pub fits : nat_lt most_fed ((place + length held) + length b) ≡ false
  pub unended : ends_part (held ++ but_last b) ≡ false

pub fed_is : (b : List ℕ) (i : Incoming) → may_feed b i ≡ true → MayFeed b i.place i.held
fed_is b i is =
    let parts = and_parts (is_some_bytes b) (not (nat_lt most_fed (fed_count i + length b)) && not (ends_part (i.held ++ but_last b))) is in
    let more = and_parts (not (nat_lt most_fed (fed_count i + length b))) (not (ends_part (i.held ++ but_last b))) parts.1 in
    record {
      some = parts.0;
      fits = not-true (nat_lt most_fed (fed_count i + length b)) more.0;
      unended = not-true (ends_part (i.held ++ but_last b)) more.1;
    }

pub may_fed : (b : List ℕ) (i : Incoming) → MayFeed b i.place i.held → may_feed b i ≡ true
may_fed b i is = rw (is.some, is.fits, is.unended) refl

fewer_fit : (most place held a b both : ℕ) → both ≡ a + b → nat_lt most ((place + held) + both) ≡ false → nat_lt most ((place + held) + a) ≡ false
fewer_fit most place held a b both sum is =
    let least = ltb-false most ((place + held) + both) is in
    let less : (place + held) + a ≤ most = omega arith in
    le-ltb most ((place + held) + a) less

all_fit : (most place held a b both further : ℕ) → both ≡ a + b → further ≡ held + a → nat_lt most ((place + held) + both) ≡ false
    → nat_lt most ((place + further) + b) ≡ false
all_fit most place held a b both further sum more is =
    let least = ltb-false most ((place + held) + both) is in
    let less : (place + further) + b ≤ most = omega arith in
    le-ltb most ((place + further) + b) less

pub first_may : (a b : List ℕ) (place : ℕ) (held : List ℕ) → is_some_bytes a ≡ true → is_some_bytes b ≡ true → MayFeed (a ++ b) place held → MayFeed a place held
first_may a b place held some_a some_b is =
    record {
      some = some_a;
      fits = fewer_fit most_fed place (length held) (length a) (length b) (length (a ++ b)) (length-append a b) is.fits;
      unended = open_first held a b some_b is.unended;
    }

pub second_may : (a b : List ℕ) (place : ℕ) (held : List ℕ) → is_some_bytes b ≡ true → MayFeed (a ++ b) place held → MayFeed b place (held ++ a)
second_may a b place held some_b is =
    record {
      some = some_b;
      fits = all_fit most_fed place (length held) (length a) (length b) (length (a ++ b)) (length (held ++ a)) (length-append a b) (length-append held a) is.fits;
      unended = open_second held a b some_b is.unended;
    }
