-- The first eight bytes of a block say the same whatever stands behind them.
use Rattle.std.proofs.Common.{◌≡◌, ℕ, ◌<◌, ◌≤◌, ◌↔◌, List, ◌++◌, length, take, drop, sym, ap, ◌∙◌, arith, length-append, length-drop, take-append-drop}
use Rattle.std.proofs.lemmas.List.{take-append-le, drop-append-le, take_all}
use Rattle.std.specs.Int.{w32, to_be_bytes, from_be_bytes}
use Rattle.urp_model.specs.Blocks.{AreBytes}
use Rattle.urp_model.proofs.BlockLaws.{four_bytes, AreBytes-drop}
use Rattle.urp_model.specs.PlacedBlocks.{largest_size}
use Rattle.urp_stream.specs.Headers.{size_said, count_said, SaysTooLarge, SaysNoMessages, HasNoBadHeader}
use Rattle.urp_stream.specs.HeaderParts.{IsSaid}

-- the size stands in the first four bytes
pub size_said-append : (s t : List ℕ) → 4 ≤ length s → size_said (s ++ t) ≡ size_said s
unfolding size_said
size_said-append s t long = ap (from_be_bytes w32) (take-append-le 4 s t long)

-- the count stands in the next four
pub count_said-append : (s t : List ℕ) → 8 ≤ length s → count_said (s ++ t) ≡ count_said s
unfolding count_said
count_said-append s t long =
    let behind : 4 ≤ length (drop 4 s) = omega (arith, length-drop 4 s) in
    ap (λ x. from_be_bytes w32 (take 4 x)) (drop-append-le 4 s t (omega arith)) ∙ ap (from_be_bytes w32) (take-append-le 4 (drop 4 s) t behind)

-- a header that is there says what it says with more behind it
pub said_apart : (s t : List ℕ) (size : ℕ) → 8 ≤ length s → SaysTooLarge s size ↔ SaysTooLarge (s ++ t) size
said_apart s t size long =
    let same = size_said-append s t (omega arith) in (
      λ x. record { header = omega (arith, length-append s t); size_is = x.size_is ∙ sym same; above = x.above },
      λ x. record { header = long; size_is = x.size_is ∙ same; above = x.above },
    )

pub none_apart : (s t : List ℕ) → 8 ≤ length s → SaysNoMessages s ↔ SaysNoMessages (s ++ t)
none_apart s t long =
    let same = size_said-append s t (omega arith) in
    let counts = count_said-append s t long in (
      λ x. record { header = omega (arith, length-append s t); within = rw same x.within; none = counts ∙ x.none },
      λ x. record { header = long; within = rw same at x.within; none = sym counts ∙ x.none },
    )

pub good_apart : (s t : List ℕ) → 8 ≤ length s → HasNoBadHeader s → HasNoBadHeader (s ++ t)
good_apart s t long good =
    let same = size_said-append s t (omega arith) in
    let counts = count_said-append s t long in
    record { size = λ _. rw same (good.size long); count = λ _. rw counts (good.count long) }

-- a header is not bad and none
pub none_too_large : (s : List ℕ) (size : ℕ) → HasNoBadHeader s → ¬ SaysTooLarge s size
none_too_large s size good said = omega (arith, good.size said.header, said.size_is, said.above)

pub some_messages : (s : List ℕ) → HasNoBadHeader s → ¬ SaysNoMessages s
some_messages s good said = omega (arith, good.count said.header, said.none)

-- a front of what has no bad header has none
pub good_front : (s t : List ℕ) → HasNoBadHeader (s ++ t) → HasNoBadHeader s
good_front s t good = record { size = λ long. small long; count = λ long. some long }
  where
    more : 8 ≤ length s → 8 ≤ length (s ++ t)
    more long = omega (arith, length-append s t)

    small : 8 ≤ length s → size_said s ≤ largest_size
    small long = let same = size_said-append s t (omega arith) in let said = good.size (more long) in rw same at said

    some : 8 ≤ length s → 0 < count_said s
    some long = let same = count_said-append s t long in let said = good.count (more long) in rw same at said

-- the two numbers of eight bytes, and their four bytes each
pub read_header : (s behind : List ℕ) (size count : ℕ) → AreBytes s → length s ≤ 8 → behind ≡ drop 4 s → 4 ≤ length behind
    → size ≡ from_be_bytes w32 (take 4 s) → count ≡ from_be_bytes w32 (take 4 behind) → IsSaid s size count
unfolding size_said count_said
read_header s behind size count bytes most b long p q =
    let eight : length s ≡ 8 = omega (arith, ap length b, length-drop 4 s) in
    let sizes = (four_bytes s bytes (omega arith)).0 in
    let second = four_bytes (drop 4 s) (AreBytes-drop 4 s bytes) (omega (arith, length-drop 4 s)) in
    let counts = second.0 in
    let last = take_all 4 (drop 4 s) (omega (arith, length-drop 4 s)) in
    let said : count ≡ from_be_bytes w32 (take 4 (drop 4 s)) = q ∙ ap (λ x. from_be_bytes w32 (take 4 x)) b in
    record {
      whole = eight;
      size_is = p;
      count_is = said;
      count_fits = rw said second.1;
      spelled = sym (ap (λ x. to_be_bytes w32 x ++ to_be_bytes w32 count) p ∙ ap (λ x. to_be_bytes w32 (from_be_bytes w32 (take 4 s)) ++ to_be_bytes w32 x) said
          ∙ ap (λ x. x ++ to_be_bytes w32 (from_be_bytes w32 (take 4 (drop 4 s)))) sizes ∙ ap (λ x. take 4 s ++ x) (counts ∙ last) ∙ take-append-drop 4 s);
    }
