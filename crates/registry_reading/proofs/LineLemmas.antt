-- The first line of a text.
use Rattle.std.proofs.Common.{◌≡◌, ℕ, zero, suc, ◌+◌, ◌-◌, ◌<◌, ◌≤◌, ◌==◌, nat_lt, true, false, not, if◌then◌else◌, List, [], ◌∷◌, ◌++◌, length, take, drop, get_or, None, Some, sym, ap, ◌∙◌, arith, length-drop, lt-ltb, le-ltb, inl, inr}
use Rattle.std.proofs.lemmas.List.{take_all}
use Rattle.std.specs.List.{position, position_or_len, prefix_len}
use Rattle.std.specs.Simd.Lanes.{chunk}
use Rattle.std.proofs.lemmas.Simd.{run_in_chunk_fails}
use Rattle.std.specs.Str.{IsUtf8, IsAscii}
use Rattle.std.proofs.lemmas.Bool.{and_parts, ltb-true, cases_lt}
use Rattle.std.proofs.lemmas.Str.{IsUtf8-from_ascii}
use Rattle.std.proofs.lemmas.Str.Ascii.{IsAscii-nil, IsAscii-cons}
use Rattle.registry_text_model.specs.Reading.{is_one_line}
use Rattle.registry_reading_model.specs.TextLines.{is_plain}
use Rattle.registry_reading_model.proofs.AddLaws.{split_feed}
use Rattle.registry_reading.specs.Feeds.{NoFeedBefore}

pub first_parts : (bytes : List ℕ) (i : ℕ) → position (λ b. b == 10) bytes ≡ Some i
    → (bytes ≡ take i bytes ++ 10 ∷ take (length bytes - (i + 1)) (drop (i + 1) bytes)) × (is_one_line (take i bytes) ≡ true)
first_parts bytes i at =
    let parts = split_feed bytes i at in (
      parts.0 ∙ ap (λ cs. take i bytes ++ 10 ∷ cs) (sym (take_all (length bytes - (i + 1)) (drop (i + 1) bytes) (omega (arith, length-drop (i + 1) bytes)))),
      parts.1,
    )

plain_is_ascii : (line : List ℕ) → is_plain line ≡ true → IsAscii line
unfolding is_plain
plain_is_ascii [] plain = IsAscii-nil
plain_is_ascii (c ∷ cs) plain =
    let parts = and_parts (nat_lt c 128) (is_plain cs) plain in
    IsAscii-cons c cs (ltb-true c 128 parts.0) (plain_is_ascii cs parts.1)

pub plain_is_utf8 : (line : List ℕ) → is_plain line ≡ true → IsUtf8 line
plain_is_utf8 line plain = IsUtf8-from_ascii line (plain_is_ascii line plain)

-- ---- where the first line feed stands

first_feed : (bytes : List ℕ) (i : ℕ) → i < length bytes → NoFeedBefore bytes i → (get_or bytes i 0 == 10) ≡ true → position_or_len (λ b. b == 10) bytes ≡ i
first_feed [] i within before here = absurd (omega arith)
first_feed (b ∷ bs) zero within before here = ap (λ t. if not t then 1 + position_or_len (λ c. c == 10) bs else 0) here
first_feed (b ∷ bs) (suc i) within before here =
    let behind = first_feed bs i (omega arith) (λ k low. before (suc k) (omega arith)) here in
    ap (λ t. if not t then 1 + position_or_len (λ c. c == 10) bs else 0) (before 0 (omega arith)) ∙ omega (arith, behind)

pub feed_found : (bytes : List ℕ) (i : ℕ) → i < length bytes → NoFeedBefore bytes i → (get_or bytes i 0 == 10) ≡ true → Some i ≡ position (λ b. b == 10) bytes
feed_found bytes i within before here =
    sym (ap (λ n. if nat_lt n (length bytes) then Some n else None) (first_feed bytes i within before here) ∙ ap (λ t. if t then Some i else None) (lt-ltb i (length bytes) within))

all_feedless : (bytes : List ℕ) → NoFeedBefore bytes (length bytes) → position_or_len (λ b. b == 10) bytes ≡ length bytes
all_feedless [] before = omega arith
all_feedless (b ∷ bs) before =
    let behind = all_feedless bs (λ k low. before (suc k) (omega arith)) in
    ap (λ t. if not t then 1 + position_or_len (λ c. c == 10) bs else 0) (before 0 (omega arith)) ∙ omega (arith, behind)

pub no_feed_found : (bytes : List ℕ) (i : ℕ) → length bytes ≤ i → NoFeedBefore bytes i → None ≡ position (λ b. b == 10) bytes
no_feed_found bytes i over before =
    sym (ap (λ n. if nat_lt n (length bytes) then Some n else None) (all_feedless bytes (λ k low. before k (omega arith)))
    ∙ ap (λ t. if t then Some (length bytes) else None) (le-ltb (length bytes) (length bytes) (omega arith)))

-- a run of bytes more without one
pub run_passed : (bytes : List ℕ) (at run : ℕ) → NoFeedBefore bytes at → ((k : ℕ) → at ≤ k → k < at + run → (get_or bytes k 0 == 10) ≡ false) → NoFeedBefore bytes (at + run)
run_passed bytes at run before in_run = λ k low. elim (cases_lt k at) [ inl front ↦ before k front | inr behind ↦ in_run k behind low ]

-- none stands in a run that none ends
pub passed : (bytes : List ℕ) (at run : ℕ) → at + 16 ≤ length bytes → run ≡ prefix_len (λ b. not (b == 10)) (chunk at 16 bytes) → 16 ≤ run
    → (k : ℕ) → at ≤ k → k < at + 16 → (get_or bytes k 0 == 10) ≡ false
passed bytes at run room counted whole = λ k from to. run_in_chunk_fails (λ b. b == 10) bytes at 16 run 0 room counted k from (omega (arith, whole, to))
