-- The bits of words, before and after one of them changes.
use Rattle.std.proofs.Common.{◌≡◌, ◌≢◌, ℕ, ◌+◌, ◌-◌, ◌*◌, ◌/◌, ◌%◌, ◌^◌, ◌<◌, ◌≤◌, Bool, true, false, eqb, ltb, List, [], length, get_or, set, refl, sym, ap, ◌∙◌, inl, inr, arith, w64, eq-eqb, bit_and, bit_or, length-set, get_or-set_same, get_or-set_other, ext_get_or}
use Rattle.std.specs.Int.{bit_at, bit_not, trailing_zeros}
use Rattle.std.specs.Bool.{MatchBool}
use Rattle.std.proofs.lemmas.Bool.{cases_eq, cases_lt, eqb-true, eqb-false, ltb-true}
use Rattle.std.proofs.lemmas.List.{get_or_past, get_or_read}
use Rattle.std.proofs.lemmas.List.FromFn.{length-map-range_with_len, get_or-map-range_with_len}
use Rattle.std.proofs.lemmas.Nat.{shr-shr, shr_le}
use Rattle.std.proofs.lemmas.Nat.Bits.{bit_at-zero, bit_at_above, bit_at-trailing_zeros, bit_at_set_same, bit_at_set_other, bit_at_clear_same, bit_at_clear_other}
use Rattle.birth_index.specs.Members.{turned, HasIn, NoneIn, IsLowest, NoneLower}
use Rattle.birth_index.specs.Bits.{bit_of, bits_of, has}
use Rattle.birth_index.proofs.MemberLaws.{turned_here, turned_other}

-- there is no bit behind the words
pub bit_past : (words : List ℕ) (k : ℕ) → length words ≤ k / 64 → bit_of words k ≡ false
bit_past words k past = ap (λ x. eqb (bit_at x (k % 64)) 1) (get_or_past words (k / 64) 0 past) ∙ ap (λ x. eqb x 1) (bit_at-zero (k % 64))

-- ---- all the bits

pub length-bits_of : (words : List ℕ) → length (bits_of words) ≡ 64 * length words
unfolding bits_of
length-bits_of words = length-map-range_with_len (bit_of words) 0 (64 * length words)

pub bits_of_none : bits_of [] ≡ []
unfolding bits_of
bits_of_none = refl

pub has-bits_of : (words : List ℕ) (k : ℕ) → has (bits_of words) k ≡ bit_of words k
unfolding bits_of
has-bits_of words k =
    elim (cases_lt k (64 * length words)) [
      | inl within ↦ get_or-map-range_with_len (bit_of words) 0 (64 * length words) k k false within (omega arith)
      | inr past ↦ get_or_past (bits_of words) k false (let long = length-bits_of words in omega (arith, long, past)) ∙ sym (bit_past words k (omega (arith, past)))
    ]

-- words with the same bits but for one
pub bits_turned : (old new : List ℕ) (place : ℕ) (b : Bool) → place < 64 * length old → length new ≡ length old → ((k : ℕ) → bit_of new k ≡ turned (bit_of old) place b k) → bits_of new ≡ set (bits_of old) place b
bits_turned old new place b within len bits =
    let long = length-bits_of old in
    ext_get_or false _ _ (length-bits_of new ∙ ap (λ n. 64 * n) len ∙ sym long ∙ sym (length-set (bits_of old) place b))
    (λ k h.
    has-bits_of new k ∙ bits k
    ∙ elim (cases_eq k place) [
      | inl same ↦ rw same (turned_here (bit_of old) place b ∙ sym (get_or-set_same (bits_of old) place b false (omega (arith, within, long))))
      | inr other ↦ turned_other (bit_of old) place b k other ∙ sym (has-bits_of old k) ∙ sym (get_or-set_other (bits_of old) place k b false other)
    ])

-- ---- one word changes

module _ (words : List ℕ) (place v word : ℕ) (b : Bool) (within : place < 64 * length words) (read : word ≡ get_or words (place / 64) 0) where
  changed : eqb (bit_at v (place % 64)) 1 ≡ b → ((i : ℕ) → i < 64 → i ≢ place % 64 → bit_at v i ≡ bit_at word i) → (k : ℕ) → bit_of (set words (place / 64) v) k ≡ turned (bit_of words) place b k
  changed here others k =
      elim (cases_eq k place) [
        | inl same ↦ rw same (ap (λ x. eqb (bit_at x (place % 64)) 1) (get_or-set_same words (place / 64) v 0 (omega (arith, within))) ∙ here ∙ sym (turned_here (bit_of words) place b))
        | inr other ↦
            elim (cases_eq (k / 64) (place / 64)) as (λ _. bit_of (set words (place / 64) v) k ≡ bit_of words k) [
              | inl row ↦
                  ap (λ x. eqb (bit_at (get_or (set words (place / 64) v) x 0) (k % 64)) 1) row
                  ∙ ap (λ x. eqb (bit_at x (k % 64)) 1) (get_or-set_same words (place / 64) v 0 (omega (arith, within)))
                  ∙ ap (λ x. eqb x 1) (others (k % 64) (omega arith) (λ same. other (omega (arith, row, same))))
                  ∙ ap (λ x. eqb (bit_at x (k % 64)) 1) (read ∙ ap (λ x. get_or words x 0) (sym row))
              | inr apart ↦ ap (λ x. eqb (bit_at x (k % 64)) 1) (get_or-set_other words (place / 64) (k / 64) v 0 apart)
            ]
            ∙ sym (turned_other (bit_of words) place b k other)
      ]

module _ (words : List ℕ) (place word : ℕ) (within : place < 64 * length words) (read : word ≡ get_or words (place / 64) 0) where
  pub bit_set : (k : ℕ) → bit_of (set words (place / 64) (bit_or word (1 * 2 ^ (place % 64) % 2 ^ 64))) k ≡ turned (bit_of words) place true k
  bit_set = changed words place _ word true within read (eq-eqb _ 1 (bit_at_set_same w64 word (place % 64) (omega arith))) (λ i below other. bit_at_set_other w64 word (place % 64) (omega arith) i other)

  pub bit_cleared : (k : ℕ) → bit_of (set words (place / 64) (bit_and word (bit_not w64 (1 * 2 ^ (place % 64) % 2 ^ 64)))) k ≡ turned (bit_of words) place false k
  bit_cleared =
      let gone = bit_at_clear_same w64 word (place % 64) (omega arith) in
      changed words place _ word false within read (ap (λ x. eqb x 1) gone) (λ i below other. bit_at_clear_other w64 word (place % 64) (omega arith) i below other)

-- ---- whether a word has a bit

module _ (words : List ℕ) (place v : ℕ) (within : place < 64 * length words) where
  none_in : v ≡ 0 → NoneIn (bit_of (set words (place / 64) v)) (place / 64)
  none_in none k row =
      ap (λ x. eqb (bit_at (get_or (set words (place / 64) v) x 0) (k % 64)) 1) row
      ∙ ap (λ x. eqb (bit_at x (k % 64)) 1) (get_or-set_same words (place / 64) v 0 (omega (arith, within)) ∙ none)
      ∙ ap (λ x. eqb x 1) (bit_at-zero (k % 64))

  has_in : 0 < v → v < 2 ^ 64 → HasIn (bit_of (set words (place / 64) v)) (place / 64)
  has_in some fits =
      let lowest = bit_at-trailing_zeros w64 v some fits in
      let t = trailing_zeros w64 v in
      let low : t < 64 = lowest.0 in
      let row : (64 * (place / 64) + t) / 64 ≡ place / 64 = omega (arith, low) in
      let column : (64 * (place / 64) + t) % 64 ≡ t = omega (arith, low) in
      record {
        place = 64 * (place / 64) + t;
        inside = row;
        member =
            ap (λ x. eqb (bit_at (get_or (set words (place / 64) v) x 0) ((64 * (place / 64) + t) % 64)) 1) row
            ∙ ap (λ x. eqb (bit_at x ((64 * (place / 64) + t) % 64)) 1) (get_or-set_same words (place / 64) v 0 (omega (arith, within)))
            ∙ ap (λ x. eqb (bit_at v x) 1) column
            ∙ eq-eqb _ 1 lowest.1;
      }

  pub word_tells : v < 2 ^ 64 → MatchBool (eqb v 0) (NoneIn (bit_of (set words (place / 64) v)) (place / 64)) (HasIn (bit_of (set words (place / 64) v)) (place / 64))
  word_tells fits =
      elim (eqb v 0) as (λ b. eqb v 0 ≡ b → MatchBool b (NoneIn (bit_of (set words (place / 64) v)) (place / 64)) (HasIn (bit_of (set words (place / 64) v)) (place / 64))) [
        | true ↦ λ is. none_in (eqb-true v 0 is)
        | false ↦ λ is. has_in (let other = eqb-false v 0 is in omega (arith, other)) fits
      ] refl

-- ---- the lowest bit of a word from a place on

-- a word that was read
pub word_read : (words slice : List ℕ) (i word : ℕ) → slice ≡ words → true ≡ ltb i (length slice) → word ≡ get_or slice i word → word ≡ get_or words i 0
word_read words slice i word same within read = get_or_read slice i word (ltb-true i (length slice) (sym within)) read 0 ∙ ap (λ ws. get_or ws i 0) same

pub word_fits : (words slice : List ℕ) (i word : ℕ) → slice ≡ words → true ≡ ltb i (length slice) → word ≡ get_or slice i word → ((i d : ℕ) → i < length words → get_or words i d < 2 ^ 64) → word < 2 ^ 64
word_fits words slice i word same within read fit =
    let is = word_read words slice i word same within read in
    let below = ltb-true i (length slice) (sym within) in
    let long = ap length same in
    let small = fit i 0 (omega (arith, below, long)) in
    omega (arith, is, small)

bit_shifted : (n a j : ℕ) → bit_at (n / 2 ^ a) j ≡ bit_at n (a + j)
bit_shifted n a j = ap (λ x. x % 2) (shr-shr n a j)

module _ (words : List ℕ) (place word : ℕ) (read : word ≡ get_or words (place / 64) 0) where
  -- the bits of the place's word
  bit_in : (k j : ℕ) → k / 64 ≡ place / 64 → k % 64 ≡ place % 64 + j → bit_of words k ≡ eqb (bit_at (word / 2 ^ (place % 64)) j) 1
  bit_in k j row column =
      ap (λ x. eqb (bit_at (get_or words x 0) (k % 64)) 1) row ∙ ap (λ x. eqb (bit_at x (k % 64)) 1) (sym read)
      ∙ ap (λ x. eqb (bit_at word x) 1) column ∙ ap (λ x. eqb x 1) (sym (bit_shifted word (place % 64) j))

  pub none_lower : word / 2 ^ (place % 64) ≡ 0 → NoneLower (bit_of words) place
  none_lower none k behind row =
      bit_in k (k - place) row (omega (arith, behind, row)) ∙ ap (λ x. eqb (bit_at x (k - place)) 1) none ∙ ap (λ x. eqb x 1) (bit_at-zero (k - place))

  module _ (some : 0 < word / 2 ^ (place % 64)) (fits : word < 2 ^ 64) where
    -- the lowest bit is one of the word
    pub low_enough : place % 64 + trailing_zeros w64 (word / 2 ^ (place % 64)) < 64
    low_enough =
        let rest = word / 2 ^ (place % 64) in
        let smaller = shr_le word (place % 64) in
        let lowest = bit_at-trailing_zeros w64 rest some (omega (arith, smaller, fits)) in
        let t = trailing_zeros w64 rest in
        let one = sym (bit_shifted word (place % 64) t) ∙ lowest.1 in
        elim (cases_lt (place % 64 + t) 64) [
          | inl low ↦ low
          | inr high ↦ let zero = bit_at_above word 64 (place % 64 + t) fits high in let bad : ⊥ = omega (arith, one, zero) in absurd bad
        ]

    pub is_lowest : IsLowest (bit_of words) place (place + trailing_zeros w64 (word / 2 ^ (place % 64)))
    is_lowest =
        let rest = word / 2 ^ (place % 64) in
        let smaller = shr_le word (place % 64) in
        let lowest = bit_at-trailing_zeros w64 rest some (omega (arith, smaller, fits)) in
        let t = trailing_zeros w64 rest in
        let low = low_enough in
        record {
          first =
              record {
                behind = omega arith;
                member = bit_in (place + t) t (omega (arith, low)) (omega (arith, low)) ∙ eq-eqb _ 1 lowest.1;
                first = λ k behind below.
                    bit_in k (k - place) (omega (arith, low, behind, below)) (omega (arith, low, behind, below))
                    ∙ ap (λ x. eqb x 1) (lowest.2 (k - place) (omega (arith, behind, below)));
              };
          inside = omega (arith, low);
        }
