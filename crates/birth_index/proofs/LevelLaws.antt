-- Words over words, before and after a bit below changes, and what they tell of first members.
use Rattle.std.proofs.Common.{◌≡◌, ◌≢◌, ℕ, ◌+◌, ◌*◌, ◌/◌, ◌^◌, ◌<◌, ◌≤◌, Bool, true, false, List, length, max, Option, None, Some, sym, ap, ◌∙◌, inl, inr, arith}
use Rattle.std.specs.Option.{MatchOption}
use Rattle.std.specs.Prelude.{slice_set}
use Rattle.std.proofs.lemmas.Bool.{cases_eq, cases_lt, both_ways}
use Rattle.birth_index.specs.Members.{turned, IsFirst, NoneFrom, HasIn, NoneIn, IsLowest, NoneLower}
use Rattle.birth_index.specs.Bits.{bit_of, bits_of, has}
use Rattle.birth_index.specs.Levels.{IsOver, AreLevels}
use Rattle.birth_index.proofs.BitLaws.{bit_past, length-bits_of, has-bits_of, bits_turned}
use Rattle.birth_index.proofs.MemberLaws.{turned_here, turned_other, turned_still, NoneTo, first_found}

-- two lists of words tell the same of all numbers but one
abbrev pub Turns : List ℕ → List ℕ → ℕ → Bool → Type 0
Turns old new place b = (k : ℕ) → bit_of new k ≡ turned (bit_of old) place b k

-- ---- after a change below

module _ (below above : List ℕ) (over : IsOver below above) (place : ℕ) where
  module _ (below_new : List ℕ) (len : length below_new ≡ length below) where
    module _ (b : Bool) (turns : Turns below below_new place b) where
      -- a word elsewhere has the member that it had
      has_still : (word : ℕ) → word ≢ place / 64 → bit_of above word ≡ true → HasIn (bit_of below_new) word
      has_still word other is =
          let has = over.full word is in
          record {
            place = has.place;
            inside = has.inside;
            member = turns has.place ∙ turned_other (bit_of below) place b has.place (λ same. other (sym has.inside ∙ ap (λ k. k / 64) same)) ∙ has.member;
          }

      none_still : (k : ℕ) → k / 64 ≢ place / 64 → bit_of above (k / 64) ≡ false → bit_of below_new k ≡ false
      none_still k other is = turns k ∙ turned_other (bit_of below) place b k (λ same. other (ap (λ k. k / 64) same)) ∙ over.empty k is

    -- the word has still a bit
    pub over_kept : Turns below below_new place false → HasIn (bit_of below_new) (place / 64) → IsOver below_new above
    over_kept turns has =
        record {
          full = λ word is. elim (cases_eq word (place / 64)) [ inl same ↦ rw same has | inr other ↦ has_still false turns word other is ];
          empty = λ k is. turns k ∙ turned_still (bit_of below) place false k (over.empty k is);
          room = let room = over.room in omega (arith, room, len);
          most_below = let most = over.most_below in omega (arith, most, len);
          most_above = over.most_above;
        }

    module _ (above_new : List ℕ) (len_above : length above_new ≡ length above) where
      pub over_set : Turns below below_new place true → Turns above above_new (place / 64) true → IsOver below_new above_new
      over_set turns turns_above =
          record {
            full = λ word is.
                elim (cases_eq word (place / 64)) [
                  | inl same ↦ record { place = place; inside = sym same; member = turns place ∙ turned_here (bit_of below) place true }
                  | inr other ↦ has_still true turns word other (sym (turned_other (bit_of above) (place / 64) true word other) ∙ sym (turns_above word) ∙ is)
                ];
            empty = λ k is.
                elim (cases_eq (k / 64) (place / 64)) [
                  | inl same ↦ absurd (both_ways (bit_of above_new (k / 64)) is (ap (bit_of above_new) same ∙ turns_above (place / 64) ∙ turned_here (bit_of above) (place / 64) true))
                  | inr other ↦ none_still true turns k other (sym (turned_other (bit_of above) (place / 64) true (k / 64) other) ∙ sym (turns_above (k / 64)) ∙ is)
                ];
            room = let room = over.room in omega (arith, room, len, len_above);
            most_below = let most = over.most_below in omega (arith, most, len);
            most_above = let most = over.most_above in omega (arith, most, len_above);
          }

      pub over_cleared : Turns below below_new place false → NoneIn (bit_of below_new) (place / 64) → Turns above above_new (place / 64) false → IsOver below_new above_new
      over_cleared turns none turns_above =
          record {
            full = λ word is.
                elim (cases_eq word (place / 64)) [
                  | inl same ↦ absurd (both_ways (bit_of above_new word) (ap (bit_of above_new) same ∙ turns_above (place / 64) ∙ turned_here (bit_of above) (place / 64) false) is)
                  | inr other ↦ has_still false turns word other (sym (turned_other (bit_of above) (place / 64) false word other) ∙ sym (turns_above word) ∙ is)
                ];
            empty = λ k is.
                elim (cases_eq (k / 64) (place / 64)) [
                  | inl same ↦ none k same
                  | inr other ↦ none_still false turns k other (sym (turned_other (bit_of above) (place / 64) false (k / 64) other) ∙ sym (turns_above (k / 64)) ∙ is)
                ];
            room = let room = over.room in omega (arith, room, len, len_above);
            most_below = let most = over.most_below in omega (arith, most, len);
            most_above = let most = over.most_above in omega (arith, most, len_above);
          }

-- ---- after room was taken

-- two lists of words tell the same of all numbers
abbrev pub Same : List ℕ → List ℕ → Type 0
Same old new = (k : ℕ) → bit_of new k ≡ bit_of old k

module _ (n : ℕ) (small : n < 2 ^ 58) (below above above_new : List ℕ) (over : IsOver below above) (same_above : Same above above_new) (more : length above ≤ length above_new) (most : length above_new ≤ max (length above) (n / 64 + 1)) where
  -- more words above
  pub over_room : IsOver below above_new
  over_room =
      let room = over.room in
      let few = over.most_above in
      record {
        full = λ word is. over.full word (sym (same_above word) ∙ is);
        empty = λ k is. over.empty k (sym (same_above (k / 64)) ∙ is);
        room = omega (arith, room, more);
        most_below = over.most_below;
        most_above = omega (arith, most, few, small);
      }

  -- more words below too
  pub over_more : (below_new : List ℕ) → Same below below_new → length below_new ≤ max (length below) (n + 1) → n < 64 * length above_new → IsOver below_new above_new
  over_more below_new same most_below within =
      let room = over_room.room in
      let few = over.most_below in
      record {
        full = λ word is. let has = over_room.full word is in record { place = has.place; inside = has.inside; member = same has.place ∙ has.member };
        empty = λ k is. same k ∙ over_room.empty k is;
        room = omega (arith, room, most_below, within);
        most_below = omega (arith, most_below, few, small);
        most_above = over_room.most_above;
      }

-- ---- the first member, by the words over it

module _ (below above : List ℕ) (over : IsOver below above) where
  -- a word that has a bit is one of the words
  pub word_within : (word : ℕ) → bit_of above word ≡ true → word < 2 ^ 58
  word_within word is =
      let has = over.full word is in
      let inside = has.inside in
      let most = over.most_below in
      elim (cases_lt (has.place / 64) (length below)) [
        | inl within ↦ omega (arith, inside, most, within)
        | inr past ↦ absurd (both_ways (bit_of below has.place) (bit_past below has.place past) has.member)
      ]

  module _ (from : ℕ) (lower : NoneLower (bit_of below) from) where
    pub none_over : NoneFrom (bit_of above) (from / 64 + 1) → NoneFrom (bit_of below) from
    none_over none k behind =
        elim (cases_eq (k / 64) (from / 64)) [
          | inl same ↦ lower k behind same
          | inr other ↦ over.empty k (none (k / 64) (omega (arith, behind, other)))
        ]

    module _ (word : ℕ) (first : IsFirst (bit_of above) (from / 64 + 1) word) where
      none_to : NoneTo (bit_of below) from word
      none_to k behind before =
          elim (cases_eq (k / 64) (from / 64)) [
            | inl same ↦ lower k behind same
            | inr other ↦ over.empty k (first.first (k / 64) (omega (arith, behind, other)) before)
          ]

      some_lower : NoneLower (bit_of below) (word * 64) → ⊥
      some_lower none =
          let has = over.full word first.member in
          let inside = has.inside in
          both_ways (bit_of below has.place) (none has.place (omega (arith, inside)) (omega (arith, inside))) has.member

      pub first_over : (r : Option ℕ) → MatchOption r (NoneLower (bit_of below) (word * 64)) (λ n. IsLowest (bit_of below) (word * 64) n) → MatchOption r (NoneFrom (bit_of below) from) (λ n. IsFirst (bit_of below) from n)
      first_over None none = absurd (some_lower none)
      first_over (Some n) lowest = let behind = first.behind in first_found (bit_of below) from word n (omega (arith, behind)) none_to lowest

-- ---- the set

-- what holds of the bits holds of the members
module _ (words : List ℕ) (members : List Bool) (view : bits_of words ≡ members) (from : ℕ) where
  told : (k : ℕ) → has members k ≡ bit_of words k
  told k = ap (λ m. has m k) (sym view) ∙ has-bits_of words k

  pub first_member : (n : ℕ) → IsFirst (bit_of words) from n → IsFirst (has members) from n
  first_member n first = record { behind = first.behind; member = told n ∙ first.member; first = λ k behind below. told k ∙ first.first k behind below }

  pub no_member : NoneFrom (bit_of words) from → NoneFrom (has members) from
  no_member none k behind = told k ∙ none k behind

  pub member_of : (r : Option ℕ) → MatchOption r (NoneFrom (bit_of words) from) (λ n. IsFirst (bit_of words) from n) → MatchOption r (NoneFrom (has members) from) (λ n. IsFirst (has members) from n)
  member_of None none = no_member none
  member_of (Some n) first = first_member n first

-- words with the same bits but for one are a set with the same members but for one
pub members_turned : (old new : List ℕ) (members : List Bool) (birth : ℕ) (b : Bool) → bits_of old ≡ members → birth < length members → length new ≡ length old → Turns old new birth b → bits_of new ≡ slice_set members birth b
members_turned old new members birth b view within len turns =
    let long = length-bits_of old in
    let same = ap length view in
    bits_turned old new birth b (omega (arith, long, same, within)) len turns ∙ ap (λ m. slice_set m birth b) view

module _ (births words groups : List ℕ) (levels : AreLevels births words groups) (members : List Bool) (birth : ℕ) (view : bits_of births ≡ members) (within : birth < length members) where
  -- there is room at each level
  pub room_births : birth < 64 * length births
  room_births = let long = length-bits_of births in let same = ap length view in omega (arith, long, same, within)

  pub room_words : birth / 64 < 64 * length words
  room_words = let below = room_births in let room = levels.over_births.room in omega (arith, below, room)

  pub room_groups : birth / 64 / 64 < 64 * length groups
  room_groups = let below = room_words in let room = levels.over_words.room in omega (arith, below, room)
