-- The reading of a type's name finds the type that it names, and none where it names none.
use Rattle.std.proofs.Common.{◌≡◌, ℕ, zero, suc, Bool, true, false, List, ◌++◌, length, take, drop, nat_le, Option}
use Rattle.std.proofs.Common.{None, Some, MatchOption, refl, sym, ap, ◌∙◌, codes, arith, add-one}
use Rattle.std.proofs.lemmas.Bool.{and_parts, and_from, both_ways, leb-true, le-leb}
use Rattle.std.proofs.lemmas.List.{take-append-drop}
use Rattle.std.proofs.lemmas.Slice.Eq.{bytes_eq-Decides}
use Rattle.std.specs.List.{list_all}
use Rattle.std.specs.Str.{bytes_eq}
use Rattle.uno_model.proofs.NameLaws.{one_type, none_at_all, none_behind, none_of_bad, one_more, word_gives, more_levels, none_of_word}
use Rattle.uno_model.specs.Entities.{Entity}
use Rattle.uno_model.specs.Kinds.{Kind, name_of, nesting}
use Rattle.uno_model.specs.NamedTypes.{IsNamed, IsNamedWithin, kind_within, type_of_text, word_of}
use Rattle.uno_model.specs.Sound.{is_named, is_storable, kind_known, elements_storable, is_namable}
use Rattle.uno_model.specs.Types.{is_formed, is_type}

-- it is the type that is named, or there is none
abbrev pub Finds : (Kind → Type 0) → Option Kind → Type 0
Finds Is found = MatchOption found ((k : Kind) → Is k → ⊥) Is

-- a text begins with `[]` or does not
begins : (text : List ℕ) → bytes_eq (take 2 text) (codes "[]") ≡ true → text ≡ codes "[]" ++ drop 2 text
begins text same = sym (take-append-drop 2 text) ∙ ap (λ t. t ++ drop 2 text) ((bytes_eq-Decides (take 2 text) (codes "[]")).0 same)

begins_not : (text : List ℕ) → bytes_eq (take 2 text) (codes "[]") ≡ false → (rest : List ℕ) → text ≡ codes "[]" ++ rest → ⊥
begins_not text other rest split = both_ways (bytes_eq (take 2 text) (codes "[]")) other ((bytes_eq-Decides (take 2 text) (codes "[]")).1 (ap (λ t. take 2 t) split))

word_finds : (reg : List Entity) (text : List ℕ) (levels : ℕ) → list_all is_named reg ≡ true → bytes_eq (take 2 text) (codes "[]") ≡ false
    → (o : Option Kind) → word_of reg text ≡ o → Finds (IsNamedWithin reg text levels) o
word_finds reg text levels named other None reads = none_of_word reg text levels named (begins_not text other) reads
word_finds reg text levels named other (Some k) reads = more_levels reg text 0 levels k (omega arith) (word_gives reg text k reads)

sequence_finds : (reg : List Entity) (text : List ℕ) (levels : ℕ) → list_all is_named reg ≡ true → bytes_eq (take 2 text) (codes "[]") ≡ true
    → (o : Option Kind) → kind_within levels reg (drop 2 text) ≡ o → Finds (IsNamedWithin reg (drop 2 text) levels) o
    → Finds (IsNamedWithin reg text (suc levels)) (kind_within (suc levels) reg text)
unfolding kind_within
sequence_finds reg text levels named same None reads found = rw (same, reads) (rw (← add-one) (none_behind reg text (drop 2 text) levels named (begins text same) found))
sequence_finds reg text levels named same (Some k) reads found = by_plain (is_storable k) refl
  where
    by_plain : (b : Bool) → is_storable k ≡ b → Finds (IsNamedWithin reg text (suc levels)) (kind_within (suc levels) reg text)
    by_plain true plain = rw (same, reads, plain) (rw (← add-one) (one_more reg text (drop 2 text) levels k (begins text same) found plain))
    by_plain false plain = rw (same, reads, plain) (none_of_bad reg text (drop 2 text) (suc levels) levels k named (begins text same) found plain)

pub within_finds : (levels : ℕ) (reg : List Entity) (text : List ℕ) → list_all is_named reg ≡ true → Finds (IsNamedWithin reg text levels) (kind_within levels reg text)
unfolding kind_within
within_finds zero reg text named = by_front (bytes_eq (take 2 text) (codes "[]")) refl
  where
    by_front : (b : Bool) → bytes_eq (take 2 text) (codes "[]") ≡ b → Finds (IsNamedWithin reg text 0) (kind_within 0 reg text)
    by_front true same = rw same (none_at_all reg text (drop 2 text) named (begins text same))
    by_front false other = rw other (word_finds reg text 0 named other (word_of reg text) refl)
within_finds (suc levels) reg text named = by_front (bytes_eq (take 2 text) (codes "[]")) refl (within_finds levels reg (drop 2 text) named)
  where
    by_front : (b : Bool) → bytes_eq (take 2 text) (codes "[]") ≡ b
        → Finds (IsNamedWithin reg (drop 2 text) levels) (kind_within levels reg (drop 2 text))
        → Finds (IsNamedWithin reg text (suc levels)) (kind_within (suc levels) reg text)
    by_front true same inner = sequence_finds reg text levels named same (kind_within levels reg (drop 2 text)) refl inner
    by_front false other inner = rw other (word_finds reg text (suc levels) named other (word_of reg text) refl)

-- the whole name, within its limits
pub text_finds : (reg : List Entity) (text : List ℕ) → list_all is_named reg ≡ true → Finds (IsNamed reg text) (type_of_text reg text)
unfolding type_of_text
text_finds reg text named = by_length (nat_le (length text) 4096) refl
  where
    inside : (k : Kind) → IsNamed reg text k → IsNamedWithin reg text 64 k
    inside k is =
        let parts = and_parts (is_formed reg k) (is_namable k) is.is in
        let limits = and_parts (nat_le (length (name_of k)) 4096) (nat_le (nesting k) 64) parts.1 in
        record { named = is.named; formed = parts.0; within = leb-true (nesting k) 64 limits.1 }

    short : (k : Kind) → IsNamed reg text k → nat_le (length text) 4096 ≡ true
    short k is =
        let parts = and_parts (is_formed reg k) (is_namable k) is.is in
        let limits = and_parts (nat_le (length (name_of k)) 4096) (nat_le (nesting k) 64) parts.1 in
        ap (λ t. nat_le (length t) 4096) (sym is.named) ∙ limits.0

    outside : nat_le (length text) 4096 ≡ true → (k : Kind) → IsNamedWithin reg text 64 k → IsNamed reg text k
    outside few k is =
        let long : nat_le (length (name_of k)) 4096 ≡ true = ap (λ t. nat_le (length t) 4096) is.named ∙ few in
        record {
          named = is.named;
          is =
              and_from (is_formed reg k) (is_namable k) is.formed
              (and_from (nat_le (length (name_of k)) 4096) (nat_le (nesting k) 64) long (le-leb (nesting k) 64 is.within));
        }

    by_found : (o : Option Kind) → nat_le (length text) 4096 ≡ true → Finds (IsNamedWithin reg text 64) o → Finds (IsNamed reg text) o
    by_found None few none = λ k is. none k (inside k is)
    by_found (Some k) few is = outside few k is

    by_length : (b : Bool) → nat_le (length text) 4096 ≡ b → Finds (IsNamed reg text) (type_of_text reg text)
    by_length true few = rw few (by_found (kind_within 64 reg text) few (within_finds 64 reg text named))
    by_length false many = rw many (λ k is. both_ways (nat_le (length text) 4096) many (short k is))

-- what else finds the type of a name finds the same
pub same_found : (reg : List Entity) (text : List ℕ) (found : Option Kind) → list_all is_named reg ≡ true → Finds (IsNamed reg text) found → found ≡ type_of_text reg text
same_found reg text found named finds = both found (type_of_text reg text) finds (text_finds reg text named)
  where
    known : (k : Kind) → IsNamed reg text k → kind_known reg k ≡ true
    known k is = (and_parts (kind_known reg k) (elements_storable k) (and_parts (is_formed reg k) (is_namable k) is.is).0).0

    both : (o p : Option Kind) → Finds (IsNamed reg text) o → Finds (IsNamed reg text) p → o ≡ p
    both None None none also = refl
    both None (Some k) none is = absurd (none k is)
    both (Some k) None is none = absurd (none k is)
    both (Some k) (Some j) is other = ap Some (one_type reg k j named (known k is) (known j other) (is.named ∙ sym other.named))

-- the name of a type of the registry is read as that type
pub read_name : (reg : List Entity) (k : Kind) → list_all is_named reg ≡ true → is_type reg k ≡ true → type_of_text reg (name_of k) ≡ Some k
read_name reg k named is = sym (same_found reg (name_of k) (Some k) named (record { named = refl; is = is }))
