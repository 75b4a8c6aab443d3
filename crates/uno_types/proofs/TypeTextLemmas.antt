-- What one level of the reading of a type's name gives.
use Rattle.std.proofs.Common.{◌≡◌, ℕ, ◌+◌, ◌-◌, ◌<◌, Bool, true, false, List, ◌++◌, Option, None, Some, if◌then◌else◌}
use Rattle.std.proofs.Common.{MatchOption, option_map, Result, Ok, Err, IfOk, IsTrue, refl, sym, subst, codes, arith}
use Rattle.std.specs.List.{list_all}
use Rattle.std.specs.Str.{bytes_eq}
use Rattle.std.proofs.lemmas.Slice.Eq.{bytes_eq-Decides}
use Rattle.uno_base.specs.declared.no_memory.NoMemory.{NoMemory}
use Rattle.uno_model.proofs.NameLaws.{word_gives, more_levels, none_of_word, none_at_all, none_behind, none_of_bad}
use Rattle.uno_model.specs.Entities.{Entity}
use Rattle.uno_model.specs.Kinds.{Kind}
use Rattle.uno_model.specs.NamedTypes.{IsNamedWithin, word_of, simple_of}
use Rattle.uno_model.specs.Sound.{is_named, is_storable}
use Rattle.uno_entities.specs.TypeNames.{kind_of}
use Rattle.uno_entities.specs.declared.type_name.TypeName.{TypeName}

-- without `[]` in front
pub word_found : (reg : List Entity) (text : List ℕ) (levels : ℕ) (found : Option TypeName) → IsTrue (list_all is_named reg)
    → ((rest : List ℕ) → text ≡ codes "[]" ++ rest → ⊥) → option_map kind_of found ≡ word_of reg text
    → MatchOption found ((k : Kind) → IsNamedWithin reg text levels k → ⊥) (λ t. IsNamedWithin reg text levels (kind_of t))
word_found reg text levels None named no_front is = none_of_word reg text levels named no_front (sym is)
word_found reg text levels (Some t) named no_front is = more_levels reg text 0 levels (kind_of t) (omega arith) (word_gives reg text (kind_of t) (sym is))

-- with `[]` in front, and no level left
pub no_level : (reg : List Entity) (text rest : List ℕ) (levels : ℕ) → IsTrue (list_all is_named reg) → text ≡ codes "[]" ++ rest → levels ≡ 0 → (k : Kind)
    → IsNamedWithin reg text levels k → ⊥
no_level reg text rest levels named split none = subst (λ n. (k : Kind) → IsNamedWithin reg text n k → ⊥) (sym none) (none_at_all reg text rest named split)

-- with `[]` in front, and nothing or no storable type behind
pub nothing_behind : (reg : List Entity) (text rest : List ℕ) (levels : ℕ) → IsTrue (list_all is_named reg) → text ≡ codes "[]" ++ rest → 0 < levels
    → ((k : Kind) → IsNamedWithin reg rest (levels - 1) k → ⊥)
    → (k : Kind) → IsNamedWithin reg text levels k → ⊥
nothing_behind reg text rest levels named split some none =
    let is : (levels - 1) + 1 ≡ levels = omega arith in
    subst (λ n. (k : Kind) → IsNamedWithin reg text n k → ⊥) is (none_behind reg text rest (levels - 1) named split none)

pub no_element : (reg : List Entity) (text rest : List ℕ) (levels below : ℕ) (t : TypeName) (plain : Bool) → IsTrue (list_all is_named reg)
    → text ≡ codes "[]" ++ rest → IsNamedWithin reg rest below (kind_of t) → plain ≡ is_storable (kind_of t)
    → plain ≡ false → (k : Kind) → IsNamedWithin reg text levels k → ⊥
no_element reg text rest levels below t plain named split found is no_plain =
    let bad : is_storable (kind_of t) ≡ false = cc in
    none_of_bad reg text rest levels below (kind_of t) named split found bad

-- the same of a reading that may want memory
pub when_read : (reg : List Entity) (text : List ℕ) (levels : ℕ) (read : Result (Option TypeName) NoMemory) → IsTrue (list_all is_named reg)
    → ((rest : List ℕ) → text ≡ codes "[]" ++ rest → ⊥)
    → IfOk read (λ found. option_map kind_of found ≡ word_of reg text)
    → IfOk read (λ found. MatchOption found ((k : Kind) → IsNamedWithin reg text levels k → ⊥) (λ t. IsNamedWithin reg text levels (kind_of t)))
when_read reg text levels (Ok found) named no_front is = word_found reg text levels found named no_front is
when_read reg text levels (Err e) named no_front is = tt

-- two texts that are not one fail the test
not_equal : (a b : List ℕ) → (a ≡ b → ⊥) → bytes_eq a b ≡ false
not_equal a b other = by_test (bytes_eq a b) refl
  where
    by_test : (test : Bool) → bytes_eq a b ≡ test → test ≡ false
    by_test true same = absurd (other ((bytes_eq-Decides a b).0 same))
    by_test false same = refl

-- a word that the text is not is passed over
passed : (text word : List ℕ) (k : Kind) (rest : Option Kind) → (text ≡ word → ⊥) → None ≡ rest → None ≡ (if bytes_eq text word then Some k else rest)
passed text word k rest other none = rw (not_equal text word other) none

-- what is none of the words names no simple type
pub no_simple : (text : List ℕ)
    → (text ≡ codes "void" → ⊥) → (text ≡ codes "char" → ⊥) → (text ≡ codes "boolean" → ⊥) → (text ≡ codes "byte" → ⊥) → (text ≡ codes "short" → ⊥)
    → (text ≡ codes "unsigned short" → ⊥) → (text ≡ codes "long" → ⊥) → (text ≡ codes "unsigned long" → ⊥) → (text ≡ codes "hyper" → ⊥)
    → (text ≡ codes "unsigned hyper" → ⊥) → (text ≡ codes "string" → ⊥) → (text ≡ codes "type" → ⊥) → (text ≡ codes "any" → ⊥)
    → None ≡ simple_of text
unfolding simple_of
no_simple text a b c d e f g h i j k l m =
    passed text _ _ _ a (passed text _ _ _ b (passed text _ _ _ c (passed text _ _ _ d (passed text _ _ _ e (passed text _ _ _ f
    (passed text _ _ _ g (passed text _ _ _ h (passed text _ _ _ i (passed text _ _ _ j (passed text _ _ _ k (passed text _ _ _ l (passed text _ _ _ m refl))))))))))))
