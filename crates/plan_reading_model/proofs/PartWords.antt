-- Words of the plan and variables, both ways.
use Rattle.std.proofs.Common.{◌≡◌, ℕ, Bool, true, false, not, ◌==◌, List, [], ◌∷◌, ◌++◌, Option, None, Some}
use Rattle.std.proofs.Common.{refl, sym, ap, subst, ◌∙◌, codes, arith}
use Rattle.std.specs.List.{list_all}
use Rattle.std.specs.Str.{bytes_eq}
use Rattle.std.proofs.lemmas.Bool.{and_parts, and_from, not-true, not_from_false, eqb-true, both_ways}
use Rattle.uno_model.proofs.Options.{same_some, none_some}
use Rattle.uno_model.specs.Names.{begins_identifier, goes_on_identifier, is_identifier}
use Rattle.plan_model.specs.Expressions.{Word, variable, field, own}
use Rattle.plan_model.specs.Forms.{is_variable_name, is_word_formed}
use Rattle.plan_model.specs.PlanText.{variable_text, word_text}
use Rattle.plan_reading_model.specs.Parts.{identifier_at, variable_in, field_in, some_word, behind_dollar, word_at, variable_of, variable_at}
use Rattle.plan_reading_model.proofs.PartRuns.{given, same_word, stops}
use Rattle.plan_reading_model.proofs.PartNames.{identifier_said, identifier_back, identifier_word}

-- no identifier begins with a point
no_point : (c : ℕ) → begins_identifier c ≡ true → (c == 46) ≡ false
no_point c begun = grind arith

begun : (c : ℕ) (cs : List ℕ) → is_identifier (c ∷ cs) ≡ true → (c == 46) ≡ false
begun c cs is = no_point c (and_parts (begins_identifier c) (list_all goes_on_identifier cs) (identifier_word (c ∷ cs) is)).0

-- ---- what is spelled is read

named_said : (name rest : List ℕ) → is_identifier name ≡ true → stops goes_on_identifier rest ≡ true → bytes_eq name (codes "self") ≡ false
    → word_at (variable_text name ++ rest) ≡ Some (variable name, rest)
unfolding word_at
named_said [] rest is ends other = absurd (both_ways false refl is)
named_said (c ∷ cs) rest is ends other =
    let e : identifier_at (c ∷ (cs ++ rest)) ≡ Some (c ∷ cs, rest) = identifier_said (c ∷ cs) rest is ends in
    rw (begun c cs is, e, other) refl

pub word_said : (w : Word) (rest : List ℕ) → is_word_formed w ≡ true → stops goes_on_identifier rest ≡ true → word_at (word_text w ++ rest) ≡ Some (w, rest)
unfolding word_at
word_said (variable name) rest is ends =
    let parts = and_parts (is_identifier name) (not (bytes_eq name (codes "self"))) is in
    named_said name rest parts.0 ends (not-true (bytes_eq name (codes "self")) parts.1)
word_said (field name) rest is ends = rw (identifier_said name rest is ends) refl
word_said own rest is ends = let e : identifier_at (codes "self" ++ rest) ≡ Some (codes "self", rest) = identifier_said (codes "self") rest refl ends in rw e refl

pub variable_said : (w rest : List ℕ) → is_variable_name w ≡ true → stops goes_on_identifier rest ≡ true → variable_at (variable_text w ++ rest) ≡ Some (w, rest)
unfolding variable_at
variable_said w rest is ends = rw (word_said (variable w) rest is ends) refl

-- ---- what is read is spelled

abbrev IsWord : List ℕ → Word × List ℕ → Type 0
IsWord bytes x = (is_word_formed x.0 ≡ true) × (bytes ≡ word_text x.0 ++ x.1)

own_or_variable : (bytes : List ℕ) (y : List ℕ × List ℕ) → is_identifier y.0 ≡ true → bytes ≡ y.0 ++ y.1 → IsWord (36 ∷ bytes) (variable_in y)
own_or_variable bytes y is split = by_self (bytes_eq y.0 (codes "self")) refl
  where
    by_self : (b : Bool) → bytes_eq y.0 (codes "self") ≡ b → IsWord (36 ∷ bytes) (variable_in y)
    by_self true self = rw self (refl, ap (λ t. 36 ∷ t) (split ∙ ap (λ t. t ++ y.1) (same_word y.0 (codes "self") self)))
    by_self false other =
        let formed = and_from (is_identifier y.0) (not (bytes_eq y.0 (codes "self"))) is (not_from_false (bytes_eq y.0 (codes "self")) other) in
        rw other (formed, ap (λ t. 36 ∷ t) split)

some_word_parts : (mk : List ℕ × List ℕ → Word × List ℕ) (o : Option (List ℕ × List ℕ)) (x : Word × List ℕ) → some_word mk o ≡ Some x
    → (y : List ℕ × List ℕ) × (o ≡ Some y) × (mk y ≡ x)
some_word_parts mk None x e = absurd (none_some e)
some_word_parts mk (Some y) x e = (y, refl, same_some e)

behind_dollar_back : (bytes : List ℕ) (x : Word × List ℕ) → behind_dollar bytes ≡ Some x → IsWord (36 ∷ bytes) x
behind_dollar_back [] x e = absurd (none_some e)
behind_dollar_back (c ∷ cs) x e = by_point (c == 46) refl
  where
    by_point : (b : Bool) → (c == 46) ≡ b → IsWord (36 ∷ (c ∷ cs)) x
    by_point true point =
        let y = some_word_parts field_in (identifier_at cs) x (rw point at e) in
        let is = identifier_back cs y.0 y.1 in
        let split : 36 ∷ (c ∷ cs) ≡ 36 ∷ (46 ∷ (y.0.0 ++ y.0.1)) = ap (λ d. 36 ∷ (d ∷ cs)) (eqb-true c 46 point) ∙ ap (λ t. 36 ∷ (46 ∷ t)) is.1 in
        subst (λ z. IsWord (36 ∷ (c ∷ cs)) z) y.2 (is.0, split)
    by_point false other =
        let y = some_word_parts variable_in (identifier_at (c ∷ cs)) x (rw other at e) in
        let is = identifier_back (c ∷ cs) y.0 y.1 in
        subst (λ z. IsWord (36 ∷ (c ∷ cs)) z) y.2 (own_or_variable (c ∷ cs) y.0 is.0 is.1)

pub word_back : (bytes : List ℕ) (x : Word × List ℕ) → word_at bytes ≡ Some x → (is_word_formed x.0 ≡ true) × (bytes ≡ word_text x.0 ++ x.1)
unfolding word_at
word_back [] x e = absurd (none_some e)
word_back (c ∷ cs) x e = by_dollar (c == 36) refl
  where
    by_dollar : (b : Bool) → (c == 36) ≡ b → IsWord (c ∷ cs) x
    by_dollar true dollar = subst (λ d. IsWord (d ∷ cs) x) (sym (eqb-true c 36 dollar)) (behind_dollar_back cs x (rw dollar at e))
    by_dollar false other = absurd (none_some (rw other at e))

of_variable : (w : Word) (rest : List ℕ) (x : List ℕ × List ℕ) → variable_of (w, rest) ≡ Some x → ◌≡◌ {A = Word × List ℕ} (w, rest) (variable x.0, x.1)
of_variable (variable name) rest x e = ap (λ (y : List ℕ × List ℕ). (variable y.0, y.1)) (same_some e)
of_variable (field name) rest x e = absurd (none_some e)
of_variable own rest x e = absurd (none_some e)

pub variable_back : (bytes : List ℕ) (x : List ℕ × List ℕ) → variable_at bytes ≡ Some x → (is_variable_name x.0 ≡ true) × (bytes ≡ variable_text x.0 ++ x.1)
unfolding variable_at
variable_back bytes x e =
    let w = given (word_at bytes) variable_of x e in
    subst (λ z. IsWord bytes z) (of_variable w.0.0 w.0.1 x w.2) (word_back bytes w.0 w.1)
