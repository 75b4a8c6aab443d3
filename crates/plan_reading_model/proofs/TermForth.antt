-- Terms that are spelled are read.
use Rattle.std.proofs.Common.{◌≡◌, ℕ, zero, suc, ◌≤◌, true, false, List, [], ◌∷◌, ◌++◌, length, length-append, None}
use Rattle.std.proofs.Common.{refl, arith}
use Rattle.std.proofs.lemmas.Bool.{and_parts, both_ways}
use Rattle.uno_model.specs.Entities.{Entity}
use Rattle.literal_model.specs.Literals.{Token, spell, number, string}
use Rattle.literal_model.specs.Literals as token
use Rattle.plan_model.specs.Expressions.{variable, own}
use Rattle.plan_model.specs.Expressions as expression
use Rattle.plan_model.specs.Forms.{is_leaf, is_cast, has_members, is_term, are_terms}
use Rattle.plan_model.specs.Lines.{Term, Terms, leaf, type_named, void_any, typed, elements, members, word, operation, none, more}
use Rattle.plan_model.specs.PlanText.{operation_text, term_text, terms_text, behind_comma}
use Rattle.plan_model.specs.declared.operation.Operation.TheVariants.{Add, Sub}
use Rattle.plan_reading_model.specs.TermReading.{term_step, term_within}
use Rattle.plan_reading_model.proofs.TermLeaves.{some_number}
use Rattle.plan_reading_model.proofs.TermStepForth.{SaidBy, EachSaid, is_mark, type_named_said, void_said, typed_said, plan_word_said, operation_said, no_term_step, leaf_said, elements_step, members_step}

some_bytes : (bytes : List ℕ) → (bytes ≡ [] → ⊥) → 1 ≤ length bytes
some_bytes [] some = absurd (some refl)
some_bytes (c ∷ cs) some = omega arith

some_leaf : (reg : List Entity) (t : Token) → is_leaf reg t ≡ true → 1 ≤ length (spell t)
some_leaf reg (number n) is = some_bytes (spell (number n)) (some_number n is)
some_leaf reg (token.word []) is = absurd (both_ways false refl is)
some_leaf reg (token.word (c ∷ cs)) is = omega arith
some_leaf reg (string s) is = omega arith
some_leaf reg _ is = absurd (both_ways false refl is)

-- no term is spelled by nothing
pub some_text : (reg : List Entity) (t : Term) → is_term reg t ≡ true → 1 ≤ length (term_text t)
unfolding term_text is_term
some_text reg (leaf t) is = some_leaf reg t is
some_text reg (type_named k) is = omega arith
some_text reg void_any is = omega arith
some_text reg (typed k t) is = omega arith
some_text reg (elements ts) is = omega arith
some_text reg (members ts) is = omega arith
some_text reg (word (variable name)) is = omega arith
some_text reg (word (expression.field name)) is = omega arith
some_text reg (word own) is = omega arith
some_text reg (operation Add s t) is = omega arith
some_text reg (operation Sub s t) is = omega arith

pub none_of_nothing : (n : ℕ) (reg : List Entity) → term_within n reg [] ≡ None
unfolding term_within term_step
none_of_nothing zero reg = refl
none_of_nothing (suc n) reg = refl

pub none_of_mark : (n : ℕ) (reg : List Entity) (c : ℕ) (cs : List ℕ) → is_mark c ≡ true → term_within n reg (c ∷ cs) ≡ None
unfolding term_within
none_of_mark zero reg c cs is = refl
none_of_mark (suc n) reg c cs is = no_term_step reg (term_within n reg) c cs is

mutual
  unfolding term_within term_text is_term terms_text behind_comma are_terms EachSaid

  -- a term is read within as many levels as it has bytes
  pub within_said : (reg : List Entity) (n : ℕ) (t : Term) → is_term reg t ≡ true → length (term_text t) ≤ n → SaidBy (term_within n reg) t
  within_said reg zero t is long rest ends = let some = some_text reg t is in let bad : ⊥ = omega (arith, some, long) in absurd bad
  within_said reg (suc n) (leaf t) is long rest ends = leaf_said reg (term_within n reg) t rest is ends
  within_said reg (suc n) (type_named k) is long rest ends = type_named_said reg (term_within n reg) k rest is
  within_said reg (suc n) void_any is long rest ends = void_said reg (term_within n reg) rest
  within_said reg (suc n) (typed k t) is long rest ends =
      let parts = and_parts (is_cast k) (is_term reg t) is in
      let size = length-append k (41 ∷ term_text t) in
      typed_said reg (term_within n reg) k t rest parts.0 (within_said reg n t parts.1 (omega (arith, size, long)) rest ends)
  within_said reg (suc n) (elements ts) is long rest ends =
      let size = length-append (terms_text ts) (93 ∷ []) in
      let each = each_said reg n ts is (omega (arith, size, long)) in
      elements_step reg (term_within n reg) ts rest each (none_of_nothing n reg) (λ cs. none_of_mark n reg 93 cs refl)
  within_said reg (suc n) (members ts) is long rest ends =
      let parts = and_parts (has_members ts) (are_terms reg ts) is in
      let size = length-append (terms_text ts) (125 ∷ []) in
      let each = each_said reg n ts parts.1 (omega (arith, size, long)) in
      members_step reg (term_within n reg) ts rest parts.0 each
  within_said reg (suc n) (word w) is long rest ends = plan_word_said reg (term_within n reg) w rest is ends
  within_said reg (suc n) (operation op s t) is long rest ends =
      let parts = and_parts (is_term reg s) (is_term reg t) is in
      let size = length-append (operation_text op) (40 ∷ (term_text s ++ 44 ∷ (term_text t ++ 41 ∷ []))) in
      let first = length-append (term_text s) (44 ∷ (term_text t ++ 41 ∷ [])) in
      let second = length-append (term_text t) (41 ∷ []) in
      operation_said reg (term_within n reg) op s t rest (within_said reg n s parts.0 (omega (arith, size, first, long)))
      (within_said reg n t parts.1 (omega (arith, size, first, second, long)))

  pub each_said : (reg : List Entity) (n : ℕ) (ts : Terms) → are_terms reg ts ≡ true → length (terms_text ts) ≤ n → EachSaid (term_within n reg) ts
  each_said reg n none are long = tt
  each_said reg n (more t ts) are long =
      let parts = and_parts (is_term reg t) (are_terms reg ts) are in
      let size = length-append (term_text t) (behind_comma ts) in
      (within_said reg n t parts.0 (omega (arith, size, long)), each_behind reg n ts parts.1 (omega (arith, size, long)))

  each_behind : (reg : List Entity) (n : ℕ) (ts : Terms) → are_terms reg ts ≡ true → length (behind_comma ts) ≤ n → EachSaid (term_within n reg) ts
  each_behind reg n none are long = tt
  each_behind reg n (more t ts) are long =
      let parts = and_parts (is_term reg t) (are_terms reg ts) are in
      let size = length-append (term_text t) (behind_comma ts) in
      (within_said reg n t parts.0 (omega (arith, size, long)), each_behind reg n ts parts.1 (omega (arith, size, long)))
