-- Expressions are read as they are spelled: atoms, signs before them, and a level of operators above another.
use Rattle.std.proofs.Common.{◌≡◌, ℕ, zero, suc, ◌+◌, ◌<◌, ◌≤◌, Bool, true, false, not, ◌&&◌, ◌||◌, ◌==◌, nat_lt, List, [], ◌∷◌, ◌++◌, Option, None, Some}
use Rattle.std.proofs.Common.{is_some, codes, if◌then◌else◌}
use Rattle.std.proofs.Common.{refl, sym, ap, subst, ◌∙◌, inl, inr, append_assoc, append-nil, le_of_eq, eq-eqb, eqb-true, lt-ltb, ltb-true, ltb-false}
use Rattle.std.proofs.Common.{arith}
use Rattle.std.specs.List.{list_all}
use Rattle.grammar_model.specs.Agreement.{Agrees}
use Rattle.grammar_model.specs.Readings.{next, one, touching}
use Rattle.grammar_model.specs.Relations.{One, Touching, Image, Either, Many, Bracketed, ◌&◌, ◌&>◌, ◌<&◌}
use Rattle.grammar_model.proofs.Agreeing.{starts_one, starts_touching, starts_image, starts_seq, starts_behind, starts_either, IsRule}
use Rattle.grammar_model.proofs.Agreeing.{weaken_rule, image_agrees, image_rule}
use Rattle.grammar_model.proofs.Agreeing.{then_rule, seq_rule, behind_rule, before_rule, choice_rule, many_rule, list_all_fit}
use Rattle.grammar_model.proofs.Fronts.{fit_both, both_fit}
use Rattle.grammar_model.proofs.Leaves.{always, all_fit, closed_agrees, touching_agrees}
use Rattle.grammar_model.proofs.Repeats.{list_ends, last_ends, many_first}
use Rattle.grammar_model.proofs.Separating.{last_ends_all}
use Rattle.idl_model.proofs.Enclosing.{to_enclosed, from_enclosed}
use Rattle.idl_model.proofs.Terminals.{Starts, never, same_mark, starts_mark, starts_number, starts_table, starts_marks, marks_pass, words_pass}
use Rattle.idl_model.proofs.Terminals.{word_in_marks, token_rule, some_token, mark_rule}
use Rattle.idl_model.proofs.TypeRules.{name_rule, starts_name}
use Rattle.idl_model.specs.Depths.{expr_fits, operands_fit}
use Rattle.idl_model.specs.Grammar.{Tokens, Mark, of_table, of_marks, operator_marks, shift_marks, sign_marks, truth_words, IsOperator, IsSign, number_of}
use Rattle.idl_model.specs.Grammar.{IsNumber, IsTruth, IsName}
use Rattle.idl_model.specs.Grammar.{binding, bind_above, is_chain, IsExpr, AreOperands}
use Rattle.idl_model.specs.GrammarReading.{ReadsTokens, is_mark, is_mark_of, is_in_marks, is_in_table, is_one_of, is_number, is_number_word, signed_of}
use Rattle.idl_model.specs.GrammarReading.{chained, of_level, operator_at, shift_at, is_operator_word, is_operator}
use Rattle.idl_model.specs.GrammarReading.{atom_by, signed_by, chain_by, level_by, products_by, sums_by, shifts_by, expr_by, group_at, expr}
use Rattle.idl_model.specs.ParseVerdicts.{opens, opening_marks}
use Rattle.idl_model.specs.PlacedTokens.{PlacedToken, is_terminal, next_word, is_word, touches}
use Rattle.idl_model.specs.Trees.{Operator, bit_or, bit_xor, bit_and, shift_left, shift_right, plus, minus, times, divided_by, remainder, strength}
use Rattle.idl_model.specs.Trees.{Sign, positive}
use Rattle.idl_model.specs.Trees.{Expr, number, truth, constant, parentheses, signed, chain, Operands, no_operands, operand, operands}
use Rattle.idl_text_model.specs.Tokens.{Word}
use Rattle.idl_text_model.specs.Tokens as token

-- ---- where an expression is over

-- the last operand is a name
unfoldable mutual
  pub last_name : Expr → Bool
  last_name (number n) = false
  last_name (truth b) = false
  last_name (constant path) = true
  last_name (parentheses e) = false
  last_name (signed signs e) = last_name e
  last_name (chain e es) = last_behind (last_name e) es

  pub last_behind : Bool → Operands → Bool
  last_behind b no_operands = b
  last_behind b (operand op e es) = last_behind (last_name e) es

-- where neither `::` goes on with its last name, nor an operator comes that binds it
abbrev pub ends_by : (Option Word → Bool) → Expr → Option PlacedToken → Bool
ends_by binds e o = not (last_name e && is_mark (codes "::") o) && not (binds (next_word o))

abbrev pub no_operator : Option Word → Bool
no_operator o = false

-- the operators of a level or a stronger one
abbrev pub binds_5 : Option Word → Bool
binds_5 o = is_operator_word 5 o || no_operator o

abbrev pub binds_4 : Option Word → Bool
binds_4 o = is_operator_word 4 o || binds_5 o

abbrev pub binds_3 : Option Word → Bool
binds_3 o = is_in_marks shift_marks o || binds_4 o

abbrev pub binds_2 : Option Word → Bool
binds_2 o = is_operator_word 2 o || binds_3 o

abbrev pub binds_1 : Option Word → Bool
binds_1 o = is_operator_word 1 o || binds_2 o

abbrev pub binds_0 : Option Word → Bool
binds_0 o = is_operator_word 0 o || binds_1 o

abbrev pub expr_ends : Expr → Option PlacedToken → Bool
expr_ends = ends_by binds_0

-- an expression is over behind what neither goes on with a name nor is an operator
pub expr_over : (e : Expr) (o : Option PlacedToken) → not (is_word (token.mark (codes "::")) (next_word o) || binds_0 (next_word o)) ≡ true
    → expr_ends e o ≡ true
expr_over e o is = step (last_name e) (is_word (token.mark (codes "::")) (next_word o)) (binds_0 (next_word o)) is
  where
    step : (a b c : Bool) → not (b || c) ≡ true → (not (a && b) && not c) ≡ true
    step true true c e = let bad : ⊥ = cc in absurd bad
    step false true c e = let bad : ⊥ = cc in absurd bad
    step true false c e = e
    step false false c e = e

-- ---- what binds at least so strongly

abbrev pub Tier : ℕ → Expr → Tokens → Type 0
Tier level e u = IsExpr e u × (level ≤ binding e)

strength_below : (op : Operator) → strength op ≤ 5
strength_below bit_or = omega arith
strength_below bit_xor = omega arith
strength_below bit_and = omega arith
strength_below shift_left = omega arith
strength_below shift_right = omega arith
strength_below plus = omega arith
strength_below minus = omega arith
strength_below times = omega arith
strength_below divided_by = omega arith
strength_below remainder = omega arith

binding_below : (e : Expr) → binding e ≤ 7
binding_below (number n) = omega arith
binding_below (truth b) = omega arith
binding_below (constant path) = omega arith
binding_below (parentheses e) = omega arith
binding_below (signed signs e) = omega arith
binding_below (chain e no_operands) = omega arith
binding_below (chain e (operand op o es)) = let s = strength_below op in omega arith

-- ---- operators of a level

level_is : (level : ℕ) (o : Option Operator) (op : Operator) → of_level level o ≡ Some op → (o ≡ Some op) × (strength op ≡ level)
level_is level None op e = let bad : ⊥ = cc in absurd bad
level_is level (Some x) op e = by_test (strength x == level) refl e
  where
    by_test : (b : Bool) → (strength x == level) ≡ b → ◌≡◌ {A = Option Operator} (if b then Some x else None) (Some op)
        → (Some x ≡ Some op) × (strength op ≡ level)
    by_test true is k = (k, let same : x ≡ op = cc in ap strength (sym same) ∙ eqb-true (strength x) level is)
    by_test false is k = let bad : ⊥ = cc in absurd bad

of_level_is : (level : ℕ) (o : Option Operator) (op : Operator) → o ≡ Some op → strength op ≡ level → of_level level o ≡ Some op
of_level_is level o op e is = ap (of_level level) e ∙ ap (λ b. if b then Some op else None) (eq-eqb (strength op) level is)

-- what each row of a table of marks stands for passes a test
abbrev values_pass : {X : Type 0} → (X → Bool) → List (List ℕ × X) → Bool
values_pass v [] = true
values_pass v (row ∷ rows) = v row.1 && values_pass v rows

value_in_marks : {X : Type 0} (v : X → Bool) (rows : List (List ℕ × X)) (w : Word) (x : X) → values_pass v rows ≡ true → of_marks rows w ≡ Some x → v x ≡ true
value_in_marks v [] w x pass e = let bad : ⊥ = cc in absurd bad
value_in_marks {X} v (row ∷ rows) w x pass e =
    let parts = both_fit (v row.1) (values_pass v rows) pass in
    by_test parts.0 (λ k. value_in_marks v rows w x parts.1 k) (is_terminal (token.mark row.0) w) e
  where
    by_test : v row.1 ≡ true → (of_marks rows w ≡ Some x → v x ≡ true) → (b : Bool) → ◌≡◌ {A = Option X} (if b then Some row.1 else of_marks rows w) (Some x)
        → v x ≡ true
    by_test here later true k = let same : row.1 ≡ x = cc in ap v (sym same) ∙ here
    by_test here later false k = later k

false_true : {b : Bool} → b ≡ false → b ≡ true → ⊥
false_true e d = cc

-- a level of operators of one mark
module _ (level : ℕ) where
  abbrev IsMarkOperator : Operator → Tokens → Type 0
  IsMarkOperator = One (operator_at level)

  to_operator : (op : Operator) (u : Tokens) → IsMarkOperator op u → IsOperator op u × (strength op ≡ level)
  to_operator op u p = let l = level_is level (of_marks operator_marks (p.0).word) op p.2 in (inl (p.0, p.1, l.0), l.1)

  from_operator : ((level == 3) ≡ false) → (op : Operator) (u : Tokens) → IsOperator op u → strength op ≡ level → IsMarkOperator op u
  from_operator other op u (inl p) is = (p.0, p.1, of_level_is level (of_marks operator_marks (p.0).word) op p.2 is)
  from_operator other op u (inr p) is =
      let shift : (strength op == 3) ≡ true = value_in_marks (λ k. strength k == 3) shift_marks (p.0).word op refl p.3 in
      let here : (level == 3) ≡ true = subst (λ k. (k == 3) ≡ true) is shift in
      absurd (false_true other here)

abbrev IsShift : Operator → Tokens → Type 0
IsShift = Touching shift_at touches

to_shift : (op : Operator) (u : Tokens) → IsShift op u → IsOperator op u × (strength op ≡ 3)
to_shift op u p = (inr p, eqb-true (strength op) 3 (value_in_marks (λ k. strength k == 3) shift_marks (p.0).word op refl p.3))

from_shift : (op : Operator) (u : Tokens) → IsOperator op u → strength op ≡ 3 → IsShift op u
from_shift op u (inl p) is =
    let other : not (strength op == 3) ≡ true = value_in_marks (λ k. not (strength k == 3)) operator_marks (p.0).word op refl p.2 in
    let here : (strength op == 3) ≡ true = eq-eqb (strength op) 3 is in
    absurd (let bad : not true ≡ true = subst (λ b. not b ≡ true) here other in let worse : ⊥ = cc in worse)
from_shift op u (inr p) is = p

-- ---- signs and atoms

-- `(`, an expression and `)`
abbrev IsGroup : Expr → Tokens → Type 0
IsGroup = Mark (codes "(") &> IsExpr <& Mark (codes ")")

abbrev AsAtom : Expr → Tokens → Type 0
AsAtom = Either (Image parentheses IsGroup) (Either (Image number IsNumber) (Either (Image truth IsTruth) (Image constant IsName)))

unit_is : (x : Unit {0}) → x ≡ tt
unit_is x = refl

to_atom : (e : Expr) (u : Tokens) → AsAtom e u → Tier 7 e u
unfolding IsExpr
to_atom e u (inl p) =
    let b = to_enclosed (Mark (codes "(")) IsExpr (Mark (codes ")")) p.0 u p.2 in
    let here : Tier 7 (parentheses p.0) u = (subst (λ k. Bracketed (Mark (codes "(")) (IsExpr p.0) (Mark (codes ")")) k u) (unit_is b.0) b.1, omega arith) in
    subst (λ k. Tier 7 k u) (sym p.1) here
to_atom e u (inr (inl p)) = let here : Tier 7 (number p.0) u = (p.2, omega arith) in subst (λ k. Tier 7 k u) (sym p.1) here
to_atom e u (inr (inr (inl p))) = let here : Tier 7 (truth p.0) u = (p.2, omega arith) in subst (λ k. Tier 7 k u) (sym p.1) here
to_atom e u (inr (inr (inr p))) = let here : Tier 7 (constant p.0) u = (p.2, omega arith) in subst (λ k. Tier 7 k u) (sym p.1) here

from_atom : (e : Expr) (u : Tokens) → Tier 7 e u → AsAtom e u
unfolding IsExpr
from_atom (number n) u p = inr (inl (n, refl, p.0))
from_atom (truth b) u p = inr (inr (inl (b, refl, p.0)))
from_atom (constant path) u p = inr (inr (inr (path, refl, p.0)))
from_atom (parentheses e) u p = inl (e, refl, from_enclosed (Mark (codes "(")) IsExpr (Mark (codes ")")) e tt u p.0)
from_atom (signed signs e) u p = let bad : ⊥ = omega (arith, p.1) in absurd bad
from_atom (chain e no_operands) u p = let bad : ⊥ = omega (arith, p.1) in absurd bad
from_atom (chain e (operand op o es)) u p = let s = strength_below op in let bad : ⊥ = omega (arith, p.1) in absurd bad

module _ (d : Option Word → Bool) where
  starts_rest : ((n : ℕ) → d (Some (token.number n)) ≡ true) → words_pass d truth_words ≡ true
      → d (Some (token.mark (codes "::"))) ≡ true → ((n : List ℕ) → d (Some (token.identifier n)) ≡ true)
      → Starts d (Either (Image number IsNumber) (Either (Image truth IsTruth) (Image constant IsName)))
  starts_rest numbers truths colons ids = starts_either (λ o. d (next_word o)) (Image number IsNumber) (Either (Image truth IsTruth) (Image constant IsName))
      (starts_image (λ o. d (next_word o)) number IsNumber (starts_number d numbers))
      (starts_either (λ o. d (next_word o)) (Image truth IsTruth) (Image constant IsName)
      (starts_image (λ o. d (next_word o)) truth IsTruth (starts_table d truth_words truths))
      (starts_image (λ o. d (next_word o)) constant IsName (starts_name d colons ids)))

  starts_as_atom : d (Some (token.mark (codes "("))) ≡ true → ((n : ℕ) → d (Some (token.number n)) ≡ true) → words_pass d truth_words ≡ true
      → d (Some (token.mark (codes "::"))) ≡ true → ((n : List ℕ) → d (Some (token.identifier n)) ≡ true) → Starts d AsAtom
  starts_as_atom bracket numbers truths colons ids = starts_either (λ o. d (next_word o)) (Image parentheses IsGroup)
      (Either (Image number IsNumber) (Either (Image truth IsTruth) (Image constant IsName)))
      (starts_image (λ o. d (next_word o)) parentheses IsGroup (starts_behind (λ o. d (next_word o)) (Mark (codes "(")) (IsExpr <& Mark (codes ")"))
      (starts_mark d (codes "(") bracket)))
      (starts_rest numbers truths colons ids)

and_true : (b : Bool) → (b && true) ≡ b
and_true true = refl
and_true false = refl

-- how deep what stands in parentheses may be
abbrev group_fits : ℕ → Expr → Bool
group_fits zero e = false
group_fits (suc brackets) e = expr_fits brackets e

atom_rule : (brackets : ℕ) → Agrees opens always (group_fits brackets) (group_at brackets) IsGroup
    → IsRule opens (ends_by no_operator) (expr_fits brackets) (atom_by (group_at brackets)) (Tier 7)
unfolding expr_fits last_name
atom_rule brackets group = weaken_rule
    (choice_rule (is_mark (codes "("))
    (image_agrees parentheses (ends_by no_operator) (expr_fits brackets) group (λ e o. refl) (λ e. parentheses_fit brackets e))
    (choice_rule is_number
    (image_rule number (ends_by no_operator) (expr_fits brackets) (token_rule (λ t. number_of t.word) (token.number 0) 0 refl) (λ n o. refl)
    (λ n. refl)).agrees
    (choice_rule (is_one_of truth_words)
    (image_rule truth (ends_by no_operator) (expr_fits brackets) (token_rule (λ t. of_table truth_words t.word) (token.quoted (codes "TRUE")) true refl)
    (λ b o. refl) (λ b. refl)).agrees
    (image_rule constant (ends_by no_operator) (expr_fits brackets) name_rule (λ path o. and_true (not (is_mark (codes "::") o))) (λ path. refl))
    (starts_image (is_one_of truth_words) truth IsTruth (starts_table (is_in_table truth_words) truth_words refl))
    (λ x used rest p over. never (is_in_table truth_words) (Image constant IsName)
    (starts_image (λ o. not (is_one_of truth_words o)) constant IsName (starts_name (λ o. not (is_in_table truth_words o)) refl (λ n. refl))) x used rest
    p))
    (starts_image is_number number IsNumber (starts_number is_number_word (λ n. refl)))
    (λ x used rest p over. never is_number_word (Either (Image truth IsTruth) (Image constant IsName))
    (starts_either (λ o. not (is_number o)) (Image truth IsTruth) (Image constant IsName)
    (starts_image (λ o. not (is_number o)) truth IsTruth (starts_table (λ o. not (is_number_word o)) truth_words refl))
    (starts_image (λ o. not (is_number o)) constant IsName (starts_name (λ o. not (is_number_word o)) refl (λ n. refl)))) x used rest p))
    (starts_image (is_mark (codes "(")) parentheses IsGroup (starts_behind (is_mark (codes "(")) (Mark (codes "(")) (IsExpr <& Mark (codes ")"))
    (starts_mark (is_word (token.mark (codes "("))) (codes "(") refl)))
    (λ x used rest p over. never (is_word (token.mark (codes "("))) (Either (Image number IsNumber) (Either (Image truth IsTruth) (Image constant IsName)))
    (starts_rest (λ o. not (is_word (token.mark (codes "(")) o)) (λ n. refl) refl refl (λ n. refl)) x used rest p))
    to_atom from_atom
  where
    parentheses_fit : (brackets : ℕ) (e : Expr) → expr_fits brackets (parentheses e) ≡ group_fits brackets e
    parentheses_fit zero e = refl
    parentheses_fit (suc brackets) e = refl

-- signs before an atom
abbrev AsSigned : Expr → Tokens → Type 0
AsSigned = Image signed_of (Many IsSign & Tier 7)

to_signed : (e : Expr) (u : Tokens) → AsSigned e u → Tier 6 e u
unfolding IsExpr Many
to_signed e u (([], x), is, (p, q, parts, none, atom)) =
    let same : u ≡ q = parts ∙ ap (λ k. k ++ q) none in
    let high : 7 ≤ binding x = atom.1 in
    let here : Tier 6 x u = (subst (λ k. IsExpr x k) (sym same) atom.0, omega arith) in
    subst (λ k. Tier 6 k u) (sym is) here
to_signed e u ((s ∷ signs, x), is, (p, q, parts, some, atom)) =
    let high : 7 ≤ binding x = atom.1 in
    let low = binding_below x in
    let seven : binding x ≡ 7 = omega arith in
    let here : Tier 6 (signed (s ∷ signs) x) u = ((p, q, parts, some, atom.0, fit_both true (binding x == 7) refl (eq-eqb (binding x) 7 seven)), omega arith)
    in
    subst (λ k. Tier 6 k u) (sym is) here

from_signed : (e : Expr) (u : Tokens) → Tier 6 e u → AsSigned e u
unfolding IsExpr Many
from_signed (number n) u p = (([], number n), refl, ([], u, refl, refl, (p.0, omega arith)))
from_signed (truth b) u p = (([], truth b), refl, ([], u, refl, refl, (p.0, omega arith)))
from_signed (constant path) u p = (([], constant path), refl, ([], u, refl, refl, (p.0, omega arith)))
from_signed (parentheses e) u p = (([], parentheses e), refl, ([], u, refl, refl, (p.0, omega arith)))
from_signed (signed [] e) u p = let bad : ⊥ = cc ((p.0).5) in absurd bad
from_signed (signed (s ∷ signs) e) u p =
    let q = p.0 in
    let seven = eqb-true (binding e) 7 q.5 in
    ((s ∷ signs, e), refl, (q.0, q.1, q.2, q.3, (q.4, le_of_eq (sym seven))))
from_signed (chain e no_operands) u p = let bad : ⊥ = omega (arith, p.1) in absurd bad
from_signed (chain e (operand op o es)) u p = let s = strength_below op in let bad : ⊥ = omega (arith, p.1) in absurd bad

sign_rule : IsRule opens always all_fit (one (λ (t : PlacedToken). of_marks sign_marks t.word)) IsSign
sign_rule = token_rule (λ t. of_marks sign_marks t.word) (token.mark (codes "+")) positive refl

signed_rule : (brackets : ℕ) → Agrees opens always (group_fits brackets) (group_at brackets) IsGroup
    → IsRule opens (ends_by no_operator) (expr_fits brackets) (signed_by (group_at brackets)) (Tier 6)
unfolding expr_fits last_name
signed_rule brackets group = weaken_rule
    (image_rule signed_of (ends_by no_operator) (expr_fits brackets)
    (then_rule (many_rule (is_mark_of sign_marks) sign_rule refl (starts_marks (is_in_marks sign_marks) sign_marks refl) (λ x o is. refl))
    (atom_rule brackets group)
    (λ signs e q rest p over. fit_both (not (is_mark_of sign_marks (next (q ++ rest)))) (last_ends always signs (next (q ++ rest)))
    (no_sign e q rest (from_atom e q p)) (last_ends_all always signs (next (q ++ rest)) (λ x. refl))))
    (λ z o. signs_end z o) (λ z. signs_fit z))
    to_signed from_signed
  where
    no_sign : Starts (λ o. not (is_in_marks sign_marks o)) AsAtom
    no_sign = starts_as_atom (λ o. not (is_in_marks sign_marks o)) refl (λ n. refl) refl refl (λ n. refl)

    signs_end : (z : List Sign × Expr) (o : Option PlacedToken) → ends_by no_operator (signed_of z) o ≡ ends_by no_operator z.1 o
    signs_end ([], e) o = refl
    signs_end (s ∷ signs, e) o = refl

    signs_fit : (z : List Sign × Expr) → expr_fits brackets (signed_of z) ≡ (list_all {X = Sign} all_fit z.0 && expr_fits brackets z.1)
    signs_fit ([], e) = refl
    signs_fit (s ∷ signs, e) = ap (λ b. b && expr_fits brackets e) (sym (list_all_fit (s ∷ signs)))

-- ---- a level of operators above a stronger one

listed_operands : (es : Operands) → List (Operator × Expr)
listed_operands no_operands = []
listed_operands (operand op e es) = (op, e) ∷ listed_operands es

same_operands : (es : Operands) → operands (listed_operands es) ≡ es
unfolding listed_operands
same_operands no_operands = refl
same_operands (operand op e es) = ap (operand op e) (same_operands es)

module _ (level : ℕ) (Op : Operator → Tokens → Type 0) where
  abbrev Behind : Operator × Expr → Tokens → Type 0
  Behind = Op & Tier (suc level)

  abbrev AsChain : Expr → Tokens → Type 0
  AsChain = Image chained (Tier (suc level) & Many Behind)

  module _ (is_op : (op : Operator) (u : Tokens) → Op op u → IsOperator op u × (strength op ≡ level))
      (op_is : (op : Operator) (u : Tokens) → IsOperator op u → strength op ≡ level → Op op u) (low : level < 6) where
    -- operands behind an operator of the level
    to_operands : (ys : List (Operator × Expr)) (u : Tokens) → Many Behind ys u → AreOperands (operands ys) u × (bind_above level (operands ys) ≡ true)
    unfolding Many AreOperands bind_above
    to_operands [] u p = (p, refl)
    to_operands (y ∷ ys) u p =
        let more = to_operands ys p.1 p.4 in
        let y' = p.3 in
        let op = is_op y.0 y'.0 y'.3 in (
          (y'.0, y'.1, p.1, p.2 ∙ (ap (λ k. k ++ p.1) y'.2 ∙ append_assoc y'.0 y'.1 p.1), op.0, (y'.4).0, more.0),
          fit_both (strength y.0 == level) (nat_lt level (binding y.1) && bind_above level (operands ys)) (eq-eqb (strength y.0) level op.1)
              (fit_both (nat_lt level (binding y.1)) (bind_above level (operands ys)) (lt-ltb level (binding y.1) (y'.4).1) more.1),
        )

    from_operands : (es : Operands) (u : Tokens) → AreOperands es u → bind_above level es ≡ true → Many Behind (listed_operands es) u
    unfolding Many AreOperands bind_above listed_operands
    from_operands no_operands u p bound = p
    from_operands (operand op e es) u p bound =
        let a = both_fit (strength op == level) (nat_lt level (binding e) && bind_above level es) bound in
        let b = both_fit (nat_lt level (binding e)) (bind_above level es) a.1 in (
          p.0 ++ p.1,
          p.2,
          p.3 ∙ sym (append_assoc p.0 p.1 p.2),
          (p.0, p.1, refl, op_is op p.0 p.4 (eqb-true (strength op) level a.0), (p.5, ltb-true level (binding e) b.0)),
          from_operands es p.2 p.6 b.1,
        )

    to_chain : (e : Expr) (u : Tokens) → AsChain e u → Tier level e u
    unfolding IsExpr Many
    to_chain e u ((x, []), is, (p, q, parts, first, none)) =
        let same : u ≡ p = parts ∙ (ap (λ k. p ++ k) none ∙ append-nil p) in
        let high : suc level ≤ binding x = first.1 in
        let here : Tier level x u = (subst (λ k. IsExpr x k) (sym same) first.0, omega arith) in
        subst (λ k. Tier level k u) (sym is) here
    to_chain e u ((x, y ∷ ys), is, (p, q, parts, first, others)) =
        let more = to_operands (y ∷ ys) q others in
        let op = (is_op y.0 ((others.3).0) ((others.3).3)).1 in
        let here : Tier level (chain x (operands (y ∷ ys))) u = ((p, q, parts, first.0, more.0, chain_is x y ys op first.1 more.1), le_of_eq (sym op)) in
        subst (λ k. Tier level k u) (sym is) here
      where
        chain_is : (x : Expr) (y : Operator × Expr) (ys : List (Operator × Expr)) → strength y.0 ≡ level → suc level ≤ binding x
            → bind_above level (operands (y ∷ ys)) ≡ true
            → is_chain x (operands (y ∷ ys)) ≡ true
        chain_is x y ys op high bound =
            fit_both (nat_lt (strength y.0) (binding x)) (bind_above (strength y.0) (operands (y ∷ ys)))
            (ap (λ k. nat_lt k (binding x)) op ∙ lt-ltb level (binding x) high) (ap (λ k. bind_above k (operands (y ∷ ys))) op ∙ bound)

    stronger : (e : Expr) (u : Tokens) → IsExpr e u → level < binding e → AsChain e u
    unfolding Many
    stronger e u is high = ((e, []), refl, (u, [], sym (append-nil u), (is, high), refl))

    of_level_chain : (x : Expr) (op : Operator) (e : Expr) (es : Operands) (u : Tokens) → IsExpr (chain x (operand op e es)) u → strength op ≡ level
        → AsChain (chain x (operand op e es)) u
    unfolding IsExpr listed_operands
    of_level_chain x op e es u q is =
        let c = both_fit (nat_lt (strength op) (binding x)) (bind_above (strength op) (operand op e es)) q.5 in
        let bound : bind_above level (operand op e es) ≡ true = subst (λ k. bind_above k (operand op e es) ≡ true) is c.1 in
        let high : level < binding x = subst (λ k. k < binding x) is (ltb-true (strength op) (binding x) c.0) in (
          (x, listed_operands (operand op e es)),
          ap (λ k. chain x (operand op e k)) (sym (same_operands es)),
          (q.0, q.1, q.2, (q.3, high), from_operands (operand op e es) q.1 q.4 bound),
        )

    from_chain : (e : Expr) (u : Tokens) → Tier level e u → AsChain e u
    unfolding IsExpr
    from_chain (number n) u p = stronger (number n) u p.0 (omega (arith, low))
    from_chain (truth b) u p = stronger (truth b) u p.0 (omega (arith, low))
    from_chain (constant path) u p = stronger (constant path) u p.0 (omega (arith, low))
    from_chain (parentheses e) u p = stronger (parentheses e) u p.0 (omega (arith, low))
    from_chain (signed signs e) u p = stronger (signed signs e) u p.0 low
    from_chain (chain x no_operands) u p = let bad : ⊥ = cc ((p.0).5) in absurd bad
    from_chain (chain x (operand op e es)) u p = by_test (nat_lt level (strength op)) refl
      where
        by_test : (b : Bool) → nat_lt level (strength op) ≡ b → AsChain (chain x (operand op e es)) u
        by_test true above = stronger (chain x (operand op e es)) u p.0 (ltb-true level (strength op) above)
        by_test false not_above =
            let at_least : level ≤ strength op = p.1 in
            let at_most = ltb-false level (strength op) not_above in
            of_level_chain x op e es u p.0 (omega arith)

-- `::` goes on with a last name, and an operator of the level or a stronger one comes
over_both : (n c t : Bool) → (not n && not (c || t)) ≡ true → ((not n && not t) ≡ true) × (not c ≡ true)
over_both true c t e = let bad : ⊥ = cc in absurd bad
over_both false true t e = let bad : ⊥ = cc in absurd bad
over_both false false t e = (e, refl)

both_over : (n c t : Bool) → (not n && not t) ≡ true → not c ≡ true → (not n && not (c || t)) ≡ true
both_over true c t e d = let bad : ⊥ = cc in absurd bad
both_over false true t e d = let bad : ⊥ = cc in absurd bad
both_over false false t e d = e

neither : (n k t : Bool) → k ≡ false → t ≡ false → (not (n && k) && not t) ≡ true
neither true k t e d = rw (e, d) refl
neither false k t e d = rw d refl

module _ (tighter : Option Word → Bool) where
  -- where the last of the operands is over
  abbrev item_ends : Operator × Expr → Option PlacedToken → Bool
  item_ends z o = ends_by tighter z.1 o

  last_is : (b : Bool) (y : Operator × Expr) (ys : List (Operator × Expr)) (o : Option PlacedToken)
      → last_ends item_ends (y ∷ ys) o ≡ (not (last_behind b (operands (y ∷ ys)) && is_mark (codes "::") o) && not (tighter (next_word o)))
  unfolding last_ends last_behind
  last_is b y [] o = refl
  last_is b y (z ∷ zs) o = last_is (last_name y.1) z zs o

operands_fit_is : (brackets : ℕ) (ys : List (Operator × Expr)) → operands_fit brackets (operands ys) ≡ list_all
    (λ (z : Operator × Expr). all_fit z.0 && expr_fits brackets z.1) ys
unfolding operands_fit
operands_fit_is brackets [] = refl
operands_fit_is brackets (y ∷ ys) = ap (λ b. expr_fits brackets y.1 && b) (operands_fit_is brackets ys)

module _ (brackets level : ℕ) (c tighter : Option Word → Bool) (operator : ReadsTokens Operator) (Op : Operator → Tokens → Type 0) (r : ReadsTokens Expr)
    (is_op : (op : Operator) (u : Tokens) → Op op u → IsOperator op u × (strength op ≡ level))
    (op_is : (op : Operator) (u : Tokens) → IsOperator op u → strength op ≡ level → Op op u)
    (low : level < 6) (first : Starts c Op) (none : c None ≡ false) (apart_from : (o : Option Word) → c o ≡ true
    → (is_word (token.mark (codes "::")) o ≡ false) × (tighter o ≡ false)) where
  starts_behind_op : Starts c (Behind level Op)
  starts_behind_op = starts_seq (λ o. c (next_word o)) Op (Tier (suc level)) first

  goes : (z : Operator × Expr) (o : Option PlacedToken) → c (next_word o) ≡ true → item_ends tighter z o ≡ true
  goes z o is = let a = apart_from (next_word o) is in neither (last_name z.1) (is_mark (codes "::") o) (tighter (next_word o)) a.0 a.1

  chain_ends : Expr × List (Operator × Expr) → Option PlacedToken → Bool
  chain_ends z o = ends_by (λ k. c k || tighter k) (chained z) o

  in_chain : (x : Expr) (ys : List (Operator × Expr)) (q rest : Tokens) → Many (Behind level Op) ys q → chain_ends (x, ys) (next rest) ≡ true
      → (ends_by tighter x (next (q ++ rest)) ≡ true) × (list_ends (λ o. c (next_word o)) (item_ends tighter) ys (next rest) ≡ true)
  unfolding chain_ends Many last_ends last_name
  in_chain x [] q rest p over =
      let o = over_both (last_name x && is_mark (codes "::") (next rest)) (c (next_word (next rest))) (tighter (next_word (next rest))) over in
      (ap (λ k. ends_by tighter x (next (k ++ rest))) p ∙ o.0, fit_both (not (c (next_word (next rest)))) true o.1 refl)
  in_chain x (y ∷ ys) q rest p over =
      let o = over_both (last_behind (last_name x) (operands (y ∷ ys)) && is_mark (codes "::") (next rest)) (c (next_word (next rest)))
      (tighter (next_word (next rest))) over in (
        goes (y.0, x) (next (q ++ rest)) (many_first (λ k. c (next_word k)) (item_ends tighter) (Behind level Op) starts_behind_op goes y ys q rest p),
        fit_both (not (c (next_word (next rest)))) (last_ends (item_ends tighter) (y ∷ ys) (next rest)) o.1
            (last_is tighter (last_name x) y ys (next rest) ∙ o.0),
      )

  out_chain : (x : Expr) (ys : List (Operator × Expr)) (q rest : Tokens) → Many (Behind level Op) ys q → ends_by tighter x (next (q ++ rest)) ≡ true
      → list_ends (λ o. c (next_word o)) (item_ends tighter) ys (next rest) ≡ true → chain_ends (x, ys) (next rest) ≡ true
  unfolding chain_ends Many last_ends last_name
  out_chain x [] q rest p one_over over =
      let o = both_fit (not (c (next_word (next rest)))) true over in
      both_over (last_name x && is_mark (codes "::") (next rest)) (c (next_word (next rest))) (tighter (next_word (next rest)))
      (ap (λ k. ends_by tighter x (next (k ++ rest))) (sym p) ∙ one_over) o.0
  out_chain x (y ∷ ys) q rest p one_over over =
      let o = both_fit (not (c (next_word (next rest)))) (last_ends (item_ends tighter) (y ∷ ys) (next rest)) over in
      both_over (last_behind (last_name x) (operands (y ∷ ys)) && is_mark (codes "::") (next rest)) (c (next_word (next rest)))
      (tighter (next_word (next rest)))
      (sym (last_is tighter (last_name x) y ys (next rest)) ∙ o.1) o.0

  chain_fits : (z : Expr × List (Operator × Expr)) → expr_fits brackets (chained z) ≡
      (expr_fits brackets z.0 && list_all (λ (y : Operator × Expr). all_fit y.0 && expr_fits brackets y.1) z.1)
  unfolding expr_fits
  chain_fits (x, []) = sym (and_true (expr_fits brackets x))
  chain_fits (x, y ∷ ys) = ap (λ b. expr_fits brackets x && b) (operands_fit_is brackets (y ∷ ys))

  pub chain_rule : IsRule opens always all_fit operator Op → IsRule opens (ends_by tighter) (expr_fits brackets) r (Tier (suc level))
      → IsRule opens (ends_by (λ o. c o || tighter o)) (expr_fits brackets) (chain_by (λ o. c (next_word o)) operator r) (Tier level)
  unfolding chain_ends
  chain_rule op h = weaken_rule
      (image_rule chained (ends_by (λ o. c o || tighter o)) (expr_fits brackets)
      (seq_rule chain_ends h (many_rule (λ o. c (next_word o)) (then_rule op h (λ x y q rest p over. refl)) none starts_behind_op goes)
      in_chain out_chain)
      (λ z o. refl) chain_fits)
      (to_chain level Op is_op op_is low) (from_chain level Op is_op op_is low)

-- a test of operators passes no `::` and no operator that binds more strongly, if that is so of the rows of a table
abbrev parts_from : (Option Word → Bool) → (Option Word → Bool) → Option Word → Bool
parts_from c tighter o = not (c o) || (not (is_word (token.mark (codes "::")) o) && not (tighter o))

apart_by : (rows : List (List ℕ × Operator)) (c tighter : Option Word → Bool) → c None ≡ false
    → ((w : Word) → c (Some w) ≡ true → (op : Operator) × (of_marks rows w ≡ Some op))
    → marks_pass (parts_from c tighter) rows ≡ true → (o : Option Word) → c o ≡ true → (is_word (token.mark (codes "::")) o ≡ false) × (tighter o ≡ false)
apart_by rows c tighter none row pass None is = let bad : false ≡ true = sym none ∙ is in let worse : ⊥ = cc in absurd worse
apart_by rows c tighter none row pass (Some w) is =
    let op = row w is in
    step (c (Some w)) (is_word (token.mark (codes "::")) (Some w)) (tighter (Some w)) is (word_in_marks (parts_from c tighter) rows w op.0 pass op.1)
  where
    step : (a b t : Bool) → a ≡ true → (not a || (not b && not t)) ≡ true → (b ≡ false) × (t ≡ false)
    step false b t e d = let bad : ⊥ = cc in absurd bad
    step true true t e d = let bad : ⊥ = cc in absurd bad
    step true false true e d = let bad : ⊥ = cc in absurd bad
    step true false false e d = (refl, refl)

row_of_operator : (level : ℕ) (w : Word) → is_operator_word level (Some w) ≡ true → (op : Operator) × (of_marks operator_marks w ≡ Some op)
row_of_operator level w is = of_option (of_marks operator_marks w) refl
  where
    of_option : (o : Option Operator) → of_marks operator_marks w ≡ o → (op : Operator) × (of_marks operator_marks w ≡ Some op)
    of_option (Some op) e = (op, e)
    of_option None e =
        let never : is_some (of_level level None) ≡ true = subst (λ k. is_some (of_level level k) ≡ true) e is in
        let bad : ⊥ = cc in absurd bad

row_of_shift : (w : Word) → is_in_marks shift_marks (Some w) ≡ true → (op : Operator) × (of_marks shift_marks w ≡ Some op)
row_of_shift w is = of_option (of_marks shift_marks w) is refl
  where
    of_option : (o : Option Operator) → is_some o ≡ true → of_marks shift_marks w ≡ o → (op : Operator) × (of_marks shift_marks w ≡ Some op)
    of_option (Some op) some e = (op, e)
    of_option None some e = let bad : ⊥ = cc in absurd bad

-- a level whose operators are one mark
level_rule : (brackets level : ℕ) (tighter : Option Word → Bool) (r : ReadsTokens Expr) (w : List ℕ) (op : Operator)
    → operator_at level (some_token (token.mark w)) ≡ Some op
    → (level == 3) ≡ false → level < 6 → marks_pass (parts_from (is_operator_word level) tighter) operator_marks ≡ true
    → IsRule opens (ends_by tighter) (expr_fits brackets) r (Tier (suc level))
    → IsRule opens (ends_by (λ o. is_operator_word level o || tighter o)) (expr_fits brackets) (level_by level r) (Tier level)
level_rule brackets level tighter r w op is other low pass h =
    chain_rule brackets level (is_operator_word level) tighter (one (operator_at level)) (IsMarkOperator level) r (to_operator level)
    (from_operator level other) low
    (starts_one (is_operator level) (operator_at level) (λ t x e. ap is_some e)) refl
    (apart_by operator_marks (is_operator_word level) tighter refl (row_of_operator level) pass)
    (token_rule (operator_at level) (token.mark w) op is) h

-- the level of shifts
shift_rule : (brackets : ℕ) (tighter : Option Word → Bool) (r : ReadsTokens Expr) → marks_pass
    (parts_from (is_in_marks shift_marks) tighter) shift_marks ≡ true
    → IsRule opens (ends_by tighter) (expr_fits brackets) r (Tier 4)
    → IsRule opens (ends_by (λ o. is_in_marks shift_marks o || tighter o)) (expr_fits brackets)
    (chain_by (is_mark_of shift_marks) (touching shift_at touches) r) (Tier 3)
shift_rule brackets tighter r pass h =
    chain_rule brackets 3 (is_in_marks shift_marks) tighter (touching shift_at touches) IsShift r to_shift from_shift (omega arith)
    (starts_touching (is_mark_of shift_marks) shift_at touches (λ t x e. ap is_some e)) refl
    (apart_by shift_marks (is_in_marks shift_marks) tighter refl row_of_shift pass)
    (record {
      agrees = touching_agrees shift_at touches opens partner (some_token (token.mark (codes "<"))) shift_left refl;
      room = (
        shift_left,
        two (some_token (token.mark (codes "<"))),
        (
          some_token (token.mark (codes "<")),
          behind
              (some_token (token.mark (codes "<"))),
          refl,
          refl,
          refl,
        ),
        refl,
      );
    }) h
  where
    behind : PlacedToken → PlacedToken
    behind t = record { word = t.word; place = record { file = t.place.file; byte = t.place.byte + t.length }; length = 1 }

    two : PlacedToken → Tokens
    two t = t ∷ (behind t ∷ [])

    partner : (t : PlacedToken) (x : Operator) → shift_at t ≡ Some x → (s : PlacedToken) × (touches t s ≡ true)
    partner t x e = (
      behind t,
      fit_both (is_terminal t.word t.word) ((t.place.file == t.place.file) && (t.place.byte + t.length == t.place.byte + t.length))
          (word_in_marks same_word shift_marks t.word x refl e)
          (fit_both (t.place.file == t.place.file) (t.place.byte + t.length == t.place.byte + t.length) (eq-eqb t.place.file t.place.file refl)
          (eq-eqb (t.place.byte + t.length) (t.place.byte + t.length) refl)),
    )
      where
        same_word : Option Word → Bool
        same_word None = true
        same_word (Some w) = is_terminal w w

-- all levels
expr_step : (brackets : ℕ) → Agrees opens always (group_fits brackets) (group_at brackets) IsGroup
    → IsRule opens expr_ends (expr_fits brackets) (expr_by (group_at brackets)) IsExpr
expr_step brackets group =
    let factors = signed_rule brackets group in
    let products = level_rule brackets 5 no_operator (signed_by (group_at brackets)) (codes "*") times refl refl (omega arith) refl factors in
    let sums = level_rule brackets 4 binds_5 (products_by (group_at brackets)) (codes "+") plus refl refl (omega arith) refl products in
    let shifts = shift_rule brackets binds_4 (sums_by (group_at brackets)) refl sums in
    let ands = level_rule brackets 2 binds_3 (shifts_by (group_at brackets)) (codes "&") bit_and refl refl (omega arith) refl shifts in
    let xors = level_rule brackets 1 binds_2 (level_by 2 (shifts_by (group_at brackets))) (codes "^") bit_xor refl refl (omega arith) refl ands in
    let ors = level_rule brackets 0 binds_1 (level_by 1 (level_by 2 (shifts_by (group_at brackets)))) (codes "|") bit_or refl refl (omega arith) refl xors in
    weaken_rule ors (λ e u p. p.0) (λ e u p. (p, omega arith))

-- some text with this `(`
some_group : (t : PlacedToken) → is_mark (codes "(") (Some t) ≡ true → (x : Expr) × (tail : Tokens) × IsGroup x (t ∷ tail)
unfolding IsExpr
some_group t is = (
  number 0,
  some_token (token.number 0) ∷ (some_token (token.mark (codes ")")) ∷ []),
  (
    (tt, number 0),
    refl,
    (
      t ∷ [],
      some_token (token.number 0) ∷ (some_token (token.mark (codes ")")) ∷ []),
      refl,
      (t, refl, ap (λ b. if b then Some tt else None) is),
      (
        (number 0, tt),
        refl,
        (
          some_token (token.number 0) ∷ [],
          some_token (token.mark (codes ")")) ∷ [],
          refl,
          (some_token (token.number 0), refl, refl),
          (some_token (token.mark (codes ")")), refl, refl),
        ),
      ),
    ),
  ),
)

group_agrees : (brackets : ℕ) → Agrees opens always (group_fits brackets) (group_at brackets) IsGroup
unfolding group_at
group_agrees zero = closed_agrees opens (is_mark (codes "(")) IsGroup refl
    (starts_behind (is_mark (codes "(")) (Mark (codes "(")) (IsExpr <& Mark (codes ")")) (starts_mark (is_word (token.mark (codes "("))) (codes "(") refl))
    (λ t is. (ap (λ k. is_some (of_marks opening_marks k)) (same_mark (codes "(") t.word is), some_group t is))
    (let e = some_group (some_token (token.mark (codes "("))) refl in (e.0, some_token (token.mark (codes "(")) ∷ e.1, e.2))
group_agrees (suc brackets) = (behind_rule (mark_rule (codes "(")) (before_rule (expr_step brackets (group_agrees brackets)) (mark_rule (codes ")"))
    (λ e y q rest p. expr_over e (next (q ++ rest)) (starts_mark (λ o. not (is_word (token.mark (codes "::")) o || binds_0 o))
    (codes ")") refl y q rest p)))).agrees

pub expr_rule : (brackets : ℕ) → IsRule opens expr_ends (expr_fits brackets) (expr brackets) IsExpr
unfolding expr
expr_rule brackets = expr_step brackets (group_agrees brackets)
