-- Signs from the last to the first, and operands from the first to the last.
use Rattle.std.proofs.Common.{◌≡◌, ℕ, ◌+◌, ◌<◌, ◌≤◌, ℤ, List, [], ◌∷◌, ◌++◌, map, length, drop, get_or, Option, Result, Ok, Err, IsErr, refl, sym, ap, subst, ◌∙◌, arith}
use Rattle.std.proofs.lemmas.List.{map-append, drop_more, drop_all}
use Rattle.std.specs.Result.{IsErrAnd}
use Rattle.idl_const.specs.Evaluating.{RefusedBy, Gives, stepped}
use Rattle.idl_const.specs.declared.error.ConstError.{ConstError}
use Rattle.idl_const.specs.declared.error.ConstError.TheVariants as error
use Rattle.idl_model.specs.Trees.{Path, Sign, Operator, Expr, operands}
use Rattle.idl_model.specs.Values.{ConstFault, and_then, sign_applied, signs_applied, values}

-- a refusal stays
pub handed_over : (result : Result ℤ ConstError) (e : ConstError) (verdict : Result ℤ ConstFault) → IsErr result × IsErrAnd result (λ f. f ≡ e)
    → RefusedBy e verdict → Gives result verdict
handed_over (Ok x) e verdict is refused = let bad : ⊥ = cc in absurd bad
handed_over (Err f) e verdict is refused = subst (λ g. RefusedBy g verdict) (sym is.1) refused

pub refused_on : (e : ConstError) (first : Result ℤ ConstFault) (go : ℤ → Result ℤ ConstFault) → RefusedBy e first → RefusedBy e (and_then first go)
refused_on error.NoMemory first go refused = refused
refused_on error.Range first go refused = ap (λ k. and_then k go) refused
refused_on error.ZeroDivisor first go refused = ap (λ k. and_then k go) refused
refused_on error.UnknownName first go refused = ap (λ k. and_then k go) refused

-- ---- signs

no_more : (r : Result ℤ ConstFault) → r ≡ and_then r (λ z. Ok z)
no_more (Ok z) = refl
no_more (Err e) = refl

both : (r : Result ℤ ConstFault) (f g : ℤ → Result ℤ ConstFault) → and_then (and_then r f) g ≡ and_then r (λ z. and_then (f z) g)
both (Ok z) f g = refl
both (Err e) f g = refl

-- the last sign first
last_first : (ss : List Sign) (s : Sign) (z : ℤ) → signs_applied (ss ++ (s ∷ [])) z ≡ and_then (sign_applied s z) (signs_applied ss)
unfolding signs_applied
last_first [] s z = no_more (sign_applied s z)
last_first (t ∷ ss) s z = ap (λ k. and_then k (sign_applied t)) (last_first ss s z) ∙ both (sign_applied s z) (signs_applied ss) (sign_applied t)

split_off : {A : Type 0} (view : A → Sign) (left before : List A) (last : A) (z : ℤ) → left ≡ before ++ (last ∷ [])
    → signs_applied (map view left) z ≡ and_then (sign_applied (view last) z) (signs_applied (map view before))
split_off view left before last z is =
    ap (λ (k : List Sign). signs_applied k z) (ap (map view) is ∙ map-append view before (last ∷ [])) ∙ last_first (map view before) (view last) z

pub sign_on : {A : Type 0} (view : A → Sign) (left before : List A) (last : A) (z y : ℤ) (total : Result ℤ ConstFault) → left ≡ before ++ (last ∷ [])
    → sign_applied (view last) z ≡ Ok y → signs_applied (map view left) z ≡ total → signs_applied (map view before) y ≡ total
sign_on view left before last z y total is applied whole =
    sym (ap (λ (k : Result ℤ ConstFault). and_then k (signs_applied (map view before))) applied) ∙ (sym (split_off view left before last z is) ∙ whole)

pub sign_refused : {A : Type 0} (view : A → Sign) (left before : List A) (last : A) (z : ℤ) (e : ConstError) (total : Result ℤ ConstFault)
    → left ≡ before ++ (last ∷ []) → RefusedBy e (sign_applied (view last) z) → signs_applied (map view left) z ≡ total → RefusedBy e total
sign_refused view left before last z e total is refused whole =
    subst (RefusedBy e) (sym (split_off view left before last z is) ∙ whole) (refused_on e (sign_applied (view last) z) (signs_applied (map view before)) refused)

pub signs_done : {A : Type 0} (view : A → Sign) (left : List A) (z : ℤ) (total : Result ℤ ConstFault) → length left ≡ 0
    → signs_applied (map view left) z ≡ total → total ≡ Ok z
unfolding signs_applied
signs_done view [] z total none whole = sym whole
signs_done view (s ∷ ss) z total none whole = let bad : ⊥ = omega arith in absurd bad

-- ---- operands

module _ (names : Path → Option ℤ) where
  -- the first operand, and those behind it
  taken_off : (z : ℤ) (x : Operator × Expr) (xs : List (Operator × Expr))
      → values names z (operands (x ∷ xs)) ≡ and_then (stepped names z x) (λ y. values names y (operands xs))
  unfolding values
  taken_off z x xs = refl

  pub operand_on : (z y : ℤ) (x : Operator × Expr) (left behind : List (Operator × Expr)) (total : Result ℤ ConstFault) → left ≡ x ∷ behind
      → stepped names z x ≡ Ok y → values names z (operands left) ≡ total → values names y (operands behind) ≡ total
  operand_on z y x left behind total is gives whole =
      sym (ap (λ (k : Result ℤ ConstFault). and_then k (λ w. values names w (operands behind))) gives)
      ∙ (sym (ap (λ (k : List (Operator × Expr)). values names z (operands k)) is ∙ taken_off z x behind) ∙ whole)

  pub operand_refused : (z : ℤ) (x : Operator × Expr) (left behind : List (Operator × Expr)) (e : ConstError) (total : Result ℤ ConstFault) → left ≡ x ∷ behind
      → RefusedBy e (stepped names z x) → values names z (operands left) ≡ total → RefusedBy e total
  operand_refused z x left behind e total is refused whole =
      subst (RefusedBy e) (sym (ap (λ (k : List (Operator × Expr)). values names z (operands k)) is ∙ taken_off z x behind) ∙ whole)
      (refused_on e (stepped names z x) (λ y. values names y (operands behind)) refused)

  pub none_left : (z : ℤ) (left : List (Operator × Expr)) (total : Result ℤ ConstFault) → left ≡ [] → values names z (operands left) ≡ total → total ≡ Ok z
  unfolding values
  none_left z left total none whole = sym whole ∙ ap (λ (k : List (Operator × Expr)). values names z (operands k)) none

-- the operand at a place is the first of those from there on
pub operand_at : {A B : Type 0} (view : A → B) (xs : List A) (i : ℕ) (x : A) → i < length xs → x ≡ get_or xs i x
    → map view (drop i xs) ≡ view x ∷ map view (drop (i + 1) xs)
operand_at view xs i x within read = ap (map view) (drop_more xs i x within ∙ ap (λ k. k ∷ drop (i + 1) xs) (sym read))

pub operands_end : {A B : Type 0} (view : A → B) (xs : List A) (i : ℕ) → length xs ≤ i → map view (drop i xs) ≡ []
operands_end view xs i past = ap (map view) (drop_all i xs past)
