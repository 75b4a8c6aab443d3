-- The references of a value that an expression has are those of variables, of fields, of the own object, or of constants: what none of these counts, it does not count.
use Rattle.std.proofs.Common.{◌≡◌, ℕ, ◌+◌, ◌≤◌, Bool, true, false, if◌then◌else◌, List, [], ◌∷◌, Option, None, Some, Result, Ok, Err, option_map, refl, ◌∙◌, arith}
use Rattle.std.specs.Str.{bytes_eq}
use Rattle.literal_model.specs.Readings.{some_as}
use Rattle.uno_model.specs.Kinds.{Kind}
use Rattle.uno_model.specs.Values.{Ref, null, own, peer, Plain, Plains, refs, refs_in, object_in, depth}
use Rattle.uno_model.specs.Values as v
use Rattle.uno_model.specs.Weights.{weight}
use Rattle.plan_model.specs.Evaluation.{Scene, value_under, value_of_word, operated, both_values, value_of, values_of, is_heavy, is_deep, evaluated, bytes_of}
use Rattle.plan_model.specs.Expressions.{Word, variable, field, Expression, Expressions, constant, word, operation, any, tuple, list, bytes, none, more}
use Rattle.plan_model.specs.Expressions as e
use Rattle.plan_model.specs.Frames.{Variable}
use Rattle.plan_model.specs.Holdings.{refs_under}
use Rattle.plan_model.specs.declared.operation.Operation.{Operation}
use Rattle.plan_model.specs.declared.runtime_cause.RuntimeCause.{RuntimeCause}
use Rattle.bridge_laws.specs.Counting.{total}
use Rattle.bridge_laws.specs.Living.{constants_in, constants_each}
use Rattle.bridge_laws.proofs.Sums.{total_append}
use Rattle.bridge_laws.proofs.VariableLaws.{under_more}

-- ---- words

-- what a scene counts
abbrev pub scene_counts : (Ref → ℕ) → Scene → ℕ
scene_counts f s = total f (refs_under s.variables) + (total f (refs_under s.fields) + total f (object_in s.own))

abbrev pub option_counts : (Ref → ℕ) → Option Plain → ℕ
option_counts f None = 0
option_counts f (Some x) = total f (refs x)

abbrev pub options_count : (Ref → ℕ) → Option Plains → ℕ
options_count f None = 0
options_count f (Some xs) = total f (refs_in xs)

abbrev pub result_counts : (Ref → ℕ) → Result Plain RuntimeCause → ℕ
result_counts f (Ok x) = total f (refs x)
result_counts f (Err cause) = 0

-- ---- words of an expression

under_step : (f : Ref → ℕ) (b : Bool) (x : Variable) (xs : List Variable) (rest : Plain) → total f (refs rest) ≤ total f (refs_under xs)
    → total f (refs (if b then x.value else rest)) ≤ total f (refs_under (x ∷ xs))
under_step f true x xs rest most = let parts = under_more f x xs in omega arith
under_step f false x xs rest most = let parts = under_more f x xs in omega arith

-- a value counts no more than all that stand with it
pub under_at_most : (f : Ref → ℕ) (name : List ℕ) (xs : List Variable) → total f (refs (value_under name xs)) ≤ total f (refs_under xs)
unfolding value_under refs total
under_at_most f name [] = omega arith
under_at_most f name (x ∷ xs) = under_step f (bytes_eq name x.name) x xs (value_under name xs) (under_at_most f name xs)

pub word_at_most : (f : Ref → ℕ) (s : Scene) (w : Word) → total f (refs (value_of_word s w)) ≤ scene_counts f s
unfolding refs
word_at_most f s (variable name) = let here = under_at_most f name s.variables in omega arith
word_at_most f s (field name) = let here = under_at_most f name s.fields in omega arith
word_at_most f s e.own = omega arith

-- ---- operations

pub numbers_count : {X : Type 0} (f : Ref → ℕ) (mk : X → Plain) (o : Option X) → ((x : X) → total f (refs (mk x)) ≡ 0) → option_counts f (some_as mk o) ≡ 0
numbers_count f mk None none_of = refl
numbers_count f mk (Some x) none_of = none_of x

operated_counts : (f : Ref → ℕ) (op : Operation) (x y : Plain) → option_counts f (operated op x y) ≡ 0
unfolding refs total
operated_counts f op (v.byte a) (v.byte b) = numbers_count f v.byte _ (λ n. refl)
operated_counts f op (v.short a) (v.short b) = numbers_count f v.short _ (λ n. refl)
operated_counts f op (v.unsigned_short a) (v.unsigned_short b) = numbers_count f v.unsigned_short _ (λ n. refl)
operated_counts f op (v.long a) (v.long b) = numbers_count f v.long _ (λ n. refl)
operated_counts f op (v.unsigned_long a) (v.unsigned_long b) = numbers_count f v.unsigned_long _ (λ n. refl)
operated_counts f op (v.hyper a) (v.hyper b) = numbers_count f v.hyper _ (λ n. refl)
operated_counts f op (v.unsigned_hyper a) (v.unsigned_hyper b) = numbers_count f v.unsigned_hyper _ (λ n. refl)
operated_counts f op x y = refl

both_operated : (f : Ref → ℕ) (op : Operation) (a b : Option Plain) → option_counts f (both_values a b (operated op)) ≡ 0
both_operated f op None b = refl
both_operated f op (Some x) None = refl
both_operated f op (Some x) (Some y) = operated_counts f op x y

-- ---- values of expressions

any_counts : (f : Ref → ℕ) (k : Kind) (o : Option Plain) → option_counts f (option_map (v.any k) o) ≡ option_counts f o
unfolding refs
any_counts f k None = refl
any_counts f k (Some x) = refl

parts_count : (f : Ref → ℕ) (mk : Plains → Plain) (o : Option Plains) → ((xs : Plains) → total f (refs (mk xs)) ≤ total f (refs_in xs))
    → option_counts f (option_map mk o) ≤ options_count f o
parts_count f mk None most = omega arith
parts_count f mk (Some xs) most = most xs

more_counts : (f : Ref → ℕ) (a : Option Plain) (b : Option Plains) → option_counts f a ≡ 0 → options_count f b ≡ 0
    → options_count f (both_values a b (λ x xs. Some (v.more x xs))) ≡ 0
unfolding refs_in
more_counts f None b first rest = refl
more_counts f (Some x) None first rest = refl
more_counts f (Some x) (Some xs) first rest = let parts = total_append f (refs x) (refs_in xs) in omega arith

list_most : (f : Ref → ℕ) (k : Kind) (xs : Plains) → total f (refs (v.list k xs)) ≤ total f (refs_in xs)
unfolding refs
list_most f k xs = omega arith

tuple_most : (f : Ref → ℕ) (name : List ℕ) (xs : Plains) → total f (refs (v.tuple name xs)) ≤ total f (refs_in xs)
unfolding refs
tuple_most f name xs = omega arith

bytes_most : (f : Ref → ℕ) (bs : List ℕ) (xs : Plains) → total f (refs (v.bytes bs)) ≤ total f (refs_in xs)
unfolding refs total
bytes_most f bs xs = omega arith

nothing_in : (f : Ref → ℕ) → total f (refs_in v.none) ≡ 0
unfolding refs_in total
nothing_in f = refl

mutual
  unfolding value_of constants_in

  pub value_counts : (f : Ref → ℕ) (s : Scene) (a : Expression) → scene_counts f s ≡ 0 → total f (constants_in a) ≡ 0 → option_counts f (value_of s a) ≡ 0
  value_counts f s (constant x) scene constants = constants
  value_counts f s (word w) scene constants = let here = word_at_most f s w in omega arith
  value_counts f s (operation op a b) scene constants = both_operated f op (value_of s a) (value_of s b)
  value_counts f s (any k a) scene constants = any_counts f k (value_of s a) ∙ value_counts f s a scene constants
  value_counts f s (tuple name es) scene constants =
      let parts = parts_count f (v.tuple name) (values_of s es) (tuple_most f name) in let each = values_count f s es scene constants in omega arith
  value_counts f s (list k es) scene constants =
      let parts = parts_count f (v.list k) (values_of s es) (list_most f k) in let each = values_count f s es scene constants in omega arith
  value_counts f s (bytes es) scene constants =
      let parts = parts_count f (λ xs. v.bytes (bytes_of xs)) (values_of s es) (λ xs. bytes_most f (bytes_of xs) xs) in
      let each = values_count f s es scene constants in omega arith

  values_count : (f : Ref → ℕ) (s : Scene) (es : Expressions) → scene_counts f s ≡ 0 → total f (constants_each es) ≡ 0 → options_count f (values_of s es) ≡ 0
  values_count f s none scene constants = nothing_in f
  values_count f s (more a es) scene constants =
      let parts = total_append f (constants_in a) (constants_each es) in
      more_counts f (value_of s a) (values_of s es) (value_counts f s a scene (omega arith)) (values_count f s es scene (omega arith))

-- ---- whole expressions

bounded_by : (f : Ref → ℕ) (heavy deep : Bool) (x : Plain) (large nested : RuntimeCause) → total f (refs x) ≡ 0
    → result_counts f (if heavy then Err large else (if deep then Err nested else Ok x)) ≡ 0
bounded_by f true deep x large nested fine = refl
bounded_by f false true x large nested fine = refl
bounded_by f false false x large nested fine = fine

evaluated_by : (f : Ref → ℕ) (s : Scene) (a : Expression) (o : Option Plain) → value_of s a ≡ o → option_counts f o ≡ 0 → result_counts f (evaluated s a) ≡ 0
unfolding evaluated
evaluated_by f s a None is fine = rw is refl
evaluated_by f s a (Some x) is fine = rw is (bounded_by f (is_heavy (weight x)) (is_deep (depth x)) x _ _ fine)

pub evaluated_counts : (f : Ref → ℕ) (s : Scene) (a : Expression) → scene_counts f s ≡ 0 → total f (constants_in a) ≡ 0 → result_counts f (evaluated s a) ≡ 0
evaluated_counts f s a scene constants = evaluated_by f s a (value_of s a) refl (value_counts f s a scene constants)
