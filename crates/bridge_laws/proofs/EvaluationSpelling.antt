-- What an expression is can be carried by bytes, where its constants and what its words stand for can.
use Rattle.std.proofs.Common.{◌≡◌, ℕ, zero, suc, ◌<◌, ◌^◌, ℤ, pos, negsuc, Bool, true, false, nat_lt, if◌then◌else◌, List, [], ◌∷◌, Option, None, Some, Result, Ok, Err, option_map, refl, arith}
use Rattle.std.specs.List.{AllByRecursion}
use Rattle.std.specs.Str.{bytes_eq}
use Rattle.std.proofs.lemmas.Bool.{ltb-true}
use Rattle.std.proofs.lemmas.Int.{ints}
use Rattle.literal_model.specs.Literals.{number}
use Rattle.literal_model.specs.Readings.{numeric, some_as, unsigned_of, signed_of}
use Rattle.uno_model.specs.Kinds.{Kind}
use Rattle.uno_model.specs.Kinds as kd
use Rattle.uno_model.specs.Spellable.{IsSpellableRef, IsSpellable, AreSpellable, AreBytes}
use Rattle.uno_model.specs.Values.{Ref, Plain, Plains, depth}
use Rattle.uno_model.specs.Values as v
use Rattle.uno_model.specs.Weights.{weight}
use Rattle.plan_model.specs.Evaluation.{Scene, value_under, value_of_word, combined, operated, byte_of, bytes_of, both_values, value_of, values_of, is_heavy, is_deep, evaluated}
use Rattle.plan_model.specs.Expressions.{Word, variable, field, Expression, Expressions, constant, word, operation, any, tuple, list, bytes, none, more}
use Rattle.plan_model.specs.Expressions as e
use Rattle.plan_model.specs.Frames.{Variable}
use Rattle.plan_model.specs.declared.operation.Operation.{Operation}
use Rattle.plan_model.specs.declared.runtime_cause.RuntimeCause.{RuntimeCause}
use Rattle.plan_model.specs.declared.runtime_cause.RuntimeCause.TheVariants.{TooLarge, TooDeep}
use Rattle.bridge_laws.specs.Texts.{IsWritable, AreWritable}

-- ---- words

abbrev pub VariablesSpellable : List Variable → Type 0
VariablesSpellable xs = AllByRecursion (λ (x : Variable). IsSpellable x.value) xs

pub record SceneSpellable (s : Scene) : Type 0 where
  pub variables : VariablesSpellable s.variables
  pub fields : VariablesSpellable s.fields
  pub own : IsSpellableRef s.own

abbrev pub IfSpellable : Option Plain → Type 0
IfSpellable None = Unit
IfSpellable (Some x) = IsSpellable x

abbrev pub IfAreSpellable : Option Plains → Type 0
IfAreSpellable None = Unit
IfAreSpellable (Some xs) = AreSpellable xs

abbrev pub OkSpellable : Result Plain RuntimeCause → Type 0
OkSpellable (Ok x) = IsSpellable x
OkSpellable (Err cause) = Unit

-- ---- words of an expression

pub value_by : (b : Bool) (x y : Plain) → IsSpellable x → IsSpellable y → IsSpellable (if b then x else y)
value_by true x y p q = p
value_by false x y p q = q

pub void_spellable : IsSpellable v.void
unfolding IsSpellable
void_spellable = tt

pub under_spellable : (name : List ℕ) (xs : List Variable) → VariablesSpellable xs → IsSpellable (value_under name xs)
unfolding value_under
under_spellable name [] all = void_spellable
under_spellable name (x ∷ xs) all = value_by (bytes_eq name x.name) x.value (value_under name xs) all.0 (under_spellable name xs all.1)

pub word_spellable : (s : Scene) (w : Word) → SceneSpellable s → IsSpellable (value_of_word s w)
unfolding IsSpellable
word_spellable s (variable name) scene = under_spellable name s.variables scene.variables
word_spellable s (field name) scene = under_spellable name s.fields scene.fields
word_spellable s e.own scene = scene.own

-- ---- operations

unsigned_spellable : (bits : ℕ) (mk : ℕ → Plain) (z : ℤ) → ((n : ℕ) → n < 2 ^ bits → IsSpellable (mk n)) → IfSpellable (some_as mk (unsigned_of bits z))
unsigned_spellable bits mk (negsuc n) each = tt
unsigned_spellable bits mk (pos n) each = by_range (nat_lt n (2 ^ bits)) refl
  where
    by_range : (b : Bool) → nat_lt n (2 ^ bits) ≡ b → IfSpellable (some_as mk (if b then Some n else None))
    by_range true small = each n (ltb-true n (2 ^ bits) small)
    by_range false large = tt

signed_spellable : (bits : ℕ) (mk : ℤ → Plain) (z : ℤ) → ((n : ℕ) → n < 2 ^ bits → IsSpellable (mk (pos n))) → ((n : ℕ) → n < 2 ^ bits → IsSpellable (mk (negsuc n)))
    → IfSpellable (some_as mk (signed_of bits z))
signed_spellable bits mk (pos n) each below = by_range (nat_lt n (2 ^ bits)) refl
  where
    by_range : (b : Bool) → nat_lt n (2 ^ bits) ≡ b → IfSpellable (some_as mk (if b then Some (pos n) else None))
    by_range true small = each n (ltb-true n (2 ^ bits) small)
    by_range false large = tt
signed_spellable bits mk (negsuc n) each below = by_range (nat_lt n (2 ^ bits)) refl
  where
    by_range : (b : Bool) → nat_lt n (2 ^ bits) ≡ b → IfSpellable (some_as mk (if b then Some (negsuc n) else None))
    by_range true small = below n (ltb-true n (2 ^ bits) small)
    by_range false large = tt

-- a number at a type is one of it
pub numeric_spellable : (k : Kind) (z : ℤ) → IfSpellable (numeric k (number z))
unfolding IsSpellable
numeric_spellable kd.char z = unsigned_spellable 16 v.char z (λ n small. small)
numeric_spellable kd.byte z = signed_spellable 7 v.byte z (λ n small. record { sfits = small }) (λ n small. record { sfits = small })
numeric_spellable kd.short z = signed_spellable 15 v.short z (λ n small. record { sfits = small }) (λ n small. record { sfits = small })
numeric_spellable kd.unsigned_short z = unsigned_spellable 16 v.unsigned_short z (λ n small. small)
numeric_spellable kd.long z = signed_spellable 31 v.long z (λ n small. record { sfits = small }) (λ n small. record { sfits = small })
numeric_spellable kd.unsigned_long z = unsigned_spellable 32 v.unsigned_long z (λ n small. small)
numeric_spellable kd.hyper z = signed_spellable 63 v.hyper z (λ n small. record { sfits = small }) (λ n small. record { sfits = small })
numeric_spellable kd.unsigned_hyper z = unsigned_spellable 64 v.unsigned_hyper z (λ n small. small)
numeric_spellable k z = tt

operated_spellable : (op : Operation) (x y : Plain) → IfSpellable (operated op x y)
operated_spellable op (v.byte a) (v.byte b) = numeric_spellable kd.byte (combined op a b)
operated_spellable op (v.short a) (v.short b) = numeric_spellable kd.short (combined op a b)
operated_spellable op (v.unsigned_short a) (v.unsigned_short b) = numeric_spellable kd.unsigned_short (combined op (pos a) (pos b))
operated_spellable op (v.long a) (v.long b) = numeric_spellable kd.long (combined op a b)
operated_spellable op (v.unsigned_long a) (v.unsigned_long b) = numeric_spellable kd.unsigned_long (combined op (pos a) (pos b))
operated_spellable op (v.hyper a) (v.hyper b) = numeric_spellable kd.hyper (combined op a b)
operated_spellable op (v.unsigned_hyper a) (v.unsigned_hyper b) = numeric_spellable kd.unsigned_hyper (combined op (pos a) (pos b))
operated_spellable op x y = tt

both_operated : (op : Operation) (a b : Option Plain) → IfSpellable (both_values a b (operated op))
both_operated op None b = tt
both_operated op (Some x) None = tt
both_operated op (Some x) (Some y) = operated_spellable op x y

-- ---- values of expressions

any_spellable : (k : Kind) (o : Option Plain) → IfSpellable o → IfSpellable (option_map (v.any k) o)
unfolding IsSpellable
any_spellable k None fine = tt
any_spellable k (Some x) fine = fine

parts_spellable : (mk : Plains → Plain) (o : Option Plains) → ((xs : Plains) → AreSpellable xs → IsSpellable (mk xs)) → IfAreSpellable o → IfSpellable (option_map mk o)
parts_spellable mk None each fine = tt
parts_spellable mk (Some xs) each fine = each xs fine

more_spellable : (a : Option Plain) (b : Option Plains) → IfSpellable a → IfAreSpellable b → IfAreSpellable (both_values a b (λ x xs. Some (v.more x xs)))
unfolding AreSpellable
more_spellable None b first rest = tt
more_spellable (Some x) None first rest = tt
more_spellable (Some x) (Some xs) first rest = (first, rest)

tuple_made : (name : List ℕ) (xs : Plains) → AreSpellable xs → IsSpellable (v.tuple name xs)
unfolding IsSpellable
tuple_made name xs fine = fine

pub list_made : (k : Kind) (xs : Plains) → AreSpellable xs → IsSpellable (v.list k xs)
unfolding IsSpellable
list_made k xs fine = fine

byte_small : (x : Plain) → IsSpellable x → byte_of x < 2 ^ 8
unfolding IsSpellable
byte_small (v.byte n) fine = omega (arith, ints)
byte_small x fine = omega arith

bytes_small : (xs : Plains) → AreSpellable xs → AreBytes (bytes_of xs)
unfolding bytes_of AreSpellable
bytes_small v.none fine i = omega arith
bytes_small (v.more x xs) fine zero = byte_small x fine.0
bytes_small (v.more x xs) fine (suc i) = bytes_small xs fine.1 i

bytes_made : (xs : Plains) → AreSpellable xs → IsSpellable (v.bytes (bytes_of xs))
unfolding IsSpellable
bytes_made xs fine = bytes_small xs fine

nothing_made : AreSpellable v.none
unfolding AreSpellable
nothing_made = tt

mutual
  unfolding value_of values_of IsWritable AreWritable

  pub value_spellable : (s : Scene) (a : Expression) → SceneSpellable s → IsWritable a → IfSpellable (value_of s a)
  value_spellable s (constant x) scene fine = fine
  value_spellable s (word w) scene fine = word_spellable s w scene
  value_spellable s (operation op a b) scene fine = both_operated op (value_of s a) (value_of s b)
  value_spellable s (any k a) scene fine = any_spellable k (value_of s a) (value_spellable s a scene fine)
  value_spellable s (tuple name es) scene fine = parts_spellable (v.tuple name) (values_of s es) (tuple_made name) (values_spellable s es scene fine)
  value_spellable s (list k es) scene fine = parts_spellable (v.list k) (values_of s es) (list_made k) (values_spellable s es scene fine)
  value_spellable s (bytes es) scene fine = parts_spellable (λ xs. v.bytes (bytes_of xs)) (values_of s es) bytes_made (values_spellable s es scene fine)

  values_spellable : (s : Scene) (es : Expressions) → SceneSpellable s → AreWritable es → IfAreSpellable (values_of s es)
  values_spellable s none scene fine = nothing_made
  values_spellable s (more a es) scene fine =
      more_spellable (value_of s a) (values_of s es) (value_spellable s a scene fine.0) (values_spellable s es scene fine.1)

-- ---- whole expressions

bounded_by : (heavy deep : Bool) (x : Plain) (large nested : RuntimeCause) → IsSpellable x → OkSpellable (if heavy then Err large else (if deep then Err nested else Ok x))
bounded_by true deep x large nested fine = tt
bounded_by false true x large nested fine = tt
bounded_by false false x large nested fine = fine

evaluated_by : (s : Scene) (a : Expression) (o : Option Plain) → value_of s a ≡ o → IfSpellable o → OkSpellable (evaluated s a)
unfolding evaluated
evaluated_by s a None is fine = rw is tt
evaluated_by s a (Some x) is fine = rw is (bounded_by (is_heavy (weight x)) (is_deep (depth x)) x TooLarge TooDeep fine)

pub evaluated_spellable : (s : Scene) (a : Expression) → SceneSpellable s → IsWritable a → OkSpellable (evaluated s a)
evaluated_spellable s a scene fine = evaluated_by s a (value_of s a) refl (value_spellable s a scene fine)
