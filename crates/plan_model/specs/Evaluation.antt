-- The value of an expression, and how values compare.
use Rattle.std.specs.Prelude.{ℕ, ℤ, pos, ◌+ℤ◌, ◌-ℤ◌, int_lt, Bool, true, false, ◌&&◌, ◌==◌, nat_lt, List, [], ◌∷◌, Option, None, Some, Result, Ok, Err, if◌then◌else◌}
use Rattle.std.specs.Int.{w8, cast_unsigned}
use Rattle.std.specs.Option.{option_map}
use Rattle.std.specs.Ordering.{int_eq}
use Rattle.std.specs.Str.{bytes_eq}
use Rattle.literal_model.specs.Literals.{number}
use Rattle.literal_model.specs.Readings.{and_then, numeric}
use Rattle.uno_model.specs.Codes.{same_kind}
use Rattle.uno_model.specs.Kinds as kd
use Rattle.uno_model.specs.Values.{Ref, null, own, peer, Plain, Plains, plains, depth}
use Rattle.uno_model.specs.Values as v
use Rattle.uno_model.specs.Weights.{weight}
use Rattle.plan_model.specs.Expressions.{Word, variable, field, Expression, Expressions, constant, word, operation, any, tuple, list, bytes, none, more}
use Rattle.plan_model.specs.Expressions as e
use Rattle.plan_model.specs.Frames.{Variable}
use Rattle.plan_model.specs.declared.comparison.Comparison.{Comparison}
use Rattle.plan_model.specs.declared.comparison.Comparison.TheVariants.{Equal, Less}
use Rattle.plan_model.specs.declared.operation.Operation.{Operation}
use Rattle.plan_model.specs.declared.operation.Operation.TheVariants.{Add, Sub}
use Rattle.plan_model.specs.declared.runtime_cause.RuntimeCause.{RuntimeCause}
use Rattle.plan_model.specs.declared.runtime_cause.RuntimeCause.TheVariants.{Range, TooLarge, TooDeep}

-- what words stand for: variables, the fields of the own object, and that object
pub record Scene : Type 0 where
  pub variables : List Variable
  pub fields : List Variable
  pub own : Ref

-- the value under a name; a name that is not there, which no plan that keeps the rules meets, is as one of type void
unfoldable pub value_under : List ℕ → List Variable → Plain
value_under name [] = v.void
value_under name (x ∷ xs) = if bytes_eq name x.name then x.value else value_under name xs

abbrev pub value_of_word : Scene → Word → Plain
value_of_word s (variable name) = value_under name s.variables
value_of_word s (field name) = value_under name s.fields
value_of_word s e.own = v.ref s.own

-- ---- operations

abbrev pub combined : Operation → ℤ → ℤ → ℤ
combined Add a b = a +ℤ b
combined Sub a b = a -ℤ b

-- the result of an operation on two numbers of one whole type, where it is one of that type
abbrev pub operated : Operation → Plain → Plain → Option Plain
operated op (v.byte a) (v.byte b) = numeric kd.byte (number (combined op a b))
operated op (v.short a) (v.short b) = numeric kd.short (number (combined op a b))
operated op (v.unsigned_short a) (v.unsigned_short b) = numeric kd.unsigned_short (number (combined op (pos a) (pos b)))
operated op (v.long a) (v.long b) = numeric kd.long (number (combined op a b))
operated op (v.unsigned_long a) (v.unsigned_long b) = numeric kd.unsigned_long (number (combined op (pos a) (pos b)))
operated op (v.hyper a) (v.hyper b) = numeric kd.hyper (number (combined op a b))
operated op (v.unsigned_hyper a) (v.unsigned_hyper b) = numeric kd.unsigned_hyper (number (combined op (pos a) (pos b)))
operated op x y = None

-- ---- values

-- a sequence of bytes has the bytes of its elements
abbrev pub byte_of : Plain → ℕ
byte_of (v.byte n) = cast_unsigned w8 n
byte_of x = 0

unfoldable pub bytes_of : Plains → List ℕ
bytes_of v.none = []
bytes_of (v.more x xs) = byte_of x ∷ bytes_of xs

abbrev pub both_values : {A B C : Type 0} → Option A → Option B → (A → B → Option C) → Option C
both_values a b go = and_then a (λ x. and_then b (go x))

-- the value of an expression, where each operation in it has a result
unfoldable mutual
  pub value_of : Scene → Expression → Option Plain
  value_of s (constant x) = Some x
  value_of s (word w) = Some (value_of_word s w)
  value_of s (operation op a b) = both_values (value_of s a) (value_of s b) (operated op)
  value_of s (any k a) = option_map (v.any k) (value_of s a)
  value_of s (tuple name es) = option_map (v.tuple name) (values_of s es)
  value_of s (list k es) = option_map (v.list k) (values_of s es)
  value_of s (bytes es) = option_map (λ xs. v.bytes (bytes_of xs)) (values_of s es)

  pub values_of : Scene → Expressions → Option Plains
  values_of s none = Some v.none
  values_of s (more a es) = both_values (value_of s a) (values_of s es) (λ x xs. Some (v.more x xs))

-- no value and no message weighs more than a block may have bytes, and none is nested deeper than 64
unfoldable pub is_heavy : ℕ → Bool
is_heavy n = nat_lt 16777216 n

unfoldable pub is_deep : ℕ → Bool
is_deep n = nat_lt 64 n

abbrev pub bounded : Plain → Result Plain RuntimeCause
bounded x = if is_heavy (weight x) then Err TooLarge else (if is_deep (depth x) then Err TooDeep else Ok x)

-- the value of a whole expression, or why there is none, in the order in which this is tried
unfoldable pub evaluated : Scene → Expression → Result Plain RuntimeCause
evaluated s a = of_value (value_of s a)
  where
    of_value : Option Plain → Result Plain RuntimeCause
    of_value None = Err Range
    of_value (Some x) = bounded x

-- ---- comparing

-- the identity of an object; null has none
abbrev pub identity_of : Ref → List ℕ
identity_of null = []
identity_of (own oid face) = oid
identity_of (peer oid face) = oid

-- references are equal where they are of one object, under whatever interface
abbrev pub same_object : Ref → Ref → Bool
same_object r s = bytes_eq (identity_of r) (identity_of s)

-- two values are equal: anys where types and values are, structs member by member
unfoldable mutual
  pub same_value : Plain → Plain → Bool
  same_value v.void v.void = true
  same_value (v.char a) (v.char b) = a == b
  same_value (v.boolean true) (v.boolean b) = b
  same_value (v.boolean false) (v.boolean true) = false
  same_value (v.boolean false) (v.boolean false) = true
  same_value (v.byte a) (v.byte b) = int_eq a b
  same_value (v.short a) (v.short b) = int_eq a b
  same_value (v.unsigned_short a) (v.unsigned_short b) = a == b
  same_value (v.long a) (v.long b) = int_eq a b
  same_value (v.unsigned_long a) (v.unsigned_long b) = a == b
  same_value (v.hyper a) (v.hyper b) = int_eq a b
  same_value (v.unsigned_hyper a) (v.unsigned_hyper b) = a == b
  same_value (v.str a) (v.str b) = bytes_eq a b
  same_value (v.kind a) (v.kind b) = same_kind a b
  same_value (v.any k a) (v.any j b) = same_kind k j && same_value a b
  same_value (v.enum name a) (v.enum mark b) = bytes_eq name mark && int_eq a b
  same_value (v.tuple name a) (v.tuple mark b) = bytes_eq name mark && same_values a b
  same_value (v.list k a) (v.list j b) = same_kind k j && same_values a b
  same_value (v.bytes a) (v.bytes b) = bytes_eq a b
  same_value (v.ref r) (v.ref s) = same_object r s
  same_value a b = false

  pub same_values : Plains → Plains → Bool
  same_values v.none v.none = true
  same_values (v.more a rest) (v.more b others) = same_value a b && same_values rest others
  same_values rest others = false

-- the number that a value of a whole type is
abbrev pub number_of : Plain → Option ℤ
number_of (v.byte a) = Some a
number_of (v.short a) = Some a
number_of (v.unsigned_short a) = Some (pos a)
number_of (v.long a) = Some a
number_of (v.unsigned_long a) = Some (pos a)
number_of (v.hyper a) = Some a
number_of (v.unsigned_hyper a) = Some (pos a)
number_of x = None

abbrev pub less_number : Option ℤ → Option ℤ → Bool
less_number (Some a) (Some b) = int_lt a b
less_number a b = false

abbrev pub compares : Comparison → Plain → Plain → Bool
compares Equal a b = same_value a b
compares Less a b = less_number (number_of a) (number_of b)
