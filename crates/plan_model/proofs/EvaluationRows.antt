-- Values of expressions, and how values compare.
use Rattle.std.proofs.Common.{◌≡◌, refl, ℕ, zero, suc, pos, negsuc, true, false, List, [], ◌∷◌, Some, Ok, Err, codes}
use Rattle.uno_model.specs.Codes.{same_kind}
use Rattle.uno_model.specs.Kinds as kd
use Rattle.uno_model.specs.Values.{Plain, null, own, peer, depth, depth_in}
use Rattle.uno_model.specs.Values as v
use Rattle.uno_model.specs.Weights.{weight, weights}
use Rattle.plan_model.specs.Evaluation.{Scene, value_under, bytes_of, value_of, values_of, is_heavy, is_deep, evaluated, same_value, same_values, compares}
use Rattle.plan_model.specs.Expressions.{Expression, variable, field, constant, word, operation, any, list, bytes, none, more}
use Rattle.plan_model.specs.Expressions as expression
use Rattle.plan_model.specs.declared.comparison.Comparison.TheVariants.{Equal, Less}
use Rattle.plan_model.specs.declared.operation.Operation.TheVariants.{Add, Sub}
use Rattle.plan_model.specs.declared.runtime_cause.RuntimeCause.TheVariants.{Range, TooDeep}

-- a value in so many sequences of anys
unfoldable nested : ℕ → Plain
nested zero = v.long (pos 1)
nested (suc n) = v.list kd.any (v.more (nested n) v.none)

abbrev object : List ℕ → Plain
object face = v.ref (peer (codes "C;1") face)

abbrev scene : Plain → Scene
scene a =
    record {
      variables = record { name = codes "a"; value = a } ∷ [];
      fields = record { name = codes "n"; value = v.byte (pos 127) } ∷ [];
      own = own (codes "S;1") (codes "demo.XNode");
    }

abbrev a_word : Expression
a_word = word (variable (codes "a"))

-- $a, $.n and $self
variable_row : value_of (scene (v.long (pos 5))) a_word ≡ Some (v.long (pos 5))
unfolding value_of value_under
variable_row = refl

field_row : value_of (scene v.void) (word (field (codes "n"))) ≡ Some (v.byte (pos 127))
unfolding value_of value_under
field_row = refl

own_row : value_of (scene v.void) (word expression.own) ≡ Some (v.ref (own (codes "S;1") (codes "demo.XNode")))
unfolding value_of
own_row = refl

-- each operation in an expression has to have a result
inner_range_row : evaluated (scene (v.long (pos 2147483647))) (operation Sub (operation Add a_word (constant (v.long (pos 1)))) (constant (v.long (pos 1)))) ≡ Err Range
unfolding evaluated value_of value_under
inner_range_row = refl

unsigned_row : evaluated (scene (v.unsigned_short 0)) (operation Sub a_word (constant (v.unsigned_short 1))) ≡ Err Range
unfolding evaluated value_of value_under
unsigned_row = refl

least_hyper_row : evaluated (scene (v.hyper (negsuc 9223372036854775806))) (operation Sub a_word (constant (v.hyper (pos 1)))) ≡ Ok (v.hyper (negsuc 9223372036854775807))
unfolding evaluated value_of value_under is_heavy is_deep weight depth
least_hyper_row = refl

-- bytes in a sequence, of which a negative one is the byte above 127 that it is
bytes_row : evaluated (scene v.void) (bytes (more (word (field (codes "n"))) (more (constant (v.byte (negsuc 0))) none))) ≡ Ok (v.bytes (127 ∷ (255 ∷ [])))
unfolding evaluated value_of values_of value_under bytes_of is_heavy is_deep weight depth
bytes_row = refl

bytes_range_row : evaluated (scene v.void) (bytes (more (operation Add (word (field (codes "n"))) (constant (v.byte (pos 1)))) none)) ≡ Err Range
unfolding evaluated value_of values_of value_under
bytes_range_row = refl

-- what a word brings in is nested too deep
flat_row : evaluated (scene (nested 62)) (list kd.any (more a_word none)) ≡ Ok (nested 63)
unfolding evaluated value_of values_of value_under is_heavy is_deep weight weights depth depth_in nested
flat_row = refl

deep_row : evaluated (scene (nested 63)) (list kd.any (more a_word (more a_word none))) ≡ Err TooDeep
unfolding evaluated value_of values_of value_under is_heavy is_deep weight weights depth depth_in nested
deep_row = refl

-- references are equal where they are of one object, and null equals null
one_object_row : compares Equal (object (codes "demo.XNode")) (object (codes "demo.XEcho")) ≡ true
unfolding same_value
one_object_row = refl

null_row : compares Equal (v.ref null) (v.ref null) ≡ true
unfolding same_value
null_row = refl

other_object_row : compares Equal (object (codes "demo.XNode")) (v.ref null) ≡ false
unfolding same_value
other_object_row = refl

-- anys of two types differ, whatever they hold
other_any_row : compares Equal (v.any kd.long (v.long (pos 5))) (v.any kd.short (v.short (pos 5))) ≡ false
unfolding same_value same_kind
other_any_row = refl

members_row : compares Equal (v.tuple (codes "p") (v.more (v.long (pos 1)) (v.more (v.str (codes "a")) v.none))) (v.tuple (codes "p") (v.more (v.long (pos 1)) (v.more (v.str (codes "b")) v.none)))
    ≡ false
unfolding same_value same_values
members_row = refl

less_row : compares Less (v.long (negsuc 0)) (v.long (pos 0)) ≡ true
less_row = refl

not_less_row : compares Less (v.unsigned_hyper 18446744073709551615) (v.unsigned_hyper 0) ≡ false
not_less_row = refl
