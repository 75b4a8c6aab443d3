-- The expression of a number has that number as its value, uses no name, and leads to no constant.
use Rattle.std.proofs.Common.{◌≡◌, ℕ, zero, suc, ◌^◌, ℤ, pos, negsuc, Bool, true, false, nat_le, nat_lt, int_le, List, [], length, Option, Some, Ok, refl, ap}
use Rattle.std.proofs.Common.{arith}
use Rattle.std.proofs.lemmas.Bool.{and_parts, both_ways}
use Rattle.std.proofs.lemmas.Bool.Decides.{nat_tests}
use Rattle.std.specs.Option.{option_and_then}
use Rattle.std.specs.Result.{result_ok}
use Rattle.registry_text_model.specs.ConstantValues.{is_in_range}
use Rattle.registry_text_model.specs.EnumValues.{is_between, is_long}
use Rattle.uno_model.specs.Kinds.{Kind}
use Rattle.uno_model.specs.Kinds as kd
use Rattle.idl_model.specs.Trees.{Path}
use Rattle.idl_model.specs.Places.{is_at}
use Rattle.idl_model.specs.Values.{is_wide, sign_applied, signs_applied, value}
use Rattle.idl_meaning_model.specs.ConstantsMeant.{leads_to_valued, origin_value, value_within, value_meant}
use Rattle.idl_meaning_model.specs.Declarations.{Valued, Scope, Origin, expression}
use Rattle.idl_meaning_model.specs.Scopes.{constant_named}
use Rattle.idl_meaning_model.specs.Uses.{expr_paths}
use Rattle.idl_rules_model.specs.Circles.{comes_to, value_comes_back}
use Rattle.canonical_laws.specs.Written.{expression_of}

-- ---- numbers of 128 bits

below_bound : (k m bound : ℕ) → nat_le k m ≡ true → nat_lt m bound ≡ true → nat_lt k bound ≡ true
below_bound k m bound first second = grind (arith, nat_tests)

wide_between : (least most n : ℤ) → is_wide least ≡ true → is_wide most ≡ true → is_between least most n ≡ true → is_wide n ≡ true
wide_between least (pos m) (pos k) low high between = below_bound k m (2 ^ 127) (and_parts (int_le least (pos k)) (int_le (pos k) (pos m)) between).1 high
wide_between least (negsuc m) (pos k) low high between = absurd (both_ways false refl (and_parts (int_le least (pos k)) (int_le (pos k) (negsuc m)) between).1)
wide_between (pos l) most (negsuc k) low high between = absurd (both_ways false refl (and_parts (int_le (pos l) (negsuc k)) (int_le (negsuc k) most) between).0)
wide_between (negsuc l) most (negsuc k) low high between =
    below_bound k l (2 ^ 127) (and_parts (int_le (negsuc l) (negsuc k)) (int_le (negsuc k) most) between).0 low

pub long_is_wide : (n : ℤ) → is_long n ≡ true → is_wide n ≡ true
long_is_wide n long = wide_between (negsuc 2147483647) (pos 2147483647) n refl refl long

pub ranged_is_wide : (k : Kind) (n : ℤ) → is_in_range k n ≡ true → is_wide n ≡ true
ranged_is_wide kd.boolean n within = wide_between (pos 0) (pos 1) n refl refl within
ranged_is_wide kd.byte n within = wide_between (negsuc 127) (pos 127) n refl refl within
ranged_is_wide kd.short n within = wide_between (negsuc 32767) (pos 32767) n refl refl within
ranged_is_wide kd.unsigned_short n within = wide_between (pos 0) (pos 65535) n refl refl within
ranged_is_wide kd.long n within = long_is_wide n within
ranged_is_wide kd.unsigned_long n within = wide_between (pos 0) (pos 4294967295) n refl refl within
ranged_is_wide kd.hyper n within = wide_between (negsuc 9223372036854775807) (pos 9223372036854775807) n refl refl within
ranged_is_wide kd.unsigned_hyper n within = wide_between (pos 0) (pos 18446744073709551615) n refl refl within
ranged_is_wide _ n within = absurd (both_ways false refl within)

-- ---- the value

pub no_paths : (n : ℤ) → expr_paths (expression_of n) ≡ []
unfolding expr_paths
no_paths (pos n) = refl
no_paths (negsuc n) = refl

pub literal_value : (names : Path → Option ℤ) (n : ℤ) → is_wide n ≡ true → value names (expression_of n) ≡ Ok n
unfolding value signs_applied sign_applied
literal_value names (pos n) wide = refl
literal_value names (negsuc n) wide = rw wide refl

-- ---- a constant or item of a number

ends_at_once : {X : Type 0} (next : X → List X) (wanted : X → Bool) (steps : ℕ) (a : X) → next a ≡ [] → comes_to next wanted steps a ≡ false
unfolding comes_to
ends_at_once next wanted zero a none = refl
ends_at_once next wanted (suc steps) a none = rw none refl

value_of_origin : (inner : Valued → Option ℤ) (vs : List Valued) (scope : Scope) (o : Origin) (n : ℤ) → o ≡ expression (expression_of n) → is_wide n ≡ true
    → origin_value inner vs scope o ≡ Some n
value_of_origin inner vs scope o n is wide = rw is (ap result_ok (literal_value (λ path. option_and_then inner (constant_named vs scope path)) n wide))

module _ (vs : List Valued) (v : Valued) (n : ℤ) (literal : v.origin ≡ expression (expression_of n)) where
  pub leads_nowhere : leads_to_valued vs v ≡ []
  unfolding leads_to_valued
  leads_nowhere = rw (literal, no_paths n) refl

  pub never_back : value_comes_back vs v ≡ false
  unfolding value_comes_back
  never_back = ends_at_once (leads_to_valued vs) (λ other. is_at other.name.place v.name.place) (length vs) v leads_nowhere

  pub value_is : is_wide n ≡ true → value_meant vs v ≡ Some n
  unfolding value_meant value_within
  value_is wide = value_of_origin (value_within (length vs) vs) vs v.scope v.origin n literal wide
