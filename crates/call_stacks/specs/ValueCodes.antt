-- A number tree for each value, from which the value can be read back, for a `Model` that keeps values.
use Rattle.std.specs.Prelude.{◌≡◌, refl, ℤ, pos, negsuc, Bool, true, false, cond, nat_eq, List, [], ◌∷◌, get_or}
use Rattle.uno_model.specs.Codes.{store_kind, kind_in, kind_back, store_name, name_in, name_back}
use Rattle.uno_model.specs.Values.{Ref, Plain, Plains}
use Rattle.uno_model.specs.Values as v
use base.Stored.{Gv, gnil, gnum, gcons, num, Coded}
use mathlib.Core.Path.{sym, ◌∙◌, ap}

-- the two parts of a pair
abbrev pub front : Gv → Gv
front gnil = gnil
front (gnum _) = gnil
front (gcons a b) = a

abbrev pub back : Gv → Gv
back gnil = gnil
back (gnum _) = gnil
back (gcons a b) = b

-- a whole number, a truth value and a reference, and what is read back of each
abbrev pub store_int : ℤ → Gv
store_int (pos n) = gcons (gnum 0) (gnum n)
store_int (negsuc n) = gcons (gnum 1) (gnum n)

abbrev pub int_in : Gv → ℤ
int_in g = cond (nat_eq (num (front g)) 0) (pos (num (back g))) (negsuc (num (back g)))

pub int_back : (n : ℤ) → int_in (store_int n) ≡ n
int_back (pos n) = refl
int_back (negsuc n) = refl

abbrev pub store_bool : Bool → Gv
store_bool true = gnum 1
store_bool false = gnum 0

abbrev pub bool_in : Gv → Bool
bool_in g = nat_eq (num g) 1

pub bool_back : (b : Bool) → bool_in (store_bool b) ≡ b
bool_back true = refl
bool_back false = refl

abbrev pub store_ref : Ref → Gv
store_ref v.null = gnum 0
store_ref (v.own oid face) = gcons (gnum 1) (gcons (store_name oid) (store_name face))
store_ref (v.peer oid face) = gcons (gnum 2) (gcons (store_name oid) (store_name face))

abbrev pub ref_in : Gv → Ref
ref_in g = get_or (v.null ∷ (v.own (name_in (front (back g))) (name_in (back (back g))) ∷ (v.peer (name_in (front (back g))) (name_in (back (back g))) ∷ []))) (num (front g)) v.null

pub ref_back : (r : Ref) → ref_in (store_ref r) ≡ r
ref_back v.null = refl
ref_back (v.own oid face) = λ i. v.own (name_back oid i) (name_back face i)
ref_back (v.peer oid face) = λ i. v.peer (name_back oid i) (name_back face i)

-- a tag and the part for each value
abbrev mutual
  pub store : Plain → Gv
  store v.void = gnum 0
  store (v.char n) = gcons (gnum 1) (gnum n)
  store (v.boolean b) = gcons (gnum 2) (store_bool b)
  store (v.byte n) = gcons (gnum 3) (store_int n)
  store (v.short n) = gcons (gnum 4) (store_int n)
  store (v.unsigned_short n) = gcons (gnum 5) (gnum n)
  store (v.long n) = gcons (gnum 6) (store_int n)
  store (v.unsigned_long n) = gcons (gnum 7) (gnum n)
  store (v.hyper n) = gcons (gnum 8) (store_int n)
  store (v.unsigned_hyper n) = gcons (gnum 9) (gnum n)
  store (v.str s) = gcons (gnum 10) (store_name s)
  store (v.kind k) = gcons (gnum 11) (store_kind k)
  store (v.any k x) = gcons (gnum 12) (gcons (store_kind k) (store x))
  store (v.enum name n) = gcons (gnum 13) (gcons (store_name name) (store_int n))
  store (v.tuple name xs) = gcons (gnum 14) (gcons (store_name name) (store_all xs))
  store (v.list k xs) = gcons (gnum 15) (gcons (store_kind k) (store_all xs))
  store (v.bytes b) = gcons (gnum 16) (store_name b)
  store (v.ref r) = gcons (gnum 17) (store_ref r)

  pub store_all : Plains → Gv
  store_all v.none = gnil
  store_all (v.more x xs) = gcons (store x) (store_all xs)

-- the value of each tag, whose part is a value or values
abbrev pub forms : Gv → Plain → Plains → List Plain
forms g x xs =
    v.void ∷ (v.char (num g) ∷ (v.boolean (bool_in g) ∷ (v.byte (int_in g) ∷ (v.short (int_in g) ∷ (v.unsigned_short (num g) ∷ (v.long (int_in g)
    ∷ (v.unsigned_long (num g) ∷ (v.hyper (int_in g) ∷ (v.unsigned_hyper (num g) ∷ (v.str (name_in g) ∷ (v.kind (kind_in g) ∷ (v.any (kind_in (front g)) x
    ∷ (v.enum (name_in (front g)) (int_in (back g)) ∷ (v.tuple (name_in (front g)) xs ∷ (v.list (kind_in (front g)) xs ∷ (v.bytes (name_in g)
    ∷ (v.ref (ref_in g) ∷ [])))))))))))))))))

-- what is read back of a value, of the second part of a pair, and of values
abbrev mutual
  pub plain_in : Gv → Plain
  plain_in gnil = v.void
  plain_in (gnum _) = v.void
  plain_in (gcons tag part) = get_or (forms part (inner part) (inners part)) (num tag) v.void

  pub inner : Gv → Plain
  inner gnil = v.void
  inner (gnum _) = v.void
  inner (gcons a b) = plain_in b

  pub inners : Gv → Plains
  inners gnil = v.none
  inners (gnum _) = v.none
  inners (gcons a b) = plains_in b

  pub plains_in : Gv → Plains
  plains_in gnil = v.none
  plains_in (gnum _) = v.none
  plains_in (gcons a b) = v.more (plain_in a) (plains_in b)

mutual
  pub plain_back : (x : Plain) → plain_in (store x) ≡ x
  plain_back v.void = refl
  plain_back (v.char n) = refl
  plain_back (v.boolean b) = ap v.boolean (bool_back b)
  plain_back (v.byte n) = ap v.byte (int_back n)
  plain_back (v.short n) = ap v.short (int_back n)
  plain_back (v.unsigned_short n) = refl
  plain_back (v.long n) = ap v.long (int_back n)
  plain_back (v.unsigned_long n) = refl
  plain_back (v.hyper n) = ap v.hyper (int_back n)
  plain_back (v.unsigned_hyper n) = refl
  plain_back (v.str s) = ap v.str (name_back s)
  plain_back (v.kind k) = ap v.kind (kind_back k)
  plain_back (v.any k x) = λ i. v.any (kind_back k i) (plain_back x i)
  plain_back (v.enum name n) = λ i. v.enum (name_back name i) (int_back n i)
  plain_back (v.tuple name xs) = λ i. v.tuple (name_back name i) (plains_back xs i)
  plain_back (v.list k xs) = λ i. v.list (kind_back k i) (plains_back xs i)
  plain_back (v.bytes b) = ap v.bytes (name_back b)
  plain_back (v.ref r) = ap v.ref (ref_back r)

  pub plains_back : (xs : Plains) → plains_in (store_all xs) ≡ xs
  plains_back v.none = refl
  plains_back (v.more x xs) = λ i. v.more (plain_back x i) (plains_back xs i)

-- the code of values
abbrev pub value_code : Coded Plain
value_code = record { code = store; inj = λ x y p. sym (plain_back x) ∙ ap plain_in p ∙ plain_back y }
