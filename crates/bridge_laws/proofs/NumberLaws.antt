-- Numbers of objects in lists: behind a new object, other fields, and an object that goes.
use Rattle.std.proofs.Common.{◌≡◌, refl, sym, ap, ◌∙◌, ℕ, ◌+◌, ◌≤◌, Bool, true, false, not, cond, ◌==◌, if◌then◌else◌, List, [], ◌∷◌, ◌++◌, filter, find, Option, None, Some, arith, eqb-true}
use Rattle.uno_model.specs.Values.{Plain}
use Rattle.bridge_model.specs.Objects.{object_numbered, with_fields, without_object}
use Rattle.bridge_model.specs.Sides.{Object}
use Rattle.bridge_laws.specs.Numbers.{living_with, behaviour_in, behaviour_numbered}

abbrev pub has_number : ℕ → Object → Bool
has_number n o = n == o.number

-- ---- a new object

pub many_push : (n : ℕ) (o : Object) (os : List Object) → living_with n (os ++ o ∷ []) ≡ living_with n os + cond (n == o.number) 1 0
many_push n o [] = omega arith
many_push n o (p ∷ os) = let rest = many_push n o os in omega arith

push_step : (n k : ℕ) (b : Bool) (p : Object) (now os : Option Object) → (behaviour_in now ≡ Some k → behaviour_in os ≡ Some k)
    → behaviour_in (cond b (Some p) now) ≡ Some k → behaviour_in (cond b (Some p) os) ≡ Some k
push_step n k true p now os more is = is
push_step n k false p now os more is = more is

-- an object with another number changes nothing
pub push_other : (n k : ℕ) (o : Object) (os : List Object) → (n == o.number) ≡ false → behaviour_numbered n (os ++ o ∷ []) ≡ Some k → behaviour_numbered n os ≡ Some k
unfolding object_numbered
push_other n k o [] other is = let none : behaviour_in (cond (n == o.number) (Some o) None) ≡ None = ap (λ b. behaviour_in (cond b (Some o) None)) other in absurd (cc)
push_other n k o (p ∷ os) other is =
    push_step n k (n == p.number) p (find (λ o. n == o.number) (os ++ o ∷ [])) (find (λ o. n == o.number) os) (push_other n k o os other) is

-- ---- other fields

fields_step : (n m : ℕ) (b : Bool) (fields : List Plain) (o : Object) (now os : List Object) → living_with n now ≡ living_with n os
    → living_with n (if b then record o { fields = fields } ∷ os else o ∷ now) ≡ living_with n (o ∷ os)
fields_step n m true fields o now os rest = refl
fields_step n m false fields o now os rest = ap (λ k. cond (n == o.number) 1 0 + k) rest

pub many_fields : (n m : ℕ) (fields : List Plain) (os : List Object) → living_with n (with_fields m fields os) ≡ living_with n os
unfolding with_fields
many_fields n m fields [] = refl
many_fields n m fields (o ∷ os) = fields_step n m (m == o.number) fields o (with_fields m fields os) os (many_fields n m fields os)

either_fields : (b : Bool) (fields : List Plain) (o : Object) (now os : Option Object) → behaviour_in now ≡ behaviour_in os
    → behaviour_in (cond b (Some (record o { fields = fields })) now) ≡ behaviour_in (cond b (Some o) os)
either_fields true fields o now os same = refl
either_fields false fields o now os same = same

found_fields : (n m : ℕ) (b : Bool) (fields : List Plain) (o : Object) (now os : List Object) → behaviour_numbered n now ≡ behaviour_numbered n os
    → behaviour_numbered n (if b then record o { fields = fields } ∷ os else o ∷ now) ≡ behaviour_numbered n (o ∷ os)
unfolding object_numbered
found_fields n m true fields o now os same = either_fields (n == o.number) fields o (find (λ o. n == o.number) os) (find (λ o. n == o.number) os) refl
found_fields n m false fields o now os same = either_fields (n == o.number) o.fields o (find (λ o. n == o.number) now) (find (λ o. n == o.number) os) same

-- behaviours stay
pub same_fields : (n m : ℕ) (fields : List Plain) (os : List Object) → behaviour_numbered n (with_fields m fields os) ≡ behaviour_numbered n os
unfolding with_fields
same_fields n m fields [] = refl
same_fields n m fields (o ∷ os) = found_fields n m (m == o.number) fields o (with_fields m fields os) os (same_fields n m fields os)

-- ---- an object that goes

gone_many : (n : ℕ) (b : Bool) (o : Object) (kept os : List Object) → living_with n kept ≤ living_with n os → living_with n (if b then o ∷ kept else kept) ≤ living_with n (o ∷ os)
gone_many n true o kept os rest = omega arith
gone_many n false o kept os rest = omega arith

pub many_gone : (n m : ℕ) (os : List Object) → living_with n (without_object m os) ≤ living_with n os
unfolding without_object
many_gone n m [] = omega arith
many_gone n m (o ∷ os) = gone_many n (not (m == o.number)) o (filter (λ o. not (m == o.number)) os) os (many_gone n m os)

none_step : (m k : ℕ) (b : Bool) (o : Object) (kept : List Object) → (m == o.number) ≡ b → behaviour_numbered m kept ≡ None
    → behaviour_numbered m (if not b then o ∷ kept else kept) ≡ None
unfolding object_numbered
none_step m k true o kept is rest = rest
none_step m k false o kept is rest = ap (λ c. behaviour_in (cond c (Some o) (find (λ o. m == o.number) kept))) is ∙ rest

none_left : (m : ℕ) (os : List Object) → behaviour_numbered m (without_object m os) ≡ None
unfolding object_numbered without_object
none_left m [] = refl
none_left m (o ∷ os) = none_step m 0 (m == o.number) o (filter (λ o. not (m == o.number)) os) refl (none_left m os)

gone_step : (n m k : ℕ) (b c : Bool) (o : Object) (kept os : Option Object) → (n == o.number) ≡ c → (m == o.number) ≡ b → (n ≡ m → behaviour_in kept ≡ None)
    → (behaviour_in kept ≡ Some k → behaviour_in os ≡ Some k) → behaviour_in (if not b then cond c (Some o) kept else kept) ≡ Some k → behaviour_in (cond c (Some o) os) ≡ Some k
gone_step n m k true true o kept os here there none more is =
    let same : n ≡ m = eqb-true n o.number here ∙ sym (eqb-true m o.number there) in let gone = none same in absurd (cc)
gone_step n m k true false o kept os here there none more is = more is
gone_step n m k false true o kept os here there none more is = is
gone_step n m k false false o kept os here there none more is = more is

found_if : (n : ℕ) (b : Bool) (o : Object) (kept : List Object) → behaviour_numbered n (if b then o ∷ kept else kept)
    ≡ behaviour_in (if b then cond (n == o.number) (Some o) (find (λ o. n == o.number) kept) else find (λ o. n == o.number) kept)
unfolding object_numbered
found_if n true o kept = refl
found_if n false o kept = refl

-- the others keep their behaviours
pub left_behind : (n m k : ℕ) (os : List Object) → behaviour_numbered n (without_object m os) ≡ Some k → behaviour_numbered n os ≡ Some k
unfolding object_numbered without_object
left_behind n m k [] is = is
left_behind n m k (o ∷ os) is =
    gone_step n m k (m == o.number) (n == o.number) o (find (λ o. n == o.number) (filter (λ o. not (m == o.number)) os)) (find (λ o. n == o.number) os) refl refl
    (λ same. ap (λ j. behaviour_numbered j (without_object m os)) same ∙ none_left m os)
    (left_behind n m k os)
    (sym (found_if n (not (m == o.number)) o (filter (λ o. not (m == o.number)) os)) ∙ is)
