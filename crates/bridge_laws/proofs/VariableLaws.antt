-- What references count in variables and fields, before and behind what effects and answers do to them.
use Rattle.std.proofs.Common.{◌≡◌, ℕ, ◌+◌, ◌≤◌, Bool, true, false, not, if◌then◌else◌, List, [], ◌∷◌, Option, None, Some, refl, arith}
use Rattle.std.specs.Str.{bytes_eq}
use Rattle.message_model.specs.Calls.{goes}
use Rattle.uno_model.specs.Entities.{Entity, Field, Param}
use Rattle.uno_model.specs.Kinds as kd
use Rattle.uno_model.specs.Reaches.{is_base_of}
use Rattle.uno_model.specs.Values.{Ref, null, own, peer, Plain, refs}
use Rattle.uno_model.specs.Values as v
use Rattle.uno_model.proofs.DefaultLaws.{default_holds_none}
use Rattle.plan_model.specs.Evaluation.{value_under}
use Rattle.plan_model.specs.Expressions.{Argument, into, out, both}
use Rattle.plan_model.specs.Frames.{Variable}
use Rattle.plan_model.specs.Holdings.{put, without, with_variable, refs_under, first_value, behind_argument, first_variables, Taken, takes, takes_outs, takes_result, takes_answer, reference_of, is_taken, takes_reference}
use Rattle.plan_model.specs.Statements.{Call}
use Rattle.bridge_model.specs.Objects.{as_variables, field_values}
use Rattle.bridge_model.specs.References.{refs_of_values}
use Rattle.bridge_laws.specs.Counting.{total}
use Rattle.bridge_laws.proofs.Sums.{total_append}

-- ---- one more

pub under_more : (f : Ref → ℕ) (x : Variable) (xs : List Variable) → total f (refs_under (x ∷ xs)) ≡ total f (refs x.value) + total f (refs_under xs)
unfolding refs_under
under_more f x xs = total_append f (refs x.value) (refs_under xs)

pub values_more : (f : Ref → ℕ) (x : Plain) (xs : List Plain) → total f (refs_of_values (x ∷ xs)) ≡ total f (refs x) + total f (refs_of_values xs)
unfolding refs_of_values
values_more f x xs = total_append f (refs x) (refs_of_values xs)

pub under_none : (f : Ref → ℕ) → total f (refs_under []) ≡ 0
unfolding refs_under total
under_none f = refl

pub values_none : (f : Ref → ℕ) → total f (refs_of_values []) ≡ 0
unfolding refs_of_values total
values_none f = refl

void_none : (f : Ref → ℕ) → total f (refs v.void) ≡ 0
unfolding refs total
void_none f = refl

pub with_variable_owes : (f : Ref → ℕ) (name : List ℕ) (x : Plain) (xs : List Variable) → total f (refs_under (with_variable name x xs)) ≡ total f (refs_under xs) + total f (refs x)
with_variable_owes f name x [] = let here = under_more f (record { name = name; value = x }) [] in omega arith
with_variable_owes f name x (y ∷ ys) =
    let front = under_more f y ys in let more = under_more f y (with_variable name x ys) in let rest = with_variable_owes f name x ys in omega arith

-- ---- another value under a name

put_step : (f : Ref → ℕ) (b : Bool) (x : Plain) (y : Variable) (new ys : List Variable) (old : Plain)
    → total f (refs_under new) + total f (refs old) ≤ total f (refs_under ys) + total f (refs x)
    → total f (refs_under (if b then record { name = y.name; value = x } ∷ ys else y ∷ new)) + total f (refs (if b then y.value else old)) ≤ total f (refs_under (y ∷ ys)) + total f (refs x)
put_step f true x y new ys old rest = let before = under_more f y ys in let after = under_more f (record { name = y.name; value = x }) ys in omega arith
put_step f false x y new ys old rest = let before = under_more f y ys in let after = under_more f y new in omega arith

-- the new value is gained, and what it replaces let go
pub put_owes : (f : Ref → ℕ) (name : List ℕ) (x : Plain) (xs : List Variable)
    → total f (refs_under (put name x xs)) + total f (refs (value_under name xs)) ≤ total f (refs_under xs) + total f (refs x)
unfolding put value_under
put_owes f name x [] = let nothing = under_none f in let void = void_none f in omega arith
put_owes f name x (y ∷ ys) = put_step f (bytes_eq name y.name) x y (put name x ys) ys (value_under name ys) (put_owes f name x ys)

without_step : (f : Ref → ℕ) (b : Bool) (y : Variable) (kept ys : List Variable) (old : Plain)
    → total f (refs_under kept) + total f (refs old) ≤ total f (refs_under ys)
    → total f (refs_under (if not b then y ∷ kept else kept)) + total f (refs (if b then y.value else old)) ≤ total f (refs_under (y ∷ ys))
without_step f true y kept ys old rest = let before = under_more f y ys in omega arith
without_step f false y kept ys old rest = let before = under_more f y ys in let after = under_more f y kept in omega arith

-- a variable goes, and what it had is let go
pub without_owes : (f : Ref → ℕ) (name : List ℕ) (xs : List Variable) → total f (refs_under (without name xs)) + total f (refs (value_under name xs)) ≤ total f (refs_under xs)
unfolding value_under
without_owes f name [] = let nothing = under_none f in let void = void_none f in omega arith
without_owes f name (y ∷ ys) = without_step f (bytes_eq name y.name) y (without name ys) ys (value_under name ys) (without_owes f name ys)

-- ---- parameters

first_step : (f : Ref → ℕ) (reg : List Entity) (b : Bool) (p : Param) (args : List Plain) → goes p.way ≡ b
    → total f (refs (first_value reg p args)) + total f (refs_of_values (behind_argument p args)) ≤ total f (refs_of_values args)
unfolding total
first_step f reg true p [] is = rw is (let void = void_none f in let nothing = values_none f in omega arith)
first_step f reg true p (x ∷ xs) is = rw is (let parts = values_more f x xs in omega arith)
first_step f reg false p args is = rw (is, default_holds_none reg p.kind) (omega arith)

-- a method that begins has what its arguments have
pub first_variables_owe : (f : Ref → ℕ) (reg : List Entity) (ps : List Param) (args : List Plain) → total f (refs_under (first_variables reg ps args)) ≤ total f (refs_of_values args)
unfolding first_variables
first_variables_owe f reg [] args = let nothing = under_none f in omega arith
first_variables_owe f reg (p ∷ ps) args =
    let here = first_step f reg (goes p.way) p args refl in
    let rest = first_variables_owe f reg ps (behind_argument p args) in
    let parts = under_more f (record { name = p.name; value = first_value reg p args }) (first_variables reg ps (behind_argument p args)) in omega arith

-- ---- answers

-- variables, and what is let go for them
abbrev pub taken_owes : (Ref → ℕ) → Taken → ℕ
taken_owes f t = total f (refs_under t.variables) + total f t.let_go

takes_owe : (f : Ref → ℕ) (name : List ℕ) (x : Plain) (t : Taken) → taken_owes f (takes name x t) ≤ taken_owes f t + total f (refs x)
takes_owe f name x t = let placed = put_owes f name x t.variables in let gone = total_append f t.let_go (refs (value_under name t.variables)) in omega arith

takes_outs_owe : (f : Ref → ℕ) (args : List Argument) (xs : List Plain) (t : Taken) → taken_owes f (takes_outs args xs t) ≤ taken_owes f t + total f (refs_of_values xs)
unfolding takes_outs
takes_outs_owe f [] xs t = omega arith
takes_outs_owe f (into a ∷ args) xs t = takes_outs_owe f args xs t
takes_outs_owe f (out name ∷ args) [] t = omega arith
takes_outs_owe f (out name ∷ args) (x ∷ xs) t =
    let here = takes_owe f name x t in let rest = takes_outs_owe f args xs (takes name x t) in let parts = values_more f x xs in omega arith
takes_outs_owe f (both name ∷ args) [] t = omega arith
takes_outs_owe f (both name ∷ args) (x ∷ xs) t =
    let here = takes_owe f name x t in let rest = takes_outs_owe f args xs (takes name x t) in let parts = values_more f x xs in omega arith

takes_result_owes : (f : Ref → ℕ) (to : Option Field) (x : Plain) (xs : List Variable) → taken_owes f (takes_result to x xs) ≡ total f (refs_under xs) + total f (refs x)
unfolding total
takes_result_owes f None x xs = refl
takes_result_owes f (Some to) x xs = let more = with_variable_owes f to.name x xs in omega arith

pub takes_answer_owes : (f : Ref → ℕ) (c : Call) (x : Plain) (outs : List Plain) (xs : List Variable)
    → taken_owes f (takes_answer c x outs xs) ≤ total f (refs_under xs) + (total f (refs x) + total f (refs_of_values outs))
unfolding takes_answer
takes_answer_owes f c x outs xs = let result = takes_result_owes f c.to x xs in let rest = takes_outs_owe f c.arguments outs (takes_result c.to x xs) in omega arith

reference_by_test : (f : Ref → ℕ) (b : Bool) (r : Ref) → total f (refs (v.ref (if b then r else null))) + total f (if b then [] else refs (v.ref r)) ≤ total f (refs (v.ref r))
unfolding refs total
reference_by_test f true r = omega arith
reference_by_test f false r = omega arith

reference_owes : (f : Ref → ℕ) (reg : List Entity) (wanted : List ℕ) (x : Plain)
    → total f (refs (v.ref (reference_of reg wanted x))) + total f (if is_taken reg wanted x then [] else refs x) ≤ total f (refs x)
unfolding refs total
reference_owes f reg wanted (v.any (kd.interface face) (v.ref r)) = reference_by_test f (is_base_of reg wanted face) r
reference_owes f reg wanted x = omega arith

-- the answer to a query becomes a variable, or is let go
pub takes_reference_owes : (f : Ref → ℕ) (reg : List Entity) (wanted to : List ℕ) (x : Plain) (xs : List Variable)
    → taken_owes f (takes_reference reg wanted to x xs) ≤ total f (refs_under xs) + total f (refs x)
unfolding takes_reference
takes_reference_owes f reg wanted to x xs =
    let more = with_variable_owes f to (v.ref (reference_of reg wanted x)) xs in let parts = reference_owes f reg wanted x in omega arith

-- where it is let go by a root, no more goes than it has
pub untaken_owes : (f : Ref → ℕ) (reg : List Entity) (wanted : List ℕ) (x : Plain) → total f (if is_taken reg wanted x then [] else refs x) ≤ total f (refs x)
untaken_owes f reg wanted x = let parts = reference_owes f reg wanted x in omega arith

-- ---- fields

pub field_values_owe : (f : Ref → ℕ) (xs : List Variable) → total f (refs_of_values (field_values xs)) ≡ total f (refs_under xs)
field_values_owe f [] = let left = values_none f in let right = under_none f in omega arith
field_values_owe f (x ∷ xs) =
    let left = values_more f x.value (field_values xs) in let right = under_more f x xs in let rest = field_values_owe f xs in omega arith

pub as_variables_owe : (f : Ref → ℕ) (fs : List Field) (xs : List Plain) → total f (refs_under (as_variables fs xs)) ≤ total f (refs_of_values xs)
unfolding as_variables
as_variables_owe f [] xs = let nothing = under_none f in omega arith
as_variables_owe f (n ∷ fs) [] = let nothing = under_none f in omega arith
as_variables_owe f (n ∷ fs) (x ∷ xs) =
    let left = under_more f (record { name = n.name; value = x }) (as_variables fs xs) in let right = values_more f x xs in let rest = as_variables_owe f fs xs in omega arith
