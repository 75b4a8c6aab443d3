-- Variables, and the values of expressions one after the other.
use Rattle.std.proofs.Common.{◌≡◌, ℕ, ◌+◌, ◌<◌, ◌≤◌, true, false, List, [], ◌∷◌, ◌++◌, length, map, drop, get_or, Option, None, Some, refl, sym, ap, ◌∙◌}
use Rattle.std.specs.Option.{option_map}
use Rattle.std.specs.Str.{bytes_eq}
use Rattle.std.proofs.lemmas.List.{append_assoc, append-nil, drop_all, map_push}
use Rattle.uno_model.specs.Values.{Plain, Plains, plains, none, more, void}
use Rattle.plan_model.specs.Evaluation.{Scene, value_under, value_of, values_of, bytes_of, byte_of, both_values}
use Rattle.plan_types.specs.Expressions.{expression_of, expressions_of}
use Rattle.plan_types.specs.Frames.{variables_of}
use Rattle.plan_types.specs.declared.expression.Expression.{Expression}
use Rattle.plan_types.specs.declared.frame.Variable.{Variable}
use Rattle.uno_values.proofs.Parts.{part_at}
use Rattle.uno_values.specs.Values.{plain_of, plains_of}
use Rattle.uno_values.specs.declared.value.Value.{Value}

-- ---- variables

-- the variable at a place has another name
pub name_behind : (name : List ℕ) (xs : List Variable) (i : ℕ) (x : Variable) (whole : Plain) → i < length xs → x ≡ get_or xs i x → bytes_eq name x.name ≡ false
    → value_under name (variables_of (drop i xs)) ≡ whole → value_under name (variables_of (drop (i + 1) xs)) ≡ whole
unfolding value_under
name_behind name xs i x whole within is other all = rw other at (rw (part_at xs i x within is) at all)

-- it has the name
pub name_here : (name : List ℕ) (xs : List Variable) (i : ℕ) (x : Variable) (whole : Plain) → i < length xs → x ≡ get_or xs i x → bytes_eq name x.name ≡ true
    → value_under name (variables_of (drop i xs)) ≡ whole → plain_of x.value ≡ whole
unfolding value_under
name_here name xs i x whole within is same all = rw same at (rw (part_at xs i x within is) at all)

-- none has it
pub name_nowhere : (name : List ℕ) (xs : List Variable) (i : ℕ) (whole : Plain) → length xs ≤ i → value_under name (variables_of (drop i xs)) ≡ whole → void ≡ whole
unfolding value_under
name_nowhere name xs i whole past all = rw (drop_all i xs past) at all

-- ---- values

-- values in front of parts
abbrev pub joined : List Plain → Plains → Plains
joined [] ps = ps
joined (x ∷ xs) ps = more x (joined xs ps)

joined_more : (xs : List Plain) (x : Plain) (ps : Plains) → joined (xs ++ x ∷ []) ps ≡ joined xs (more x ps)
joined_more [] x ps = refl
joined_more (y ∷ xs) x ps = ap (more y) (joined_more xs x ps)

joined_none : (xs : List Plain) → joined xs none ≡ plains xs
joined_none [] = refl
joined_none (x ∷ xs) = ap (more x) (joined_none xs)

-- with the first value, in front of the others
with_first : (xs : List Plain) (x : Plain) (rest : Option Plains)
    → option_map (joined (xs ++ x ∷ [])) rest ≡ option_map (joined xs) (both_values (Some x) rest (λ y ys. Some (more y ys)))
with_first xs x None = refl
with_first xs x (Some ps) = ap Some (joined_more xs x ps)

pub value_more : (s : Scene) (es : List Expression) (i : ℕ) (e : Expression) (o : Option Value) (x : Value) (xs ys : List Value) (whole : Option Plains) → i < length es → e ≡ get_or es i e
    → option_map plain_of o ≡ value_of s (expression_of e) → o ≡ Some x → ys ≡ xs ++ x ∷ []
    → option_map (joined (map plain_of xs)) (values_of s (expressions_of (drop i es))) ≡ whole → option_map (joined (map plain_of ys)) (values_of s (expressions_of (drop (i + 1) es))) ≡ whole
unfolding values_of
value_more s es i e o x xs ys whole within is value some pushed all =
    let told : value_of s (expression_of e) ≡ Some (plain_of x) = sym value ∙ ap (option_map plain_of) some in
    let here = rw told at (rw (part_at es i e within is) at all) in
    rw (pushed, map_push plain_of xs x) (with_first (map plain_of xs) (plain_of x) (values_of s (expressions_of (drop (i + 1) es))) ∙ here)

-- all have values
pub values_done : (s : Scene) (es : List Expression) (i : ℕ) (xs : List Value) (whole : Option Plains) → length es ≤ i
    → option_map (joined (map plain_of xs)) (values_of s (expressions_of (drop i es))) ≡ whole → Some (plains_of xs) ≡ whole
unfolding values_of
values_done s es i xs whole past all = let here = rw (drop_all i es past) at all in ap Some (sym (joined_none (map plain_of xs))) ∙ here

-- ---- bytes

pub byte_more : (vs : List Value) (i : ℕ) (v : Value) (b : ℕ) (old new whole : List ℕ) → i < length vs → v ≡ get_or vs i v → b ≡ byte_of (plain_of v) → new ≡ old ++ b ∷ []
    → old ++ bytes_of (plains_of (drop i vs)) ≡ whole → new ++ bytes_of (plains_of (drop (i + 1) vs)) ≡ whole
unfolding bytes_of
byte_more vs i v b old new whole within is told pushed all = let here = rw (part_at vs i v within is, ← told) at all in rw (pushed, append_assoc) here

pub bytes_done : (vs : List Value) (i : ℕ) (bytes whole : List ℕ) → length vs ≤ i → bytes ++ bytes_of (plains_of (drop i vs)) ≡ whole → bytes ≡ whole
unfolding bytes_of
bytes_done vs i bytes whole past all = let here = rw (drop_all i vs past) at all in sym (append-nil bytes) ∙ here
