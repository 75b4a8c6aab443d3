-- The values of fields under their names, one after the other.
use Rattle.std.proofs.Common.{◌≡◌, ◌↔◌, refl, sym, ap, ◌∙◌, ℕ, ◌+◌, ◌<◌, ◌≤◌, min, nat_lt, Bool, true, false, List, [], ◌∷◌, ◌++◌, length, map, drop, get_or, arith}
use Rattle.std.proofs.lemmas.Bool.{ltb-true, ltb-false}
use Rattle.std.proofs.lemmas.List.{append-nil, append_assoc, at_drop_more, drop_all, map-append, length-map}
use Rattle.plan_model.specs.Frames as plain
use Rattle.plan_types.specs.Frames.{variable_of, variables_of}
use Rattle.plan_types.specs.declared.frame.Variable.{Variable}
use Rattle.uno_entities.specs.Entities.{field_of}
use Rattle.uno_entities.specs.declared.entity.Field.{Field}
use Rattle.uno_model.specs.Entities as entities
use Rattle.uno_model.specs.Values.{Plain}
use Rattle.uno_values.specs.Values.{plain_of}
use Rattle.uno_values.specs.declared.value.Value.{Value}
use Rattle.bridge_model.specs.Objects.{as_variables}

-- a value under the name of a field
abbrev pub named : Field → Value → plain.Variable
named f x = record { name = (field_of f).name; value = plain_of x }

abbrev pub all_named : List Field → List Value → List plain.Variable
all_named fs xs = as_variables (map field_of fs) (map plain_of xs)

-- one more behind others
pub pushed_field : (f : Field) (x : Value) (before now : List Variable) (y : Variable) → now ≡ before ++ y ∷ [] → y.name ≡ f.name → plain_of y.value ≡ plain_of x
    → variables_of now ≡ variables_of before ++ named f x ∷ []
pushed_field f x before now y pushed same_name same_value =
    let here : variable_of y ≡ named f x = (λ k. record { name = same_name k; value = same_value k }) in
    ap variables_of pushed ∙ map-append variable_of before (y ∷ []) ∙ ap (λ v. variables_of before ++ v ∷ []) here

no_values : (fs : List entities.Field) → as_variables fs [] ≡ []
unfolding as_variables
no_values [] = refl
no_values (f ∷ fs) = refl

length_variables : (fs : List entities.Field) (xs : List Plain) → length (as_variables fs xs) ≡ min (length fs) (length xs)
unfolding as_variables
length_variables [] xs = omega arith
length_variables (f ∷ fs) [] = omega arith
length_variables (f ∷ fs) (x ∷ xs) = let rest = length_variables fs xs in omega (arith, rest)

module _ (fs : List Field) (xs : List Value) where
  length_named : length (all_named fs xs) ≡ min (length fs) (length xs)
  length_named = length_variables (map field_of fs) (map plain_of xs) ∙ ap (λ n. min n (length (map plain_of xs))) (length-map fs field_of) ∙ ap (min (length fs)) (length-map xs plain_of)

  named_step : (i : ℕ) (f : Field) (x : Value) → i < length fs → i < length xs → f ≡ get_or fs i f → x ≡ get_or xs i x
      → all_named (drop i fs) (drop i xs) ≡ named f x ∷ all_named (drop (i + 1) fs) (drop (i + 1) xs)
  unfolding as_variables
  named_step i f x in_fs in_xs is_f is_x =
      at_drop_more (λ ys. all_named ys (drop i xs)) fs i f in_fs
      ∙ at_drop_more (λ ys. all_named (get_or fs i f ∷ drop (i + 1) fs) ys) xs i x in_xs
      ∙ ap (λ h. named h (get_or xs i x) ∷ all_named (drop (i + 1) fs) (drop (i + 1) xs)) (sym is_f)
      ∙ ap (λ y. named f y ∷ all_named (drop (i + 1) fs) (drop (i + 1) xs)) (sym is_x)

  -- behind the shorter of the two nothing is named
  nothing_left : (i : ℕ) → min (length fs) (length xs) ≤ i → all_named (drop i fs) (drop i xs) ≡ []
  unfolding as_variables
  nothing_left i past = by (nat_lt i (length fs)) refl
    where
      by : (b : Bool) → nat_lt i (length fs) ≡ b → all_named (drop i fs) (drop i xs) ≡ []
      by true less =
          let within = ltb-true i (length fs) less in
          let short : length xs ≤ i = omega (arith, past, within) in
          ap (λ ys. all_named (drop i fs) ys) (drop_all i xs short) ∙ no_values (map field_of (drop i fs))
      by false more = ap (λ ys. all_named ys (drop i xs)) (drop_all i fs (ltb-false i (length fs) more))

  -- one more is named
  pub named_next : (i : ℕ) (f : Field) (x : Value) (before now : List Variable) (all : List plain.Variable) → i < length fs → i < length xs → f ≡ get_or fs i f → x ≡ get_or xs i x
      → variables_of now ≡ variables_of before ++ named f x ∷ [] → variables_of before ++ all_named (drop i fs) (drop i xs) ≡ all
      → variables_of now ++ all_named (drop (i + 1) fs) (drop (i + 1) xs) ≡ all
  named_next i f x before now all in_fs in_xs is_f is_x pushed so =
      ap (λ ys. ys ++ all_named (drop (i + 1) fs) (drop (i + 1) xs)) pushed
      ∙ append_assoc (variables_of before) (named f x ∷ []) (all_named (drop (i + 1) fs) (drop (i + 1) xs))
      ∙ ap (λ ys. variables_of before ++ ys) (sym (named_step i f x in_fs in_xs is_f is_x))
      ∙ so

  -- and then all are
  pub named_done : (i : ℕ) (now : List Variable) (all : List plain.Variable) → min (length fs) (length xs) ≤ i → variables_of now ++ all_named (drop i fs) (drop i xs) ≡ all → variables_of now ≡ all
  named_done i now all past so = sym (append-nil (variables_of now)) ∙ ap (λ ys. variables_of now ++ ys) (sym (nothing_left i past)) ∙ so

  -- ---- whether variables are those

  module _ (ys : List Variable) where
    -- all are
    pub same_all : (i : ℕ) (W : Type 0) → min (length fs) (length xs) ≤ i → length ys ≤ i → (all_named (drop i fs) (drop i xs) ≡ variables_of (drop i ys) ↔ W) → (true ≡ true ↔ W)
    same_all i W past past_ys both = (λ _. both.0 (nothing_left i past ∙ sym (ap variables_of (drop_all i ys past_ys))), λ _. refl)

    -- or there are more or fewer of them
    pub other_length : (length ys ≡ min (length fs) (length xs) → ⊥) → (false ≡ true ↔ all_named fs xs ≡ variables_of ys)
    other_length other = (λ bad. absurd (cc), λ same. absurd (other (sym (length-map ys variable_of) ∙ sym (ap length same) ∙ length_named)))
