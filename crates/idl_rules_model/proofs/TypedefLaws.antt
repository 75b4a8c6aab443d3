-- Chains of typedefs: where no entity is on a circle each of them ends, and a typedef then means what its target means.
use Rattle.std.proofs.Common.{◌≡◌, ℕ, zero, suc, Bool, true, false, not, ◌&&◌, List, [], ◌∷◌, map, length, None, Some, Option, ◌⊎◌, inl, inr, refl, sym, ap, subst, ◌∙◌, arith, if◌then◌else◌}
use Rattle.std.proofs.lemmas.Bool.{and_parts}
use Rattle.std.proofs.lemmas.List.{length-map}
use Rattle.std.proofs.lemmas.Slice.Eq.{bytes_eq-Decides}
use Rattle.std.specs.List.{Contains, find, filter}
use Rattle.std.specs.Option.{option_map}
use Rattle.std.specs.Prelude.{unwrap_or}
use Rattle.std.specs.Str.{bytes_eq}
use Rattle.uno_model.specs.Circles.{Leads, step, on, HasNoCircle, ends_within}
use Rattle.uno_model.specs.Entities.{Entity}
use Rattle.uno_model.specs.Kinds.{Kind}
use Rattle.uno_model.specs.Kinds as kd
use Rattle.uno_model.specs.Sound.{is_there}
use Rattle.uno_model.proofs.CircleLaws.{ends_from, ends_no_circle, no_circle_ends}
use Rattle.registry_text_model.specs.NoCircles.{is_typedef, names_in, typedefs_in, leads_on, leads_on_to}
use Rattle.idl_model.specs.Trees.{Path, WrittenType, simple, named, sequence_of, Declaration}
use Rattle.idl_model.specs.Trees as tree
use Rattle.idl_meaning_model.specs.Declarations.{Declared, full_name, is_forward}
use Rattle.idl_meaning_model.specs.FromFiles.{leaf_places, are_apart}
use Rattle.idl_meaning_model.specs.Meaning.{name_meant, simple_meant, type_over, type_if, declared_type, type_of_declared, type_named, name_type, path_meant, type_meant, body_meant, registry_of}
use Rattle.idl_meaning_model.specs.NameFaults.{declared_twice}
use Rattle.idl_meaning_model.specs.Scopes.{declared_as}
use Rattle.idl_meaning_model.proofs.RegistryLaws.{found_of_declared}

module _ (ds : List Declared) where
  -- ---- the graph of typedefs

  -- the name in a type, below all its sequences
  abbrev pub head_names : List (List ℕ) → WrittenType → List (List ℕ)
  head_names modules (simple p s) = []
  head_names modules (named path ts) = name_meant ds modules path ∷ []
  head_names modules (sequence_of p t) = head_names modules t

  abbrev pub targets_in : Declared → Declaration → List (List ℕ)
  targets_in d (tree.typedef t) = head_names d.modules t
  targets_in d _ = []

  abbrev pub targets_of : Option Declared → List (List ℕ)
  targets_of None = []
  targets_of (Some d) = targets_in d d.body

  unfoldable pub targets : List ℕ → List (List ℕ)
  targets name = targets_of (declared_as ds name)

  -- ---- a type that has a meaning

  -- what is made of an option is there where the option is
  inner_some : (f : Kind → Kind) (o : Option Kind) (k : Kind) → option_map f o ≡ Some k → (j : Kind) × (o ≡ Some j)
  inner_some f None k is = let bad : ⊥ = cc in absurd bad
  inner_some f (Some j) k is = (j, refl)

  -- each name in a type that has one has one
  type_has : (modules : List (List ℕ)) (meaning : List ℕ → Option Kind) (t : WrittenType) (k : Kind) → type_if (λ path. meaning (name_meant ds modules path)) t ≡ Some k
      → (name : List ℕ) → Contains (head_names modules t) name → (j : Kind) × (meaning name ≡ Some j)
  unfolding type_if
  type_has modules meaning (simple p s) k is name in' = let bad : ⊥ = omega (arith, in'.1) in absurd bad
  type_has modules meaning (named path ts) k is name (zero, low, here) = (k, subst (λ n. meaning n ≡ Some k) here is)
  type_has modules meaning (named path ts) k is name (suc i, low, here) = let bad : ⊥ = omega arith in absurd bad
  type_has modules meaning (sequence_of p t) k is name in' =
      let inner = inner_some kd.sequence (type_if (λ path. meaning (name_meant ds modules path)) t) k is in
      type_has modules meaning t inner.0 inner.1 name in'

  -- and a type has one where each name in it does
  pub type_from : (modules : List (List ℕ)) (meaning : List ℕ → Option Kind) (t : WrittenType) → ((name : List ℕ) → Contains (head_names modules t) name → (j : Kind) × (meaning name ≡ Some j))
      → (k : Kind) × (type_if (λ path. meaning (name_meant ds modules path)) t ≡ Some k)
  unfolding type_if
  type_from modules meaning (simple p s) each = (simple_meant s, refl)
  type_from modules meaning (named path ts) each = each (name_meant ds modules path) (0, omega arith, refl)
  type_from modules meaning (sequence_of p t) each =
      let inner = type_from modules meaning t each in
      (kd.sequence inner.0, ap (option_map kd.sequence) inner.1)

  -- two ways to mean that agree at each name in a type agree on the type
  pub type_same : (modules : List (List ℕ)) (meaning : List ℕ → Option Kind) (sure : List ℕ → Kind) (t : WrittenType) → ((name : List ℕ) → Contains (head_names modules t) name → meaning name ≡ Some (sure name))
      → type_if (λ path. meaning (name_meant ds modules path)) t ≡ Some (type_over (λ path. sure (name_meant ds modules path)) t)
  unfolding type_if type_over
  type_same modules meaning sure (simple p s) each = refl
  type_same modules meaning sure (named path ts) each = each (name_meant ds modules path) (0, omega arith, refl)
  type_same modules meaning sure (sequence_of p t) each = ap (option_map kd.sequence) (type_same modules meaning sure t each)

  -- ---- chains that end

  -- the type of a declared name that is no typedef does not hang on other names
  abbrev IsTypedefOf : Declaration → WrittenType → Type 0
  IsTypedefOf body t = body ≡ tree.typedef t

  by_typedef : (name : List ℕ) (d : Declared) (body : Declaration) → ((t : WrittenType) × (body ≡ tree.typedef t))
      ⊎ ((targets_in d body ≡ []) × ((f g : WrittenType → Option Kind) → declared_type f name body ≡ declared_type g name body) × ((f : WrittenType → Option Kind) → (k : Kind) × (declared_type f name body ≡ Some k)))
  by_typedef name d tree.forward = inr (refl, λ f g. refl, λ f. (kd.struct name, refl))
  by_typedef name d (tree.interface base members) = inr (refl, λ f g. refl, λ f. (kd.interface name, refl))
  by_typedef name d (tree.struct base members) = inr (refl, λ f g. refl, λ f. (kd.struct name, refl))
  by_typedef name d (tree.exception base members) = inr (refl, λ f g. refl, λ f. (kd.exception name, refl))
  by_typedef name d (tree.enum items) = inr (refl, λ f g. refl, λ f. (kd.enum name, refl))
  by_typedef name d (tree.constants cs) = inr (refl, λ f g. refl, λ f. (kd.struct name, refl))
  by_typedef name d (tree.typedef t) = inl (t, refl)
  by_typedef name d (tree.new_service base constructors) = inr (refl, λ f g. refl, λ f. (kd.struct name, refl))
  by_typedef name d (tree.old_service members) = inr (refl, λ f g. refl, λ f. (kd.struct name, refl))
  by_typedef name d (tree.new_singleton base) = inr (refl, λ f g. refl, λ f. (kd.struct name, refl))
  by_typedef name d (tree.old_singleton service) = inr (refl, λ f g. refl, λ f. (kd.struct name, refl))

  -- the type of a declared name, over one more step
  pub type_of_typedef : (steps : ℕ) (name : List ℕ) (d : Declared) (t : WrittenType) → declared_as ds name ≡ Some d → d.body ≡ tree.typedef t
      → type_named (suc steps) ds name ≡ type_if (λ path. type_named steps ds (name_meant ds d.modules path)) t
  unfolding type_named
  type_of_typedef steps name d t found body = ap (λ o. type_of_declared (λ e u. type_if (λ path. type_named steps ds (name_meant ds e.modules path)) u) name o) found ∙ ap (declared_type (λ u. type_if (λ path. type_named steps ds (name_meant ds d.modules path)) u) name) body

  none_at_zero : (name : List ℕ) (d : Declared) (t : WrittenType) → declared_as ds name ≡ Some d → d.body ≡ tree.typedef t → type_named zero ds name ≡ None
  unfolding type_named
  none_at_zero name d t found body = ap (λ o. type_of_declared (λ e u. None) name o) found ∙ ap (declared_type (λ u. None) name) body

  pub targets_of_typedef : (name : List ℕ) (d : Declared) (t : WrittenType) → declared_as ds name ≡ Some d → d.body ≡ tree.typedef t → targets name ≡ head_names d.modules t
  unfolding targets
  targets_of_typedef name d t found body = ap targets_of found ∙ ap (targets_in d) body

  targets_of_other : (name : List ℕ) (d : Declared) → declared_as ds name ≡ Some d → targets_in d d.body ≡ [] → targets name ≡ []
  unfolding targets
  targets_of_other name d found none = ap targets_of found ∙ none

  targets_of_none : (name : List ℕ) → declared_as ds name ≡ None → targets name ≡ []
  unfolding targets
  targets_of_none name absent = ap targets_of absent

  ends_at_once : (steps : ℕ) (name : List ℕ) → targets name ≡ [] → ends_within targets (suc steps) name ≡ true
  ends_at_once steps name none = ends_from targets steps name (λ b in'. let bad : ⊥ = omega (arith, (subst (λ (xs : List (List ℕ)). Contains xs b) none in').1) in absurd bad)

  -- the type of a name at any number of steps
  pub named_by : (n : ℕ) (name : List ℕ) → (f : Declared → WrittenType → Option Kind) × (type_named n ds name ≡ type_of_declared f name (declared_as ds name))
  unfolding type_named
  named_by zero name = (λ d t. None, refl)
  named_by (suc n) name = (λ d t. type_if (λ path. type_named n ds (name_meant ds d.modules path)) t, refl)

  -- a typedef, and what it is declared as
  abbrev pub IsTypedefAs : List ℕ → Declared → WrittenType → Type 0
  IsTypedefAs name d t = (declared_as ds name ≡ Some d) × (d.body ≡ tree.typedef t)

  -- a name that is no typedef leads to none, and its type hangs on no steps
  abbrev IsOther : List ℕ → Type 0
  IsOther name = (targets name ≡ []) × ((n m : ℕ) → type_named n ds name ≡ type_named m ds name)

  pub by_name : (name : List ℕ) → ((d : Declared) × (t : WrittenType) × IsTypedefAs name d t) ⊎ IsOther name
  by_name name = by_found (declared_as ds name) refl
    where
      by_body : (d : Declared) → declared_as ds name ≡ Some d → ((e : Declared) × (t : WrittenType) × IsTypedefAs name e t) ⊎ IsOther name
      by_body d found = elim (by_typedef name d d.body) [
        | inl it ↦ inl (d, it.0, (found, it.1))
        | inr other ↦ inr (
          targets_of_other name d found other.0,
          λ n m.
              let f = named_by n name in
              let g = named_by m name in
              f.1 ∙ ap (type_of_declared f.0 name) found ∙ other.1 (f.0 d) (g.0 d) ∙ sym (ap (type_of_declared g.0 name) found) ∙ sym g.1,
        )
      ]

      by_found : (o : Option Declared) → declared_as ds name ≡ o → ((e : Declared) × (t : WrittenType) × IsTypedefAs name e t) ⊎ IsOther name
      by_found None absent = inr (
        targets_of_none name absent,
        λ n m.
            let f = named_by n name in
            let g = named_by m name in
            f.1 ∙ ap (type_of_declared f.0 name) absent ∙ sym (ap (type_of_declared g.0 name) absent) ∙ sym g.1,
      )
      by_found (Some d) found = by_body d found

  none_or_some : {X : Type 0} {x : X} → None ≡ Some x → ⊥
  none_or_some is = cc

  pub head_at : (name : List ℕ) (d : Declared) (t : WrittenType) → IsTypedefAs name d t → (b : List ℕ) → Contains (targets name) b → Contains (head_names d.modules t) b
  head_at name d t it b in' = subst (λ (xs : List (List ℕ)). Contains xs b) (targets_of_typedef name d t it.0 it.1) in'

  -- what has a type over so many typedefs ends within one step more
  pub typed_ends : (steps : ℕ) (name : List ℕ) (k : Kind) → type_named steps ds name ≡ Some k → ends_within targets (suc steps) name ≡ true
  typed_ends zero name k is = elim (by_name name) [
    | inl it ↦ absurd (none_or_some (sym (none_at_zero name it.0 it.1 it.2.0 it.2.1) ∙ is))
    | inr other ↦ ends_at_once zero name other.0
  ]
  typed_ends (suc n) name k is = elim (by_name name) [
    | inl it ↦
        let whole = sym (type_of_typedef n name it.0 it.1 it.2.0 it.2.1) ∙ is in
        ends_from targets (suc n) name (λ b in'.
        let typed = type_has it.0.modules (type_named n ds) it.1 k whole b (head_at name it.0 it.1 it.2 b in') in
        typed_ends n b typed.0 typed.1)
    | inr other ↦ ends_at_once (suc n) name other.0
  ]

  -- one step more changes no type
  type_kept : (modules : List (List ℕ)) (f g : List ℕ → Option Kind) → ((name : List ℕ) (k : Kind) → f name ≡ Some k → g name ≡ Some k) → (t : WrittenType) (k : Kind)
      → type_if (λ path. f (name_meant ds modules path)) t ≡ Some k → type_if (λ path. g (name_meant ds modules path)) t ≡ Some k
  unfolding type_if
  type_kept modules f g kept (simple p s) k is = is
  type_kept modules f g kept (named path ts) k is = kept (name_meant ds modules path) k is
  type_kept modules f g kept (sequence_of p t) k is =
      let inner = inner_some kd.sequence (type_if (λ path. f (name_meant ds modules path)) t) k is in
      ap (option_map kd.sequence) (type_kept modules f g kept t inner.0 inner.1) ∙ sym (ap (option_map kd.sequence) inner.1) ∙ is

  pub one_more_step : (n : ℕ) (name : List ℕ) (k : Kind) → type_named n ds name ≡ Some k → type_named (suc n) ds name ≡ Some k
  one_more_step zero name k is = elim (by_name name) [
    | inl it ↦ absurd (none_or_some (sym (none_at_zero name it.0 it.1 it.2.0 it.2.1) ∙ is))
    | inr other ↦ other.1 1 0 ∙ is
  ]
  one_more_step (suc n) name k is = elim (by_name name) [
    | inl it ↦
        type_of_typedef (suc n) name it.0 it.1 it.2.0 it.2.1
        ∙ type_kept it.0.modules (type_named n ds) (type_named (suc n) ds) (one_more_step n) it.1 k (sym (type_of_typedef n name it.0 it.1 it.2.0 it.2.1) ∙ is)
    | inr other ↦ other.1 (suc (suc n)) (suc n) ∙ is
  ]

-- ---- in a registry in which no entity is on a circle

-- the row below all sequences of a type that a name stands for
module _ (ds : List Declared) (modules : List (List ℕ)) where
  head_stands : (t : WrittenType) (name : List ℕ) → Contains (head_names ds modules t) name → name_type ds name ≡ kd.struct name → Contains (names_in (type_over (path_meant ds modules) t)) name
  unfolding type_over
  head_stands (simple p s) name in' as_struct = let bad : ⊥ = omega (arith, in'.1) in absurd bad
  head_stands (named path ts) name (zero, low, here) as_struct =
      subst (λ k. Contains (names_in k) name) (sym (ap (name_type ds) here ∙ as_struct)) (0, omega arith, refl)
  head_stands (named path ts) name (suc i, low, here) as_struct = let bad : ⊥ = omega arith in absurd bad
  head_stands (sequence_of p t) name in' as_struct = head_stands t name in' as_struct

kept_passes : {X : Type 0} (test : X → Bool) (xs : List X) (x : X) → Contains xs x → test x ≡ true → Contains (filter test xs) x
kept_passes test [] x in' passes = let bad : ⊥ = omega (arith, in'.1) in absurd bad
kept_passes test (y ∷ ys) x (zero, low, is) passes = subst (λ b. Contains (if b then y ∷ filter test ys else filter test ys) x) (sym (subst (λ z. test z ≡ true) (sym is) passes)) (0, omega arith, is)
kept_passes test (y ∷ ys) x (suc k, low, is) passes = by_first (test y) (kept_passes test ys x (k, omega arith, is) passes)
  where
    by_first : (b : Bool) → Contains (filter test ys) x → Contains (if b then y ∷ filter test ys else filter test ys) x
    by_first true in' = (suc in'.0, omega (arith, in'.1), in'.2)
    by_first false in' = in'

-- two ways, one behind the other
ways_joined : {X : Type 0} (next : X → List X) (a b c : X) → Leads next a b → Leads next b c → Leads next a c
ways_joined next a b c (step a' b' in') rest = on a b c in' rest
ways_joined next a b c (on a' x b' in' way) rest = on a x c in' (ways_joined next x b c way rest)

-- what leads to something leads on
leads_somewhere : {X : Type 0} (next : X → List X) (a b : X) → Leads next a b → (c : X) × Contains (next a) c
leads_somewhere next a b (step a' b' in') = (b, in')
leads_somewhere next a b (on a' x b' in' way) = (x, in')

-- a declared name is among the names that are declared
name_declared : (name : List ℕ) (xs : List Declared) (d : Declared) → find (λ x. not (is_forward x.body) && bytes_eq name (full_name x)) xs ≡ Some d → Contains (map full_name xs) name
name_declared name [] d found = let bad : ⊥ = cc in absurd bad
name_declared name (x ∷ xs) d found = by_test (not (is_forward x.body) && bytes_eq name (full_name x)) refl found (name_declared name xs d)
  where
    by_test : (b : Bool) → (not (is_forward x.body) && bytes_eq name (full_name x)) ≡ b → (if b then Some x else find (λ y. not (is_forward y.body) && bytes_eq name (full_name y)) xs) ≡ Some d
        → (find (λ y. not (is_forward y.body) && bytes_eq name (full_name y)) xs ≡ Some d → Contains (map full_name xs) name) → Contains (full_name x ∷ map full_name xs) name
    by_test true is found rest = (0, omega arith, sym ((bytes_eq-Decides name (full_name x)).0 (and_parts (not (is_forward x.body)) (bytes_eq name (full_name x)) is).1))
    by_test false is found rest = let in' = rest found in (suc in'.0, omega (arith, in'.1), in'.2)

module _ (ds : List Declared) (apart : are_apart (leaf_places ds) ≡ true) (none : declared_twice ds ≡ [])
    (circles : (name : List ℕ) (d : Declared) → declared_as ds name ≡ Some d → ¬ Leads (leads_on_to (registry_of ds)) name name) where
  abbrev reg : List Entity
  reg = registry_of ds

  -- what a typedef leads to in its registry
  leads_as : (name : List ℕ) (d : Declared) (t : WrittenType) → IsTypedefAs ds name d t → leads_on_to reg name ≡ typedefs_in reg (type_meant ds d.modules t)
  unfolding leads_on_to body_meant
  leads_as name d t it = ap (leads_on reg) (found_of_declared ds apart none name d it.0) ∙ ap (λ body. leads_on reg (Some (record { name = full_name d; published = d.published; body = body_meant ds d body }))) it.1

  is_there_typedef : (name : List ℕ) (d : Declared) (t : WrittenType) → IsTypedefAs ds name d t → is_there reg is_typedef name ≡ true
  unfolding body_meant
  is_there_typedef name d t it = rw (found_of_declared ds apart none name d it.0) (ap (λ body. is_typedef (body_meant ds d body)) it.1)

  -- a typedef that leads back to itself has no type
  untyped : (name : List ℕ) → Leads (targets ds) name name → name_type ds name ≡ kd.struct name
  unfolding name_type
  untyped name way = by_type (type_named (suc (length ds)) ds name) refl
    where
      by_type : (o : Option Kind) → type_named (suc (length ds)) ds name ≡ o → unwrap_or o (kd.struct name) ≡ kd.struct name
      by_type None is = refl
      by_type (Some k) is = absurd (ends_no_circle (targets ds) (suc (suc (length ds))) name (typed_ends ds (suc (length ds)) name k is) way)

  -- a step on a circle of typedefs is one of the registry
  link : (b c : List ℕ) → Contains (targets ds b) c → Leads (targets ds) c c → Contains (leads_on_to reg b) c
  unfolding type_meant
  link b c in' circle = elim (by_name ds b) [
    | inr other ↦ let bad : ⊥ = omega (arith, (subst (λ (xs : List (List ℕ)). Contains xs c) other.0 in').1) in absurd bad
    | inl it ↦
        let head = head_at ds b it.0 it.1 it.2 c in' in
        let stands = head_stands ds it.0.modules it.1 c head (untyped c circle) in
        subst (λ (xs : List (List ℕ)). Contains xs c) (sym (leads_as b it.0 it.1 it.2)) (kept_passes (is_there reg is_typedef) (names_in (type_meant ds it.0.modules it.1)) c stands (there c circle))
  ]
    where
      there : (c : List ℕ) → Leads (targets ds) c c → is_there reg is_typedef c ≡ true
      there c circle = elim (by_name ds c) [
        | inl it ↦ is_there_typedef c it.0 it.1 it.2
        | inr other ↦ let on_to = leads_somewhere (targets ds) c c circle in let bad : ⊥ = omega (arith, (subst (λ (xs : List (List ℕ)). Contains xs on_to.0) other.0 on_to.1).1) in absurd bad
      ]

  same_way : (b a : List ℕ) → Leads (targets ds) b a → Leads (targets ds) a b → Leads (leads_on_to reg) b a
  same_way b a (step b' a' in') back = step b a (link b a in' (ways_joined (targets ds) a b a back (step b a in')))
  same_way b a (on b' c a' in' rest) back =
      let to_c = ways_joined (targets ds) a b c back (step b c in') in
      on b c a (link b c in' (ways_joined (targets ds) c a c rest to_c)) (same_way c a rest to_c)

  no_typedef_circle : HasNoCircle (targets ds)
  no_typedef_circle a way = elim (by_name ds a) [
    | inl it ↦ circles a it.0 it.2.0 (same_way a a way way)
    | inr other ↦ let on_to = leads_somewhere (targets ds) a a way in let bad : ⊥ = omega (arith, (subst (λ (xs : List (List ℕ)). Contains xs on_to.0) other.0 on_to.1).1) in absurd bad
  ]

  leading_declared : (b c : List ℕ) → Contains (targets ds b) c → Contains (map full_name ds) b
  unfolding declared_as
  leading_declared b c in' = elim (by_name ds b) [
    | inl it ↦ name_declared b ds it.0 it.2.0
    | inr other ↦ let bad : ⊥ = omega (arith, (subst (λ (xs : List (List ℕ)). Contains xs c) other.0 in').1) in absurd bad
  ]

  -- so each name ends
  pub each_ends : (name : List ℕ) → ends_within (targets ds) (suc (length ds)) name ≡ true
  each_ends name = no_circle_ends (targets ds) (length ds) (map full_name ds) name no_typedef_circle (length-map ds full_name) (λ b on_way c in'. leading_declared b c in')
