-- The end of a chain of typedefs is the type that its name means, but for sequences past the limit.
use Rattle.std.proofs.Common.{◌≡◌, refl, sym, ap, subst, ◌∙◌, ℕ, zero, suc, ◌+◌, min, Bool, true, false, not, ◌&&◌, List, [], ◌∷◌, map, length, slice_get, Option, None, Some, Contains, ◌⊎◌, inl, inr, option_map, unwrap_or, if◌then◌else◌, arith}
use Rattle.std.proofs.lemmas.Bool.{and_parts}
use Rattle.std.proofs.lemmas.List.{length-map}
use Rattle.std.proofs.lemmas.Slice.Eq.{bytes_eq-Decides}
use Rattle.std.specs.List.{find}
use Rattle.std.specs.Str.{bytes_eq}
use Rattle.uno_model.specs.BuiltIn.{built_in}
use Rattle.uno_model.specs.Circles.{on, ends_within}
use Rattle.uno_model.specs.Entities.{Body, Entity}
use Rattle.uno_model.specs.Entities as uno
use Rattle.uno_model.specs.Kinds.{Kind, nesting}
use Rattle.uno_model.specs.Kinds as kd
use Rattle.uno_model.specs.NamedTypes.{kind_of_body, kind_of_entity}
use Rattle.uno_model.specs.Registry.{find_entity}
use Rattle.uno_model.proofs.CircleLaws.{next_ends, none_ends_at_once}
use Rattle.registry_reading_model.specs.Kept.{cut, innermost}
use Rattle.registry_reading_model.specs.Kinds.{sequences}
use Rattle.idl_meaning_model.specs.Declarations.{Declared, full_name, is_forward}
use Rattle.idl_meaning_model.specs.Meaning.{declared_type, name_meant, name_type, simple_meant, type_if, type_named, type_of_declared}
use Rattle.idl_meaning_model.specs.Scopes.{declared_as}
use Rattle.idl_model.specs.Trees.{Path, WrittenType, simple, named, sequence_of, Declaration}
use Rattle.idl_model.specs.Trees as tree
use Rattle.idl_rules_model.proofs.TypedefLaws.{IsTypedefAs, by_name, head_names, targets, targets_of_typedef, type_of_typedef, typed_ends}
use Rattle.graph_order.proofs.EndLaws.{ends_soon}
use Rattle.typedef_chains.specs.Chains.{Ends, here, on, IsEnd}
use Rattle.typedef_chains.specs.declared.step.Step.{Step}
use Rattle.typedef_chains.specs.declared.step.End.{End}
use Rattle.idl_types.specs.Kinds.{ended_type, leaf_if, leaf_of, simple_in}
use Rattle.idl_types.specs.Steps.{last_step, more, most, step_if, step_in, step_of}

-- ---- as many steps as there are declarations are enough

module _ (ds : List Declared) where
  name_in : (name : List ℕ) (xs : List Declared) (d : Declared) → find (λ x. not (is_forward x.body) && bytes_eq name (full_name x)) xs ≡ Some d → Contains (map full_name xs) name
  name_in name [] d found = let bad : ⊥ = cc in absurd bad
  name_in name (x ∷ xs) d found = by_test (not (is_forward x.body) && bytes_eq name (full_name x)) refl found (name_in name xs d)
    where
      by_test : (b : Bool) → (not (is_forward x.body) && bytes_eq name (full_name x)) ≡ b → (if b then Some x else find (λ y. not (is_forward y.body) && bytes_eq name (full_name y)) xs) ≡ Some d
          → (find (λ y. not (is_forward y.body) && bytes_eq name (full_name y)) xs ≡ Some d → Contains (map full_name xs) name) → Contains (full_name x ∷ map full_name xs) name
      by_test true is found' rest = (0, omega arith, sym ((bytes_eq-Decides name (full_name x)).0 (and_parts (not (is_forward x.body)) (bytes_eq name (full_name x)) is).1))
      by_test false is found' rest = let in' = rest found' in (suc in'.0, (let low = in'.1 in omega (arith, low)), in'.2)

  no_one : {X : Type 0} (x : X) → Contains [] x → ⊥
  no_one x (k, low, is) = omega (arith, low)

  leading_in : (b c : List ℕ) → Contains (targets ds b) c → Contains (map full_name ds) b
  unfolding declared_as
  leading_in b c in' = elim (by_name ds b) [
    | inl it ↦ name_in b ds it.0 it.2.0
    | inr other ↦ absurd (no_one c (subst (λ (xs : List (List ℕ)). Contains xs c) other.0 in'))
  ]

  -- what has a type over some steps ends within as many as there are declarations
  soon : (n : ℕ) (name : List ℕ) (k : Kind) → type_named n ds name ≡ Some k → ends_within (targets ds) (suc (length ds)) name ≡ true
  soon n name k is =
      subst (λ m. ends_within (targets ds) (suc m) name ≡ true) (length-map ds full_name)
      (ends_soon (targets ds) (suc n) (map full_name ds) name (λ b on_way c in'. leading_in b c in') (typed_ends ds n name k is))

  same_inner : (f : Kind → Kind) (o : Option Kind) (k : Kind) → option_map f o ≡ Some k → (j : Kind) × (o ≡ Some j)
  same_inner f None k is = let bad : ⊥ = cc in absurd bad
  same_inner f (Some j) k is = (j, refl)

  -- a type with a meaning has the same where another gives its names the same
  type_again : (modules : List (List ℕ)) (f g : List ℕ → Option Kind) (t : WrittenType) (k : Kind) → ((name : List ℕ) (j : Kind) → Contains (head_names ds modules t) name → f name ≡ Some j → g name ≡ Some j)
      → type_if (λ path. f (name_meant ds modules path)) t ≡ Some k → type_if (λ path. g (name_meant ds modules path)) t ≡ Some k
  unfolding type_if
  type_again modules f g (simple p s) k each is = is
  type_again modules f g (named path ts) k each is = each (name_meant ds modules path) k (0, omega arith, refl) is
  type_again modules f g (sequence_of p t) k each is =
      let inner = same_inner kd.sequence (type_if (λ path. f (name_meant ds modules path)) t) k is in
      ap (option_map kd.sequence) (type_again modules f g t inner.0 each inner.1) ∙ sym (ap (option_map kd.sequence) inner.1) ∙ is

  none_or_some : {X : Type 0} {x : X} → None ≡ Some x → ⊥
  none_or_some is = cc

  zero_none : (name : List ℕ) (e : Declared) (t : WrittenType) → IsTypedefAs ds name e t → type_named zero ds name ≡ None
  unfolding type_named
  zero_none name e t it = ap (λ o. type_of_declared (λ x u. None) name o) it.0 ∙ ap (declared_type (λ u. None) name) it.1

  -- a type over some steps is one over as many as its ways need
  typedef_within : (d n : ℕ) (name : List ℕ) (k : Kind) (e : Declared) (t : WrittenType) → IsTypedefAs ds name e t → ends_within (targets ds) (suc d) name ≡ true → type_named n ds name ≡ Some k
      → ((m : ℕ) (head : List ℕ) (j : Kind) → ends_within (targets ds) d head ≡ true → type_named m ds head ≡ Some j → type_named d ds head ≡ Some j) → type_named (suc d) ds name ≡ Some k
  typedef_within d zero name k e t it ends is inner = absurd (none_or_some (sym (zero_none name e t it) ∙ is))
  typedef_within d (suc n) name k e t it ends is inner =
      type_of_typedef ds d name e t it.0 it.1
      ∙ type_again e.modules (type_named n ds) (type_named d ds) t k
      (λ head j in' typed. inner n head j (next_ends (targets ds) d name head ends (subst (λ (xs : List (List ℕ)). Contains xs head) (sym (targets_of_typedef ds name e t it.0 it.1)) in')) typed)
      (sym (type_of_typedef ds n name e t it.0 it.1) ∙ is)

  typed_within : (d n : ℕ) (name : List ℕ) (k : Kind) → ends_within (targets ds) d name ≡ true → type_named n ds name ≡ Some k → type_named d ds name ≡ Some k
  typed_within zero n name k ends is = absurd (none_ends_at_once (targets ds) name ends)
  typed_within (suc d) n name k ends is = elim (by_name ds name) [
    | inr other ↦ other.1 (suc d) n ∙ is
    | inl it ↦ typedef_within d n name k it.0 it.1 it.2 ends is (λ m head j ends' typed. typed_within d m head j ends' typed)
  ]

  pub typed_enough : (n : ℕ) (name : List ℕ) (k : Kind) → type_named n ds name ≡ Some k → type_named (suc (length ds)) ds name ≡ Some k
  typed_enough n name k is = typed_within (suc (length ds)) n name k (soon n name k is) is

-- ---- the shape of a type: sequences round a simple type, or round a name

abbrev pub HeadOf : WrittenType → Path → Type 0
HeadOf (simple p s) path = ⊥
HeadOf (named own ts) path = own ≡ path
HeadOf (sequence_of p t) path = HeadOf t path

abbrev step_with : ℕ → Option ℕ → Step
step_with a next = record { adds = min a most; next = next }

record SimpleShape (told : Path → Option ℕ) (n : ℕ) (t : WrittenType) : Type 0 where
  a : ℕ
  leaf : Kind
  is : simple_in t ≡ Some leaf
  low : (nesting leaf ≡ 0) × (innermost leaf ≡ leaf)
  step : step_in told n t ≡ step_with a None
  type : (f : Path → Option Kind) → type_if f t ≡ Some (sequences a leaf)

record NamedShape (told : Path → Option ℕ) (n : ℕ) (t : WrittenType) : Type 0 where
  a : ℕ
  path : Path
  head : HeadOf t path
  step : step_in told n t ≡ step_with a (Some (unwrap_or (told path) n))
  type : (f : Path → Option Kind) (k : Kind) → f path ≡ Some k → type_if f t ≡ Some (sequences a k)
  needs : (f : Path → Option Kind) (k : Kind) → type_if f t ≡ Some k → (j : Kind) × (f path ≡ Some j)

pub simple_low : (s : tree.Simple) → (nesting (simple_meant s) ≡ 0) × (innermost (simple_meant s) ≡ simple_meant s)
unfolding innermost
simple_low tree.void = (refl, refl)
simple_low tree.char = (refl, refl)
simple_low tree.boolean = (refl, refl)
simple_low tree.byte = (refl, refl)
simple_low tree.short = (refl, refl)
simple_low tree.unsigned_short = (refl, refl)
simple_low tree.long = (refl, refl)
simple_low tree.unsigned_long = (refl, refl)
simple_low tree.hyper = (refl, refl)
simple_low tree.unsigned_hyper = (refl, refl)
simple_low tree.float = (refl, refl)
simple_low tree.double = (refl, refl)
simple_low tree.str = (refl, refl)
simple_low tree.kind = (refl, refl)
simple_low tree.any = (refl, refl)

none_yet : (next : Option ℕ) → ◌≡◌ {A = Step} (record { adds = 0; next = next }) (step_with 0 next)
none_yet next = ap (λ a. record { adds = a; next = next }) (let is : 0 ≡ min 0 most = omega arith in is)

one_more : (a : ℕ) (next : Option ℕ) → more (step_with a next) ≡ step_with (suc a) next
one_more a next = ap (λ b. record { adds = b; next = next }) (let is : min (min a most + 1) most ≡ min (suc a) most = omega arith in is)

shape : (told : Path → Option ℕ) (n : ℕ) (t : WrittenType) → SimpleShape told n t ⊎ NamedShape told n t
unfolding step_in type_if sequences
shape told n (simple p s) = inl (record { a = 0; leaf = simple_meant s; is = refl; low = simple_low s; step = none_yet None; type = λ f. refl })
shape told n (named path ts) = inr (record { a = 0; path = path; head = refl; step = none_yet (Some (unwrap_or (told path) n)); type = λ f k is. is; needs = λ f k is. (k, is) })
shape told n (sequence_of p t) = round (shape told n t)
  where
    inner_some : (o : Option Kind) (k : Kind) → option_map kd.sequence o ≡ Some k → (j : Kind) × (o ≡ Some j)
    inner_some None k is = let bad : ⊥ = cc in absurd bad
    inner_some (Some j) k is = (j, refl)

    round : SimpleShape told n t ⊎ NamedShape told n t → SimpleShape told n (sequence_of p t) ⊎ NamedShape told n (sequence_of p t)
    round (inl it) = inl (record { a = suc it.a; leaf = it.leaf; is = it.is; low = it.low; step = ap more it.step ∙ one_more it.a None; type = λ f. ap (option_map kd.sequence) (it.type f) })
    round (inr it) = inr (record {
      a = suc it.a;
      path = it.path;
      head = it.head;
      step = ap more it.step ∙ one_more it.a (Some (unwrap_or (told it.path) n));
      type = λ f k is. ap (option_map kd.sequence) (it.type f k is);
      needs = λ f k is. let inner = inner_some (type_if f t) k is in it.needs f inner.0 inner.1;
    })

sequences_both : (a b : ℕ) (k : Kind) → sequences a (sequences b k) ≡ sequences (a + b) k
unfolding sequences
sequences_both zero b k = ap (λ c. sequences c k) (let is : b ≡ 0 + b = omega arith in is)
sequences_both (suc a) b k = ap kd.sequence (sequences_both a b k) ∙ ap (λ c. sequences c k) (let is : suc (a + b) ≡ suc a + b = omega arith in is)

pub many_sequences : (k : Kind) → nesting k ≡ 0 → (b : ℕ) → nesting (sequences b k) ≡ b
unfolding sequences
many_sequences k flat zero = flat
many_sequences k flat (suc b) = ap suc (many_sequences k flat b)

pub below_sequences : (k : Kind) → innermost k ≡ k → (b : ℕ) → innermost (sequences b k) ≡ k
unfolding sequences innermost
below_sequences k inner zero = inner
below_sequences k inner (suc b) = below_sequences k inner b

pub cut_sequences : (a : ℕ) (k : Kind) → nesting k ≡ 0 → innermost k ≡ k → cut (sequences a k) ≡ sequences (min 65 a) k
unfolding cut
cut_sequences a k flat inner = λ i. sequences (min 65 (many_sequences k flat a i)) (below_sequences k inner a i)

-- ---- chains of numbers

pub leaf_low : (name : List ℕ) (body : Declaration) → (nesting (leaf_of name body) ≡ 0) × (innermost (leaf_of name body) ≡ leaf_of name body)
unfolding innermost
leaf_low name tree.forward = (refl, refl)
leaf_low name (tree.interface base members) = (refl, refl)
leaf_low name (tree.struct base members) = (refl, refl)
leaf_low name (tree.exception base members) = (refl, refl)
leaf_low name (tree.enum items) = (refl, refl)
leaf_low name (tree.constants cs) = (refl, refl)
leaf_low name (tree.typedef t) = by_simple t
  where
    by_simple : (u : WrittenType) → (nesting (unwrap_or (simple_in u) (kd.struct name)) ≡ 0) × (innermost (unwrap_or (simple_in u) (kd.struct name)) ≡ unwrap_or (simple_in u) (kd.struct name))
    by_simple (simple p s) = simple_low s
    by_simple (named path ts) = (refl, refl)
    by_simple (sequence_of p u) = by_simple u
leaf_low name (tree.new_service base constructors) = (refl, refl)
leaf_low name (tree.old_service members) = (refl, refl)
leaf_low name (tree.new_singleton base) = (refl, refl)
leaf_low name (tree.old_singleton service) = (refl, refl)

-- what is declared and no typedef has its own type, over any steps
plain_type : (name : List ℕ) (body : Declaration) → ((t : WrittenType) × (body ≡ tree.typedef t)) ⊎ ((f : WrittenType → Option Kind) → declared_type f name body ≡ Some (leaf_of name body))
plain_type name tree.forward = inr (λ f. refl)
plain_type name (tree.interface base members) = inr (λ f. refl)
plain_type name (tree.struct base members) = inr (λ f. refl)
plain_type name (tree.exception base members) = inr (λ f. refl)
plain_type name (tree.enum items) = inr (λ f. refl)
plain_type name (tree.constants cs) = inr (λ f. refl)
plain_type name (tree.typedef t) = inl (t, refl)
plain_type name (tree.new_service base constructors) = inr (λ f. refl)
plain_type name (tree.old_service members) = inr (λ f. refl)
plain_type name (tree.new_singleton base) = inr (λ f. refl)
plain_type name (tree.old_singleton service) = inr (λ f. refl)

plain_step : (told : Path → Option ℕ) (n : ℕ) (name : List ℕ) (body : Declaration) → ((f : WrittenType → Option Kind) → declared_type f name body ≡ Some (leaf_of name body)) → ((t : WrittenType) → body ≡ tree.typedef t → ⊥)
    → step_of told n body ≡ last_step
plain_step told n name tree.forward plain never = refl
plain_step told n name (tree.interface base members) plain never = refl
plain_step told n name (tree.struct base members) plain never = refl
plain_step told n name (tree.exception base members) plain never = refl
plain_step told n name (tree.enum items) plain never = refl
plain_step told n name (tree.constants cs) plain never = refl
plain_step told n name (tree.typedef t) plain never = absurd (never t refl)
plain_step told n name (tree.new_service base constructors) plain never = refl
plain_step told n name (tree.old_service members) plain never = refl
plain_step told n name (tree.new_singleton base) plain never = refl
plain_step told n name (tree.old_singleton service) plain never = refl

pub entity_low : (name : List ℕ) (o : Option Entity) → (nesting (unwrap_or (kind_of_entity name o) (kd.struct name)) ≡ 0) × (innermost (unwrap_or (kind_of_entity name o) (kd.struct name)) ≡ unwrap_or (kind_of_entity name o) (kd.struct name))
unfolding innermost
entity_low name None = (refl, refl)
entity_low name (Some e) = by_body e.body
  where
    by_body : (b : Body) → (nesting (unwrap_or (kind_of_body name b) (kd.struct name)) ≡ 0) × (innermost (unwrap_or (kind_of_body name b) (kd.struct name)) ≡ unwrap_or (kind_of_body name b) (kd.struct name))
    by_body (uno.interface bases members) = (refl, refl)
    by_body (uno.struct base members) = (refl, refl)
    by_body (uno.exception base members) = (refl, refl)
    by_body (uno.enum items) = (refl, refl)
    by_body (uno.constants cs) = (refl, refl)
    by_body (uno.typedef k) = (refl, refl)
    by_body (uno.new_service base constructors) = (refl, refl)
    by_body (uno.old_service parts) = (refl, refl)
    by_body (uno.new_singleton base) = (refl, refl)
    by_body (uno.old_singleton service) = (refl, refl)

struct_cut : (name : List ℕ) → cut (kd.struct name) ≡ kd.struct name
unfolding cut innermost sequences
struct_cut name = refl

-- the cases of what a name is declared as
data Case (told : Path → Option ℕ) (n : ℕ) (name : List ℕ) (o : Option Declared) : Type 0 where
  built : o ≡ None → Case told n name o
  other : (d : Declared) → o ≡ Some d → ((f : WrittenType → Option Kind) → declared_type f name d.body ≡ Some (leaf_of name d.body)) → step_of told n d.body ≡ last_step → Case told n name o
  to_simple : (d : Declared) (t : WrittenType) → o ≡ Some d → d.body ≡ tree.typedef t → SimpleShape told n t → Case told n name o
  to_name : (d : Declared) (t : WrittenType) → o ≡ Some d → d.body ≡ tree.typedef t → NamedShape told n t → Case told n name o

case_of : (told : Path → Option ℕ) (n : ℕ) (name : List ℕ) (o : Option Declared) → Case told n name o
case_of told n name None = built refl
case_of told n name (Some d) = by_plain (plain_type name d.body)
  where
    by_shape : (t : WrittenType) → d.body ≡ tree.typedef t → SimpleShape told n t ⊎ NamedShape told n t → Case told n name (Some d)
    by_shape t is (inl it) = to_simple d t refl is it
    by_shape t is (inr it) = to_name d t refl is it

    no_typedef : ((f : WrittenType → Option Kind) → declared_type f name d.body ≡ Some (leaf_of name d.body)) → (t : WrittenType) → d.body ≡ tree.typedef t → ⊥
    no_typedef plain t is =
        let bad : None ≡ Some (leaf_of name d.body) = sym (ap (declared_type (λ u. None) name) is) ∙ plain (λ u. None) in
        none_is_some bad
      where
        none_is_some : {X : Type 0} {x : X} → None ≡ Some x → ⊥
        none_is_some bad = cc

    by_plain : ((t : WrittenType) × (d.body ≡ tree.typedef t)) ⊎ ((f : WrittenType → Option Kind) → declared_type f name d.body ≡ Some (leaf_of name d.body)) → Case told n name (Some d)
    by_plain (inl it) = by_shape it.0 it.1 (shape told n it.0)
    by_plain (inr plain) = other d refl plain (plain_step told n name d.body plain (no_typedef plain))

module _ (ds : List Declared) (told : Path → Option ℕ) (name_of : ℕ → List ℕ) (at : ℕ → Option Declared) (Right : ℕ → Type 0)
    (declared : (n : ℕ) → Right n → declared_as ds (name_of n) ≡ at n)
    (leads : (n : ℕ) (d : Declared) (t : WrittenType) (path : Path) → Right n → at n ≡ Some d → d.body ≡ tree.typedef t → HeadOf t path
    → (m : ℕ) × (told path ≡ Some m) × Right m × (name_of m ≡ name_meant ds d.modules path))
    (known : (n : ℕ) → Right n → at n ≡ None → (k : Kind) × (kind_of_entity (name_of n) (find_entity (name_of n) built_in) ≡ Some k))
    (steps : List Step) (steps_at : (n : ℕ) (s : Step) → slice_get steps n ≡ Some s → s ≡ step_if told n (option_map (λ d. d.body) (at n)))
    (there : (n : ℕ) → Right n → (s : Step) × (slice_get steps n ≡ Some s)) where
  abbrev pub leaf_at : ℕ → Kind
  leaf_at n = leaf_if (name_of n) (option_map (λ d. d.body) (at n))

  -- a number has this type over some steps, but for sequences past the limit
  record HasType (n last sum : ℕ) : Type 0 where
    steps_taken : ℕ
    a : ℕ
    typed : type_named steps_taken ds (name_of n) ≡ Some (sequences a (leaf_at last))
    capped : min a most ≡ min sum most

  step_body : (n : ℕ) (s : Step) (d : Declared) → slice_get steps n ≡ Some s → at n ≡ Some d → s ≡ step_of told n d.body
  step_body n s d is found = steps_at n s is ∙ ap (λ (o : Option Declared). step_if told n (option_map (λ e. e.body) o)) found

  step_none : (n : ℕ) (s : Step) → slice_get steps n ≡ Some s → at n ≡ None → s ≡ last_step
  step_none n s is found = steps_at n s is ∙ ap (λ (o : Option Declared). step_if told n (option_map (λ e. e.body) o)) found

  leaf_body : (n : ℕ) (d : Declared) → at n ≡ Some d → leaf_at n ≡ leaf_of (name_of n) d.body
  leaf_body n d found = ap (λ (o : Option Declared). leaf_if (name_of n) (option_map (λ e. e.body) o)) found

  leaf_none : (n : ℕ) → at n ≡ None → leaf_at n ≡ unwrap_or (kind_of_entity (name_of n) (find_entity (name_of n) built_in)) (kd.struct (name_of n))
  leaf_none n found = ap (λ (o : Option Declared). leaf_if (name_of n) (option_map (λ e. e.body) o)) found

  adds_of : (s : Step) (a : ℕ) (next : Option ℕ) → s ≡ step_with a next → (s.adds ≡ min a most) × (s.next ≡ next)
  adds_of s a next is = (ap (λ (x : Step). x.adds) is, ap (λ (x : Step). x.next) is)

  none_some : {X : Type 0} {x : X} → None ≡ Some x → ⊥
  none_some bad = cc

  same_number : (m k : ℕ) → Some m ≡ Some k → m ≡ k
  same_number m k is = cc

  at_zero : (n : ℕ) (k : Kind) → Right n → at n ≡ None → kind_of_entity (name_of n) (find_entity (name_of n) built_in) ≡ Some k → type_named zero ds (name_of n) ≡ Some k
  unfolding type_named
  at_zero n k right found is = ap (λ o. type_of_declared (λ x u. None) (name_of n) o) (declared n right ∙ found) ∙ is

  at_plain : (n : ℕ) (d : Declared) → Right n → at n ≡ Some d → ((f : WrittenType → Option Kind) → declared_type f (name_of n) d.body ≡ Some (leaf_of (name_of n) d.body)) → type_named zero ds (name_of n) ≡ Some (leaf_of (name_of n) d.body)
  unfolding type_named
  at_plain n d right found plain = ap (λ o. type_of_declared (λ x u. None) (name_of n) o) (declared n right ∙ found) ∙ plain (λ u. None)

  -- the last of a chain
  last_type : (n : ℕ) (s : Step) → Right n → slice_get steps n ≡ Some s → s.next ≡ None → HasType n n s.adds
  unfolding sequences
  last_type n s right is none = by_case (case_of told n (name_of n) (at n))
    where
      no_adds : s ≡ last_step → min 0 most ≡ min s.adds most
      no_adds last = ap (λ (x : Step). min x.adds most) (sym last)

      by_case : Case told n (name_of n) (at n) → HasType n n s.adds
      by_case (built found) =
          let k = known n right found in
          record {
            steps_taken = 0;
            a = 0;
            typed = at_zero n k.0 right found k.1 ∙ ap (λ o. Some (unwrap_or o (kd.struct (name_of n)))) (sym k.1) ∙ ap Some (sym (leaf_none n found));
            capped = no_adds (step_none n s is found);
          }
      by_case (other d found plain last) =
          record { steps_taken = 0; a = 0; typed = at_plain n d right found plain ∙ ap Some (sym (leaf_body n d found)); capped = no_adds (step_body n s d is found ∙ last) }
      by_case (to_simple d t found body it) =
          let step' = adds_of s it.a None (step_body n s d is found ∙ ap (step_of told n) body ∙ it.step) in
          let leaf : leaf_at n ≡ it.leaf = leaf_body n d found ∙ ap (leaf_of (name_of n)) body ∙ ap (λ o. unwrap_or o (kd.struct (name_of n))) it.is in
          record {
            steps_taken = 1;
            a = it.a;
            typed = type_of_typedef ds 0 (name_of n) d t (declared n right ∙ found) body ∙ it.type (λ path. type_named 0 ds (name_meant ds d.modules path)) ∙ ap (λ k. Some (sequences it.a k)) (sym leaf);
            capped = let cap = step'.0 in omega (arith, cap);
          }
      by_case (to_name d t found body it) =
          let step' = adds_of s it.a (Some (unwrap_or (told it.path) n)) (step_body n s d is found ∙ ap (step_of told n) body ∙ it.step) in
          absurd (none_some (sym none ∙ step'.1))

  -- one that leads on
  on_type : (n next last rest : ℕ) (s : Step) → Right n → slice_get steps n ≡ Some s → s.next ≡ Some next → (Right next → HasType next last rest) → HasType n last (s.adds + rest)
  on_type n next last rest s right is leads_to inner = by_case (case_of told n (name_of n) (at n))
    where
      by_case : Case told n (name_of n) (at n) → HasType n last (s.adds + rest)
      by_case (built found) = absurd (none_some (ap (λ (x : Step). x.next) (sym (step_none n s is found)) ∙ leads_to))
      by_case (other d found plain last') = absurd (none_some (ap (λ (x : Step). x.next) (sym (step_body n s d is found ∙ last')) ∙ leads_to))
      by_case (to_simple d t found body it) =
          let step' = adds_of s it.a None (step_body n s d is found ∙ ap (step_of told n) body ∙ it.step) in
          absurd (none_some (sym step'.1 ∙ leads_to))
      by_case (to_name d t found body it) =
          let step' = adds_of s it.a (Some (unwrap_or (told it.path) n)) (step_body n s d is found ∙ ap (step_of told n) body ∙ it.step) in
          let to = leads n d t it.path right found body it.head in
          let same : to.0 ≡ next = same_number to.0 next (ap (λ o. Some (unwrap_or o n)) (sym to.1) ∙ sym step'.1 ∙ leads_to) in
          let deeper = inner (subst Right same to.2) in
          record {
            steps_taken = suc deeper.steps_taken;
            a = it.a + deeper.a;
            typed =
                type_of_typedef ds deeper.steps_taken (name_of n) d t (declared n right ∙ found) body
                ∙ it.type (λ path. type_named deeper.steps_taken ds (name_meant ds d.modules path)) (sequences deeper.a (leaf_at last))
                (ap (type_named deeper.steps_taken ds) (sym to.3 ∙ ap name_of same) ∙ deeper.typed)
                ∙ ap Some (sequences_both it.a deeper.a (leaf_at last));
            capped = let cap = deeper.capped in let own = step'.0 in omega (arith, cap, own);
          }

  typed_of_end : (n last sum : ℕ) → Ends steps n last sum → Right n → HasType n last sum
  typed_of_end n last sum (here n' s is none) right = last_type n s right is none
  typed_of_end n last sum (on n' last' rest next s is leads_to ends) right = on_type n next last rest s right is leads_to (typed_of_end next last rest ends)

  -- ---- and back

  one_step : (n : ℕ) (k : Kind) (f : ℕ) → Right n → type_named f ds (name_of n) ≡ Some k → ((m j : ℕ) (i : Kind) → f ≡ suc j → Right m → type_named j ds (name_of m) ≡ Some i → (last : ℕ) × (sum : ℕ) × Ends steps m last sum)
      → (last : ℕ) × (sum : ℕ) × Ends steps n last sum
  one_step n k f right typed further = by_case (case_of told n (name_of n) (at n))
    where
      own : (s : Step) × (slice_get steps n ≡ Some s)
      own = there n right

      ends_here : own.0.next ≡ None → (last : ℕ) × (sum : ℕ) × Ends steps n last sum
      ends_here none = (n, own.0.adds, here n own.0 own.1 none)

      by_steps : (d : Declared) (t : WrittenType) → at n ≡ Some d → d.body ≡ tree.typedef t → NamedShape told n t → (g : ℕ) → f ≡ g → type_named g ds (name_of n) ≡ Some k → (last : ℕ) × (sum : ℕ) × Ends steps n last sum
      by_steps d t found body it zero same typed' = absurd (none_some (sym (zero_none ds (name_of n) d t (declared n right ∙ found, body)) ∙ typed'))
      by_steps d t found body it (suc g) same typed' =
          let step' = adds_of own.0 it.a (Some (unwrap_or (told it.path) n)) (step_body n own.0 d own.1 found ∙ ap (step_of told n) body ∙ it.step) in
          let to = leads n d t it.path right found body it.head in
          let inner = it.needs (λ path. type_named g ds (name_meant ds d.modules path)) k (sym (type_of_typedef ds g (name_of n) d t (declared n right ∙ found) body) ∙ typed') in
          let rest = further to.0 g inner.0 same to.2 (ap (type_named g ds) to.3 ∙ inner.1) in
          (rest.0, own.0.adds + rest.1, on n rest.0 rest.1 to.0 own.0 own.1 (step'.1 ∙ ap (λ o. Some (unwrap_or o n)) to.1) rest.2)

      by_case : Case told n (name_of n) (at n) → (last : ℕ) × (sum : ℕ) × Ends steps n last sum
      by_case (built found) = ends_here (ap (λ (x : Step). x.next) (step_none n own.0 own.1 found))
      by_case (other d found plain last') = ends_here (ap (λ (x : Step). x.next) (step_body n own.0 d own.1 found ∙ last'))
      by_case (to_simple d t found body it) = ends_here (adds_of own.0 it.a None (step_body n own.0 d own.1 found ∙ ap (step_of told n) body ∙ it.step)).1
      by_case (to_name d t found body it) = by_steps d t found body it f refl typed

  ends_of_type : (f : ℕ) (n : ℕ) (k : Kind) → Right n → type_named f ds (name_of n) ≡ Some k → (last : ℕ) × (sum : ℕ) × Ends steps n last sum
  ends_of_type zero n k right typed = one_step n k zero right typed (λ m j i same right' typed'. let bad : ⊥ = omega (arith, same) in absurd bad)
  ends_of_type (suc f) n k right typed = one_step n k (suc f) right typed (λ m j i same right' typed'.
      let one : j ≡ f = omega (arith, same) in
      ends_of_type f m i right' (subst (λ g. type_named g ds (name_of m) ≡ Some i) one typed'))

  leaf_flat : (n : ℕ) → (nesting (leaf_at n) ≡ 0) × (innermost (leaf_at n) ≡ leaf_at n)
  leaf_flat n = by_found (at n)
    where
      by_found : (o : Option Declared) → (nesting (leaf_if (name_of n) (option_map (λ e. e.body) o)) ≡ 0) × (innermost (leaf_if (name_of n) (option_map (λ e. e.body) o)) ≡ leaf_if (name_of n) (option_map (λ e. e.body) o))
      by_found (Some d) = leaf_low (name_of n) d.body
      by_found None = entity_low (name_of n) (find_entity (name_of n) built_in)

  -- the end of its chain tells the type that a name means
  pub end_is_type : (n : ℕ) (e : Option End) → Right n → IsEnd steps most n e → cut (name_type ds (name_of n)) ≡ ended_type (name_of n) leaf_at e
  unfolding name_type
  end_is_type n None right no_end = by_type (type_named (suc (length ds)) ds (name_of n)) refl
    where
      by_type : (o : Option Kind) → type_named (suc (length ds)) ds (name_of n) ≡ o → cut (unwrap_or o (kd.struct (name_of n))) ≡ kd.struct (name_of n)
      by_type None is = struct_cut (name_of n)
      by_type (Some k) is = let end = ends_of_type (suc (length ds)) n k right is in absurd (no_end end.0 end.1 end.2)
  end_is_type n (Some e) right (sum, same, ends) =
      let it = typed_of_end n e.last sum ends right in
      let flat = leaf_flat e.last in
      ap (λ o. cut (unwrap_or o (kd.struct (name_of n)))) (typed_enough ds it.steps_taken (name_of n) (sequences it.a (leaf_at e.last)) it.typed)
      ∙ cut_sequences it.a (leaf_at e.last) flat.0 flat.1
      ∙ ap (λ a. sequences a (leaf_at e.last)) (let cap = it.capped in let is : min 65 it.a ≡ e.sum = omega (arith, cap, same) in is)
