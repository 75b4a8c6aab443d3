-- Statements that are typed as far as they stand, and methods that end rightly.
use Rattle.std.proofs.Common.{◌≡◌, refl, sym, ap, ◌∙◌, ℕ, Bool, true, false, not, ◌&&◌, ◌||◌, List, [], ◌∷◌, ◌++◌, Option, None, Some, ◌⊎◌, inl, inr, if◌then◌else◌}
use Rattle.std.specs.List.{list_all, filter, AllByRecursion}
use Rattle.std.specs.Str.{bytes_eq}
use Rattle.std.proofs.lemmas.Bool.{and_parts, and_from}
use mathlib.Core.Path.{subst}
use Rattle.uno_model.specs.Codes.{same_kind}
use Rattle.uno_model.specs.Entities.{Entity, Field}
use Rattle.uno_model.specs.Functions.{Function}
use Rattle.uno_model.specs.Kinds.{Kind}
use Rattle.uno_model.specs.Kinds as kd
use Rattle.uno_model.specs.Types.{is_type}
use Rattle.uno_model.proofs.AllLaws.{all_append}
use Rattle.uno_model.proofs.CodeLaws.{same_kind_told}
use Rattle.plan_model.specs.Building.{behind_statement}
use Rattle.plan_model.specs.Building as building
use Rattle.plan_model.specs.Contexts.{Scoped, Block, Context}
use Rattle.plan_model.specs.LinePlaces.{is_void, ends_frame, last_ends, is_whole_method}
use Rattle.plan_model.specs.Plans.{Plan, Method}
use Rattle.plan_model.specs.Statements.{Statement}
use Rattle.plan_model.specs.Statements as s
use Rattle.plan_typing.specs.Statements.{ResultFits, IsTyped, with_type, with_result, types_behind, Ends, AreTyped}
use Rattle.plan_typing.specs.Types.{Types}
use Rattle.plan_typing.proofs.FramePuts.{are_types}

module _ (reg : List Entity) (plan : Plan) (f : Function) where
  -- ---- statements so far

  -- from the first types on, each statement is typed, and the last types stand behind them
  abbrev pub SoFar : Types → List Statement → Types → Type 0
  SoFar ts [] us = ts ≡ us
  SoFar ts (x ∷ xs) us = IsTyped reg plan f ts x × SoFar (types_behind x ts) xs us

  pub one_more : (ts us : Types) (xs : List Statement) (x : Statement) → SoFar ts xs us → IsTyped reg plan f us x → SoFar ts (xs ++ x ∷ []) (types_behind x us)
  one_more ts us [] x so_far is = (subst (λ z. IsTyped reg plan f z x) (sym so_far) is, ap (types_behind x) so_far)
  one_more ts us (y ∷ ys) x so_far is = (so_far.0, one_more (types_behind y ts) us ys x so_far.1 is)

  -- ---- the end

  ends : (x : Statement) → ends_frame x ≡ true → Ends x
  ends (s.return back) is = tt
  ends (s.raise name a) is = tt
  ends _ is = absurd (cc)

  void_typed : (ts us : Types) (xs : List Statement) → SoFar ts xs us → f.result_kind ≡ kd.void → AreTyped reg plan f ts xs
  unfolding AreTyped
  void_typed ts us [] so_far void = void
  void_typed ts us (x ∷ xs) so_far void = (so_far.0, inr (void_typed (types_behind x ts) us xs so_far.1 void))

  ended_typed : (ts us : Types) (xs : List Statement) → SoFar ts xs us → last_ends xs ≡ true → AreTyped reg plan f ts xs
  unfolding AreTyped last_ends
  ended_typed ts us [] so_far is = absurd (cc)
  ended_typed ts us (x ∷ []) so_far is = (so_far.0, inl (ends x is))
  ended_typed ts us (x ∷ (y ∷ ys)) so_far is = (so_far.0, inr (ended_typed (types_behind x ts) us (y ∷ ys) so_far.1 is))

  pub whole_typed : (ts us : Types) (m : Method) → SoFar ts m.body us → is_whole_method m f ≡ true → AreTyped reg plan f ts m.body
  whole_typed ts us m so_far whole = by_void (is_void f) refl whole
    where
      by_void : (b : Bool) → is_void f ≡ b → (b || last_ends m.body) ≡ true → AreTyped reg plan f ts m.body
      by_void true void is = void_typed ts us m.body so_far ((same_kind_told f.result_kind kd.void).0 void)
      by_void false other is = ended_typed ts us m.body so_far is

  -- ---- the types behind a statement

  added_types : (name : List ℕ) (k : Kind) (ts : Types) → are_types reg ts.variables ≡ true → is_type reg k ≡ true → are_types reg (with_type name k ts).variables ≡ true
  added_types name k ts types there =
      all_append (λ t. is_type reg t.kind) ts.variables (record { name = name; kind = k; comes_out = false } ∷ []) types (and_from (is_type reg k) true there refl)

  result_types : (k : Kind) (to : Option Field) (ts : Types) → are_types reg ts.variables ≡ true → ResultFits reg k to → are_types reg (with_result to ts).variables ≡ true
  result_types k None ts types fits = types
  result_types k (Some x) ts types fits = added_types x.name x.kind ts types fits.0

  left_types : (p : Scoped → Bool) (xs : List Scoped) → are_types reg xs ≡ true → are_types reg (filter p xs) ≡ true
  left_types p [] types = refl
  left_types p (x ∷ xs) types = by_test (p x) (left_types p xs parts.1)
    where
      parts : (is_type reg x.kind ≡ true) × (are_types reg xs ≡ true)
      parts = and_parts (is_type reg x.kind) (are_types reg xs) types

      by_test : (b : Bool) → are_types reg (filter p xs) ≡ true → are_types reg (if b then x ∷ filter p xs else filter p xs) ≡ true
      by_test true rest = and_from (is_type reg x.kind) (are_types reg (filter p xs)) parts.0 rest
      by_test false rest = rest

  pub types_kept : (x : Statement) (ts : Types) → are_types reg ts.variables ≡ true → IsTyped reg plan f ts x → are_types reg (types_behind x ts).variables ≡ true
  unfolding IsTyped types_behind
  types_kept (s.let_variable y a) ts types is = added_types y.name y.kind ts types is.0
  types_kept (s.call c) ts types is = result_types is.function.result_kind c.to ts types is.result
  types_kept (s.query q) ts types is = added_types q.to (kd.interface q.wanted) ts types is.wanted
  types_kept (s.make m) ts types is = added_types m.to (kd.interface m.face) ts types is.face
  types_kept (s.drop_variable name) ts types is = left_types (λ y. not (bytes_eq name y.name)) ts.variables types
  types_kept _ ts types is = types

-- ---- the variables behind a statement are those of its types

module _ (q : Plan) (bl : Block) (vs : List Scoped) (fs : List Field) (own : List ℕ) where
  result_is : (to : Option Field)
      → with_result to (record { variables = vs; fields = fs; own = own })
      ≡ record { variables = (building.with_result to (record { plan = q; block = bl; variables = vs })).variables; fields = fs; own = own }
  result_is None = refl
  result_is (Some x) = refl

  pub types_are : (x : Statement)
      → types_behind x (record { variables = vs; fields = fs; own = own })
      ≡ record { variables = (behind_statement x (record { plan = q; block = bl; variables = vs })).variables; fields = fs; own = own }
  unfolding types_behind
  types_are (s.let_variable y a) = refl
  types_are (s.call c) = result_is c.to
  types_are (s.query y) = refl
  types_are (s.make m) = refl
  types_are (s.drop_variable name) = refl
  types_are _ = refl
