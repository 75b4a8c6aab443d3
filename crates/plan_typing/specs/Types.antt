-- The types of what words stand for, and which expressions have a type there.
use Rattle.std.specs.Prelude.{◌≡◌, ◌≢◌, ℕ, IsTrue, List, [], ◌∷◌, ◌++◌, not, Option, None, Some}
use Rattle.std.specs.List.{find, filter}
use Rattle.std.specs.Option.{option_map}
use Rattle.std.specs.Str.{bytes_eq}
use Rattle.uno_model.specs.Entities.{Entity, Field, Param}
use Rattle.uno_model.specs.Fits.{Fits, IsTupleKind, member_kinds}
use Rattle.uno_model.specs.Kinds.{Kind}
use Rattle.uno_model.specs.Kinds as kd
use Rattle.uno_model.specs.Types.{is_type}
use Rattle.uno_model.specs.Values.{refs}
use Rattle.plan_model.specs.Contexts.{Scoped, kind_fits}
use Rattle.plan_model.specs.Expressions.{Word, variable, field, own, Expression, Expressions, constant, word, operation, any, tuple, list, bytes, none, more}
use Rattle.plan_model.specs.Typing.{is_whole}

-- the variables and fields with their types, and the interface of the own object
pub record Types : Type 0 where
  pub variables : List Scoped
  pub fields : List Field
  pub own : List ℕ

abbrev pub scoped : List ℕ → Types → Option Scoped
scoped name ts = find (λ x. bytes_eq name x.name) ts.variables

unfoldable pub variable_type : Types → List ℕ → Option Kind
variable_type ts name = option_map (λ x. x.kind) (scoped name ts)

unfoldable pub field_type : Types → List ℕ → Option Kind
field_type ts name = option_map (λ f. f.kind) (find (λ f. bytes_eq name f.name) ts.fields)

abbrev pub word_type : Types → Word → Option Kind
word_type ts (variable name) = variable_type ts name
word_type ts (field name) = field_type ts name
word_type ts own = Some (kd.interface ts.own)

-- ---- expressions

-- what a word stands for fits where its type does
pub record WordFits (reg : List Entity) (ts : Types) (w : Word) (k : Kind) : Type 0 where
  pub from : Kind
  pub typed : word_type ts w ≡ Some from
  pub fits : IsTrue (kind_fits reg k from)

-- a constant fits its type and has no object in it; the others by their parts
unfoldable mutual
  pub HasType : List Entity → Types → Expression → Kind → Type 0
  HasType reg ts (constant x) k = Fits reg x k × (refs x ≡ [])
  HasType reg ts (word w) k = WordFits reg ts w k
  HasType reg ts (operation op a b) k = IsTrue (is_whole k) × HasType reg ts a k × HasType reg ts b k
  HasType reg ts (any t a) k = (k ≡ kd.any) × (t ≢ kd.any) × IsTrue (is_type reg t) × HasType reg ts a t
  HasType reg ts (tuple name es) k = IsTupleKind name k × IsTrue (is_type reg k) × HaveTypes reg ts es (member_kinds reg name)
  HasType reg ts (list t es) k = (k ≡ kd.sequence t) × (t ≢ kd.byte) × IsTrue (is_type reg k) × AllHaveType reg ts es t
  HasType reg ts (bytes es) k = (k ≡ kd.sequence kd.byte) × AllHaveType reg ts es kd.byte

  -- each the type at its place
  pub HaveTypes : List Entity → Types → Expressions → List Kind → Type 0
  HaveTypes reg ts none [] = Unit
  HaveTypes reg ts none (k ∷ ks) = ⊥
  HaveTypes reg ts (more a es) [] = ⊥
  HaveTypes reg ts (more a es) (k ∷ ks) = HasType reg ts a k × HaveTypes reg ts es ks

  -- all the one type
  pub AllHaveType : List Entity → Types → Expressions → Kind → Type 0
  AllHaveType reg ts none k = Unit
  AllHaveType reg ts (more a es) k = HasType reg ts a k × AllHaveType reg ts es k
