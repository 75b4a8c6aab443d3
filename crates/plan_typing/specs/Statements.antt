-- Which statements are typed, one after the other, and which plans are.
use Rattle.std.specs.Prelude.{◌≡◌, ℕ, true, false, not, IsTrue, List, [], ◌∷◌, ◌++◌, Option, None, Some, slice_get, ◌⊎◌}
use Rattle.std.specs.List.{AllByRecursion, filter}
use Rattle.std.specs.Str.{bytes_eq}
use Rattle.uno_model.specs.Entities.{Entity, Field, Param}
use Rattle.uno_model.specs.Fits.{IsInterface}
use Rattle.uno_model.specs.Functions.{Function}
use Rattle.uno_model.specs.Kinds.{Kind}
use Rattle.uno_model.specs.Kinds as kd
use Rattle.uno_model.specs.Types.{is_type}
use Rattle.uno_model.specs.declared.way.Way.TheVariants as way
use Rattle.plan_model.specs.Contexts.{Scoped, kind_fits, parameters, declared_function, called_function}
use Rattle.plan_model.specs.Expressions.{Word, Expression, Argument, into, out, both}
use Rattle.plan_model.specs.Plans.{Plan, Behaviour, Method, supports}
use Rattle.plan_model.specs.Statements.{Call, Query, Making, Test, Statement, let_variable, set_variable, set_field, call, query, make, drop_variable, when, return, raise, dispose}
use Rattle.plan_typing.specs.Types.{Types, scoped, variable_type, field_type, word_type, HasType}

-- ---- calls

-- a variable gets what comes out, where its type takes it; one that goes both ways is of the very type
pub record Gets (reg : List Entity) (ts : Types) (name : List ℕ) (k : Kind) : Type 0 where
  pub to : Kind
  pub typed : variable_type ts name ≡ Some to
  pub fits : IsTrue (kind_fits reg to k)

abbrev pub ArgumentFits : List Entity → Types → Param → Argument → Type 0
ArgumentFits reg ts p (into a) = (p.way ≡ way.Into) × HasType reg ts a p.kind
ArgumentFits reg ts p (out name) = (p.way ≡ way.Out) × Gets reg ts name p.kind
ArgumentFits reg ts p (both name) = (p.way ≡ way.Both) × (variable_type ts name ≡ Some p.kind)

unfoldable pub ArgumentsFit : List Entity → Types → List Param → List Argument → Type 0
ArgumentsFit reg ts [] [] = Unit
ArgumentsFit reg ts [] (a ∷ args) = ⊥
ArgumentsFit reg ts (p ∷ ps) [] = ⊥
ArgumentsFit reg ts (p ∷ ps) (a ∷ args) = ArgumentFits reg ts p a × ArgumentsFit reg ts ps args

-- the variable of a result takes it
abbrev pub ResultFits : List Entity → Kind → Option Field → Type 0
ResultFits reg k None = Unit
ResultFits reg k (Some x) = IsTrue (is_type reg x.kind) × IsTrue (kind_fits reg x.kind k)

pub record IsTypedCall (reg : List Entity) (ts : Types) (c : Call) : Type 0 where
  pub face : List ℕ
  pub function : Function
  pub target : word_type ts c.target ≡ Some (kd.interface face)
  pub found : called_function reg face c.callee.name ≡ Some function
  pub owner : c.callee.owner ≡ function.owner
  pub name : c.callee.name ≡ function.name
  pub arguments : ArgumentsFit reg ts function.params c.arguments
  pub result : ResultFits reg function.result_kind c.to

pub record IsTypedQuery (reg : List Entity) (ts : Types) (q : Query) : Type 0 where
  pub face : List ℕ
  pub target : word_type ts q.target ≡ Some (kd.interface face)
  pub wanted : IsInterface reg q.wanted

-- the behaviour is there and supports the interface
pub record IsTypedMaking (reg : List Entity) (plan : Plan) (m : Making) : Type 0 where
  pub behaviour : Behaviour
  pub found : slice_get plan.behaviours m.behaviour ≡ Some behaviour
  pub supported : supports reg behaviour.faces m.face ≡ true
  pub face : IsInterface reg m.face

-- ---- statements

-- what is returned is of the result's type, and left out where that is void
abbrev pub BackFits : List Entity → Types → Kind → Option Expression → Type 0
BackFits reg ts k None = k ≡ kd.void
BackFits reg ts k (Some a) = HasType reg ts a k

pub record TestFits (reg : List Entity) (ts : Types) (t : Test) : Type 0 where
  pub kind : Kind
  pub left : word_type ts t.left ≡ Some kind
  pub right : HasType reg ts t.right kind

-- an expression of the type of a name
pub record IsSet (reg : List Entity) (ts : Types) (found : Option Kind) (a : Expression) : Type 0 where
  pub kind : Kind
  pub typed : found ≡ Some kind
  pub value : HasType reg ts a kind

-- a name that may go: no parameter whose value comes out
abbrev pub MayGo : Option Scoped → Type 0
MayGo None = Unit
MayGo (Some x) = x.comes_out ≡ false

unfoldable pub IsTyped : List Entity → Plan → Function → Types → Statement → Type 0
IsTyped reg plan f ts (let_variable x a) = IsTrue (is_type reg x.kind) × HasType reg ts a x.kind
IsTyped reg plan f ts (set_variable name a) = IsSet reg ts (variable_type ts name) a
IsTyped reg plan f ts (set_field name a) = IsSet reg ts (field_type ts name) a
IsTyped reg plan f ts (call c) = IsTypedCall reg ts c
IsTyped reg plan f ts (query q) = IsTypedQuery reg ts q
IsTyped reg plan f ts (make m) = IsTypedMaking reg plan m
IsTyped reg plan f ts (drop_variable name) = MayGo (scoped name ts)
IsTyped reg plan f ts (when t back) = TestFits reg ts t × BackFits reg ts f.result_kind back
IsTyped reg plan f ts (return back) = BackFits reg ts f.result_kind back
IsTyped reg plan f ts (raise name a) = HasType reg ts a (kd.exception name)
IsTyped reg plan f ts dispose = Unit

-- the types behind a statement
abbrev pub with_type : List ℕ → Kind → Types → Types
with_type name k ts = record ts { variables = ts.variables ++ record { name = name; kind = k; comes_out = false } ∷ [] }

abbrev pub with_result : Option Field → Types → Types
with_result None ts = ts
with_result (Some x) ts = with_type x.name x.kind ts

unfoldable pub types_behind : Statement → Types → Types
types_behind (let_variable x a) ts = with_type x.name x.kind ts
types_behind (call c) ts = with_result c.to ts
types_behind (query q) ts = with_type q.to (kd.interface q.wanted) ts
types_behind (make m) ts = with_type m.to (kd.interface m.face) ts
types_behind (drop_variable name) ts = record ts { variables = filter (λ x. not (bytes_eq name x.name)) ts.variables }
types_behind s ts = ts

-- a statement that ends the method whatever it meets
abbrev pub Ends : Statement → Type 0
Ends (return back) = Unit
Ends (raise name a) = Unit
Ends s = ⊥

-- statements one after the other; a method that goes past its last one returns nothing
unfoldable pub AreTyped : List Entity → Plan → Function → Types → List Statement → Type 0
AreTyped reg plan f ts [] = f.result_kind ≡ kd.void
AreTyped reg plan f ts (s ∷ ss) = IsTyped reg plan f ts s × (Ends s ⊎ AreTyped reg plan f (types_behind s ts) ss)

-- ---- plans

-- the types where a method begins: its parameters, the fields of its behaviour, and the interface of its line
abbrev pub first_types : Behaviour → Method → Function → Types
first_types b m f = record { variables = parameters f.params; fields = b.fields; own = m.face }

pub record IsTypedMethod (reg : List Entity) (plan : Plan) (b : Behaviour) (m : Method) : Type 0 where
  pub function : Function
  pub found : declared_function reg m.face m.function ≡ Some function
  pub body : AreTyped reg plan function (first_types b m function) m.body

abbrev pub IsTypedField : List Entity → Field → Type 0
IsTypedField reg x = IsTrue (is_type reg x.kind)

pub record IsTypedBehaviour (reg : List Entity) (plan : Plan) (b : Behaviour) : Type 0 where
  pub fields : AllByRecursion (IsTypedField reg) b.fields
  pub methods : AllByRecursion (IsTypedMethod reg plan b) b.methods

abbrev pub IsTypedPlan : List Entity → Plan → Type 0
IsTypedPlan reg plan = AllByRecursion (IsTypedBehaviour reg plan) plan.behaviours
