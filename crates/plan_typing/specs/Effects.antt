-- What an effect asks, where it fits: values for the frame's own variables and fields, calls of functions that are there with arguments of their types, and answers.
use Rattle.std.specs.Prelude.{◌≡◌, ◌≢◌, ℕ, ◌≤◌, ◌<◌, ◌^◌, true, List, [], ◌∷◌, map, Contains, Some, slice_get}
use Rattle.std.specs.List.{AllByRecursion, find}
use Rattle.std.specs.Str.{bytes_eq}
use Rattle.message_model.specs.Calls.{comes, numbered, argument_kinds, acquire_number, release_number}
use Rattle.message_model.specs.Messages.{returned, raised, request}
use Rattle.message_model.specs.Sayable.{AnswerFits, Fill, message_weight}
use Rattle.uno_model.specs.Entities.{Entity, Param}
use Rattle.uno_model.specs.Fits.{IsInterface}
use Rattle.uno_model.specs.Functions.{Function, declared_by}
use Rattle.uno_model.specs.Kinds as kd
use Rattle.uno_model.specs.Registry.{find_entity}
use Rattle.uno_model.specs.Sound.{all_differ}
use Rattle.uno_model.specs.Values.{Ref, null, own, peer, Plain}
use Rattle.uno_model.specs.Values as v
use Rattle.plan_model.specs.Asking.{Effect, Running, lets, sets, sets_field, drops, skips, calls, queries, makes, disposes, creates, returns, raises}
use Rattle.plan_model.specs.Contexts.{Scoped}
use Rattle.plan_model.specs.Evaluation.{Scene}
use Rattle.plan_model.specs.Holdings.{variables_after, fields_after}
use Rattle.plan_model.specs.Plans.{Plan, Behaviour, supports}
use Rattle.plan_typing.specs.Answers.{VariablesTyped}
use Rattle.plan_typing.specs.Scenes.{VariablesFit, FieldsFit, SceneFits}
use Rattle.plan_typing.specs.Statements.{IsTypedField}
use Rattle.plan_typing.specs.Types.{Types}

-- ---- registries in which names tell functions and parameters apart, as those of all texts do

-- no two functions that an interface declares have one name, and no two parameters of a function
pub record NamesDiffer (reg : List Entity) : Type 0 where
  pub functions : (owner : List ℕ) (f g : Function) → Contains (declared_by owner (find_entity owner reg)) f → Contains (declared_by owner (find_entity owner reg)) g
      → f.name ≡ g.name → f ≡ g
  pub params : (owner : List ℕ) (f : Function) → Contains (declared_by owner (find_entity owner reg)) f → all_differ (map (λ p. p.name) f.params) ≡ true

-- ---- frames that run

-- a parameter whose value comes out is known under its name, with its type
abbrev pub OutStays : Param → List Scoped → Type 0
OutStays p ts = comes p.way ≡ true → find (λ x. bytes_eq p.name x.name) ts ≡ Some (record { name = p.name; kind = p.kind; comes_out = true })

unfoldable pub OutsStay : List Param → List Scoped → Type 0
OutsStay ps ts = AllByRecursion (λ p. OutStays p ts) ps

-- types of a frame's words: of the registry, with the function's parameters that come out still among them
pub record TypesStand (reg : List Entity) (f : Function) (ts : Types) : Type 0 where
  pub variables : VariablesTyped reg ts.variables
  pub fields : AllByRecursion (IsTypedField reg) ts.fields
  pub outs : OutsStay f.params ts.variables

-- a frame that runs: its function is that of its number, its types stand, and what its words stand for fits them
pub record RunFits (reg : List Entity) (r : Running) (ts : Types) : Type 0 where
  pub found : numbered reg r.face r.number ≡ Some r.function
  pub stand : TypesStand reg r.function ts
  pub scene : SceneFits reg r.scene ts

-- ---- calls

-- a call of a function of an object's interface: it is called like others, its arguments have the types of its parameters, and its request is not too heavy
pub record CallFits (reg : List Entity) (tid oid face : List ℕ) (function : ℕ) (args : List Plain) : Type 0 where
  pub called : Function
  pub interface : IsInterface reg face
  pub found : numbered reg face function ≡ Some called
  pub small : function < 2 ^ 16
  pub no_acquire : function ≢ acquire_number
  pub no_release : function ≢ release_number
  pub arguments : Fill reg args (argument_kinds called)
  pub light : message_weight (request tid oid face function args) ≤ 16777216

abbrev pub TargetFits : List Entity → (tid : List ℕ) → Ref → ℕ → List Plain → Type 0
TargetFits reg tid null function args = ⊥
TargetFits reg tid (own oid face) function args = CallFits reg tid oid face function args
TargetFits reg tid (peer oid face) function args = CallFits reg tid oid face function args

-- ---- effects

-- a new object is of a behaviour that supports the interface
pub record MakingFits (reg : List Entity) (plan : Plan) (behaviour : ℕ) (face : List ℕ) : Type 0 where
  pub made : Behaviour
  pub found : slice_get plan.behaviours behaviour ≡ Some made
  pub supported : supports reg made.faces face ≡ true
  pub interface : IsInterface reg face

-- of a frame of a function, on a thread, with these types of its words before the statement and behind it
unfoldable pub EffectFits : List Entity → Plan → Function → (tid : List ℕ) → (before behind : Types) → Scene → Effect → Type 0
EffectFits reg plan f tid ts us s (lets x) = VariablesFit reg (variables_after (lets x) s.variables) us.variables
EffectFits reg plan f tid ts us s (sets x) = VariablesFit reg (variables_after (sets x) s.variables) us.variables
EffectFits reg plan f tid ts us s (sets_field x) = VariablesFit reg s.variables us.variables × FieldsFit reg (fields_after (sets_field x) s.fields) ts.fields
EffectFits reg plan f tid ts us s (drops name) = VariablesFit reg (variables_after (drops name) s.variables) us.variables
EffectFits reg plan f tid ts us s skips = VariablesFit reg s.variables us.variables
EffectFits reg plan f tid ts us s (calls target function args to) = TargetFits reg tid target function args
EffectFits reg plan f tid ts us s (queries target wanted to) = TargetFits reg tid target 0 (v.kind (kd.interface wanted) ∷ [])
EffectFits reg plan f tid ts us s (makes behaviour face to) = MakingFits reg plan behaviour face
EffectFits reg plan f tid ts us s disposes = Unit
EffectFits reg plan f tid ts us s (creates name args) = Unit
EffectFits reg plan f tid ts us s (returns x outs) = AnswerFits reg f (returned x outs)
EffectFits reg plan f tid ts us s (raises k x) = AnswerFits reg f (raised k x)
