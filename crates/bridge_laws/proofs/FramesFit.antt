-- Frames that fit: a method with variables of its types, a call that went out with its function, and below each of them what waits for its answer.
use Rattle.std.specs.Prelude.{◌≡◌, ℕ, suc, ◌+◌, ◌≤◌, ◌==◌, true, List, [], ◌∷◌, Option, None, Some}
use Rattle.std.specs.Option.{option_map}
use Rattle.message_model.specs.Messages.{Answer}
use Rattle.message_model.specs.Sayable.{AnswerFits, IsCalled, name_weight, answer_weight}
use Rattle.uno_model.specs.Entities.{Entity}
use Rattle.uno_model.specs.Fits.{IsInterface}
use Rattle.uno_model.specs.Functions.{Function}
use Rattle.uno_model.specs.Kinds as kd
use Rattle.uno_model.specs.Values.{own}
use Rattle.plan_model.specs.Contexts.{parameters}
use Rattle.plan_model.specs.Plans.{manager}
use Rattle.plan_model.specs.Frames.{Body, Frame, base, body, outgoing}
use Rattle.plan_model.specs.Holdings.{refs_under}
use Rattle.plan_model.specs.Statements.{Statement, call, query}
use Rattle.plan_typing.specs.Effects.{TypesStand}
use Rattle.plan_typing.specs.Going.{statement_at, RestTyped}
use Rattle.plan_typing.specs.Scenes.{VariablesFit}
use Rattle.plan_typing.specs.Statements.{IsTyped, IsTypedCall, types_behind}
use Rattle.plan_typing.specs.Types.{Types}
use Rattle.bridge_laws.specs.Counting.{total}
use Rattle.bridge_model.specs.Calls.{Unwound}
use Rattle.bridge_model.specs.Objects.{object_numbered, fields_of}
use Rattle.bridge_model.specs.References.{refs_of_answer}
use Rattle.bridge_model.specs.Settings.{Setting, own_oid}
use Rattle.bridge_model.specs.Sides.{Object}
use Rattle.bridge_laws.proofs.Fine.{wrong}
use Rattle.bridge_laws.proofs.TablesFit.{TablesFit}

-- the behaviour of the object of a number
unfoldable pub behaviour_at : ℕ → List Object → Option ℕ
behaviour_at n os = option_map (λ o. o.behaviour) (object_numbered n os)

-- a method of an object of a behaviour, with these types of its words
pub record BodyFits (g : Setting) (os : List Object) (b : Body) (n : ℕ) (f : Function) (ts : Types) : Type 0 where
  pub called : IsCalled g.registry b.face b.function f
  pub found : behaviour_at b.object os ≡ Some n
  pub fields : ts.fields ≡ fields_of g n
  pub itself : ts.own ≡ f.owner
  pub stand : TypesStand g.registry f ts
  pub variables : VariablesFit g.registry b.variables ts.variables
  pub fine : total (wrong g os) (refs_under b.variables) ≡ 0
  pub held : wrong g os (own (own_oid g b.object) b.face) ≡ 0

-- it is at the top of its stack: the statements from its place on are typed, and the service manager has none
pub record Runs (g : Setting) (os : List Object) (b : Body) : Type 0 where
  pub behaviour : ℕ
  pub function : Function
  pub types : Types
  pub fits : BodyFits g os b behaviour function types
  pub rest : RestTyped g.registry g.plan behaviour b.place b.face function types
  pub begun : (behaviour == manager) ≡ true → types.variables ≡ parameters function.params

-- a statement takes what a function returns
abbrev pub TakesFrom : List Entity → Types → Function → Statement → Type 0
TakesFrom reg ts called (call c) = (typed : IsTypedCall reg ts c) × (typed.function ≡ called)
TakesFrom reg ts called (query q) = IsInterface reg q.wanted × (called.result_kind ≡ kd.any)
TakesFrom reg ts called s = ⊥

-- it waits for the answer of a function
pub record Awaits (g : Setting) (os : List Object) (called : Function) (b : Body) : Type 0 where
  pub behaviour : ℕ
  pub function : Function
  pub types : Types
  pub statement : Statement
  pub fits : BodyFits g os b behaviour function types
  pub found : statement_at g.plan behaviour b.place function ≡ Some statement
  pub typed : IsTyped g.registry g.plan function types statement
  pub rest : RestTyped g.registry g.plan behaviour (suc b.place) b.face function (types_behind statement types)
  pub takes : TakesFrom g.registry types called statement

-- no method is at the top
abbrev pub Pauses : List Frame → Type 0
Pauses (body b ∷ fs) = ⊥
Pauses fs = Unit

-- frames, the top one first, of which the top one waits for the answer of a function, or none
unfoldable pub FramesFit : Setting → List Object → Option Function → List Frame → Type 0
FramesFit g os asked [] = Unit
FramesFit g os asked (base root ∷ fs) = Unit
FramesFit g os asked (outgoing o ∷ fs) = (f : Function) × IsCalled g.registry o.face o.function f × FramesFit g os (Some f) fs
FramesFit g os None (body b ∷ fs) = (r : Runs g os b) × (b.from_peer ≡ true → Pauses fs) × FramesFit g os (Some r.function) fs
FramesFit g os (Some f) (body b ∷ fs) = (r : Awaits g os f b) × (b.from_peer ≡ true → Pauses fs) × FramesFit g os (Some r.function) fs

-- an answer to a function that may be handed down
pub record AnswerComes (g : Setting) (os : List Object) (f : Function) (a : Answer) : Type 0 where
  pub fits : AnswerFits g.registry f a
  pub fine : total (wrong g os) (refs_of_answer a) ≡ 0

-- one that may go on a thread too
pub record AnswerGoes (g : Setting) (os : List Object) (tid : List ℕ) (f : Function) (a : Answer) : Type 0 where
  pub fits : AnswerFits g.registry f a
  pub light : 1 + (name_weight tid + answer_weight a) ≤ 16777216
  pub fine : total (wrong g os) (refs_of_answer a) ≡ 0

-- frames and tables that fit
pub record UnwoundFits (g : Setting) (os : List Object) (made : ℕ) (u : Unwound) : Type 0 where
  pub frames : FramesFit g os None u.frames
  pub tables : TablesFit g os made u.tables
