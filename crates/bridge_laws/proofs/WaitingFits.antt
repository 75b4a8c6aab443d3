-- The statement that waits for an answer, the types behind it, and frames under a call of the peer's.
use Rattle.std.proofs.Common.{◌≡◌, ℕ, ◌==◌, Bool, true, false, if◌then◌else◌, List, [], ◌∷◌, Option, None, Some, slice_get, refl, ap, ◌∙◌}
use Rattle.std.specs.Option.{option_map}
use Rattle.message_model.specs.Calls.{numbered}
use Rattle.uno_model.specs.Entities.{Field}
use Rattle.uno_model.specs.Functions.{Function}
use Rattle.plan_model.specs.Effects.{method_for, methods_of}
use Rattle.plan_model.specs.Frames.{Body, Frame, base, body, outgoing}
use Rattle.plan_model.specs.Plans.{Method, manager}
use Rattle.plan_model.specs.Statements.{Statement, call, query}
use Rattle.plan_model.specs.Statements as st
use Rattle.plan_typing.specs.Going.{at_place, statement_at}
use Rattle.plan_typing.specs.Statements.{types_behind, with_result}
use Rattle.plan_typing.specs.Types.{Types}
use Rattle.bridge_model.specs.Handing.{behaviour_of, statement_in, statement_of_function, taken_by, goes_on_taking, goes_on_with, root_gets, lets_go_frame, answers_peer, holder_of, gains_with, gains_below, takes_with, takes_below, hands_over, hands, after_letting_go, hands_down, ends_frame, hands_from_peer}
use Rattle.bridge_model.specs.Handing as handing
use Rattle.bridge_model.specs.Objects.{object_numbered}
use Rattle.bridge_model.specs.Settings.{Setting}
use Rattle.bridge_model.specs.Sides.{Object}
use Rattle.bridge_laws.proofs.FramesFit.{behaviour_at, Pauses, FramesFit}

-- ---- the statement that waits

-- an object that is found with its behaviour
pub record Found (m n : ℕ) (os : List Object) : Type 0 where
  pub object : Object
  pub there : object_numbered m os ≡ Some object
  pub behaves : object.behaviour ≡ n

found_in : (m n : ℕ) (os : List Object) (o : Option Object) → object_numbered m os ≡ o → option_map (λ o. o.behaviour) o ≡ Some n → Found m n os
found_in m n os None there is = absurd (cc)
found_in m n os (Some o) there is = record { object = o; there = there; behaves = cc }

pub found_object : (m n : ℕ) (os : List Object) → behaviour_at m os ≡ Some n → Found m n os
unfolding behaviour_at
found_object m n os is = found_in m n os (object_numbered m os) refl is

same_place : (place : ℕ) (m : Option Method) → statement_in place m ≡ at_place place m
same_place place None = refl
same_place place (Some m) = refl

written_by : (g : Setting) (n place : ℕ) (f : Function) (s : Statement) (b : Bool)
    → at_place place (if b then None else method_for f (methods_of (slice_get g.plan.behaviours n))) ≡ Some s
    → at_place place (method_for f (methods_of (slice_get g.plan.behaviours n))) ≡ Some s
written_by g n place f s true is = absurd (cc)
written_by g n place f s false is = is

-- the service manager has no statements
pub no_statement : (g : Setting) (n place : ℕ) (f : Function) (s : Statement) (b : Bool) → b ≡ true
    → at_place place (if b then None else method_for f (methods_of (slice_get g.plan.behaviours n))) ≡ Some s → ⊥
no_statement g n place f s true manages is = absurd (cc)
no_statement g n place f s false manages is = absurd (cc)

pub statement_is : (g : Setting) (os : List Object) (b : Body) (n : ℕ) (f : Function) (s : Statement) → numbered g.registry b.face b.function ≡ Some f
    → behaviour_at b.object os ≡ Some n → statement_at g.plan n b.place f ≡ Some s → handing.statement_at g os b ≡ Some s
unfolding handing.statement_at
statement_is g os b n f s found at is =
    let object = found_object b.object n os at in
    ap (statement_of_function g os b) found
    ∙ (ap (λ o. statement_in b.place (method_for f (methods_of (behaviour_of g o)))) object.there
    ∙ (ap (λ k. statement_in b.place (method_for f (methods_of (slice_get g.plan.behaviours k)))) object.behaves
    ∙ (same_place b.place (method_for f (methods_of (slice_get g.plan.behaviours n))) ∙ written_by g n b.place f s (n == manager) is)))

-- ---- the types behind a statement

result_fields : (to : Option Field) (ts : Types) → (with_result to ts).fields ≡ ts.fields
result_fields None ts = refl
result_fields (Some x) ts = refl

result_own : (to : Option Field) (ts : Types) → (with_result to ts).own ≡ ts.own
result_own None ts = refl
result_own (Some x) ts = refl

pub behind_fields : (s : Statement) (ts : Types) → (types_behind s ts).fields ≡ ts.fields
unfolding types_behind
behind_fields (st.let_variable x a) ts = refl
behind_fields (call c) ts = result_fields c.to ts
behind_fields (query q) ts = refl
behind_fields (st.make m) ts = refl
behind_fields (st.drop_variable name) ts = refl
behind_fields s ts = refl

pub behind_own : (s : Statement) (ts : Types) → (types_behind s ts).own ≡ ts.own
unfolding types_behind
behind_own (st.let_variable x a) ts = refl
behind_own (call c) ts = result_own c.to ts
behind_own (query q) ts = refl
behind_own (st.make m) ts = refl
behind_own (st.drop_variable name) ts = refl
behind_own s ts = refl

-- ---- frames

-- under a frame that the peer called no method waits for this end
pub paused : (g : Setting) (os : List Object) (f : Function) (fs : List Frame) → Pauses fs → FramesFit g os (Some f) fs → FramesFit g os None fs
unfolding FramesFit
paused g os f [] rests fit = fit
paused g os f (base root ∷ fs) rests fit = fit
paused g os f (outgoing o ∷ fs) rests fit = fit
paused g os f (body b ∷ fs) rests fit = absurd rests
