-- What frames ask, over any statement: the laws as they are told.
use Rattle.std.proofs.Common.{◌≡◌, ◌≤◌, ℕ, true, List, Some, Ok, slice_get}
use Rattle.std.specs.List.{AllByRecursion}
use Rattle.message_model.specs.Calls.{numbered}
use Rattle.uno_model.specs.BuiltIn.{HasBuiltIn}
use Rattle.uno_model.specs.Entities.{Entity}
use Rattle.uno_model.specs.Fits.{Fits}
use Rattle.uno_model.specs.Functions.{Function}
use Rattle.uno_model.specs.Kinds.{Kind}
use Rattle.uno_model.specs.Sound.{IsSound}
use Rattle.uno_model.specs.Types.{is_type}
use Rattle.uno_model.specs.Values.{Plain, depth}
use Rattle.uno_model.specs.Weights.{weight}
use Rattle.plan_model.specs.Asking.{Running}
use Rattle.plan_model.specs.Effects.{statement_effect, method_for}
use Rattle.plan_model.specs.Evaluation.{Scene, evaluated}
use Rattle.plan_model.specs.Expressions.{Expression}
use Rattle.plan_model.specs.Plans.{Plan, Behaviour, Method}
use Rattle.plan_model.specs.Statements.{Statement}
use Rattle.plan_typing.specs.Effects.{NamesDiffer, RunFits, EffectFits}
use Rattle.plan_typing.specs.Scenes.{SceneFits}
use Rattle.plan_typing.specs.Statements.{IsTyped, AreTyped, types_behind, first_types, IsTypedField, IsTypedPlan}
use Rattle.plan_typing.specs.Types.{Types, HasType}
use Rattle.plan_typing.proofs.EffectPlaces.{numbered_declared, method_typed}
use Rattle.plan_typing.proofs.EffectStatements.{statement_fits}
use Rattle.plan_typing.proofs.EffectValues.{evaluates}
use Rattle.plan_typing.proofs.ValueFits.{value_fits}

module _ (reg : List Entity) where
  pub asked_fits : IsSound reg → HasBuiltIn reg → NamesDiffer reg → (plan : Plan) (r : Running) (ts : Types) → RunFits reg r ts → (s : Statement) → IsTyped reg plan r.function ts s
      → EffectFits reg plan r.function r.tid ts (types_behind s ts) r.scene (statement_effect reg r s)
  asked_fits sound built differ plan r ts fit s typed = statement_fits reg sound built plan r ts fit differ s typed

  pub evaluated_fits : IsSound reg → (s : Scene) (ts : Types) → SceneFits reg s ts → (e : Expression) (k : Kind) (x : Plain) → is_type reg k ≡ true → HasType reg ts e k
      → evaluated s e ≡ Ok x → Fits reg x k × (weight x ≤ 16777216) × (depth x ≤ 64)
  evaluated_fits sound s ts fit e k x there typed is =
      let value = evaluates s e x is in
      (value_fits reg sound s ts fit e k x there typed value.is, value.light, value.flat)

  pub method_of_function : NamesDiffer reg → (plan : Plan) (n : ℕ) (b : Behaviour) (m : Method) (face : List ℕ) (number : ℕ) (f : Function) → IsTypedPlan reg plan
      → slice_get plan.behaviours n ≡ Some b → method_for f b.methods ≡ Some m → numbered reg face number ≡ Some f
      → (m.face ≡ f.owner) × AreTyped reg plan f (first_types b m f) m.body × AllByRecursion (IsTypedField reg) b.fields
  method_of_function differ plan n b m face number f typed at found is =
      method_typed reg differ plan n b m f typed at found (numbered_declared reg differ face number f is)
