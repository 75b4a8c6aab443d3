-- What the service manager creates, and what it raises where it creates nothing.
use Rattle.std.proofs.Common.{◌≡◌, ℕ, suc, ◌+◌, List, length, map, Result, Ok, Err, codes, sym, ap, subst, ◌∙◌, arith}
use Rattle.std.specs.Prelude.{OnOk}
use Rattle.std.proofs.lemmas.List.{length-map}
use Rattle.message_model.specs.Messages.{raised}
use Rattle.uno_model.specs.BuiltIn.{exception_name}
use Rattle.uno_model.specs.Kinds as kd
use Rattle.uno_model.specs.Values.{Plain}
use Rattle.plan_model.specs.Frames.{Body, Frame}
use Rattle.plan_model.specs.Leaving.{leaving_frame}
use Rattle.plan_model.specs.Plans.{singleton_object}
use Rattle.plan_model.specs.Services.{Created, created, fresh, singleton, refusal_message}
use Rattle.plan_model.specs.declared.refusal.Refusal.{Refusal}
use Rattle.plan_model.specs.declared.refusal.Refusal.TheVariants.{UnknownService, BadArguments}
use Rattle.plan_types.specs.Plans.{export_of, plan_of}
use Rattle.plan_types.specs.declared.plan.Plan.{Plan}
use Rattle.bridge_model.specs.Applying.{applies_creating, returns_object}
use Rattle.bridge_model.specs.Handing.{ends_frame}
use Rattle.bridge_model.specs.Objects.{makes_object}
use Rattle.bridge_model.specs.Settings.{Setting}
use Rattle.bridge_model.specs.Sides.{Tables}
use Rattle.bridge_frames.specs.Refusing.{refused}

-- the same result, told otherwise
pub on_same : {A E X : Type 0} (r : Result A E) (after x y : X) → x ≡ y → OnOk r (after ≡ x) → OnOk r (after ≡ y)
on_same r after x y same here = subst (λ z. OnOk r (after ≡ z)) same here

-- the number of the object of a singleton
pub singleton_numbered : (p : Plan) (place many n : ℕ) → many ≡ length p.exports.items → n ≡ many + 2 + place → n ≡ singleton_object (plan_of p) place
unfolding singleton_object
singleton_numbered p place many n count is =
    let mapped : length (map export_of p.exports.items) ≡ length p.exports.items = length-map p.exports.items export_of in
    omega (arith, mapped, count, is)

-- ---- by what is created

module _ (g : Setting) (tid : List ℕ) (b : Body) (name spelled : List ℕ) (args : List Plain) (fs : List Frame) (t : Tables) (same : spelled ≡ name) where
  applied : (r : Result Created Refusal) → created g.plan g.registry spelled args ≡ r → applies_creating g tid b name r fs t ≡ applies_creating g tid b name (created g.plan g.registry name args) fs t
  applied r is = ap (λ z. applies_creating g tid b name z fs t) (sym is ∙ ap (λ x. created g.plan g.registry x args) same)

  pub fresh_applied : (behaviour : ℕ) (fields : List Plain) → created g.plan g.registry spelled args ≡ Ok (fresh behaviour fields)
      → returns_object g tid b (suc t.objects_made) fs (makes_object behaviour fields t) ≡ applies_creating g tid b name (created g.plan g.registry name args) fs t
  unfolding applies_creating
  fresh_applied behaviour fields is = applied (Ok (fresh behaviour fields)) is

  pub singleton_applied : (place n : ℕ) → created g.plan g.registry spelled args ≡ Ok (singleton place) → n ≡ singleton_object g.plan place
      → returns_object g tid b n fs t ≡ applies_creating g tid b name (created g.plan g.registry name args) fs t
  unfolding applies_creating
  singleton_applied place n is number = ap (λ k. returns_object g tid b k fs t) number ∙ applied (Ok (singleton place)) is

  pub unknown_applied : created g.plan g.registry spelled args ≡ Err UnknownService
      → ends_frame g tid b (leaving_frame g.registry tid b (raised (kd.exception exception_name) (refused (codes "unknown service ") name))) fs t ≡ applies_creating g tid b name (created g.plan g.registry name args) fs t
  unfolding applies_creating refusal_message
  unknown_applied is = applied (Err UnknownService) is

  pub bad_applied : created g.plan g.registry spelled args ≡ Err BadArguments
      → ends_frame g tid b (leaving_frame g.registry tid b (raised (kd.exception exception_name) (refused (codes "bad arguments ") name))) fs t ≡ applies_creating g tid b name (created g.plan g.registry name args) fs t
  unfolding applies_creating refusal_message
  bad_applied is = applied (Err BadArguments) is
