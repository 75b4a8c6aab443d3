-- What is asked of a setting: a sound registry, and a plan of which typed statements and offers are known.
use Rattle.std.specs.Prelude.{◌≡◌, ◌≤◌, ◌<◌, ◌^◌, true, List, [], length, map, Some, slice_get}
use Rattle.std.specs.List.{AllByRecursion}
use Rattle.uno_model.specs.BuiltIn.{HasBuiltIn, x_interface_name}
use Rattle.uno_model.specs.Entities.{Entity}
use Rattle.uno_model.specs.Registry.{find_entity}
use Rattle.uno_model.specs.Sound.{IsSound, all_differ}
use Rattle.plan_model.specs.Fitting.{serves_all}
use Rattle.plan_model.specs.Plans.{Plan, Behaviour, Offer, supports, first_objects}
use Rattle.plan_model.specs.Services.{constructors_of}
use Rattle.plan_typing.specs.Effects.{NamesDiffer}
use Rattle.plan_typing.specs.Statements.{IsTypedPlan}
use Rattle.bridge_laws.specs.Living.{plan_constants}
use Rattle.bridge_model.specs.Settings.{Setting}

-- a behaviour whose objects a service or a singleton gives out, and which supports XInterface
pub record OfferFits (reg : List Entity) (plan : Plan) (o : Offer) : Type 0 where
  pub behaviour : Behaviour
  pub found : slice_get plan.behaviours o.behaviour ≡ Some behaviour
  pub root : supports reg behaviour.faces x_interface_name ≡ true

-- a service's one has a field for each parameter of its constructors
pub record ServiceFits (reg : List Entity) (plan : Plan) (o : Offer) : Type 0 where
  pub behaviour : Behaviour
  pub found : slice_get plan.behaviours o.behaviour ≡ Some behaviour
  pub root : supports reg behaviour.faces x_interface_name ≡ true
  pub serves : serves_all (Some behaviour) (constructors_of (find_entity o.name reg)) ≡ true

-- no two fields of a behaviour have one name
abbrev pub FieldsDiffer : Behaviour → Type 0
FieldsDiffer b = all_differ (map (λ f. f.name) b.fields) ≡ true

pub record IsGiven (g : Setting) : Type 0 where
  pub sound : IsSound g.registry
  pub built : HasBuiltIn g.registry
  pub differ : NamesDiffer g.registry
  pub typed : IsTypedPlan g.registry g.plan
  pub constants : plan_constants g.plan ≡ []
  pub services : AllByRecursion (ServiceFits g.registry g.plan) g.plan.services
  pub singletons : AllByRecursion (OfferFits g.registry g.plan) g.plan.singletons
  pub fields : AllByRecursion FieldsDiffer g.plan.behaviours
  pub short : length g.tag ≤ 32
  pub roots : length g.plan.threads < 2 ^ 64
  pub behaviours : length g.plan.behaviours ≤ 256
  pub objects : length (first_objects g.plan) ≤ 1000000
