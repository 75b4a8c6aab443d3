-- What a call answers that is to create something.
use Rattle.std.specs.Prelude.{◌≡◌, ◌↔◌, List, Option, None, Some, slice_get, Result, Ok, Err, IfOk}
use Rattle.uno_model.specs.Entities.{Entity}
use Rattle.plan_model.specs.Frames.{Variable}
use Rattle.plan_model.specs.Plans.{Plan, Offer}
use Rattle.plan_model.specs.Services as plain
use Rattle.plan_model.specs.declared.refusal.Refusal.{Refusal}
use Rattle.plan_model.specs.declared.refusal.Refusal.TheVariants as refusal
use Rattle.service_manager.specs.declared.created.Created.{Created}
use Rattle.service_manager.specs.declared.created.CreateError.{CreateError}
use Rattle.service_manager.specs.declared.created.CreateError.TheVariants as error
use Rattle.service_manager.specs.Created.{created_of}

-- what is made is what is to be made, and each refusal comes exactly where it is to come
pub record IsAnswer (result : Result Created CreateError) (wanted : Result plain.Created Refusal) : Type 0 where
  pub made : IfOk result (λ c. wanted ≡ Ok (created_of c))
  pub unknown : (result ≡ Err error.UnknownService) ↔ (wanted ≡ Err refusal.UnknownService)
  pub bad : (result ≡ Err error.BadArguments) ↔ (wanted ≡ Err refusal.BadArguments)

-- what is created has the values of the fields that were given, and the defaults of the others
abbrev pub IsFresh : List Entity → Plan → Offer → Option (List Variable) → plain.Created → Type 0
IsFresh reg plan o None c = ⊥
IsFresh reg plan o (Some xs) c = c ≡ plain.fresh o.behaviour (plain.fields_with reg xs (plain.fields_of_behaviour (slice_get plan.behaviours o.behaviour)))
