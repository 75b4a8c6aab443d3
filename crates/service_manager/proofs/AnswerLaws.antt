-- What each exit answers.
use Rattle.std.proofs.Common.{◌≡◌, Result, Ok, Err, refl}
use Rattle.plan_model.specs.Services as plain
use Rattle.plan_model.specs.declared.refusal.Refusal.{Refusal}
use Rattle.plan_model.specs.declared.refusal.Refusal.TheVariants as refusal
use Rattle.service_manager.specs.declared.created.Created.{Created}
use Rattle.service_manager.specs.declared.created.CreateError.TheVariants as error
use Rattle.service_manager.specs.Created.{created_of}
use Rattle.service_manager.specs.Answers.{IsAnswer}

pub is_made : (c : Created) (wanted : Result plain.Created Refusal) → wanted ≡ Ok (created_of c) → IsAnswer (Ok c) wanted
is_made c wanted is = record { made = is; unknown = (λ e. let bad : ⊥ = cc in absurd bad, λ e. let bad : ⊥ = cc in absurd bad); bad = (λ e. let bad : ⊥ = cc in absurd bad, λ e. let bad : ⊥ = cc in absurd bad) }

pub is_bad : (wanted : Result plain.Created Refusal) → wanted ≡ Err refusal.BadArguments → IsAnswer (Err error.BadArguments) wanted
is_bad wanted is = record { made = tt; unknown = (λ e. let bad : ⊥ = cc in absurd bad, λ e. let bad : ⊥ = cc in absurd bad); bad = (λ _. is, λ _. refl) }

pub is_unknown : (wanted : Result plain.Created Refusal) → wanted ≡ Err refusal.UnknownService → IsAnswer (Err error.UnknownService) wanted
is_unknown wanted is = record { made = tt; unknown = (λ _. is, λ _. refl); bad = (λ e. let bad : ⊥ = cc in absurd bad, λ e. let bad : ⊥ = cc in absurd bad) }

pub is_refused_for_memory : (c : plain.Created) (wanted : Result plain.Created Refusal) → wanted ≡ Ok c → IsAnswer (Err error.NoMemory) wanted
is_refused_for_memory c wanted is = record { made = tt; unknown = (λ e. let bad : ⊥ = cc in absurd bad, λ e. let bad : ⊥ = cc in absurd bad); bad = (λ e. let bad : ⊥ = cc in absurd bad, λ e. let bad : ⊥ = cc in absurd bad) }
