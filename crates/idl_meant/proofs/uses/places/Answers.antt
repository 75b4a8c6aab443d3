use Rattle.std.proofs.Common.{◌≡◌, ◌∙◌, IfOk, subst}
use Rattle.idl_model.specs.Places.{Place}
use Rattle.idl_values.specs.Told.{number_at, number_told}
use Rattle.idl_meant.proofs.uses.places.Goals as goal

pub returns : goal.returns
returns c =
    subst (λ ns. IfOk c.places_told.result (λ told. (p : Place) → number_at told.numbers p ≡ number_told ns p)) (c.as_slice.ensures.value ∙ c.in_ok-numbered.ensures) c.places_told.ensures
