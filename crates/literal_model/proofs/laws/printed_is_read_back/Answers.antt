use Rattle.std.proofs.Common.{refl}
use Rattle.literal_model.proofs.VerdictLaws.{literal_is_found}
use Rattle.literal_model.specs.Literals.{print}
use Rattle.literal_model.proofs.laws.printed_is_read_back.Goals as goal

pub returns : goal.returns
returns c = λ reg k v sound fits closed sized. literal_is_found reg k (print reg v) v sound (record { fits = fits; closed = closed; printed = refl }) sized
