use Rattle.std.proofs.Common.{◌∙◌, ap}
use Rattle.idl_meant.specs.Using.{numbered_from}
use Rattle.idl_values.specs.Told.{number_told}
use Rattle.idl_meant.proofs.uses.uses_of.Goals as goal

pub returns : goal.returns
returns c =
    record {
      are = c.in_ok-uses.ensures;
      placed = λ p. c.in_ok-places.ensures p ∙ ap (λ us. number_told (numbered_from 0 us) p) c.as_slice.ensures.value;
    }
