use Rattle.std.proofs.Common.{sym, ◌∙◌}
use Rattle.registry_reading_model.proofs.RulePlaces.{position_mapped}
use Rattle.registry_reading.specs.Heads.{plain_head}
use Rattle.registry_reading.proofs.heads.first_beyond.Goals as goal

pub returns-in_err-place-clause-none : goal.returns-in_err-place-clause-none
returns-in_err-place-clause-none c = λ _. sym (position_mapped plain_head (λ h. h.beyond) _) ∙ sym c.place_beyond.ensures ∙ c.in_err-place.was

pub returns-clause-some : goal.returns-clause-some
returns-clause-some c = (c.in_ok-place.place, sym (position_mapped plain_head (λ h. h.beyond) _) ∙ sym c.place_beyond.ensures ∙ c.in_ok-place.was, sym c.line_at.ensures)
