use Rattle.std.proofs.Common.{ap, sym, ◌∙◌}
use Rattle.registry_text_model.specs.Lines.{written}
use Rattle.registry_reading_model.specs.States as model
use Rattle.registry_reading_model.specs.States.{last_name}
use Rattle.registry_reading.proofs.ReaderLemmas.{none_written, none_last}
use Rattle.registry_reading.proofs.reader.Reader.new.Goals as goal

pub returns-clause-state : goal.returns-clause-state
returns-clause-state c = ap (λ reg. model.between (written reg)) c.in_ok-registry.ensures ∙ ap model.between none_written

pub returns-clause-read : goal.returns-clause-read
returns-clause-read c = record { last = none_last ∙ sym (ap (λ reg. last_name (written reg)) c.in_ok-registry.ensures ∙ ap last_name none_written); entity = tt }
