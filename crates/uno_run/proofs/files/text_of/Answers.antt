use Rattle.std.proofs.Common.{sym, ◌∙◌, ap, option_map}
use Rattle.std.specs.Prelude.{vec_items}
use Rattle.uno_run.proofs.files.text_of.Goals as goal

pub returns-in-Ok-Some-clause-found : goal.returns-in-Ok-Some-clause-found
returns-in-Ok-Some-clause-found g c = λ store is. sym (c.in-Ok-Some.ensures.found store is) ∙ ap (option_map vec_items) c.in-Ok-Some.field-0-is
