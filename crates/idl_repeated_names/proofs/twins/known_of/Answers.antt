use Rattle.std.proofs.Common.{◌∙◌, ap, unwrap_or}
use Rattle.std.specs.Option.{option_map}
use Rattle.idl_repeated_names.specs.Sums.{nothing, summary_of}
use Rattle.idl_repeated_names.specs.declared.least.Least.{Least}
use Rattle.idl_repeated_names.proofs.twins.known_of.Goals as goal

pub returns : goal.returns
returns c = c.or_nothing.ensures ∙ ap (λ o. unwrap_or (option_map (λ (l : Least). summary_of l) o) nothing) (c.copied.ensures ∙ c.get.ensures.value)
