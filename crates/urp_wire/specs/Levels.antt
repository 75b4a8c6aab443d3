-- Values for which no level is left.
use Rattle.std.specs.Prelude.{Err}
use Rattle.urp_model.specs.Reading.{Reads}
use Rattle.urp_model.specs.declared.fault.Fault.TheVariants.{Bad}
use Rattle.urp_model.specs.declared.reason.Reason.TheVariants.{Deep}

-- a value that stands one level too deep is refused before its bytes are looked at
abbrev pub too_deep : Reads
too_deep s bs = Err (Bad Deep)
