-- What a slot means where a text is asked.
use Rattle.std.specs.Prelude.{ℕ, List, Result, Ok, Err, if◌then◌else◌}
use Rattle.std.specs.Str.{is_utf8}
use Rattle.urp_model.specs.Parts.{◌>>=◌, judged}
use Rattle.urp_model.specs.Tables.{Table, meaning}
use Rattle.urp_model.specs.declared.fault.Fault.{Fault}
use Rattle.urp_model.specs.declared.fault.Fault.TheVariants.{Bad}
use Rattle.urp_model.specs.declared.reason.Reason.TheVariants.{BadText, UnknownSlot}

-- the text that a slot means: a slot that means nothing is unknown, and bytes that are no text are refused
abbrev pub meant_text : ℕ → Table → Result (List ℕ) Fault
meant_text slot table = do
  name ← judged UnknownSlot (meaning slot table)
  if is_utf8 name then Ok name else Err (Bad BadText)
