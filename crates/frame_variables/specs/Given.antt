-- Values that are taken one after the other.
use Rattle.std.specs.Prelude.{List, drop, map}
use Rattle.uno_model.specs.Values.{Plain}
use Rattle.uno_values.specs.Values.{plain_of}
use Rattle.frame_variables.specs.declared.given.Given.{Given}

-- those that are not taken
abbrev pub left : Given → List Plain
left g = map plain_of (drop g.taken g.values.items)
