use Rattle.std.proofs.Common.{◌∙◌, ap}
use Rattle.uno_model.specs.Kinds as kd
use Rattle.idl_meant.proofs.kinds.Types.endless.Goals as goal

pub returns : goal.returns
returns c = λ names. c.struct_type.ensures ∙ ap kd.struct (c.in_ok-name.ensures names)
