use Rattle.std.proofs.Common.{sym, ◌∙◌}
use Rattle.std.specs.Str.{bytes_eq}
use Rattle.plan_model.specs.Plans as plain
use Rattle.plan_types.specs.Plans.{export_of}
use Rattle.bridge_setting.proofs.PositionLemmas.{position_map}
use Rattle.bridge_setting.proofs.supporting.place_of.Goals as goal

pub returns : goal.returns
returns c = c.place_named.ensures ∙ sym (position_map (λ (e : plain.Export). bytes_eq c.args.name.now e.name) export_of c.args.exports.now)
