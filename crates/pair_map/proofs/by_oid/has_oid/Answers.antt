use Rattle.std.proofs.Common.{sym, ap, ◌∙◌}
use Rattle.pair_map.proofs.Reading.{any_row, has_faces, filled}
use Rattle.pair_map.proofs.by_oid.has_oid.Goals as goal

pub returns-in_default : goal.returns-in_default
returns-in_default g c = sym (any_row c.args.oid.now c.args.by_oid.now.entries c.requires ∙ ap has_faces (sym c.in_default.ensures.value))

pub returns : goal.returns
returns g c =
    filled c.in-Some.faces.now c.is_empty.result c.is_empty.ensures ∙ ap has_faces c.in-Some.ensures.value
    ∙ sym (any_row c.args.oid.now c.args.by_oid.now.entries c.requires)
