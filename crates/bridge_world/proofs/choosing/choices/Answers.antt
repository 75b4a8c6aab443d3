use Rattle.std.proofs.Common.{ap, ◌∙◌, is_some, map}
use Rattle.behaviour.specs.Roots.{run_of}
use Rattle.bridge_endpoint.specs.Journals.{setting_at, side_at, told_at}
use Rattle.bridge_world.proofs.ChoicesLaws.{choices_are}
use Rattle.bridge_world.proofs.Seeing.{side_of_told}
use Rattle.bridge_world.proofs.choosing.choices.Goals as goal

pub returns : goal.returns
returns c =
    choices_are (setting_at c.args.end.now) (setting_at c.args.other.now) (told_at c.args.end.now) (told_at c.args.other.now) (side_at c.args.end.now) (side_at c.args.other.now) (side_of_told c.args.end.now)
    (side_of_told c.args.other.now) c.args.way.now.items c.requires (map run_of c.args.runs.now) _ c.ready.ensures c.moving.ensures (c.is_some.ensures ∙ ap is_some c.may_reap.ensures) c.bytes_wait.ensures
    c.carries.ensures c.closes.ensures
