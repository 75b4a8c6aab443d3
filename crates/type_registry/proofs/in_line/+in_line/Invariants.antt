use Rattle.std.specs.Prelude.{◌+◌, ◌*◌}
use Rattle.type_registry.proofs.in_line.+in_line.Given as goal

abbrev pub decreases-seek_in_line : goal.decreases-seek_in_line
decreases-seek_in_line l = 2 * l.levels + 1

abbrev pub decreases-seek_from : goal.decreases-seek_from
decreases-seek_from l = 2 * l.levels
