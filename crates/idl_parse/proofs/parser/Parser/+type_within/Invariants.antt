use Rattle.std.proofs.Common.{◌+◌, ◌*◌}
use Rattle.idl_parse.proofs.parser.Parser.+type_within.Given as goal

abbrev pub decreases-type_within : goal.decreases-type_within
decreases-type_within l = 3 * l.depth + 2

abbrev pub decreases-sequence : goal.decreases-sequence
decreases-sequence l = 3 * l.depth + 1

abbrev pub decreases-element : goal.decreases-element
decreases-element l = 3 * l.depth
