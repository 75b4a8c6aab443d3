use Rattle.std.proofs.Common.{length, refl, add-one}
use Rattle.uno_model.proofs.CircleLaws.{no_circle_ends}
use Rattle.uno_model.proofs.circle_laws.without_circles_all_ways_end.Goals as goal

pub returns : goal.returns
returns c = λ next left a none all. rw add-one (no_circle_ends next (length left) left a none refl all)
