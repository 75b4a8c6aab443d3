use Rattle.uno_types.proofs.types.«+within_levels».Given as goal

abbrev pub decreases-within_levels : goal.decreases-within_levels
decreases-within_levels l = l.levels
