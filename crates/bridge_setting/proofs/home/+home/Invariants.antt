use Rattle.bridge_setting.proofs.HomeLemmas.{SoFar}
use Rattle.bridge_setting.specs.Settings.{setting_of}
use Rattle.bridge_setting.proofs.home.+home.Given as goal

-- the values so far are as they are here, and the others are the same
abbrev pub invariant-home_all-loop-place : goal.invariant-home_all-loop-place
invariant-home_all-loop-place l = SoFar (setting_of l.setting) l.place l.values.items l.fn.values.items
