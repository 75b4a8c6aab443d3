-- What a change of a root in progress leaves as it was.
use Rattle.std.specs.Prelude.{◌≡◌}
use Rattle.behaviour.specs.declared.root.RootRun.{RootRun}

-- it is the same root, at the same place, with the same lines and as much room for more
pub record KeepsLines (before after : RootRun) : Type 0 where
  pub root : after.root ≡ before.root
  pub place : after.place ≡ before.place
  pub lines : after.lines ≡ before.lines
