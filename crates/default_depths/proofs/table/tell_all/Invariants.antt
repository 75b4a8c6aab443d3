use Rattle.std.proofs.Common.{◌≡◌, ℕ, length, take}
use Rattle.std.specs.Prelude.{Contains}
use Rattle.default_depths.specs.Table.{IsTold}
use Rattle.default_depths.proofs.table.tell_all.Given as goal

-- the depths of all structs of the first places are told
abbrev pub invariant-loop-index : goal.invariant-loop-index
invariant-loop-index l = record {
  told : (place : ℕ) → Contains (take l.index l.order) place → IsTold l.registry l.depths place;
  long : length l.depths ≡ length l.registry;
}
