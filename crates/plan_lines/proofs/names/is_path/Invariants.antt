use Rattle.std.proofs.Common.{◌≡◌, length, IsUtf8}
use Rattle.plan_model.specs.Forms.{is_path}
use Rattle.plan_lines.proofs.names.is_path.Given as goal

abbrev pub invariant-loop-part : goal.invariant-loop-part
invariant-loop-part l = record {
  same : is_path l.rest ≡ is_path l.path;
  text : IsUtf8 l.rest;
}

abbrev pub decreases-loop-part : goal.decreases-loop-part
decreases-loop-part l = length l.rest
