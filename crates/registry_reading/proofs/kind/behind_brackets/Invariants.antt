use Rattle.std.proofs.Common.{◌≡◌, ◌+◌, ◌≤◌, min, length}
use denote.Text.{Utf8}
use denote.Shadow.{shadow}
use Rattle.registry_reading_model.specs.Kinds as model
use Rattle.registry_reading.proofs.kind.behind_brackets.Given as goal

abbrev pub invariant-loop-behind : goal.invariant-loop-behind
invariant-loop-behind l =
    shadow (Utf8 l.rest) × (model.behind_brackets l.rest ≡ model.behind_brackets l.text) × (min 65 (l.levels + model.brackets l.rest) ≡ min 65 (model.brackets l.text)) × (l.levels ≤ 65)

abbrev pub decreases-loop-behind : goal.decreases-loop-behind
decreases-loop-behind l = length l.rest
