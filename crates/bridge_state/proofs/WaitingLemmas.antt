-- Whether bytes wait, where memory was not wanting.
use Rattle.std.proofs.Common.{◌≡◌, sym, ap, ◌∙◌, Bool, false, not, ◌&&◌}
use Rattle.bridge_model.specs.Answers.{bytes_wait, is_some_piece}
use Rattle.bridge_model.specs.Going as plain
use Rattle.bridge_model.specs.Going.{waiting_bytes}
use Rattle.bridge_model.specs.Settings.{Setting}
use Rattle.bridge_model.specs.Sides.{Side}
use Rattle.bridge_model.specs.Steps.{is_no_memory}
use Rattle.bridge_streams.specs.Draining as streams

pub bytes_told : (g : Setting) (s : Side) (found : Bool) → is_no_memory s.cause ≡ false → found ≡ is_some_piece (streams.waiting_bytes g.registry s.tables.unsaid s.outgoing) → found ≡ bytes_wait g s
unfolding waiting_bytes
bytes_told g s found memory is = is ∙ ap (λ b. not b && is_some_piece (plain.waiting_bytes g s)) (sym memory)
