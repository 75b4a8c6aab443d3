use Rattle.std.specs.Prelude.{◌≡◌, true, ◌+◌}
use Rattle.bridge_laws.specs.Grounded.{HasRoots}
use Rattle.bridge_model.specs.Sides.{stands}
use Rattle.bridge_setting.specs.Settings.{setting_of}
use Rattle.bridge_state.proofs.HearingLemmas.{HeardSoFar}
use Rattle.bridge_state.proofs.state.State.hear.Given as goal
use Rattle.bridge_state.specs.EndSides.{IsEndOf, with_side}
use Rattle.bridge_state.specs.Undoing.{rests, undone}

-- the messages so far are heard
abbrev pub invariant-loop-turn : goal.invariant-loop-turn
invariant-loop-turn l = record {
  so_far : HeardSoFar (setting_of l.setting) l.block.count l.block.place (l.block.place + 8) l.block.body.items l.fn.self.side l._turn l.place l.rest l.self.side l.trace.references;
  of : IsEndOf (setting_of l.setting) l.self;
  stands : stands l.self.side ≡ true;
  began : l.trace.frames_made ≡ l.fn.trace.frames_made;
  rooted : HasRoots (setting_of l.setting) l.fn.self.side → HasRoots (setting_of l.setting) l.self.side;
  back : HasRoots (setting_of l.setting) l.fn.self.side → rests (undone l.trace l.self.side) ≡ rests (undone l.fn.trace l.fn.self.side);
  names : l.self ≡ with_side l.self.side l.fn.self;
}
