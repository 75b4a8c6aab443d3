-- What rests of a side whose tables changed.
use Rattle.std.proofs.Common.{◌≡◌, ap, ◌∙◌, ℕ, List, [], ◌++◌, option_to_list, Option, Result, OnOk, OnErr}
use Rattle.plan_model.specs.Frames.{Stack}
use Rattle.bridge_model.specs.Sides.{RootState, Side, Tables, Incoming, Outgoing, nothing_came, nothing_goes, on_tables}
use Rattle.bridge_model.specs.declared.cause.Cause.{Cause}
use Rattle.bridge_tables.specs.EndTables.{EndTables, lasting, quiet, with_frames_made, with_tables}
use Rattle.bridge_frames.specs.Answered.{taken_back}
use Rattle.bridge_tables.proofs.LastingLemmas.{lasting_quiet}
use Rattle.bridge_state.proofs.Seen.{seen, side_by}
use Rattle.bridge_state.proofs.StateLemmas.{either}
use Rattle.bridge_state.proofs.UndoLemmas.{noted_back, rested, taken_same}
use Rattle.bridge_state.specs.EndSides.{EndSide, on_side}
use Rattle.bridge_state.specs.Undoing.{rests, takes_roots_back}

rests_with : Tables → ℕ → Option Cause → Side
rests_with t n c = record { tables = t; stacks = []; incoming = nothing_came; outgoing = nothing_goes; entries = n; cause = c }

module _ (t0 t1 : EndTables) (ss0 ss1 : List Stack) (i : Incoming) (o : Outgoing) (n : ℕ) (c : Option Cause) (now : EndSide) (is : seen t0 ss0 i o n c ≡ now) where
  -- where the same rests of the tables, the same rests of the side
  pub rests_so : rested t1.tables ≡ rested t0.tables → rests (side_by t1 ss1 i o n c) ≡ rests now.side
  unfolding rests_with
  rests_so same = ap (λ t. rests_with t n c) same ∙ ap (λ e. rests e.side) is

  pub lasting_so : lasting t1 ≡ lasting t0 → rests (side_by t1 ss1 i o n c) ≡ rests now.side
  unfolding rests_so
  lasting_so same = rests_so (ap (λ e. with_frames_made 0 e.tables) same)

pub done_rests : {A E : Type 0} (r : Result A E) (t0 t1 : EndTables) (ss0 ss1 : List Stack) (i : Incoming) (o : Outgoing) (n : ℕ) (c : Option Cause) (now : EndSide) → seen t0 ss0 i o n c ≡ now
    → (t : Tables) → rested t ≡ rested t0.tables → OnOk r (t1 ≡ with_tables t t0) → OnErr r (lasting t1 ≡ lasting t0) → rests (side_by t1 ss1 i o n c) ≡ rests now.side
done_rests r t0 t1 ss0 ss1 i o n c now is t same done lost =
    either r done lost
    (λ p. rests_so t0 t1 ss0 ss1 i o n c now is (ap (λ e. rested e.tables) p ∙ same))
    (λ p. lasting_so t0 t1 ss0 ss1 i o n c now is p)

pub quiet_rests : {A E : Type 0} (r : Result A E) (t0 t1 : EndTables) (ss0 ss1 : List Stack) (i : Incoming) (o : Outgoing) (n : ℕ) (c : Option Cause) (now : EndSide) → seen t0 ss0 i o n c ≡ now
    → (t : Tables) → rested t ≡ rested t0.tables → OnOk r (t1 ≡ with_tables t t0) → OnErr r (quiet t1 ≡ quiet t0) → rests (side_by t1 ss1 i o n c) ≡ rests now.side
quiet_rests r t0 t1 ss0 ss1 i o n c now is t same done kept =
    either r done kept
    (λ p. rests_so t0 t1 ss0 ss1 i o n c now is (ap (λ e. rested e.tables) p ∙ same))
    (λ p. lasting_so t0 t1 ss0 ss1 i o n c now is (lasting_quiet t1 t0 p))

-- ---- what may be taken back

-- where the same rests of the tables, as much rests once roots are taken back
pub undone_so : (done : List (ℕ × RootState)) (a b : Side) → rests a ≡ rests b → rests (on_tables (takes_roots_back done) a) ≡ rests (on_tables (takes_roots_back done) b)
undone_so done a b same = (λ j. record (same j) { tables = (taken_same done a.tables b.tables (ap (λ s. s.tables) same)) j })

-- a root more was answered, where one was, of which nothing rests once it is taken back
pub noted_rests : (done more : List (ℕ × RootState)) (x : Option (ℕ × RootState)) (t0 t1 : EndTables) (ss0 ss1 : List Stack) (i : Incoming) (o : Outgoing) (n : ℕ) (c : Option Cause) (now : EndSide) → seen t0 ss0 i o n c ≡ now
    → more ≡ done ++ option_to_list x → lasting (taken_back x t1) ≡ lasting t0 → rests (on_tables (takes_roots_back more) (side_by t1 ss1 i o n c)) ≡ rests (on_tables (takes_roots_back done) now.side)
noted_rests done more x t0 t1 ss0 ss1 i o n c now is all back =
    ap (λ ds. rests (on_tables (takes_roots_back ds) (side_by t1 ss1 i o n c))) all
    ∙ rests_so (with_tables (takes_roots_back done t0.tables) t0) (with_tables (takes_roots_back (done ++ option_to_list x) t1.tables) t1) ss0 ss1 i o n c (on_side (on_tables (takes_roots_back done)) now)
    (ap (on_side (on_tables (takes_roots_back done))) is) (noted_back done x t0 t1 back)
