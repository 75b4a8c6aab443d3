-- What a root begins: its stack, and what becomes of it where memory is wanting.
use Rattle.std.proofs.Common.{◌≡◌, refl, ap, ◌∙◌, ℕ, zero, suc, List, [], ◌∷◌, slice_get, slice_set, unwrap_or}
use Rattle.plan_model.specs.Frames.{Frame, base, Stack, frames_of, pushed}
use Rattle.bridge_frames.proofs.StackLemmas.{found_put, puts_again, puts_pushed}
use Rattle.bridge_model.specs.Roots.{bottom}
use Rattle.bridge_model.specs.Sides.{RootState, idle, Side, state_of, states_with, with_root, on_tables}
use Rattle.bridge_model.specs.Stacks.{puts_frames}
use Rattle.bridge_tables.specs.EndTables.{lasts}
use Rattle.bridge_state.specs.Undoing.{remains}

-- ---- its stack

-- the root alone
module _ (tid : List ℕ) (root : ℕ) (ss now : List Stack) (none : frames_of tid ss ≡ []) (push : now ≡ pushed tid (base root) ss) where
  put : now ≡ puts_frames tid (bottom root) ss
  put = push ∙ puts_pushed tid (base root) ss ∙ ap (λ fs. puts_frames tid (base root ∷ fs) ss) none

  pub at_bottom : frames_of tid now ≡ bottom root
  at_bottom = ap (frames_of tid) put ∙ found_put tid (base root) [] ss

  -- and what begins above it
  pub above : (fs : List Frame) → puts_frames tid fs now ≡ puts_frames tid fs ss
  above fs = ap (puts_frames tid fs) put ∙ puts_again tid (base root) [] fs ss

-- ---- its state

put_back_at : (n : ℕ) (x : RootState) (xs : List RootState) → slice_set (slice_set xs n x) n (unwrap_or (slice_get xs n) idle) ≡ xs
put_back_at n x [] = refl
put_back_at zero x (y ∷ ys) = refl
put_back_at (suc n) x (y ∷ ys) = ap (λ zs. y ∷ zs) (put_back_at n x ys)

-- a root that does again what it did
pub put_back : (root : ℕ) (x : RootState) (xs : List RootState) → states_with root (state_of root xs) (states_with root x xs) ≡ xs
unfolding state_of states_with
put_back zero x xs = refl
put_back (suc n) x xs = put_back_at n x xs

pub remains_back : (root : ℕ) (x : RootState) (a b : Side) → remains a ≡ remains (on_tables (with_root root x) b)
    → remains (on_tables (with_root root (state_of root b.tables.roots)) a) ≡ remains b
remains_back root x a b same =
    ap (on_tables (with_root root (state_of root b.tables.roots))) same ∙ ap (λ states. record (remains b) { tables = record (lasts b.tables) { roots = states } }) (put_back root x b.tables.roots)
