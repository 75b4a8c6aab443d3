-- What stacks have on top: which can go on, and how many wait.
use Rattle.std.specs.Prelude.{◌≡◌, ℕ, ◌+◌, ◌-◌, ◌^◌, Bool, true, false, cond, List, [], ◌∷◌, length, Option, is_some}
use Rattle.birth_index.specs.Bits.{has}
use Rattle.plan_model.specs.Frames.{Frame, first_frame, is_body, outgoing_in}
use Rattle.call_stacks.specs.Rows.{Rows, Rise, frames_at}
use Rattle.call_stacks.specs.declared.tops.Top.{Top}
use Rattle.call_stacks.specs.declared.tops.Top.TheVariants.{Method, Call, Other}

abbrev pub is_method : Top → Bool
is_method Method = true
is_method Call = false
is_method Other = false

-- how many calls wait there
abbrev pub calls : Top → ℕ
calls Method = 0
calls Call = 1
calls Other = 0

-- how many calls wait at a top frame
abbrev pub calls_in : Option Frame → ℕ
calls_in f = cond (is_some (outgoing_in f)) 1 0

-- the stack of a birth can go on
abbrev pub ready_at : ℕ → Rows → Bool
ready_at n rows = is_body (first_frame (frames_at n rows))

-- how many stacks wait
abbrev pub waiting_in : Rows → ℕ
waiting_in [] = 0
waiting_in (r ∷ rs) = calls_in (first_frame r.1.frames) + waiting_in rs

-- the births of the stacks that can go on and the number of those that wait, with room for each birth
pub record HasTops (rows : Rows) (ready : List Bool) (waiting : ℕ) : Type 0 where
  pub rise : Rise 0 rows (2 ^ 64 - 1)
  pub room : Rise 0 rows (length ready)
  pub births : (n : ℕ) → has ready n ≡ ready_at n rows
  pub count : waiting ≡ waiting_in rows
