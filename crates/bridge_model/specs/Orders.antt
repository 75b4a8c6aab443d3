-- The order in which `answer` works: a function of the bytes that come in.
use Rattle.std.specs.Prelude.{◌≡◌, ℕ, zero, suc, ◌||◌, List, [], ◌∷◌, length, drop, Option, None, Some, if◌then◌else◌}
use Rattle.plan_model.specs.Plans.{manager_name}
use Rattle.plan_model.specs.Roots.{Run, opening_run}
use Rattle.plan_model.specs.Statements.{RootStatement}
use Rattle.bridge_model.specs.Answers.{ready_at, may_reap, drained_next, next_cut}
use Rattle.bridge_model.specs.Entries.{Entry, fed, ended, applied, reaped, drained, full}
use Rattle.bridge_model.specs.Histories.{Told, nothing_told, tells}
use Rattle.bridge_model.specs.RootRuns.{Moved, moved, root_moves}
use Rattle.bridge_model.specs.Settings.{Setting}
use Rattle.bridge_model.specs.Sides.{Side, stands}
use Rattle.bridge_model.specs.Steps.{has_entries, has_fed}

-- what was told so far, the roots in progress, and the bytes that are to come
pub record Working : Type 0 where
  pub told : Told
  pub runs : List Run
  pub rest : List ℕ

-- a root asks for the service manager where it asks for the instance
unfoldable pub first_runs : ℕ → List (List RootStatement) → List Run
first_runs n [] = []
first_runs n (t ∷ ts) = opening_run n manager_name ∷ first_runs (suc n) ts

abbrev pub begins_work : Setting → List ℕ → Working
begins_work g bytes = record { told = nothing_told g; runs = first_runs 1 g.plan.threads; rest = bytes }

-- ---- roots

-- the lowest root that moves: the runs behind its move, and its entry
pub record RootMove : Type 0 where
  pub runs : List Run
  pub entry : Option Entry

abbrev pub in_front : Run → Option RootMove → Option RootMove
in_front r None = None
in_front r (Some x) = Some (record x { runs = r ∷ x.runs })

abbrev pub first_or_later : Run → List Run → Moved → Option RootMove → Option RootMove
first_or_later r rs (moved next x) later = Some (record { runs = next ∷ rs; entry = x })
first_or_later r rs m later = in_front r later

unfoldable pub root_move : Setting → Side → List Run → Option RootMove
root_move g s [] = None
root_move g s (r ∷ rs) = first_or_later r rs (root_moves g s r) (root_move g s rs)

-- ---- one thing that is done

-- an entry is made; one that may not stand makes nothing, which does not happen
abbrev pub enters : Setting → Working → Entry → Option Working
enters g w x = with_told (tells g w.told x)
  where
    with_told : Option Told → Option Working
    with_told None = None
    with_told (Some t) = Some (record w { told = t })

abbrev pub enters_move : Setting → Working → RootMove → Option Working
enters_move g w x = by_entry x.entry
  where
    by_entry : Option Entry → Option Working
    by_entry None = Some (record w { runs = x.runs })
    by_entry (Some e) = enters g (record w { runs = x.runs }) e

-- the next entry is another one at the limit
abbrev pub or_full : Side → Entry → Entry
or_full s x = if has_entries s then full else x

-- a piece up to the next byte that ends a block or a refused header, or all; without bytes the input ends
abbrev pub feeds_next : Setting → Working → List ℕ → Option Working
feeds_next g w [] = enters g w ended
feeds_next g w (b ∷ bytes) =
    if has_entries w.told.side || has_fed w.told.side then enters g w full
    else enters g (record w { rest = drop (length (next_cut w.told.side (b ∷ bytes))) (b ∷ bytes) }) (fed (next_cut w.told.side (b ∷ bytes)))

-- the first of what can be done: a method's statement, a root's move, reaping, draining, feeding
abbrev pub after_draining : Setting → Working → Option Working
after_draining g w = if stands w.told.side then feeds_next g w w.rest else None

abbrev pub drains_next : Setting → Working → List ℕ → Option Working
drains_next g w [] = after_draining g w
drains_next g w (b ∷ bytes) = enters g w (drained (b ∷ bytes))

abbrev pub most_drained : ℕ
most_drained = 65536

abbrev pub reaps_next : Setting → Working → Option ℕ → Option Working
reaps_next g w (Some n) = enters g w (reaped n)
reaps_next g w None = drains_next g w (drained_next g most_drained w.told.side)

abbrev pub roots_next : Setting → Working → Option RootMove → Option Working
roots_next g w (Some x) = enters_move g w x
roots_next g w None = reaps_next g w (may_reap g w.told.side)

abbrev pub applies_next : Setting → Working → Option (List ℕ) → Option Working
applies_next g w (Some tid) = enters g w (or_full w.told.side (applied tid))
applies_next g w None = roots_next g w (root_move g w.told.side w.runs)

-- nothing can be done where the bridge has ended and all is drained
unfoldable pub works_once : Setting → Working → Option Working
works_once g w = applies_next g w (ready_at w.told.side 0)

-- ---- all that is done

abbrev pub goes_on_working : (Working → Option Working) → Working → Option Working → Option Working
goes_on_working more w None = Some w
goes_on_working more w (Some next) = more next

-- until nothing can be done, in fewer than so many steps
unfoldable pub works : ℕ → Setting → Working → Option Working
works zero g w = None
works (suc n) g w = goes_on_working (works n g) w (works_once g w)

-- the bytes with which these bytes are answered
pub record IsAnswered (g : Setting) (bytes answer : List ℕ) : Type 0 where
  pub steps : ℕ
  pub last : Working
  pub works : works steps g (begins_work g bytes) ≡ Some last
  pub written : last.told.bytes_out ≡ answer
