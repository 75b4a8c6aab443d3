-- Why a request may not come on a thread.
use Rattle.std.specs.Prelude.{ℕ, not, ◌||◌, List, Option, None}
use Rattle.urp_model.specs.declared.reason.Reason.{Reason}
use Rattle.urp_model.specs.declared.reason.Reason.TheVariants.{BusyThread, UnknownThread}
use Rattle.plan_model.specs.Frames.{Stack}
use Rattle.bridge_model.specs.Receiving.{unless}
use Rattle.bridge_model.specs.Settings.{Setting, is_own}
use Rattle.bridge_model.specs.Stacks.{has_stack, is_busy}

-- something runs on it, or this end gave its name and nothing waits there
abbrev pub thread_refusal : Setting → List ℕ → List Stack → Option Reason
thread_refusal g tid ss = unless (not (is_busy tid ss)) BusyThread (unless (not (is_own g tid) || has_stack tid ss) UnknownThread None)
