-- What the reading of a text gives: what the verdict gives, unless memory ran out.
use Rattle.std.specs.Prelude.{◌≡◌, Result, Ok, Err}
use Rattle.plan_model.specs.Keeps.{Wrong}
use Rattle.plan_model.specs.Plans as plain
use Rattle.plan_types.specs.Plans.{plan_of}
use Rattle.plan_types.specs.declared.plan.Plan.{Plan}
use Rattle.behaviour_text.specs.declared.error.PlanError.{PlanError}
use Rattle.behaviour_text.specs.declared.error.PlanError.TheVariants as error

abbrev pub Stops : PlanError → Result plain.Plan Wrong → Type 0
Stops error.NoMemory verdict = Unit {0}
Stops (error.BadLine n why) verdict = verdict ≡ Err (record { line = n; reason = why })

abbrev pub Reads : Result Plan PlanError → Result plain.Plan Wrong → Type 0
Reads (Ok p) verdict = verdict ≡ Ok (plan_of p)
Reads (Err e) verdict = Stops e verdict
