use Rattle.std.proofs.Common.{refl, sym, ◌∙◌, inr}
use Rattle.uno_run.proofs.AnswerRuns.{idle_run, own_lost}
use Rattle.uno_run.proofs.CompileRuns as compile
use Rattle.uno_run.proofs.DrillRuns as drill
use Rattle.uno_run.proofs.Keeping.{for_memory}
use Rattle.uno_run.proofs.PairRuns as pair
use Rattle.uno_run.proofs.top.run.Goals as goal

pub returns-in-Ok-clause-idl : goal.returns-in-Ok-clause-idl
returns-in-Ok-clause-idl g c = λ types is. c.obey.ensures.idl types (sym c.in-Ok.ensures ∙ is)

pub returns-in-Ok-clause-answer_plan : goal.returns-in-Ok-clause-answer_plan
returns-in-Ok-clause-answer_plan g c = λ types plan is. c.obey.ensures.answer_plan types plan (sym c.in-Ok.ensures ∙ is)

pub returns-in-Err-NoMemory-clause-answer : goal.returns-in-Err-NoMemory-clause-answer
returns-in-Err-NoMemory-clause-answer g c = λ is. (refl, inr (own_lost _ _ _ (for_memory _ c.report-in-Err-NoMemory.ensures.kept), (refl, refl)))

pub returns-in-Err-NoMemory-clause-answer_plan : goal.returns-in-Err-NoMemory-clause-answer_plan
returns-in-Err-NoMemory-clause-answer_plan g c = λ types plan is.
    idle_run g.F.Files.stored g.F.Files.faults g.I.Source.left g.I.Source.faults g.O.Sink.taken g.O.Sink.faults _ _ _ _ _ _ _ c.report-in-Err-NoMemory.result refl
    (for_memory _ c.report-in-Err-NoMemory.ensures.kept)

pub returns-in-Ok-clause-pair : goal.returns-in-Ok-clause-pair
returns-in-Ok-clause-pair g c = λ types plan_a plan_b seed cut is. c.obey.ensures.pair types plan_a plan_b seed cut (sym c.in-Ok.ensures ∙ is)

pub returns-in-Ok-clause-drill : goal.returns-in-Ok-clause-drill
returns-in-Ok-clause-drill g c = λ rounds seed is. c.obey.ensures.drill rounds seed (sym c.in-Ok.ensures ∙ is)

pub returns-in-Err-NoMemory-clause-pair : goal.returns-in-Err-NoMemory-clause-pair
returns-in-Err-NoMemory-clause-pair g c = λ types plan_a plan_b seed cut is. (
  refl,
  pair.idle_ran g.F.Files.stored g.F.Files.faults g.O.Sink.taken g.O.Sink.faults types plan_a plan_b seed cut _ _ _ c.report-in-Err-NoMemory.result refl
      (for_memory _ c.report-in-Err-NoMemory.ensures.kept),
)

pub returns-in-Err-NoMemory-clause-drill : goal.returns-in-Err-NoMemory-clause-drill
returns-in-Err-NoMemory-clause-drill g c = λ rounds seed is.
    (refl, refl, drill.idle_ran rounds seed g.O.Sink.taken g.O.Sink.faults _ c.report-in-Err-NoMemory.result (for_memory _ c.report-in-Err-NoMemory.ensures.kept))

pub returns-in-Ok-clause-compile : goal.returns-in-Ok-clause-compile
returns-in-Ok-clause-compile g c = λ names is. c.obey.ensures.compile names (sym c.in-Ok.ensures ∙ is)

pub returns-in-Err-NoMemory-clause-compile : goal.returns-in-Err-NoMemory-clause-compile
returns-in-Err-NoMemory-clause-compile g c = λ names is. (
  refl,
  compile.idle_ran g.F.Files.stored g.F.Files.faults g.O.Sink.taken g.O.Sink.faults names _ _ _ c.report-in-Err-NoMemory.result refl
      (for_memory _ c.report-in-Err-NoMemory.ensures.kept),
)
