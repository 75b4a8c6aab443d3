use Rattle.std.proofs.Common.{sym}
use Rattle.uno_report.proofs.Saying.{says_behind, says_nothing}
use Rattle.uno_report.proofs.drill.said_in.Goals as goal

pub returns-in-Some : goal.returns-in-Some
returns-in-Some c = says_behind _ c.split_once.result _ _ c.split_once.ensures.cases c.in-Some.is

pub returns-in-None : goal.returns-in-None
returns-in-None c = sym (says_nothing _ c.split_once.result c.split_once.ensures.cases c.in-None.is)
