use Rattle.uno_run.proofs.EndingLaws.{own_ends, run_ends}
use Rattle.uno_run.proofs.laws.a_run_that_nothing_hinders_ends_as_the_order_of_work.Goals as goal

pub returns-clause-alone : goal.returns-clause-alone
returns-clause-alone g c = λ types plan tag input_old input_new output_old output_new status run setting is bytes told un.
    own_ends g.I.Source.left g.I.Source.faults g.O.Sink.taken g.O.Sink.faults input_old input_new output_old output_new setting bytes told un status types plan tag is run

pub returns-clause-files : goal.returns-clause-files
returns-clause-files g c = λ types plan tag files_old files_new input_old input_new output_old output_new status run setting well bytes told un.
    run_ends g.F.Files.stored g.F.Files.faults g.I.Source.left g.I.Source.faults g.O.Sink.taken g.O.Sink.faults types plan tag files_old files_new input_old input_new output_old output_new
    setting well bytes told un status run
