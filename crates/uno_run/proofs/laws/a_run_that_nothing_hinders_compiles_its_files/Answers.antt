use Rattle.uno_run.proofs.CompileLaws.{compiled_whole}
use Rattle.uno_run.proofs.laws.a_run_that_nothing_hinders_compiles_its_files.Goals as goal

pub returns : goal.returns
returns g c = λ names files_old files_new output_old output_new status run files texts registry stores told is no_read no_write.
    compiled_whole g.F.Files.stored g.F.Files.faults g.O.Sink.taken g.O.Sink.faults files_old files_new output_old output_new files stores no_read no_write
    registry names texts told is status run
