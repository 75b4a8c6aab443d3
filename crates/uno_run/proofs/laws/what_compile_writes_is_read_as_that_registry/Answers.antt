use Rattle.registry_text_model.specs.Lines.{registry_text}
use Rattle.uno_run.proofs.CompileLaws.{is_read_again, printed_whole}
use Rattle.uno_run.proofs.laws.what_compile_writes_is_read_as_that_registry.Goals as goal

pub returns-clause-read : goal.returns-clause-read
returns-clause-read g c = is_read_again

pub returns-clause-idl : goal.returns-clause-idl
returns-clause-idl g c = λ name files_old files_new output_old output_new status run files texts registry stores there is short no_read no_write.
    printed_whole g.F.Files.stored g.F.Files.faults g.O.Sink.taken g.O.Sink.faults files_old files_new output_old output_new files stores no_read no_write
    registry name (registry_text registry) there
    (is_read_again texts registry is short) status run
