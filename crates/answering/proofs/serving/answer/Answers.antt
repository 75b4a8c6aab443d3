use Rattle.bridge_endpoint.specs.Journals.{setting_at}
use Rattle.std.proofs.Common.{Ok}
use Rattle.answering.specs.declared.stopped.Halted.TheVariants as halted
use Rattle.answering.proofs.StoppedLaws.{bridge_at, fault_at, goes_on_at, input_at, part_at}
use Rattle.answering.proofs.serving.answer.Goals as goal

pub returns-in-Ok-clause-bridge : goal.returns-in-Ok-clause-bridge
returns-in-Ok-clause-bridge g c =
    bridge_at (setting_at c.args.end.now) (g.I.Source.left c.args.input.now) (g.I.Source.left c.serve.new.input) (g.O.Sink.taken c.args.output.now) (g.O.Sink.taken c.serve.new.output)
    c.in-Ok.stopped c.in-Ok.ensures.serves

pub returns-in-Ok-clause-input : goal.returns-in-Ok-clause-input
returns-in-Ok-clause-input g c =
    input_at (setting_at c.args.end.now) (g.I.Source.left c.args.input.now) (g.I.Source.left c.serve.new.input) (g.O.Sink.taken c.args.output.now) (g.O.Sink.taken c.serve.new.output)
    c.in-Ok.stopped c.in-Ok.ensures.serves

pub returns-in-Ok-clause-fault : goal.returns-in-Ok-clause-fault
returns-in-Ok-clause-fault g c =
    fault_at (setting_at c.args.end.now) (g.I.Source.left c.args.input.now) (g.I.Source.left c.serve.new.input) (g.O.Sink.taken c.args.output.now) (g.O.Sink.taken c.serve.new.output)
    c.in-Ok.stopped c.in-Ok.ensures.serves

pub returns-in-Ok-clause-part : goal.returns-in-Ok-clause-part
returns-in-Ok-clause-part g c =
    part_at (setting_at c.args.end.now) (g.I.Source.left c.args.input.now) (g.I.Source.left c.serve.new.input) (g.O.Sink.taken c.args.output.now) (g.O.Sink.taken c.serve.new.output)
    (Ok c.in-Ok.stopped) c.in-Ok.ensures.serves

pub returns-in-Err-WriteFault-clause-part : goal.returns-in-Err-WriteFault-clause-part
returns-in-Err-WriteFault-clause-part g c =
    part_at (setting_at c.args.end.now) (g.I.Source.left c.args.input.now) (g.I.Source.left c.serve.new.input) (g.O.Sink.taken c.args.output.now) (g.O.Sink.taken c.serve.new.output)
    c.serve.result c.serve.ensures.serves

pub returns-in-Err-NoMemory-clause-part : goal.returns-in-Err-NoMemory-clause-part
returns-in-Err-NoMemory-clause-part g c =
    part_at (setting_at c.args.end.now) (g.I.Source.left c.args.input.now) (g.I.Source.left c.serve.new.input) (g.O.Sink.taken c.args.output.now) (g.O.Sink.taken c.serve.new.output)
    c.serve.result c.serve.ensures.serves

pub returns-in-Ok-clause-goes_on : goal.returns-in-Ok-clause-goes_on
returns-in-Ok-clause-goes_on g c =
    goes_on_at (setting_at c.args.end.now) (g.I.Source.left c.args.input.now) (g.I.Source.left c.serve.new.input) (g.O.Sink.taken c.args.output.now) (g.O.Sink.taken c.serve.new.output)
    (Ok c.in-Ok.stopped) c.in-Ok.ensures.serves

pub returns-in-Err-WriteFault-clause-goes_on : goal.returns-in-Err-WriteFault-clause-goes_on
returns-in-Err-WriteFault-clause-goes_on g c =
    goes_on_at (setting_at c.args.end.now) (g.I.Source.left c.args.input.now) (g.I.Source.left c.serve.new.input) (g.O.Sink.taken c.args.output.now) (g.O.Sink.taken c.serve.new.output)
    c.serve.result c.serve.ensures.serves

pub returns-in-Err-NoMemory-clause-goes_on : goal.returns-in-Err-NoMemory-clause-goes_on
returns-in-Err-NoMemory-clause-goes_on g c =
    goes_on_at (setting_at c.args.end.now) (g.I.Source.left c.args.input.now) (g.I.Source.left c.serve.new.input) (g.O.Sink.taken c.args.output.now) (g.O.Sink.taken c.serve.new.output)
    c.serve.result c.serve.ensures.serves
