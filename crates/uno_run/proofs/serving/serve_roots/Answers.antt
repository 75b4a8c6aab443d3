use Rattle.uno_run.proofs.ServedRuns.{served_so}
use Rattle.uno_run.proofs.serving.serve_roots.Goals as goal

pub returns-clause-served : goal.returns-clause-served
returns-clause-served g c =
    let did = c.answer-stopped.ensures in
    let says = c.status_of.ensures in
    served_so g.I.Source.left g.I.Source.faults g.O.Sink.taken g.O.Sink.faults _ _ _ _ _ c.answer-stopped.result c.status_of.result
    (record {
      bridge = did.bridge;
      input = did.input;
      cut = did.cut;
      at_end = did.at_end;
      fault = did.fault;
      read_fault = did.read_fault;
      no_read_fault = did.no_read_fault;
      input_without_fault = did.input_without_fault;
      write_fault = did.write_fault;
      no_write_fault = did.no_write_fault;
      part = did.part;
      goes_on = did.goes_on;
    })
    (record {
      done = says.done;
      cut = says.cut;
      broken = says.broken;
      full = says.full;
      read_fault = says.read_fault;
      write_fault = says.write_fault;
      ends = says.ends;
    })
