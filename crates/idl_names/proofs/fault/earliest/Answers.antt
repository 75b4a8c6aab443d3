use Rattle.std.proofs.Common.{length, ◌≤◌, None, arith}
use Rattle.idl_names.specs.Faults.{all_faults_of}
use Rattle.idl_names.proofs.FaultLemmas.{least_in, first_is, one_more_fault, faults_end}
use Rattle.idl_names.proofs.fault.earliest.Goals as goal

pub loop-fault-preserved : goal.loop-fault-preserved
loop-fault-preserved c =
    one_more_fault c.args.faults.now c.loop-fault.fault-index _ c.loop-fault.least c.earlier_of.result (least_in None (all_faults_of c.args.faults.now)) c.loop-fault-test.true
    c.earlier_of.ensures c.loop-fault.invariant

pub returns : goal.returns
returns c =
    let end : length c.args.faults.now ≤ c.loop-fault.fault-index = omega (arith, c.loop-fault-test.false) in
    first_is c.loop-fault.least c.args.faults.now
    (faults_end c.args.faults.now c.loop-fault.fault-index c.loop-fault.least (least_in None (all_faults_of c.args.faults.now)) end c.loop-fault.invariant)
