use Rattle.std.proofs.Common.{◌≡◌, drop, None, option_map}
use Rattle.idl_names.specs.Faults.{all_faults_of, fault_of}
use Rattle.idl_names.proofs.FaultLemmas.{least_in}
use Rattle.idl_names.proofs.fault.earliest.Given as goal

abbrev pub invariant-loop-fault : goal.invariant-loop-fault
invariant-loop-fault l = least_in (option_map fault_of l.least) (all_faults_of (drop l.fault-index l.faults)) ≡ least_in None (all_faults_of l.faults)
