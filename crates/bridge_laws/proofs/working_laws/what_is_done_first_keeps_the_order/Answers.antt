use Rattle.bridge_laws.proofs.WorkingOrderLaws.{method_keeps, root_keeps, quiet_root_keeps, object_keeps, bytes_keep}
use Rattle.bridge_laws.proofs.working_laws.what_is_done_first_keeps_the_order.Goals as goal

pub returns-clause-methods : goal.returns-clause-methods
returns-clause-methods c = method_keeps

pub returns-clause-roots : goal.returns-clause-roots
returns-clause-roots c = root_keeps

pub returns-clause-quiet_roots : goal.returns-clause-quiet_roots
returns-clause-quiet_roots c = quiet_root_keeps

pub returns-clause-objects : goal.returns-clause-objects
returns-clause-objects c = object_keeps

pub returns-clause-bytes : goal.returns-clause-bytes
returns-clause-bytes c = bytes_keep
