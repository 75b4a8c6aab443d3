use Rattle.std.proofs.lemmas.Result.{on_ok_weaker}
use Rattle.urp_wire.proofs.Names.{name_written}
use Rattle.urp_wire.proofs.name.put_name.Goals as goal

pub returns-clause-bytes : goal.returns-clause-bytes
returns-clause-bytes c = on_ok_weaker _ (name_written _ _ _ _ _ _ _ c.in_ok-slot.ensures.slot c.in_ok-slot.ensures.known c.in_ok-put_name_or_nothing.ensures) c.put_slot.ensures
