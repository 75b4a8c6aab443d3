use Rattle.idl_joint_places.proofs.found.place_named.Goals as goal

pub returns-in-Ok : goal.returns-in-Ok
returns-in-Ok c = c.in-Ok.ensures.place

pub returns-in-Err : goal.returns-in-Err
returns-in-Err c = c.in-Err.ensures.gap.absent
