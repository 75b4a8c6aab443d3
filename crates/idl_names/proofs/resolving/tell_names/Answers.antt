use Rattle.std.proofs.Common.{map, refl}
use Rattle.idl_names.specs.Collected.{declared_of}
use Rattle.idl_names.proofs.ResolveLemmas.{all_told}
use Rattle.idl_names.proofs.resolving.tell_names.Goals as goal

pub returns : goal.returns
returns c =
    all_told c.args.paths.now (map (declared_of c.args.paths.now) c.args.all.now) (record { names = c.new.result; faults = c.new-2.result }) c.tell_all.new.told
    (record { names = c.tell_all.new.told.names; faults = c.add_refused_types.new.faults }) c.add_alone.new.faults.items c.add_twice.new.faults.items c.new.ensures.items c.new-2.ensures.items
    (c.in_ok-tell_all.ensures (map (declared_of c.args.paths.now) c.args.all.now) c.requires.marked c.requires.identifiers c.requires.spelled)
    c.in_ok-add_alone.ensures c.in_ok-add_twice.ensures (c.in_ok-add_refused_types.ensures c.args.paths.now) refl
