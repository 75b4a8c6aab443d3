use Rattle.std.proofs.Common.{map, sym, subst}
use Rattle.idl_meaning_model.specs.NameFaults.{has_interface}
use Rattle.idl_names.specs.Collected.{declared_of}
use Rattle.idl_names.specs.Faults.{AddsFaults}
use Rattle.idl_names.specs.Opened.{built_in_interfaces}
use Rattle.idl_names.specs.Standing.{Answers}
use Rattle.idl_names.proofs.OpenLemmas.{at_low_for}
use Rattle.idl_names.proofs.ResolveLemmas.{alone_all, paths_low}
use Rattle.idl_names.proofs.StandLemmas.{interface_answers}
use Rattle.idl_names.proofs.resolving.add_alone.Goals as goal

pub interface_marks-requires-clause-interfaces : goal.interface_marks-requires-clause-interfaces
interface_marks-requires-clause-interfaces c = at_low_for c.args.paths.now c.len.result c.args.opened.now.interfaces.items built_in_interfaces c.len.ensures.count c.requires.opened.interfaces

pub interface_marks-requires-clause-declared : goal.interface_marks-requires-clause-declared
interface_marks-requires-clause-declared c = paths_low c.args.paths.now c.len.result c.args.all.now c.len.ensures.count c.requires.numbers

pub returns : goal.returns
returns c =
    let ds = map (declared_of c.args.paths.now) c.args.all.now in
    subst (λ fs. AddsFaults c.args.faults.now.items fs c.add_forward_alone.new.faults.items) (alone_all ds)
    (c.in_ok-add_forward_alone.ensures c.args.paths.now ds
    (subst (λ marks. Answers c.args.paths.now marks (has_interface ds)) (sym c.as_slice.ensures.value)
    (interface_answers c.args.paths.now c.len.ensures.once c.args.all.now c.requires.numbers c.requires.identifiers c.args.opened.now c.requires.opened c.len.result c.in_ok-interfaces.interfaces.items c.in_ok-interfaces.ensures))
    c.requires.numbers c.requires.identifiers)
