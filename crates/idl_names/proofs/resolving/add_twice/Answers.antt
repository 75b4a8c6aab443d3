use Rattle.std.proofs.Common.{map, sym, subst}
use Rattle.idl_meaning_model.specs.Scopes.{is_built_in}
use Rattle.idl_names.specs.Alone.{HasLeasts}
use Rattle.idl_names.specs.Collected.{declared_of}
use Rattle.idl_names.specs.Faults.{AddsFaults}
use Rattle.idl_names.specs.Opened.{built_in_exceptions, built_in_interfaces}
use Rattle.idl_names.specs.Standing.{Answers}
use Rattle.idl_names.proofs.OpenLemmas.{at_low_for}
use Rattle.idl_names.proofs.ResolveLemmas.{twice_all, paths_low}
use Rattle.idl_names.proofs.StandLemmas.{built_in_answers, has_leasts}
use Rattle.idl_names.proofs.resolving.add_twice.Goals as goal

pub built_in_marks-requires-clause-interfaces : goal.built_in_marks-requires-clause-interfaces
built_in_marks-requires-clause-interfaces c = at_low_for c.args.paths.now c.len-count.result c.args.opened.now.interfaces.items built_in_interfaces c.len-count.ensures.count c.requires.opened.interfaces

pub built_in_marks-requires-clause-exceptions : goal.built_in_marks-requires-clause-exceptions
built_in_marks-requires-clause-exceptions c = at_low_for c.args.paths.now c.len-count.result c.args.opened.now.exceptions.items built_in_exceptions c.len-count.ensures.count c.requires.opened.exceptions

pub least_places-requires : goal.least_places-requires
least_places-requires c = paths_low c.args.paths.now c.len-count.result c.args.all.now c.len-count.ensures.count c.requires.numbers

pub returns : goal.returns
returns c =
    let ds = map (declared_of c.args.paths.now) c.args.all.now in
    subst (λ fs. AddsFaults c.args.faults.now.items fs c.add_declared_twice.new.faults.items) (twice_all ds)
    (c.in_ok-add_declared_twice.ensures c.args.paths.now ds
    (subst (λ marks. Answers c.args.paths.now marks is_built_in) (sym c.as_slice.ensures.value)
    (built_in_answers c.args.paths.now c.len-count.ensures.once c.args.all.now c.requires.numbers c.requires.identifiers c.args.opened.now c.requires.opened c.len-count.result c.in_ok-built_in.built_in.items c.in_ok-built_in.ensures))
    (subst (λ leasts. HasLeasts c.args.paths.now leasts ds) (sym c.as_slice-2.ensures.value)
    (has_leasts c.args.paths.now c.len-count.ensures.once c.args.all.now c.requires.numbers c.requires.identifiers c.in_ok-leasts.leasts.items c.in_ok-leasts.ensures))
    c.requires.numbers c.requires.identifiers)
