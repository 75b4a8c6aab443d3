use Rattle.std.proofs.Common.{map}
use Rattle.idl_names.specs.Collected.{declared_of}
use Rattle.idl_names.proofs.OpenLemmas.{at_low_for}
use Rattle.idl_names.proofs.ResolveLemmas.{paths_low}
use Rattle.idl_names.proofs.StandLemmas.{entity_answers, value_answers, value_paths_right}
use Rattle.idl_names.proofs.resolving.marks.Goals as goal
use Rattle.idl_names.specs.Opened.{built_in_exceptions, built_in_interfaces, value_paths}

pub entity_marks-requires-clause-interfaces : goal.entity_marks-requires-clause-interfaces
entity_marks-requires-clause-interfaces c = at_low_for c.args.paths.now c.len-count.result c.args.opened.now.interfaces.items built_in_interfaces c.len-count.ensures.count c.requires.opened.interfaces

pub entity_marks-requires-clause-exceptions : goal.entity_marks-requires-clause-exceptions
entity_marks-requires-clause-exceptions c = at_low_for c.args.paths.now c.len-count.result c.args.opened.now.exceptions.items built_in_exceptions c.len-count.ensures.count c.requires.opened.exceptions

pub entity_marks-requires-clause-declared : goal.entity_marks-requires-clause-declared
entity_marks-requires-clause-declared c = paths_low c.args.paths.now c.len-count.result c.args.all.now c.len-count.ensures.count c.requires.numbers

pub value_marks-requires : goal.value_marks-requires
value_marks-requires c =
    at_low_for c.args.paths.now c.len-count.result c.args.opened.now.values.items (value_paths (map (declared_of c.args.paths.now) c.args.all.now)) c.len-count.ensures.count c.requires.opened.values

pub returns : goal.returns
returns c =
    let ds = map (declared_of c.args.paths.now) c.args.all.now in
    record {
      entities = entity_answers c.args.paths.now c.len-count.ensures.once c.args.all.now c.requires.numbers c.requires.identifiers c.args.opened.now c.requires.opened c.len-count.result c.in_ok-entities.entities.items c.in_ok-entities.ensures;
      values =
          value_answers c.args.paths.now c.len-count.ensures.once c.args.all.now c.requires.numbers c.requires.identifiers c.args.opened.now c.requires.opened c.len-count.result c.in_ok-values.values.items
          (value_paths_right ds c.requires.identifiers) c.in_ok-values.ensures;
    }
