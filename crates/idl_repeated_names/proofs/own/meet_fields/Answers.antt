use Rattle.std.proofs.Common.{List, ◌≤◌, length, map, subst, arith}
use Rattle.std.specs.List.{flat_map}
use Rattle.idl_model.specs.Trees as tree
use Rattle.idl_places.proofs.Steps.{joined_tells}
use Rattle.idl_repeated_names.proofs.MeetingLemmas.{meets_all, meets_none, meets_on}
use Rattle.idl_repeated_names.specs.Meeting.{Meets, at_id, line_named}
use Rattle.idl_trees.specs.Members.{fields_of}
use Rattle.idl_trees.specs.Names.{id_of}
use Rattle.idl_repeated_names.proofs.own.meet_fields.Goals as goal

pub loop-line-init : goal.loop-line-init
loop-line-init c = meets_none c.args.twins.now

pub loop-line-preserved : goal.loop-line-preserved
loop-line-preserved c =
    meets_on (λ (ys : List tree.Fields). flat_map line_named ys) line_named (joined_tells line_named) fields_of c.args.fields.now c.loop-line.line-index c.line-item.result c.args.twins.now c.loop-line.twins
    c.meet_line.new.twins c.loop-line-test.true c.line-item.is c.loop-line.invariant
    (subst (λ ns. Meets c.loop-line.twins c.meet_line.new.twins (map at_id (map id_of ns))) c.as_slice.ensures.value c.in_ok-meet_line.ensures)

pub returns : goal.returns
returns c =
    let end : length c.args.fields.now ≤ c.loop-line.line-index = omega (arith, c.loop-line-test.false) in
    meets_all (λ (ys : List tree.Fields). flat_map line_named ys) fields_of c.args.fields.now c.loop-line.line-index c.args.twins.now c.loop-line.twins end c.loop-line.invariant
