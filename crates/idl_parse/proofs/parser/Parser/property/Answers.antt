use Rattle.std.proofs.Common.{map}
use Rattle.idl_trees.specs.Members.{flag_of}
use Rattle.idl_trees.specs.Names.{id_of}
use Rattle.idl_trees.specs.Types.{type_of}
use Rattle.idl_parse.proofs.FlagLemmas.{property_first, property_second, property_read}
use Rattle.idl_parse.proofs.Loops.{handed_over}
use Rattle.idl_parse.proofs.parser.Parser.property.Goals as goal

pub returns-in_err-more_flags-clause-gives : goal.returns-in_err-more_flags-clause-gives
returns-in_err-more_flags-clause-gives c =
    handed_over _ c.from_residual.result c.in_err-more_flags.field-0.0 _ _ c.from_residual.ensures
    (property_first (map flag_of c.args.flags.items) c.args.self.now _ c.in_err-more_flags.ensures.gives)

pub returns-in_err-kind-clause-gives : goal.returns-in_err-kind-clause-gives
returns-in_err-kind-clause-gives c =
    handed_over _ c.from_residual-in_err-kind.result c.in_err-kind.field-0.0 _ _ c.from_residual-in_err-kind.ensures
    (property_second (map flag_of c.args.flags.items) _ c.args.self.now c.more_flags.new.self _ c.in_ok-more_flags.ensures.gives c.in_err-kind.ensures.gives)

pub returns-clause-gives : goal.returns-clause-gives
returns-clause-gives c =
    property_read (map flag_of c.args.flags.items) _ c.args.self.now c.more_flags.new.self c.property_tail.new.self
    (type_of c.in_ok-kind.kind, id_of c.in_ok-kind.name)
    c.in_ok-more_flags.ensures.gives c.in_ok-kind.ensures.gives
