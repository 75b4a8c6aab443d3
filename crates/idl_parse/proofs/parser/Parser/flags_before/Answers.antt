use Rattle.std.proofs.Common.{◌≡◌, ◌<◌, true, false, codes, length, map}
use Rattle.grammar_model.specs.Readings.{next, ◌<&◌}
use Rattle.idl_model.specs.GrammarReading.{flag, is_one_of, mark}
use Rattle.idl_trees.specs.Members.{flag_of}
use Rattle.idl_parse.specs.Flags.{flags_beside}
use Rattle.idl_parse.proofs.Loops.{starts_behind, one_more, ended, fails, handed_over}
use Rattle.idl_parse.proofs.parser.Parser.flags_before.Goals as goal

pub loop-flagged-init : goal.loop-flagged-init
loop-flagged-init c = starts_behind (is_one_of (flags_beside c.args.flagged)) (flag (flags_beside c.args.flagged) <& mark (codes ","))
    (map flag_of c.args.all.now.items) c.args.self.now

pub loop-flagged-preserved : goal.loop-flagged-preserved
loop-flagged-preserved c =
    let on : true ≡ is_one_of (flags_beside c.args.flagged) (next c.loop-flagged.self) = c.loop-flagged-test.ensures.is in
    one_more (is_one_of (flags_beside c.args.flagged)) (flag (flags_beside c.args.flagged) <& mark (codes ",")) flag_of _ c.loop-flagged.all.items _
    c.in_ok-flag.flag c.args.self.now c.loop-flagged.self c.flag_before_comma.new.self
    c.loop-flagged.invariant on c.in_ok-flag.ensures.gives c.in_ok-flag.ensures.shorter c.in_ok-push.ensures.items

pub returns-in_err-flag-clause-gives : goal.returns-in_err-flag-clause-gives
returns-in_err-flag-clause-gives c =
    let on : true ≡ is_one_of (flags_beside c.args.flagged) (next c.loop-flagged.self) = c.loop-flagged-test.ensures.is in
    let some : 0 < length c.loop-flagged.self = c.loop-flagged-test.ensures.some in
    handed_over _ c.from_residual.result c.in_err-flag.field-0.0 _ _ c.from_residual.ensures
    (fails (is_one_of (flags_beside c.args.flagged)) (flag (flags_beside c.args.flagged) <& mark (codes ",")) _ _ c.args.self.now c.loop-flagged.self _
    c.loop-flagged.invariant on some c.in_err-flag.ensures.gives)

pub returns-clause-gives : goal.returns-clause-gives
returns-clause-gives c =
    let off : false ≡ is_one_of (flags_beside c.args.flagged) (next c.loop-flagged.self) = c.loop-flagged-test.ensures.is in
    ended (is_one_of (flags_beside c.args.flagged)) (flag (flags_beside c.args.flagged) <& mark (codes ",")) _ _ c.args.self.now c.loop-flagged.self
    c.loop-flagged.invariant off
