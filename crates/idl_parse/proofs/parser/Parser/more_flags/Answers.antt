use Rattle.std.proofs.Common.{map, subst}
use Rattle.idl_trees.specs.Members.{flag_of}
use Rattle.idl_parse.proofs.FlagLemmas.{flags_first, flags_second, flags_third}
use Rattle.idl_parse.proofs.Loops.{handed_over}
use Rattle.idl_parse.specs.Flags.{flags_beside, word_beside}
use Rattle.idl_parse.specs.Reading.{Gives}
use Rattle.idl_parse.proofs.parser.Parser.more_flags.Goals as goal

pub returns-in_err-flags_before-clause-gives : goal.returns-in_err-flags_before-clause-gives
returns-in_err-flags_before-clause-gives c =
    handed_over _ c.from_residual.result c.in_err-flags_before.field-0.0 _ _ c.from_residual.ensures
    (flags_first (flags_beside c.args.flagged) (word_beside c.args.flagged) (map flag_of c.args.all.now.items) c.args.self.now _
    c.in_err-flags_before.ensures.gives)

pub returns-in_err-keyword-clause-gives : goal.returns-in_err-keyword-clause-gives
returns-in_err-keyword-clause-gives c =
    handed_over _ c.from_residual-in_err-keyword.result c.in_err-keyword.field-0.0 _ _ c.from_residual-in_err-keyword.ensures
    (flags_second (flags_beside c.args.flagged) (word_beside c.args.flagged) (map flag_of c.args.all.now.items) _ c.word.result.now c.args.self.now
    c.flags_before.new.self _ c.in_ok-flags_before.ensures.gives c.word.ensures c.in_err-keyword.ensures.gives)

pub returns-clause-gives : goal.returns-clause-gives
returns-clause-gives c =
    subst (Gives (λ _. map flag_of c.flags_behind.new.all.items) c.flags_behind.result c.flags_behind.new.self)
    (flags_third (flags_beside c.args.flagged) (word_beside c.args.flagged) (map flag_of c.args.all.now.items) _ c.word.result.now c.args.self.now
    c.flags_before.new.self c.keyword.new.self c.in_ok-flags_before.ensures.gives c.word.ensures c.in_ok-keyword.ensures.gives) c.flags_behind.ensures.gives
