use Rattle.std.proofs.Common.{map, arith}
use Rattle.uno_entities.specs.Entities.{entities_of}
use Rattle.idl_check.specs.Asked.{NoneBelow}
use Rattle.idl_meant.specs.Resolving.{all_in}
use Rattle.idl_check.proofs.VerdictLemmas.{asked_kept, asked_no_circle, judged_err}
use Rattle.idl_check.proofs.judge.judge_types.Goals as goal

pub returns : goal.returns
returns g c =
    let ds = all_in c.args.resolved.now in
    let ts = map g.M.Meanings.telling c.args.all.now in
    let reg = entities_of c.args.entities.now in
    let asked = c.requires.asked in
    let b0 : NoneBelow 7 ds = (c.in_ok-values.ensures ds reg asked c.requires.lesser).0 in
    let b1 : NoneBelow 8 ds = (c.in_ok-constant_values.ensures ds reg asked b0).0 in
    let b2 : NoneBelow 9 ds = (c.in_ok-services.ensures ds asked b1).0 in
    let b3 : NoneBelow 10 ds = (c.in_ok-singletons.ensures ds asked b2).0 in
    let b4 : NoneBelow 11 ds = (c.in_ok-types.ensures ds asked b3).0 in
    (c.whole.ensures ts asked b4)

pub returns-in_err-values : goal.returns-in_err-values
returns-in_err-values g c =
    let ds = all_in c.args.resolved.now in
    let ts = map g.M.Meanings.telling c.args.all.now in
    let reg = entities_of c.args.entities.now in
    let asked = c.requires.asked in
    judged_err 6 11 ds c.from_residual.result c.in_err-values.field-0.0 c.from_residual.ensures (c.in_err-values.ensures ds reg asked c.requires.lesser)

pub returns-in_err-constant_values : goal.returns-in_err-constant_values
returns-in_err-constant_values g c =
    let ds = all_in c.args.resolved.now in
    let ts = map g.M.Meanings.telling c.args.all.now in
    let reg = entities_of c.args.entities.now in
    let asked = c.requires.asked in
    let b0 : NoneBelow 7 ds = (c.in_ok-values.ensures ds reg asked c.requires.lesser).0 in
    judged_err 7 11 ds c.from_residual-in_err-constant_values.result c.in_err-constant_values.field-0.0 c.from_residual-in_err-constant_values.ensures (c.in_err-constant_values.ensures ds reg asked b0)

pub returns-in_err-services : goal.returns-in_err-services
returns-in_err-services g c =
    let ds = all_in c.args.resolved.now in
    let ts = map g.M.Meanings.telling c.args.all.now in
    let reg = entities_of c.args.entities.now in
    let asked = c.requires.asked in
    let b0 : NoneBelow 7 ds = (c.in_ok-values.ensures ds reg asked c.requires.lesser).0 in
    let b1 : NoneBelow 8 ds = (c.in_ok-constant_values.ensures ds reg asked b0).0 in
    judged_err 8 11 ds c.from_residual-in_err-services.result c.in_err-services.field-0.0 c.from_residual-in_err-services.ensures (c.in_err-services.ensures ds asked b1)

pub returns-in_err-singletons : goal.returns-in_err-singletons
returns-in_err-singletons g c =
    let ds = all_in c.args.resolved.now in
    let ts = map g.M.Meanings.telling c.args.all.now in
    let reg = entities_of c.args.entities.now in
    let asked = c.requires.asked in
    let b0 : NoneBelow 7 ds = (c.in_ok-values.ensures ds reg asked c.requires.lesser).0 in
    let b1 : NoneBelow 8 ds = (c.in_ok-constant_values.ensures ds reg asked b0).0 in
    let b2 : NoneBelow 9 ds = (c.in_ok-services.ensures ds asked b1).0 in
    judged_err 9 11 ds c.from_residual-in_err-singletons.result c.in_err-singletons.field-0.0 c.from_residual-in_err-singletons.ensures (c.in_err-singletons.ensures ds asked b2)

pub returns-in_err-types : goal.returns-in_err-types
returns-in_err-types g c =
    let ds = all_in c.args.resolved.now in
    let ts = map g.M.Meanings.telling c.args.all.now in
    let reg = entities_of c.args.entities.now in
    let asked = c.requires.asked in
    let b0 : NoneBelow 7 ds = (c.in_ok-values.ensures ds reg asked c.requires.lesser).0 in
    let b1 : NoneBelow 8 ds = (c.in_ok-constant_values.ensures ds reg asked b0).0 in
    let b2 : NoneBelow 9 ds = (c.in_ok-services.ensures ds asked b1).0 in
    let b3 : NoneBelow 10 ds = (c.in_ok-singletons.ensures ds asked b2).0 in
    judged_err 10 11 ds c.from_residual-in_err-types.result c.in_err-types.field-0.0 c.from_residual-in_err-types.ensures (c.in_err-types.ensures ds asked b3)

pub whole-requires-clause-no_circle : goal.whole-requires-clause-no_circle
whole-requires-clause-no_circle g c =
    asked_no_circle 6 (all_in c.args.resolved.now) (map g.M.Meanings.telling c.args.all.now) (entities_of c.args.entities.now) c.requires.asked c.requires.lesser (omega arith)

pub whole-requires-clause-kept : goal.whole-requires-clause-kept
whole-requires-clause-kept g c = asked_kept (all_in c.args.resolved.now) (map g.M.Meanings.telling c.args.all.now) (entities_of c.args.entities.now) c.requires.asked
