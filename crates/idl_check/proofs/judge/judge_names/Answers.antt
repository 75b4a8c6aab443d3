use Rattle.std.proofs.Common.{map, subst, sym}
use Rattle.uno_entities.specs.Entities.{entities_of}
use Rattle.idl_check.specs.Asked.{IsAsked, NoneBelow}
use Rattle.idl_meant.specs.Resolving.{all_in}
use Rattle.idl_check.proofs.VerdictLemmas.{judged_err, none_below_first}
use Rattle.uno_model.specs.Registry.{IsRising}
use Rattle.idl_check.proofs.judge.judge_names.Goals as goal

pub returns : goal.returns
returns g c =
    let ds = all_in c.args.resolved.now in
    let ts = map g.M.Meanings.telling c.args.all.now in
    let reg = entities_of c.entities-entities.result.now in
    let asked : IsAsked ds ts reg = subst (IsAsked ds ts) (sym c.entities-entities.ensures.all) c.requires.asked in
    let b0 : NoneBelow 2 ds = (c.in_ok-bases.ensures ds asked (none_below_first ds)).0 in
    let b1 : NoneBelow 3 ds = (c.in_ok-circles.ensures ts asked b0).0 in
    let b2 : NoneBelow 4 ds = c.in_ok-names.ensures.0 in
    let b3 : NoneBelow 5 ds = (c.in_ok-one_way.ensures ds reg asked b2).0 in
    (c.raised.ensures ds asked b3)

pub returns-in_err-bases : goal.returns-in_err-bases
returns-in_err-bases g c =
    let ds = all_in c.args.resolved.now in
    let ts = map g.M.Meanings.telling c.args.all.now in
    let reg = entities_of c.entities-entities.result.now in
    let asked : IsAsked ds ts reg = subst (IsAsked ds ts) (sym c.entities-entities.ensures.all) c.requires.asked in
    judged_err 1 5 ds c.from_residual.result c.in_err-bases.field-0.0 c.from_residual.ensures (c.in_err-bases.ensures ds asked (none_below_first ds))

pub returns-in_err-circles : goal.returns-in_err-circles
returns-in_err-circles g c =
    let ds = all_in c.args.resolved.now in
    let ts = map g.M.Meanings.telling c.args.all.now in
    let reg = entities_of c.entities-entities.result.now in
    let asked : IsAsked ds ts reg = subst (IsAsked ds ts) (sym c.entities-entities.ensures.all) c.requires.asked in
    let b0 : NoneBelow 2 ds = (c.in_ok-bases.ensures ds asked (none_below_first ds)).0 in
    judged_err 2 5 ds c.from_residual-in_err-circles.result c.in_err-circles.field-0.0 c.from_residual-in_err-circles.ensures (c.in_err-circles.ensures ts asked b0)

pub returns-in_err-names : goal.returns-in_err-names
returns-in_err-names g c =
    let ds = all_in c.args.resolved.now in
    let ts = map g.M.Meanings.telling c.args.all.now in
    let reg = entities_of c.entities-entities.result.now in
    let asked : IsAsked ds ts reg = subst (IsAsked ds ts) (sym c.entities-entities.ensures.all) c.requires.asked in
    let b0 : NoneBelow 2 ds = (c.in_ok-bases.ensures ds asked (none_below_first ds)).0 in
    let b1 : NoneBelow 3 ds = (c.in_ok-circles.ensures ts asked b0).0 in
    judged_err 3 5 ds c.from_residual-in_err-names.result c.in_err-names.field-0.0 c.from_residual-in_err-names.ensures c.in_err-names.ensures

pub returns-in_err-one_way : goal.returns-in_err-one_way
returns-in_err-one_way g c =
    let ds = all_in c.args.resolved.now in
    let ts = map g.M.Meanings.telling c.args.all.now in
    let reg = entities_of c.entities-entities.result.now in
    let asked : IsAsked ds ts reg = subst (IsAsked ds ts) (sym c.entities-entities.ensures.all) c.requires.asked in
    let b0 : NoneBelow 2 ds = (c.in_ok-bases.ensures ds asked (none_below_first ds)).0 in
    let b1 : NoneBelow 3 ds = (c.in_ok-circles.ensures ts asked b0).0 in
    let b2 : NoneBelow 4 ds = c.in_ok-names.ensures.0 in
    judged_err 4 5 ds c.from_residual-in_err-one_way.result c.in_err-one_way.field-0.0 c.from_residual-in_err-one_way.ensures (c.in_err-one_way.ensures ds reg asked b2)

pub names-requires-clause-asked : goal.names-requires-clause-asked
names-requires-clause-asked g c = (map g.M.Meanings.telling c.args.all.now, c.requires.asked)

pub names-requires-clause-lesser : goal.names-requires-clause-lesser
names-requires-clause-lesser g c =
    let ds = all_in c.args.resolved.now in
    let ts = map g.M.Meanings.telling c.args.all.now in
    let reg = entities_of c.entities-entities.result.now in
    let asked : IsAsked ds ts reg = subst (IsAsked ds ts) (sym c.entities-entities.ensures.all) c.requires.asked in
    let b0 : NoneBelow 2 ds = (c.in_ok-bases.ensures ds asked (none_below_first ds)).0 in
    (c.in_ok-circles.ensures ts asked b0).0

pub circles-requires-clause-apart : goal.circles-requires-clause-apart
circles-requires-clause-apart g c = c.requires.asked.resolved.values

pub bases-requires : goal.bases-requires
bases-requires g c = record { rising = subst IsRising (sym c.entities-entities.ensures.all) c.entities-entities.ensures.rising }

pub circles-requires-clause-rising : goal.circles-requires-clause-rising
circles-requires-clause-rising g c = subst IsRising (sym c.entities-entities.ensures.all) c.entities-entities.ensures.rising

pub raised-requires : goal.raised-requires
raised-requires g c = record { rising = subst IsRising (sym c.entities-entities.ensures.all) c.entities-entities.ensures.rising }
