use Rattle.std.proofs.Common.{◌∙◌, sym}
use Rattle.idl_names.proofs.LookupLemmas.{outwards_first, outwards_past, outwards_rest, outwards_seen}
use Rattle.idl_names.proofs.lookup.named_outwards.Goals as goal

pub loop-outer-init : goal.loop-outer-init
loop-outer-init c = outwards_first c.args.paths.now c.args.marks.now c.args.modules c.args.parts.now c.requires.low

pub last-requires : goal.last-requires
last-requires c = c.loop-outer.invariant.low

pub marked_behind-requires : goal.marked_behind-requires
marked_behind-requires c = c.loop-outer.invariant.low

pub returns-then-is_some : goal.returns-then-is_some
returns-then-is_some c =
    outwards_seen c.args.paths.now c.args.marks.now c.args.modules c.args.parts.now c.loop-outer.scope c.loop-outer.invariant c.marked_behind-found.result
    (sym c.is_some.ensures ∙ c.if-is_some.true) c.marked_behind-found.ensures

pub loop-outer-preserved : goal.loop-outer-preserved
loop-outer-preserved c =
    outwards_past c.args.paths.now c.args.marks.now c.args.modules c.args.parts.now c.loop-outer.scope c.loop-outer.invariant c.marked_behind-found.result c.in-Some.outer _
    (sym c.is_some.ensures ∙ c.if-is_some.false) c.in-Some.ensures.some c.marked_behind-found.ensures

pub returns : goal.returns
returns c =
    outwards_rest c.args.paths.now c.args.marks.now c.args.modules c.args.parts.now c.loop-outer.scope c.loop-outer.invariant c.marked_behind.result c.in_default.ensures.none c.requires.outermost
    c.marked_behind.ensures
