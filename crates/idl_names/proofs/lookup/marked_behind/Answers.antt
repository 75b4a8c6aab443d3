use Rattle.std.proofs.Common.{◌∙◌, sym}
use Rattle.idl_names.proofs.LookupLemmas.{there_none, there_not, there_is}
use Rattle.idl_names.proofs.lookup.marked_behind.Goals as goal

pub returns-in_default : goal.returns-in_default
returns-in_default c = there_none c.args.paths.now c.args.marks.now c.args.modules c.args.parts.now c.in_default.ensures.none

pub returns-then-not-is_marked : goal.returns-then-not-is_marked
returns-then-not-is_marked c =
    there_not c.args.paths.now c.args.marks.now c.args.modules c.args.parts.now c.in-Some.number c.in-Some.ensures.some (sym c.is_marked.ensures ∙ c.if-not-is_marked.true)

pub returns : goal.returns
returns c =
    there_is c.args.paths.now c.args.marks.now c.args.modules c.args.parts.now c.in-Some.number c.in-Some.ensures.some (sym c.is_marked.ensures ∙ c.if-not-is_marked.false)
