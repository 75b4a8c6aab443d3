use Rattle.std.proofs.Common.{◌-◌, ◌+◌, ◌∙◌, ◌++◌, ◌∷◌, [], length, ap, sym, option_map, arith}
use Rattle.plan_lines.specs.Reads.{both}
use Rattle.plan_lines.specs.declared.unread.Unread.TheVariants as unread
use Rattle.plan_lines.proofs.PathLemmas.{path_fails, path_last, path_lost, path_next, paths_end}
use Rattle.plan_lines.proofs.blocks.push_paths.Goals as goal

pub returns-in_default : goal.returns-in_default
returns-in_default c =
    path_fails (length c.args.bytes.now - c.loop.counter) c.loop.rest.now c.loop.paths.items _ unread.Form (omega arith) (sym c.path_at.ensures ∙ ap (option_map both) c.in_default.is) c.loop.invariant

pub returns-in_default-split_first : goal.returns-in_default-split_first
returns-in_default-split_first c =
    path_last (length c.args.bytes.now - c.loop.counter) c.loop.rest.now c.in-Some.behind.now c.in-Some.path.now c.loop.paths.items _ _ (omega arith) (sym c.in-Some.ensures) c.in_default-split_first.ensures.cases (c.in_ok-push.ensures.items ∙ ap (λ p. c.loop.paths.items ++ p ∷ []) c.in_ok-path.ensures) c.loop.invariant

pub returns-then-first-ne32 : goal.returns-then-first-ne32
returns-then-first-ne32 c =
    path_lost (length c.args.bytes.now - c.loop.counter) c.loop.rest.now c.in-Some.behind.now c.in-Some-split_first.next.now c.in-Some.path.now c.in-Some-split_first.first.now c.loop.paths.items _ (omega arith) (sym c.in-Some.ensures) c.in-Some-split_first.ensures.cases.0 c.if-first-ne32.true c.loop.invariant

pub loop-preserved : goal.loop-preserved
loop-preserved c =
    path_next (length c.args.bytes.now - c.loop.counter) (length c.args.bytes.now - (c.loop.counter + 1)) c.loop.rest.now c.in-Some.behind.now c.in-Some-split_first.next.now c.in-Some.path.now c.in-Some-split_first.first.now c.loop.paths.items _ _ (omega arith) (omega arith)
    (sym c.in-Some.ensures) c.in-Some-split_first.ensures.cases.0 c.if-first-ne32.false (c.in_ok-push.ensures.items ∙ ap (λ p. c.loop.paths.items ++ p ∷ []) c.in_ok-path.ensures) c.loop.invariant

pub returns : goal.returns
returns c = paths_end (length c.args.bytes.now - c.loop.counter) c.loop.rest.now c.loop.paths.items _ (omega arith) c.loop.invariant
