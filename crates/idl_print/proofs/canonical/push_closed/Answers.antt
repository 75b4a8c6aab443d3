use Rattle.std.proofs.Common.{rules}
use Rattle.idl_print.proofs.ModuleLemmas.{parts_after, whole_part, closed_step, closed_end}
use Rattle.idl_print.proofs.canonical.push_closed.Goals as goal

pub loop-behind-preserved : goal.loop-behind-preserved
loop-behind-preserved c =
    let cut = parts_after c.loop-behind.rest.now c.split_once.result _ _ c.split_once.ensures.cases c.in-Some.is in
    record {
      written = closed_step _ _ _ _ _ _ cut c.loop-behind.invariant.written c.in_ok-push_tokens.ensures;
      utf8 = search rules;
    }

pub returns : goal.returns
returns c = closed_end _ _ _ (whole_part c.loop-behind.rest.now _ c.split_once.ensures.cases c.in_default.is) c.loop-behind.invariant.written
