use Rattle.std.proofs.Common.{rules}
use Rattle.idl_print.proofs.ModuleLemmas.{parts_after, whole_part, opened_step, last_step, opened_end, last_end}
use Rattle.idl_print.proofs.canonical.push_opened.Goals as goal

pub loop-module-preserved : goal.loop-module-preserved
loop-module-preserved c =
    let cut = parts_after c.loop-module.rest.now c.split_once.result _ _ c.split_once.ensures.cases c.in-Some.is in
    record {
      written = opened_step _ _ _ _ _ _ cut c.loop-module.invariant.written c.in_ok-push_tokens.ensures;
      last = last_step _ _ _ _ cut c.loop-module.invariant.last;
      utf8 = search rules;
    }

pub returns-clause-opened : goal.returns-clause-opened
returns-clause-opened c =
    opened_end _ _ _ (whole_part c.loop-module.rest.now _ c.split_once.ensures.cases c.in_default.is) c.loop-module.invariant.written

pub returns-clause-last : goal.returns-clause-last
returns-clause-last c = last_end _ _ (whole_part c.loop-module.rest.now _ c.split_once.ensures.cases c.in_default.is) c.loop-module.invariant.last
