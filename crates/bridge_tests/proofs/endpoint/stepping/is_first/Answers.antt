use Rattle.std.proofs.Common.{◌∙◌, sym, subst}
use Rattle.bridge_core.specs.Standing.{IsRunAt}
use Rattle.bridge_tests.proofs.Opening.{opens}
use Rattle.bridge_tests.proofs.endpoint.stepping.is_first.Goals as goal

pub returns : goal.returns
returns c = λ first. subst (IsRunAt c.args.end.now) (sym c.requires.opening) (opens c.args.end.now c.args.root.now.root c.requires.new (sym c.is_root_of.ensures ∙ first))
