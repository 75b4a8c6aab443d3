use Rattle.std.proofs.Common.{refl}
use Rattle.idl_meant.specs.Resolving.{all_in}
use Rattle.idl_check.proofs.VerdictLemmas.{no_memory_judged}
use Rattle.registry_text_model.specs.Rules as rule
use Rattle.idl_check.proofs.judge.names.Goals as goal

pub returns : goal.returns
returns c = c.refuse.ensures rule.names (all_in c.args.resolved.now) refl c.requires.lesser c.in_ok-found.ensures

pub returns-in_err-found : goal.returns-in_err-found
returns-in_err-found c = no_memory_judged 3 (all_in c.args.resolved.now) c.from_residual.result c.from_residual.ensures
