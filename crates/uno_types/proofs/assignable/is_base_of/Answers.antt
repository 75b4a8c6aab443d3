use Rattle.uno_types.proofs.RootLemmas.{root_over}
use Rattle.uno_types.proofs.assignable.is_base_of.Goals as goal

pub returns-then-is_root_over : goal.returns-then-is_root_over
returns-then-is_root_over c =
    root_over c.args.registry.now c.args.to.now c.args.from.now _ c.requires c.is_root_over.ensures.built_in c.is_root_over.ensures.is c.if-is_root_over.true
