use Rattle.std.proofs.Common.{ap}
use Rattle.uno_entities.specs.TypeNames.{kind_of}
use Rattle.plan_checks.proofs.PartLemmas.{done_by, operation_kinds}
use Rattle.plan_checks.specs.Parts.{kinds_asked, part_of}
use Rattle.plan_checks.proofs.checker.Checker.want.Goals as goal

pub returns-in-Operation : goal.returns-in-Operation
returns-in-Operation c =
    done_by _ _ _ _ (operation_kinds c.args.self.now.registry.now (part_of c.args.part.now) _ (kind_of c.args.kind.now) (kinds_asked c.args.wanted.now.items) (ap part_of c.in-Operation.is))
    c.push_times-in-Operation.ensures
