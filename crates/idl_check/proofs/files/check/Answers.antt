use Rattle.idl_check.proofs.FileLemmas.{checked_broken, checked_kept}
use Rattle.idl_meant.specs.Resolving.{all_in}
use Rattle.idl_check.proofs.files.check.Goals as goal

pub returns-clause-kept : goal.returns-clause-kept
returns-clause-kept c trees are = checked_kept trees (all_in c.args.resolved.now) c.check_meant.result are c.check_meant.ensures.kept

pub returns-clause-refused : goal.returns-clause-refused
returns-clause-refused c trees are = checked_broken trees (all_in c.args.resolved.now) c.check_meant.result are c.check_meant.ensures.refused
