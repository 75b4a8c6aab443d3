use Rattle.std.proofs.lemmas.Result.{on_ok_weaker}
use Rattle.uno_entities.specs.Entities.{body_of}
use Rattle.idl_print.proofs.ModuleLemmas.{modules_written}
use Rattle.idl_print.proofs.canonical.push_in_modules.Goals as goal

pub returns : goal.returns
returns c =
    on_ok_weaker _ (modules_written c.args.published (body_of c.args.body.now) c.args.name.now _ _ _ _ _ _ c.in_ok-id.ensures.last c.in_ok-id.ensures.opened
    c.in_ok-push_published.ensures c.in_ok-push_declaration.ensures) c.push_closed.ensures
