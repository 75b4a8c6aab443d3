use Rattle.std.proofs.Common.{suc, length, sym, ap, ◌∙◌, arith}
use Rattle.std.proofs.lemmas.List.{length-map}
use Rattle.uno_model.specs.Functions.{functions_of}
use Rattle.type_registry.proofs.numbered.numbered_from.Goals as goal

pub returns-in-Some : goal.returns-in-Some
returns-in-Some c =
    c.found.ensures (functions_of c.args.registry.now c.args.name.now) c.args.number
    (c.in-Some.ensures (suc (length c.args.registry.now)) (omega (arith, c.min-levels.ensures, sym (length-map c.entities.result.now _) ∙ ap length c.entities.ensures.all)))
