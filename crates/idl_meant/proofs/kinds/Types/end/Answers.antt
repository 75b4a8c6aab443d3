use Rattle.std.proofs.Common.{◌∙◌}
use Rattle.idl_meant.proofs.KindLemmas.{end_built, end_declared}
use Rattle.uno_entities.specs.Entities.{entities_of}
use Rattle.idl_meant.proofs.kinds.Types.end.Goals as goal

pub returns-in-Some : goal.returns-in-Some
returns-in-Some c = λ names built.
    c.declared_type.ensures
    ∙ end_declared c.args.self.now.paths.now c.args.self.now.all.now c.args.self.now.owners.now c.args.number c.in_ok-name.name c.in-Some.declared (c.in_ok-name.ensures names) c.in-Some.ensures

pub returns-in-None : goal.returns-in-None
returns-in-None c = λ names built.
    c.built_in_type.ensures
    ∙ end_built c.args.self.now.paths.now c.args.self.now.all.now c.args.self.now.owners.now c.args.number c.in_ok-name.name (entities_of c.args.self.now.built_in.now) (c.in_ok-name.ensures names) c.in-None.ensures built
