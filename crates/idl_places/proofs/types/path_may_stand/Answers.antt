use Rattle.std.proofs.Common.{sym, ◌∙◌}
use Rattle.idl_places.proofs.TypeLemmas.{path_told}
use Rattle.idl_places.specs.Standings.{standing_of}
use Rattle.idl_trees.specs.Names.{path_of}
use Rattle.idl_trees.specs.Types.{type_of}
use Rattle.uno_entities.specs.Entities.{entities_of}
use Rattle.idl_places.proofs.types.path_may_stand.Goals as goal

pub returns : goal.returns
returns g c =
    let t = g.M.Meanings.telling c.args.meanings.now in
    path_told c.kind_may_stand.result t.all (entities_of c.args.entities.now) t.declared.modules (standing_of c.args.standing) (path_of c.args.path.now) (type_of c.args.written.now) c.requires.named
    (sym c.if-not-branch.false ∙ c.in_ok-is_type.ensures) c.kind_may_stand.ensures
