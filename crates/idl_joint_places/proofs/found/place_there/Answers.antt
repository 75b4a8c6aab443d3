use Rattle.std.proofs.Common.{◌∙◌, subst}
use Rattle.uno_entities.specs.Entities.{entities_of}
use Rattle.idl_joint_places.specs.There.{FindsPlace}
use Rattle.idl_joint_places.proofs.ThereLemmas.{named_so, path_low}
use Rattle.idl_joint_places.proofs.found.place_there.Goals as goal

pub full_name-requires : goal.full_name-requires
full_name-requires c = path_low c.args.paths.now c.args.declared.now c.requires.numbers

pub returns : goal.returns
returns c =
    subst (λ n. FindsPlace (entities_of c.args.entities.now) n c.place_named.result)
    (c.as_str.ensures ∙ named_so c.args.paths.now c.args.declared.now c.in_ok-name.name c.requires.numbers c.in_ok-name.ensures) c.place_named.ensures
