use Rattle.idl_repeated_names.specs.Over.{names_over, owned}
use Rattle.idl_repeated_names.proofs.WalkLemmas.{noted_one}
use Rattle.idl_repeated_names.proofs.walk.visit.Goals as goal

pub returns : goal.returns
returns c = λ was.
    noted_one (names_over c.args.kind (owned c.args.around.owners.now) c.args.around.built_in.now c.args.around.registry.now) c.args.walk.now c.reach.new.way c.go_on.new.self c.insert.new.self c.args.name
    c.in_ok-reach.ensures (c.in_ok-go_on.ensures _) c.in_ok-insert.ensures.updates was
