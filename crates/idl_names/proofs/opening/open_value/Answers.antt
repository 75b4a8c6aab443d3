use Rattle.idl_names.specs.Paths.{within}
use Rattle.idl_names.proofs.OpenLemmas.{numbers_opened}
use Rattle.idl_names.proofs.opening.open_value.Goals as goal

pub returns : goal.returns
returns c =
    numbers_opened c.args.paths.now c.open.new.self c.args.numbers.now.items c.push.new.self.items c.in_ok-number.number (within c.args.paths.now (c.args.owner, c.args.name.now))
    c.in_ok-number.ensures.opened c.in_ok-number.ensures.number c.in_ok-push.ensures.items
