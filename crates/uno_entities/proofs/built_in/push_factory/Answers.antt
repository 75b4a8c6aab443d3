use Rattle.uno_entities.proofs.built_in.push_factory.Goals as goal

pub returns : goal.returns
returns c = rw (c.in_ok-bases.ensures, c.in_ok-push_factory_members.ensures) at c.push_published.ensures
