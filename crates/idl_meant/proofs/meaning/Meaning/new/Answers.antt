use Rattle.idl_meant.proofs.meaning.Meaning.new.Goals as goal

pub numbers_meant-requires-clause-told : goal.numbers_meant-requires-clause-told
numbers_meant-requires-clause-told c = c.in_ok-names.ensures.told
