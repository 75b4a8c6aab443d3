use Rattle.env_table.proofs.Occurrences.{holders_are}
use Rattle.env_table.proofs.part.Part.holders.Goals as goal

pub returns-clause-number : goal.returns-clause-number
returns-clause-number c = holders_are c.self.inside.pairs c.number.ensures.rises c.args.self.now c.self.view_is _ _ c.number.ensures.number
