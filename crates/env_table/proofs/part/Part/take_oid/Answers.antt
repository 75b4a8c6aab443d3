use Rattle.env_table.proofs.Joined.{if_some, either}
use Rattle.env_table.proofs.Parts.{AreHeld, bag_without, fewer_some, held_without, none_are_held}
use Rattle.env_table.proofs.part.Part.take_oid.Goals as goal

pub invariant_of-self : goal.invariant_of-self
invariant_of-self c =
    either {R = AreHeld c.take_oid.new.self} c.take_oid.result
    (λ oid gone. held_without c.self.inside.pairs c.take_oid.new.self c.args.self.now c.self.view_is oid gone c.self.invariant)
    (λ none. none_are_held c.take_oid.new.self none) c.take_oid.ensures.gone c.take_oid.ensures.kept

pub returns-clause-gone : goal.returns-clause-gone
returns-clause-gone c = if_some c.take_oid.result (λ oid gone. bag_without c.self.inside.pairs c.take_oid.new.self c.args.self.now c.self.view_is oid gone) c.take_oid.ensures.gone

pub returns-clause-fewer : goal.returns-clause-fewer
returns-clause-fewer c =
    fewer_some c.self.inside.pairs c.take_oid.new.self c.args.self.now c.self.view_is c.take_oid.result c.take_oid.ensures.rises c.self.invariant c.take_oid.ensures.gone c.take_oid.ensures.some
