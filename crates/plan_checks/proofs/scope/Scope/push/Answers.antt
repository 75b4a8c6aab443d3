use Rattle.plan_checks.proofs.ScopeLemmas.{noted_more}
use Rattle.plan_checks.proofs.scope.Scope.push.Goals as goal

pub invariant_of-self-2 : goal.invariant_of-self-2
invariant_of-self-2 c =
    λ yes. noted_more c.self.inside.names.keys c.note-self-inside.new.names.keys c.self.inside.list.items c.reserve.new.self.items c.push_reserved.new.self.items c.args.variable
    (c.self.invariant (c.note-self-inside.ensures.noted yes)) (c.note-self-inside.ensures.behind yes) c.in_ok-reserve.ensures.items c.push_reserved.ensures.items
