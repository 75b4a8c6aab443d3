use Rattle.std.proofs.Common.{◌∙◌, ap, sym}
use Rattle.bridge_endpoint.specs.Journals.{setting_at, side_at, told_at}
use Rattle.bridge_world.proofs.EndCalls.{there_a, there_b}
use Rattle.bridge_world.proofs.Unmarked.{same_side, same_told}
use Rattle.bridge_world.proofs.world.World.end_of.Goals as goal

pub returns-in-A-clause-setting : goal.returns-in-A-clause-setting
returns-in-A-clause-setting c = ap setting_at (there_a c.self.inside.a c.self.inside.b c.self.inside.to_a.items c.self.inside.to_b.items c.self.invariant c.args.self.now c.self.view_is c.args.side c.in-A.is)

pub returns-in-A-clause-entries : goal.returns-in-A-clause-entries
returns-in-A-clause-entries c = ap (λ e. e.entries) (there_a c.self.inside.a c.self.inside.b c.self.inside.to_a.items c.self.inside.to_b.items c.self.invariant c.args.self.now c.self.view_is c.args.side c.in-A.is)

pub returns-in-A-clause-told : goal.returns-in-A-clause-told
returns-in-A-clause-told c = sym (same_told c.self.inside.a) ∙ ap told_at (there_a c.self.inside.a c.self.inside.b c.self.inside.to_a.items c.self.inside.to_b.items c.self.invariant c.args.self.now c.self.view_is c.args.side c.in-A.is)

pub returns-in-A-clause-side : goal.returns-in-A-clause-side
returns-in-A-clause-side c = sym (same_side c.self.inside.a) ∙ ap side_at (there_a c.self.inside.a c.self.inside.b c.self.inside.to_a.items c.self.inside.to_b.items c.self.invariant c.args.self.now c.self.view_is c.args.side c.in-A.is)

pub returns-in-B-clause-setting : goal.returns-in-B-clause-setting
returns-in-B-clause-setting c = ap setting_at (there_b c.self.inside.a c.self.inside.b c.self.inside.to_a.items c.self.inside.to_b.items c.self.invariant c.args.self.now c.self.view_is c.args.side c.in-B.is)

pub returns-in-B-clause-entries : goal.returns-in-B-clause-entries
returns-in-B-clause-entries c = ap (λ e. e.entries) (there_b c.self.inside.a c.self.inside.b c.self.inside.to_a.items c.self.inside.to_b.items c.self.invariant c.args.self.now c.self.view_is c.args.side c.in-B.is)

pub returns-in-B-clause-told : goal.returns-in-B-clause-told
returns-in-B-clause-told c = sym (same_told c.self.inside.b) ∙ ap told_at (there_b c.self.inside.a c.self.inside.b c.self.inside.to_a.items c.self.inside.to_b.items c.self.invariant c.args.self.now c.self.view_is c.args.side c.in-B.is)

pub returns-in-B-clause-side : goal.returns-in-B-clause-side
returns-in-B-clause-side c = sym (same_side c.self.inside.b) ∙ ap side_at (there_b c.self.inside.a c.self.inside.b c.self.inside.to_a.items c.self.inside.to_b.items c.self.invariant c.args.self.now c.self.view_is c.args.side c.in-B.is)
