use Rattle.uno_run.proofs.JoinLaws.{apart_tags, is_fresh, nothing_at, setting_a, setting_b}
use Rattle.uno_run.proofs.Results.{ok_both, ok_so}
use Rattle.uno_run.proofs.joining.join.Goals as goal

pub new-requires-clause-opening_a : goal.new-requires-clause-opening_a
new-requires-clause-opening_a c = nothing_at _ c.requires.opening_a

pub new-requires-clause-opening_b : goal.new-requires-clause-opening_b
new-requires-clause-opening_b c = nothing_at _ c.requires.opening_b

pub new-requires-clause-apart : goal.new-requires-clause-apart
new-requires-clause-apart c = apart_tags _ _ c.requires.tag_a c.requires.tag_b

pub returns-clause-a : goal.returns-clause-a
returns-clause-a c = ok_so _ _ c.new.result (λ w is. setting_a c.args.a c.args.b c.requires.registry w is) c.new.ensures.opening

pub returns-clause-b : goal.returns-clause-b
returns-clause-b c = ok_so _ _ c.new.result (λ w is. setting_b c.args.a c.args.b c.requires.registry w is) c.new.ensures.opening

pub returns-clause-fresh : goal.returns-clause-fresh
returns-clause-fresh c = ok_both _ _ _ c.new.result (λ w is ready. is_fresh c.args.a c.args.b c.requires.registry w is ready) c.new.ensures.opening c.new.ensures.ready
