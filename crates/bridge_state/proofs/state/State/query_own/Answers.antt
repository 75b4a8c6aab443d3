use Rattle.std.proofs.Common.{ap}
use Rattle.bridge_model.specs.Sides.{waits_query}
use Rattle.bridge_setting.specs.Settings.{setting_of}
use Rattle.urp_message.specs.Messages.{answer_of}
use Rattle.bridge_state.proofs.OwnAnswerLemmas.{own_answered}
use Rattle.bridge_state.proofs.state.State.query_own.Goals as goal

pub returns-in-Ok-clause-answered : goal.returns-in-Ok-clause-answered
returns-in-Ok-clause-answered c =
    own_answered (setting_of c.args.setting.now) c.args.root c.args.oid.now c.args.wanted.now c.self.inside.tables c.set_root.new.self c.root_gets.new.tables c.self.inside.stacks c.self.inside.incoming
    c.self.inside.outgoing c.self.inside.entries c.self.inside.cause c.args.self.now c.own_answer.new.self (waits_query c.in_ok-copy.field-0) (answer_of c.in-Ok.answer) c.requires.may.least c.requires.may.most
    c.in-Ok.ensures.held c.self.view_is (ap waits_query c.in_ok-copy.ensures) c.set_root.ensures.set c.in-Ok.ensures.answer c.root_gets.ensures.gets
