use Rattle.std.proofs.Common.{ap, sym, subst, ◌∙◌, ◌++◌, map, option_map, option_to_list}
use Rattle.bridge_frames.specs.Answered.{answered_root}
use Rattle.bridge_laws.specs.Grounded.{HasRoots}
use Rattle.bridge_model.specs.Handing.{hands_from_peer}
use Rattle.bridge_model.specs.Receiving.{below_top}
use Rattle.bridge_model.specs.Sides.{on_tables}
use Rattle.bridge_model.specs.Stacks.{with_unwound}
use Rattle.bridge_frames.specs.Unwinding.{tables_by}
use Rattle.bridge_setting.specs.Settings.{setting_of}
use Rattle.plan_model.specs.Frames.{frames_of}
use Rattle.urp_message.specs.Messages.{answer_of}
use Rattle.bridge_state.proofs.ReceivingLemmas.{reply_gets, reply_stacks, below_here}
use Rattle.bridge_state.proofs.RestingLemmas.{lasting_so, noted_rests, undone_so}
use Rattle.bridge_state.proofs.Seen.{side_by}
use Rattle.bridge_state.proofs.StateLemmas.{unwound_so}
use Rattle.bridge_state.specs.EndSides.{on_side}
use Rattle.bridge_state.specs.Undoing.{rests, takes_roots_back}
use Rattle.bridge_state.proofs.state.State.receive_reply.Goals as goal

pub returns-clause-received : goal.returns-clause-received
returns-clause-received c =
    let g = setting_of c.args.setting.now in
    let tid = c.args.tid.now in
    let a = answer_of c.home_answer-answer.result in
    let s = c.self.inside in
    unwound_so tid (hands_from_peer g tid a (below_top (frames_of tid s.stacks)) s.tables.tables) s.tables c.hand_from_peer.new.tables s.stacks c.hand_from_peer.new.stacks s.incoming s.outgoing s.entries s.cause c.args.self.now c.self.view_is
    (reply_stacks g tid a s.tables.tables s.stacks c.pop.new.self c.hand_from_peer.new.stacks c.pop.ensures.popped c.pop.ensures.below c.in_ok-answered.ensures.stacks c.in_ok-answered.ensures.none)
    (c.in_ok-answered.ensures.tables ∙ ap (λ fs. tables_by (hands_from_peer g tid a fs s.tables.tables) s.tables) (below_here tid s.stacks c.pop.new.self c.pop.ensures.below))
    ∙ ap (λ e. on_side (λ x. with_unwound tid (hands_from_peer g tid a (below_top (frames_of tid e.side.stacks)) e.side.tables) x) c.args.self.now) c.self.view_is
    ∙ ap (λ b. on_side (λ x. with_unwound tid (hands_from_peer g tid b (below_top (frames_of tid x.stacks)) x.tables) x) c.args.self.now) c.home_answer-answer.ensures

pub returns-clause-back : goal.returns-clause-back
returns-clause-back c rooted =
    let g = setting_of c.args.setting.now in
    let tid = c.args.tid.now in
    let a = answer_of c.home_answer-answer.result in
    let s = c.self.inside in
    let here : HasRoots g (side_by s.tables s.stacks s.incoming s.outgoing s.entries s.cause) = subst (λ e. HasRoots g e.side) (sym c.self.view_is) rooted in
    let done = map answered_root c.args.trace.now.answered.items in
    noted_rests done _ (option_map answered_root c.in_ok-answered.answered) s.tables c.hand_from_peer.new.tables s.stacks c.hand_from_peer.new.stacks s.incoming s.outgoing s.entries s.cause c.args.self.now c.self.view_is
    (c.note.ensures.noted ∙ ap (λ xs. map answered_root xs ++ option_to_list (option_map answered_root c.in_ok-answered.answered)) c.count_answer.ensures.answered)
    (c.in_ok-answered.ensures.back (reply_gets g tid a (side_by s.tables s.stacks s.incoming s.outgoing s.entries s.cause) (frames_of tid c.pop.new.self) here
    (below_here tid s.stacks c.pop.new.self c.pop.ensures.below) (λ root gs is. sym (c.may_get.ensures root gs is) ∙ c.if-not-may_get.false)))

pub returns-in_err-answered-clause-back : goal.returns-in_err-answered-clause-back
returns-in_err-answered-clause-back c rooted =
    let s = c.self.inside in
    ap (λ xs. rests (on_tables (takes_roots_back (map answered_root xs)) (side_by c.hand_from_peer.new.tables c.hand_from_peer.new.stacks s.incoming s.outgoing s.entries s.cause))) c.count_answer.ensures.answered
    ∙ undone_so (map answered_root c.args.trace.now.answered.items) (side_by c.hand_from_peer.new.tables c.hand_from_peer.new.stacks s.incoming s.outgoing s.entries s.cause) c.args.self.now.side
    (lasting_so s.tables c.hand_from_peer.new.tables s.stacks c.hand_from_peer.new.stacks s.incoming s.outgoing s.entries s.cause c.args.self.now c.self.view_is c.in_err-answered.ensures.lost)
