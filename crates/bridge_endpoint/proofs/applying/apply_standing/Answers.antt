use Rattle.std.proofs.Common.{◌≡◌, ◌+◌, sym, ap, ◌∙◌}
use Rattle.behaviour.specs.Effects.{effect_of}
use Rattle.bridge_model.specs.Entries.{applied}
use Rattle.bridge_model.specs.Steps.{does}
use Rattle.bridge_laws.specs.Room.{brought}
use Rattle.bridge_setting.specs.Settings.{setting_of}
use Rattle.bridge_state.specs.EndSides.{on_side, with_side}
use Rattle.plan_types.specs.Frames.{job_of}
use Rattle.bridge_endpoint.proofs.ApplyLemmas.{brings_effect, does_effect, picked_frame, picked_some, the_picked}
use Rattle.bridge_endpoint.proofs.JournalLemmas.{entered_in}
use Rattle.bridge_endpoint.proofs.MakingLemmas.{few_by}
use Rattle.bridge_endpoint.specs.Entering.{counts_one}
use Rattle.bridge_endpoint.proofs.applying.apply_standing.Goals as goal

pub apply-requires-clause-method : goal.apply-requires-clause-method
apply-requires-clause-method c = picked_some (setting_of c.args.setting.now) c.args.job.tid c.args.state.now.side (job_of c.args.job) c.requires.current

pub enter-requires-clause-few : goal.enter-requires-clause-few
enter-requires-clause-few c =
    let g = setting_of c.args.setting.now in
    let tid = c.args.job.tid in
    let s = c.args.state.now.side in
    let the = the_picked g tid s (job_of c.args.job) c.requires.current in
    let did : c.apply.new.self ≡ on_side (λ y. (does g (applied tid) y).side) c.args.state.now =
    c.in_ok-apply.ensures.applied the.top the.there ∙ ap (λ y. with_side y c.args.state.now) (does_effect g tid s (job_of c.args.job) c.requires.current (effect_of c.args.effect) c.requires.effect) in
    few_by g (applied tid) c.args.state.now c.apply.new.self did c.requires.few

pub returns-clause-done : goal.returns-clause-done
returns-clause-done c =
    let g = setting_of c.args.setting.now in
    let tid = c.args.job.tid in
    let s = c.args.state.now.side in
    let the = the_picked g tid s (job_of c.args.job) c.requires.current in
    let did : c.apply.new.self ≡ on_side (λ y. (does g (applied tid) y).side) c.args.state.now =
    c.in_ok-apply.ensures.applied the.top the.there ∙ ap (λ y. with_side y c.args.state.now) (does_effect g tid s (job_of c.args.job) c.requires.current (effect_of c.args.effect) c.requires.effect) in
    c.enter.ensures.counted ∙ ap (on_side counts_one) did

pub returns-clause-entered : goal.returns-clause-entered
returns-clause-entered c =
    let g = setting_of c.args.setting.now in
    let tid = c.args.job.tid in
    let s = c.args.state.now.side in
    let j = job_of c.args.job in
    let the = the_picked g tid s j c.requires.current in
    let brings = brings_effect g tid s j c.requires.current (effect_of c.args.effect) c.requires.effect in
    let room = c.in_default.ensures.room the.top.method (sym (picked_frame g tid s j c.requires.current)) in
    c.enter.ensures.entered ∙ entered_in c.args.journal.now c.take_room.new.journal (applied tid) (brought g s (applied tid)) c.take_room.ensures.kept (room ∙ ap (λ n. c.args.journal.now.room + 1 + n) brings)
