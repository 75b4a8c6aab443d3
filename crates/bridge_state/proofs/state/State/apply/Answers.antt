use Rattle.std.proofs.Common.{◌≡◌, true, ap, sym, ◌∙◌}
use Rattle.behaviour.specs.Effects.{effect_of}
use Rattle.bridge_model.specs.Applying.{applies}
use Rattle.bridge_model.specs.Stacks.{with_unwound}
use Rattle.bridge_model.specs.Steps.{is_picked, picked, picked_in}
use Rattle.bridge_setting.specs.Settings.{setting_of}
use Rattle.plan_model.specs.Frames.{frames_of}
use Rattle.bridge_state.proofs.StateLemmas.{applies_other, at_top, either, named_so, no_end, on_oks, picked_all, unwound_so}
use Rattle.bridge_state.specs.EndSides.{on_side, with_side}
use Rattle.bridge_state.proofs.state.State.apply.Goals as goal

pub invariant_of-self : goal.invariant_of-self
unfolding picked
invariant_of-self c =
    let there : is_picked (picked_in (frames_of c.args.tid.now c.self.inside.stacks)) ≡ true = ap (λ e. is_picked (picked_in (frames_of c.args.tid.now e.side.stacks))) c.self.view_is ∙ c.requires.method in
    let m = at_top (frames_of c.args.tid.now c.self.inside.stacks) there in
    either c.apply.result (c.apply.ensures.tables m.method m.below m.all) c.apply.ensures.lost (λ p. ap (λ e. e.stands) p ∙ c.self.invariant) (λ p. ap (λ e. e.stands) p ∙ c.self.invariant)

pub returns-clause-applied : goal.returns-clause-applied
unfolding picked
returns-clause-applied c p is =
    let g = setting_of c.args.setting.now in
    let all = picked_all (frames_of c.args.tid.now c.self.inside.stacks) p (ap (λ e. picked_in (frames_of c.args.tid.now e.side.stacks)) c.self.view_is ∙ is) in
    on_oks c.apply.result (c.apply.ensures.stacks p.method p.below all) (c.apply.ensures.tables p.method p.below all)
    (λ q w.
    unwound_so c.args.tid.now (applies g c.args.tid.now p.method p.below (effect_of c.args.effect) c.self.inside.tables.tables) c.self.inside.tables c.apply.new.tables c.self.inside.stacks c.apply.new.stacks
    c.self.inside.incoming c.self.inside.outgoing c.self.inside.entries c.self.inside.cause c.args.self.now c.self.view_is q w
    ∙ ap (λ e. on_side (λ s. with_unwound c.args.tid.now (applies g c.args.tid.now p.method p.below (effect_of c.args.effect) e.side.tables) s) c.args.self.now) c.self.view_is
    ∙ ap (λ s. with_side s c.args.self.now) (sym (applies_other g c.args.tid.now p (effect_of c.args.effect) c.args.self.now.side (no_end c.args.effect c.in_default.not-Disposes))))

pub returns-clause-names : goal.returns-clause-names
unfolding picked
returns-clause-names c =
    let there : is_picked (picked_in (frames_of c.args.tid.now c.self.inside.stacks)) ≡ true = ap (λ e. is_picked (picked_in (frames_of c.args.tid.now e.side.stacks))) c.self.view_is ∙ c.requires.method in
    let m = at_top (frames_of c.args.tid.now c.self.inside.stacks) there in
    named_so c.apply.result _ c.self.inside.tables c.apply.new.tables c.self.inside.stacks c.apply.new.stacks c.self.inside.incoming c.self.inside.outgoing c.self.inside.entries c.self.inside.cause c.args.self.now
    c.self.view_is (c.apply.ensures.tables m.method m.below m.all) c.apply.ensures.lost
