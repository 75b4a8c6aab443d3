use Rattle.std.proofs.Common.{ap}
use Rattle.behaviour.specs.Effects.{effect_of}
use Rattle.bridge_setting.specs.Settings.{setting_of}
use Rattle.bridge_frames.proofs.CallLemmas.{at_any}
use Rattle.bridge_frames.proofs.EffectLemmas.{skipped_stacks, skipped_tables, disposed_stacks}
use Rattle.bridge_frames.proofs.HandingLemmas.{on_ok}
use Rattle.bridge_frames.proofs.applying.apply.Goals as goal

pub returns-in-Skips-clause-stacks : goal.returns-in-Skips-clause-stacks
returns-in-Skips-clause-stacks c = λ b fs all.
    on_ok c.apply_skip.result (skipped_stacks (setting_of c.args.setting.now) c.args.tid.now b fs (effect_of c.args.effect) c.args.tables.now.tables c.args.stacks.now c.apply_skip.new.stacks (ap effect_of c.in-Skips.is))
    (c.apply_skip.ensures b fs all)

pub returns-in-Skips-clause-tables : goal.returns-in-Skips-clause-tables
returns-in-Skips-clause-tables c = λ b fs all.
    at_any c.apply_skip.result (skipped_tables (setting_of c.args.setting.now) c.args.tid.now b fs (effect_of c.args.effect) c.args.tables.now (ap effect_of c.in-Skips.is))

pub returns-in-Disposes-clause-stacks : goal.returns-in-Disposes-clause-stacks
returns-in-Disposes-clause-stacks c = λ b fs all.
    disposed_stacks (setting_of c.args.setting.now) c.args.tid.now b fs (effect_of c.args.effect) c.args.tables.now.tables c.args.stacks.now (ap effect_of c.in-Disposes.is) all
