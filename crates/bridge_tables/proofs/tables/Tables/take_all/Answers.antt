use Rattle.std.proofs.Common.{◌∙◌, ap, sym, refl, map, take}
use Rattle.uno_values.specs.References.{ref_of}
use Rattle.bridge_model.specs.References.{takes}
use Rattle.bridge_setting.specs.Settings.{setting_of}
use Rattle.bridge_tables.specs.EndTables.{on_tables, quiet, with_tables}
use Rattle.bridge_tables.proofs.ReferringLemmas.{taken_next, none_taken, quietly_taken, was_ok, was_err}
use Rattle.bridge_tables.proofs.tables.Tables.take_all.Goals as goal

pub loop-place-init : goal.loop-place-init
loop-place-init c = ap (λ t. with_tables t c.args.self.now) (sym (none_taken (setting_of c.args.setting.now) c.args.holder c.args.self.now.tables))

pub returns-then-is_err-clause-kept : goal.returns-then-is_err-clause-kept
returns-then-is_err-clause-kept c =
    c.lose_back.ensures.taken c.args.self.now
    (was_err c.take.result c.is_err.result c.is_err.ensures.value c.if-is_err.true c.take.ensures.kept
    ∙ ap quiet c.loop-place.invariant
    ∙ quietly_taken (setting_of c.args.setting.now) c.args.holder (map ref_of (take c.loop-place.place c.args.references.now)) c.args.self.now c.args.self.now refl)

pub loop-place-preserved : goal.loop-place-preserved
loop-place-preserved c =
    was_ok c.take.result c.is_err.result c.is_err.ensures.value c.if-is_err.false c.take.ensures.taken
    ∙ ap (on_tables (takes (setting_of c.args.setting.now) c.args.holder (ref_of c.index-references-place.result))) c.loop-place.invariant
    ∙ ap (λ t. with_tables t c.args.self.now)
    (sym (taken_next ref_of c.args.holder c.args.references.now c.loop-place.place c.index-references-place.result c.loop-place-test.true c.index-references-place.is (setting_of c.args.setting.now) c.args.self.now.tables))
