use Rattle.std.proofs.Common.{◌∙◌, ap, sym}
use Rattle.uno_values.specs.References.{ref_of}
use Rattle.bridge_model.specs.References.{gains}
use Rattle.bridge_tables.specs.EndTables.{on_tables, with_tables}
use Rattle.bridge_tables.proofs.ReferringLemmas.{gained_next, none_gained, was_ok}
use Rattle.bridge_tables.proofs.tables.Tables.gain_all.Goals as goal

pub loop-place-init : goal.loop-place-init
loop-place-init c = ap (λ t. with_tables t c.args.self.now) (sym (none_gained c.args.holder c.args.self.now.tables))

pub loop-place-preserved : goal.loop-place-preserved
loop-place-preserved c =
    was_ok c.gain.result c.is_err.result c.is_err.ensures.value c.if-is_err.false c.gain.ensures.gained
    ∙ ap (on_tables (gains c.args.holder (ref_of c.index-references-place.result))) c.loop-place.invariant
    ∙ ap (λ t. with_tables t c.args.self.now)
    (sym (gained_next ref_of c.args.holder c.args.references.now c.loop-place.place c.index-references-place.result c.loop-place-test.true c.index-references-place.is c.args.self.now.tables))
