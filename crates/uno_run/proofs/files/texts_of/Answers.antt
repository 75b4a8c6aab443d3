use Rattle.std.proofs.Common.{map, sym, ◌∙◌}
use Rattle.std.proofs.lemmas.List.{length-map}
use Rattle.std.specs.Prelude.{vec_items}
use Rattle.uno_run.specs.Compiling.{OneUnread}
use Rattle.uno_run.proofs.FilesRead.{all_told, handed_on, one_unread, told_more}
use Rattle.uno_run.proofs.files.texts_of.Goals as goal

pub loop-name-preserved : goal.loop-name-preserved
loop-name-preserved g c =
    let stored = g.F.Files.stored in
    record {
      told =
          told_more (λ s. s.now) (stored c.args.files.now) c.args.names.now c.loop-name.name-index _ c.loop-name-test.true
          (stored c.loop-name.files)
          (map vec_items c.loop-name.texts.items) (map vec_items c.add_text.new.texts.items) c.loop-name.invariant.kept c.loop-name.invariant.told
          c.in_ok-add_text.ensures.added;
      kept = c.add_text.ensures.kept ∙ c.loop-name.invariant.kept;
      same = c.in_ok-add_text.ensures.same ∙ c.loop-name.invariant.same;
    }

pub returns-in_err-add_text-clause-unread : goal.returns-in_err-add_text-clause-unread
returns-in_err-add_text-clause-unread g c =
    let stored = g.F.Files.stored in
    let faults = g.F.Files.faults in
    let texts = map vec_items c.loop-name.texts.items in
    handed_on (OneUnread (stored c.args.files.now) (map (λ s. s.now) c.args.names.now) (faults c.args.files.now) (faults c.add_text.new.files))
    c.from_residual.result c.in_err-add_text.field-0.0
    c.from_residual.ensures.1
    (one_unread (λ s. s.now) (stored c.args.files.now) c.args.names.now c.loop-name.name-index _ c.loop-name-test.true texts
    c.loop-name.invariant.told
    (faults c.args.files.now) (faults c.add_text.new.files) (stored c.loop-name.files) _ (faults c.loop-name.files) c.in_err-add_text.field-0.0
    c.loop-name.invariant.kept
    (sym (length-map c.loop-name.texts.items vec_items)) c.loop-name.invariant.same c.in_err-add_text.ensures.unread)

pub returns-clause-found : goal.returns-clause-found
returns-clause-found g c =
    all_told (λ s. s.now) (g.F.Files.stored c.args.files.now) c.args.names.now c.loop-name.name-index (map vec_items c.loop-name.texts.items)
    c.loop-name-test.false c.loop-name.invariant.told

pub returns-clause-same : goal.returns-clause-same
returns-clause-same g c = c.loop-name.invariant.same
