use Rattle.std.proofs.Common.{◌<◌, length, ◌≤◌, arith, sym, subst}
use Rattle.idl_names.proofs.MarkLemmas.{at_index, notes_none, notes_more, notes_all}
use Rattle.idl_names.proofs.least.note_entities.Goals as goal

pub loop-declared-init : goal.loop-declared-init
loop-declared-init c = notes_none c.args.leasts.now.items

pub note-requires : goal.note-requires
note-requires c =
    subst (λ k. c.declared-item.result.path < k) (sym c.loop-declared.invariant.long)
    (at_index (λ d. d.path < length c.args.leasts.now.items) c.args.all.now c.loop-declared.declared-index c.declared-item.result c.loop-declared-test.true c.declared-item.is c.requires)

pub loop-declared-preserved : goal.loop-declared-preserved
loop-declared-preserved c =
    notes_more c.args.all.now c.loop-declared.declared-index c.declared-item.result c.is_entity.result c.args.leasts.now.items c.loop-declared.leasts.items c.note.new.leasts.items
    c.loop-declared-test.true c.declared-item.is c.is_entity.ensures c.loop-declared.invariant c.note.ensures

pub returns : goal.returns
returns c =
    let end : length c.args.all.now ≤ c.loop-declared.declared-index = omega (arith, c.loop-declared-test.false) in
    notes_all c.args.all.now c.loop-declared.declared-index c.args.leasts.now.items c.loop-declared.leasts.items end c.loop-declared.invariant
