use Rattle.std.proofs.Common.{◌≤◌, length, subst, arith}
use Rattle.idl_repeated_names.specs.Over.{IsNamed, NotesOwner}
use Rattle.idl_repeated_names.proofs.OwnerLemmas.{at_index, none_owned, owns_all, owns_more}
use Rattle.idl_trees.specs.Trees.{declaration_of}
use Rattle.idl_repeated_names.proofs.owners.owners_of.Goals as goal

pub loop-entry-init : goal.loop-entry-init
loop-entry-init c = λ paths named. none_owned c.new-owners.result paths c.new-owners.ensures.empty

pub loop-entry-preserved : goal.loop-entry-preserved
loop-entry-preserved c = λ paths named.
    owns_more paths c.args.entries.now c.loop-entry.entry-index c.entry-item.result c.loop-entry.owners c.note_owner.new.owners c.loop-entry-test.true c.entry-item.is
    (at_index (IsNamed paths) c.args.entries.now c.loop-entry.entry-index c.entry-item.result c.loop-entry-test.true c.entry-item.is named) (c.loop-entry.invariant paths named)
    (subst (λ n. NotesOwner c.loop-entry.owners c.note_owner.new.owners n (declaration_of c.entry-item.result.declared.body.now)) c.as_str.ensures c.in_ok-note_owner.ensures)

pub returns : goal.returns
returns c = λ paths named.
    let end : length c.args.entries.now ≤ c.loop-entry.entry-index = omega (arith, c.loop-entry-test.false) in
    owns_all paths c.args.entries.now c.loop-entry.entry-index c.loop-entry.owners end (c.loop-entry.invariant paths named)
