use Rattle.std.proofs.Common.{◌∙◌, sym}
use Rattle.idl_repeated_names.proofs.OwnerLemmas.{notes_kept, notes_none, notes_one}
use Rattle.idl_trees.specs.Trees.{declaration_of}
use Rattle.idl_repeated_names.proofs.owners.note_owner.Goals as goal

pub returns-then-is_forward : goal.returns-then-is_forward
returns-then-is_forward c = notes_none c.args.owners.now c.args.name.now (declaration_of c.args.body.now) (sym c.is_forward.ensures ∙ c.if-is_forward.true)

pub returns-in-Some : goal.returns-in-Some
returns-in-Some c = notes_kept c.args.owners.now c.args.name.now (declaration_of c.args.body.now) _ (sym c.in-Some.ensures)

pub returns : goal.returns
returns c =
    notes_one c.args.owners.now c.insert.new.self c.args.name c.args.body (sym c.is_forward.ensures ∙ c.if-is_forward.false) c.in_default.ensures c.in_ok-insert.ensures.updates
