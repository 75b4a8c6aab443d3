use Rattle.plan_lines.specs.Leaves.{leaf_at}
use Rattle.plan_lines.specs.Pieces.{piece_of}
use Rattle.plan_lines.proofs.LeafLemmas.{leaf_put, leaf_built, leaf_fails}
use Rattle.plan_lines.proofs.terms.Terms.put_leaf.Goals as goal

pub returns-in-Ok-clause-term : goal.returns-in-Ok-clause-term
returns-in-Ok-clause-term c =
    leaf_put c.args.pieces.now.items c.put.new.pieces.items (piece_of c.in-Ok.piece) c.in-Ok.rest.now (leaf_at c.args.bytes.now) c.put.result
    c.in-Ok.ensures c.put.ensures.place c.put.ensures.pieces

pub returns-in-Ok-clause-built : goal.returns-in-Ok-clause-built
returns-in-Ok-clause-built c =
    leaf_built c.args.pieces.now.items c.put.new.pieces.items (piece_of c.in-Ok.piece) c.in-Ok.rest.now (leaf_at c.args.bytes.now) c.put.result
    c.in-Ok.ensures c.put.ensures.pieces

pub returns-in-Err-clause-term : goal.returns-in-Err-clause-term
returns-in-Err-clause-term c = leaf_fails _ (leaf_at c.args.bytes.now) c.in-Err.unread c.in-Err.ensures
