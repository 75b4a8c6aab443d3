use Rattle.std.proofs.Common.{length, ◌≤◌, arith}
use Rattle.idl_compile.proofs.ReadLemmas.{all_read, read_at, stopped_at}
use Rattle.idl_compile.proofs.Telling.{handed_on}
use Rattle.idl_compile.specs.Refusing.{texts_of}
use Rattle.idl_compiled_model.specs.Compiling.{StopsAtFile}
use Rattle.idl_compile.proofs.reading.trees_of.Goals as goal

pub loop-text-preserved : goal.loop-text-preserved
loop-text-preserved c =
    read_at (λ text. text.now) c.args.files.now c.loop-text.text-index _ c.loop-text.trees.items c.add_tree.new.trees.items c.loop-text-test.true c.loop-text.invariant c.in_ok-add_tree.ensures.added

pub returns-clause-read : goal.returns-clause-read
returns-clause-read c =
    let end : length c.args.files.now ≤ c.loop-text.text-index = omega (arith, c.loop-text-test.false) in
    all_read (λ text. text.now) c.args.files.now c.loop-text.text-index c.loop-text.trees.items end c.loop-text.invariant

pub returns-in_err-add_tree-clause-refused : goal.returns-in_err-add_tree-clause-refused
returns-in_err-add_tree-clause-refused c =
    let e = c.in_err-add_tree.field-0.0 in
    handed_on c.from_residual.result (StopsAtFile (texts_of c.args.files.now)) e c.from_residual.ensures
    (stopped_at (λ text. text.now) c.args.files.now c.loop-text.text-index _ c.loop-text.trees.items e c.loop-text-test.true c.loop-text.invariant c.in_err-add_tree.ensures.refused)
