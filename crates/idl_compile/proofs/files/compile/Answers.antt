use Rattle.std.proofs.Common.{sym, subst, Err}
use Rattle.idl_compile.proofs.ReadLemmas.{right_trees}
use Rattle.idl_compile.proofs.Telling.{accepted_files, handed_on, refused_files, stops_there, told_as}
use Rattle.idl_compile.specs.Refusing.{texts_of}
use Rattle.idl_compiled_model.specs.Compiling.{AreRead, IsCompiled, StopsAtFile}
use Rattle.idl_trees.specs.Trees.{trees_of}
use Rattle.idl_compile.proofs.files.compile.Goals as goal

pub registry_of-requires : goal.registry_of-requires
registry_of-requires c =
    right_trees (texts_of c.args.files.now) (trees_of c.as_slice.result.now) (subst (λ ts. AreRead 0 (texts_of c.args.files.now) (trees_of ts)) (sym c.as_slice.ensures.value) c.in_ok-trees.ensures.read)

pub returns-clause-accepted : goal.returns-clause-accepted
returns-clause-accepted c =
    accepted_files (texts_of c.args.files.now) (trees_of c.as_slice.result.now) c.registry_of.result
    (subst (λ ts. AreRead 0 (texts_of c.args.files.now) (trees_of ts)) (sym c.as_slice.ensures.value) c.in_ok-trees.ensures.read) c.registry_of.ensures.accepted

pub returns-clause-refused : goal.returns-clause-refused
returns-clause-refused c =
    refused_files (texts_of c.args.files.now) (trees_of c.as_slice.result.now) c.registry_of.result
    (subst (λ ts. AreRead 0 (texts_of c.args.files.now) (trees_of ts)) (sym c.as_slice.ensures.value) c.in_ok-trees.ensures.read) c.registry_of.ensures.refused

pub returns-in_err-trees-clause-refused : goal.returns-in_err-trees-clause-refused
returns-in_err-trees-clause-refused c =
    let texts = texts_of c.args.files.now in
    let e = c.in_err-trees.field-0.0 in
    handed_on c.from_residual.result (λ r. IsCompiled texts (Err r)) e c.from_residual.ensures (told_as e (StopsAtFile texts) (λ r. IsCompiled texts (Err r)) (stops_there texts) c.in_err-trees.ensures.refused)
