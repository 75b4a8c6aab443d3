use Rattle.std.proofs.Common.{Ok, subst, sym}
use Rattle.idl_compiled_model.proofs.OfFiles.{alone_of_files}
use Rattle.idl_meaning_model.specs.FromFiles.{AreOfFiles}
use Rattle.idl_model.specs.ParseVerdicts.{IsParsed}
use Rattle.idl_trees.specs.Tokens.{tokens_of}
use Rattle.idl_trees.specs.Trees.{trees_of, tree_of}
use Rattle.uno_rows.proofs.texts.unoidl.names.Goals as goal

pub put_names-requires : goal.put_names-requires
put_names-requires c =
    let lexed = c.in-Ok.ensures.tokens in
    subst (λ ts. AreOfFiles (trees_of ts)) (sym c.from_ref.ensures.value)
    (alone_of_files _ lexed.plain _ (tree_of c.in-Ok-parse.tree) lexed.lexed lexed.placed (subst (λ ts. IsParsed (tokens_of ts) (Ok (tree_of c.in-Ok-parse.tree))) c.deref-in-Ok.ensures.value c.in-Ok-parse.ensures.parsed))
