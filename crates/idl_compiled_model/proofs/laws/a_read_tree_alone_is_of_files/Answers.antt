use Rattle.idl_compiled_model.proofs.OfFiles.{alone_of_files}
use Rattle.idl_compiled_model.proofs.laws.a_read_tree_alone_is_of_files.Goals as goal

pub returns : goal.returns
returns c = alone_of_files
