use Rattle.idl_compiled_model.proofs.OfFiles.{are_of_files, values_apart, nothing_wrong}
use Rattle.idl_compiled_model.proofs.SpelledCounts.{all_values_fit, all_members_named}
use Rattle.idl_compiled_model.proofs.laws.read_trees_are_of_files.Goals as goal

pub returns-clause-of_files : goal.returns-clause-of_files
returns-clause-of_files c = are_of_files

pub returns-clause-values : goal.returns-clause-values
returns-clause-values c = values_apart

pub returns-clause-numbers : goal.returns-clause-numbers
returns-clause-numbers c = λ file texts trees read. all_values_fit trees (nothing_wrong file texts trees read)

pub returns-clause-members : goal.returns-clause-members
returns-clause-members c = λ file texts trees read. all_members_named trees (nothing_wrong file texts trees read)
