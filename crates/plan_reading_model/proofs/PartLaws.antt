-- The laws of names, types and words of a plan, both ways: what is spelled is read, and what is read is spelled and formed.
pub use Rattle.plan_reading_model.proofs.PartNames.{identifier_said, identifier_back, path_said, path_back, paths_said, paths_back}
pub use Rattle.plan_reading_model.proofs.PartFunctions.{is_function_byte, function_said, function_back, export_name_said, export_name_back}
pub use Rattle.plan_reading_model.proofs.PartRuns.{given, allowed, chosen, at_end_back, same_word, behind_said, behind_back, blank_said, blank_back, stops, run_said, all_pass, stops_less}
pub use Rattle.plan_reading_model.proofs.PartTypes.{ends_type, type_said, type_back, declared_said, declared_back}
pub use Rattle.plan_reading_model.proofs.PartWords.{word_said, word_back, variable_said, variable_back}
