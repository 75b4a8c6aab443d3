-- What an endpoint tells of its roots and its tables, as the definition of an end has it: in the words of its parts, which it passes on.
pub use Rattle.bridge_state.specs.Telling.{counts_told, state_told}
pub use Rattle.bridge_state.specs.declared.telling.RootState.TheVariants.{Idle, Waits, Answered}
pub use Rattle.bridge_tables.specs.Roots.{outcome_of}
