use Rattle.std.proofs.Common.{ap, sym, ◌∙◌}
use Rattle.bridge_model.specs.References.{loses_all}
use Rattle.bridge_tables.specs.EndTables.{on_tables}
use Rattle.bridge_tables.specs.Roots.{root_of, state_refs}
use Rattle.bridge_tables.proofs.ReferringLemmas.{nothing_lost}
use Rattle.bridge_tables.proofs.tables.Tables.lose_state.Goals as goal

pub returns-in-Answered : goal.returns-in-Answered
returns-in-Answered c = c.lose_outcome.ensures ∙ ap (λ s. on_tables (loses_all c.args.holder (state_refs (root_of s))) c.args.self.now) (sym c.in-Answered.is)

pub returns-in-Idle : goal.returns-in-Idle
returns-in-Idle c = nothing_lost c.args.holder (state_refs (root_of c.args.state.now)) c.args.self.now (ap (λ s. state_refs (root_of s)) c.in-Idle.is)

pub returns-in-Calls : goal.returns-in-Calls
returns-in-Calls c = nothing_lost c.args.holder (state_refs (root_of c.args.state.now)) c.args.self.now (ap (λ s. state_refs (root_of s)) c.in-Calls.is)

pub returns-in-Queries : goal.returns-in-Queries
returns-in-Queries c = nothing_lost c.args.holder (state_refs (root_of c.args.state.now)) c.args.self.now (ap (λ s. state_refs (root_of s)) c.in-Queries.is)
