use Rattle.std.proofs.Common.{ap, sym, ◌∙◌, map, refl}
use Rattle.message_model.specs.Messages.{returned, raised}
use Rattle.uno_entities.specs.TypeNames.{kind_of}
use Rattle.uno_values.specs.Values.{plain_of}
use Rattle.bridge_model.specs.References.{loses_all, refs_of_values}
use Rattle.bridge_tables.specs.EndTables.{on_tables}
use Rattle.bridge_tables.specs.Roots.{outcome_of, outcome_refs}
use Rattle.bridge_tables.proofs.ReferringLemmas.{answer_lost, exception_lost, nothing_lost}
use Rattle.bridge_tables.proofs.tables.Tables.lose_outcome.Goals as goal

pub returns-in-Returned : goal.returns-in-Returned
returns-in-Returned c =
    answer_lost c.args.holder (plain_of c.in-Returned.value) (map plain_of c.in-Returned.outs.items) (returned (plain_of c.in-Returned.value) (map plain_of c.in-Returned.outs.items)) c.args.self.now c.lose_value.new.self
    c.lose_values.new.self refl c.lose_value.ensures
    (c.lose_values.ensures ∙ ap (λ xs. on_tables (loses_all c.args.holder (refs_of_values (map plain_of xs))) c.lose_value.new.self) c.deref.ensures.value)
    ∙ ap (λ o. on_tables (loses_all c.args.holder (outcome_refs (outcome_of o))) c.args.self.now) (sym c.in-Returned.is)

pub returns-in-Raised : goal.returns-in-Raised
returns-in-Raised c =
    exception_lost c.args.holder (kind_of c.in-Raised.exception.kind) (plain_of c.in-Raised.exception.value) (raised (kind_of c.in-Raised.exception.kind) (plain_of c.in-Raised.exception.value)) c.args.self.now
    c.lose_value-in-Raised.new.self refl c.lose_value-in-Raised.ensures
    ∙ ap (λ o. on_tables (loses_all c.args.holder (outcome_refs (outcome_of o))) c.args.self.now) (sym c.in-Raised.is)

pub returns-in-Disposed : goal.returns-in-Disposed
returns-in-Disposed c = nothing_lost c.args.holder (outcome_refs (outcome_of c.args.outcome.now)) c.args.self.now (ap (λ o. outcome_refs (outcome_of o)) c.in-Disposed.is)

pub returns-in-NoMemory : goal.returns-in-NoMemory
returns-in-NoMemory c = nothing_lost c.args.holder (outcome_refs (outcome_of c.args.outcome.now)) c.args.self.now (ap (λ o. outcome_refs (outcome_of o)) c.in-NoMemory.is)
