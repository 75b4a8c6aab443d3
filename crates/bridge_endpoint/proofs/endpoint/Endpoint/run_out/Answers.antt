use Rattle.std.proofs.Common.{◌≡◌, false, sym, ◌∙◌}
use Rattle.std.proofs.lemmas.Bool.{true≢false}
use Rattle.bridge_model.specs.Steps.{is_no_memory}
use Rattle.bridge_endpoint.proofs.EndLemmas.{out_kept, out_room}
use Rattle.bridge_endpoint.proofs.EntryLemmas.{from_now}
use Rattle.bridge_endpoint.proofs.endpoint.Endpoint.run_out.Goals as goal

pub returns-then-lacks_memory-clause-entered : goal.returns-then-lacks_memory-clause-entered
returns-then-lacks_memory-clause-entered c more = absurd (true≢false (sym c.if-lacks_memory.true ∙ c.lacks_memory.ensures ∙ more))

pub run_out-requires-clause-room : goal.run_out-requires-clause-room
run_out-requires-clause-room c = out_room c.self.invariant (from_now (λ g s. is_no_memory s.cause ≡ false) c.self.invariant c.self.view_is (sym c.lacks_memory.ensures ∙ c.if-lacks_memory.false))

pub invariant_of-self : goal.invariant_of-self
invariant_of-self c =
    out_kept c.self.invariant (from_now (λ g s. is_no_memory s.cause ≡ false) c.self.invariant c.self.view_is (sym c.lacks_memory.ensures ∙ c.if-lacks_memory.false)) c.run_out.new.state c.run_out.new.journal
    c.run_out.ensures.ended c.run_out.ensures.entered

pub returns-clause-kept : goal.returns-clause-kept
returns-clause-kept c dry = absurd (true≢false (sym dry ∙ sym c.lacks_memory.ensures ∙ c.if-lacks_memory.false))
