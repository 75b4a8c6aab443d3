use Rattle.std.proofs.Common.{◌≡◌, false}
use Rattle.bridge_model.specs.Steps.{is_no_memory}
use Rattle.bridge_endpoint.proofs.EndLemmas.{out_kept, out_room}
use Rattle.bridge_endpoint.proofs.EntryLemmas.{from_now}
use Rattle.bridge_endpoint.proofs.endpoint.Endpoint.out_of_memory.Goals as goal

pub run_out-requires-clause-room : goal.run_out-requires-clause-room
run_out-requires-clause-room c = out_room c.self.invariant (from_now (λ h z. is_no_memory z.cause ≡ false) c.self.invariant c.self.view_is c.requires)

pub invariant_of-self : goal.invariant_of-self
invariant_of-self c =
    out_kept c.self.invariant (from_now (λ h z. is_no_memory z.cause ≡ false) c.self.invariant c.self.view_is c.requires) c.run_out.new.state c.run_out.new.journal c.run_out.ensures.ended
    c.run_out.ensures.entered
