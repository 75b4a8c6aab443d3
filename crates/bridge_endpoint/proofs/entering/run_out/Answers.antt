use Rattle.std.proofs.Common.{◌≡◌, ap, ◌∙◌, arith}
use Rattle.bridge_endpoint.proofs.EntryLemmas.{out_entries}
use Rattle.bridge_endpoint.proofs.entering.run_out.Goals as goal

pub enter-requires-clause-few : goal.enter-requires-clause-few
enter-requires-clause-few c =
    let s = c.args.state.now.side in
    let same : c.run_out.new.self.side.entries ≡ s.entries = ap (λ e. e.side.entries) c.run_out.ensures ∙ out_entries s.cause s in
    let few = c.requires.few in omega (arith, same, few)
