use Rattle.std.proofs.Common.{◌∙◌, ap, not}
use Rattle.std.specs.Prelude.{nat_eq}
use Rattle.std.specs.List.{list_any}
use Rattle.call_stacks.specs.Rows.{rows_of, stacks_of}
use Rattle.call_stacks.specs.WaitingCalls.{is_waiting}
use Rattle.call_stacks.proofs.TopLaws.{any_waits}
use Rattle.call_stacks.proofs.by_birth.ByBirth.any_waits.Goals as goal

pub returns : goal.returns
returns c =
    ap (λ n. not (nat_eq n 0)) c.self.invariant.count ∙ any_waits (rows_of c.self.inside.entries.entries)
    ∙ ap (λ rows. list_any is_waiting (stacks_of rows)) c.self.view_is
