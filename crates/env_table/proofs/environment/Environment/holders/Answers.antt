use Rattle.std.proofs.Common.{arith}
use Rattle.env_table.proofs.Joined.{all_holders}
use Rattle.env_table.proofs.environment.Environment.holders.Goals as goal

pub returns : goal.returns
returns c =
    let all = all_holders c.self.inside.frames c.self.inside.others c.args.self.now c.self.view_is c.self.invariant.0 c.self.invariant.1 (record { oid = c.args.oid.now; face = c.args.face.now }) in
    let frames = c.holders.ensures.number in
    let others = c.holders-2.ensures.number in
    omega (arith, all, frames, others)
