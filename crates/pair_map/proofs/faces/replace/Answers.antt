use Rattle.std.proofs.Common.{rules, Some, subst}
use Rattle.std.specs.Str.{bytes_eq}
use Rattle.std.specs.HashMap.{UpdatesBy}
use Rattle.pair_map.proofs.Updates.{changes_face}
use Rattle.pair_map.proofs.faces.replace.Goals as goal

pub returns-clause-put : goal.returns-clause-put
returns-clause-put g c =
    let faces = c.get_mut.follows.lender c.replace.new.dest in
    let written = (c.get_mut.follows.holds c.replace.new.dest).3 (search rules) in
    let put =
    subst (λ v. UpdatesBy bytes_eq (bytes_eq c.args.face.now) c.args.faces.now faces (Some v))
    c.replace.ensures.after written in
    changes_face c.args.face.now c.args.faces.now faces (Some c.args.value) put
