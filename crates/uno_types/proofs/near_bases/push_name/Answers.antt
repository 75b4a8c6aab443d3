use Rattle.std.proofs.Common.{[], ◌∷◌, Some, ap, ◌∙◌}
use Rattle.uno_types.specs.NearBases.{names_in}
use Rattle.uno_types.proofs.NearLemmas.{names_in-append}
use Rattle.uno_types.proofs.near_bases.push_name.Goals as goal

pub returns : goal.returns
returns c = ap names_in c.in-Ok.ensures.ok ∙ names_in-append c.args.pending.now.items (Some c.args.name ∷ [])
