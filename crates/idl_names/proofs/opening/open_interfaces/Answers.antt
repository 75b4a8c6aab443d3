use Rattle.std.proofs.Common.{[], ◌∷◌, codes}
use Rattle.idl_names.specs.Opened.{star}
use Rattle.idl_names.proofs.CollectedLemmas.{on_ok}
use Rattle.idl_names.proofs.OpenLemmas.{first_kept, numbers_both}
use Rattle.idl_names.proofs.opening.open_interfaces.Goals as goal

pub open_all-requires-2 : goal.open_all-requires-2
open_all-requires-2 c = first_kept c.args.paths.now c.open_all.new.paths c.requires c.in_ok-open_all.ensures.kept

pub returns : goal.returns
returns c =
    on_ok c.open_all-2.result
    (λ second.
    numbers_both c.args.paths.now c.open_all.new.paths c.open_all-2.new.paths c.args.numbers.now.items c.open_all.new.numbers.items c.open_all-2.new.numbers.items
    (star (codes "lang") (codes "XMultiServiceFactory") ∷ []) (star (codes "uno") (codes "XInterface") ∷ []) c.in_ok-open_all.ensures second)
    c.open_all-2.ensures
