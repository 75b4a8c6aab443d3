use Rattle.std.proofs.Common.{[], ◌∷◌, codes}
use Rattle.idl_names.specs.Opened.{star}
use Rattle.idl_names.proofs.CollectedLemmas.{on_ok}
use Rattle.idl_names.proofs.OpenLemmas.{first_kept, numbers_both}
use Rattle.idl_names.proofs.opening.open_exceptions.Goals as goal

pub open_all-requires-2 : goal.open_all-requires-2
open_all-requires-2 c = first_kept c.args.paths.now c.open_all.new.paths c.requires c.in_ok-open_all.ensures.kept

pub open_all-requires-3 : goal.open_all-requires-3
open_all-requires-3 c = first_kept c.open_all.new.paths c.open_all-2.new.paths (first_kept c.args.paths.now c.open_all.new.paths c.requires c.in_ok-open_all.ensures.kept) c.in_ok-open_all-2.ensures.kept

pub returns : goal.returns
returns c =
    on_ok c.open_all-3.result
    (λ third.
    numbers_both c.args.paths.now c.open_all-2.new.paths c.open_all-3.new.paths c.args.numbers.now.items c.open_all-2.new.numbers.items c.open_all-3.new.numbers.items
    (star (codes "lang") (codes "DisposedException") ∷ (star (codes "uno") (codes "Exception") ∷ [])) (star (codes "uno") (codes "RuntimeException") ∷ [])
    (numbers_both c.args.paths.now c.open_all.new.paths c.open_all-2.new.paths c.args.numbers.now.items c.open_all.new.numbers.items c.open_all-2.new.numbers.items
    (star (codes "lang") (codes "DisposedException") ∷ []) (star (codes "uno") (codes "Exception") ∷ []) c.in_ok-open_all.ensures c.in_ok-open_all-2.ensures) third)
    c.open_all-3.ensures
