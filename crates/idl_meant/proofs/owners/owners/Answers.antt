use Rattle.std.proofs.Common.{◌≡◌, ◌∙◌, ◌<◌, ◌==◌, ℕ, get_or, None, IfOk, subst, sym}
use Rattle.std.specs.List.{AllByRecursion}
use Rattle.idl_values.specs.Places.{first_place}
use Rattle.idl_meant.proofs.LoopLemmas.{low_numbers}
use Rattle.idl_meant.proofs.owners.owners.Goals as goal

pub first_places-requires : goal.first_places-requires
first_places-requires c =
    subst (AllByRecursion (λ n. n < c.args.count)) (sym (c.as_slice.ensures.value ∙ c.in_ok-numbers.ensures)) (low_numbers c.args.count c.args.all.now c.requires.some c.requires.low)

pub returns : goal.returns
returns c =
    subst (λ ns. IfOk c.first_places.result (λ table. (n : ℕ) → get_or table.items n None ≡ first_place (λ m. m == n) ns)) (c.as_slice.ensures.value ∙ c.in_ok-numbers.ensures) c.first_places.ensures
