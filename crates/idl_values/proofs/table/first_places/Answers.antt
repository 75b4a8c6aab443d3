use Rattle.std.proofs.Common.{◌∙◌, ◌==◌, None, ap, get_or, length, sym}
use Rattle.std.proofs.lemmas.List.{get_or_default, length-replicate}
use Rattle.idl_values.specs.Places.{noted_with}
use Rattle.idl_values.proofs.PlaceLemmas.{first_taken, nothing_noted}
use Rattle.idl_values.proofs.table.first_places.Goals as goal

pub loop-place-init : goal.loop-place-init
loop-place-init c = record {
  long = ap length c.in_ok-table.ensures ∙ length-replicate c.args.count None;
  noted = nothing_noted c.in_ok-table.table.items c.args.count c.in_ok-table.ensures;
}

pub loop-place-preserved : goal.loop-place-preserved
loop-place-preserved c =
    let x = get_or c.args.numbers.now c.loop-place.place 0 in
    record {
      long = c.note.ensures.long ∙ c.loop-place.invariant.long;
      noted = λ n.
          c.note.ensures.noted n ∙ (λ i. noted_with (x == n) (c.in-Ok.ensures.1 i) (c.loop-place.invariant.noted n i))
          ∙ sym (first_taken (λ m. m == n) c.args.numbers.now c.loop-place.place x c.loop-place-test.true (get_or_default c.args.numbers.now c.loop-place.place 0 x c.loop-place-test.true));
    }
