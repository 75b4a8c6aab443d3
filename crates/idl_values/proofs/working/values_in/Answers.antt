use Rattle.std.proofs.Common.{◌≤◌, arith, get_or, length, subst, sym}
use Rattle.std.proofs.lemmas.List.{get_or_default, length-map, take_all}
use Rattle.idl_values.specs.Known.{AreWorked}
use Rattle.idl_values.specs.Origins.{origin_of, origins_of}
use Rattle.idl_values.specs.Places.{known_by}
use Rattle.idl_values.specs.Told.{number_at}
use Rattle.idl_values.proofs.WorkLemmas.{all_values, first_worked, next_value}
use Rattle.idl_values.proofs.working.values_in.Goals as goal

pub loop-place-init : goal.loop-place-init
loop-place-init c = λ vs same are lows order.
    first_worked vs (origins_of c.args.origins.now) c.in_ok-values.values.items (length c.args.origins.now) same (sym (length-map c.args.origins.now origin_of)) c.in_ok-values.ensures

pub loop-place-preserved : goal.loop-place-preserved
loop-place-preserved c = λ vs same are lows order.
    next_value vs (known_by (number_at c.args.told.now.numbers) c.args.table.now) are lows order (origins_of c.args.origins.now) same c.args.order.now c.requires
    c.loop-place.place-index (get_or c.args.order.now c.loop-place.place-index 0) c.loop-place.values.items c.as_slice.result.now c.put.new.values.items c.value-value.result
    c.loop-place-test.true (get_or_default c.args.order.now c.loop-place.place-index 0 (get_or c.args.order.now c.loop-place.place-index 0) c.loop-place-test.true) (c.loop-place.invariant vs same are lows order) c.as_slice.ensures.value c.value-value.ensures c.put.ensures

pub returns : goal.returns
returns c = λ vs same are lows order.
    let end : length c.args.order.now ≤ c.loop-place.place-index = omega (arith, c.loop-place-test.false) in
    all_values vs (known_by (number_at c.args.told.now.numbers) c.args.table.now) are lows order (origins_of c.args.origins.now) same c.args.order.now c.requires c.loop-place.values.items
    (subst (λ xs. AreWorked vs xs c.loop-place.values.items) (take_all c.loop-place.place-index c.args.order.now end) (c.loop-place.invariant vs same are lows order))
