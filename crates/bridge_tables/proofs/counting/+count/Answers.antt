use Rattle.std.proofs.Common.{arith}
use Rattle.uno_entities.specs.TypeNames.{kind_of}
use Rattle.urp_model.specs.Namings.{namings_each, namings_all}
use Rattle.uno_values.specs.Fitting.{kinds_at}
use Rattle.uno_values.specs.Values.{plains_of}
use Rattle.bridge_tables.specs.Counted.{counted}
use Rattle.bridge_tables.proofs.CountLemmas.{counted_all, counted_each, counted_done, kept_on}
use Rattle.bridge_tables.proofs.counting.+count.Goals as goal

pub count_all-loop-element-preserved : goal.count_all-loop-element-preserved
count_all-loop-element-preserved t c = (
  counted_all c.args.registry.now (kind_of c.args.kind.now) c.args.elements.now c.loop-element.element-index c.element-item.result
      (counted (namings_all c.args.registry.now (plains_of c.args.elements.now) (kind_of c.args.kind.now)) c.args.objects.now) c.loop-element.objects c.count_value.new.objects c.loop-element-test.true c.element-item.is
      c.in_ok-count_value.ensures.counted c.loop-element.invariant.0,
  kept_on c.args.objects.now c.loop-element.objects c.count_value.new.objects c.loop-element.invariant.1 c.in_ok-count_value.ensures.kept,
)

pub count_each-loop-place-preserved : goal.count_each-loop-place-preserved
count_each-loop-place-preserved t c =
    let less = c.loop-place-test.true in let least = c.min-place-end.ensures in (
      counted_each c.args.registry.now c.args.members.now c.args.fields.now c.loop-place.place c.index-members-place.result c.index-fields-place.result
          (counted (namings_each c.args.registry.now (plains_of c.args.members.now) (kinds_at c.args.fields.now)) c.args.objects.now) c.loop-place.objects c.count_value.new.objects (omega (arith, less, least)) (omega (arith, less, least))
          c.index-members-place.is c.in_ok-count_value.ensures.counted c.loop-place.invariant.0,
      kept_on c.args.objects.now c.loop-place.objects c.count_value.new.objects c.loop-place.invariant.1 c.in_ok-count_value.ensures.kept,
    )

pub count_each-returns-clause-counted : goal.count_each-returns-clause-counted
count_each-returns-clause-counted t c =
    counted_done c.args.registry.now c.args.members.now c.args.fields.now c.loop-place.place (counted (namings_each c.args.registry.now (plains_of c.args.members.now) (kinds_at c.args.fields.now)) c.args.objects.now)
    c.loop-place.objects (omega (arith, c.loop-place-test.false, c.min-place-end.ensures)) c.loop-place.invariant.0
