use Rattle.std.proofs.Common.{map, ap, sym, subst, ◌∙◌, arith, rules}
use Rattle.std.proofs.lemmas.List.{map-append}
use Rattle.uno_entities.specs.TypeNames.{kind_of}
use Rattle.uno_types.specs.Members.{fields_at}
use Rattle.uno_values.specs.Values.{plain_of}
use Rattle.urp_model.specs.Reading.{elements_at, tuple_at, value_at}
use Rattle.urp_wire.specs.Gives.{Fails, Gives, tables_of}
use Rattle.urp_wire.proofs.LevelLaws.{none_deeper, structs_deeper}
use Rattle.urp_wire.proofs.Loops.{goes_on, fails}
use Rattle.urp_wire.proofs.read.value.+read.Goals as goal

pub others_of-returns-in_err-value : goal.others_of-returns-in_err-value
others_of-returns-in_err-value t c =
    let failed : Fails c.in_err-value.field-0.0 (elements_at (value_at c.args.levels c.args.registry.now (kind_of c.args.element.now)) c.args.count (tables_of c.args.caches.now) c.args.bytes.now)
    = fails _ _ _ _ _ c.loop-place-test.true _ _ _ c.loop-place.invariant c.in_err-value.ensures in
    search rules

pub others_of-loop-place-preserved : goal.others_of-loop-place-preserved
others_of-loop-place-preserved t c =
    rw (c.in_ok-push.ensures.items, map-append) (goes_on _ _ _ _ _ c.loop-place-test.true _ _ _ _ _ c.loop-place.invariant c.in_ok-value.ensures)

pub elements_of-returns-then-levels-eq0 : goal.elements_of-returns-then-levels-eq0
elements_of-returns-then-levels-eq0 t c =
    rw (none_deeper c.args.registry.now c.args.count (tables_of c.args.caches.now) c.args.bytes.now c.args.levels (kind_of c.args.element.now) c.if-levels-eq0.true) (c.no_elements.ensures _)

pub elements_of-returns-in-Some : goal.elements_of-returns-in-Some
elements_of-returns-in-Some t c =
    let reg = c.args.registry.now in
    let s = tables_of c.args.caches.now in
    let bs = c.args.bytes.now in
    let same = ap (λ k. elements_at (value_at c.args.levels reg k) c.args.count s bs) c.in-Some.ensures
    ∙ structs_deeper reg c.args.count s bs c.args.levels c.in-Some.name.now (omega (arith, c.if-levels-eq0.false)) in
    subst (λ z. Gives (λ x. (map plain_of x.0.items, tables_of c.structs_of.new.caches, x.1.now)) c.structs_of.result z) (sym same) c.structs_of.ensures

pub tuples_of-returns-in_err-value : goal.tuples_of-returns-in_err-value
tuples_of-returns-in_err-value t c =
    let one = tuple_at (value_at c.args.levels c.args.registry.now) (map (λ f. f.kind) (fields_at c.args.fields.now)) c.args.name.now in
    let failed : Fails c.in_err-value.field-0.0 (elements_at one c.args.count (tables_of c.args.caches.now) c.args.bytes.now)
    = fails _ _ _ _ _ c.loop-place-test.true _ _ _ c.loop-place.invariant c.in_err-value.ensures in
    search rules

pub tuples_of-loop-place-preserved : goal.tuples_of-loop-place-preserved
tuples_of-loop-place-preserved t c =
    rw (c.in_ok-push.ensures.items, map-append) (goes_on _ _ _ _ _ c.loop-place-test.true _ _ _ _ _ c.loop-place.invariant c.in_ok-value.ensures)
