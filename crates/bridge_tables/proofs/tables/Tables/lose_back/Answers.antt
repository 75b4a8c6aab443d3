use Rattle.std.proofs.Common.{◌≡◌, ◌∙◌, ◌+◌, ◌-◌, ap, arith, map, take}
use Rattle.uno_values.specs.References.{ref_of}
use Rattle.bridge_model.specs.References.{gains_all}
use Rattle.bridge_tables.specs.EndTables.{on_tables, quiet}
use Rattle.bridge_tables.proofs.ReferringLemmas.{lost_again, quietly_again, none_gained}
use Rattle.bridge_tables.proofs.tables.Tables.lose_back.Goals as goal

pub loop-place-preserved : goal.loop-place-preserved
loop-place-preserved c =
    let some = c.loop-place-test.true in
    let most = c.loop-place.auto.place in
    let few = c.requires in
    let next : c.loop-place.place ≡ (c.loop-place.place - 1) + 1 = omega (arith, some) in (
      λ e held.
          lost_again ref_of c.args.holder c.args.references.now (c.loop-place.place - 1) c.index-references-place.result (omega (arith, some, most, few)) c.index-references-place.is e c.loop-place.self c.lose.new.self
          (c.loop-place.invariant.0 e held ∙ ap (λ n. on_tables (gains_all c.args.holder (map ref_of (take n c.args.references.now))) e) next) c.lose.ensures,
      λ e held.
          quietly_again ref_of c.args.holder c.args.references.now (c.loop-place.place - 1) c.index-references-place.result (omega (arith, some, most, few)) c.index-references-place.is e c.loop-place.self c.lose.new.self
          (c.loop-place.invariant.1 e held ∙ ap (λ n. quiet (on_tables (gains_all c.args.holder (map ref_of (take n c.args.references.now))) e)) next) c.lose.ensures,
    )

pub returns-clause-gained : goal.returns-clause-gained
returns-clause-gained c = λ e held.
    let none = c.loop-place-test.false in
    let zero : c.loop-place.place ≡ 0 = omega (arith, none) in
    c.loop-place.invariant.0 e held ∙ ap (λ n. on_tables (gains_all c.args.holder (map ref_of (take n c.args.references.now))) e) zero ∙ ap (λ t. record e { tables = t }) (none_gained c.args.holder e.tables)

pub returns-clause-taken : goal.returns-clause-taken
returns-clause-taken c = λ e held.
    let none = c.loop-place-test.false in
    let zero : c.loop-place.place ≡ 0 = omega (arith, none) in
    c.loop-place.invariant.1 e held ∙ ap (λ n. quiet (on_tables (gains_all c.args.holder (map ref_of (take n c.args.references.now))) e)) zero
    ∙ ap (λ t. quiet (record e { tables = t })) (none_gained c.args.holder e.tables)
