use Rattle.std.proofs.Common.{◌<◌, ◌≤◌, length, map, ap, arith, sym, ◌∙◌, subst}
use Rattle.plan_types.specs.Plans.{offer_of}
use Rattle.plan_types.specs.declared.plan.Offer.{Offer}
use Rattle.bridge_model.specs.Objects.{makes_all}
use Rattle.bridge_setting.specs.Settings.{setting_of}
use Rattle.bridge_tables.specs.EndTables.{IsOf, on_tables}
use Rattle.bridge_tables.proofs.MakingLemmas.{making_next, making_done, numbers_mapped}
use Rattle.bridge_tables.proofs.tables.Tables.make_singletons.Goals as goal

pub loop-place-preserved : goal.loop-place-preserved
loop-place-preserved c =
    let less = c.loop-place-test.true in
    let end = c.len-place-end.ensures in
    let long = c.args.setting.now.plan.singletons.ok.0 in
    let within : c.loop-place.place < length c.args.setting.now.plan.singletons.items = omega (arith, less, end, long) in (
      making_next (λ (x : Offer). x.behaviour) (setting_of c.args.setting.now) c.args.setting.now.plan.singletons.items c.loop-place.place c.index.result.now
          (on_tables (makes_all (setting_of c.args.setting.now) (map (λ (x : Offer). x.behaviour) c.args.setting.now.plan.singletons.items)) c.args.self.now) c.loop-place.self c.make_default.new.self within
          c.index.ensures c.in_ok-make_default.ensures.made c.loop-place.invariant.0,
      subst (IsOf (setting_of c.args.setting.now)) (sym c.in_ok-make_default.ensures.made)
          (record { prefix = c.loop-place.invariant.1.prefix; first = c.loop-place.invariant.1.first; release = c.loop-place.invariant.1.release }),
    )

pub returns : goal.returns
returns c =
    let most = c.loop-place-test.false in
    let end = c.len-place-end.ensures in
    let long = c.args.setting.now.plan.singletons.ok.0 in
    let past : length c.args.setting.now.plan.singletons.items ≤ c.loop-place.place = omega (arith, most, end, long) in
    making_done (λ (x : Offer). x.behaviour) (setting_of c.args.setting.now) c.args.setting.now.plan.singletons.items c.loop-place.place
    (on_tables (makes_all (setting_of c.args.setting.now) (map (λ (x : Offer). x.behaviour) c.args.setting.now.plan.singletons.items)) c.args.self.now) c.loop-place.self past c.loop-place.invariant.0
    ∙ ap (λ bs. on_tables (makes_all (setting_of c.args.setting.now) bs) c.args.self.now) (numbers_mapped offer_of (λ e. e.behaviour) c.args.setting.now.plan.singletons.items)
