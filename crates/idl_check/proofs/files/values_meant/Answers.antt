use Rattle.std.proofs.Common.{◌≤◌, ◌∙◌, [], ◌∷◌, ap, length, map, arith}
use Rattle.std.proofs.lemmas.List.{take_all}
use Rattle.idl_check.proofs.EachLemmas.{mapped_tells, one_put}
use Rattle.idl_check.specs.Broken.{values_told}
use Rattle.idl_check.specs.Meant.{telling_of}
use Rattle.idl_places.proofs.Steps.{told_behind}
use Rattle.idl_check.proofs.files.values_meant.Goals as goal

pub loop-declaration-preserved : goal.loop-declaration-preserved
loop-declaration-preserved c =
    told_behind (map values_told) (λ t. values_told t ∷ []) (mapped_tells values_told) telling_of c.args.all.now c.loop-declaration.declaration-index c.declaration-item.result
    [] (map (λ v. v.now) c.loop-declaration.worth.items) (map (λ v. v.now) c.push.new.self.items) c.loop-declaration-test.true c.declaration-item.is c.loop-declaration.invariant
    (one_put (λ v. v.now) c.loop-declaration.worth.items c.push.new.self.items c.values.result (values_told (telling_of c.declaration-item.result)) c.in_ok-push.ensures.items c.values.ensures)

pub returns : goal.returns
returns c =
    let end : length c.args.all.now ≤ c.loop-declaration.declaration-index = omega (arith, c.loop-declaration-test.false) in
    c.loop-declaration.invariant ∙ ap (λ ms. map values_told (map telling_of ms)) (take_all c.loop-declaration.declaration-index c.args.all.now end)
