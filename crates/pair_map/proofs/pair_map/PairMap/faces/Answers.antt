use Rattle.std.proofs.Common.{refl, ◌&&◌, ◌∙◌, sym, ap}
use Rattle.std.specs.Str.{bytes_eq}
use Rattle.pair_map.specs.Faces.{any_face}
use Rattle.pair_map.proofs.Reading.{any_passing}
use Rattle.pair_map.proofs.Views.{any_at}
use Rattle.pair_map.proofs.pair_map.PairMap.faces.Goals as goal

pub returns : goal.returns
returns g c test =
    sym (any_at (λ oid p. bytes_eq oid p.oid && test p.face) c.self.inside.by_oid c.args.self.now c.self.view_is _ _ refl)
    ∙ any_passing c.args.oid.now test c.self.inside.by_oid.entries c.self.invariant
    ∙ ap (any_face test) (sym c.get.ensures.value)
