use Rattle.std.proofs.Common.{[], ◌∷◌, map, arith}
use Rattle.idl_entities.proofs.NumberLemmas.{constant_read}
use Rattle.idl_entities.proofs.Steps.{one_put, told_on, twice_tells}
use Rattle.idl_entities.specs.Telling.{constant_told, constants_told}
use Rattle.idl_meaning_model.specs.Meaning as model
use Rattle.idl_trees.specs.Members as plain
use Rattle.registry_reading_model.specs.Changes as changed
use Rattle.uno_entities.specs.Entities.{constant_of}
use Rattle.idl_entities.proofs.numbers.constants_meant.Goals as goal

pub loop-constant-preserved : goal.loop-constant-preserved
loop-constant-preserved g c =
    let t = g.M.Meanings.telling c.args.meanings.now in
    record {
      at = omega (arith, c.loop-constant.invariant.at);
      so_far =
          told_on (constants_told t) (λ k. constant_told t k ∷ []) (twice_tells (changed.constant_changed t.kept) (model.constant_meant t.all t.declared)) plain.constant_of
          c.args.constants.now c.loop-constant.constant-index c.constant-item.result (map constant_of c.loop-constant.meant.items) (map constant_of c.push.new.self.items)
          c.loop-constant-test.true c.constant-item.is c.loop-constant.invariant.so_far
          (one_put constant_of c.loop-constant.meant.items c.push.new.self.items c.in_ok-one.one _ c.in_ok-push.ensures.items c.in_ok-one.ensures);
    }

pub constant_meant-requires : goal.constant_meant-requires
constant_meant-requires g c =
    constant_read (g.M.Meanings.telling c.args.meanings.now) plain.constant_of c.args.constants.now c.loop-constant.constant-index c.loop-constant.place c.constant-item.result c.requires
    c.loop-constant.invariant.at c.loop-constant-test.true c.constant-item.is
