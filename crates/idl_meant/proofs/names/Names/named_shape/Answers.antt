use Rattle.std.proofs.Common.{refl, sym}
use Rattle.idl_trees.specs.Names.{path_of}
use Rattle.idl_meant.proofs.ShapeLemmas.{end_shape, endless_shape}
use Rattle.idl_meant.proofs.names.Names.named_shape.Goals as goal

pub returns-in_default : goal.returns-in_default
returns-in_default c = λ r it are. (tt, (c.in_default.ensures r it are).1)

pub returns-in-Some-end : goal.returns-in-Some-end
returns-in-Some-end c = λ r it are. (
  end_shape r it c.args.self.now are c.args.modules (path_of c.args.path.now) c.in-Some.number (c.in-Some.ensures r it are).0 c.in-Some-end.end (sym c.in-Some-end.ensures),
  λ due. refl,
)

pub returns-in-None : goal.returns-in-None
returns-in-None c = λ r it are. (
  endless_shape r it c.args.self.now are c.args.modules (path_of c.args.path.now) c.in-Some.number (c.in-Some.ensures r it are).0 (sym c.in-None.ensures),
  λ due. refl,
)
