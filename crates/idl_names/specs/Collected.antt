-- What files declare, as code has it: paths by number, and declarations with the numbers of theirs.
use Rattle.std.specs.List.{AllByRecursion}
use Rattle.std.specs.Prelude.{◌≡◌, ℕ, ◌<◌, List, [], ◌++◌, length, map, get_or, slice_get, Some}
use Rattle.idl_meaning_model.specs.Declarations as model
use Rattle.idl_model.specs.Trees.{Tree}
use Rattle.idl_names.specs.Paths.{Parts, within}
use Rattle.idl_names.specs.declared.collecting.Collected.{Collected}
use Rattle.idl_names.specs.declared.declaration.Declared.{Declared}
use Rattle.idl_trees.specs.Names.{id_of}
use Rattle.idl_trees.specs.Trees.{declaration_of}

-- a declaration, where the paths by number are these
abbrev pub declared_of : List Parts → Declared → model.Declared
declared_of paths d = record { modules = get_or paths d.modules []; published = d.published; name = id_of d.name.now; body = declaration_of d.body.now }

-- it has the numbers of the path of its modules and of its own
pub record HasNumbers (paths : List Parts) (d : Declared) : Type 0 where
  pub low : d.modules < length paths
  pub own : slice_get paths d.path ≡ Some (within paths (d.modules, d.name.now.name))

-- the paths that are there stay
abbrev pub Keep : List Parts → List Parts → Type 0
Keep old new = (n : ℕ) → n < length old → slice_get new n ≡ slice_get old n

-- these are declared behind those that are there
pub record Adds (old : Collected) (more : List model.Declared) (new : Collected) : Type 0 where
  pub fresh : List Declared
  pub items : new.declared.items ≡ old.declared.items ++ fresh
  pub kept : Keep old.paths new.paths
  pub told : map (declared_of new.paths) fresh ≡ more
  pub numbered : AllByRecursion (HasNumbers new.paths) fresh

-- all that these files declare
pub record IsCollected (trees : List Tree) (c : Collected) : Type 0 where
  pub told : map (declared_of c.paths) c.declared.items ≡ model.declarations trees
  pub numbered : AllByRecursion (HasNumbers c.paths) c.declared.items
  pub outermost : slice_get c.paths 0 ≡ Some []
