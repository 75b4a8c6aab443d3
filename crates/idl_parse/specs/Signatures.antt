-- The name, parameters and raised exceptions of a method or a constructor, as they are read.
use Rattle.std.specs.Prelude.{List, map}
use Rattle.idl_model.specs.Trees as plain
use Rattle.idl_trees.specs.Members.{paths_of}
use Rattle.idl_trees.specs.Names.{id_of}
use Rattle.idl_parse.specs.declared.signature.Signature.{Signature}

abbrev pub signature_of : {R X : Type 0} → (R → X) → Signature R → plain.Id × (List X × List plain.Path)
signature_of view s = (id_of s.name, (map view s.parameters.items, paths_of s.raises))
