-- What `get` and `set` of an attribute raise, as it is read.
use Rattle.std.specs.Prelude.{option_map}
use Rattle.idl_model.specs.Grammar as plain
use Rattle.idl_trees.specs.Members.{paths_of}
use Rattle.idl_parse.specs.declared.interfaces.Accessors.{Accessors}

abbrev pub accessors_read : Accessors → plain.Accessors
accessors_read a = (option_map paths_of a.get, option_map paths_of a.set)
