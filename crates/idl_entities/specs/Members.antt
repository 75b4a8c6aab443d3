-- Members of structs and exceptions, one for each name of a line.
use Rattle.uno_model.specs.Entities.{Field}
use Rattle.uno_model.specs.Kinds.{Kind}
use Rattle.idl_trees.specs.declared.name.Id.{Id}

abbrev pub member_of : Kind → Id → Field
member_of k id = record { name = id.name; kind = k }
