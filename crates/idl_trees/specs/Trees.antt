-- Declarations, modules and files as plain trees.
use Rattle.std.specs.Prelude.{List, Option, map, option_map}
use Rattle.idl_model.specs.Trees as plain
use Rattle.idl_trees.specs.Members.{fields_of, item_of, constant_of, interface_member_of, constructor_of, service_member_of}
use Rattle.idl_trees.specs.Names.{id_of, path_of}
use Rattle.idl_trees.specs.Types.{type_of}
use Rattle.idl_trees.specs.declared.declaration.Decl.{Decl}
use Rattle.idl_trees.specs.declared.declaration.Declaration.{Declaration}
use Rattle.idl_trees.specs.declared.declaration.Declaration.TheVariants as declaration
use Rattle.idl_trees.specs.declared.declaration.Def.{Def}
use Rattle.idl_trees.specs.declared.declaration.Def.TheOpen.{Def-F}
use Rattle.idl_trees.specs.declared.declaration.Def.TheFolds.{fold-Def}
use Rattle.idl_trees.specs.declared.declaration.Tree.{Tree}

abbrev pub declaration_of : Declaration → plain.Declaration
declaration_of declaration.Forward = plain.forward
declaration_of (declaration.Interface base members) = plain.interface (option_map path_of base) (map interface_member_of members.items)
declaration_of (declaration.Struct base fields) = plain.struct (option_map path_of base) (map fields_of fields.items)
declaration_of (declaration.Exception base fields) = plain.exception (option_map path_of base) (map fields_of fields.items)
declaration_of (declaration.Enum items) = plain.enum (map item_of items.items)
declaration_of (declaration.Constants constants) = plain.constants (map constant_of constants.items)
declaration_of (declaration.Typedef target) = plain.typedef (type_of target)
declaration_of (declaration.NewService base constructors) = plain.new_service (path_of base) (map constructor_of constructors.items)
declaration_of (declaration.OldService members) = plain.old_service (map service_member_of members.items)
declaration_of (declaration.NewSingleton base) = plain.new_singleton (path_of base)
declaration_of (declaration.OldSingleton service) = plain.old_singleton (path_of service)

abbrev pub decl_of : Decl → plain.Decl
decl_of d = record { name = id_of d.name; body = declaration_of d.body }

-- one level, with the definitions inside already seen as their plain trees
abbrev pub def_step : Def-F plain.Def → plain.Def
def_step (Def-F.Module name ds) = plain.in_module (id_of name) (plain.defs ds.items)
def_step (Def-F.Declared published d) = plain.declared published (decl_of d)

abbrev pub def_of : Def → plain.Def
def_of = fold-Def plain.Def def_step

abbrev pub tree_of : Tree → plain.Tree
tree_of t = map def_of t.defs.items

abbrev pub trees_of : List Tree → List plain.Tree
trees_of = map tree_of
