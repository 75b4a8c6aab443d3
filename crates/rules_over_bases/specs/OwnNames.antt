-- The names of the functions that an interface declares itself, and of the members that a struct or an exception does.
use Rattle.std.specs.Prelude.{ℕ, Bool, true, false, List, [], ◌∷◌, ◌++◌, map, codes, if◌then◌else◌}
use Rattle.std.specs.List.{flat_map}
use Rattle.uno_model.specs.Entities.{Entity, Body, Member, Attribute, attribute, method, interface, struct, exception}

-- the name of the function that reads an attribute, and of the one that writes it
unfoldable pub getter_name : List ℕ → List ℕ
getter_name name = codes "get:" ++ name

unfoldable pub setter_name : List ℕ → List ℕ
setter_name name = codes "set:" ++ name

abbrev pub accessor_names : Attribute → List (List ℕ)
accessor_names a = if a.read_only then getter_name a.name ∷ [] else getter_name a.name ∷ (setter_name a.name ∷ [])

abbrev pub names_of_member : Member → List (List ℕ)
names_of_member (attribute a) = accessor_names a
names_of_member (method m) = m.name ∷ []

-- in the order in which they are declared
abbrev pub own_names : Body → List (List ℕ)
own_names (interface bases members) = flat_map names_of_member members
own_names (struct base members) = map (λ f. f.name) members
own_names (exception base members) = map (λ f. f.name) members
own_names _ = []

-- those of a body that is marked
abbrev pub row_if : Bool → Body → List (List ℕ)
row_if true body = own_names body
row_if false body = []

-- those of all entities that are marked, one after the other
unfoldable pub marked_names : List Bool → List Entity → List (List ℕ)
marked_names [] reg = []
marked_names (mark ∷ marks) [] = []
marked_names (true ∷ marks) (e ∷ es) = own_names e.body ++ marked_names marks es
marked_names (false ∷ marks) (e ∷ es) = marked_names marks es
