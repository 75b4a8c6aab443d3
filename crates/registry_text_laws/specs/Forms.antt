-- Which lines have a form: those that are written of a thing of its kind.
use Rattle.std.specs.Prelude.{◌≡◌, ℕ, List, [], ◌∷◌, codes}
use Rattle.uno_model.specs.Entities.{Field, Param, Base, Attribute, Method, Item, Constant, Part, Entity}
use Rattle.registry_text_model.specs.Grammar.{Form, first, interface_header, fields_header, enum_header, constants_header, header_alone, new_service_header, old_service_header, base_line, attribute_line, getraises_line, setraises_line, method_line, param_line, raises_line, field_line, value_line, const_line, constructor_line, given_line, rest_line, raised_line, part_line, end_line, header_form}
use Rattle.registry_text_model.specs.Lines.{spaced, item_line, constant_line, header_line}
use Rattle.registry_text_model.specs.Lines as lines

-- a word, and a name behind it
abbrev pub IsNameLine : (word : List ℕ) → List ℕ → Type 0
IsNameLine word line = (name : List ℕ) × (line ≡ spaced word name)

-- the first line of an entity whose body has such a header
abbrev pub IsHeader : Form → List ℕ → Type 0
IsHeader f line = (e : Entity) × (header_form e.body ≡ f) × (line ≡ header_line e)

abbrev pub IsOfForm : Form → List ℕ → Type 0
IsOfForm first line = line ≡ codes "unoreg 1"
IsOfForm interface_header line = IsHeader interface_header line
IsOfForm fields_header line = IsHeader fields_header line
IsOfForm enum_header line = IsHeader enum_header line
IsOfForm constants_header line = IsHeader constants_header line
IsOfForm header_alone line = IsHeader header_alone line
IsOfForm new_service_header line = IsHeader new_service_header line
IsOfForm old_service_header line = IsHeader old_service_header line
IsOfForm base_line line = (b : Base) × (line ≡ lines.base_line b)
IsOfForm attribute_line line = (a : Attribute) × (line ≡ lines.attribute_line a)
IsOfForm getraises_line line = IsNameLine (codes "getraises") line
IsOfForm setraises_line line = IsNameLine (codes "setraises") line
IsOfForm method_line line = (m : Method) × (line ≡ lines.method_line m)
IsOfForm param_line line = (p : Param) × (line ≡ lines.param_line p)
IsOfForm raises_line line = IsNameLine (codes "raises") line
IsOfForm field_line line = (f : Field) × (line ≡ lines.field_line f)
IsOfForm value_line line = (i : Item) × (line ≡ item_line i)
IsOfForm const_line line = (c : Constant) × (line ≡ constant_line c)
IsOfForm constructor_line line = IsNameLine (codes "constructor") line
IsOfForm given_line line = (f : Field) × (line ≡ lines.given_line f)
IsOfForm rest_line line = IsNameLine (codes "rest") line
IsOfForm raised_line line = IsNameLine (codes "raises") line
IsOfForm part_line line = (p : Part) × (line ≡ lines.part_line p)
IsOfForm end_line line = line ≡ codes "end"

-- lines of these forms, one each
unfoldable pub AreOfForms : List Form → List (List ℕ) → Type 0
AreOfForms [] [] = Unit
AreOfForms [] (line ∷ ls) = ⊥
AreOfForms (f ∷ fs) [] = ⊥
AreOfForms (f ∷ fs) (line ∷ ls) = IsOfForm f line × AreOfForms fs ls
