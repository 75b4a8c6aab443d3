-- Which names a line uses, and whether each of them is known where the line stands.
use Rattle.std.specs.Prelude.{ℕ, Bool, true, false, ◌&&◌, List, Option, None, Some, is_some}
use Rattle.std.specs.List.{list_all}
use Rattle.uno_model.specs.Entities.{Entity, Body, new_service, new_singleton}
use Rattle.uno_model.specs.NamedTypes.{type_of_text}
use Rattle.uno_model.specs.Sound.{is_there, is_interface}
use Rattle.plan_model.specs.Contexts.{Context, behaviour_number, kind_of_word, kind_of_variable, kind_of_field, declared_function, called_function}
use Rattle.plan_model.specs.Expressions.{Word}
use Rattle.plan_model.specs.Lines.{Term, Terms, leaf, type_named, void_any, typed, elements, members, word, operation, none, more, Declared}
use Rattle.plan_model.specs.Lines.{Line, behaviour, field, method, service, singleton, export, thread, end_line, let_variable, set_variable, set_field}
use Rattle.plan_model.specs.Lines.{call, query, make, drop_variable, when, return, raise, dispose, ask, ask_instance, same}
use Rattle.plan_model.specs.TypedStatements.{face_of_word}

-- a type of the registry
abbrev pub is_type_known : List Entity → List ℕ → Bool
is_type_known reg text = is_some (type_of_text reg text)

abbrev pub is_word_known : Context → Word → Bool
is_word_known c w = is_some (kind_of_word c w)

abbrev pub is_variable_known : Context → List ℕ → Bool
is_variable_known c name = is_some (kind_of_variable c name)

abbrev pub is_behaviour_known : Context → List ℕ → Bool
is_behaviour_known c name = is_some (behaviour_number c name)

abbrev pub is_new_service : Body → Bool
is_new_service (new_service base cs) = true
is_new_service _ = false

abbrev pub is_new_singleton : Body → Bool
is_new_singleton (new_singleton base) = true
is_new_singleton _ = false

unfoldable mutual
  pub is_term_known : List Entity → Context → Term → Bool
  is_term_known reg c (leaf t) = true
  is_term_known reg c (type_named k) = is_type_known reg k
  is_term_known reg c void_any = true
  is_term_known reg c (typed k t) = is_type_known reg k && is_term_known reg c t
  is_term_known reg c (elements ts) = are_terms_known reg c ts
  is_term_known reg c (members ts) = are_terms_known reg c ts
  is_term_known reg c (word w) = is_word_known c w
  is_term_known reg c (operation op s t) = is_term_known reg c s && is_term_known reg c t

  pub are_terms_known : List Entity → Context → Terms → Bool
  are_terms_known reg c none = true
  are_terms_known reg c (more t ts) = is_term_known reg c t && are_terms_known reg c ts

abbrev pub is_result_known : List Entity → Option Declared → Bool
is_result_known reg None = true
is_result_known reg (Some d) = is_type_known reg d.kind

abbrev pub is_back_known : List Entity → Context → Option Term → Bool
is_back_known reg c None = true
is_back_known reg c (Some t) = is_term_known reg c t

-- the function is one of the target's interface; what is no interface has none that could be unknown
abbrev pub is_called_known : List Entity → Option (List ℕ) → List ℕ → Bool
is_called_known reg None function = true
is_called_known reg (Some face) function = is_some (called_function reg face function)

unfoldable pub names_are_known : List Entity → Context → Line → Bool
names_are_known reg c (behaviour name faces) = list_all (is_there reg is_interface) faces
names_are_known reg c (field d) = is_type_known reg d.kind
names_are_known reg c (method face function) = is_some (declared_function reg face function)
names_are_known reg c (service name b) = is_there reg is_new_service name && is_behaviour_known c b
names_are_known reg c (singleton name b) = is_there reg is_new_singleton name && is_behaviour_known c b
names_are_known reg c (export name b) = is_behaviour_known c b
names_are_known reg c thread = true
names_are_known reg c end_line = true
names_are_known reg c (let_variable d t) = is_type_known reg d.kind && is_term_known reg c t
names_are_known reg c (set_variable name t) = is_variable_known c name && is_term_known reg c t
names_are_known reg c (set_field name t) = is_some (kind_of_field c name) && is_term_known reg c t
names_are_known reg c (call to target function args) =
    (is_result_known reg to && is_word_known c target) && (is_called_known reg (face_of_word c target) function && list_all (is_term_known reg c) args)
names_are_known reg c (query d target) = is_type_known reg d.kind && is_word_known c target
names_are_known reg c (make d b) = is_type_known reg d.kind && is_behaviour_known c b
names_are_known reg c (drop_variable name) = is_variable_known c name
names_are_known reg c (when left test right back) = is_word_known c left && (is_term_known reg c right && is_back_known reg c back)
names_are_known reg c (return back) = is_back_known reg c back
names_are_known reg c (raise k t) = is_type_known reg k && is_term_known reg c t
names_are_known reg c dispose = true
names_are_known reg c (ask d name) = is_type_known reg d.kind
names_are_known reg c (ask_instance d) = is_type_known reg d.kind
names_are_known reg c (same x y) = is_variable_known c x && is_variable_known c y
