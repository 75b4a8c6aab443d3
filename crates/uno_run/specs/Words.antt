-- What the command's words ask of a run.
use Rattle.std.specs.Prelude.{◌≡◌, Bool, true, false, List, [], ◌∷◌, String, string_bytes, map, ℕ, Option, None, Some}
use Rattle.command_words.specs.Names.{Text}
use Rattle.uno_run.specs.Own.{own_names, drill_names}
use Rattle.command_words.specs.Forms.{Order, order_of, answer, answer_plan, compile, drill, idl, pair}

-- the words ask for `answer`, with no registry and no plan
abbrev pub IsAnswer : {A : Type 0} → List (String A) → Type 0
IsAnswer words = order_of (map string_bytes words) ≡ Some answer

-- the words ask for `answer` with the registry and the plan in these files
abbrev pub IsAnswerPlan : {A : Type 0} → List (String A) → Text → Text → Type 0
IsAnswerPlan words types plan = order_of (map string_bytes words) ≡ Some (answer_plan types plan)

-- the words ask for canonical UNOIDL of the registry in the file
abbrev pub IsIdl : {A : Type 0} → List (String A) → Text → Type 0
IsIdl words types = order_of (map string_bytes words) ≡ Some (idl types)

-- the words ask for the registry that these files mean together
abbrev pub IsCompile : {A : Type 0} → List (String A) → List Text → Type 0
IsCompile words files = order_of (map string_bytes words) ≡ Some (compile files)

-- the words ask for two ends, with the registry and the plans in these files, by a seed, if there is one, and a cut; on one thread
abbrev pub IsPair : {A : Type 0} → List (String A) → (types plan_a plan_b : Text) → (seed : Option ℕ) → (cut : ℕ) → Type 0
IsPair words types plan_a plan_b seed cut = order_of (map string_bytes words) ≡ Some (pair types plan_a plan_b seed cut None)

-- the words ask for so many rounds of two ends with plans of their own
abbrev pub IsDrill : {A : Type 0} → List (String A) → (rounds seed : ℕ) → Type 0
IsDrill words rounds seed = order_of (map string_bytes words) ≡ Some (drill rounds seed)

-- the forms that are served
abbrev pub is_served : Option Order → Bool
is_served (Some answer) = true
is_served (Some (answer_plan types plan)) = true
is_served (Some (compile files)) = true
is_served (Some (idl types)) = true
is_served (Some (pair types plan_a plan_b seed cut None)) = true
is_served (Some (drill rounds seed)) = true
is_served _ = false

-- the names of the texts of a served command, in order: of the files that it names, or of the program's own texts
abbrev pub files_of : Option Order → List Text
files_of (Some answer) = own_names
files_of (Some (answer_plan types plan)) = types ∷ plan ∷ []
files_of (Some (compile files)) = files
files_of (Some (idl types)) = types ∷ []
files_of (Some (pair types plan_a plan_b seed cut None)) = types ∷ plan_a ∷ plan_b ∷ []
files_of (Some (drill rounds seed)) = drill_names
files_of _ = []
