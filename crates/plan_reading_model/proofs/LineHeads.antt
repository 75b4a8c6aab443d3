-- Heads of blocks and lines of the top, both ways.
use Rattle.std.proofs.Common.{◌≡◌, ℕ, Bool, true, List, [], ◌∷◌, ◌++◌, length, Some, refl, sym, ap, ◌∙◌, codes}
use Rattle.std.proofs.lemmas.Bool.{and_parts, and_from}
use Rattle.std.specs.List.{list_all}
use Rattle.literal_model.specs.Literals.{quoted}
use Rattle.uno_model.specs.Entities.{Entity}
use Rattle.uno_model.specs.Names.{is_identifier}
use Rattle.uno_model.specs.Sound.{is_some_list}
use Rattle.plan_model.specs.Forms.{is_path, is_type_text, is_function_text, is_export_name, is_declared, is_line}
use Rattle.plan_model.specs.Keeps.{Says}
use Rattle.plan_model.specs.Lines.{Declared, Line}
use Rattle.plan_model.specs.Lines as line
use Rattle.plan_model.specs.PlanText.{line_words, words}
use Rattle.plan_reading_model.specs.LineReading.{behaviour_at, field_at, field_of, method_at, offer_at, export_at}
use Rattle.plan_reading_model.specs.Parts.{on_some, at_end, behind_blank, identifier_at, path_at, paths_on, function_at, type_at, export_name_at}
use Rattle.plan_reading_model.proofs.LineParts.{made, says_made, three_parts, ended_back, ended_said, blanked_back, blanked_said, words_more}
use Rattle.plan_reading_model.proofs.PartLaws.{given, identifier_said, identifier_back, path_said, path_back, paths_said, paths_back}
use Rattle.plan_reading_model.proofs.PartLaws.{function_said, function_back, type_said, type_back, export_name_said, export_name_back}

-- ---- behaviours

pub behaviour_said : (name : List ℕ) (faces : List (List ℕ)) → is_identifier name ≡ true → is_some_list faces ≡ true → list_all is_path faces ≡ true
    → behaviour_at (words (name ∷ faces)) ≡ Some (line.behaviour name faces)
unfolding behaviour_at
behaviour_said name faces named some are =
    let front = blanked_said (identifier_at (name ++ 32 ∷ words faces)) name (words faces) (identifier_said name (32 ∷ words faces) named refl) in
    rw (words_more name faces some, front, paths_said faces some are) refl

pub behaviour_back : (reg : List Entity) (bytes : List ℕ) (l : Line) → behaviour_at bytes ≡ Some l → Says reg (codes "behaviour" ++ 32 ∷ bytes) l
unfolding behaviour_at is_line line_words
behaviour_back reg bytes l e =
    let front = given (on_some (identifier_at bytes) behind_blank) _ l e in
    let name = blanked_back identifier_at is_identifier (λ w. w) identifier_back bytes front.0 front.1 in
    let more = made (line.behaviour front.0.0) (paths_on (length front.0.1) front.0.1) l front.2 in
    let faces = paths_back (length front.0.1) front.0.1 more.0 more.1 in
    says_made reg (codes "behaviour" ++ 32 ∷ bytes) (line.behaviour front.0.0 more.0) l more.2
    (three_parts (is_identifier front.0.0) (is_some_list more.0) (list_all is_path more.0) name.0 faces.0 faces.1)
    (ap (λ b. codes "behaviour" ++ 32 ∷ b) (name.1 ∙ ap (λ r. front.0.0 ++ 32 ∷ r) faces.2 ∙ sym (words_more front.0.0 more.0 faces.0)))

-- ---- fields

pub field_said : (d : Declared) → is_declared d ≡ true → field_at (d.name ++ 32 ∷ d.kind) ≡ Some (line.field d)
unfolding field_at
field_said d is =
    let parts = and_parts (is_identifier d.name) (is_type_text d.kind) is in
    let front = blanked_said (identifier_at (d.name ++ 32 ∷ d.kind)) d.name d.kind (identifier_said d.name (32 ∷ d.kind) parts.0 refl) in
    rw (front, ended_said type_at d.kind d.kind (type_said d.kind [] parts.1 refl)) refl

pub field_back : (reg : List Entity) (bytes : List ℕ) (l : Line) → field_at bytes ≡ Some l → Says reg (codes "field" ++ 32 ∷ bytes) l
unfolding field_at is_line line_words
field_back reg bytes l e =
    let front = given (on_some (identifier_at bytes) behind_blank) field_of l e in
    let name = blanked_back identifier_at is_identifier (λ w. w) identifier_back bytes front.0 front.1 in
    let more = made (λ k. line.field (record { name = front.0.0; kind = k })) (at_end (type_at front.0.1)) l front.2 in
    let kind = ended_back type_at is_type_text (λ w. w) type_back front.0.1 more.0 more.1 in
    says_made reg (codes "field" ++ 32 ∷ bytes) (line.field (record { name = front.0.0; kind = more.0 })) l more.2
    (and_from (is_identifier front.0.0) (is_type_text more.0) name.0 kind.0)
    (ap (λ b. codes "field" ++ 32 ∷ b) (name.1 ∙ ap (λ r. front.0.0 ++ 32 ∷ r) kind.1))

-- ---- methods

pub method_said : (face function : List ℕ) → is_path face ≡ true → is_function_text function ≡ true
    → method_at (face ++ 32 ∷ function) ≡ Some (line.method face function)
unfolding method_at
method_said face function is named =
    let front = blanked_said (path_at (face ++ 32 ∷ function)) face function (path_said face (32 ∷ function) is refl) in
    rw (front, ended_said function_at function function (function_said function [] named refl)) refl

pub method_back : (reg : List Entity) (bytes : List ℕ) (l : Line) → method_at bytes ≡ Some l → Says reg (codes "method" ++ 32 ∷ bytes) l
unfolding method_at is_line line_words
method_back reg bytes l e =
    let front = given (on_some (path_at bytes) behind_blank) _ l e in
    let face = blanked_back path_at is_path (λ w. w) path_back bytes front.0 front.1 in
    let more = made (line.method front.0.0) (at_end (function_at front.0.1)) l front.2 in
    let function = ended_back function_at is_function_text (λ w. w) function_back front.0.1 more.0 more.1 in
    says_made reg (codes "method" ++ 32 ∷ bytes) (line.method front.0.0 more.0) l more.2
    (and_from (is_path front.0.0) (is_function_text more.0) face.0 function.0)
    (ap (λ b. codes "method" ++ 32 ∷ b) (face.1 ∙ ap (λ r. front.0.0 ++ 32 ∷ r) function.1))

-- ---- services and singletons

pub offer_said : (mk : List ℕ → List ℕ → Line) (name b : List ℕ) → is_path name ≡ true → is_identifier b ≡ true → offer_at mk (name ++ 32 ∷ b) ≡ Some (mk name b)
unfolding offer_at
offer_said mk name b is named =
    let front = blanked_said (path_at (name ++ 32 ∷ b)) name b (path_said name (32 ∷ b) is refl) in
    rw (front, ended_said identifier_at b b (identifier_said b [] named refl)) refl

-- a name and a behaviour
pub record IsOffer (good : List ℕ → Bool) (text : List ℕ → List ℕ) (mk : List ℕ → List ℕ → Line) (bytes : List ℕ) (l : Line) : Type 0 where
  pub name : List ℕ
  pub behaviour : List ℕ
  pub is_name : good name ≡ true
  pub is_behaviour : is_identifier behaviour ≡ true
  pub spelled : bytes ≡ text name ++ 32 ∷ behaviour
  pub is : mk name behaviour ≡ l

pub offer_back : (mk : List ℕ → List ℕ → Line) (bytes : List ℕ) (l : Line) → offer_at mk bytes ≡ Some l → IsOffer is_path (λ w. w) mk bytes l
unfolding offer_at
offer_back mk bytes l e =
    let front = given (on_some (path_at bytes) behind_blank) _ l e in
    let name = blanked_back path_at is_path (λ w. w) path_back bytes front.0 front.1 in
    let more = made (mk front.0.0) (at_end (identifier_at front.0.1)) l front.2 in
    let behaviour = ended_back identifier_at is_identifier (λ w. w) identifier_back front.0.1 more.0 more.1 in
    record {
      name = front.0.0;
      behaviour = more.0;
      is_name = name.0;
      is_behaviour = behaviour.0;
      spelled = name.1 ∙ ap (λ r. front.0.0 ++ 32 ∷ r) behaviour.1;
      is = more.2;
    }

pub service_back : (reg : List Entity) (bytes : List ℕ) (l : Line) → offer_at line.service bytes ≡ Some l → Says reg (codes "service" ++ 32 ∷ bytes) l
unfolding is_line line_words
service_back reg bytes l e =
    let o = offer_back line.service bytes l e in
    says_made reg (codes "service" ++ 32 ∷ bytes) (line.service o.name o.behaviour) l o.is
    (and_from (is_path o.name) (is_identifier o.behaviour) o.is_name o.is_behaviour) (ap (λ b. codes "service" ++ 32 ∷ b) o.spelled)

pub singleton_back : (reg : List Entity) (bytes : List ℕ) (l : Line) → offer_at line.singleton bytes ≡ Some l → Says reg (codes "singleton" ++ 32 ∷ bytes) l
unfolding is_line line_words
singleton_back reg bytes l e =
    let o = offer_back line.singleton bytes l e in
    says_made reg (codes "singleton" ++ 32 ∷ bytes) (line.singleton o.name o.behaviour) l o.is
    (and_from (is_path o.name) (is_identifier o.behaviour) o.is_name o.is_behaviour) (ap (λ b. codes "singleton" ++ 32 ∷ b) o.spelled)

-- ---- exports

pub export_said : (name b : List ℕ) → is_export_name name ≡ true → is_identifier b ≡ true → export_at (quoted name ++ 32 ∷ b) ≡ Some (line.export name b)
unfolding export_at
export_said name b is named =
    let front = blanked_said (export_name_at (quoted name ++ 32 ∷ b)) name b (export_name_said name (32 ∷ b) is) in
    rw (front, ended_said identifier_at b b (identifier_said b [] named refl)) refl

pub export_back : (reg : List Entity) (bytes : List ℕ) (l : Line) → export_at bytes ≡ Some l → Says reg (codes "export" ++ 32 ∷ bytes) l
unfolding export_at is_line line_words
export_back reg bytes l e =
    let front = given (on_some (export_name_at bytes) behind_blank) _ l e in
    let name = blanked_back export_name_at is_export_name quoted export_name_back bytes front.0 front.1 in
    let more = made (line.export front.0.0) (at_end (identifier_at front.0.1)) l front.2 in
    let behaviour = ended_back identifier_at is_identifier (λ w. w) identifier_back front.0.1 more.0 more.1 in
    says_made reg (codes "export" ++ 32 ∷ bytes) (line.export front.0.0 more.0) l more.2
    (and_from (is_export_name front.0.0) (is_identifier more.0) name.0 behaviour.0)
    (ap (λ b. codes "export" ++ 32 ∷ b) (name.1 ∙ ap (λ r. quoted front.0.0 ++ 32 ∷ r) behaviour.1))
