-- What a root asks for, both ways.
use Rattle.std.proofs.Common.{◌≡◌, ℕ, true, List, [], ◌∷◌, ◌++◌, Some, refl, ap, ◌∙◌, codes}
use Rattle.std.proofs.lemmas.Bool.{and_from}
use Rattle.std.specs.Str.{bytes_eq}
use Rattle.literal_model.specs.Literals.{quoted}
use Rattle.uno_model.proofs.Options.{same_some}
use Rattle.uno_model.specs.Entities.{Entity}
use Rattle.plan_model.specs.Forms.{is_export_name, is_declared, is_line}
use Rattle.plan_model.specs.Keeps.{Says}
use Rattle.plan_model.specs.Lines.{Declared, Line}
use Rattle.plan_model.specs.Lines as line
use Rattle.plan_model.specs.PlanText.{line_words}
use Rattle.plan_reading_model.specs.LineReading.{equals, some_line, ask_of, ask_at}
use Rattle.plan_reading_model.specs.Parts.{at_end, declared_at, export_name_at}
use Rattle.plan_reading_model.proofs.LineParts.{made, says_made, ended_back, ended_said}
use Rattle.plan_reading_model.proofs.LineStatements.{declared_text, variable_declared}
use Rattle.plan_reading_model.proofs.PartLaws.{chosen, given, same_word, declared_back, export_name_said, export_name_back}

pub ask_said : (d : Declared) (name : List ℕ) → is_declared d ≡ true → is_export_name name ≡ true → ask_at (declared_text d (quoted name)) ≡ Some (line.ask d name)
unfolding ask_at
ask_said d name is named =
    rw (variable_declared d (quoted name) is, ended_said export_name_at (quoted name) name (export_name_said name [] named)) refl

pub ask_instance_said : (d : Declared) → is_declared d ≡ true → ask_at (declared_text d (codes "instance")) ≡ Some (line.ask_instance d)
unfolding ask_at
ask_instance_said d is = rw (variable_declared d (codes "instance") is) refl

ask_of_back : (reg : List Entity) (bytes : List ℕ) (x : Declared × List ℕ) (l : Line) → is_declared x.0 ≡ true → bytes ≡ declared_text x.0 x.1
    → ask_of x ≡ Some l → Says reg (codes "ask" ++ 32 ∷ bytes) l
unfolding is_line line_words
ask_of_back reg bytes x l is spelled e =
    chosen (bytes_eq x.1 (codes "instance")) (Some (line.ask_instance x.0)) (some_line (line.ask x.0) (at_end (export_name_at x.1))) l e
    (λ same read. says_made reg (codes "ask" ++ 32 ∷ bytes) (line.ask_instance x.0) l (same_some read) is
    (ap (λ b. codes "ask" ++ 32 ∷ b) (spelled ∙ ap (declared_text x.0) (same_word x.1 (codes "instance") same))))
    (λ other read. named (made (line.ask x.0) (at_end (export_name_at x.1)) l read))
  where
    named : (name : List ℕ) × (at_end (export_name_at x.1) ≡ Some name) × (line.ask x.0 name ≡ l) → Says reg (codes "ask" ++ 32 ∷ bytes) l
    named n =
        let name = ended_back export_name_at is_export_name quoted export_name_back x.1 n.0 n.1 in
        says_made reg (codes "ask" ++ 32 ∷ bytes) (line.ask x.0 n.0) l n.2 (and_from (is_declared x.0) (is_export_name n.0) is name.0)
        (ap (λ b. codes "ask" ++ 32 ∷ b) (spelled ∙ ap (declared_text x.0) name.1))

pub ask_back : (reg : List Entity) (bytes : List ℕ) (l : Line) → ask_at bytes ≡ Some l → Says reg (codes "ask" ++ 32 ∷ bytes) l
unfolding ask_at
ask_back reg bytes l e =
    let front = given (declared_at equals bytes) ask_of l e in
    let d = declared_back equals bytes front.0 front.1 in
    ask_of_back reg bytes front.0 l d.0 d.1 front.2
