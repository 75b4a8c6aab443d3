-- Tests with what is returned where they hold, both ways.
use Rattle.std.proofs.Common.{◌≡◌, ℕ, true, ◌==◌, List, [], ◌∷◌, ◌++◌, Option, None, Some, refl, sym, ap, subst, ◌∙◌, codes}
use Rattle.std.proofs.lemmas.Bool.{eqb-true}
use Rattle.uno_model.proofs.Options.{same_some, none_some}
use Rattle.uno_model.specs.Entities.{Entity}
use Rattle.uno_model.specs.Names.{goes_on_identifier}
use Rattle.plan_model.specs.Expressions.{Word}
use Rattle.plan_model.specs.Forms.{is_word_formed, is_left_out, is_term, is_line}
use Rattle.plan_model.specs.Keeps.{Says}
use Rattle.plan_model.specs.Lines.{Term, Line}
use Rattle.plan_model.specs.Lines as line
use Rattle.plan_model.specs.PlanText.{word_text, term_text, line_words, line_text}
use Rattle.plan_model.specs.declared.comparison.Comparison.{Comparison}
use Rattle.plan_model.specs.declared.comparison.Comparison.TheVariants.{Equal, Less}
use Rattle.plan_reading_model.specs.LineReading.{whole_term, comparison_at, back_at, when_of, test_of, when_at}
use Rattle.plan_reading_model.specs.Parts.{on_some, behind, word_at}
use Rattle.plan_reading_model.specs.TermReading.{term_at}
use Rattle.plan_reading_model.proofs.LineParts.{made, three_parts, says_made}
use Rattle.plan_reading_model.proofs.LineStatements.{whole_said, whole_back}
use Rattle.plan_reading_model.proofs.PartLaws.{chosen, stops, given, behind_said, behind_back, word_said, word_back}
use Rattle.plan_reading_model.proofs.TermLaws.{term_said, term_back}

-- ---- comparisons

-- how a test compares, with the blanks round it
abbrev pub spaced_comparison : Comparison → List ℕ
spaced_comparison Equal = codes " == "
spaced_comparison Less = codes " < "

comparison_said : (c : Comparison) (rest : List ℕ) → comparison_at (spaced_comparison c ++ rest) ≡ Some (c, rest)
unfolding behind
comparison_said Equal rest = refl
comparison_said Less rest = refl

comparison_back : (bytes : List ℕ) (x : Comparison × List ℕ) → comparison_at bytes ≡ Some x → bytes ≡ spaced_comparison x.0 ++ x.1
comparison_back bytes x e = by_first (behind (codes " == ") bytes) refl e
  where
    Spelled : Comparison × List ℕ → Type 0
    Spelled y = bytes ≡ spaced_comparison y.0 ++ y.1

    by_second : (o : Option (List ℕ)) → behind (codes " < ") bytes ≡ o → behind (codes " == ") bytes ≡ None → comparison_at bytes ≡ Some x → Spelled x
    by_second None is none e = absurd (none_some (rw (none, is) at e))
    by_second (Some rest) is none e = subst Spelled (same_some (rw (none, is) at e)) (behind_back (codes " < ") bytes rest is)

    by_first : (o : Option (List ℕ)) → behind (codes " == ") bytes ≡ o → comparison_at bytes ≡ Some x → Spelled x
    by_first None is e = by_second (behind (codes " < ") bytes) refl is e
    by_first (Some rest) is e = subst Spelled (same_some (rw is at e)) (behind_back (codes " == ") bytes rest is)

-- ---- what is returned

-- behind `return`
abbrev pub back_text : Option Term → List ℕ
back_text None = []
back_text (Some t) = 32 ∷ term_text t

back_said : (reg : List Entity) (back : Option Term) → is_left_out (is_term reg) back ≡ true → back_at reg (back_text back) ≡ Some back
back_said reg None is = refl
back_said reg (Some t) is = rw (whole_said reg t is) refl

back_back : (reg : List Entity) (bytes : List ℕ) (back : Option Term) → back_at reg bytes ≡ Some back
    → (is_left_out (is_term reg) back ≡ true) × (bytes ≡ back_text back)
back_back reg [] back e = let none : None ≡ back = same_some e in subst (λ b. (is_left_out (is_term reg) b ≡ true) × ([] ≡ back_text b)) none (refl, refl)
back_back reg (c ∷ cs) back e =
    chosen (c == 32) (on_some (whole_term reg cs) (λ t. Some (Some t))) None back e some_back (λ other none. absurd (none_some none))
  where
    some_back : (c == 32) ≡ true → on_some (whole_term reg cs) (λ t. Some (Some t)) ≡ Some back
        → (is_left_out (is_term reg) back ≡ true) × (c ∷ cs ≡ back_text back)
    some_back blank read =
        let t = given (whole_term reg cs) (λ t. Some (Some t)) back read in
        let is = whole_back reg cs t.0 t.1 in
        subst (λ b. (is_left_out (is_term reg) b ≡ true) × (c ∷ cs ≡ back_text b)) (same_some t.2)
        (is.0, ap (λ d. d ∷ cs) (eqb-true c 32 blank) ∙ ap (λ r. 32 ∷ r) is.1)

-- ---- tests

-- the text of a test behind its first word
abbrev pub test_text : Word → Comparison → Term → Option Term → List ℕ
test_text left c right back = word_text left ++ (spaced_comparison c ++ (term_text right ++ (codes " return" ++ back_text back)))

pub when_line : (left : Word) (c : Comparison) (right : Term) (back : Option Term)
    → line_text (line.when left c right back) ≡ codes "when" ++ 32 ∷ test_text left c right back
unfolding line_words
when_line left Equal right None = refl
when_line left Equal right (Some t) = refl
when_line left Less right None = refl
when_line left Less right (Some t) = refl

pub when_said : (reg : List Entity) (left : Word) (c : Comparison) (right : Term) (back : Option Term) → is_word_formed left ≡ true
    → is_term reg right ≡ true → is_left_out (is_term reg) back ≡ true → when_at reg (test_text left c right back) ≡ Some (line.when left c right back)
unfolding when_at
when_said reg left c right back formed is may =
    let last = codes " return" ++ back_text back in
    let word = word_said left (spaced_comparison c ++ (term_text right ++ last)) formed (stops_there c (term_text right ++ last)) in
    rw (word, comparison_said c (term_text right ++ last), term_said reg right last is refl, behind_said (codes " return") (back_text back), back_said reg back may) refl
  where
    stops_there : (c : Comparison) (rest : List ℕ) → stops goes_on_identifier (spaced_comparison c ++ rest) ≡ true
    stops_there Equal rest = refl
    stops_there Less rest = refl

test_spelled : (left : Word) (c : Comparison) (right : Term) (back : Option Term) (bytes behind_word behind_comparison behind_right behind_return : List ℕ)
    → bytes ≡ word_text left ++ behind_word → behind_word ≡ spaced_comparison c ++ behind_comparison → behind_comparison ≡ term_text right ++ behind_right
    → behind_right ≡ codes " return" ++ behind_return → behind_return ≡ back_text back → codes "when" ++ 32 ∷ bytes ≡ line_text (line.when left c right back)
test_spelled left c right back bytes behind_word behind_comparison behind_right behind_return p q r s t =
    rw (p, q, r, s, t) (sym (when_line left c right back))

pub when_back : (reg : List Entity) (bytes : List ℕ) (l : Line) → when_at reg bytes ≡ Some l → Says reg (codes "when" ++ 32 ∷ bytes) l
unfolding when_at is_line
when_back reg bytes l e =
    let word = given (word_at bytes) (test_of reg) l e in
    let w = word_back bytes word.0 word.1 in
    let compared = given (comparison_at word.0.1) _ l word.2 in
    let c = comparison_back word.0.1 compared.0 compared.1 in
    let right = given (term_at reg compared.0.1) (when_of reg word.0.0 compared.0.0) l compared.2 in
    let t = term_back reg compared.0.1 right.0 right.1 in
    let returned = given (behind (codes " return") right.0.1) _ l right.2 in
    let r = behind_back (codes " return") right.0.1 returned.0 returned.1 in
    let more = made (line.when word.0.0 compared.0.0 right.0.0) (back_at reg returned.0) l returned.2 in
    let b = back_back reg returned.0 more.0 more.1 in
    says_made reg (codes "when" ++ 32 ∷ bytes) (line.when word.0.0 compared.0.0 right.0.0 more.0) l more.2
    (three_parts (is_word_formed word.0.0) (is_term reg right.0.0) (is_left_out (is_term reg) more.0) w.0 t.0 b.0)
    (test_spelled word.0.0 compared.0.0 right.0.0 more.0 bytes word.0.1 compared.0.1 right.0.1 returned.0 w.1 c t.1 r b.1)
