-- Calls, both ways.
use Rattle.std.proofs.Common.{◌≡◌, ℕ, ◌≤◌, Bool, true, false, not, ◌&&◌, ◌==◌, List, [], ◌∷◌, ◌++◌, length, Option, None, Some, refl, sym, ap, subst, ◌∙◌, codes, arith}
use Rattle.std.proofs.Common.{append_assoc, length-append}
use Rattle.std.proofs.lemmas.Bool.{and_parts, and_from, eqb-true}
use Rattle.std.specs.List.{list_all, list_any}
use Rattle.std.specs.Str.{bytes_eq}
use Rattle.uno_model.proofs.Options.{same_some, none_some}
use Rattle.uno_model.specs.Entities.{Entity}
use Rattle.uno_model.specs.Names.{begins_identifier, goes_on_identifier, is_identifier, reserved_words}
use Rattle.plan_model.specs.Expressions.{Word, variable, field, own}
use Rattle.plan_model.specs.Forms.{is_type_text, is_function_text, is_declared, is_word_formed, is_left_out, is_term, are_terms, is_line}
use Rattle.plan_model.specs.Keeps.{Says}
use Rattle.plan_model.specs.Lines.{Term, Terms, none, more, terms, Declared, Line}
use Rattle.plan_model.specs.Lines as line
use Rattle.plan_model.specs.PlanText.{word_text, term_text, terms_text, behind_comma, call_text, line_words, line_text}
use Rattle.plan_reading_model.specs.LineReading.{equals, listed, arguments_at, called, target_of, target_at, call_at}
use Rattle.plan_reading_model.specs.Parts.{on_some, behind, at_end, function_at, declared_at, word_at}
use Rattle.plan_reading_model.specs.TermReading.{terms_on, term_at}
use Rattle.plan_reading_model.proofs.LineParts.{made, says_made}
use Rattle.plan_reading_model.proofs.LineStatements.{declared_text, variable_declared}
use Rattle.plan_reading_model.proofs.PartLaws.{chosen, stops, given, at_end_back, behind_said, behind_back, function_said, function_back, declared_back, word_said, word_back}
use Rattle.plan_reading_model.proofs.TermLaws.{is_term_byte, term_said, no_term, terms_said, terms_back}

-- ---- terms as a list

listed_again : (ts : List Term) → listed (terms ts) ≡ ts
unfolding listed
listed_again [] = refl
listed_again (t ∷ ts) = ap (λ us. t ∷ us) (listed_again ts)

terms_again : (ts : Terms) → terms (listed ts) ≡ ts
unfolding listed
terms_again none = refl
terms_again (more t ts) = ap (more t) (terms_again ts)

all_are : (reg : List Entity) (ts : List Term) → list_all (is_term reg) ts ≡ true → are_terms reg (terms ts) ≡ true
unfolding is_term are_terms
all_are reg [] is = refl
all_are reg (t ∷ ts) is =
    let parts = and_parts (is_term reg t) (list_all (is_term reg) ts) is in
    and_from (is_term reg t) (are_terms reg (terms ts)) parts.0 (all_are reg ts parts.1)

are_all : (reg : List Entity) (ts : Terms) → are_terms reg ts ≡ true → list_all (is_term reg) (listed ts) ≡ true
unfolding listed is_term are_terms
are_all reg none is = refl
are_all reg (more t ts) is =
    let parts = and_parts (is_term reg t) (are_terms reg ts) is in
    and_from (is_term reg t) (list_all (is_term reg) (listed ts)) parts.0 (are_all reg ts parts.1)

-- ---- arguments up to the parenthesis that closes

-- no term begins with the parenthesis
not_closed : (reg : List Entity) (t : Term) (c : ℕ) (cs rest : List ℕ) → term_at reg (c ∷ cs) ≡ Some (t, rest) → (c == 41) ≡ false
not_closed reg t c cs rest e = by_test (c == 41) refl
  where
    by_test : (b : Bool) → (c == 41) ≡ b → (c == 41) ≡ false
    by_test false is = is
    by_test true is =
        let closes : c ≡ 41 = eqb-true c 41 is in
        let none : term_at reg (c ∷ cs) ≡ None = ap (λ d. term_at reg (d ∷ cs)) closes ∙ no_term reg 41 cs refl in
        absurd (none_some (sym none ∙ e))

comma_stops : (ts : Terms) → stops is_term_byte (behind_comma ts ++ 41 ∷ []) ≡ true
unfolding behind_comma
comma_stops none = refl
comma_stops (more t ts) = refl

first_said : (reg : List Entity) (t : Term) (ts : Terms) → is_term reg t ≡ true
    → term_at reg (terms_text (more t ts) ++ 41 ∷ []) ≡ Some (t, behind_comma ts ++ 41 ∷ [])
unfolding terms_text
first_said reg t ts is =
    ap (term_at reg) (append_assoc (term_text t) (behind_comma ts) (41 ∷ [])) ∙ term_said reg t (behind_comma ts ++ 41 ∷ []) is (comma_stops ts)

no_text : (xs : List ℕ) → [] ≡ xs ++ 41 ∷ [] → ⊥
no_text [] e = cc
no_text (x ∷ xs) e = cc

-- where a first term stands at the front
some_said : (reg : List Entity) (t : Term) (ts : List Term) (text : List ℕ) → list_all (is_term reg) (t ∷ ts) ≡ true
    → text ≡ terms_text (terms (t ∷ ts)) ++ 41 ∷ [] → arguments_at reg text ≡ Some (t ∷ ts, [])
unfolding arguments_at
some_said reg t ts [] is e = absurd (no_text (terms_text (terms (t ∷ ts))) e)
some_said reg t ts (c ∷ cs) is e =
    let first = (and_parts (is_term reg t) (list_all (is_term reg) ts) is).0 in
    let goes_on = not_closed reg t c cs (behind_comma (terms ts) ++ 41 ∷ []) (ap (term_at reg) e ∙ first_said reg t (terms ts) first) in
    let long : length (terms_text (terms (t ∷ ts))) ≤ length (c ∷ cs) = within (c ∷ cs) (terms_text (terms (t ∷ ts))) (41 ∷ []) e in
    let read : terms_on (length (c ∷ cs)) (term_at reg) 41 (c ∷ cs) ≡ Some (terms (t ∷ ts), []) =
    ap (terms_on (length (c ∷ cs)) (term_at reg) 41) e
    ∙ terms_said reg 41 (length (c ∷ cs)) (terms (t ∷ ts)) [] refl (all_are reg (t ∷ ts) is) refl refl long in
    rw (goes_on, read, listed_again (t ∷ ts)) refl
  where
    within : (text front rest : List ℕ) → text ≡ front ++ rest → length front ≤ length text
    within text front rest e = omega (arith, length-append front rest, ap length e)

pub arguments_said : (reg : List Entity) (ts : List Term) → list_all (is_term reg) ts ≡ true
    → arguments_at reg (terms_text (terms ts) ++ 41 ∷ []) ≡ Some (ts, [])
unfolding arguments_at term_text terms_text behind_comma
arguments_said reg [] is = refl
arguments_said reg (t ∷ ts) is = some_said reg t ts (terms_text (terms (t ∷ ts)) ++ 41 ∷ []) is refl

pub arguments_back : (reg : List Entity) (bytes : List ℕ) (x : List Term × List ℕ) → arguments_at reg bytes ≡ Some x
    → (list_all (is_term reg) x.0 ≡ true) × (bytes ≡ terms_text (terms x.0) ++ 41 ∷ x.1)
unfolding arguments_at term_text terms_text behind_comma
arguments_back reg [] x e = absurd (none_some e)
arguments_back reg (c ∷ cs) x e =
    chosen (c == 41) (Some ([], cs)) (on_some (terms_on (length (c ∷ cs)) (term_at reg) 41 (c ∷ cs)) (λ y. Some (listed y.0, y.1))) x e
    (λ closes is. none_given closes (same_some is)) (λ other read. some_given read)
  where
    Given : List Term × List ℕ → Type 0
    Given y = (list_all (is_term reg) y.0 ≡ true) × (c ∷ cs ≡ terms_text (terms y.0) ++ 41 ∷ y.1)

    none_given : (c == 41) ≡ true → ([], cs) ≡ x → Given x
    none_given closes same = subst Given same (refl, ap (λ d. d ∷ cs) (eqb-true c 41 closes))

    some_given : on_some (terms_on (length (c ∷ cs)) (term_at reg) 41 (c ∷ cs)) (λ y. Some (listed y.0, y.1)) ≡ Some x → Given x
    some_given read =
        let ts = given (terms_on (length (c ∷ cs)) (term_at reg) 41 (c ∷ cs)) (λ y. Some (listed y.0, y.1)) x read in
        let is = terms_back reg 41 (length (c ∷ cs)) (c ∷ cs) ts.0 ts.1 in
        subst Given (same_some ts.2) (are_all reg ts.0.0 is.1, is.2 ∙ ap (λ us. terms_text us ++ 41 ∷ ts.0.1) (sym (terms_again ts.0.0)))

-- ---- calls of a target

pub target_said : (reg : List Entity) (to : Option Declared) (w : Word) (f : List ℕ) (args : List Term) → is_word_formed w ≡ true
    → is_function_text f ≡ true → list_all (is_term reg) args ≡ true → target_at reg to (call_text w f args) ≡ Some (line.call to w f args)
unfolding target_at
target_said reg to w f args formed named are =
    let rest = terms_text (terms args) ++ codes ")" in
    let word = word_said w (codes "." ++ (f ++ (codes "(" ++ rest))) formed refl in
    let function = function_said f (codes "(" ++ rest) named refl in
    rw (word, behind_said (codes ".") (f ++ (codes "(" ++ rest)), function, behind_said (codes "(") rest, arguments_said reg args are) refl

-- what is called, and with which arguments
pub record IsCall (reg : List Entity) (to : Option Declared) (bytes : List ℕ) (l : Line) : Type 0 where
  pub target : Word
  pub function : List ℕ
  pub args : List Term
  pub is_target : is_word_formed target ≡ true
  pub is_function : is_function_text function ≡ true
  pub are_args : list_all (is_term reg) args ≡ true
  pub spelled : bytes ≡ call_text target function args
  pub is : line.call to target function args ≡ l

pub target_back : (reg : List Entity) (to : Option Declared) (bytes : List ℕ) (l : Line) → target_at reg to bytes ≡ Some l → IsCall reg to bytes l
unfolding target_at
target_back reg to bytes l e =
    let word = given (word_at bytes) (target_of reg to) l e in
    let w = word_back bytes word.0 word.1 in
    let point = given (behind (codes ".") word.0.1) _ l word.2 in
    let dotted = behind_back (codes ".") word.0.1 point.0 point.1 in
    let function = given (function_at point.0) (called reg to word.0.0) l point.2 in
    let f = function_back point.0 function.0 function.1 in
    let mark = given (behind (codes "(") function.0.1) _ l function.2 in
    let opened = behind_back (codes "(") function.0.1 mark.0 mark.1 in
    let args = made (line.call to word.0.0 function.0.0) (at_end (arguments_at reg mark.0)) l mark.2 in
    let given_args = arguments_back reg mark.0 (args.0, []) (at_end_back (arguments_at reg mark.0) args.0 args.1) in
    record {
      target = word.0.0;
      function = function.0.0;
      args = args.0;
      is_target = w.0;
      is_function = f.0;
      are_args = given_args.0;
      spelled = w.1 ∙ ap (λ r. word_text word.0.0 ++ r) dotted ∙ ap (λ r. word_text word.0.0 ++ (codes "." ++ r)) f.1
          ∙ ap (λ r. word_text word.0.0 ++ (codes "." ++ (function.0.0 ++ r))) opened
          ∙ ap (λ r. word_text word.0.0 ++ (codes "." ++ (function.0.0 ++ (codes "(" ++ r)))) given_args.1;
      is = args.2;
    }

-- ---- calls, whose result is named or not

-- the text of a call behind its first word
abbrev pub called_text : Option Declared → List ℕ → List ℕ
called_text None rest = rest
called_text (Some d) rest = declared_text d rest

unnamed_said : (reg : List Entity) (w : Word) (rest : List ℕ) → call_at reg (word_text w ++ rest) ≡ target_at reg None (word_text w ++ rest)
unfolding call_at
unnamed_said reg (variable name) rest = refl
unnamed_said reg (field name) rest = refl
unnamed_said reg own rest = refl

-- no identifier begins with `$`
no_dollar : (c : ℕ) → begins_identifier c ≡ true → (c == 36) ≡ false
no_dollar c begins = grind arith

named_front : (reg : List Entity) (name rest : List ℕ) → is_identifier name ≡ true
    → call_at reg (name ++ rest) ≡ on_some (declared_at equals (name ++ rest)) (λ x. target_at reg (Some x.0) x.1)
unfolding call_at
named_front reg [] rest is = let bad : false ≡ true = is in absurd (cc)
named_front reg (c ∷ cs) rest is =
    let front = and_parts (begins_identifier c && list_all goes_on_identifier cs) (not (list_any (bytes_eq (c ∷ cs)) reserved_words)) is in
    let first = and_parts (begins_identifier c) (list_all goes_on_identifier cs) front.0 in
    rw (no_dollar c first.0) refl

pub call_said : (reg : List Entity) (to : Option Declared) (w : Word) (f : List ℕ) (args : List Term) → is_left_out is_declared to ≡ true
    → is_word_formed w ≡ true → is_function_text f ≡ true → list_all (is_term reg) args ≡ true
    → call_at reg (called_text to (call_text w f args)) ≡ Some (line.call to w f args)
call_said reg None w f args is formed named are = unnamed_said reg w (codes "." ++ (f ++ (codes "(" ++ (terms_text (terms args) ++ codes ")"))))
    ∙ target_said reg None w f args formed named are
call_said reg (Some d) w f args is formed named are =
    let name = (and_parts (is_identifier d.name) (is_type_text d.kind) is).0 in
    named_front reg d.name (32 ∷ (d.kind ++ (equals ++ call_text w f args))) name
    ∙ rw (variable_declared d (call_text w f args) is) (target_said reg (Some d) w f args formed named are)

pub call_line : (to : Option Declared) (w : Word) (f : List ℕ) (args : List Term)
    → line_text (line.call to w f args) ≡ codes "call" ++ 32 ∷ called_text to (call_text w f args)
unfolding line_words
call_line None w f args = refl
call_line (Some d) w f args = refl

-- a call of a good target
called_back : (reg : List Entity) (to : Option Declared) (bytes rest : List ℕ) (l : Line) → is_left_out is_declared to ≡ true
    → bytes ≡ called_text to rest → target_at reg to rest ≡ Some l → Says reg (codes "call" ++ 32 ∷ bytes) l
unfolding is_line
called_back reg to bytes rest l declared spelled read =
    let c = target_back reg to rest l read in
    let formed = and_from (is_left_out is_declared to) (is_word_formed c.target) declared c.is_target in
    let called = and_from (is_function_text c.function) (list_all (is_term reg) c.args) c.is_function c.are_args in
    let text = ap (λ b. codes "call" ++ 32 ∷ b) (spelled ∙ ap (called_text to) c.spelled) in
    says_made reg (codes "call" ++ 32 ∷ bytes) (line.call to c.target c.function c.args) l c.is
    (and_from (is_left_out is_declared to && is_word_formed c.target) (is_function_text c.function && list_all (is_term reg) c.args) formed called)
    (text ∙ sym (call_line to c.target c.function c.args))

pub call_back : (reg : List Entity) (bytes : List ℕ) (l : Line) → call_at reg bytes ≡ Some l → Says reg (codes "call" ++ 32 ∷ bytes) l
unfolding call_at
call_back reg [] l e = absurd (none_some e)
call_back reg (c ∷ cs) l e =
    chosen (c == 36) (target_at reg None (c ∷ cs)) (on_some (declared_at equals (c ∷ cs)) (λ x. target_at reg (Some x.0) x.1)) l e
    (λ dollar read. called_back reg None (c ∷ cs) (c ∷ cs) l refl refl read)
    (λ named read. with_result (given (declared_at equals (c ∷ cs)) (λ x. target_at reg (Some x.0) x.1) l read))
  where
    with_result : (x : Declared × List ℕ) × (declared_at equals (c ∷ cs) ≡ Some x) × (target_at reg (Some x.0) x.1 ≡ Some l)
        → Says reg (codes "call" ++ 32 ∷ (c ∷ cs)) l
    with_result x =
        let d = declared_back equals (c ∷ cs) x.0 x.1 in
        called_back reg (Some x.0.0) (c ∷ cs) x.0.1 l d.0 d.1 x.2
