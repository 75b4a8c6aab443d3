-- Statements of variables and fields, and of what is returned and raised, both ways.
use Rattle.std.proofs.Common.{◌≡◌, ℕ, true, List, [], ◌∷◌, ◌++◌, Some, refl, ap, ◌∙◌, codes}
use Rattle.std.proofs.lemmas.Bool.{and_from}
use Rattle.literal_model.specs.Shapes.{run_of}
use Rattle.uno_model.proofs.Options.{same_some, none_some}
use Rattle.uno_model.specs.Entities.{Entity}
use Rattle.uno_model.specs.Names.{is_identifier}
use Rattle.plan_model.specs.Expressions.{Word, variable, field, own}
use Rattle.plan_model.specs.Forms.{is_type_text, is_variable_name, is_declared, is_word_formed, is_term, is_line}
use Rattle.plan_model.specs.Keeps.{Says}
use Rattle.plan_model.specs.Lines.{Term, Declared, Line}
use Rattle.plan_model.specs.Lines as line
use Rattle.plan_model.specs.PlanText.{variable_text, field_text, word_text, term_text, line_words}
use Rattle.plan_reading_model.specs.LineReading.{equals, whole_term, let_at, set_of, set_word, set_at, query_at, make_at, drop_at, return_at, raise_at, same_at}
use Rattle.plan_reading_model.specs.Parts.{on_some, behind, at_end, behind_blank, identifier_at, type_at, declared_at, word_at, variable_at}
use Rattle.plan_reading_model.specs.TermReading.{term_at}
use Rattle.plan_reading_model.proofs.LineParts.{made, says_made, ended_back, ended_said, blanked_back, blanked_said}
use Rattle.plan_reading_model.proofs.PartLaws.{given, behind_said, behind_back, ends_type, identifier_said, identifier_back, type_said, type_back}
use Rattle.plan_reading_model.proofs.PartLaws.{declared_said, declared_back, word_said, word_back, variable_said, variable_back}
use Rattle.plan_reading_model.proofs.TermLaws.{term_said, term_back}

-- ---- terms up to the end

pub whole_said : (reg : List Entity) (t : Term) → is_term reg t ≡ true → whole_term reg (term_text t) ≡ Some t
whole_said reg t is = ended_said (term_at reg) (term_text t) t (term_said reg t [] is refl)

pub whole_back : (reg : List Entity) (bytes : List ℕ) (t : Term) → whole_term reg bytes ≡ Some t → (is_term reg t ≡ true) × (bytes ≡ term_text t)
whole_back reg bytes t e = ended_back (term_at reg) (is_term reg) term_text (term_back reg) bytes t e

-- ---- declared variables

-- a name, its type, and a text behind `=`
abbrev pub declared_text : Declared → List ℕ → List ℕ
declared_text d rest = d.name ++ 32 ∷ (d.kind ++ (equals ++ rest))

equals_ends : (rest : List ℕ) → ends_type (equals ++ rest) ≡ true
unfolding run_of
equals_ends rest = refl

pub variable_declared : (d : Declared) (rest : List ℕ) → is_declared d ≡ true → declared_at equals (declared_text d rest) ≡ Some (d, rest)
variable_declared d rest is = declared_said equals rest d is (equals_ends rest)

pub let_said : (reg : List Entity) (d : Declared) (t : Term) → is_declared d ≡ true → is_term reg t ≡ true
    → let_at reg (declared_text d (term_text t)) ≡ Some (line.let_variable d t)
unfolding let_at
let_said reg d t is formed = rw (variable_declared d (term_text t) is, whole_said reg t formed) refl

pub let_back : (reg : List Entity) (bytes : List ℕ) (l : Line) → let_at reg bytes ≡ Some l → Says reg (codes "let" ++ 32 ∷ bytes) l
unfolding let_at is_line line_words
let_back reg bytes l e =
    let front = given (declared_at equals bytes) _ l e in
    let d = declared_back equals bytes front.0 front.1 in
    let more = made (line.let_variable front.0.0) (whole_term reg front.0.1) l front.2 in
    let t = whole_back reg front.0.1 more.0 more.1 in
    says_made reg (codes "let" ++ 32 ∷ bytes) (line.let_variable front.0.0 more.0) l more.2
    (and_from (is_declared front.0.0) (is_term reg more.0) d.0 t.0)
    (ap (λ b. codes "let" ++ 32 ∷ b) (d.1 ∙ ap (declared_text front.0.0) t.1))

pub query_said : (d : Declared) (w : Word) → is_declared d ≡ true → is_word_formed w ≡ true → query_at (declared_text d (word_text w)) ≡ Some (line.query d w)
unfolding query_at
query_said d w is formed =
    rw (variable_declared d (word_text w) is, ended_said word_at (word_text w) w (word_said w [] formed refl)) refl

pub query_back : (reg : List Entity) (bytes : List ℕ) (l : Line) → query_at bytes ≡ Some l → Says reg (codes "query" ++ 32 ∷ bytes) l
unfolding query_at is_line line_words
query_back reg bytes l e =
    let front = given (declared_at equals bytes) _ l e in
    let d = declared_back equals bytes front.0 front.1 in
    let more = made (line.query front.0.0) (at_end (word_at front.0.1)) l front.2 in
    let w = ended_back word_at is_word_formed word_text word_back front.0.1 more.0 more.1 in
    says_made reg (codes "query" ++ 32 ∷ bytes) (line.query front.0.0 more.0) l more.2
    (and_from (is_declared front.0.0) (is_word_formed more.0) d.0 w.0)
    (ap (λ b. codes "query" ++ 32 ∷ b) (d.1 ∙ ap (declared_text front.0.0) w.1))

pub make_said : (d : Declared) (b : List ℕ) → is_declared d ≡ true → is_identifier b ≡ true → make_at (declared_text d b) ≡ Some (line.make d b)
unfolding make_at
make_said d b is named = rw (variable_declared d b is, ended_said identifier_at b b (identifier_said b [] named refl)) refl

pub make_back : (reg : List Entity) (bytes : List ℕ) (l : Line) → make_at bytes ≡ Some l → Says reg (codes "new" ++ 32 ∷ bytes) l
unfolding make_at is_line line_words
make_back reg bytes l e =
    let front = given (declared_at equals bytes) _ l e in
    let d = declared_back equals bytes front.0 front.1 in
    let more = made (line.make front.0.0) (at_end (identifier_at front.0.1)) l front.2 in
    let b = ended_back identifier_at is_identifier (λ w. w) identifier_back front.0.1 more.0 more.1 in
    says_made reg (codes "new" ++ 32 ∷ bytes) (line.make front.0.0 more.0) l more.2
    (and_from (is_declared front.0.0) (is_identifier more.0) d.0 b.0)
    (ap (λ b. codes "new" ++ 32 ∷ b) (d.1 ∙ ap (declared_text front.0.0) b.1))

-- ---- variables and fields that get a value

set_said : (reg : List Entity) (w : Word) (t : Term) → is_word_formed w ≡ true → is_term reg t ≡ true
    → set_at reg (word_text w ++ (equals ++ term_text t)) ≡ set_of w t
unfolding set_at
set_said reg w t formed is =
    rw (word_said w (equals ++ term_text t) formed refl, behind_said equals (term_text t), whole_said reg t is) refl

pub set_variable_said : (reg : List Entity) (name : List ℕ) (t : Term) → is_variable_name name ≡ true → is_term reg t ≡ true
    → set_at reg (variable_text name ++ (equals ++ term_text t)) ≡ Some (line.set_variable name t)
set_variable_said reg name t named is = set_said reg (variable name) t named is

pub set_field_said : (reg : List Entity) (name : List ℕ) (t : Term) → is_identifier name ≡ true → is_term reg t ≡ true
    → set_at reg (field_text name ++ (equals ++ term_text t)) ≡ Some (line.set_field name t)
set_field_said reg name t named is = set_said reg (field name) t named is

set_of_back : (reg : List Entity) (w : Word) (t : Term) (l : Line) (bytes : List ℕ) → is_word_formed w ≡ true → is_term reg t ≡ true
    → bytes ≡ word_text w ++ (equals ++ term_text t) → set_of w t ≡ Some l → Says reg (codes "set" ++ 32 ∷ bytes) l
unfolding is_line line_words
set_of_back reg (variable name) t l bytes formed is spelled e =
    says_made reg (codes "set" ++ 32 ∷ bytes) (line.set_variable name t) l (same_some e) (and_from (is_variable_name name) (is_term reg t) formed is)
    (ap (λ b. codes "set" ++ 32 ∷ b) spelled)
set_of_back reg (field name) t l bytes formed is spelled e =
    says_made reg (codes "set" ++ 32 ∷ bytes) (line.set_field name t) l (same_some e) (and_from (is_identifier name) (is_term reg t) formed is)
    (ap (λ b. codes "set" ++ 32 ∷ b) spelled)
set_of_back reg own t l bytes formed is spelled e = absurd (none_some e)

pub set_back : (reg : List Entity) (bytes : List ℕ) (l : Line) → set_at reg bytes ≡ Some l → Says reg (codes "set" ++ 32 ∷ bytes) l
unfolding set_at
set_back reg bytes l e =
    let front = given (word_at bytes) (set_word reg) l e in
    let w = word_back bytes front.0 front.1 in
    let next = given (behind equals front.0.1) _ l front.2 in
    let mark = behind_back equals front.0.1 next.0 next.1 in
    let more = given (whole_term reg next.0) (set_of front.0.0) l next.2 in
    let t = whole_back reg next.0 more.0 more.1 in
    set_of_back reg front.0.0 more.0 l bytes w.0 t.0
    (w.1 ∙ ap (λ r. word_text front.0.0 ++ r) mark ∙ ap (λ r. word_text front.0.0 ++ (equals ++ r)) t.1) more.2

-- ---- variables that go

pub drop_said : (name : List ℕ) → is_variable_name name ≡ true → drop_at (variable_text name) ≡ Some (line.drop_variable name)
unfolding drop_at
drop_said name named = rw (ended_said variable_at (variable_text name) name (variable_said name [] named refl)) refl

pub drop_back : (reg : List Entity) (bytes : List ℕ) (l : Line) → drop_at bytes ≡ Some l → Says reg (codes "drop" ++ 32 ∷ bytes) l
unfolding drop_at is_line line_words
drop_back reg bytes l e =
    let more = made line.drop_variable (at_end (variable_at bytes)) l e in
    let name = ended_back variable_at is_variable_name variable_text variable_back bytes more.0 more.1 in
    says_made reg (codes "drop" ++ 32 ∷ bytes) (line.drop_variable more.0) l more.2 name.0 (ap (λ b. codes "drop" ++ 32 ∷ b) name.1)

-- ---- two variables

pub same_said : (x y : List ℕ) → is_variable_name x ≡ true → is_variable_name y ≡ true → same_at (variable_text x ++ 32 ∷ variable_text y) ≡ Some (line.same x y)
unfolding same_at
same_said x y first second =
    let front = blanked_said (variable_at (variable_text x ++ 32 ∷ variable_text y)) x (variable_text y) (variable_said x (32 ∷ variable_text y) first refl) in
    rw (front, ended_said variable_at (variable_text y) y (variable_said y [] second refl)) refl

pub same_back : (reg : List Entity) (bytes : List ℕ) (l : Line) → same_at bytes ≡ Some l → Says reg (codes "same" ++ 32 ∷ bytes) l
unfolding same_at is_line line_words
same_back reg bytes l e =
    let front = given (on_some (variable_at bytes) behind_blank) _ l e in
    let x = blanked_back variable_at is_variable_name variable_text variable_back bytes front.0 front.1 in
    let more = made (line.same front.0.0) (at_end (variable_at front.0.1)) l front.2 in
    let y = ended_back variable_at is_variable_name variable_text variable_back front.0.1 more.0 more.1 in
    says_made reg (codes "same" ++ 32 ∷ bytes) (line.same front.0.0 more.0) l more.2
    (and_from (is_variable_name front.0.0) (is_variable_name more.0) x.0 y.0)
    (ap (λ b. codes "same" ++ 32 ∷ b) (x.1 ∙ ap (λ r. variable_text front.0.0 ++ 32 ∷ r) y.1))

-- ---- what is returned and raised

pub return_said : (reg : List Entity) (t : Term) → is_term reg t ≡ true → return_at reg (term_text t) ≡ Some (line.return (Some t))
unfolding return_at
return_said reg t is = rw (whole_said reg t is) refl

pub return_back : (reg : List Entity) (bytes : List ℕ) (l : Line) → return_at reg bytes ≡ Some l → Says reg (codes "return" ++ 32 ∷ bytes) l
unfolding return_at is_line line_words
return_back reg bytes l e =
    let more = made (λ t. line.return (Some t)) (whole_term reg bytes) l e in
    let t = whole_back reg bytes more.0 more.1 in
    says_made reg (codes "return" ++ 32 ∷ bytes) (line.return (Some more.0)) l more.2 t.0 (ap (λ b. codes "return" ++ 32 ∷ b) t.1)

-- where the term does not begin with a second word of its type
pub raise_said : (reg : List Entity) (k : List ℕ) (t : Term) → is_type_text k ≡ true → is_term reg t ≡ true → ends_type (32 ∷ term_text t) ≡ true
    → raise_at reg (k ++ 32 ∷ term_text t) ≡ Some (line.raise k t)
unfolding raise_at
raise_said reg k t is formed ends =
    let front = blanked_said (type_at (k ++ 32 ∷ term_text t)) k (term_text t) (type_said k (32 ∷ term_text t) is ends) in
    rw (front, whole_said reg t formed) refl

-- a type and a value of it
pub record IsRaise (reg : List Entity) (bytes : List ℕ) (l : Line) : Type 0 where
  pub kind : List ℕ
  pub value : Term
  pub is_kind : is_type_text kind ≡ true
  pub is_value : is_term reg value ≡ true
  pub spelled : bytes ≡ kind ++ 32 ∷ term_text value
  pub is : line.raise kind value ≡ l

pub raised_back : (reg : List Entity) (bytes : List ℕ) (l : Line) → raise_at reg bytes ≡ Some l → IsRaise reg bytes l
unfolding raise_at
raised_back reg bytes l e =
    let front = given (on_some (type_at bytes) behind_blank) _ l e in
    let k = blanked_back type_at is_type_text (λ w. w) type_back bytes front.0 front.1 in
    let more = made (line.raise front.0.0) (whole_term reg front.0.1) l front.2 in
    let t = whole_back reg front.0.1 more.0 more.1 in
    record {
      kind = front.0.0;
      value = more.0;
      is_kind = k.0;
      is_value = t.0;
      spelled = k.1 ∙ ap (λ r. front.0.0 ++ 32 ∷ r) t.1;
      is = more.2;
    }

pub raise_back : (reg : List Entity) (bytes : List ℕ) (l : Line) → raise_at reg bytes ≡ Some l → Says reg (codes "raise" ++ 32 ∷ bytes) l
unfolding is_line line_words
raise_back reg bytes l e =
    let r = raised_back reg bytes l e in
    says_made reg (codes "raise" ++ 32 ∷ bytes) (line.raise r.kind r.value) l r.is
    (and_from (is_type_text r.kind) (is_term reg r.value) r.is_kind r.is_value) (ap (λ b. codes "raise" ++ 32 ∷ b) r.spelled)
