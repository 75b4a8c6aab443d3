-- Each form of a term that is read is spelled and formed, where the terms in it are.
use Rattle.std.proofs.Common.{◌≡◌, ℕ, zero, suc, true, false, not, ◌||◌, ◌==◌, List, [], ◌∷◌, ◌++◌, length, Option, None, Some}
use Rattle.std.proofs.Common.{Result, Ok, Err, refl, sym, ap, subst, ◌∙◌, append_assoc, codes}
use Rattle.std.proofs.lemmas.Bool.{and_from, or_from, not_from_false, eqb-true, both_ways}
use Rattle.std.specs.List.{list_all, flat_map}
use Rattle.std.specs.Str.{bytes_eq, is_utf8}
use Rattle.uno_model.proofs.Options.{same_some, none_some}
use Rattle.uno_model.specs.Entities.{Entity}
use Rattle.uno_model.specs.Names.{begins_identifier, goes_on_identifier}
use Rattle.literal_model.specs.Literals.{Token, string, escaped}
use Rattle.literal_model.specs.Literals as token
use Rattle.literal_model.specs.Shapes.{run_of, behind_run, is_word, is_known_word, number_at, string_at}
use Rattle.literal_model.proofs.ScanLaws.{front_rest}
use Rattle.plan_model.specs.Expressions.{Word}
use Rattle.plan_model.specs.Forms.{is_type_text, is_cast, has_members, is_term, are_terms}
use Rattle.plan_model.specs.Lines.{Term, Terms, leaf, type_named, typed, word, operation, none, more}
use Rattle.plan_model.specs.PlanText.{operation_text, term_text, terms_text, behind_comma}
use Rattle.plan_model.specs.declared.operation.Operation.{Operation}
use Rattle.plan_model.specs.declared.operation.Operation.TheVariants.{Add, Sub}
use Rattle.plan_reading_model.specs.Parts.{on_some, behind, type_at, word_at}
use Rattle.plan_reading_model.specs.TermReading.{Reads, leaf_of, text_of, known_word, some_plan_word, type_value, cast_value, cast_of, in_front, behind_term}
use Rattle.plan_reading_model.specs.TermReading.{terms_on, as_elements, as_members, elements_at, members_at, second_operand, operands_at, operation_at}
use Rattle.plan_reading_model.specs.TermReading.{behind_word, letters_at}
use Rattle.plan_reading_model.proofs.PartRuns.{chosen, taken, came, allowed, same_word, behind_back, run_all}
use Rattle.plan_reading_model.proofs.PartNames.{begun_goes_on}
use Rattle.plan_reading_model.proofs.PartTypes.{type_back}
use Rattle.plan_reading_model.proofs.PartWords.{word_back}
use Rattle.plan_reading_model.proofs.TermNumbers.{number_back}
use Rattle.plan_reading_model.proofs.TermTexts.{string_back}

-- a term stands in front of what is behind it
abbrev pub IsTerm : List Entity → List ℕ → Term × List ℕ → Type 0
IsTerm reg bytes x = (is_term reg x.0 ≡ true) × (bytes ≡ term_text x.0 ++ x.1)

-- what is read is one
abbrev pub IsSound : List Entity → Reads Term → Type 0
IsSound reg read = (bytes : List ℕ) (x : Term × List ℕ) → read bytes ≡ Some x → IsTerm reg bytes x

-- ---- leaves

number_held : {P : Type 0} (m : Result (Token × List ℕ) ℕ) (x : Term × List ℕ) → leaf_of m ≡ Some x
    → ((y : Token × List ℕ) → m ≡ Ok y → ◌≡◌ {A = Term × List ℕ} (leaf y.0, y.1) x → P) → P
number_held (Ok y) x e inner = inner y refl (same_some e)
number_held (Err left) x e inner = absurd (none_some e)

pub leaf_back : (reg : List Entity) (bytes : List ℕ) (x : Term × List ℕ) → leaf_of (number_at bytes) ≡ Some x → IsTerm reg bytes x
unfolding is_term term_text
leaf_back reg bytes x e =
    number_held (number_at bytes) x e (λ y f same. let is = number_back reg bytes y f in subst (IsTerm reg bytes) same (is.formed, is.spelled))

text_held : {P : Type 0} (m : Result (List ℕ × List ℕ) ℕ) (x : Term × List ℕ) → text_of m ≡ Some x
    → ((y : List ℕ × List ℕ) → m ≡ Ok y → is_utf8 y.0 ≡ true → ◌≡◌ {A = Term × List ℕ} (leaf (string y.0), y.1) x → P) → P
text_held (Ok y) x e inner = let is = allowed (is_utf8 y.0) (Some (leaf (string y.0), y.1)) x e in inner y refl is.0 (same_some is.1)
text_held (Err left) x e inner = absurd (none_some e)

pub text_back : (reg : List Entity) (cs : List ℕ) (x : Term × List ℕ) → text_of (string_at false cs) ≡ Some x → IsTerm reg (34 ∷ cs) x
unfolding is_term term_text
text_back reg cs x e =
    text_held (string_at false cs) x e
    (λ y f utf8 same.
    let whole = ap (λ t. 34 ∷ t) (string_back false cs y f ∙ sym (append_assoc (flat_map escaped y.0) (34 ∷ []) y.1)) in
    subst (IsTerm reg (34 ∷ cs)) same (utf8, whole))

-- ---- types and words of the plan

type_spelled : (cs k after rest : List ℕ) → cs ≡ k ++ after → after ≡ 62 ∷ rest → 60 ∷ cs ≡ 60 ∷ ((k ++ 62 ∷ []) ++ rest)
type_spelled cs k after rest split close = ap (λ t. 60 ∷ t) (split ∙ ap (λ t. k ++ t) close ∙ sym (append_assoc k (62 ∷ []) rest))

pub type_value_back : (reg : List Entity) (cs : List ℕ) (x : Term × List ℕ) → on_some (type_at cs) type_value ≡ Some x → IsTerm reg (60 ∷ cs) x
unfolding is_term term_text
type_value_back reg cs x e =
    taken (type_at cs) type_value x e
    (λ k f e.
    taken (behind (codes ">") k.1) (λ rest. Some (type_named k.0, rest)) x e
    (λ rest g e.
    let is = type_back cs k f in
    came (IsTerm reg (60 ∷ cs)) e (is.0, type_spelled cs k.0 k.1 rest is.1 (behind_back (codes ">") k.1 rest g))))

-- in parentheses stands a type, and behind it its value
cast_made : (reg : List Entity) (bytes k rest : List ℕ) (y : Term × List ℕ) → is_cast k ≡ true → bytes ≡ 40 ∷ (k ++ 41 ∷ rest) → IsTerm reg rest y
    → IsTerm reg bytes (typed k y.0, y.1)
unfolding is_term term_text
cast_made reg bytes k rest y is split value = (
  and_from (is_cast k) (is_term reg y.0) is value.0,
  split ∙ ap (λ t. 40 ∷ (k ++ 41 ∷ t)) value.1 ∙ ap (λ t. 40 ∷ t) (sym (append_assoc k (41 ∷ term_text y.0) y.1)),
)

value_back : (reg : List Entity) (read : Reads Term) (bytes k rest : List ℕ) (x : Term × List ℕ) → IsSound reg read → is_type_text k ≡ true
    → bytes ≡ 40 ∷ (k ++ 41 ∷ rest) → cast_value read k rest ≡ Some x → IsTerm reg bytes x
unfolding is_term term_text
value_back reg read bytes k rest x sound is split e =
    chosen (bytes_eq k (codes "void")) _ _ x e
    (λ void e. came (IsTerm reg bytes) e (refl, split ∙ ap (λ t. 40 ∷ (t ++ 41 ∷ rest)) (same_word k (codes "void") void)))
    (λ no_void e. chosen (bytes_eq k (codes "any")) _ _ x e (λ any e. absurd (none_some e)) (λ no_any e. typed_value no_any no_void e))
  where
    typed_value : bytes_eq k (codes "any") ≡ false → bytes_eq k (codes "void") ≡ false → on_some (read rest) (λ y. Some (typed k y.0, y.1)) ≡ Some x
        → IsTerm reg bytes x
    typed_value no_any no_void e =
        let other = not_from_false (bytes_eq k (codes "any") || bytes_eq k (codes "void")) (or_from _ _ no_any no_void) in
        let cast : is_cast k ≡ true = and_from (is_type_text k) (not (bytes_eq k (codes "any") || bytes_eq k (codes "void"))) is other in
        taken (read rest) (λ y. Some (typed k y.0, y.1)) x e (λ y f e. came (IsTerm reg bytes) e (cast_made reg bytes k rest y cast split (sound rest y f)))

pub cast_back : (reg : List Entity) (read : Reads Term) (cs : List ℕ) (x : Term × List ℕ) → IsSound reg read → on_some (type_at cs) (cast_of read) ≡ Some x
    → IsTerm reg (40 ∷ cs) x
cast_back reg read cs x sound e =
    taken (type_at cs) (cast_of read) x e
    (λ k f e.
    taken (behind (codes ")") k.1) (cast_value read k.0) x e
    (λ rest g e.
    let is = type_back cs k f in
    let split : 40 ∷ cs ≡ 40 ∷ (k.0 ++ 41 ∷ rest) = ap (λ t. 40 ∷ t) (is.1 ∙ ap (λ t. k.0 ++ t) (behind_back (codes ")") k.1 rest g)) in
    value_back reg read (40 ∷ cs) k.0 rest x sound is.0 split e))

plan_word_held : {P : Type 0} (o : Option (Word × List ℕ)) (x : Term × List ℕ) → some_plan_word o ≡ Some x
    → ((y : Word × List ℕ) → o ≡ Some y → ◌≡◌ {A = Term × List ℕ} (word y.0, y.1) x → P) → P
plan_word_held None x e inner = absurd (none_some e)
plan_word_held (Some y) x e inner = inner y refl (same_some e)

pub plan_word_back : (reg : List Entity) (bytes : List ℕ) (x : Term × List ℕ) → some_plan_word (word_at bytes) ≡ Some x → IsTerm reg bytes x
unfolding is_term term_text
plan_word_back reg bytes x e = plan_word_held (word_at bytes) x e (λ y f same. subst (IsTerm reg bytes) same (word_back bytes y f))

-- ---- terms with commas between them

-- terms, of which there is one at least, and what closes stand in front of what is behind them
pub record AreTerms (reg : List Entity) (close : ℕ) (bytes : List ℕ) (x : Terms × List ℕ) : Type 0 where
  pub some : has_members x.0 ≡ true
  pub formed : are_terms reg x.0 ≡ true
  pub spelled : bytes ≡ terms_text x.0 ++ close ∷ x.1

one_term : (reg : List Entity) (close : ℕ) (bytes cs : List ℕ) (t : Term) → is_term reg t ≡ true → bytes ≡ term_text t ++ close ∷ cs
    → AreTerms reg close bytes (more t none, cs)
unfolding are_terms terms_text behind_comma
one_term reg close bytes cs t is split =
    record { some = refl; formed = and_from (is_term reg t) true is refl; spelled = split ∙ sym (append_assoc (term_text t) [] (close ∷ cs)) }

term_in_front : (reg : List Entity) (close : ℕ) (bytes cs : List ℕ) (t : Term) (y : Terms × List ℕ) → is_term reg t ≡ true
    → bytes ≡ term_text t ++ 44 ∷ cs → AreTerms reg close cs y → AreTerms reg close bytes (more t y.0, y.1)
unfolding are_terms terms_text behind_comma
term_in_front reg close bytes cs t (none, rest) is split others = absurd (both_ways false refl others.some)
term_in_front reg close bytes cs t (more u us, rest) is split others =
    record {
      some = refl;
      formed = and_from (is_term reg t) (are_terms reg (more u us)) is others.formed;
      spelled = split ∙ ap (λ b. term_text t ++ 44 ∷ b) others.spelled
          ∙ sym (append_assoc (term_text t) (44 ∷ (term_text u ++ behind_comma us)) (close ∷ rest));
    }

front_held : {P : Type 0} (t : Term) (o : Option (Terms × List ℕ)) (x : Terms × List ℕ) → in_front t o ≡ Some x
    → ((y : Terms × List ℕ) → o ≡ Some y → ◌≡◌ {A = Terms × List ℕ} (more t y.0, y.1) x → P) → P
front_held t None x e inner = absurd (none_some e)
front_held t (Some y) x e inner = inner y refl (same_some e)

behind_term_back : (reg : List Entity) (close : ℕ) (others : Reads Terms) (bytes : List ℕ) (t : Term) (rest : List ℕ) (x : Terms × List ℕ)
    → ((b : List ℕ) (y : Terms × List ℕ) → others b ≡ Some y → AreTerms reg close b y) → is_term reg t ≡ true → bytes ≡ term_text t ++ rest
    → behind_term close others (t, rest) ≡ Some x → AreTerms reg close bytes x
behind_term_back reg close others bytes t [] x inner is split e = absurd (none_some e)
behind_term_back reg close others bytes t (c ∷ cs) x inner is split e =
    chosen (c == close) _ _ x e
    (λ closed e. came (AreTerms reg close bytes) e (one_term reg close bytes cs t is (split ∙ ap (λ d. term_text t ++ d ∷ cs) (eqb-true c close closed))))
    (λ open_still e. chosen (c == 44) _ _ x e (λ comma e. more_terms comma e) (λ other e. absurd (none_some e)))
  where
    more_terms : (c == 44) ≡ true → in_front t (others cs) ≡ Some x → AreTerms reg close bytes x
    more_terms comma e =
        let whole : bytes ≡ term_text t ++ 44 ∷ cs = split ∙ ap (λ d. term_text t ++ d ∷ cs) (eqb-true c 44 comma) in
        front_held t (others cs) x e (λ y f same. subst (AreTerms reg close bytes) same (term_in_front reg close bytes cs t y is whole (inner cs y f)))

pub terms_are : (reg : List Entity) (read : Reads Term) (close most : ℕ) (bytes : List ℕ) (x : Terms × List ℕ) → IsSound reg read
    → terms_on most read close bytes ≡ Some x → AreTerms reg close bytes x
unfolding terms_on
terms_are reg read close zero bytes x sound e = absurd (none_some e)
terms_are reg read close (suc most) bytes x sound e =
    taken (read bytes) (behind_term close (terms_on most read close)) x e
    (λ t f e.
    let is = sound bytes t f in
    behind_term_back reg close (terms_on most read close) bytes t.0 t.1 x (λ b y g. terms_are reg read close most b y sound g) is.0 is.1 e)

-- ---- what is in brackets

pub elements_back : (reg : List Entity) (read : Reads Term) (cs : List ℕ) (x : Term × List ℕ) → IsSound reg read → elements_at read cs ≡ Some x
    → IsTerm reg (91 ∷ cs) x
unfolding elements_at is_term are_terms term_text terms_text
elements_back reg read [] x sound e = absurd (none_some e)
elements_back reg read (c ∷ cs) x sound e =
    chosen (c == 93) _ _ x e (λ closed e. came (IsTerm reg (91 ∷ (c ∷ cs))) e (refl, ap (λ d. 91 ∷ (d ∷ cs)) (eqb-true c 93 closed)))
    (λ open_still e.
    taken (terms_on (length (c ∷ cs)) read 93 (c ∷ cs)) as_elements x e
    (λ ts f e.
    let are = terms_are reg read 93 (length (c ∷ cs)) (c ∷ cs) ts sound f in
    came (IsTerm reg (91 ∷ (c ∷ cs))) e (are.formed, ap (λ t. 91 ∷ t) (are.spelled ∙ sym (append_assoc (terms_text ts.0) (93 ∷ []) ts.1)))))

pub members_back : (reg : List Entity) (read : Reads Term) (cs : List ℕ) (x : Term × List ℕ) → IsSound reg read → members_at read cs ≡ Some x
    → IsTerm reg (123 ∷ cs) x
unfolding members_at is_term term_text
members_back reg read cs x sound e =
    taken (terms_on (length cs) read 125 cs) as_members x e
    (λ ts f e.
    let are = terms_are reg read 125 (length cs) cs ts sound f in
    let split = ap (λ t. 123 ∷ t) (are.spelled ∙ sym (append_assoc (terms_text ts.0) (125 ∷ []) ts.1)) in
    came (IsTerm reg (123 ∷ cs)) e (and_from (has_members ts.0) (are_terms reg ts.0) are.some are.formed, split))

-- ---- operations and known words

operation_spelled : (bytes cs front a mid b rest : List ℕ) → bytes ≡ front ++ 40 ∷ cs → cs ≡ a ++ 44 ∷ mid → mid ≡ b ++ 41 ∷ rest
    → bytes ≡ (front ++ 40 ∷ (a ++ 44 ∷ (b ++ 41 ∷ []))) ++ rest
operation_spelled bytes cs front a mid b rest split first second =
    split ∙ ap (λ x. front ++ 40 ∷ x) (first ∙ ap (λ x. a ++ 44 ∷ x) second) ∙ ap (λ x. front ++ 40 ∷ (a ++ 44 ∷ x)) (sym (append_assoc b (41 ∷ []) rest))
    ∙ ap (λ x. front ++ 40 ∷ x) (sym (append_assoc a (44 ∷ (b ++ 41 ∷ [])) rest)) ∙ sym (append_assoc front (40 ∷ (a ++ 44 ∷ (b ++ 41 ∷ []))) rest)

operation_made : (reg : List Entity) (op : Operation) (bytes cs mid rest : List ℕ) (s t : Term × List ℕ) → bytes ≡ operation_text op ++ 40 ∷ cs
    → IsTerm reg cs s → s.1 ≡ 44 ∷ mid → IsTerm reg mid t → t.1 ≡ 41 ∷ rest → IsTerm reg bytes (operation op s.0 t.0, rest)
unfolding is_term term_text
operation_made reg op bytes cs mid rest s t split first comma second close = (
  and_from (is_term reg s.0) (is_term reg t.0) first.0 second.0,
  operation_spelled bytes cs (operation_text op) (term_text s.0) mid (term_text t.0) rest split
      (first.1 ∙ ap (λ x. term_text s.0 ++ x) comma) (second.1 ∙ ap (λ x. term_text t.0 ++ x) close),
)

operands_back : (reg : List Entity) (read : Reads Term) (op : Operation) (bytes cs : List ℕ) (x : Term × List ℕ) → IsSound reg read
    → bytes ≡ operation_text op ++ 40 ∷ cs → operands_at read op cs ≡ Some x → IsTerm reg bytes x
unfolding operands_at
operands_back reg read op bytes cs x sound split e =
    taken (read cs) (second_operand read op) x e
    (λ s f e.
    taken (behind (codes ",") s.1) _ x e
    (λ mid g e.
    taken (read mid) _ x e
    (λ t h e.
    taken (behind (codes ")") t.1) (λ left. Some (operation op s.0 t.0, left)) x e
    (λ rest i e.
    came (IsTerm reg bytes) e
    (operation_made reg op bytes cs mid rest s t split (sound cs s f) (behind_back (codes ",") s.1 mid g) (sound mid t h)
    (behind_back (codes ")") t.1 rest i))))))

known_back : (reg : List Entity) (bytes w rest : List ℕ) (x : Term × List ℕ) → is_word w ≡ true → bytes ≡ w ++ rest → known_word reg w rest ≡ Some x
    → IsTerm reg bytes x
unfolding is_term term_text
known_back reg bytes w rest x is split e =
    let known = allowed (is_known_word reg w) (Some (leaf (token.word w), rest)) x e in
    came (IsTerm reg bytes) known.1 (and_from (is_word w) (is_known_word reg w) is known.0, split)

operation_back : (reg : List Entity) (read : Reads Term) (bytes w cs : List ℕ) (x : Term × List ℕ) → IsSound reg read → bytes ≡ w ++ 40 ∷ cs
    → operation_at read w cs ≡ Some x → IsTerm reg bytes x
operation_back reg read bytes w cs x sound split e =
    chosen (bytes_eq w (codes "add")) _ _ x e
    (λ is e. operands_back reg read Add bytes cs x sound (split ∙ ap (λ t. t ++ 40 ∷ cs) (same_word w (codes "add") is)) e)
    (λ other e.
    chosen (bytes_eq w (codes "sub")) _ _ x e
    (λ is e. operands_back reg read Sub bytes cs x sound (split ∙ ap (λ t. t ++ 40 ∷ cs) (same_word w (codes "sub") is)) e)
    (λ other e. absurd (none_some e)))

behind_word_back : (reg : List Entity) (read : Reads Term) (bytes w rest : List ℕ) (x : Term × List ℕ) → IsSound reg read → is_word w ≡ true
    → bytes ≡ w ++ rest → behind_word reg read w rest ≡ Some x → IsTerm reg bytes x
behind_word_back reg read bytes w [] x sound is split e = known_back reg bytes w [] x is split e
behind_word_back reg read bytes w (c ∷ cs) x sound is split e =
    chosen (c == 40) _ _ x e
    (λ open_it e. operation_back reg read bytes w cs x sound (split ∙ ap (λ d. w ++ d ∷ cs) (eqb-true c 40 open_it)) e)
    (λ other e. known_back reg bytes w (c ∷ cs) x is split e)

letters_are : (c : ℕ) (cs : List ℕ) → begins_identifier c ≡ true → is_word (run_of goes_on_identifier (c ∷ cs)) ≡ true
unfolding run_of
letters_are c cs begun =
    let on = begun_goes_on c begun in
    rw on (and_from (begins_identifier c) (list_all goes_on_identifier (run_of goes_on_identifier cs)) begun (run_all goes_on_identifier cs))

pub letters_back : (reg : List Entity) (read : Reads Term) (c : ℕ) (cs : List ℕ) (x : Term × List ℕ) → IsSound reg read → begins_identifier c ≡ true
    → letters_at reg read (c ∷ cs) ≡ Some x → IsTerm reg (c ∷ cs) x
unfolding letters_at
letters_back reg read c cs x sound begun e =
    behind_word_back reg read (c ∷ cs) (run_of goes_on_identifier (c ∷ cs)) (behind_run goes_on_identifier (c ∷ cs)) x sound (letters_are c cs begun)
    (front_rest goes_on_identifier (c ∷ cs)) e
