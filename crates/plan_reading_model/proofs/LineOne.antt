-- A text says one line at most.
use Rattle.std.proofs.Common.{◌≡◌, ℕ, Bool, true, false, List, [], ◌∷◌, ◌++◌, drop, Some, ◌⊎◌, inl, inr, refl, sym, ap, ◌∙◌, codes}
use Rattle.std.proofs.lemmas.Bool.{and_parts, both_ways}
use Rattle.std.proofs.lemmas.List.{append-nil}
use Rattle.std.specs.List.{list_all}
use Rattle.literal_model.specs.Shapes.{run_of, behind_run, is_known_word}
use Rattle.literal_model.specs.Literals.{word}
use Rattle.uno_model.specs.Names.{goes_on_identifier}
use Rattle.uno_model.proofs.Options.{same_some, none_some}
use Rattle.uno_model.specs.Entities.{Entity}
use Rattle.plan_model.specs.Forms.{is_type_text, is_term, is_line}
use Rattle.plan_model.specs.Keeps.{SaysOne}
use Rattle.plan_model.specs.Lines.{Term, leaf, Line, raise}
use Rattle.plan_model.specs.PlanText.{term_text, line_words, line_text}
use Rattle.plan_reading_model.specs.LineReading.{line_behind, line_at}
use Rattle.plan_reading_model.specs.Parts.{where_, is_type_byte, is_second_word}
use Rattle.plan_reading_model.specs.TermReading.{term_step, term_within, term_at, letters_at}
use Rattle.plan_reading_model.proofs.LineLaws.{is_readable, readable_said}
use Rattle.plan_reading_model.proofs.LineStatements.{raised_back}
use Rattle.plan_reading_model.proofs.PartTypes.{TwoWords, Shape, type_shape, each_second, second_bytes}
use Rattle.plan_reading_model.proofs.TermLaws.{term_said}

-- ---- blanks

no_blank : (p q : List ℕ) → [] ≡ p ++ 32 ∷ q → ⊥
no_blank [] q e = cc
no_blank (c ∷ cs) q e = cc

-- the blank behind k stands later than the one behind j
abbrev Later : (k t j u : List ℕ) → Type 0
Later k t j u = (w : List ℕ) × (k ≡ j ++ 32 ∷ w) × (u ≡ w ++ 32 ∷ t)

-- two blanks in a text are the same, or one is later
abbrev Blanks : (k t j u : List ℕ) → Type 0
Blanks k t j u = ((k ≡ j) × (t ≡ u)) ⊎ (Later k t j u ⊎ Later j u k t)

two_blanks : (k t j u : List ℕ) → k ++ 32 ∷ t ≡ j ++ 32 ∷ u → Blanks k t j u
two_blanks [] t [] u e = inl (refl, cc)
two_blanks [] t (d ∷ ds) u e = inr (inr (ds, cc, cc))
two_blanks (c ∷ cs) t [] u e = inr (inl (cs, cc, cc))
two_blanks (c ∷ cs) t (d ∷ ds) u e =
    let first : c ≡ d = cc in
    let rest : cs ++ 32 ∷ t ≡ ds ++ 32 ∷ u = cc in
    by_rest first (two_blanks cs t ds u rest)
  where
    by_rest : c ≡ d → Blanks cs t ds u → Blanks (c ∷ cs) t (d ∷ ds) u
    by_rest first (inl (fronts, backs)) = inl (cc, backs)
    by_rest first (inr (inl (w, fronts, backs))) = inr (inl (w, cc, backs))
    by_rest first (inr (inr (w, fronts, backs))) = inr (inr (w, cc, backs))

-- what has only bytes that pass has no blank, where that does not
none_passing : (test : ℕ → Bool) (k p q : List ℕ) → test 32 ≡ false → list_all test k ≡ true → k ≡ p ++ 32 ∷ q → ⊥
none_passing test [] p q fails all e = no_blank p q e
none_passing test (c ∷ cs) [] q fails all e =
    let here : c ≡ 32 = cc in
    both_ways false refl (sym fails ∙ ap test (sym here) ∙ (and_parts (test c) (list_all test cs) all).0)
none_passing test (c ∷ cs) (d ∷ ds) q fails all e =
    let rest : cs ≡ ds ++ 32 ∷ q = cc in
    none_passing test cs ds q fails (and_parts (test c) (list_all test cs) all).1 rest

-- ---- types and terms

-- behind the blank in a type stands a second word
second_in : (k p q : List ℕ) → is_type_text k ≡ true → k ≡ p ++ 32 ∷ q → is_second_word q ≡ true
second_in k p q is e = by_shape (type_shape k is)
  where
    by_blanks : (two : TwoWords k) → Blanks p q two.front two.second → is_second_word q ≡ true
    by_blanks two (inl (fronts, same)) = ap is_second_word same ∙ two.is_second
    by_blanks two (inr (inl (w, fronts, later))) =
        absurd (none_passing goes_on_identifier two.second w q refl (second_bytes two.second two.is_second) later)
    by_blanks two (inr (inr (w, sooner, backs))) = absurd (none_passing is_type_byte two.front p w refl two.bytes sooner)

    by_shape : Shape k → is_second_word q ≡ true
    by_shape (inl all) = absurd (none_passing is_type_byte k p q refl all e)
    by_shape (inr two) = by_blanks two (two_blanks p q two.front two.second (sym e ∙ two.split))

-- a word is read up to the blank behind it, and so is no more of a term
no_more : (b : Bool) (x : Term × List ℕ) (t : Term) (rest : List ℕ) → x.1 ≡ 32 ∷ rest → where_ b (Some x) ≡ Some (t, []) → ⊥
no_more false x t rest behind e = none_some e
no_more true x t rest behind e = let none : [] ≡ 32 ∷ rest = ap (λ (y : Term × List ℕ). y.1) (sym (same_some e)) ∙ behind in cc

no_short : (reg : List Entity) (t : Term) (rest : List ℕ) → term_at reg (codes "short" ++ 32 ∷ rest) ≡ Some (t, []) → ⊥
unfolding term_at term_within term_step letters_at run_of behind_run
no_short reg t rest e = no_more (is_known_word reg (codes "short")) (leaf (word (codes "short")), 32 ∷ rest) t rest refl e

no_long : (reg : List Entity) (t : Term) (rest : List ℕ) → term_at reg (codes "long" ++ 32 ∷ rest) ≡ Some (t, []) → ⊥
unfolding term_at term_within term_step letters_at run_of behind_run
no_long reg t rest e = no_more (is_known_word reg (codes "long")) (leaf (word (codes "long")), 32 ∷ rest) t rest refl e

no_hyper : (reg : List Entity) (t : Term) (rest : List ℕ) → term_at reg (codes "hyper" ++ 32 ∷ rest) ≡ Some (t, []) → ⊥
unfolding term_at term_within term_step letters_at run_of behind_run
no_hyper reg t rest e = no_more (is_known_word reg (codes "hyper")) (leaf (word (codes "hyper")), 32 ∷ rest) t rest refl e

-- no term begins with a second word and a blank
no_second : (reg : List Entity) (t : Term) (w rest : List ℕ) → is_term reg t ≡ true → is_second_word w ≡ true → term_text t ≡ w ++ 32 ∷ rest → ⊥
no_second reg t w rest is second e =
    each_second (λ v. term_at reg (v ++ 32 ∷ rest) ≡ Some (t, []) → ⊥) w second (no_short reg t rest) (no_long reg t rest) (no_hyper reg t rest)
    (ap (term_at reg) (sym (append-nil (term_text t) ∙ e)) ∙ term_said reg t [] is refl)

-- ---- values that are raised

one_term : (reg : List Entity) (t u : Term) → is_term reg t ≡ true → is_term reg u ≡ true → term_text t ≡ term_text u → t ≡ u
one_term reg t u is formed e =
    let both : Some (t, []) ≡ Some (u, []) = sym (term_said reg t [] is refl) ∙ ap (λ text. term_at reg (text ++ [])) e ∙ term_said reg u [] formed refl in
    ap (λ (x : Term × List ℕ). x.0) (same_some both)

one_raised : (reg : List Entity) (k j : List ℕ) (t u : Term) → is_type_text k ≡ true → is_type_text j ≡ true → is_term reg t ≡ true → is_term reg u ≡ true
    → k ++ 32 ∷ term_text t ≡ j ++ 32 ∷ term_text u → raise k t ≡ raise j u
one_raised reg k j t u is formed good sound e = by_blanks (two_blanks k (term_text t) j (term_text u) e)
  where
    by_blanks : Blanks k (term_text t) j (term_text u) → raise k t ≡ raise j u
    by_blanks (inl (kinds, texts)) = let terms : t ≡ u = one_term reg t u good sound texts in cc
    by_blanks (inr (inl (w, longer, behind))) = absurd (no_second reg u w (term_text t) sound (second_in k j w is longer) behind)
    by_blanks (inr (inr (w, longer, behind))) = absurd (no_second reg t w (term_text u) good (second_in j k w formed longer) behind)

-- ---- lines

-- a line that is read of the text of one that raises a value is that
raised_line : (reg : List Entity) (k : List ℕ) (t : Term) (m : Line) → is_type_text k ≡ true → is_term reg t ≡ true
    → line_at reg (codes "raise" ++ 32 ∷ (k ++ 32 ∷ term_text t)) ≡ Some m → raise k t ≡ m
unfolding line_at run_of behind_run line_behind
raised_line reg k t m is good e =
    let r = raised_back reg (k ++ 32 ∷ term_text t) m e in
    one_raised reg k r.kind t r.value is r.is_kind good r.is_value r.spelled ∙ r.is

-- a line that is not read as itself raises a value
unreadable : (l : Line) → is_readable l ≡ false → (k : List ℕ) × (t : Term) × (l ≡ raise k t)
unreadable (raise k t) is = (k, t, refl)
unreadable l is = absurd (both_ways false refl (sym is))

same_behind : (x y : List ℕ) → codes "raise" ++ 32 ∷ x ≡ codes "raise" ++ 32 ∷ y → x ≡ y
same_behind x y e = ap (drop 6) e

-- a line with the text of one that raises a value is that
raised_same : (reg : List Entity) (k : List ℕ) (t : Term) (m : Line) → is_line reg (raise k t) ≡ true → is_line reg m ≡ true
    → line_text (raise k t) ≡ line_text m → raise k t ≡ m
unfolding is_line line_words
raised_same reg k t m is formed e = by_form (is_readable m) refl
  where
    parts : (is_type_text k ≡ true) × (is_term reg t ≡ true)
    parts = and_parts (is_type_text k) (is_term reg t) is

    other : (j : List ℕ) (u : Term) → m ≡ raise j u → raise k t ≡ m
    other j u same =
        let good = and_parts (is_type_text j) (is_term reg u) (ap (is_line reg) (sym same) ∙ formed) in
        one_raised reg k j t u parts.0 good.0 parts.1 good.1
        (same_behind (k ++ 32 ∷ term_text t) (j ++ 32 ∷ term_text u) (e ∙ ap line_text same)) ∙ sym same

    by_form : (b : Bool) → is_readable m ≡ b → raise k t ≡ m
    by_form true readable = raised_line reg k t m parts.0 parts.1 (ap (line_at reg) e ∙ readable_said reg m formed readable)
    by_form false not_it = let r = unreadable m not_it in other r.0 r.1 r.2

-- lines with one text are one
pub one_line : (reg : List Entity) (l m : Line) → is_line reg l ≡ true → is_line reg m ≡ true → line_text l ≡ line_text m → l ≡ m
one_line reg l m is formed e = by_form (is_readable l) refl (is_readable m) refl
  where
    raised : (a b : Line) → is_line reg a ≡ true → is_line reg b ≡ true → line_text a ≡ line_text b → is_readable a ≡ false → a ≡ b
    raised a b good sound texts not_it =
        let r = unreadable a not_it in
        r.2 ∙ raised_same reg r.0 r.1 b (ap (is_line reg) (sym r.2) ∙ good) sound (ap line_text (sym r.2) ∙ texts)

    by_form : (a : Bool) → is_readable l ≡ a → (b : Bool) → is_readable m ≡ b → l ≡ m
    by_form true first true second = same_some (sym (readable_said reg l is first) ∙ ap (line_at reg) e ∙ readable_said reg m formed second)
    by_form false first b second = raised l m is formed e first
    by_form true first false second = sym (raised m l formed is (sym e) second)

pub says_one : (reg : List Entity) → SaysOne reg
says_one reg text l m says too = one_line reg l m says.formed too.formed (sym says.spelled ∙ too.spelled)
