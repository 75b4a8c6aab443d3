-- Parts of a line that stand before a blank, or at its end, both ways.
use Rattle.std.proofs.Common.{◌≡◌, ℕ, Bool, true, false, ◌&&◌, List, [], ◌∷◌, ◌++◌, Option, None, Some, refl, sym, ap, ◌∙◌}
use Rattle.std.proofs.lemmas.Bool.{and_from}
use Rattle.std.proofs.lemmas.List.{append-nil}
use Rattle.literal_model.specs.Shapes.{behind_run}
use Rattle.uno_model.proofs.Options.{same_some, none_some}
use Rattle.uno_model.specs.Entities.{Entity}
use Rattle.uno_model.specs.Sound.{is_some_list}
use Rattle.plan_model.specs.Forms.{is_line}
use Rattle.plan_model.specs.Keeps.{Says}
use Rattle.plan_model.specs.Lines.{Line}
use Rattle.plan_model.specs.PlanText.{line_text, words}
use Rattle.plan_reading_model.specs.LineReading.{some_line}
use Rattle.plan_reading_model.specs.Parts.{on_some, at_end, behind_blank}
use Rattle.plan_reading_model.proofs.PartLaws.{given, at_end_back, blank_said, blank_back}

-- ---- lines that were made

pub made : {X : Type 0} (mk : X → Line) (o : Option X) (l : Line) → some_line mk o ≡ Some l → (x : X) × (o ≡ Some x) × (mk x ≡ l)
made mk None l e = absurd (none_some e)
made mk (Some x) l e = (x, refl, same_some e)

pub three_parts : (a b c : Bool) → a ≡ true → b ≡ true → c ≡ true → (a && (b && c)) ≡ true
three_parts a b c p q r = and_from a (b && c) p (and_from b c q r)

-- a text that says a line, where it is that of another that is the same
pub says_made : (reg : List Entity) (text : List ℕ) (m l : Line) → m ≡ l → is_line reg m ≡ true → text ≡ line_text m → Says reg text l
says_made reg text m l same formed spelled = record { spelled = spelled ∙ ap line_text same; formed = ap (is_line reg) (sym same) ∙ formed }

-- ---- what is read is formed, and spelled in front

abbrev pub IsBack : {X : Type 0} → (List ℕ → Option (X × List ℕ)) → (X → Bool) → (X → List ℕ) → Type 0
IsBack {X} read good text = (bytes : List ℕ) (x : X × List ℕ) → read bytes ≡ Some x → (good x.0 ≡ true) × (bytes ≡ text x.0 ++ x.1)

-- what is all of a text
pub ended_back : {X : Type 0} (read : List ℕ → Option (X × List ℕ)) (good : X → Bool) (text : X → List ℕ) → IsBack read good text
    → (bytes : List ℕ) (x : X) → at_end (read bytes) ≡ Some x → (good x ≡ true) × (bytes ≡ text x)
ended_back read good text back bytes x e =
    let is = back bytes (x, []) (at_end_back (read bytes) x e) in
    (is.0, is.1 ∙ append-nil (text x))

pub ended_said : {X : Type 0} (read : List ℕ → Option (X × List ℕ)) (text : List ℕ) (x : X) → read (text ++ []) ≡ Some (x, []) → at_end (read text) ≡ Some x
ended_said read text x e = rw (sym (ap read (append-nil text)) ∙ e) refl

-- what stands before a blank
pub blanked_back : (read : List ℕ → Option (List ℕ × List ℕ)) (good : List ℕ → Bool) (text : List ℕ → List ℕ) → IsBack read good text
    → (bytes : List ℕ) (x : List ℕ × List ℕ) → on_some (read bytes) behind_blank ≡ Some x → (good x.0 ≡ true) × (bytes ≡ text x.0 ++ 32 ∷ x.1)
blanked_back read good text back bytes x e =
    let front = given (read bytes) behind_blank x e in
    let is = back bytes front.0 front.1 in
    let parts = blank_back front.0 x front.2 in
    (ap good (sym parts.0) ∙ is.0, is.1 ∙ ap (λ w. text w ++ front.0.1) parts.0 ∙ ap (λ r. text x.0 ++ r) parts.1)

pub blanked_said : (o : Option (List ℕ × List ℕ)) (w rest : List ℕ) → o ≡ Some (w, 32 ∷ rest) → on_some o behind_blank ≡ Some (w, rest)
blanked_said o w rest e = rw e (blank_said w rest)

-- ---- words with a blank between any two

pub words_more : (w : List ℕ) (ws : List (List ℕ)) → is_some_list ws ≡ true → words (w ∷ ws) ≡ w ++ 32 ∷ words ws
words_more w [] is = let bad : false ≡ true = is in absurd (cc)
words_more w (v ∷ vs) is = refl

-- ---- runs

-- what stands behind a run begins with a byte that fails
pub behind_fails : (test : ℕ → Bool) (bytes : List ℕ) (c : ℕ) (cs : List ℕ) → behind_run test bytes ≡ c ∷ cs → test c ≡ false
unfolding behind_run
behind_fails test [] c cs e = absurd (cc)
behind_fails test (d ∷ ds) c cs e = by_test (test d) refl (behind_fails test ds c cs) e
  where
    by_test : (b : Bool) → test d ≡ b → (behind_run test ds ≡ c ∷ cs → test c ≡ false) → behind_run test (d ∷ ds) ≡ c ∷ cs → test c ≡ false
    by_test true passes inner e = inner (rw passes at e)
    by_test false fails inner e = let here : d ≡ c = first (rw fails at e) in ap test (sym here) ∙ fails
      where
        first : d ∷ ds ≡ c ∷ cs → d ≡ c
        first e = cc
