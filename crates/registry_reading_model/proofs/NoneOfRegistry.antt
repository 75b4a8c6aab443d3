-- A text with a wrong line, or one that says a registry that breaks a rule, is not that of a registry that keeps the rules.
use Rattle.std.proofs.Common.{◌≡◌, ℕ, true, List, [], ◌∷◌, ◌++◌, Contains, refl, sym, ap, ap₂, subst, ◌∙◌}
use Rattle.std.specs.List.{list_all}
use Rattle.std.proofs.lemmas.Bool.{and_parts}
use Rattle.std.proofs.lemmas.List.{append-nil, append_assoc, append_cancel_left}
use Rattle.uno_model.specs.BuiltIn.{HasBuiltIn}
use Rattle.uno_model.specs.Entities.{Entity}
use Rattle.uno_model.specs.Registry.{IsRising}
use Rattle.uno_model.proofs.AllLaws.{of_append}
use Rattle.registry_text_model.specs.Lines.{written, registry_text, text_of}
use Rattle.registry_text_model.specs.Reading.{is_one_line, text_lines, Begin, BeginInOrder, IsBadLine, IsOutOfOrder, Says, BreaksRule}
use Rattle.registry_text_model.specs.Rules.{Rule, KeepsTheRules, Keeps}
use Rattle.registry_reading_model.proofs.RulesWritten.{keeps_writable, keeps_says}
use Rattle.registry_reading_model.proofs.SaysOne.{lines_written, rising_written, one_said}
use Rattle.registry_reading_model.proofs.VerdictLaws.{first_line}

-- ---- lines at the front of others

-- one line in front of a text
line_and_text : (line : List ℕ) (lines : List (List ℕ)) (rest : List ℕ) → text_of (line ∷ lines) ++ rest ≡ line ++ 10 ∷ (text_of lines ++ rest)
unfolding text_of
line_and_text line lines rest = append_assoc (line ++ 10 ∷ []) (text_of lines) rest ∙ append_assoc line (10 ∷ []) (text_of lines ++ rest)

no_text : (line : List ℕ) (behind : List ℕ) → [] ≡ line ++ 10 ∷ behind → ⊥
no_text [] behind is = cc
no_text (c ∷ cs) behind is = cc

no_lines : text_of [] ≡ []
unfolding text_of
no_lines = refl

one_text : (line : List ℕ) (lines : List (List ℕ)) → text_of (line ∷ lines) ≡ line ++ 10 ∷ text_of lines
unfolding text_of
one_text line lines = append_assoc line (10 ∷ []) (text_of lines)

abbrev Behind : List (List ℕ) → List (List ℕ) → List ℕ → Type 0
Behind lines front rest = (behind : List (List ℕ)) × (lines ≡ front ++ behind) × (rest ≡ text_of behind)

-- lines whose text begins with that of others begin with them
front_lines : (lines front : List (List ℕ)) (rest : List ℕ) → list_all is_one_line lines ≡ true → list_all is_one_line front ≡ true
    → text_of lines ≡ text_of front ++ rest → Behind lines front rest
front_lines lines [] rest one two same = (lines, refl, ap (λ t. t ++ rest) (sym no_lines) ∙ sym same)
front_lines [] (y ∷ ys) rest one two same = absurd (no_text y (text_of ys ++ rest) (sym no_lines ∙ same ∙ line_and_text y ys rest))
front_lines (x ∷ xs) (y ∷ ys) rest one two same =
    let both : x ++ 10 ∷ text_of xs ≡ y ++ 10 ∷ (text_of ys ++ rest) = sym (one_text x xs) ∙ same ∙ line_and_text y ys rest in
    let ones = and_parts (is_one_line x) (list_all is_one_line xs) one in
    let twos = and_parts (is_one_line y) (list_all is_one_line ys) two in
    let line : x ≡ y = first_line x y (text_of xs) (text_of ys ++ rest) ones.0 twos.0 both in
    let behind : text_of xs ≡ text_of ys ++ rest = same_behind x y (text_of xs) (text_of ys ++ rest) line both in
    one_line_more x y xs ys rest line (front_lines xs ys rest ones.1 twos.1 behind)
  where
    same_behind : (v w : List ℕ) (t u : List ℕ) → v ≡ w → v ++ 10 ∷ t ≡ w ++ 10 ∷ u → t ≡ u
    same_behind v w t u line both =
        let tails : 10 ∷ t ≡ 10 ∷ u = append_cancel_left w (10 ∷ t) (10 ∷ u) (ap (λ z. z ++ 10 ∷ t) (sym line) ∙ both) in
        cc

    one_line_more : (v w : List ℕ) (vs ws : List (List ℕ)) (left : List ℕ) → v ≡ w → Behind vs ws left → Behind (v ∷ vs) (w ∷ ws) left
    one_line_more v w vs ws left line (zs, are, is) = (zs, ap₂ (λ z zs. z ∷ zs) line are, is)

-- lines that begin a text have no line feed
begun_lines : (lines : List (List ℕ)) → Begin lines → list_all is_one_line lines ≡ true
begun_lines lines begun =
    let all = subst (λ ls. list_all is_one_line ls ≡ true) begun.split (lines_written begun.entities begun.writable) in
    (of_append is_one_line lines begun.behind all).0

unordered : (lines : List (List ℕ)) → BeginInOrder lines → Begin lines
unordered lines begun = record { entities = begun.entities; behind = begun.behind; writable = begun.writable; split = begun.split }

-- ---- a wrong line

module _ (bytes : List ℕ) (reg : List Entity) (keeps : KeepsTheRules reg) (rising : IsRising reg) (same : registry_text reg ≡ bytes) where
  front : (before : List (List ℕ)) (rest : List ℕ) → bytes ≡ text_of before ++ rest → Begin before → Behind (text_lines (written reg)) before rest
  front before rest split begun =
      front_lines (text_lines (written reg)) before rest (lines_written (written reg) (keeps_writable reg keeps)) (begun_lines before begun)
      (same ∙ split)

  pub no_bad_line : (line : ℕ) → IsBadLine bytes line → ⊥
  no_bad_line line bad = by_behind (front bad.before bad.rest bad.split (unordered bad.before bad.begun))
    where
      by_behind : Behind (text_lines (written reg)) bad.before bad.rest → ⊥
      by_behind ([], are, is) = bad.unfinished (is ∙ no_lines) (written reg) (keeps_writable reg keeps) (sym (append-nil bad.before) ∙ sym are)
      by_behind (here ∷ more, are, is) =
          let lines : list_all is_one_line (bad.before ++ here ∷ more) ≡ true =
          subst (λ ls. list_all is_one_line ls ≡ true) are (lines_written (written reg) (keeps_writable reg keeps)) in
          let own = and_parts (is_one_line here) (list_all is_one_line more) (of_append is_one_line bad.before (here ∷ more) lines).1 in
          bad.wrong here (text_of more) (is ∙ one_text here more) own.0
          (record {
            entities = written reg;
            behind = more;
            writable = keeps_writable reg keeps;
            split = are ∙ sym (append_assoc bad.before (here ∷ []) more);
          })

  pub not_out_of_order : (line : ℕ) → IsOutOfOrder bytes line → ⊥
  not_out_of_order line wrong =
      let found = front (wrong.before ++ wrong.here ∷ []) wrong.behind wrong.split wrong.fits in
      wrong.falls (record {
        entities = written reg;
        behind = found.0;
        writable = keeps_writable reg keeps;
        rising = rising_written reg rising;
        split = found.1;
      })

  pub breaks_none : HasBuiltIn reg → (rule : Rule) (line : ℕ) → BreaksRule bytes rule line → ⊥
  breaks_none has rule line broken =
      let first = broken.first in
      let says = subst (λ text. Says text (written reg) reg) same (keeps_says reg keeps has rising) in
      let both = one_said bytes (written reg) reg (broken.before ++ broken.entity ∷ broken.behind) broken.reg says broken.says in
      let one : reg ≡ broken.reg = both.1 in
      let there : Contains reg broken.entity = subst (λ ds. Contains ds broken.entity) (sym one) (first.place, first.within, first.there) in
      first.broken (subst (λ ds. Keeps ds rule broken.entity) one (keeps.each rule broken.entity there))

-- ---- one registry

pub one_registry : (reg other : List Entity) → KeepsTheRules reg → KeepsTheRules other → HasBuiltIn reg → HasBuiltIn other → IsRising reg
    → IsRising other
    → registry_text reg ≡ registry_text other → reg ≡ other
one_registry reg other keeps keeps_too has has_too rising rising_too texts =
    (one_said (registry_text other) (written reg) reg (written other) other
    (subst (λ text. Says text (written reg) reg) texts (keeps_says reg keeps has rising)) (keeps_says other keeps_too has_too rising_too)).1
