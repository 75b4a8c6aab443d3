-- A quoted text that is read is spelled.
use Rattle.std.proofs.Common.{◌≡◌, ℕ, suc, Bool, true, false, ◌||◌, ◌==◌, List, [], ◌∷◌, ◌++◌, length, Option, None, Some}
use Rattle.std.proofs.Common.{Result, Ok, Err, refl, sym, ap, subst, ◌∙◌, append_assoc}
use Rattle.std.proofs.lemmas.Bool.{eqb-true}
use Rattle.std.specs.List.{flat_map}
use Rattle.uno_model.proofs.Options.{same_some, none_some}
use Rattle.literal_model.specs.Literals.{escaped}
use Rattle.literal_model.specs.Shapes.{with_byte, escape_of, string_at}
use Rattle.literal_model.proofs.ScanLaws.{not_ok}

abbrev Texts : Type 0
Texts = Result (List ℕ × List ℕ) ℕ

-- what holds of a byte and each text that is read behind it holds of what was read
byte_more : (P : List ℕ × List ℕ → Type 0) (c : ℕ) (m : Texts) (x : List ℕ × List ℕ) → with_byte c m ≡ Ok x
    → ((y : List ℕ × List ℕ) → m ≡ Ok y → P (c ∷ y.0, y.1)) → P x
byte_more P c (Ok y) x e inner = let same : ◌≡◌ {A = List ℕ × List ℕ} (c ∷ y.0, y.1) x = cc in subst P same (inner y refl)
byte_more P c (Err left) x e inner = absurd (not_ok left x e)

escape_is : (c b : ℕ) → escape_of c ≡ Some b → escaped b ≡ 92 ∷ (c ∷ [])
escape_is c b e = by_n (c == 110) refl
  where
    by_mark : (t : Bool) → ((c == 34) || (c == 92)) ≡ t → (c == 110) ≡ false → escaped b ≡ 92 ∷ (c ∷ [])
    by_mark true mark other =
        let is : c ≡ b = same_some (rw (other, mark) at e) in
        let marked : ((b == 34) || (b == 92)) ≡ true = subst (λ x. ((x == 34) || (x == 92)) ≡ true) is mark in
        rw marked (ap (λ x. 92 ∷ (x ∷ [])) (sym is))
    by_mark false plain other = absurd (none_some (rw (other, plain) at e))

    by_n : (t : Bool) → (c == 110) ≡ t → escaped b ≡ 92 ∷ (c ∷ [])
    by_n true letter =
        let is : 10 ≡ b = same_some (rw letter at e) in
        subst (λ x. escaped x ≡ 92 ∷ (c ∷ [])) is (ap (λ x. 92 ∷ (x ∷ [])) (sym (eqb-true c 110 letter)))
    by_n false other = by_mark ((c == 34) || (c == 92)) refl other

abbrev pending : Bool → List ℕ
pending true = 92 ∷ []
pending false = []

-- the text of x.0 and a quote stand in front of x.1
abbrev Spells : Bool → List ℕ → List ℕ × List ℕ → Type 0
Spells flag cs x = pending flag ++ cs ≡ flat_map escaped x.0 ++ 34 ∷ x.1

-- one character more
more_spelled : (c : ℕ) (front cs : List ℕ) (y : List ℕ × List ℕ) → escaped c ≡ front → Spells false cs y
    → front ++ cs ≡ flat_map escaped (c ∷ y.0) ++ 34 ∷ y.1
more_spelled c front cs y is behind =
    ap (λ t. front ++ t) behind ∙ sym (append_assoc front (flat_map escaped y.0) (34 ∷ y.1)) ∙ ap (λ t. (t ++ flat_map escaped y.0) ++ 34 ∷ y.1) (sym is)

pub string_back : (flag : Bool) (cs : List ℕ) (x : List ℕ × List ℕ) → string_at flag cs ≡ Ok x → Spells flag cs x
unfolding string_at
string_back flag [] x e = absurd (not_ok 0 x e)
string_back true (c ∷ cs) x e = by_escape (escape_of c) refl (λ y f. string_back false cs y f)
  where
    by_escape : (o : Option ℕ) → escape_of c ≡ o → ((y : List ℕ × List ℕ) → string_at false cs ≡ Ok y → Spells false cs y) → Spells true (c ∷ cs) x
    by_escape (Some b) is inner =
        byte_more (Spells true (c ∷ cs)) b (string_at false cs) x (rw is at e) (λ y f. more_spelled b (92 ∷ (c ∷ [])) cs y (escape_is c b is) (inner y f))
    by_escape None is inner = absurd (not_ok (suc (length cs)) x (rw is at e))
string_back false (c ∷ cs) x e = by_quote (c == 34) refl (λ y f. string_back false cs y f) (λ f. string_back true cs x f)
  where
    Plainly : Type 0
    Plainly = (y : List ℕ × List ℕ) → string_at false cs ≡ Ok y → Spells false cs y

    Escaped : Type 0
    Escaped = string_at true cs ≡ Ok x → Spells true cs x

    by_line : (b : Bool) → (c == 34) ≡ false → (c == 92) ≡ false → (c == 10) ≡ b → Plainly → Spells false (c ∷ cs) x
    by_line true no_quote no_slash line inner = absurd (not_ok (suc (length cs)) x (rw (no_quote, no_slash, line) at e))
    by_line false no_quote no_slash no_line inner =
        let itself : escaped c ≡ c ∷ [] = rw (no_quote, no_slash, no_line) refl in
        byte_more (Spells false (c ∷ cs)) c (string_at false cs) x (rw (no_quote, no_slash, no_line) at e) (λ y f. more_spelled c (c ∷ []) cs y itself (inner y f))

    by_slash : (b : Bool) → (c == 34) ≡ false → (c == 92) ≡ b → Plainly → Escaped → Spells false (c ∷ cs) x
    by_slash true no_quote slash inner escapes = ap (λ d. d ∷ cs) (eqb-true c 92 slash) ∙ escapes (rw (no_quote, slash) at e)
    by_slash false no_quote no_slash inner escapes = by_line (c == 10) no_quote no_slash refl inner

    ended : List ℕ × List ℕ
    ended = ([], cs)

    by_quote : (b : Bool) → (c == 34) ≡ b → Plainly → Escaped → Spells false (c ∷ cs) x
    by_quote true quote inner escapes =
        let same : Ok ended ≡ Ok x = rw quote at e in
        let is : ended ≡ x = cc in
        subst (λ z. Spells false (c ∷ cs) z) is (ap (λ d. d ∷ cs) (eqb-true c 34 quote))
    by_quote false no_quote inner escapes = by_slash (c == 92) no_quote refl inner escapes
