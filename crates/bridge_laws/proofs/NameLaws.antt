-- What has the form of an export's name is no name that this end gave: it has no `;`.
use Rattle.std.proofs.Common.{◌≡◌, refl, sym, ap, ◌∙◌, subst, ℕ, Bool, true, false, List, [], ◌∷◌, ◌++◌, length, take, drop, codes}
use Rattle.std.specs.List.{list_all}
use Rattle.std.proofs.lemmas.Bool.{and_parts}
use Rattle.std.proofs.lemmas.List.{take-append-drop}
use Rattle.std.proofs.lemmas.Slice.Eq.{bytes_eq-Decides}
use Rattle.plan_model.specs.Forms.{is_export_byte, is_export_name}
use Rattle.bridge_model.specs.Settings.{Setting, prefix, is_own}

-- a name of this end begins with its tag and `;`
pub own_begins : (g : Setting) (name : List ℕ) → is_own g name ≡ true → name ≡ prefix g ++ drop (length (prefix g)) name
unfolding is_own
own_begins g name is =
    sym (take-append-drop (length (prefix g)) name) ∙ ap (λ front. front ++ drop (length (prefix g)) name) ((bytes_eq-Decides (take (length (prefix g)) name) (prefix g)).0 is)

marked : (tag rest : List ℕ) → list_all is_export_byte ((tag ++ codes ";") ++ rest) ≡ true → ⊥
marked [] rest all = absurd (cc)
marked (c ∷ tag) rest all = marked tag rest (and_parts (is_export_byte c) (list_all is_export_byte ((tag ++ codes ";") ++ rest)) all).1

exported_bytes : (name : List ℕ) → is_export_name name ≡ true → list_all is_export_byte name ≡ true
unfolding is_export_name
exported_bytes name is = (and_parts _ (list_all is_export_byte name) is).1

no_export : (g : Setting) (name : List ℕ) → is_export_name name ≡ true → (b : Bool) → is_own g name ≡ b → b ≡ false
no_export g name is true own =
    absurd (marked g.tag (drop (length (prefix g)) name) (subst (λ s. list_all is_export_byte s ≡ true) (own_begins g name own) (exported_bytes name is)))
no_export g name is false own = refl

pub ask_foreign : (g : Setting) (name : List ℕ) → is_export_name name ≡ true → is_own g name ≡ false
ask_foreign g name is = no_export g name is (is_own g name) refl
