-- Names that are compared with those behind them, one after the other.
use Rattle.std.proofs.Common.{◌≡◌, ℕ, Bool, true, false, not, ◌&&◌, List, [], ◌∷◌, length, map, sym, ap, ◌∙◌, arith}
use Rattle.std.specs.List.{list_any}
use Rattle.std.specs.Str.{bytes_eq}
use Rattle.uno_model.specs.Sound.{all_differ}

module _ {X : Type 0} (named : X → List ℕ) (things : List X) where
  module _ (rest behind : List X) (first : X) (name : List ℕ) (parts : rest ≡ first ∷ behind) (is : name ≡ named first) where
    -- what is left is the first one with those behind it
    front : (b : Bool) → list_any (bytes_eq name) (map named behind) ≡ b → all_differ (map named rest) ≡ (not b && all_differ (map named behind))
    unfolding all_differ
    front b among = ap (λ xs. all_differ (map named xs)) parts ∙ ap (λ t. not t && all_differ (map named behind)) (ap (λ n. list_any (bytes_eq n) (map named behind)) (sym is) ∙ among)

    pub twins_in_front : list_any (bytes_eq name) (map named behind) ≡ true → all_differ (map named rest) ≡ all_differ (map named things) → false ≡ all_differ (map named things)
    twins_in_front among kept = sym (front true among) ∙ kept

    pub one_less : list_any (bytes_eq name) (map named behind) ≡ false → all_differ (map named rest) ≡ all_differ (map named things)
        → all_differ (map named behind) ≡ all_differ (map named things)
    one_less among kept = sym (front false among) ∙ kept

  pub none_left : (rest : List X) → length rest ≡ 0 → all_differ (map named rest) ≡ all_differ (map named things) → true ≡ all_differ (map named things)
  unfolding all_differ
  none_left [] none kept = kept
  none_left (x ∷ xs) none kept = absurd (omega (arith, none))
