-- What stands at the front of bytes where a reader agrees with a relation: one thing, with one length, and nothing whole in less of it.
use Rattle.std.proofs.Common.{◌≡◌, ◌≢◌, ℕ, List, [], ◌∷◌, ◌++◌, Result, Ok, Err, refl, sym, ap, ◌∙◌, append_assoc}
use Rattle.std.proofs.lemmas.List.{append-nil, append_cancel_right}
use Rattle.urp_model.specs.Agreement.{Agrees, triple}
use Rattle.urp_model.specs.declared.fault.Fault.{Fault}
use Rattle.urp_model.specs.declared.fault.Fault.TheVariants.{Short, Bad}
use Rattle.urp_model.specs.declared.reason.Reason.{Reason}

-- what was read says what it is and what stands behind it
pub record IsMaker {X A : Type 0} (mk : X → List ℕ → A) : Type 0 where
  pub apart : (x y : X) (b c : List ℕ) → mk x b ≡ mk y c → (x ≡ y) × (b ≡ c)

pub triple_maker : {X Y : Type 0} → IsMaker (triple {X = X} {Y = Y})
triple_maker {X = X} {Y = Y} = record { apart = λ x y b c is. ((λ i. ((is i).0, (is i).1)), ap (λ (z : X × Y × List ℕ). z.2) is) }

-- two lists that are nothing together
both_nil : (b c : List ℕ) → b ++ c ≡ [] → c ≡ []
both_nil [] c e = e
both_nil (x ∷ b) c e = absurd cc

module _ {X A : Type 0} (mk : X → List ℕ → A) (maker : IsMaker mk) {r : List ℕ → Result A Fault} {P : X → List ℕ → Type 0} (g : Agrees mk r P) where
  same_ok : (a b : A) → ◌≡◌ {A = Result A Fault} (Ok a) (Ok b) → a ≡ b
  same_ok a b is = cc

  -- two readings of one front are one
  pub one_front : (x y : X) (b c d e : List ℕ) → P x b → P y c → b ++ d ≡ c ++ e → (x ≡ y) × (b ≡ c) × (d ≡ e)
  one_front x y b c d e p q same =
      let made = same_ok (mk x d) (mk y e) (sym (g.complete x b d p) ∙ ap r same ∙ g.complete y c e q) in
      let parts = maker.apart x y d e made in
      (parts.0, append_cancel_right b c d (same ∙ ap (λ z. c ++ z) (sym parts.1)), parts.1)

  -- nothing is spelled where a rule is broken, however the bytes go on
  pub none_spelled : (bytes more used rest : List ℕ) (e : Reason) (x : X) → r bytes ≡ Err (Bad e) → P x used → bytes ++ more ≡ used ++ rest → ⊥
  none_spelled bytes more used rest e x broken p same = clash (sym (g.complete x used rest p) ∙ ap r (sym same) ∙ g.steady bytes more e broken)
    where
      clash : {a : A} {d : Fault} → ◌≡◌ {A = Result A Fault} (Ok a) (Err d) → ⊥
      clash is = cc

  -- a front of a spelling that is not all of it is not whole
  pub short_front : (front back : List ℕ) (x : X) → P x (front ++ back) → back ≢ [] → r front ≡ Err Short
  short_front front back x p some = by_read (r front) refl
    where
      whole : front ++ back ≡ (front ++ back) ++ []
      whole = sym (append-nil (front ++ back))

      by_fault : (d : Fault) → r front ≡ Err d → r front ≡ Err Short
      by_fault Short is = is
      by_fault (Bad e) is = absurd (none_spelled front back (front ++ back) [] e x is p whole)

      by_read : (z : Result A Fault) → r front ≡ z → r front ≡ Err Short
      by_read (Err d) is = by_fault d is
      by_read (Ok a) is =
          let s = g.sound front a is in
          let one = one_front s.0 x s.1 (front ++ back) (s.2 ++ back) [] s.5 p (sym (append_assoc s.1 s.2 back) ∙ ap (λ z. z ++ back) (sym s.4) ∙ whole) in
          absurd (some (both_nil s.2 back one.2))
