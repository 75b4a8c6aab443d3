-- The last of a list, changed; and the words of a line in another order.
use Rattle.std.proofs.Common.{◌≡◌, ◌<◌, ◌-◌, arith, length, get_or, set, subst, ℕ, Bool, true, false, List, [], ◌∷◌, ◌++◌, map, Option, None, Some, Result, Ok, Err, refl, sym, ap, ◌∙◌, codes, if◌then◌else◌}
use Rattle.std.specs.Str.{bytes_eq}
use Rattle.std.proofs.lemmas.Slice.Eq.{bytes_eq-Decides}
use Rattle.uno_model.specs.Entities.{Member, Base, interface, attribute, method, Constructor}
use Rattle.registry_reading_model.specs.Bodies.{last_changed, last_of, all_but_last, pushed, interface_line, with_members, attribute_of, method_of, oneway_of, get_raises_added, set_raises_added, param_added, raises_added, constructor_line, given_added, rest_added, raised_added}
use Rattle.registry_reading_model.specs.Changes.{Change}
use Rattle.registry_reading_model.specs.Words.{on_some}
use Rattle.std.specs.Prelude.{IfOk}
use Rattle.registry_reading.specs.Taken.{IsTaken}
use Rattle.registry_reading.specs.Members.{member_line, added_under, added_to}

-- what is made of the last of a list, seen as what it is
module _ {X Y : Type 0} (g : X → Y) (f : Y → Option Y) where
  pub none_left : (xs : List X) (len : ℕ) → len ≡ length xs → (0 < len → false ≡ true) → last_changed f (map g xs) ≡ None
  unfolding last_changed
  none_left [] len long none = refl
  none_left (y ∷ ys) len long none = let clash : false ≡ true = none (omega (arith, long)) in absurd cc

  last_set : (y : X) (ys : List X) (z d : X) → (last_of (g y) (map g ys) ≡ g (get_or (y ∷ ys) (length ys) d)) × (map g (set (y ∷ ys) (length ys) z) ≡ all_but_last (g y) (map g ys) ++ g z ∷ [])
  last_set y [] z d = (refl, refl)
  last_set y (w ∷ ys) z d = let rest = last_set w ys z d in (rest.0, ap (λ l. g y ∷ l) rest.1)

  at_last : {E : Type 0} (y : X) (ys : List X) (x z : X) (r : Result Bool E) → x ≡ get_or (y ∷ ys) (length ys) x → IfOk r (λ taken. IsTaken taken (g z) (f (g x)))
      → IfOk r (λ taken. IsTaken taken (map g (set (y ∷ ys) (length ys) z)) (last_changed f (map g (y ∷ ys))))
  unfolding last_changed
  at_last y ys x z (Err e) is taken = tt
  at_last y ys x z (Ok true) is taken =
      let last = last_set y ys z x in
      ap (λ l. on_some (f l) (λ w. Some (all_but_last (g y) (map g ys) ++ w ∷ []))) (last.0 ∙ ap g (sym is))
      ∙ ap (λ o. on_some o (λ w. Some (all_but_last (g y) (map g ys) ++ w ∷ []))) taken ∙ ap Some (sym last.1)
  at_last y ys x z (Ok false) is taken =
      let last = last_set y ys z x in
      ap (λ l. on_some (f l) (λ w. Some (all_but_last (g y) (map g ys) ++ w ∷ []))) (last.0 ∙ ap g (sym is))
      ∙ ap (λ o. on_some o (λ w. Some (all_but_last (g y) (map g ys) ++ w ∷ []))) taken

  -- what is made of the last one stands at its place
  pub last_taken : {E : Type 0} (xs : List X) (len : ℕ) (x z : X) (r : Result Bool E) → len ≡ length xs → 0 < len → x ≡ get_or xs (len - 1) x → IfOk r (λ taken. IsTaken taken (g z) (f (g x)))
      → IfOk r (λ taken. IsTaken taken (map g (set xs (len - 1) z)) (last_changed f (map g xs)))
  last_taken [] len x z r long some is taken = let bad : ⊥ = omega (arith, long) in absurd bad
  last_taken (y ∷ ys) len x z r long some is taken =
      let here : len - 1 ≡ length ys = omega (arith, long) in
      subst (λ n. IfOk r (λ taken. IsTaken taken (map g (set (y ∷ ys) n z)) (last_changed f (map g (y ∷ ys))))) (sym here)
      (at_last y ys x z r (is ∙ ap (λ n. get_or (y ∷ ys) n x) here) taken)

pub differs : (word w : List ℕ) → (word ≡ w → ⊥) → bytes_eq word w ≡ false
differs word w other = by_test (bytes_eq word w) refl
  where
    by_test : (b : Bool) → bytes_eq word w ≡ b → bytes_eq word w ≡ false
    by_test true same = absurd (other ((bytes_eq-Decides word w).0 same))
    by_test false none = none

-- ---- the words of a line of an interface, in the order in which the code asks them

nothing_under : {X : Type 0} (f : X → Option X) → ((x : X) → f x ≡ None) → (xs : List X) → last_changed f xs ≡ None
unfolding last_changed
nothing_under f none [] = refl
nothing_under f none (x ∷ xs) = ap (λ o. on_some o (λ y. Some (all_but_last x xs ++ y ∷ []))) (none (last_of x xs))

pub behind_bases : (c : Change) (bases : List Base) (members : List Member) (word text : List ℕ) → bytes_eq word (codes "base") ≡ false → bytes_eq word (codes "optional") ≡ false
    → interface_line c bases members word text ≡ with_members bases (member_line c members word text)
unfolding interface_line member_line added_under
behind_bases c bases members word text no_base no_optional = rw (no_base, no_optional) (first (bytes_eq word (codes "attribute")) refl)
  where
    At : List ℕ → Type 0
    At w =
        (
        if bytes_eq w (codes "attribute") then with_members bases (pushed members (on_some (attribute_of c text) (λ a. Some (attribute a))))
        else (if bytes_eq w (codes "getraises") then with_members bases (last_changed (get_raises_added text) members)
        else (if bytes_eq w (codes "setraises") then with_members bases (last_changed (set_raises_added text) members)
        else (if bytes_eq w (codes "method") then with_members bases (pushed members (on_some (method_of c text) (λ m. Some (method m))))
        else (if bytes_eq w (codes "oneway") then with_members bases (pushed members (on_some (oneway_of c text) (λ m. Some (method m))))
        else (if bytes_eq w (codes "param") then with_members bases (last_changed (param_added c text) members)
        else (if bytes_eq w (codes "raises") then with_members bases (last_changed (raises_added text) members)
        else None))))))
        )
        ≡ with_members bases (member_line c members w text)

    is : (w : List ℕ) → bytes_eq word w ≡ true → At w → At word
    is w same at = subst At (sym ((bytes_eq-Decides word w).0 same)) at

    none : bytes_eq word (codes "getraises") ≡ false → bytes_eq word (codes "setraises") ≡ false → bytes_eq word (codes "param") ≡ false → bytes_eq word (codes "raises") ≡ false
        → (m : Member) → added_under c word text m ≡ None
    none g s p r m = rw (g, s, p, r) refl

    last : (b : Bool) → bytes_eq word (codes "raises") ≡ b → bytes_eq word (codes "attribute") ≡ false → bytes_eq word (codes "getraises") ≡ false → bytes_eq word (codes "setraises") ≡ false
        → bytes_eq word (codes "method") ≡ false → bytes_eq word (codes "oneway") ≡ false → bytes_eq word (codes "param") ≡ false → At word
    last true same a g s m o p = is (codes "raises") same refl
    last false other a g s m o p = rw (a, g, s, m, o, p, other) (ap (with_members bases) (sym (nothing_under (added_under c word text) (none g s p other) members)))

    sixth : (b : Bool) → bytes_eq word (codes "param") ≡ b → bytes_eq word (codes "attribute") ≡ false → bytes_eq word (codes "getraises") ≡ false → bytes_eq word (codes "setraises") ≡ false
        → bytes_eq word (codes "method") ≡ false → bytes_eq word (codes "oneway") ≡ false → At word
    sixth true same a g s m o = is (codes "param") same refl
    sixth false other a g s m o = last (bytes_eq word (codes "raises")) refl a g s m o other

    fifth : (b : Bool) → bytes_eq word (codes "oneway") ≡ b → bytes_eq word (codes "attribute") ≡ false → bytes_eq word (codes "getraises") ≡ false → bytes_eq word (codes "setraises") ≡ false
        → bytes_eq word (codes "method") ≡ false → At word
    fifth true same a g s m = is (codes "oneway") same refl
    fifth false other a g s m = sixth (bytes_eq word (codes "param")) refl a g s m other

    fourth : (b : Bool) → bytes_eq word (codes "method") ≡ b → bytes_eq word (codes "attribute") ≡ false → bytes_eq word (codes "getraises") ≡ false → bytes_eq word (codes "setraises") ≡ false
        → At word
    fourth true same a g s = is (codes "method") same refl
    fourth false other a g s = fifth (bytes_eq word (codes "oneway")) refl a g s other

    third : (b : Bool) → bytes_eq word (codes "setraises") ≡ b → bytes_eq word (codes "attribute") ≡ false → bytes_eq word (codes "getraises") ≡ false → At word
    third true same a g = is (codes "setraises") same refl
    third false other a g = fourth (bytes_eq word (codes "method")) refl a g other

    second : (b : Bool) → bytes_eq word (codes "getraises") ≡ b → bytes_eq word (codes "attribute") ≡ false → At word
    second true same a = is (codes "getraises") same refl
    second false other a = third (bytes_eq word (codes "setraises")) refl a other

    first : (b : Bool) → bytes_eq word (codes "attribute") ≡ b → At word
    first true same = is (codes "attribute") same refl
    first false other = second (bytes_eq word (codes "getraises")) refl other

-- members that are taken are those of the interface
pub taken_rest : {E : Type 0} (c : Change) (bases : List Base) (members new : List Member) (word text : List ℕ) (r : Result Bool E) → (word ≡ codes "base" → ⊥) → (word ≡ codes "optional" → ⊥)
    → IfOk r (λ taken. IsTaken taken new (member_line c members word text)) → IfOk r (λ taken. IsTaken taken (interface bases new) (interface_line c bases members word text))
taken_rest c bases members new word text (Err e) no_base no_optional is = tt
taken_rest c bases members new word text (Ok true) no_base no_optional is =
    behind_bases c bases members word text (differs word (codes "base") no_base) (differs word (codes "optional") no_optional) ∙ ap (with_members bases) is
taken_rest c bases members new word text (Ok false) no_base no_optional is =
    behind_bases c bases members word text (differs word (codes "base") no_base) (differs word (codes "optional") no_optional) ∙ ap (with_members bases) is

-- ---- the words of a line of a service

one_of : (c : Change) (constructors : List Constructor) (word text : List ℕ) → bytes_eq word (codes "constructor") ≡ false
    → constructor_line c constructors word text ≡ last_changed (added_to c word text) constructors
unfolding constructor_line added_to
one_of c constructors word text other = rw other (first (bytes_eq word (codes "param")) refl)
  where
    At : List ℕ → Type 0
    At w =
        (
        if bytes_eq w (codes "param") then last_changed (given_added c text) constructors
        else (if bytes_eq w (codes "rest") then last_changed (rest_added text) constructors
        else (if bytes_eq w (codes "raises") then last_changed (raised_added text) constructors
        else None))
        )
        ≡ last_changed (added_to c w text) constructors

    is : (w : List ℕ) → bytes_eq word w ≡ true → At w → At word
    is w same at = subst At (sym ((bytes_eq-Decides word w).0 same)) at

    none : bytes_eq word (codes "param") ≡ false → bytes_eq word (codes "rest") ≡ false → bytes_eq word (codes "raises") ≡ false → (k : Constructor) → added_to c word text k ≡ None
    none p s r k = rw (p, s, r) refl

    third : (b : Bool) → bytes_eq word (codes "raises") ≡ b → bytes_eq word (codes "param") ≡ false → bytes_eq word (codes "rest") ≡ false → At word
    third true same p s = is (codes "raises") same refl
    third false r p s = rw (p, s, r) (sym (nothing_under (added_to c word text) (none p s r) constructors))

    second : (b : Bool) → bytes_eq word (codes "rest") ≡ b → bytes_eq word (codes "param") ≡ false → At word
    second true same p = is (codes "rest") same refl
    second false s p = third (bytes_eq word (codes "raises")) refl p s

    first : (b : Bool) → bytes_eq word (codes "param") ≡ b → At word
    first true same = is (codes "param") same refl
    first false p = second (bytes_eq word (codes "rest")) refl p

pub behind_constructor : {E : Type 0} (c : Change) (constructors new : List Constructor) (word text : List ℕ) (r : Result Bool E) → (word ≡ codes "constructor" → ⊥)
    → IfOk r (λ taken. IsTaken taken new (last_changed (added_to c word text) constructors)) → IfOk r (λ taken. IsTaken taken new (constructor_line c constructors word text))
behind_constructor c constructors new word text (Err e) other is = tt
behind_constructor c constructors new word text (Ok true) other is = one_of c constructors word text (differs word (codes "constructor") other) ∙ is
behind_constructor c constructors new word text (Ok false) other is = one_of c constructors word text (differs word (codes "constructor") other) ∙ is
