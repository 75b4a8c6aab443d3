-- What the words of `pair` and `drill` name is one.
use Rattle.std.proofs.Common.{◌≡◌, ℕ, Option, None, Some, subst}
use Rattle.command_words.specs.Forms.{Order, drill, pair}
use Rattle.command_words.specs.Names.{Text}

pub same_pair : (t a b u v w : Text) (s z : Option ℕ) (c d : ℕ) (n : Option ℕ) (P : Text → Text → Text → Option ℕ → ℕ → Type 0) → ◌≡◌ {A = Option Order} (Some (pair t a b s c n)) (Some (pair u v w z d None))
    → P t a b s c → P u v w z d
same_pair t a b u v w s z c d n P is p =
    let types : t ≡ u = cc in
    let first : a ≡ v = cc in
    let second : b ≡ w = cc in
    let seeds : s ≡ z = cc in
    let cuts : c ≡ d = cc in
    subst (λ x. P u v w z x) cuts (subst (λ x. P u v w x c) seeds (subst (λ x. P u v x s c) second (subst (λ x. P u x b s c) first (subst (λ x. P x a b s c) types p))))

pub same_drill : (n m s z : ℕ) (P : ℕ → ℕ → Type 0) → ◌≡◌ {A = Option Order} (Some (drill n s)) (Some (drill m z)) → P n s → P m z
same_drill n m s z P is p =
    let rounds : n ≡ m = cc in
    let seeds : s ≡ z = cc in
    subst (λ x. P m x) seeds (subst (λ x. P x s) rounds p)
