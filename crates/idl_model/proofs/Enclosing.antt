-- What stands between brackets, by how it is read and by how it is spelled.
use Rattle.std.proofs.Common.{◌≡◌, List, ◌++◌, refl, sym, ap, subst, ◌∙◌, append_assoc}
use Rattle.grammar_model.specs.Relations.{Bracketed, ◌&◌, ◌&>◌, ◌<&◌}

module _ {T : Type 0} where
  behind_two : (u a b c d : List T) (q s : List T) → u ≡ a ++ b → b ≡ c ++ d → d ≡ q ++ s → u ≡ (a ++ c) ++ (q ++ s)
  behind_two u a b c d q s e f g = rw (e, f, g) (simp append_assoc)

  before_two : (u p a c q s : List T) → u ≡ p ++ (q ++ s) → p ≡ a ++ c → u ≡ a ++ (c ++ (q ++ s))
  before_two u p a c q s e f = rw (e, f) (simp append_assoc)

  behind_three : (u a b c d e f x y q s : List T) → u ≡ a ++ b → b ≡ c ++ d → d ≡ e ++ f → e ≡ x ++ y → y ≡ q ++ s → u ≡ (a ++ (c ++ x)) ++ (q ++ (s ++ f))
  behind_three u a b c d e f x y q s h i j k l = rw (h, i, j, k, l) (simp append_assoc)

  before_three : (u p a b c x q r s f : List T) → u ≡ p ++ (q ++ r) → p ≡ a ++ b → b ≡ c ++ x → r ≡ s ++ f → u ≡ a ++ (c ++ ((x ++ (q ++ s)) ++ f))
  before_three u p a b c x q r s f h i j k = rw (h, i, j, k) (simp append_assoc)

-- an opening mark, what stands in it, and its closing mark
module _ {T O Z C : Type 0} (Mo : O → List T → Type 0) (R : Z → List T → Type 0) (Mc : C → List T → Type 0) where
  abbrev pub Enclosed : Z → List T → Type 0
  Enclosed = Mo &> R <& Mc

  pub to_enclosed : (z : Z) (u : List T) → Enclosed z u → (o : O) × Bracketed Mo (R z) Mc o u
  to_enclosed z u p =
      let w : O × Z = p.0 in
      let a = p.2 in
      let i = a.4 in
      let v : Z × C = i.0 in
      let b = i.2 in
      (w.0, (a.0, b.0, b.1, a.2 ∙ ap (λ k. a.0 ++ k) b.2, a.3, subst (λ k. R k b.0) (sym (p.1 ∙ i.1)) b.3, (v.1, b.4)))

  pub from_enclosed : (z : Z) (o : O) (u : List T) → Bracketed Mo (R z) Mc o u → Enclosed z u
  from_enclosed z o u p = ((o, z), refl, (p.0, p.1 ++ p.2, p.3, p.4, ((z, (p.6).0), refl, (p.1, p.2, refl, p.5, (p.6).1))))

  -- behind something
  module _ {K : Type 0} (P : K → List T → Type 0) where
    pub to_behind : (k : K) (z : Z) (u : List T) → (P & Enclosed) (k, z) u → Bracketed (P <& Mo) (R z) Mc k u
    to_behind k z u p =
        let e = to_enclosed z p.1 p.4 in
        let b = e.1 in
        (p.0 ++ b.0, b.1, b.2, behind_two u p.0 p.1 b.0 (b.1 ++ b.2) b.1 b.2 p.2 b.3 refl, ((k, e.0), refl, (p.0, b.0, refl, p.3, b.4)), b.5, b.6)

    pub from_behind : (k : K) (z : Z) (u : List T) → Bracketed (P <& Mo) (R z) Mc k u → (P & Enclosed) (k, z) u
    from_behind k z u p =
        let i = p.4 in
        let w : K × O = i.0 in
        let a = i.2 in (
          a.0,
          a.1 ++ (p.1 ++ p.2),
          before_two u p.0 a.0 a.1 p.1 p.2 p.3 a.2,
          subst (λ x. P x a.0) (sym i.1) a.3,
          from_enclosed z w.1 (a.1 ++ (p.1 ++ p.2)) (a.1, p.1, p.2, refl, a.4, p.5, p.6),
        )

  -- behind a word and something, and in front of a mark
  module _ {K I S : Type 0} (P : K → List T → Type 0) (Q : I → List T → Type 0) (Ms : S → List T → Type 0) where
    pub to_middle : (i : I) (z : Z) (u : List T) → (P &> Q & (Enclosed <& Ms)) (i, z) u → Bracketed (P &> (Q <& Mo)) (R z) (Mc & Ms) i u
    to_middle i z u p =
        let v : K × (I × Z) = p.0 in
        let a = p.2 in
        let both : (Q & (Enclosed <& Ms)) (i, z) a.1 = subst (λ x. (Q & (Enclosed <& Ms)) x a.1) (sym p.1) a.4 in
        let c = both.4 in
        let w : Z × S = c.0 in
        let d = c.2 in
        let e = to_enclosed w.0 d.0 d.3 in
        let b = e.1 in (
          a.0 ++ (both.0 ++ b.0),
          b.1,
          b.2 ++ d.1,
          behind_three u a.0 a.1 both.0 both.1 d.0 d.1 b.0 (b.1 ++ b.2) b.1 b.2 a.2 both.2 d.2 b.3 refl,
          ((v.0, i), refl, (a.0, both.0 ++ b.0, refl, a.3, ((i, e.0), refl, (both.0, b.0, refl, both.3, b.4)))),
          subst (λ k. R k b.1) (sym c.1) b.5,
          (((b.6).0, w.1), (b.2, d.1, refl, (b.6).1, d.4)),
        )

    pub from_middle : (i : I) (z : Z) (u : List T) → Bracketed (P &> (Q <& Mo)) (R z) (Mc & Ms) i u → (P &> Q & (Enclosed <& Ms)) (i, z) u
    from_middle i z u p =
        let g = p.4 in
        let v : K × I = g.0 in
        let a = g.2 in
        let h = a.4 in
        let w : I × O = h.0 in
        let c = h.2 in
        let m = (p.6).1 in
        let y : C × S = (p.6).0 in
        let inner = from_enclosed z w.1 (c.1 ++ (p.1 ++ m.0)) (c.1, p.1, m.0, refl, c.4, p.5, (y.0, m.3)) in (
          (v.0, (i, z)),
          refl,
          (
            a.0,
            c.0 ++ ((c.1 ++ (p.1 ++ m.0)) ++ m.1),
            before_three u p.0 a.0 a.1 c.0 c.1 p.1 p.2 m.0 m.1 p.3 a.2 c.2 m.2,
            a.3,
            (
              c.0,
              (c.1 ++ (p.1 ++ m.0)) ++ m.1,
              refl,
              subst (λ k. Q k c.0) (sym (g.1 ∙ h.1)) c.3,
              ((z, y.1), refl, (c.1 ++ (p.1 ++ m.0), m.1, refl, inner, m.4)),
            ),
          ),
        )
