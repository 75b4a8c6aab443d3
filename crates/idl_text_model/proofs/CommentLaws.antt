-- A comment ends at the first `*/`.
use Rattle.std.proofs.Common.{◌≡◌, ℕ, true, false, ◌==◌, List, [], ◌∷◌, ◌++◌, take, drop, Option, None, Some, refl, sym, ap, subst, ◌∙◌, codes}
use Rattle.std.proofs.lemmas.Bool.{and_right, or_parts, or_from}
use Rattle.std.proofs.lemmas.Slice.Eq.{bytes_eq-Decides}
use Rattle.std.specs.Option.{option_map}
use Rattle.std.specs.Str.{bytes_eq}
use Rattle.idl_text_model.proofs.Choices.{chosen}
use Rattle.idl_text_model.specs.Pieces.{closes_comment}
use Rattle.idl_text_model.specs.Readings.{comment_at}
use Rattle.uno_model.proofs.Options.{same_some, none_some}

-- one byte is no `*/`, and neither is one in front of a `*`
one_open : (c : ℕ) → bytes_eq (c ∷ []) (codes "*/") ≡ false
one_open c = and_right (c == 42) false refl

star_open : (c : ℕ) → bytes_eq (c ∷ 42 ∷ []) (codes "*/") ≡ false
star_open c = and_right (c == 42) false refl

pub comment_back : (body rest : List ℕ) → closes_comment body ≡ false → comment_at (body ++ (42 ∷ 47 ∷ rest)) ≡ Some (body, rest)
unfolding comment_at closes_comment
comment_back [] rest none = refl
comment_back (c ∷ []) rest none = rw (star_open c) refl
comment_back (c ∷ d ∷ ds) rest none =
    let parts = or_parts (bytes_eq (c ∷ d ∷ []) (codes "*/")) (closes_comment (d ∷ ds)) none in
    rw parts.0 (ap (option_map (λ x. (c ∷ x.0, x.1))) (comment_back (d ∷ ds) rest parts.1))

-- ---- what was read

-- the text has the comment, its end and what is behind it
abbrev IsComment : (text body rest : List ℕ) → Type 0
IsComment text body rest = (text ≡ body ++ (42 ∷ 47 ∷ rest)) × (closes_comment body ≡ false)

at_end : (c : ℕ) (cs body rest : List ℕ) → bytes_eq (take 2 (c ∷ cs)) (codes "*/") ≡ true → ◌≡◌ {A = List ℕ × List ℕ} ([], drop 1 cs) (body, rest)
    → IsComment (c ∷ cs) body rest
unfolding closes_comment
at_end c [] body rest here e = let same : c ∷ [] ≡ codes "*/" = (bytes_eq-Decides (c ∷ []) (codes "*/")).0 here in let bad : ⊥ = cc in absurd bad
at_end c (d ∷ ds) body rest here e =
    let same : c ∷ d ∷ [] ≡ codes "*/" = (bytes_eq-Decides (c ∷ d ∷ []) (codes "*/")).0 here in
    let empty : [] ≡ body = ap (λ (x : List ℕ × List ℕ). x.0) e in
    let left : ds ≡ rest = ap (λ (x : List ℕ × List ℕ). x.1) e in
    let text : c ∷ d ∷ ds ≡ 42 ∷ 47 ∷ rest = cc in
    (text ∙ ap (λ b. b ++ (42 ∷ 47 ∷ rest)) empty, ap closes_comment (sym empty))

still_open : (c : ℕ) (cs body rest : List ℕ) → bytes_eq (take 2 (c ∷ cs)) (codes "*/") ≡ false → IsComment cs body rest → IsComment (c ∷ cs) (c ∷ body) rest
unfolding closes_comment
still_open c cs [] rest here inner = (ap (λ x. c ∷ x) inner.0, or_from _ false (one_open c) refl)
still_open c cs (d ∷ ds) rest here inner =
    let two : bytes_eq (take 2 (c ∷ (d ∷ ds) ++ (42 ∷ 47 ∷ rest))) (codes "*/") ≡ false =
    subst (λ x. bytes_eq (take 2 (c ∷ x)) (codes "*/") ≡ false) inner.0 here in
    (ap (λ x. c ∷ x) inner.0, or_from (bytes_eq (c ∷ d ∷ []) (codes "*/")) (closes_comment (d ∷ ds)) two inner.1)

behind_first : (c : ℕ) (cs body rest : List ℕ) (o : Option (List ℕ × List ℕ)) → bytes_eq (take 2 (c ∷ cs)) (codes "*/") ≡ false
    → ((b r : List ℕ) → o ≡ Some (b, r) → IsComment cs b r)
    → option_map {U = List ℕ × List ℕ} (λ (x : List ℕ × List ℕ). (c ∷ x.0, x.1)) o ≡ Some (body, rest) → IsComment (c ∷ cs) body rest
behind_first c cs body rest None here inner e = absurd (none_some e)
behind_first c cs body rest (Some x) here inner e =
    let same : ◌≡◌ {A = List ℕ × List ℕ} (c ∷ x.0, x.1) (body, rest) = same_some e in
    let comment = still_open c cs x.0 x.1 here (inner x.0 x.1 refl) in
    subst (λ (y : List ℕ × List ℕ). IsComment (c ∷ cs) y.0 y.1) same comment

pub comment_said : (text body rest : List ℕ) → comment_at text ≡ Some (body, rest) → IsComment text body rest
unfolding comment_at
comment_said [] body rest read = absurd (none_some read)
comment_said (c ∷ cs) body rest read =
    chosen (bytes_eq (take 2 (c ∷ cs)) (codes "*/")) _ _ (body, rest) read (λ here e. at_end c cs body rest here (same_some e))
    (λ here e. behind_first c cs body rest (comment_at cs) here (comment_said cs) e)
