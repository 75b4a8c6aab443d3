-- How a piece is cut: more bytes behind it change nothing where it is cut, and bytes that end nothing may stand before it.
use Rattle.std.proofs.Common.{◌≡◌, refl, sym, ap, subst, ◌∙◌, ◌⊎◌, inl, inr, ℕ, zero, suc, ◌+◌, ◌-◌, ◌<◌, ◌≤◌, Bool, true, false, List, [], ◌∷◌, ◌++◌, length, take, drop, arith}
use Rattle.std.proofs.lemmas.Bool.{cases_lt}
use Rattle.std.proofs.lemmas.List.{append_assoc, append-nil, length-take, take-append-le, take_all, drop-append-le}
use Rattle.bridge_model.specs.Answers.{cut}
use Rattle.bridge_model.specs.Feeding.{ends_part}
use Rattle.bridge_laws.proofs.PieceLaws.{no_end_before}

-- a byte more is held
one_held : (held : List ℕ) (b : ℕ) (bytes : List ℕ) → (held ++ b ∷ []) ++ bytes ≡ held ++ b ∷ bytes
one_held held b bytes = append_assoc held (b ∷ []) bytes

cut_ends : (held : List ℕ) (b : ℕ) (bytes : List ℕ) → ends_part (held ++ b ∷ []) ≡ true → cut held (b ∷ bytes) ≡ b ∷ []
unfolding cut
cut_ends held b bytes is = rw is refl

cut_goes : (held : List ℕ) (b : ℕ) (bytes : List ℕ) → ends_part (held ++ b ∷ []) ≡ false → cut held (b ∷ bytes) ≡ b ∷ cut (held ++ b ∷ []) bytes
unfolding cut
cut_goes held b bytes is = rw is refl

-- ---- bytes that end nothing stand before

pub cut_behind : (held part rest : List ℕ) → ends_part (held ++ part) ≡ false → cut held (part ++ rest) ≡ part ++ cut (held ++ part) rest
cut_behind held [] rest is = ap (λ z. cut z rest) (sym (append-nil held))
cut_behind held (b ∷ part) rest is =
    let all = subst (λ z. ends_part z ≡ false) (sym (one_held held b part)) is in
    cut_goes held b (part ++ rest) (no_end_before (held ++ b ∷ []) part all)
    ∙ ap (λ z. b ∷ z) (cut_behind (held ++ b ∷ []) part rest all ∙ ap (λ z. part ++ cut z rest) (one_held held b part))

take_behind : (n m : ℕ) (part rest : List ℕ) → n ≡ length part + m → take n (part ++ rest) ≡ part ++ take m rest
take_behind n m [] rest is = let same : n ≡ m = omega arith in ap (λ k. take k rest) same
take_behind zero m (b ∷ part) rest is = absurd (omega arith)
take_behind (suc n) m (b ∷ part) rest is = let less : n ≡ length part + m = omega arith in ap (λ z. b ∷ z) (take_behind n m part rest less)

-- the same within a limit
pub cut_within : (held part rest : List ℕ) (n m : ℕ) → ends_part (held ++ part) ≡ false → n ≡ length part + m
    → cut held (take n (part ++ rest)) ≡ part ++ cut (held ++ part) (take m rest)
cut_within held part rest n m is sum = ap (cut held) (take_behind n m part rest sum) ∙ cut_behind held part (take m rest) is

-- bytes that end nothing are not cut
pub cut_none : (held part : List ℕ) (n : ℕ) → ends_part (held ++ part) ≡ false → length part ≤ n → cut held (take n part) ≡ part
unfolding cut
cut_none held part n is fits =
    ap (cut held) (take_all n part fits ∙ sym (append-nil part)) ∙ (cut_behind held part [] is ∙ append-nil part)

-- ---- more stands behind

-- the piece is too short to be cut, and ends nothing
pub record IsShort (n : ℕ) (held piece : List ℕ) : Type 0 where
  pub all : cut held (take n piece) ≡ piece
  pub ends_nothing : ends_part (held ++ piece) ≡ false
  pub fits : length piece < n

cut_more : (held : List ℕ) (b : ℕ) (piece more : List ℕ) → (cut held (b ∷ (piece ++ more)) ≡ cut held (b ∷ piece)) ⊎ (ends_part (held ++ b ∷ piece) ≡ false)
cut_more held b [] more = by_end (ends_part (held ++ b ∷ [])) refl
  where
    by_end : (e : Bool) → ends_part (held ++ b ∷ []) ≡ e → (cut held (b ∷ more) ≡ cut held (b ∷ [])) ⊎ (ends_part (held ++ b ∷ []) ≡ false)
    by_end true is = inl (cut_ends held b more is ∙ sym (cut_ends held b [] is))
    by_end false is = inr is
cut_more held b (c ∷ piece) more = by_end (cut_more (held ++ b ∷ []) c piece more) (ends_part (held ++ b ∷ [])) refl
  where
    by_end : (cut (held ++ b ∷ []) (c ∷ (piece ++ more)) ≡ cut (held ++ b ∷ []) (c ∷ piece)) ⊎ (ends_part ((held ++ b ∷ []) ++ c ∷ piece) ≡ false) → (e : Bool)
        → ends_part (held ++ b ∷ []) ≡ e → (cut held (b ∷ (c ∷ (piece ++ more))) ≡ cut held (b ∷ (c ∷ piece))) ⊎ (ends_part (held ++ b ∷ (c ∷ piece)) ≡ false)
    by_end later true is = inl (cut_ends held b (c ∷ (piece ++ more)) is ∙ sym (cut_ends held b (c ∷ piece) is))
    by_end (inl same) false is = inl (cut_goes held b (c ∷ (piece ++ more)) is ∙ (ap (λ z. b ∷ z) same ∙ sym (cut_goes held b (c ∷ piece) is)))
    by_end (inr ends_nothing) false is = inr (subst (λ z. ends_part z ≡ false) (one_held held b (c ∷ piece)) ends_nothing)

-- what is cut off stays the same, or the piece is too short
pub cut_or_short : (n : ℕ) (held : List ℕ) (b : ℕ) (piece more : List ℕ)
    → (cut held (take n (b ∷ (piece ++ more))) ≡ cut held (take n (b ∷ piece))) ⊎ IsShort n held (b ∷ piece)
cut_or_short n held b piece more = by_limit (cases_lt (length (b ∷ piece)) n)
  where
    by_cut : length (b ∷ piece) < n → (m : ℕ) → n ≡ length (b ∷ piece) + m → (cut held (b ∷ (piece ++ take m more)) ≡ cut held (b ∷ piece)) ⊎ (ends_part (held ++ b ∷ piece) ≡ false)
        → (cut held (take n (b ∷ (piece ++ more))) ≡ cut held (take n (b ∷ piece))) ⊎ IsShort n held (b ∷ piece)
    by_cut fits m sum (inl same) =
        let within : length (b ∷ piece) ≤ n = omega arith in
        inl (ap (cut held) (take_behind n m (b ∷ piece) more sum) ∙ (same ∙ ap (cut held) (sym (take_all n (b ∷ piece) within))))
    by_cut fits m sum (inr ends_nothing) =
        let within : length (b ∷ piece) ≤ n = omega arith in
        inr (record { all = cut_none held (b ∷ piece) n ends_nothing within; ends_nothing = ends_nothing; fits = fits })

    by_limit : (length (b ∷ piece) < n) ⊎ (n ≤ length (b ∷ piece)) → (cut held (take n (b ∷ (piece ++ more))) ≡ cut held (take n (b ∷ piece))) ⊎ IsShort n held (b ∷ piece)
    by_limit (inl fits) = let sum : n ≡ length (b ∷ piece) + (n - length (b ∷ piece)) = omega arith in by_cut fits (n - length (b ∷ piece)) sum (cut_more held b piece (take (n - length (b ∷ piece)) more))
    by_limit (inr over) = inl (ap (cut held) (take-append-le n (b ∷ piece) more over))

-- ---- what is left

cut_shorter : (held bytes : List ℕ) → length (cut held bytes) ≤ length bytes
unfolding cut
cut_shorter held [] = omega arith
cut_shorter held (b ∷ bytes) = by_end (cut_shorter (held ++ b ∷ []) bytes) (ends_part (held ++ b ∷ [])) refl
  where
    by_end : length (cut (held ++ b ∷ []) bytes) ≤ length bytes → (e : Bool) → ends_part (held ++ b ∷ []) ≡ e → length (cut held (b ∷ bytes)) ≤ length (b ∷ bytes)
    by_end less true is = let one = ap length (cut_ends held b bytes is) in omega (arith, one)
    by_end less false is = let one = ap length (cut_goes held b bytes is) in omega (arith, one, less)

pub left_behind : (n : ℕ) (held piece more : List ℕ)
    → drop (length (cut held (take n piece))) (piece ++ more) ≡ drop (length (cut held (take n piece))) piece ++ more
left_behind n held piece more =
    let less = cut_shorter held (take n piece) in
    let taken = length-take n piece in
    let within : length (cut held (take n piece)) ≤ length piece = omega (arith, less, taken) in
    drop-append-le (length (cut held (take n piece))) piece more within

pub drop_parts : (a c rest : List ℕ) → drop (length (a ++ c)) (a ++ rest) ≡ drop (length c) rest
drop_parts [] c rest = refl
drop_parts (b ∷ a) c rest = drop_parts a c rest
