-- Slots: which a path has, and what they say of paths.
use Rattle.std.proofs.Common.{◌≡◌, refl, sym, ap, ◌∙◌, ℕ, zero, suc, ◌+◌, ◌-◌, ◌*◌, ◌/◌, ◌%◌, ◌<◌, Bool, true, false, List, [], ◌∷◌, ◌++◌, length, get_or, slice_get, Option, None, Some, inl, inr, arith}
use Rattle.std.specs.Bool.{OnTrue}
use Rattle.std.specs.Borrow.{Bor}
use Rattle.std.specs.BTreeMap as tree
use Rattle.std.specs.BTreeMap.{BTreeMap}
use Rattle.std.specs.Cmp.Lexicographic.{slice_cmp, bytes_decides}
use Rattle.std.specs.Map.{lookup}
use Rattle.std.specs.Option.{option_map}
use Rattle.std.specs.Ordering.{nat_cmp, ordering_then}
use Rattle.std.specs.Str.{bytes_eq}
use Rattle.std.proofs.lemmas.Option.{none-some, slice_get_read, slice_get-map}
use Rattle.idl_names.specs.Paths.{Inside, AreFound, AreMarked, MarksSlot, inside_of, number_at, paths_of, slot_of, within}
use Rattle.idl_names.proofs.PathLaws.{at_end, path_at}
use Rattle.idl_names.proofs.PathLookups.{told}

-- the slot of a path, by bytes that were read
pub slot_is : (outer : ℕ) (name bytes : List ℕ) (first middle last_but_one last : ℕ) → bytes ≡ name → first ≡ get_or bytes 0 0 → middle ≡ get_or bytes (length bytes / 2) 0
    → last_but_one ≡ get_or bytes (length bytes - 2) 0 → last ≡ get_or bytes (length bytes - 1) 0
    → (outer * 1021 + first * 37 + middle * 131 + last_but_one * 61 + last * 7) % 32768 ≡ slot_of (outer, name)
unfolding slot_of
slot_is outer name bytes first middle last_but_one last same one two three four =
    let a : first ≡ get_or name 0 0 = one ∙ ap (λ (xs : List ℕ). get_or xs 0 0) same in
    let b : middle ≡ get_or name (length name / 2) 0 = two ∙ ap (λ (xs : List ℕ). get_or xs (length xs / 2) 0) same in
    let d : last_but_one ≡ get_or name (length name - 2) 0 = three ∙ ap (λ (xs : List ℕ). get_or xs (length xs - 2) 0) same in
    let e : last ≡ get_or name (length name - 1) 0 = four ∙ ap (λ (xs : List ℕ). get_or xs (length xs - 1) 0) same in
    λ i. (outer * 1021 + a i * 37 + b i * 131 + d i * 61 + e i * 7) % 32768

-- whether a path that was read is told so
pub told_so : (items : List (ℕ × Bor (List ℕ))) (i : ℕ) (m : ℕ × Bor (List ℕ)) (outer : ℕ) (name : List ℕ) (b : Bool) → i < length items → m ≡ get_or items i m → m.0 ≡ outer
    → b ≡ bytes_eq m.1.now name → OnTrue b (slice_get (inside_of items) i ≡ Some (outer, name))
told_so items i m outer name false low at same is = tt
told_so items i m outer name true low at same is =
    let there : slice_get items i ≡ Some m = slice_get_read items (length items) i m refl low at in
    let names : m.1.now ≡ name = (bytes_decides m.1.now name).0 (sym is) in
    slice_get-map (λ z. (z.0, z.1.now)) items i ∙ ap (option_map (λ z. (z.0, z.1.now))) there ∙ (λ j. Some (same j, names j))

-- where there is no path yet
pub nothing_found : (items : List (ℕ × Bor (List ℕ))) (numbers : BTreeMap (ℕ × Bor (List ℕ)) ℕ) (slots : List ℕ) → items ≡ [] → tree.IsEmpty numbers → AreFound (inside_of items) numbers slots
nothing_found items numbers slots none empty =
    record {
      numbered =
          record {
            rise = λ n m at. absurd (no_path n m at);
            known = λ n m at. absurd (no_path n m at);
            each = λ m k at.
                absurd (none-some k (sym (ap (λ es. lookup (tree.is_at (λ (key : ℕ × Bor (List ℕ)). ordering_then (nat_cmp m.0 key.0) (slice_cmp nat_cmp m.1 key.1.now))) es) empty) ∙ at));
          };
      marked = λ n m at. absurd (no_path n m at);
    }
  where
    no_path : (n : ℕ) (m : Inside) → slice_get (inside_of items) n ≡ Some m → ⊥
    no_path n m at = none-some m (sym (ap (λ (xs : List (ℕ × Bor (List ℕ))). slice_get (inside_of xs) n) none) ∙ at)

module _ (ms : List Inside) (numbers : BTreeMap (ℕ × Bor (List ℕ)) ℕ) (slots : List ℕ) (are : AreFound ms numbers slots) where
  -- where no path is of a slot, the map has none of that
  pub none_there : (m : Inside) → get_or slots (slot_of m) 1 ≡ 0 → number_at numbers m ≡ None
  none_there m none = by_number (number_at numbers m) refl
    where
      by_number : (o : Option ℕ) → number_at numbers m ≡ o → number_at numbers m ≡ None
      by_number None at = at
      by_number (Some k) at = let one = are.numbered.each m k at in absurd (are.marked one.0 m one.2 none)

  -- a path that is told so is there
  pub told_there : (m : Inside) (number : ℕ) → 0 < number → slice_get ms (number - 1) ≡ Some m → slice_get (paths_of ms) number ≡ Some (within (paths_of ms) m)
  told_there m zero low there = absurd (omega (arith, low))
  told_there m (suc n) low there =
      let same : suc n - 1 ≡ n = omega arith in
      path_at ms (told ms numbers are.numbered) n m (ap (slice_get ms) (sym same) ∙ there)

-- a path more, whose slot is marked
pub one_marked : (ms : List Inside) (m : Inside) (old new : List ℕ) → AreMarked ms old → MarksSlot old (slot_of m) new → AreMarked (ms ++ m ∷ []) new
one_marked ms m old new are given = λ n o at none.
    elim (at_end ms m n o at) [
      | inl there ↦ are n o there (given (slot_of o) none).0
      | inr last ↦ (given (slot_of o) none).1 (ap slot_of last.1)
    ]
