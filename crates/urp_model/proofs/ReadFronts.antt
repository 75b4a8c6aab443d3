-- What a reader that agrees with a relation says of the thing that is spelled at the front of bytes.
use Rattle.std.proofs.Common.{◌≡◌, ℕ, ◌+◌, ◌-◌, ◌≤◌, List, ◌++◌, length, take, drop, Result, Ok, Err, refl, sym, ap, subst, ◌∙◌, arith, length-append}
use Rattle.std.proofs.lemmas.List.{take_at, drop_at}
use Rattle.urp_model.specs.Agreement.{Agrees, triple}
use Rattle.urp_model.specs.declared.fault.Fault.{Fault}

-- bytes are a front and what stands behind it
pub record IsFront (bytes used rest : List ℕ) : Type 0 where
  pub shorter : length rest ≤ length bytes
  pub count : length bytes - length rest ≡ length used
  pub front : take (length bytes - length rest) bytes ≡ used
  pub back : drop (length bytes - length rest) bytes ≡ rest

pub front_of : (bytes used rest : List ℕ) → bytes ≡ used ++ rest → IsFront bytes used rest
front_of bytes used rest is =
    let long : length bytes ≡ length used + length rest = ap length is ∙ length-append used rest in
    let count : length bytes - length rest ≡ length used = omega arith in
    record {
      shorter = omega arith;
      count = count;
      front = rw (count, is) (take_at used rest (length used) refl);
      back = rw (count, is) (drop_at used rest (length used) refl);
    }

module _ {X Y : Type 0} {r : List ℕ → Result (X × Y × List ℕ) Fault} {P : X × Y → List ℕ → Type 0} (g : Agrees triple r P) (bytes : List ℕ) where
  -- what was read is spelled by the bytes in front of those that are left
  pub record IsRead (x : X) (y : Y) (rest : List ℕ) : Type 0 where
    pub used : List ℕ
    pub front : IsFront bytes used rest
    pub spelled : P (x, y) used

  pub is_read : (x : X) (y : Y) (rest : List ℕ) → r bytes ≡ Ok (x, y, rest) → IsRead x y rest
  is_read x y rest is = let a = g.sound bytes (x, y, rest) is in by_parts a.0 a.1 a.2 a.3 a.4 a.5
    where
      by_parts : (z : X × Y) (used behind : List ℕ) → ◌≡◌ {A = X × Y × List ℕ} (x, y, rest) (z.0, z.1, behind) → bytes ≡ used ++ behind → P z used → IsRead x y rest
      by_parts z used behind same whole spelled =
          let pairs : z ≡ (x, y) = λ i. ((sym same i).0, (sym same i).1) in
          let left : behind ≡ rest = λ i. (sym same i).2 in
          record { used = used; front = front_of bytes used rest (whole ∙ ap (λ b. used ++ b) left); spelled = subst (λ w. P w used) pairs spelled }

  -- so all of it is said of the bytes that were used
  pub found : (x : X) (y : Y) (rest : List ℕ) → r bytes ≡ Ok (x, y, rest)
      → (length bytes - length rest ≤ length bytes) × P (x, y) (take (length bytes - length rest) bytes)
  found x y rest is = let a = is_read x y rest is in (omega arith, subst (λ u. P (x, y) u) (sym a.front.front) a.spelled)

  pub gives : (x : X) (y : Y) (rest : List ℕ) → r bytes ≡ Ok (x, y, rest) → r bytes ≡ Ok (x, y, drop (length bytes - length rest) bytes)
  gives x y rest is = let a = is_read x y rest is in rw a.front.back is

  -- what is spelled at the front is what is read
  pub spelled_read : (x : X) (y : Y) (used rest : List ℕ) → P (x, y) used → bytes ≡ used ++ rest → r bytes ≡ Ok (x, y, rest)
  spelled_read x y used rest spelled whole = rw whole (g.complete (x, y) used rest spelled)

  same_read : (x z : X) (y w : Y) (rest behind : List ℕ) → ◌≡◌ {A = Result (X × Y × List ℕ) Fault} (Ok (x, y, rest)) (Ok (z, w, behind)) → (x ≡ z) × (y ≡ w) × (rest ≡ behind)
  same_read x z y w rest behind is =
      let same : ◌≡◌ {A = X × Y × List ℕ} (x, y, rest) (z, w, behind) = cc in
      ((λ i. (same i).0), (λ i. (same i).1), (λ i. (same i).2))

  pub only : (z : X) (w : Y) (behind : List ℕ) → r bytes ≡ Ok (z, w, behind) → (x : X) (y : Y) (used rest : List ℕ) → P (x, y) used → bytes ≡ used ++ rest
      → (z ≡ x) × (length bytes - length behind ≡ length used) × (w ≡ y)
  only z w behind is x y used rest spelled whole =
      let same = same_read z x w y behind rest (sym is ∙ spelled_read x y used rest spelled whole) in
      let f = front_of bytes used rest whole in
      (same.0, rw same.2 f.count, same.1)

  -- so no fault is met there
  pub no_fault : (f : Fault) → r bytes ≡ Err f → (x : X) (y : Y) (used rest : List ℕ) → P (x, y) used → bytes ≡ used ++ rest → ⊥
  no_fault f is x y used rest spelled whole = clash (sym (spelled_read x y used rest spelled whole) ∙ is)
    where
      clash : ◌≡◌ {A = Result (X × Y × List ℕ) Fault} (Ok (x, y, rest)) (Err f) → ⊥
      clash same = cc
