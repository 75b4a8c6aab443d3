-- A block's bytes say where it ends, so one block stands at the front of a list.
use Rattle.std.proofs.Common.{◌≡◌, ℕ, zero, suc, ◌+◌, ◌^◌, ◌<◌, ◌≤◌, List, [], ◌∷◌, ◌++◌, length, take, drop, refl, sym, ap, subst}
use Rattle.std.proofs.Common.{◌∙◌, append_assoc, arith, length-append, length-take, length-drop, take-append-drop}
use Rattle.std.proofs.lemmas.List.{drop-drop, get_or-drop, length-take-le}
use Rattle.std.proofs.lemmas.Nat.{be_bytes_4, from_be_bytes-to_be_bytes_4}
use Rattle.std.specs.Int.{w32, to_be_bytes, from_be_bytes}
use Rattle.uno_base.proofs.Lists.{same_fronts}
use Rattle.urp_model.specs.Blocks.{spell_block, IsBlock, BeginsWhole, BeginsWithBlock, AreBytes}

-- four bytes of two numbers are the same only where the numbers are
pub same_numbers : (m n : ℕ) → m < 2 ^ 32 → n < 2 ^ 32 → to_be_bytes w32 m ≡ to_be_bytes w32 n → m ≡ n
same_numbers m n p q e = sym (from_be_bytes-to_be_bytes_4 m p) ∙ ap (from_be_bytes w32) e ∙ from_be_bytes-to_be_bytes_4 n q

-- two parts of known lengths, and what stands behind them
two_parts : {A : Type 0} (a b c d x y r t : List A) → length a ≡ length c → length b ≡ length d → (a ++ (b ++ x)) ++ r ≡ (c ++ (d ++ y)) ++ t
    → (a ≡ c) × (b ≡ d) × (x ++ r ≡ y ++ t)
two_parts a b c d x y r t p q e =
    let apart : a ++ (b ++ (x ++ r)) ≡ c ++ (d ++ (y ++ t)) = simp append_assoc at e in
    let first = same_fronts a c (b ++ (x ++ r)) (d ++ (y ++ t)) p apart in
    let second = same_fronts b d (x ++ r) (y ++ t) q first.1 in
    (first.0, second.0, second.1)

-- one block stands at the front of a list
pub spell_block-front : (c d : ℕ) (x y r t : List ℕ) → IsBlock c x → IsBlock d y → spell_block c x ++ r ≡ spell_block d y ++ t → (c ≡ d) × (x ≡ y) × (r ≡ t)
unfolding spell_block
spell_block-front c d x y r t p q e =
    let parts = two_parts (to_be_bytes w32 (length x)) (to_be_bytes w32 c) (to_be_bytes w32 (length y)) (to_be_bytes w32 d) x y r t refl refl e in
    let sizes = same_numbers (length x) (length y) p.size_fits q.size_fits parts.0 in
    let counts = same_numbers c d p.count_fits q.count_fits parts.1 in
    let bodies = same_fronts x y r t sizes parts.2 in
    (counts, bodies.0, bodies.1)

-- a front of bytes is bytes
pub AreBytes-take : (n : ℕ) (s : List ℕ) → AreBytes s → AreBytes (take n s)
AreBytes-take zero s bytes i = omega arith
AreBytes-take (suc n) [] bytes i = omega arith
AreBytes-take (suc n) (b ∷ s) bytes zero = bytes 0
AreBytes-take (suc n) (b ∷ s) bytes (suc i) = AreBytes-take n s (λ k. bytes (suc k)) i

-- what stands behind a front of bytes is bytes
pub AreBytes-drop : (n : ℕ) (s : List ℕ) → AreBytes s → AreBytes (drop n s)
AreBytes-drop n s bytes i = rw get_or-drop (bytes (n + i))

-- the number that the first four bytes are has these bytes, and fits them
pub four_bytes : (s : List ℕ) → AreBytes s → 4 ≤ length s → (to_be_bytes w32 (from_be_bytes w32 (take 4 s)) ≡ take 4 s) × (from_be_bytes w32 (take 4 s) < 2 ^ 32)
four_bytes s bytes long =
    let front = AreBytes-take 4 s bytes in
    (be_bytes_4 (take 4 s) (from_be_bytes w32 (take 4 s)) (omega (arith, length-take 4 s)) front refl, omega (arith, front 0, front 1, front 2, front 3))

-- a list is two parts of its front, a third, and what stands behind them
front_parts : {A : Type 0} (a b n : ℕ) (s : List A) → s ≡ (take a s ++ (take b (drop a s) ++ take n (drop (a + b) s))) ++ drop n (drop (a + b) s)
front_parts a b n s =
    let last = take-append-drop n (drop (a + b) s) in
    let second = take-append-drop b (drop a s) in
    sym (simp append_assoc (ap (λ x. take a s ++ (take b (drop a s) ++ x)) (last ∙ sym (drop-drop b a s)) ∙ ap (λ x. take a s ++ x) second ∙ take-append-drop a s))

-- parts that are a size, a count and a body spell a block
put_block : (f g body rest s : List ℕ) (size count : ℕ) → to_be_bytes w32 size ≡ f → to_be_bytes w32 count ≡ g → length body ≡ size
    → s ≡ (f ++ (g ++ body)) ++ rest → s ≡ spell_block count body ++ rest
unfolding spell_block
put_block f g body rest s size count p q long e =
    e ∙ ap (λ h. (h ++ (g ++ body)) ++ rest) (sym (ap (to_be_bytes w32) long ∙ p)) ∙ ap (λ k. (to_be_bytes w32 (length body) ++ (k ++ body)) ++ rest) (sym q)

-- bytes whose first four say a size that is there are a block and what stands behind it
pub whole_block : (s : List ℕ) → AreBytes s → BeginsWhole s → BeginsWithBlock s
whole_block s bytes whole =
    let size = from_be_bytes w32 (take 4 s) in
    let count = from_be_bytes w32 (take 4 (drop 4 s)) in
    let sizes = four_bytes s bytes (omega arith) in
    let counts = four_bytes (drop 4 s) (AreBytes-drop 4 s bytes) (omega (arith, length-drop 4 s)) in
    let long : length (take size (drop 8 s)) ≡ size = omega (arith, length-take size (drop 8 s), length-drop 8 s) in
    record {
      count = count;
      body = take size (drop 8 s);
      rest = drop size (drop 8 s);
      fits = record { count_fits = counts.1; size_fits = subst (λ (n : ℕ). n < 2 ^ 32) (sym long) sizes.1 };
      spelled = put_block (take 4 s) (take 4 (drop 4 s)) (take size (drop 8 s)) (drop size (drop 8 s)) s size count sizes.0 counts.0 long (front_parts 4 4 size s);
    }

-- what was read of a whole block, part after part, spells it
pub read_block : (s behind after body rest : List ℕ) (size count : ℕ) → AreBytes s → 8 ≤ length s → size ≡ from_be_bytes w32 (take 4 s) → behind ≡ drop 4 s
    → count ≡ from_be_bytes w32 (take 4 behind) → after ≡ drop 4 behind → size ≤ length after → body ≡ take size after → rest ≡ drop size after → s ≡ spell_block count body ++ rest
read_block s behind after body rest size count bytes long p q r v room w z =
    let sizes = (four_bytes s bytes (omega arith)).0 in
    let second = (four_bytes (drop 4 s) (AreBytes-drop 4 s bytes) (omega (arith, length-drop 4 s))).0 in
    let counts : to_be_bytes w32 (from_be_bytes w32 (take 4 behind)) ≡ take 4 behind = rw q second in
    let parts : s ≡ (take 4 s ++ (take 4 behind ++ body)) ++ rest =
    rw (w, z, v, q, drop-drop 4 4 s) (front_parts 4 4 size s) in
    put_block (take 4 s) (take 4 behind) body rest s size count (ap (to_be_bytes w32) p ∙ sizes) (ap (to_be_bytes w32) r ∙ counts)
    (ap length w ∙ length-take-le size after room) parts

-- a block says how long its body is
pub size_of-spell_block : (count : ℕ) (body rest : List ℕ) → length body < 2 ^ 32 → from_be_bytes w32 (take 4 (spell_block count body ++ rest)) ≡ length body
unfolding spell_block
size_of-spell_block count body rest fits = from_be_bytes-to_be_bytes_4 (length body) fits

-- a block has eight bytes before its body
pub length-spell_block : (count : ℕ) (body : List ℕ) → length (spell_block count body) ≡ 8 + length body
unfolding spell_block
length-spell_block count body = omega arith

-- a block and what stands behind it begin with a whole block
pub block_whole : (s : List ℕ) → BeginsWithBlock s → BeginsWhole s
block_whole s b = rw b.spelled (whole_front b.count b.body b.rest b.fits.size_fits)
  where
    whole_front : (count : ℕ) (body rest : List ℕ) → length body < 2 ^ 32 → BeginsWhole (spell_block count body ++ rest)
    whole_front count body rest fits =
        omega (arith, size_of-spell_block count body rest fits, length-append (spell_block count body) rest, length-spell_block count body)
