-- Blocks that stand one after the other, and that bytes stand as one list of them.
use Rattle.std.proofs.Common.{◌≡◌, ℕ, ◌+◌, ◌⊎◌, inl, inr, List, [], ◌∷◌, ◌++◌, length, refl, sym, ap, subst, ◌∙◌, append-nil, append_assoc, arith}
use Rattle.std.proofs.Common.{length-append}
use Rattle.urp_model.specs.Blocks.{spell_block, IsBlock, BeginsWhole}
use Rattle.urp_model.proofs.BlockLaws.{spell_block-front, block_whole}
use Rattle.urp_model.proofs.PlacedBlockLaws.{spell_blocks-cons, spell_blocks-nil, block, ArePlacedFrom, first_placed, others_placed, from_start, blocks_and_more}
use Rattle.urp_model.specs.PlacedBlocks.{PlacedBlock, IsBlockAt, spell_blocks, AreBlocksAnd}
use Rattle.urp_stream.specs.Standing.{StandsAs}

-- where a list with one more at its end is cut before a value, that value is the last or stands in the list
pub cut_of_push : {A : Type 0} (given before after : List A) (last x : A) → given ++ last ∷ [] ≡ before ++ x ∷ after
    → ((given ≡ before) × (last ≡ x)) ⊎ ((more : List A) × (given ≡ before ++ x ∷ more))
cut_of_push [] [] after last x e = inl (refl, cc)
cut_of_push [] (y ∷ before) after last x e =
    let tails : [] ≡ before ++ x ∷ after = cc in
    let bad : ⊥ = omega (arith, ap length tails, length-append before (x ∷ after)) in absurd bad
cut_of_push (g ∷ given) [] after last x e = let same : g ≡ x = cc in inr (given, ap (λ y. y ∷ given) same)
cut_of_push (g ∷ given) (y ∷ before) after last x e =
    let same : g ≡ y = cc in
    let tails : given ++ last ∷ [] ≡ before ++ x ∷ after = cc in
    elim (cut_of_push given before after last x tails) [
      | inl p ↦ inl (ap (λ z. g ∷ z) p.0 ∙ ap (λ z. z ∷ before) same, p.1)
      | inr p ↦ inr (p.0, ap (λ z. g ∷ z) p.1 ∙ ap (λ z. z ∷ (before ++ x ∷ p.0)) same)
    ]

-- two blocks are one where their parts are
same_block : (a b : PlacedBlock) → a.place ≡ b.place → a.count ≡ b.count → a.body ≡ b.body → a ≡ b
same_block a b p q r = ap (λ x. block x a.count a.body) p ∙ ap (λ x. block b.place x a.body) q ∙ ap (λ x. block b.place b.count x) r

-- a block at a place is one of the wire
is_block : (place : ℕ) (b : PlacedBlock) → IsBlockAt place b → IsBlock b.count b.body
is_block place b is = record { count_fits = is.count_fits; size_fits = omega (arith, is.size_fits) }

-- what begins with a block begins with a whole one
begins_whole : (place : ℕ) (b : PlacedBlock) (rest : List ℕ) → IsBlockAt place b → BeginsWhole (spell_block b.count b.body ++ rest)
begins_whole place b rest is =
    block_whole (spell_block b.count b.body ++ rest) (record { count = b.count; body = b.body; rest = rest; fits = is_block place b is; spelled = refl })

-- a rest with no whole block is none that begins with one
no_blocks : (from : ℕ) (b : PlacedBlock) (blocks : List PlacedBlock) (r t : List ℕ) → ArePlacedFrom from (b ∷ blocks) → ¬ BeginsWhole r → r ≡ spell_blocks (b ∷ blocks) ++ t → ⊥
no_blocks from b blocks r t placed whole e =
    let begins = begins_whole from b (spell_blocks blocks ++ t) (first_placed from b blocks placed) in
    let same : r ≡ spell_block b.count b.body ++ (spell_blocks blocks ++ t) = e ∙ ap (λ x. x ++ t) (spell_blocks-cons b blocks) ∙ append_assoc (spell_block b.count b.body) (spell_blocks blocks) t in
    whole (subst (λ (x : List ℕ). BeginsWhole x) (sym same) begins)

-- one block more at the front of both
same_first : (a b : PlacedBlock) (x y z : List PlacedBlock) → a ≡ b → y ≡ x ++ z → b ∷ y ≡ (a ∷ x) ++ z
same_first a b x y z p q = rw (p, q) refl

-- where one rest begins no whole block, its blocks are the others and maybe more, with which the other rest begins
blocks_behind : (from : ℕ) (x y : List PlacedBlock) (r t : List ℕ) → ArePlacedFrom from x → ArePlacedFrom from y → ¬ BeginsWhole t
    → spell_blocks x ++ r ≡ spell_blocks y ++ t → (z : List PlacedBlock) × (y ≡ x ++ z) × (r ≡ spell_blocks z ++ t)
blocks_behind from [] y r t p q w e = (y, refl, rw spell_blocks-nil at e)
blocks_behind from (a ∷ x) [] r t p q w e = absurd (no_blocks from a x t r p w (sym (rw spell_blocks-nil at e)))
blocks_behind from (a ∷ x) (b ∷ y) r t p q w e =
    let first = first_placed from a x p in
    let second = first_placed from b y q in
    let apart : spell_block a.count a.body ++ (spell_blocks x ++ r) ≡ spell_block b.count b.body ++ (spell_blocks y ++ t) =
    sym (append_assoc (spell_block a.count a.body) (spell_blocks x) r) ∙ ap (λ z. z ++ r) (sym (spell_blocks-cons a x)) ∙ e
    ∙ ap (λ z. z ++ t) (spell_blocks-cons b y) ∙ append_assoc (spell_block b.count b.body) (spell_blocks y) t in
    let fronts = spell_block-front a.count b.count a.body b.body (spell_blocks x ++ r) (spell_blocks y ++ t) (is_block from a first) (is_block from b second) apart in
    let same = same_block a b (first.place_is ∙ sym second.place_is) fronts.0 fronts.1 in
    let behind = subst (λ (z : PlacedBlock). ArePlacedFrom (from + length (spell_block z.count z.body)) y) (sym same) (others_placed from b y q) in
    let more = blocks_behind (from + length (spell_block a.count a.body)) x y r t (others_placed from a x p) behind w fronts.2 in
    (more.0, same_first a b x y more.0 same more.1, more.2)

-- what blocks stand behind those of a front
pub blocks_more : (s : List ℕ) (blocks others : List PlacedBlock) (rest other : List ℕ) → AreBlocksAnd s blocks rest → AreBlocksAnd s others other → ¬ BeginsWhole other
    → (behind : List PlacedBlock) × (others ≡ blocks ++ behind) × (rest ≡ spell_blocks behind ++ other)
blocks_more s blocks others rest other p q w = blocks_behind 0 blocks others rest other (from_start s blocks rest p) (from_start s others other q) w (sym p.whole ∙ q.whole)

-- a rest that begins no whole block has no block behind the others
no_more : (s : List ℕ) (blocks others behind : List PlacedBlock) (rest other : List ℕ) → AreBlocksAnd s others other → ¬ BeginsWhole rest
    → others ≡ blocks ++ behind → rest ≡ spell_blocks behind ++ other → (blocks ≡ others) × (rest ≡ other)
no_more s blocks others [] rest other q v e r = (sym (e ∙ append-nil blocks), r ∙ ap (λ x. x ++ other) spell_blocks-nil)
no_more s blocks others (b ∷ behind) rest other q v e r =
    let is = q.placed blocks b behind e in
    let same : rest ≡ spell_block b.count b.body ++ (spell_blocks behind ++ other) = r ∙ ap (λ x. x ++ other) (spell_blocks-cons b behind) ∙ append_assoc (spell_block b.count b.body) (spell_blocks behind) other in
    absurd (v (subst (λ (x : List ℕ). BeginsWhole x) (sym same) (begins_whole (length (spell_blocks blocks)) b (spell_blocks behind ++ other) is)))

-- bytes stand as at most one list of blocks
pub stands_as_one : (s : List ℕ) (blocks others : List PlacedBlock) (rest other : List ℕ) → StandsAs s blocks rest → StandsAs s others other → (blocks ≡ others) × (rest ≡ other)
stands_as_one s blocks others rest other p q =
    let more = blocks_more s blocks others rest other p.blocks_first q.blocks_first q.no_block in
    no_more s blocks others more.0 rest other q.blocks_first p.no_block more.1 more.2

-- and change no block before them
pub later_bytes : (s more : List ℕ) (blocks others : List PlacedBlock) (rest other : List ℕ) → AreBlocksAnd s blocks rest
    → StandsAs (s ++ more) others other → (behind : List PlacedBlock) × (others ≡ blocks ++ behind)
later_bytes s more blocks others rest other p q =
    let behind = blocks_more (s ++ more) blocks others (rest ++ more) other (blocks_and_more s more blocks rest p) q.blocks_first q.no_block in
    (behind.0, behind.1)
