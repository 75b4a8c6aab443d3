-- The block that is held, as header and body.
use Rattle.std.proofs.Common.{◌≡◌, ℕ, ◌+◌, ◌≤◌, List, [], ◌++◌, length, refl, ap, ◌∙◌, append_assoc, arith}
use Rattle.std.specs.Int.{w32, to_be_bytes}
use Rattle.urp_model.specs.Blocks.{spell_block}
use Rattle.urp_model.specs.PlacedBlocks.{IsBlockAt}
use Rattle.urp_stream.specs.HeaderParts.{IsSaid}
use Rattle.urp_stream.specs.Streams.{Stream, AreParts}
use Rattle.urp_stream.specs.Calls.{Gave}

-- a header that says the length of the body, and the body, are a block
spelled : (header body : List ℕ) (size count : ℕ) → IsSaid header size count → size ≡ length body → header ++ body ≡ spell_block count body
unfolding spell_block
spelled header body size count said long =
    ap (λ x. x ++ body) said.spelled ∙ ap (λ x. (to_be_bytes w32 x ++ to_be_bytes w32 count) ++ body) long ∙ append_assoc (to_be_bytes w32 (length body)) (to_be_bytes w32 count) body

-- what was held is the block that is given
pub gave_block : (place size count : ℕ) (header body : List ℕ) → AreParts place header body → IsSaid header size count → size ≤ length body
    → Gave (record { place = place; held = header ++ body }) (record { place = place; count = count; body = body }) (record { place = place + 8 + length body; held = [] })
gave_block place size count header body parts said whole =
    let eight : 8 ≤ length header = omega (arith, said.whole) in
    let long : size ≡ length body = omega (arith, parts.one_block, said.size_is) in
    let is : IsBlockAt place (record { place = place; count = count; body = body }) = record {
      place_is = refl;
      some = omega (arith, parts.good.count eight, said.count_is);
      count_fits = said.count_fits;
      size_fits = omega (arith, parts.good.size eight, said.size_is);
    } in
    record { block = is; held = spelled header body size count said long; now = refl }

-- the same of what `next_block` reads and leaves
pub gave_parts : {old : Stream} {header body given front left : List ℕ} (place size count len given_len : ℕ) → record { place = place; held = header ++ body } ≡ old → AreParts place header body → IsSaid header size count
    → size ≤ len → len ≡ length body → given ≡ body → given_len ≡ length given → front ≡ [] → left ≡ []
    → Gave old (record { place = place; count = count; body = given }) (record { place = place + (8 + given_len); held = front ++ left })
gave_parts {old} {header} {body} place size count len given_len is parts said fits l g k f r =
    let places : place + (8 + length body) ≡ place + 8 + length body = omega arith in
    rw (← is, k, g, f, r, places) (gave_block place size count header body parts said (omega arith))
