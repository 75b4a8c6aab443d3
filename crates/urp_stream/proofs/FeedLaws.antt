-- What a piece adds to a header and a body that stand apart, and how much of it completes a block.
use Rattle.std.proofs.Common.{◌≡◌, ℕ, ◌+◌, ◌-◌, ◌<◌, ◌≤◌, ◌⊎◌, inl, inr, ◌↔◌, List, ◌++◌, length, take, drop, sym, ap, subst, ◌∙◌, append-nil, append_assoc}
use Rattle.std.proofs.Common.{arith, length-append, length-take, length-drop, take-append-drop}
use Rattle.std.proofs.lemmas.Bool.{cases_lt}
use Rattle.std.proofs.lemmas.List.{nil_from_length, take_at}
use Rattle.urp_model.specs.Blocks.{BeginsWhole}
use Rattle.urp_stream.specs.Headers.{size_said, SaysTooLarge, SaysNoMessages, HasNoBadHeader}
use Rattle.urp_stream.specs.HeaderParts.{IsBodySize}
use Rattle.urp_stream.specs.Streams.{Stream, IsStream, AreParts}
use Rattle.urp_stream.specs.Calls.{IsTaken, Took}
use Rattle.urp_stream.proofs.HeaderLaws.{size_said-append, said_apart, none_apart, good_apart}

-- a whole block is as long as its size says
pub whole_is : (s : List ℕ) → (BeginsWhole s → 8 + size_said s ≤ length s) × (8 + size_said s ≤ length s → BeginsWhole s)
unfolding size_said
whole_is s = (λ w. w, λ w. w)

-- header and body stand for a stream
pub parts_stream : (place : ℕ) (header body : List ℕ) → AreParts place header body → IsStream (record { place = place; held = header ++ body })
parts_stream place header body parts = record {
  header = record { size = λ long. (good long).size long; count = λ long. (good long).count long };
  one_block = λ (long : 8 ≤ length (header ++ body)). let whole = eight long in omega (arith, parts.one_block, size_said-append header body (omega arith), length-append header body, parts.header_fits);
  place_fits = omega (arith, parts.place_fits, length-append header body);
}
  where
    eight : 8 ≤ length (header ++ body) → 8 ≤ length header
    eight long = elim (cases_lt (length header) 8) [ inl short ↦ absurd (omega (arith, parts.header_first short, length-append header body)) | inr whole ↦ whole ]

    good : 8 ≤ length (header ++ body) → HasNoBadHeader (header ++ body)
    good long = good_apart header body (eight long) parts.good

-- what comes between is nothing, or stands behind nothing
same_bytes : (header front body more : List ℕ) → (length body ≡ 0) ⊎ (length front ≡ 0) → (header ++ front) ++ (body ++ more) ≡ (header ++ body) ++ (front ++ more)
same_bytes header front body more (inl none) = rw (nil_from_length body none) (simp (append_assoc, append-nil))
same_bytes header front body more (inr none) = rw (nil_from_length front none) (simp (append_assoc, append-nil))

-- bytes held at a place
abbrev at_place : ℕ → List ℕ → Stream
at_place place held = record { place = place; held = held }

-- what of a piece belongs to the header
abbrev front_of : List ℕ → List ℕ → List ℕ
front_of header piece = take (8 - length header) piece

-- what stands behind that
abbrev behind_of : List ℕ → List ℕ → List ℕ
behind_of header piece = drop (8 - length header) piece

-- the header as it grew
abbrev grown_of : List ℕ → List ℕ → List ℕ
grown_of header piece = header ++ front_of header piece

-- how many bytes are taken, where the body takes at most so many
abbrev taken_of : List ℕ → List ℕ → ℕ → ℕ
taken_of header piece most = length (front_of header piece) + length (take most (behind_of header piece))

module _ (place : ℕ) (header body piece : List ℕ) (parts : AreParts place header body) where
  -- a header grows only while it has no body
  one_is_empty : (length body ≡ 0) ⊎ (length (front_of header piece) ≡ 0)
  one_is_empty = elim (cases_lt (length header) 8) [ inl short ↦ inl (parts.header_first short) | inr whole ↦ inr (omega (arith, length-take (8 - length header) piece)) ]

  -- all bytes begin with the header that grew
  grown_first : (header ++ body) ++ piece ≡ grown_of header piece ++ (body ++ behind_of header piece)
  grown_first =
      ap (λ x. (header ++ body) ++ x) (sym (take-append-drop (8 - length header) piece))
      ∙ sym (same_bytes header (front_of header piece) body (behind_of header piece) one_is_empty)

  -- the header that grew has all eight bytes where there are eight in all
  grown_long : 8 ≤ length ((header ++ body) ++ piece) → 8 ≤ length (grown_of header piece)
  grown_long long =
      let all = length-append (header ++ body) piece in
      let front = length-take (8 - length header) piece in
      elim (cases_lt (length header) 8) [
        | inl short ↦ omega (arith, parts.header_first short, length-append (header ++ body) piece, length-append header body, length-append header (front_of header piece))
        | inr whole ↦ omega (arith, length-append header (front_of header piece))
      ]

  -- so what it says is what all bytes say
  pub grown_too_large : (size : ℕ) → SaysTooLarge (grown_of header piece) size ↔ SaysTooLarge ((header ++ body) ++ piece) size
  grown_too_large size =
      let grown = grown_of header piece in
      let behind = body ++ behind_of header piece in (
        λ x. rw grown_first ((said_apart grown behind size x.header).0 x),
        λ x. (said_apart grown behind size (grown_long x.header)).1 (rw grown_first at x),
      )

  pub grown_no_messages : SaysNoMessages (grown_of header piece) ↔ SaysNoMessages ((header ++ body) ++ piece)
  grown_no_messages =
      let grown = grown_of header piece in
      let behind = body ++ behind_of header piece in
      (λ x. rw grown_first ((none_apart grown behind x.header).0 x), λ x. (none_apart grown behind (grown_long x.header)).1 (rw grown_first at x))

  -- n bytes of the piece are taken: those of the header, and those of the body
  front_more : (most : ℕ) → take (taken_of header piece most) piece ≡ front_of header piece ++ take most (behind_of header piece)
  front_more most =
      let front = front_of header piece in
      let behind = behind_of header piece in
      let parted : piece ≡ (front ++ take most behind) ++ drop most behind =
      sym (append_assoc front (take most behind) (drop most behind) ∙ ap (λ x. front ++ x) (take-append-drop most behind) ∙ take-append-drop (8 - length header) piece) in
      ap (take (length front + length (take most behind))) parted ∙ take_at (front ++ take most behind) (drop most behind) (length front + length (take most behind)) (length-append front (take most behind))

  -- so they stand behind what was held
  grown_held : (most : ℕ) → grown_of header piece ++ (body ++ take most (behind_of header piece))
      ≡ (header ++ body) ++ take (taken_of header piece most) piece
  grown_held most =
      same_bytes header (front_of header piece) body (take most (behind_of header piece)) one_is_empty ∙ ap (λ x. (header ++ body) ++ x) (sym (front_more most))

  -- the body is no longer than the header says
  body_within : (size : ℕ) → IsBodySize (grown_of header piece) size → length body ≤ size
  body_within size said =
      let front = front_of header piece in
      elim (cases_lt (length header) 8) [
        | inl short ↦ omega (arith, parts.header_first short)
        | inr whole ↦ omega (arith, said.said (omega (arith, length-append header front)), size_said-append header front (omega arith), parts.one_block)
      ]

  -- all bytes have no bad header
  good_all : (size : ℕ) → IsBodySize (grown_of header piece) size → HasNoBadHeader ((header ++ body) ++ piece)
  good_all size said = record { size = λ long. (all_good long).size long; count = λ long. (all_good long).count long }
    where
      all_good : 8 ≤ length ((header ++ body) ++ piece) → HasNoBadHeader ((header ++ body) ++ piece)
      all_good long = rw grown_first (good_apart (grown_of header piece) (body ++ behind_of header piece) (grown_long long) said.good)

  -- enough of the piece completes a block
  enough_is_whole : (size : ℕ) → IsBodySize (grown_of header piece) size → 8 ≤ length (grown_of header piece)
      → size - length body ≤ length (behind_of header piece)
      → BeginsWhole ((header ++ body) ++ take (taken_of header piece (size - length body)) piece)
  enough_is_whole size said long enough =
      let grown = grown_of header piece in
      let more = take (size - length body) (behind_of header piece) in
      let is = said.said long in
      let says = size_said-append grown (body ++ more) (omega arith) in
      let whole : BeginsWhole (grown ++ (body ++ more)) = (whole_is (grown ++ (body ++ more))).1
      (omega (arith, is, says, length-append grown (body ++ more), length-append body more, length-take (size - length body) (behind_of header piece))) in
      subst (λ (x : List ℕ). BeginsWhole x) (grown_held (size - length body)) whole

  -- a block is completed, or all of the piece is taken
  whole_or_all : (size : ℕ) → IsBodySize (grown_of header piece) size
      → BeginsWhole ((header ++ body) ++ take (taken_of header piece (size - length body)) piece)
      ⊎ (taken_of header piece (size - length body) ≡ length piece)
  whole_or_all size said =
      let a = 8 - length header in
      let behind = drop a piece in
      let fronts = length-take a piece in
      let backs = length-drop a piece in
      let mores = length-take (size - length body) behind in
      let growns = length-append header (take a piece) in
      elim (cases_lt (length (header ++ take a piece)) 8) [
        | inl short ↦ inr (omega (arith, said.unsaid short))
        | inr long ↦ elim (cases_lt (length behind) (size - length body)) [ inl few ↦ inr (omega arith) | inr enough ↦ inl (enough_is_whole size said long enough) ]
      ]

  -- fewer bytes complete none
  none_before : (size : ℕ) → IsBodySize (grown_of header piece) size → (m : ℕ)
      → m < taken_of header piece (size - length body) → ¬ BeginsWhole ((header ++ body) ++ take m piece)
  none_before size said m fewer whole =
      let a = 8 - length header in
      let part = (header ++ body) ++ take m piece in
      let grown = header ++ take a piece in
      let long = (whole_is part).0 whole in
      let all : (header ++ body) ++ piece ≡ part ++ drop m piece = ap (λ x. (header ++ body) ++ x) (sym (take-append-drop m piece)) ∙ sym (append_assoc (header ++ body) (take m piece) (drop m piece)) in
      let eight : 8 ≤ length ((header ++ body) ++ piece) = omega (arith, ap length all, length-append part (drop m piece)) in
      let grew = grown_long eight in
      let same : size_said part ≡ size_said grown = sym (size_said-append part (drop m piece) (omega arith)) ∙ ap size_said (sym all ∙ grown_first) ∙ size_said-append grown (body ++ drop a piece) (omega arith) in
      let within = body_within size said in
      let is = said.said grew in
      omega (arith, parts.header_fits, length-append (header ++ body) (take m piece), length-append header body, length-take m piece, length-append header (take a piece), length-take a piece, length-take (size - length body) (drop a piece))

  -- so these bytes are taken
  pub grown_took : (size : ℕ) → IsBodySize (grown_of header piece) size
      → Took (record { place = place; held = header ++ body }) piece (taken_of header piece (size - length body))
      (record { place = place; held = grown_of header piece ++ (body ++ take (size - length body) (behind_of header piece)) })
  grown_took size said =
      let a = 8 - length header in
      let taken : IsTaken (header ++ body) piece (length (take a piece) + length (take (size - length body) (drop a piece))) = record {
        within = omega (arith, length-take a piece, length-drop a piece, length-take (size - length body) (drop a piece));
        whole_or_all = whole_or_all size said;
        least = none_before size said;
      } in
      record { taken = taken; header = good_all size said; now = ap (at_place place) (grown_held (size - length body)) }

-- the same of what a call of `feed` reads and makes, part after part
pub fed_too_large : {old : Stream} {header body front grown : List ℕ} (place len : ℕ) (piece : List ℕ) → record { place = place; held = header ++ body } ≡ old → AreParts place header body
    → len ≡ length header → front ≡ take (8 - len) piece → grown ≡ header ++ front → (size : ℕ) → SaysTooLarge grown size ↔ SaysTooLarge (old.held ++ piece) size
fed_too_large {old} {header} {body} place len piece is parts l f g size = rw (← is, g, f, l) (grown_too_large place header body piece parts size)

pub fed_no_messages : {old : Stream} {header body front grown : List ℕ} (place len : ℕ) (piece : List ℕ) → record { place = place; held = header ++ body } ≡ old → AreParts place header body
    → len ≡ length header → front ≡ take (8 - len) piece → grown ≡ header ++ front → SaysNoMessages grown ↔ SaysNoMessages (old.held ++ piece)
fed_no_messages {old} {header} {body} place len piece is parts l f g = rw (← is, g, f, l) (grown_no_messages place header body piece parts)

pub fed_took : {old : Stream} {header body front behind grown more filled : List ℕ} (place len body_len size : ℕ) (piece : List ℕ) → record { place = place; held = header ++ body } ≡ old → AreParts place header body
    → len ≡ length header → front ≡ take (8 - len) piece → behind ≡ drop (8 - len) piece → grown ≡ header ++ front → IsBodySize grown size
    → body_len ≡ length body → more ≡ take (size - body_len) behind → filled ≡ body ++ more → Took old piece (length front + length more) (record { place = place; held = grown ++ filled })
fed_took {old} {header} {body} place len body_len size piece is parts l f b g said k m e =
    let said_of : IsBodySize (header ++ take (8 - length header) piece) size = rw (g, f, l) at said in
    rw (← is, e, m, b, g, f, l, k) (grown_took place header body piece parts size said_of)

pub fed_good : {old : Stream} {header body front grown : List ℕ} (place len size : ℕ) (piece : List ℕ) → record { place = place; held = header ++ body } ≡ old → AreParts place header body
    → len ≡ length header → front ≡ take (8 - len) piece → grown ≡ header ++ front → IsBodySize grown size → HasNoBadHeader (old.held ++ piece)
fed_good {old} {header} {body} place len size piece is parts l f g said =
    let said_of : IsBodySize (header ++ take (8 - length header) piece) size = rw (g, f, l) at said in
    rw (← is) (good_all place header body piece parts size said_of)
