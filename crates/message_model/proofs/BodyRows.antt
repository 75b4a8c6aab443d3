-- Bodies and blocks that are written out, and what is read of them.
use Rattle.std.proofs.Common.{◌≡◌, ℕ, List, [], ◌∷◌, Option, None, Some, Ok, refl, codes}
use Rattle.urp_model.specs.Parts.{byte_at}
use Rattle.urp_model.specs.declared.reason.Reason.TheVariants.{ShortMessage, UnknownFunction, LeftOver}
use Rattle.message_model.specs.Messages.{Message, release}
use Rattle.message_model.specs.ReadingMessages.{message_at, request_at, opening_at, target_at, new_or_last_at, asked_at, release_at}
use Rattle.message_model.specs.ReadingStreams.{Awaiting, BodyFault, left_over, unread, BodyRead, body_at, StreamFault, StreamRead, stream_at}
use Rattle.message_model.proofs.MessageRows.{tiny, hears, x, unknown_function_row}

-- no call waits, whatever was read
abbrev nobody : Awaiting
nobody ms = []

-- a release behind a short header
abbrev let_go : Message
let_go = release (codes "t") (codes "o") (codes "x")

abbrev read_so : List Message → Option BodyFault → BodyRead
read_so ms fault = record { messages = ms; heard = hears x; fault = fault }

abbrev streamed : List Message → Option StreamFault → StreamRead
streamed ms fault = record { messages = ms; heard = hears x; fault = fault }

let_go_row : (rest : List ℕ) → message_at tiny [] (hears x) (2 ∷ rest) ≡ Ok (let_go, hears x, rest)
unfolding message_at byte_at request_at opening_at target_at new_or_last_at asked_at release_at
let_go_row rest = refl

-- two messages, and a count of two; of one; and of three, where the place is behind the body
two_row : body_at tiny nobody 2 (hears x) (2 ∷ 2 ∷ []) ≡ read_so (let_go ∷ let_go ∷ []) None
unfolding body_at
two_row = rw (let_go_row, let_go_row) refl

left_over_row : body_at tiny nobody 1 (hears x) (2 ∷ 2 ∷ []) ≡ read_so (let_go ∷ []) (Some (left_over 1))
unfolding body_at
left_over_row = rw let_go_row refl

too_many_row : body_at tiny nobody 3 (hears x) (2 ∷ 2 ∷ []) ≡ read_so (let_go ∷ let_go ∷ []) (Some (unread ShortMessage 2))
unfolding body_at message_at byte_at
too_many_row = rw (let_go_row, let_go_row) refl

-- a block at 66: a function that is not there is refused at its message, and a byte too many at the block
unknown_function_at_74_row : stream_at tiny nobody (hears x) (record { place = 66; count = 1; body = 5 ∷ [] } ∷ [])
    ≡ streamed [] (Some (record { reason = UnknownFunction; place = 74 }))
unfolding stream_at body_at
unknown_function_at_74_row = rw unknown_function_row refl

left_over_at_66_row : stream_at tiny nobody (hears x) (record { place = 66; count = 1; body = 2 ∷ 255 ∷ [] } ∷ [])
    ≡ streamed (let_go ∷ []) (Some (record { reason = LeftOver; place = 66 }))
unfolding stream_at body_at
left_over_at_66_row = rw let_go_row refl

-- behind a block of one message, the second message of the next one
behind_a_block_row : stream_at tiny nobody (hears x) (record { place = 0; count = 1; body = 2 ∷ [] } ∷ (record { place = 9; count = 2; body = 2 ∷ 5 ∷ [] } ∷ []))
    ≡ streamed (let_go ∷ let_go ∷ []) (Some (record { reason = UnknownFunction; place = 18 }))
unfolding stream_at body_at
behind_a_block_row = rw (let_go_row, let_go_row, unknown_function_row) refl
