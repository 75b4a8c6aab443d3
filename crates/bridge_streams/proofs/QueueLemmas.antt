-- The names that are kept for releases are copies of one.
use Rattle.std.proofs.Common.{◌≡◌, refl, sym, ap, subst, ◌∙◌, ℕ, ◌+◌, ◌-◌, ◌<◌, ◌≤◌, List, [], ◌∷◌, ◌++◌, length, drop, map, Option, None, Some, IsSome, arith}
use Rattle.std.specs.Option.{option_to_list}
use Rattle.std.proofs.lemmas.List.{map-append}
use Rattle.message_model.specs.Messages as plain
use Rattle.urp_message.specs.Messages.{message_of}
use Rattle.urp_message.specs.declared.message.Message.{Message}
use Rattle.urp_message.specs.declared.message.Message.TheVariants.{Release}
use Rattle.bridge_streams.specs.Queues.{Queue, with_release, AreCopies}

-- one more
pub copies_more : (tid t : List ℕ) (ts : List (List ℕ)) → AreCopies tid ts → t ≡ tid → AreCopies tid (ts ++ t ∷ [])
copies_more tid t [] copies is = (is, tt)
copies_more tid t (u ∷ us) copies is = (copies.0, copies_more tid t us copies.1 is)

-- those at the front, and those behind them
pub copies_front : (tid : List ℕ) (ts us : List (List ℕ)) → AreCopies tid (ts ++ us) → AreCopies tid ts
copies_front tid [] us copies = tt
copies_front tid (t ∷ ts) us copies = (copies.0, copies_front tid ts us copies.1)

pub copies_behind : (tid : List ℕ) (ts us : List (List ℕ)) → AreCopies tid (ts ++ us) → AreCopies tid us
copies_behind tid [] us copies = copies
copies_behind tid (t ∷ ts) us copies = copies_behind tid ts us copies.1

-- the last one is taken
pub copies_left : (tid : List ℕ) (before after : List (List ℕ)) (last : Option (List ℕ)) → AreCopies tid before → before ≡ after ++ option_to_list last → AreCopies tid after
copies_left tid before after last copies is = copies_front tid after (option_to_list last) (subst (AreCopies tid) is copies)

pub copy_taken : (tid : List ℕ) (before after : List (List ℕ)) (t : List ℕ) → AreCopies tid before → before ≡ after ++ option_to_list (Some t) → t ≡ tid
copy_taken tid before after t copies is = (copies_behind tid after (t ∷ []) (subst (AreCopies tid) is copies)).0

-- a release that takes a place
abbrev queue_of : List plain.Message → ℕ → List ℕ → Queue
queue_of said kept tid = record { said = said; kept = kept; tid = tid }

pub released : (said after : List Message) (kept left : ℕ) (own tid oid face : List ℕ) → after ≡ said ++ Release tid oid face ∷ [] → left + 1 ≡ kept → tid ≡ own
    → queue_of (map message_of after) left own ≡ with_release oid face (queue_of (map message_of said) kept own)
released said after kept left own tid oid face is less same =
    let all : map message_of after ≡ map message_of said ++ plain.release own oid face ∷ []
    = ap (map message_of) is ∙ (map-append message_of said (Release tid oid face ∷ []) ∙ ap (λ t. map message_of said ++ plain.release t oid face ∷ []) same) in
    let places : left ≡ kept - 1 = omega arith in
    ap (λ s. queue_of s left own) all ∙ ap (λ k. queue_of (map message_of said ++ plain.release own oid face ∷ []) k own) places
