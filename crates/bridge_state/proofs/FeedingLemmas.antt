-- What a piece does, by what it ends.
use Rattle.std.proofs.Common.{◌≡◌, refl, sym, ap, subst, ◌∙◌, ℕ, ◌+◌, ◌-◌, ◌<◌, ◌≤◌, ◌^◌, nat_lt, Bool, true, false, not, ◌&&◌, List, [], ◌∷◌, ◌++◌, drop, length, Option, None, Some, if◌then◌else◌, arith}
use Rattle.std.proofs.lemmas.Bool.{true≢false}
use Rattle.std.proofs.lemmas.Bool.Decides.{Decides-ltb}
use Rattle.std.proofs.lemmas.List.{length-append, length-drop}
use Rattle.urp_model.specs.declared.reason.Reason.{Reason}
use Rattle.bridge_laws.specs.Counting.{total}
use Rattle.bridge_model.specs.Feeding.{Hearing, breaks, count_said, feeds, feeds_part, feeds_whole, header_fault, heard_nothing, hears, holds_bytes, block_stands, ends_part, takes_block}
use Rattle.bridge_model.specs.Settings.{Setting}
use Rattle.bridge_model.specs.Sides.{Side, Incoming, Outgoing}
use Rattle.bridge_model.specs.Answers.{cut}
use Rattle.bridge_model.specs.Steps.{fed_count}
use Rattle.bridge_model.specs.declared.cause.Cause.{Cause}
use Rattle.bridge_laws.specs.Room.{message_brings}
use Rattle.bridge_streams.specs.Taking.{TookNone, TookPart, TookWhole, with_cut}
use Rattle.bridge_tables.specs.EndTables.{EndTables}
use Rattle.plan_model.specs.Frames.{Stack}
use Rattle.urp_stream.specs.declared.block.Block.{Block}
use Rattle.bridge_state.proofs.Seen.{seen, side_by}
use Rattle.bridge_state.specs.EndSides.{EndSide, on_side, with_side}
use Rattle.bridge_state.specs.Hearing.{broken_by}

-- an open block
pub fed_part : (g : Setting) (piece : List ℕ) (s : Side) → header_fault (s.incoming.held ++ piece) ≡ None → block_stands (s.incoming.held ++ piece) ≡ false
    → feeds g piece s ≡ heard_nothing (holds_bytes (s.incoming.held ++ piece) s)
unfolding feeds
fed_part g piece s good unended =
    ap (λ o. feeds_part g (s.incoming.held ++ piece) o s) good
    ∙ ap (λ b. if b then feeds_whole g (s.incoming.held ++ piece) s else heard_nothing (holds_bytes (s.incoming.held ++ piece) s)) unended

-- a header that is refused
pub fed_refused : (g : Setting) (piece : List ℕ) (s : Side) (why : Reason) → header_fault (s.incoming.held ++ piece) ≡ Some why
    → feeds g piece s ≡ breaks why s.incoming.place (heard_nothing s)
unfolding feeds
fed_refused g piece s why bad = ap (λ o. feeds_part g (s.incoming.held ++ piece) o s) bad

-- a block that is whole
pub fed_whole : (g : Setting) (piece : List ℕ) (s : Side) → header_fault (s.incoming.held ++ piece) ≡ None → block_stands (s.incoming.held ++ piece) ≡ true
    → (place count : ℕ) (body : List ℕ) → place ≡ s.incoming.place → count ≡ count_said (s.incoming.held ++ piece) → body ≡ drop 8 (s.incoming.held ++ piece)
    → feeds g piece s ≡ hears g count place (place + 8) body (heard_nothing (takes_block (s.incoming.held ++ piece) s))
unfolding feeds
fed_whole g piece s good whole place count body at many is =
    ap (λ o. feeds_part g (s.incoming.held ++ piece) o s) good
    ∙ ap (λ b. if b then feeds_whole g (s.incoming.held ++ piece) s else heard_nothing (holds_bytes (s.incoming.held ++ piece) s)) whole
    ∙ (λ i. hears g (sym many i) (sym at i) (sym at i + 8) (sym is i) (heard_nothing (takes_block (s.incoming.held ++ piece) s)))

-- ---- the parts of a side that is fed

cut_step : (b : ℕ) (bytes rest : List ℕ) (ends : Bool) → length rest ≤ length bytes → length (if ends then b ∷ [] else b ∷ rest) ≤ length (b ∷ bytes)
cut_step b bytes rest true less = omega arith
cut_step b bytes rest false less = omega (arith, less)

cut_least : (held piece : List ℕ) → length (cut held piece) ≤ length piece
unfolding cut
cut_least held [] = omega arith
cut_least held (b ∷ bytes) = cut_step b bytes (cut (held ++ b ∷ []) bytes) (ends_part (held ++ b ∷ [])) (cut_least (held ++ b ∷ []) bytes)

has_all : (n : ℕ) (a b : Bool) → nat_lt n 8 ≡ a → (not a && b) ≡ true → 8 ≤ n
has_all n true b small is = absurd (cc)
has_all n false b small is = let large : ¬ (n < 8) = λ l. true≢false (sym ((Decides-ltb n 8).1 l) ∙ small) in omega (arith, large)

stands_long : (bytes : List ℕ) → block_stands bytes ≡ true → 8 ≤ length bytes
unfolding block_stands
stands_long bytes is = has_all (length bytes) (nat_lt (length bytes) 8) _ refl is

-- a block that is given ends where it was fed at the latest
pub block_within : (i : Incoming) (piece : List ℕ) (n : ℕ) (b : Block) (j : Incoming) → TookWhole i piece n b j → fed_count i + length piece < 2 ^ 64 → b.place + 8 + length b.body.items < 2 ^ 64
block_within i piece n b j took few =
    let least = cut_least i.held piece in
    let long = stands_long (with_cut i piece) took.stands in
    let body : length b.body.items ≡ length (with_cut i piece) - 8 = ap length took.given.body ∙ length-drop 8 (with_cut i piece) in
    let all : length (with_cut i piece) ≡ length i.held + length (cut i.held piece) = length-append i.held (cut i.held piece) in
    let at = took.given.at in
    omega (arith, least, long, body, all, at, few)

no_messages : (n : ℕ) → total message_brings [] ≤ n
unfolding total
no_messages n = omega arith

module _ (g : Setting) (piece : List ℕ) (t : EndTables) (ss : List Stack) (i j : Incoming) (o : Outgoing) (n : ℕ) (c : Option Cause) (now : EndSide) (is : seen t ss i o n c ≡ now) where
  fed_now : feeds g (cut i.held piece) (side_by t ss i o n c) ≡ feeds g (cut now.side.incoming.held piece) now.side
  fed_now = ap (λ e. feeds g (cut e.side.incoming.held piece) e.side) is

  ends_so : (x : Hearing) → feeds g (cut i.held piece) (side_by t ss i o n c) ≡ x → with_side x.side (seen t ss i o n c) ≡ on_side (λ s. (feeds g (cut s.incoming.held piece) s).side) now
  ends_so x does = ap (λ y. with_side y.side (seen t ss i o n c)) (sym does) ∙ ap (on_side (λ s. (feeds g (cut s.incoming.held piece) s).side)) is

  got_so : (x : Hearing) (references : ℕ) → feeds g (cut i.held piece) (side_by t ss i o n c) ≡ x → total message_brings x.got ≤ references
      → total message_brings (feeds g (cut now.side.incoming.held piece) now.side).got ≤ references
  got_so x references does few = subst (λ y. total message_brings y.got ≤ references) (sym does ∙ fed_now) few

  module _ (count : ℕ) (took : TookPart i piece count j) where
    part_fed : feeds g (cut i.held piece) (side_by t ss i o n c) ≡ heard_nothing (holds_bytes (with_cut i piece) (side_by t ss i o n c))
    part_fed = fed_part g (cut i.held piece) (side_by t ss i o n c) took.good took.unended

    pub part_so : seen t ss j o n c ≡ on_side (λ s. (feeds g (cut s.incoming.held piece) s).side) now
    part_so = ap (λ k. seen t ss k o n c) took.now ∙ ends_so _ part_fed

    pub part_got : (references : ℕ) → total message_brings (feeds g (cut now.side.incoming.held piece) now.side).got ≤ references
    part_got references = got_so _ references part_fed (no_messages references)

  module _ (count : ℕ) (why : Reason) (took : TookNone i piece count why j) where
    none_fed : feeds g (cut i.held piece) (side_by t ss i o n c) ≡ breaks why i.place (heard_nothing (side_by t ss i o n c))
    none_fed = fed_refused g (cut i.held piece) (side_by t ss i o n c) why took.fault

    pub refused_so : (place : ℕ) → place ≡ i.place → on_side (broken_by (Some (record { why = why; place = place }))) (seen t ss j o n c) ≡ on_side (λ s. (feeds g (cut s.incoming.held piece) s).side) now
    refused_so place at = (λ k. on_side (broken_by (Some (record { why = why; place = at k }))) (seen t ss (took.now k) o n c)) ∙ ends_so _ none_fed

    pub refused_got : (references : ℕ) → total message_brings (feeds g (cut now.side.incoming.held piece) now.side).got ≤ references
    refused_got references = got_so _ references none_fed (no_messages references)

  module _ (count : ℕ) (b : Block) (took : TookWhole i piece count b j) where
    whole_fed : feeds g (cut i.held piece) (side_by t ss i o n c) ≡ hears g b.count b.place (b.place + 8) b.body.items (heard_nothing (takes_block (with_cut i piece) (side_by t ss i o n c)))
    whole_fed = fed_whole g (cut i.held piece) (side_by t ss i o n c) took.good took.stands b.place b.count b.body.items took.given.at took.given.count took.given.body

    pub whole_so : (after : EndSide) → after ≡ on_side (λ s. (hears g b.count b.place (b.place + 8) b.body.items (heard_nothing s)).side) (seen t ss j o n c)
        → after ≡ on_side (λ s. (feeds g (cut s.incoming.held piece) s).side) now
    whole_so after heard = heard ∙ ap (λ k. on_side (λ s. (hears g b.count b.place (b.place + 8) b.body.items (heard_nothing s)).side) (seen t ss k o n c)) took.now ∙ ends_so _ whole_fed

    pub whole_got : (references : ℕ) → total message_brings (hears g b.count b.place (b.place + 8) b.body.items (heard_nothing (side_by t ss j o n c))).got ≤ references
        → total message_brings (feeds g (cut now.side.incoming.held piece) now.side).got ≤ references
    whole_got references few =
        got_so _ references whole_fed (subst (λ k. total message_brings (hears g b.count b.place (b.place + 8) b.body.items (heard_nothing (side_by t ss k o n c))).got ≤ references) took.now few)
