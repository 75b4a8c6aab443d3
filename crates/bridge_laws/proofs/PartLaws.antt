-- What is told where a part that ends nothing is fed, and where what follows it is fed too.
use Rattle.std.proofs.Common.{◌≡◌, refl, sym, ap, subst, ◌∙◌, ℕ, ◌+◌, ◌-◌, ◌<◌, Bool, true, false, not, ◌&&◌, ◌||◌, nat_lt, List, [], ◌∷◌, ◌++◌, length, drop, Option, None, Some, arith}
use Rattle.std.proofs.lemmas.Bool.{and_parts, not-true, ltb-true, ltb-false, lt-ltb, le-ltb, true≢false, false≢true}
use Rattle.std.proofs.lemmas.List.{append_assoc, append-nil, length-append, drop_all}
use Rattle.message_model.specs.Messages.{Message}
use Rattle.urp_model.specs.declared.reason.Reason.{Reason}
use Rattle.bridge_model.specs.Entries.{Entry, fed}
use Rattle.bridge_model.specs.Feeding.{header_fault, block_stands, is_some_reason, ends_part, heard_nothing, holds_bytes, feeds_part, feeds}
use Rattle.bridge_model.specs.Histories.{Told, told_more, tells}
use Rattle.bridge_model.specs.Settings.{Setting}
use Rattle.bridge_model.specs.Sides.{Side, stands}
use Rattle.bridge_model.specs.Steps.{most_fed, has_entries, but_last, is_some_bytes, may_feed, may, does, turn, step}
use Rattle.bridge_laws.proofs.CuttingLaws.{in_two}
use Rattle.bridge_laws.proofs.PieceLaws.{MayFeed, fed_is, may_fed, but_last_append}

-- ---- limits

pub room_behind : (most place held further part : ℕ) → further ≡ held + part → nat_lt (place + further) most ≡ true
    → most - (place + held) ≡ part + (most - (place + further))
room_behind most place held further part sum is = let less = ltb-true (place + further) most is in omega (arith, less, sum)

pub fits_behind : (most place held further part : ℕ) → further ≡ held + part → part < most - (place + held) → nat_lt (place + further) most ≡ true
fits_behind most place held further part sum is = lt-ltb (place + further) most (omega (arith, sum, is))

pub fits_before : (most place held further part : ℕ) → further ≡ held + part → nat_lt (place + further) most ≡ true → nat_lt (place + held) most ≡ true
fits_before most place held further part sum is = let less = ltb-true (place + further) most is in lt-ltb (place + held) most (omega (arith, less, sum))

-- ---- where a piece may be fed

-- what a piece is tested for, with the side
pub record MayBeFed (g : Setting) (s : Side) (b : List ℕ) : Type 0 where
  pub standing : stands s ≡ true
  pub few : has_entries s ≡ false
  pub piece : MayFeed b s.incoming.place s.incoming.held

pub may_be_fed : (g : Setting) (s : Side) (b : List ℕ) → may g s (fed b) ≡ true → MayBeFed g s b
unfolding may
may_be_fed g s b is =
    let parts = and_parts (stands s) (not (has_entries s) && may_feed b s.incoming) is in
    let more = and_parts (not (has_entries s)) (may_feed b s.incoming) parts.1 in
    record { standing = parts.0; few = not-true (has_entries s) more.0; piece = fed_is b s.incoming more.1 }

fed_may : (g : Setting) (s : Side) (b : List ℕ) → MayBeFed g s b → may g s (fed b) ≡ true
unfolding may
fed_may g s b is = rw (is.standing, is.few, may_fed b s.incoming is.piece) refl

some_first : (a b : List ℕ) → is_some_bytes a ≡ true → is_some_bytes (a ++ b) ≡ true
some_first [] b some = absurd (false≢true some)
some_first (c ∷ a) b some = refl

both_fit : (most place held a b both further : ℕ) → both ≡ a + b → further ≡ held + a → nat_lt most ((place + further) + b) ≡ false
    → nat_lt most ((place + held) + both) ≡ false
both_fit most place held a b both further sum more is =
    let least = ltb-false most ((place + further) + b) is in
    le-ltb most ((place + held) + both) (omega (arith, sum, more, least))

both_piece : (a b : List ℕ) (place : ℕ) (held : List ℕ) → is_some_bytes a ≡ true → MayFeed b place (held ++ a) → MayFeed (a ++ b) place held
both_piece a b place held some is =
    record {
      some = some_first a b some;
      fits = both_fit most_fed place (length held) (length a) (length b) (length (a ++ b)) (length (held ++ a)) (length-append a b) (length-append held a) is.fits;
      unended = subst (λ z. ends_part z ≡ false) (append_assoc held a (but_last b) ∙ ap (λ z. held ++ z) (sym (but_last_append a b is.some))) is.unended;
    }

-- two parts may be fed as one piece
pub both_may : (g : Setting) (s : Side) (a b : List ℕ) → is_some_bytes a ≡ true → may g (holds_bytes (s.incoming.held ++ a) s) (fed b) ≡ true
    → may g s (fed (a ++ b)) ≡ true
both_may g s a b some later =
    let second = may_be_fed g (holds_bytes (s.incoming.held ++ a) s) b later in
    fed_may g s (a ++ b) (record { standing = second.standing; few = second.few; piece = both_piece a b s.incoming.place s.incoming.held some second.piece })

-- ---- what is told

tells_where : (g : Setting) (x : Told) (e : Entry) → may g x.side e ≡ true → tells g x e ≡ Some (told_more x e (turn e x.side (does g e x.side)))
unfolding step
tells_where g x e is = rw is refl

tells_nowhere : (g : Setting) (x : Told) (e : Entry) → may g x.side e ≡ false → tells g x e ≡ None
unfolding step
tells_nowhere g x e is = rw is refl

-- what tells something may stand
pub may_where : (g : Setting) (x u : Told) (e : Entry) → tells g x e ≡ Some u → may g x.side e ≡ true
may_where g x u e told = by_test (may g x.side e) refl
  where
    none_told : (o : Option Told) → o ≡ None → o ≡ Some u → ⊥
    none_told o none some = cc

    by_test : (b : Bool) → may g x.side e ≡ b → may g x.side e ≡ true
    by_test true is = is
    by_test false is = absurd (none_told (tells g x e) (tells_nowhere g x e is) told)

held_if : (g : Setting) (bytes : List ℕ) (why : Option Reason) (s : Side) → (is_some_reason why || block_stands bytes) ≡ false
    → feeds_part g bytes why s ≡ heard_nothing (holds_bytes bytes s)
held_if g bytes (Some why) s is = absurd (true≢false is)
held_if g bytes None s is = rw is refl

does_hold : (g : Setting) (a : List ℕ) (s : Side) → ends_part (s.incoming.held ++ a) ≡ false → does g (fed a) s ≡ heard_nothing (holds_bytes (s.incoming.held ++ a) s)
unfolding does feeds ends_part
does_hold g a s is = held_if g (s.incoming.held ++ a) (header_fault (s.incoming.held ++ a)) s is

-- what is told behind a part that ends nothing
abbrev pub behind : Told → List ℕ → Told
behind x a = told_more x (fed a) (turn (fed a) x.side (heard_nothing (holds_bytes (x.side.incoming.held ++ a) x.side)))

tells_part : (g : Setting) (x : Told) (a : List ℕ) → may g x.side (fed a) ≡ true → ends_part (x.side.incoming.held ++ a) ≡ false → tells g x (fed a) ≡ Some (behind x a)
tells_part g x a is ends_nothing = tells_where g x (fed a) is ∙ ap (λ h. Some (told_more x (fed a) (turn (fed a) x.side h))) (does_hold g a x.side ends_nothing)

some_same : (o : Option Told) (x y : Told) → o ≡ Some x → o ≡ Some y → x ≡ y
some_same o x y one other = cc

-- and nothing else is
pub part_is_told : (g : Setting) (x t : Told) (a : List ℕ) → may g x.side (fed a) ≡ true → ends_part (x.side.incoming.held ++ a) ≡ false → tells g x (fed a) ≡ Some t
    → behind x a ≡ t
part_is_told g x t a is ends_nothing told = some_same (tells g x (fed a)) (behind x a) t (tells_part g x a is ends_nothing) told

-- one after the other
told_two : (side : Side) (got new said unsaid more : List Message) (came a b out : List ℕ)
    → ◌≡◌ {A = Told} (record { side = side; got = (got ++ []) ++ new; said = (said ++ drop (length unsaid) unsaid) ++ more; bytes_in = (came ++ a) ++ b; bytes_out = (out ++ []) ++ [] }) (record { side = side; got = got ++ new; said = said ++ more; bytes_in = came ++ (a ++ b); bytes_out = out ++ [] })
told_two side got new said unsaid more came a b out =
    let no_news = drop_all (length unsaid) unsaid (omega arith) in
    rw (no_news, append-nil got, append-nil said, append_assoc came a b, append-nil (out ++ [])) refl

-- what follows a part tells what both tell
pub tells_both : (g : Setting) (x : Told) (a b : List ℕ) → is_some_bytes a ≡ true → may g (behind x a).side (fed b) ≡ true
    → tells g x (fed (a ++ b)) ≡ tells g (behind x a) (fed b)
tells_both g x a b some later =
    let both = both_may g x.side a b some later in
    let second = may_be_fed g (behind x a).side b later in
    let two = in_two g x.side a b some second.piece.some both in
    let h = does g (fed (a ++ b)) x.side in
    sym
    (tells_where g (behind x a) (fed b) later
    ∙ (ap (λ k. Some (told_more (behind x a) (fed b) (turn (fed b) (behind x a).side k))) two.whole
    ∙ (ap
    Some
    (told_two h.side x.got h.got x.said x.side.tables.unsaid (drop (length x.side.tables.unsaid) h.side.tables.unsaid) x.bytes_in a b x.bytes_out)
    ∙ sym (tells_where g x (fed (a ++ b)) both))))
