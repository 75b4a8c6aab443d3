-- A piece that is next on its way never breaks the bridge, whatever is cut off it.
use Rattle.std.proofs.Common.{◌≡◌, refl, sym, ap, ◌∙◌, subst, ℕ, zero, suc, Bool, true, false, ◌||◌, List, [], ◌∷◌, ◌++◌, length, take, drop, ◌-◌, Option, None, Some, if◌then◌else◌}
use Rattle.std.proofs.lemmas.Bool.{true≢false}
use Rattle.urp_model.specs.declared.reason.Reason.{Reason}
use Rattle.bridge_model.specs.Answers.{taken, broken, at_limit, feed_is_full, after_feeding, feed_standing, at_end, feed_answer, cut, next_cut, within_limit}
use Rattle.bridge_model.specs.Entries.{Entry, fed}
use Rattle.bridge_model.specs.Feeding.{ends_part}
use Rattle.bridge_model.specs.Histories.{Told, told_more, Leads}
use Rattle.bridge_model.specs.Settings.{Setting}
use Rattle.bridge_model.specs.Sides.{Side, stands, stands_by}
use Rattle.bridge_model.specs.Steps.{turn, may, does, has_entries, has_fed, most_fed, fed_count}
use Rattle.bridge_model.specs.declared.cause.Cause.{Cause}
use Rattle.bridge_model.specs.declared.cause.Cause.TheVariants as cause
use Rattle.bridge_laws.proofs.DoingLaws.{fed_may}
use Rattle.world_laws.proofs.RunLaws.{a_pushed, a_same, b_pushed, b_same, leads_push}
use Rattle.world_laws.proofs.SyncedLaws.{step_is}
use Rattle.world_model.specs.Readings.{is_broken}
use Rattle.world_model.specs.Worlds.{Settings, of_a, of_b, Event, entries_of}
use Rattle.world_model.specs.declared.side.Side.TheVariants.{A, B}
use Rattle.bridge_laws.specs.Giving.{RootsGive}
use Rattle.world_laws.specs.Linking.{AreTwoEnds}
use Rattle.world_laws.specs.Merging.{event_at}
use Rattle.world_laws.proofs.GoingOn.{a_goes_on, b_goes_on}
use Rattle.world_laws.proofs.Histories.{whole_a, whole_b, part_a, part_b}

-- ---- what is cut off is a front

front_one : (held : List ℕ) (b : ℕ) (bytes : List ℕ) (e : Bool) → cut (held ++ b ∷ []) bytes ≡ take (length (cut (held ++ b ∷ []) bytes)) bytes
    → (if e then b ∷ [] else b ∷ cut (held ++ b ∷ []) bytes) ≡ take (length (if e then b ∷ [] else b ∷ cut (held ++ b ∷ []) bytes)) (b ∷ bytes)
front_one held b bytes true more = refl
front_one held b bytes false more = ap (λ xs. b ∷ xs) more

cut_front : (held piece : List ℕ) → cut held piece ≡ take (length (cut held piece)) piece
unfolding cut
cut_front held [] = refl
cut_front held (b ∷ bytes) = front_one held b bytes (ends_part (held ++ b ∷ [])) (cut_front (held ++ b ∷ []) bytes)

-- a front of a front is one
front_of : (b xs ys : List ℕ) (n : ℕ) → b ≡ take (length b) xs → xs ≡ take n ys → b ≡ take (length b) ys
front_of [] xs ys n one two = refl
front_of (c ∷ b) [] ys n one two = absurd (cc)
front_of (c ∷ b) (x ∷ xs) ys zero one two = absurd (cc)
front_of (c ∷ b) (x ∷ xs) [] (suc n) one two = absurd (cc)
front_of (c ∷ b) (x ∷ xs) (y ∷ ys) (suc n) one two =
    let first : c ≡ x = cc in
    let later : b ≡ take (length b) xs = cc in
    let second : x ≡ y = cc in
    let rest : xs ≡ take n ys = cc in
    let head = first ∙ second in
    let tail = front_of b xs ys n later rest in
    λ i. head i ∷ tail i

-- of bytes on their way, what is cut off the first so many is next
pub next_front : (s : Side) (n : ℕ) (way : List ℕ) → next_cut s (take n way) ≡ take (length (next_cut s (take n way))) way
next_front s n way =
    let held = s.incoming.held in
    let within = within_limit s.incoming (take n way) in
    front_of (cut held within) (take n way) way n (front_of (cut held within) within (take n way) (most_fed - fed_count s.incoming) (cut_front held within) refl) refl

-- ---- where a piece is answered so

-- the end stands and has room, the piece is not empty, and what is cut off it broke the bridge
record IsBrokenBy (g : Setting) (s : Side) (piece : List ℕ) (why : Reason) (place : ℕ) : Type 0 where
  up : stands s ≡ true
  may : may g s (fed (next_cut s piece)) ≡ true
  cause : (does g (fed (next_cut s piece)) s).side.cause ≡ Some (cause.Broken why place)

by_after : (b : List ℕ) (c : Option Cause) (why : Reason) (place : ℕ) → after_feeding b c ≡ broken why place → c ≡ Some (cause.Broken why place)
by_after b None why place is = absurd (cc)
by_after b (Some cause.Disposed) why place is = absurd (cc)
by_after b (Some cause.Ended) why place is = absurd (cc)
by_after b (Some cause.Failed) why place is = absurd (cc)
by_after b (Some (cause.Broken w p)) why place is = cc
by_after b (Some cause.Full) why place is = absurd (cc)
by_after b (Some cause.NoMemory) why place is = absurd (cc)

neither : (a b : Bool) → (a || b) ≡ false → (a ≡ false) × (b ≡ false)
neither false false is = (refl, refl)
neither false true is = absurd (true≢false is)
neither true b is = absurd (true≢false is)

by_piece : (g : Setting) (s : Side) (piece : List ℕ) (why : Reason) (place : ℕ) → stands s ≡ true → ends_part s.incoming.held ≡ false → feed_is_full s piece ≡ false → feed_standing g s piece ≡ broken why place → IsBrokenBy g s piece why place
by_piece g s [] why place up part room is = absurd (cc)
by_piece g s (b ∷ bytes) why place up part room is =
    let none = neither (has_entries s) (has_fed s) room in
    record { up = up; may = fed_may g s b bytes up none.0 none.1 part; cause = by_after (next_cut s (b ∷ bytes)) (does g (fed (next_cut s (b ∷ bytes))) s).side.cause why place is }

by_limit : (g : Setting) (s : Side) (piece : List ℕ) (why : Reason) (place : ℕ) → stands s ≡ true → ends_part s.incoming.held ≡ false → (b : Bool) → feed_is_full s piece ≡ b
    → (if b then at_limit else feed_standing g s piece) ≡ broken why place → IsBrokenBy g s piece why place
by_limit g s piece why place up part true room is = absurd (cc)
by_limit g s piece why place up part false room is = by_piece g s piece why place up part room is

by_cause : (g : Setting) (s : Side) (piece : List ℕ) (why : Reason) (place : ℕ) → (stands s ≡ true → ends_part s.incoming.held ≡ false) → (c : Option Cause) → s.cause ≡ c
    → at_end c (if feed_is_full s piece then at_limit else feed_standing g s piece) ≡ broken why place → IsBrokenBy g s piece why place
by_cause g s piece why place part None same is = let up = ap stands_by same in by_limit g s piece why place up (part up) (feed_is_full s piece) refl is
by_cause g s piece why place part (Some cause.Disposed) same is = absurd (cc)
by_cause g s piece why place part (Some cause.Ended) same is = absurd (cc)
by_cause g s piece why place part (Some cause.Failed) same is = absurd (cc)
by_cause g s piece why place part (Some (cause.Broken w p)) same is = absurd (cc)
by_cause g s piece why place part (Some cause.Full) same is = absurd (cc)
by_cause g s piece why place part (Some cause.NoMemory) same is = absurd (cc)

broken_by : (g : Setting) (s : Side) (piece : List ℕ) (why : Reason) (place : ℕ) → (stands s ≡ true → ends_part s.incoming.held ≡ false) → feed_answer g s piece ≡ broken why place → IsBrokenBy g s piece why place
unfolding feed_answer
broken_by g s piece why place part is = by_cause g s piece why place part s.cause refl is

-- ---- how much is taken

nothing_taken : (n : ℕ) → ◌≡◌ {A = List ℕ} (take n []) []
nothing_taken zero = refl
nothing_taken (suc n) = refl

none_cut : (held bytes : List ℕ) → bytes ≡ [] → length (cut held bytes) ≡ 0
unfolding cut
none_cut held [] none = refl
none_cut held (b ∷ bytes) none = absurd (cc)

same_count : (n m : ℕ) → taken n ≡ taken m → m ≡ n
same_count n m is = cc

after_taken : (b : List ℕ) (c : Option Cause) (n : ℕ) → after_feeding b c ≡ taken n → n ≡ length b
after_taken b None n is = same_count (length b) n is
after_taken b (Some cause.Disposed) n is = same_count (length b) n is
after_taken b (Some cause.Ended) n is = same_count (length b) n is
after_taken b (Some cause.Failed) n is = same_count (length b) n is
after_taken b (Some (cause.Broken w p)) n is = absurd (cc)
after_taken b (Some cause.Full) n is = same_count (length b) n is
after_taken b (Some cause.NoMemory) n is = same_count (length b) n is

piece_taken : (g : Setting) (s : Side) (piece : List ℕ) (n : ℕ) → feed_standing g s piece ≡ taken n → n ≡ length (next_cut s piece)
piece_taken g s [] n is = same_count 0 n is ∙ sym (none_cut s.incoming.held (within_limit s.incoming []) (nothing_taken (most_fed - fed_count s.incoming)))
piece_taken g s (b ∷ bytes) n is = after_taken (next_cut s (b ∷ bytes)) (does g (fed (next_cut s (b ∷ bytes))) s).side.cause n is

limit_taken : (g : Setting) (s : Side) (piece : List ℕ) (n : ℕ) (b : Bool) → (if b then at_limit else feed_standing g s piece) ≡ taken n → n ≡ length (next_cut s piece)
limit_taken g s piece n true is = absurd (cc)
limit_taken g s piece n false is = piece_taken g s piece n is

cause_taken : (g : Setting) (s : Side) (piece : List ℕ) (n : ℕ) (c : Option Cause) → at_end c (if feed_is_full s piece then at_limit else feed_standing g s piece) ≡ taken n → n ≡ length (next_cut s piece)
cause_taken g s piece n None is = limit_taken g s piece n (feed_is_full s piece) is
cause_taken g s piece n (Some cause.Disposed) is = absurd (cc)
cause_taken g s piece n (Some cause.Ended) is = absurd (cc)
cause_taken g s piece n (Some cause.Failed) is = absurd (cc)
cause_taken g s piece n (Some (cause.Broken w p)) is = absurd (cc)
cause_taken g s piece n (Some cause.Full) is = absurd (cc)
cause_taken g s piece n (Some cause.NoMemory) is = absurd (cc)

-- as much as is cut off
pub taken_is_cut : (g : Setting) (s : Side) (piece : List ℕ) (n : ℕ) → feed_answer g s piece ≡ taken n → n ≡ length (next_cut s piece)
unfolding feed_answer
taken_is_cut g s piece n is = cause_taken g s piece n s.cause is

-- ---- of two ends

all_push : (g : Setting) (es : List Entry) (e : Entry) → RootsGive g es → RootsGive g (e ∷ []) → RootsGive g (es ++ e ∷ [])
all_push g [] e all is = is
all_push g (f ∷ es) e all is = (all.0, all_push g es e all.1 is)

module _ (g : Settings) (es : List Event) (x y : Told) (to_a to_b : List ℕ) (ends : AreTwoEnds g es x y to_a to_b) where
  -- the ends behind a piece that A was fed, or that B was
  a_fed : (piece : List ℕ) → may (of_a g) x.side (fed piece) ≡ true → piece ≡ take (length piece) to_a
      → AreTwoEnds g (es ++ event_at A (fed piece) ∷ []) (told_more x (fed piece) (turn (fed piece) x.side (does (of_a g) (fed piece) x.side))) y (drop (length piece) to_a) (to_b ++ [])
  a_fed piece can next =
      let e = fed piece in
      record {
        piped = a_goes_on g es to_a to_b ends.piped e tt next;
        leads_a = subst (λ fs. Leads (of_a g) fs (told_more x e (turn e x.side (does (of_a g) e x.side)))) (sym (a_pushed es e)) (leads_push (of_a g) (entries_of A es) e x (turn e x.side (does (of_a g) e x.side)) ends.leads_a (step_is (of_a g) x.side e can));
        leads_b = subst (λ fs. Leads (of_b g) fs y) (sym (b_same es e)) ends.leads_b;
        gives_a = subst (RootsGive (of_a g)) (sym (a_pushed es e)) (all_push (of_a g) (entries_of A es) e ends.gives_a (tt, tt));
        gives_b = subst (RootsGive (of_b g)) (sym (b_same es e)) ends.gives_b;
      }

  b_fed : (piece : List ℕ) → may (of_b g) y.side (fed piece) ≡ true → piece ≡ take (length piece) to_b
      → AreTwoEnds g (es ++ event_at B (fed piece) ∷ []) x (told_more y (fed piece) (turn (fed piece) y.side (does (of_b g) (fed piece) y.side))) (to_a ++ []) (drop (length piece) to_b)
  b_fed piece can next =
      let e = fed piece in
      record {
        piped = b_goes_on g es to_a to_b ends.piped e tt next;
        leads_a = subst (λ fs. Leads (of_a g) fs x) (sym (a_same es e)) ends.leads_a;
        leads_b = subst (λ fs. Leads (of_b g) fs (told_more y e (turn e y.side (does (of_b g) e y.side)))) (sym (b_pushed es e)) (leads_push (of_b g) (entries_of B es) e y (turn e y.side (does (of_b g) e y.side)) ends.leads_b (step_is (of_b g) y.side e can));
        gives_a = subst (RootsGive (of_a g)) (sym (a_same es e)) ends.gives_a;
        gives_b = subst (RootsGive (of_b g)) (sym (b_pushed es e)) (all_push (of_b g) (entries_of B es) e ends.gives_b (tt, tt));
      }

  -- it is never answered that it broke
  pub whole_feed_a : (n : ℕ) (why : Reason) (place : ℕ) → feed_answer (of_a g) x.side (take n to_a) ≡ broken why place → ⊥
  whole_feed_a n why place is =
      let piece = take n to_a in
      let by = broken_by (of_a g) x.side piece why place (part_a g es x y to_a to_b ends) is in
      let cut_off = next_cut x.side piece in
      let e = fed cut_off in
      let whole = whole_a g (es ++ event_at A e ∷ []) (told_more x e (turn e x.side (does (of_a g) e x.side))) y (drop (length cut_off) to_a) (to_b ++ []) (a_fed cut_off by.may (next_front x.side n to_a)) in
      true≢false (sym (ap is_broken by.cause) ∙ whole)

  pub whole_feed_b : (n : ℕ) (why : Reason) (place : ℕ) → feed_answer (of_b g) y.side (take n to_b) ≡ broken why place → ⊥
  whole_feed_b n why place is =
      let piece = take n to_b in
      let by = broken_by (of_b g) y.side piece why place (part_b g es x y to_a to_b ends) is in
      let cut_off = next_cut y.side piece in
      let e = fed cut_off in
      let whole = whole_b g (es ++ event_at B e ∷ []) x (told_more y e (turn e y.side (does (of_b g) e y.side))) (to_a ++ []) (drop (length cut_off) to_b) (b_fed cut_off by.may (next_front y.side n to_b)) in
      true≢false (sym (ap is_broken by.cause) ∙ whole)
