-- A piece that is fed keeps an end in the order: it is the next piece of the order, the rest of it, or a part of it.
use Rattle.std.proofs.Common.{◌≡◌, refl, sym, ap, subst, ◌∙◌, ◌⊎◌, inl, inr, ℕ, ◌+◌, ◌-◌, ◌≤◌, true, false, nat_lt, List, [], ◌∷◌, ◌++◌, length, drop, Some, arith}
use Rattle.std.proofs.lemmas.Bool.{not-false, not_from_true}
use Rattle.std.proofs.lemmas.List.{append_assoc, append-nil, length-append, drop_all, drop_at}
use Rattle.plan_model.specs.Roots.{Run}
use Rattle.bridge_model.specs.Answers.{next_cut}
use Rattle.bridge_model.specs.Entries.{fed, ended}
use Rattle.bridge_model.specs.Feeding.{ends_part}
use Rattle.bridge_model.specs.Histories.{Told, tells}
use Rattle.bridge_model.specs.Settings.{Setting}
use Rattle.bridge_model.specs.Sides.{stands}
use Rattle.bridge_model.specs.Steps.{most_fed, fed_count, has_entries, has_fed}
use Rattle.bridge_laws.specs.Working.{Reaches, AllIsDone, IsInOrder}
use Rattle.bridge_laws.proofs.CutLaws.{cut_within, cut_none, IsShort, cut_or_short, left_behind, drop_parts}
use Rattle.bridge_laws.proofs.PartLaws.{room_behind, fits_behind, fits_before, may_be_fed, may_where, behind, part_is_told, tells_both}
use Rattle.bridge_laws.proofs.WorkingLaws.{here, reaches_on, once_ended, once_fed, stands_whole, stands_on, stands_in_part, InPart, by_place}

-- how many bytes more may be fed
abbrev room : Told → ℕ
room t = most_fed - fed_count t.side.incoming

-- ---- a piece of the order, and a part of one

piece_on : (g : Setting) (bytes : List ℕ) (x u : Told) (runs : List Run) (b : ℕ) (rest piece : List ℕ) → Reaches g bytes (here x runs (b ∷ rest))
    → AllIsDone g x.side runs → stands x.side ≡ true → has_entries x.side ≡ false → has_fed x.side ≡ false → next_cut x.side (b ∷ rest) ≡ piece
    → tells g x (fed piece) ≡ Some u → Reaches g bytes (here u runs (drop (length piece) (b ∷ rest)))
piece_on g bytes x u runs b rest piece there done standing few less is told =
    reaches_on g bytes (here x runs (b ∷ rest)) (here u runs (drop (length piece) (b ∷ rest))) there (once_fed g x u runs b rest piece done standing few less is told)

part_on : (g : Setting) (bytes : List ℕ) (x u : Told) (runs : List Run) (b : ℕ) (part rest : List ℕ) → Reaches g bytes (here x runs (b ∷ (part ++ rest)))
    → AllIsDone g x.side runs → ends_part (x.side.incoming.held ++ b ∷ part) ≡ false
    → nat_lt (x.side.incoming.place + length (x.side.incoming.held ++ b ∷ part)) most_fed ≡ true → tells g x (fed (b ∷ part)) ≡ Some u → IsInOrder g bytes u runs rest
part_on g bytes x u runs b part rest there done ends_nothing fits told =
    let allowed = may_where g x u (fed (b ∷ part)) told in
    let same = part_is_told g x u (b ∷ part) allowed ends_nothing told in
    let left : has_fed (behind x (b ∷ part)).side ≡ false = not_from_true _ fits in
    stands_in_part g bytes x u runs b part rest there
    (record { done = done; allowed = allowed; told = told; ends_nothing = ends_nothing; more = subst (λ z. has_fed z.side ≡ false) same left })

-- nothing is left of a piece that is fed whole
none_left : (c piece more : List ℕ) → c ≡ piece → more ≡ drop (length c) piece ++ more
none_left c piece more is = sym (ap (λ z. drop (length z) piece ++ more) is ∙ ap (λ z. z ++ more) (drop_all (length piece) piece (omega arith)))

-- ---- where the order stands

whole_cut : (g : Setting) (bytes : List ℕ) (t u : Told) (runs : List Run) (b : ℕ) (piece more : List ℕ) → Reaches g bytes (here t runs (b ∷ (piece ++ more)))
    → AllIsDone g t.side runs → stands t.side ≡ true → has_entries t.side ≡ false → has_fed t.side ≡ false → tells g t (fed (next_cut t.side (b ∷ piece))) ≡ Some u
    → next_cut t.side (b ∷ (piece ++ more)) ≡ next_cut t.side (b ∷ piece) → IsInOrder g bytes u runs (drop (length (next_cut t.side (b ∷ piece))) (b ∷ piece) ++ more)
whole_cut g bytes t u runs b piece more there done standing few less told same =
    let next = piece_on g bytes t u runs b (piece ++ more) (next_cut t.side (b ∷ piece)) there done standing few less same told in
    stands_whole g bytes u runs _ (subst (λ z. Reaches g bytes (here u runs z)) (left_behind (room t) t.side.incoming.held (b ∷ piece) more) next)

whole_short : (g : Setting) (bytes : List ℕ) (t u : Told) (runs : List Run) (b : ℕ) (piece more : List ℕ) → Reaches g bytes (here t runs (b ∷ (piece ++ more)))
    → AllIsDone g t.side runs → tells g t (fed (next_cut t.side (b ∷ piece))) ≡ Some u → IsShort (room t) t.side.incoming.held (b ∷ piece)
    → IsInOrder g bytes u runs (drop (length (next_cut t.side (b ∷ piece))) (b ∷ piece) ++ more)
whole_short g bytes t u runs b piece more there done told short =
    let held = t.side.incoming.held in
    let fits = fits_behind most_fed t.side.incoming.place (length held) (length (held ++ b ∷ piece)) (length (b ∷ piece)) (length-append held (b ∷ piece)) short.fits in
    let all = subst (λ c. tells g t (fed c) ≡ Some u) short.all told in
    subst (IsInOrder g bytes u runs) (none_left (next_cut t.side (b ∷ piece)) (b ∷ piece) more short.all)
    (part_on g bytes t u runs b piece more there done short.ends_nothing fits all)

whole_fed : (g : Setting) (bytes : List ℕ) (t u : Told) (runs : List Run) (b : ℕ) (piece more : List ℕ) → Reaches g bytes (here t runs (b ∷ (piece ++ more)))
    → AllIsDone g t.side runs → stands t.side ≡ true → has_entries t.side ≡ false → has_fed t.side ≡ false → tells g t (fed (next_cut t.side (b ∷ piece))) ≡ Some u
    → IsInOrder g bytes u runs (drop (length (next_cut t.side (b ∷ piece))) (b ∷ piece) ++ more)
whole_fed g bytes t u runs b piece more there done standing few less told = by_cut (cut_or_short (room t) t.side.incoming.held b piece more)
  where
    by_cut : (next_cut t.side (b ∷ (piece ++ more)) ≡ next_cut t.side (b ∷ piece)) ⊎ IsShort (room t) t.side.incoming.held (b ∷ piece)
        → IsInOrder g bytes u runs (drop (length (next_cut t.side (b ∷ piece))) (b ∷ piece) ++ more)
    by_cut (inl same) = whole_cut g bytes t u runs b piece more there done standing few less told same
    by_cut (inr short) = whole_short g bytes t u runs b piece more there done told short

-- ---- behind a part that is fed

-- before the part there was room for it and for more
record HadRoom (x : Told) (part : List ℕ) : Type 0 where
  pub standing : stands x.side ≡ true
  pub few : has_entries x.side ≡ false
  pub less : has_fed x.side ≡ false
  pub room : most_fed - fed_count x.side.incoming ≡ length part + (most_fed - fed_count (behind x part).side.incoming)

had_room : (g : Setting) (runs : List Run) (rest : List ℕ) (x : Told) (b : ℕ) (part : List ℕ) → InPart g runs rest x b part → HadRoom x (b ∷ part)
had_room g runs rest x b part part_fed =
    let place = x.side.incoming.place in
    let held = x.side.incoming.held in
    let first = may_be_fed g x.side (b ∷ part) part_fed.allowed in
    let within = not-false (nat_lt (place + length (held ++ b ∷ part)) most_fed) part_fed.more in
    let long = length-append held (b ∷ part) in
    record {
      standing = first.standing;
      few = first.few;
      less = not_from_true _ (fits_before most_fed place (length held) (length (held ++ b ∷ part)) (length (b ∷ part)) long within);
      room = room_behind most_fed place (length held) (length (held ++ b ∷ part)) (length (b ∷ part)) long within;
    }

more_cut : (g : Setting) (bytes : List ℕ) (x u : Told) (runs : List Run) (d : ℕ) (part : List ℕ) (b : ℕ) (piece more c : List ℕ)
    → Reaches g bytes (here x runs (d ∷ (part ++ b ∷ (piece ++ more)))) → InPart g runs (b ∷ (piece ++ more)) x d part → tells g x (fed ((d ∷ part) ++ c)) ≡ Some u
    → next_cut (behind x (d ∷ part)).side (b ∷ (piece ++ more)) ≡ c → drop (length c) ((b ∷ piece) ++ more) ≡ drop (length c) (b ∷ piece) ++ more
    → IsInOrder g bytes u runs (drop (length c) (b ∷ piece) ++ more)
more_cut g bytes x u runs d part b piece more c there part_fed told same left =
    let had = had_room g runs (b ∷ (piece ++ more)) x d part part_fed in
    let cuts =
    cut_within x.side.incoming.held (d ∷ part) (b ∷ (piece ++ more)) (room x) (room (behind x (d ∷ part))) part_fed.ends_nothing had.room ∙ ap (λ z. (d ∷ part) ++ z) same in
    let next = piece_on g bytes x u runs d (part ++ b ∷ (piece ++ more)) ((d ∷ part) ++ c) there part_fed.done had.standing had.few had.less cuts told in
    stands_whole g bytes u runs _ (subst (λ z. Reaches g bytes (here u runs z)) (drop_parts (d ∷ part) c (b ∷ (piece ++ more)) ∙ left) next)

more_short : (g : Setting) (bytes : List ℕ) (x u : Told) (runs : List Run) (d : ℕ) (part : List ℕ) (b : ℕ) (piece more : List ℕ)
    → Reaches g bytes (here x runs (d ∷ (part ++ b ∷ (piece ++ more)))) → AllIsDone g x.side runs → tells g x (fed ((d ∷ part) ++ b ∷ piece)) ≡ Some u
    → IsShort (room (behind x (d ∷ part))) (x.side.incoming.held ++ d ∷ part) (b ∷ piece) → IsInOrder g bytes u runs more
more_short g bytes x u runs d part b piece more there done told short =
    let held = x.side.incoming.held in
    let parts = append_assoc held (d ∷ part) (b ∷ piece) in
    let long = ap length (sym parts) ∙ length-append (held ++ d ∷ part) (b ∷ piece) in
    let fits =
    fits_behind most_fed x.side.incoming.place (length (held ++ d ∷ part)) (length (held ++ ((d ∷ part) ++ b ∷ piece))) (length (b ∷ piece)) long short.fits in
    let turned = subst (λ z. Reaches g bytes (here x runs (d ∷ z))) (sym (append_assoc part (b ∷ piece) more)) there in
    part_on g bytes x u runs d (part ++ b ∷ piece) more turned done (subst (λ z. ends_part z ≡ false) parts short.ends_nothing) fits told

more_fed : (g : Setting) (bytes : List ℕ) (x u : Told) (runs : List Run) (d : ℕ) (part : List ℕ) (b : ℕ) (piece more : List ℕ)
    → Reaches g bytes (here x runs (d ∷ (part ++ b ∷ (piece ++ more)))) → InPart g runs (b ∷ (piece ++ more)) x d part
    → tells g (behind x (d ∷ part)) (fed (next_cut (behind x (d ∷ part)).side (b ∷ piece))) ≡ Some u
    → IsInOrder g bytes u runs (drop (length (next_cut (behind x (d ∷ part)).side (b ∷ piece))) (b ∷ piece) ++ more)
more_fed g bytes x u runs d part b piece more there part_fed told = by_cut (cut_or_short (room now) now.side.incoming.held b piece more)
  where
    now : Told
    now = behind x (d ∷ part)

    c : List ℕ
    c = next_cut (behind x (d ∷ part)).side (b ∷ piece)

    both : tells g x (fed ((d ∷ part) ++ c)) ≡ Some u
    both = tells_both g x (d ∷ part) c refl (may_where g now u (fed c) told) ∙ told

    by_cut : (next_cut now.side (b ∷ (piece ++ more)) ≡ c) ⊎ IsShort (room now) now.side.incoming.held (b ∷ piece) → IsInOrder g bytes u runs (drop (length c) (b ∷ piece) ++ more)
    by_cut (inl same) = more_cut g bytes x u runs d part b piece more c there part_fed both same (left_behind (room now) now.side.incoming.held (b ∷ piece) more)
    by_cut (inr short) =
        let all = subst (λ z. tells g x (fed ((d ∷ part) ++ z)) ≡ Some u) short.all both in
        subst (IsInOrder g bytes u runs) (none_left c (b ∷ piece) more short.all) (more_short g bytes x u runs d part b piece more there part_fed.done all short)

-- a piece is fed, wherever the end stands
pub feeding_keeps : (g : Setting) (bytes : List ℕ) (t u : Told) (runs : List Run) (b : ℕ) (piece more : List ℕ) → IsInOrder g bytes t runs (b ∷ piece ++ more)
    → AllIsDone g t.side runs → stands t.side ≡ true → has_entries t.side ≡ false → has_fed t.side ≡ false → tells g t (fed (next_cut t.side (b ∷ piece))) ≡ Some u
    → IsInOrder g bytes u runs (drop (length (next_cut t.side (b ∷ piece))) (b ∷ piece) ++ more)
feeding_keeps g bytes t u runs b piece more is =
    by_place
    (λ z. AllIsDone g z.side runs → stands z.side ≡ true → has_entries z.side ≡ false → has_fed z.side ≡ false → tells g z (fed (next_cut z.side (b ∷ piece))) ≡ Some u
    → IsInOrder g bytes u runs (drop (length (next_cut z.side (b ∷ piece))) (b ∷ piece) ++ more))
    is
    (λ there done standing few less told. whole_fed g bytes t u runs b piece more there done standing few less told)
    (λ x d part there part_fed done standing few less told. more_fed g bytes x u runs d part b piece more there part_fed told)

-- ---- the end of the input

-- behind a part that is fed the order feeds it first
reaches_behind : (g : Setting) (bytes : List ℕ) (x : Told) (runs : List Run) (d : ℕ) (part : List ℕ) → Reaches g bytes (here x runs (d ∷ (part ++ [])))
    → InPart g runs [] x d part → Reaches g bytes (here (behind x (d ∷ part)) runs [])
reaches_behind g bytes x runs d part there part_fed =
    let had = had_room g runs [] x d part part_fed in
    let room_was = had.room in
    let fits : length (d ∷ part) ≤ room x = omega (arith, room_was) in
    let cuts = ap (next_cut x.side) (append-nil (d ∷ part)) ∙ cut_none x.side.incoming.held (d ∷ part) (room x) part_fed.ends_nothing fits in
    let next =
    piece_on g bytes x (behind x (d ∷ part)) runs d (part ++ []) (d ∷ part) there part_fed.done had.standing had.few had.less cuts part_fed.told in
    subst (λ z. Reaches g bytes (here (behind x (d ∷ part)) runs z)) (drop_at (d ∷ part) [] (length (d ∷ part)) refl) next

-- so the order reaches each place in order at which no byte is to come
pub reaches_end : (g : Setting) (bytes : List ℕ) (t : Told) (runs : List Run) → IsInOrder g bytes t runs [] → Reaches g bytes (here t runs [])
reaches_end g bytes t runs is =
    by_place (λ z. Reaches g bytes (here z runs [])) is (λ there. there) (λ x d part there part_fed. reaches_behind g bytes x runs d part there part_fed)

pub end_keeps : (g : Setting) (bytes : List ℕ) (t u : Told) (runs : List Run) → IsInOrder g bytes t runs [] → AllIsDone g t.side runs → stands t.side ≡ true
    → tells g t ended ≡ Some u → IsInOrder g bytes u runs []
end_keeps g bytes t u runs is done standing told =
    stands_on g bytes (here t runs []) u runs [] (reaches_end g bytes t runs is) (once_ended g t u runs done standing told)
