-- What the peer sent is paid for, over every history of an end that stands: each pair of the peer's is held, or was released as often as it came.
use Rattle.std.proofs.Common.{◌≡◌, refl, sym, ap, ◌∙◌, subst, ℕ, suc, ◌+◌, ◌&&◌, Bool, true, false, not, if◌then◌else◌, List, [], ◌∷◌, length, drop, arith}
use Rattle.std.proofs.lemmas.Bool.{and_parts}
use Rattle.std.proofs.lemmas.List.{drop_at}
use Rattle.std.specs.List.{AllByRecursion, list_all}
use Rattle.message_model.specs.Messages.{Message}
use Rattle.table_model.specs.Holdings.{Hold, Holdings}
use Rattle.table_model.specs.Pair.{Pair}
use Rattle.plan_model.specs.Plans.{first_objects}
use Rattle.bridge_model.specs.Ends.{ends_by}
use Rattle.bridge_model.specs.Entries.{Entry, fed, ended, failed, asked, called, queried, made, dropped, applied, took, reaped, drained, disposed, full, no_memory, counts}
use Rattle.bridge_model.specs.Feeding.{feeds, takes_block, holds_bytes}
use Rattle.bridge_model.specs.Going.{drains}
use Rattle.bridge_model.specs.Histories.{Told, told_more, Leads}
use Rattle.bridge_model.specs.Objects.{makes_default, makes_all}
use Rattle.bridge_model.specs.References.{is_held, refs_of_values}
use Rattle.bridge_model.specs.Roots.{holds_each, holds_pair}
use Rattle.bridge_model.specs.Settings.{Setting, is_own, is_told}
use Rattle.bridge_model.specs.Sides.{Side, Tables, stands}
use Rattle.bridge_model.specs.Steps.{turn, no_objects, opening, has_entries, may_begin, may, does}
use Rattle.bridge_laws.specs.Counting.{total, one_if, releases_of, brings}
use Rattle.bridge_laws.specs.Living.{entry_refs, are_told, plan_constants}
use Rattle.bridge_laws.proofs.ApplyingCountLaws.{makes_all_counts}
use Rattle.bridge_laws.proofs.CoveringLaws.{opening_covers, does_covers}
use Rattle.bridge_laws.proofs.FrameCountLaws.{stacks_count, objects_count}
use Rattle.bridge_laws.proofs.HearingLaws.{along_feeds}
use Rattle.bridge_laws.proofs.PaidApplyingLaws.{makes_default_pays}
use Rattle.bridge_laws.proofs.PaidEntryLaws.{Moves, all_told, root_calls_moves, root_queries_moves, root_asks_moves, root_makes_moves, root_drops_moves, root_takes_moves, reaps_moves}
use Rattle.bridge_laws.proofs.PaidSideLaws.{InOrder, Settles, paid_as, read_settles}
use Rattle.bridge_laws.proofs.PaidStatementLaws.{applied_moves}
use Rattle.bridge_laws.proofs.PayingLaws.{some_of, held_once, stray, Paid, Pays, pays_same, paid_on, pays_on}
use Rattle.bridge_laws.proofs.RootedLaws.{IsKeptWhere, along_replay_where}
use Rattle.bridge_laws.proofs.SideLaws.{SideCovers}
use Rattle.bridge_laws.specs.Grounded.{AreApart}
use Rattle.bridge_laws.proofs.SeatLaws.{are_seated}
use Rattle.bridge_laws.proofs.StandingLaws.{no_more, same_standing, stood}
use Rattle.bridge_laws.proofs.Sums.{total_append, total_push}

-- ---- an entry

-- what an entry says and gets: it is paid, and all is in order behind it
pub record Turned (g : Setting) (p : Pair) (got said : List Message) (s s' : Side) : Type 0 where
  pub paid : total (brings g p) got + held_once p s.tables.holdings ≡ held_once p s'.tables.holdings + total (releases_of p) said
  pub order : InOrder g s'

new_behind : {p : Pair} {got : ℕ} {before after : List Message} {hs hs_now : Holdings} → Paid p got before after hs hs_now
    → got + held_once p hs ≡ held_once p hs_now + total (releases_of p) (drop (length before) after)
new_behind {p} {got} {before} {after} {hs} {hs_now} paid =
    let new : drop (length before) after ≡ paid.new = ap (drop (length before)) paid.said ∙ drop_at before paid.new (length before) refl in
    let same : total (releases_of p) (drop (length before) after) ≡ total (releases_of p) paid.new = ap (total (releases_of p)) new in
    let is = paid.paid in omega arith

counted_order : (g : Setting) (b : Bool) (s : Side) → InOrder g s → InOrder g (if b then record s { entries = suc s.entries } else s)
counted_order g true s order = record { covered = order.covered; free = order.free; seated = order.seated; apart = order.apart }
counted_order g false s order = order

pub counted_held : (p : Pair) (b : Bool) (s : Side) → held_once p (if b then record s { entries = suc s.entries } else s).tables.holdings ≡ held_once p s.tables.holdings
counted_held p true s = refl
counted_held p false s = refl

nothing_brought : (g : Setting) (p : Pair) → total (brings g p) [] ≡ 0
unfolding total
nothing_brought g p = refl

nothing_released : (p : Pair) → total (releases_of p) [] ≡ 0
unfolding total
nothing_released p = refl

-- an entry that brings nothing
turned_by : (g : Setting) (p : Pair) (s s' : Side) → ((h : Hold) → SideCovers g h s') → Moves g p s s' → Turned g p [] (drop (length s.tables.unsaid) s'.tables.unsaid) s s'
turned_by g p s s' covers moves =
    record {
      paid = let nothing = nothing_brought g p in let new = new_behind moves.pays in omega arith;
      order = record { covered = covers; free = moves.free; seated = moves.seated; apart = moves.apart };
    }

-- other bytes that came in
pub came_in_order : (g : Setting) (p : Pair) (s s' : Side) → s'.tables ≡ s.tables → s'.stacks ≡ s.stacks → InOrder g s → InOrder g s'
came_in_order g p s s' tables stacks order =
    record {
      covered = λ h. let fine = order.covered h in subst (λ t. SideCovers g h (record s' { tables = t })) (sym tables) (subst (λ ss. SideCovers g h (record s' { tables = s.tables; stacks = ss })) (sym stacks) fine);
      free =
          let before = order.free in
          let left : stacks_count (stray g) s'.stacks ≡ stacks_count (stray g) s.stacks = ap (stacks_count (stray g)) stacks in
          let right : objects_count (stray g) s'.tables.objects ≡ objects_count (stray g) s.tables.objects = ap (λ t. objects_count (stray g) t.objects) tables in omega arith;
      seated = ap are_seated stacks ∙ order.seated;
      apart = subst AreApart (sym stacks) order.apart;
    }

first_settled : (g : Setting) (p : Pair) (s s' : Side) → s'.tables ≡ s.tables → s'.stacks ≡ s.stacks → InOrder g s → Settles g p (total (brings g p) []) s s'
first_settled g p s s' tables stacks order =
    record {
      pays = paid_as (sym (nothing_brought g p)) (subst (λ t. Pays p 0 s.tables t) (sym tables) (pays_same p s.tables));
      order = came_in_order g p s s' tables stacks order;
    }

fifth_of : (a b c d e f : Bool) → (a && (b && (c && (d && (e && f))))) ≡ true → e ≡ true
fifth_of a b c d e f is =
    let behind = and_parts c (d && (e && f)) (and_parts b (c && (d && (e && f))) (and_parts a (b && (c && (d && (e && f)))) is).1).1 in
    (and_parts e f (and_parts d (e && f) behind.1).1).0

module _ (g : Setting) (p : Pair) (foreign : is_own g p.oid ≡ false) (closed : plan_constants g.plan ≡ []) where
  fed_settles : (piece : List ℕ) (s : Side) → stands (feeds g piece s).side ≡ true → InOrder g s
      → Settles g p (total (brings g p) (feeds g piece s).got) s (feeds g piece s).side
  fed_settles piece s up order =
      along_feeds g (λ x. Settles g p (total (brings g p) x.got) s x.side)
      (λ bytes read x got is so_far.
      let here = read_settles g p foreign bytes read x.side got so_far.order in
      record { pays = paid_as (sym (total_push (brings g p) x.got read.0)) (paid_on so_far.pays here.pays); order = here.order })
      piece s
      (λ bytes. first_settled g p s (takes_block bytes s) refl refl order)
      (λ bytes. first_settled g p s (holds_bytes bytes s) refl refl order)
      up

  settled_turns : (got : List Message) (s s' : Side) → Settles g p (total (brings g p) got) s s' → Turned g p got (drop (length s.tables.unsaid) s'.tables.unsaid) s s'
  settled_turns got s s' settles = record { paid = new_behind settles.pays; order = settles.order }

  drained_turns : (n : ℕ) (s : Side) → InOrder g s → Turned g p [] [] s (drains g n s)
  unfolding drains
  drained_turns n s order =
      record {
        paid = let left = nothing_brought g p in let right = nothing_released p in omega arith;
        order = record { covered = order.covered; free = order.free; seated = order.seated; apart = order.apart };
      }

  entry_turns : (e : Entry) (s : Side) → may g s e ≡ true → list_all (is_told g) (entry_refs e) ≡ true → stands s ≡ true → stands (does g e s).side ≡ true → InOrder g s
      → ((h : Hold) → SideCovers g h (does g e s).side) → Turned g p (turn e s (does g e s)).got (turn e s (does g e s)).said s (does g e s).side
  unfolding may does ends_by
  entry_turns (fed b) s can told before up order covers = settled_turns (feeds g b s).got s (feeds g b s).side (fed_settles b s up order)
  entry_turns ended s can told before up order covers = absurd (cc)
  entry_turns failed s can told before up order covers = absurd (cc)
  entry_turns (asked root name wanted) s can told before up order covers = turned_by g p s _ covers (root_asks_moves g p foreign root name wanted s order)
  entry_turns (called root oid face function args) s can told before up order covers =
      turned_by g p s _ covers (root_calls_moves g p foreign root oid face function args s (all_told g (refs_of_values args) told) (fifth_of (stands s) (not (has_entries s)) (may_begin g root s) (holds_pair root oid face s.tables) (holds_each root (refs_of_values args) s.tables) (list_all (is_told g) (refs_of_values args)) can) order)
  entry_turns (queried root oid face wanted) s can told before up order covers = turned_by g p s _ covers (root_queries_moves g p foreign root oid face wanted s order)
  entry_turns (made root behaviour wanted) s can told before up order covers = turned_by g p s _ covers (root_makes_moves g p foreign root behaviour wanted s order)
  entry_turns (dropped root oid face) s can told before up order covers = turned_by g p s _ covers (root_drops_moves g p foreign root oid face s before order)
  entry_turns (applied tid) s can told before up order covers = turned_by g p s _ covers (applied_moves g p foreign closed tid s order up)
  entry_turns (took root) s can told before up order covers = turned_by g p s _ covers (root_takes_moves g p foreign root s order)
  entry_turns (reaped object) s can told before up order covers = turned_by g p s _ covers (reaps_moves g p foreign s before order)
  entry_turns (drained b) s can told before up order covers = drained_turns (length b) s order
  entry_turns disposed s can told before up order covers = absurd (cc)
  entry_turns full s can told before up order covers = absurd (cc)
  entry_turns no_memory s can told before up order covers = absurd (no_more s.cause s up)

  -- ---- histories

  -- what an end got is paid, where it stands
  abbrev pub AllPaid : Told → Type 0
  AllPaid x = stands x.side ≡ true → (total (brings g p) x.got ≡ held_once p x.side.tables.holdings + total (releases_of p) x.said) × InOrder g x.side

  paid_more : (x : Told) (e : Entry) → Turned g p (turn e x.side (does g e x.side)).got (turn e x.side (does g e x.side)).said x.side (does g e x.side).side
      → total (brings g p) x.got ≡ held_once p x.side.tables.holdings + total (releases_of p) x.said → held_once p (turn e x.side (does g e x.side)).side.tables.holdings ≡ held_once p (does g e x.side).side.tables.holdings
      → total (brings g p) (told_more x e (turn e x.side (does g e x.side))).got
      ≡ held_once p (told_more x e (turn e x.side (does g e x.side))).side.tables.holdings + total (releases_of p) (told_more x e (turn e x.side (does g e x.side))).said
  paid_more x e turns so_far same =
      let got = total_append (brings g p) x.got (turn e x.side (does g e x.side)).got in
      let said = total_append (releases_of p) x.said (turn e x.side (does g e x.side)).said in
      let is = turns.paid in omega arith

  makes_all_pays : (behaviours : List ℕ) (t : Tables) → Pays p 0 t (makes_all g behaviours t)
  unfolding makes_all
  makes_all_pays [] t = pays_same p t
  makes_all_pays (behaviour ∷ rest) t = pays_on (makes_default_pays g p foreign behaviour t) (makes_all_pays rest (makes_default g behaviour t))

  opening_pays : Pays p 0 (no_objects g.plan) (opening g).tables
  unfolding opening
  opening_pays = makes_all_pays (first_objects g.plan) (no_objects g.plan)

  none_held : held_once p [] ≡ 0
  unfolding some_of
  none_held = refl

  pub opening_paid : total (brings g p) [] ≡ held_once p (opening g).tables.holdings + total (releases_of p) []
  opening_paid =
      let paid = opening_pays.paid in
      let before = none_held in
      let left = nothing_brought g p in
      let right = nothing_released p in omega arith

  pub opening_in_order : InOrder g (opening g)
  unfolding opening are_seated AreApart total
  opening_in_order =
      record {
        covered = λ h. opening_covers g h;
        free = let made = makes_all_counts (stray g) g (first_objects g.plan) (no_objects g.plan) in omega arith;
        seated = refl;
        apart = tt;
      }

  pub paid_kept : IsKeptWhere g (λ e. list_all (is_told g) (entry_refs e) ≡ true) AllPaid
  paid_kept x e told so_far can up =
      let here : stands (does g e x.side).side ≡ true = sym (same_standing g e x.side) ∙ up in
      let before = stood g e x.side can here in
      let parts = so_far before in
      let turns = entry_turns e x.side can told before here parts.1 (λ h. does_covers g e h x.side (parts.1.covered h)) in
      (paid_more x e turns parts.0 (counted_held p (counts e) (does g e x.side).side), counted_order g (counts e) (does g e x.side).side turns.order)

pub each_told : (g : Setting) (es : List Entry) → are_told g es ≡ true → AllByRecursion (λ e. list_all (is_told g) (entry_refs e) ≡ true) es
unfolding are_told
each_told g [] told = tt
each_told g (e ∷ es) told = let parts = and_parts (list_all (is_told g) (entry_refs e)) (are_told g es) told in (parts.0, each_told g es parts.1)

-- what the peer sent is held, or was released as often as it came
pub all_paid : (g : Setting) (es : List Entry) (x : Told) (p : Pair) → plan_constants g.plan ≡ [] → are_told g es ≡ true → Leads g es x → stands x.side ≡ true
    → is_own g p.oid ≡ false → total (brings g p) x.got ≡ one_if (is_held p.oid p.face x.side.tables) + total (releases_of p) x.said
unfolding some_of
all_paid g es x p closed told leads up foreign =
    (along_replay_where g (λ e. list_all (is_told g) (entry_refs e) ≡ true) (AllPaid g p foreign closed)
    (λ up. (opening_paid g p foreign closed, opening_in_order g p foreign closed)) (paid_kept g p foreign closed) es (each_told g es told) x leads up).0
