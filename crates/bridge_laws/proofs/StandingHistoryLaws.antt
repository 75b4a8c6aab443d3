-- What stands behind messages over every history: each message that used a pair of the peer's has a release of it behind it, or the pair is held.
use Rattle.std.proofs.Common.{◌≡◌, refl, sym, ap, ◌∙◌, subst, ℕ, ◌+◌, ◌≤◌, true, false, List, [], ◌∷◌, ◌++◌, length, drop, arith}
use Rattle.std.proofs.lemmas.Bool.{and_parts}
use Rattle.std.proofs.lemmas.List.{drop_at}
use Rattle.std.specs.List.{AllByRecursion, list_all}
use Rattle.message_model.specs.Messages.{Message}
use Rattle.table_model.specs.Pair.{Pair}
use Rattle.bridge_model.specs.Ends.{ends_by}
use Rattle.bridge_model.specs.Entries.{Entry, fed, ended, failed, asked, called, queried, made, dropped, applied, took, reaped, drained, disposed, full, no_memory, counts}
use Rattle.bridge_model.specs.Going.{drains}
use Rattle.bridge_model.specs.Histories.{Told, told_more, Leads}
use Rattle.bridge_model.specs.References.{is_held}
use Rattle.bridge_model.specs.Settings.{Setting, is_own, is_told}
use Rattle.bridge_model.specs.Sides.{Side, stands}
use Rattle.bridge_model.specs.Steps.{turn, may, does}
use Rattle.bridge_laws.specs.Counting.{total, one_if, releases_of}
use Rattle.bridge_laws.specs.Living.{entry_refs, are_told, plan_constants}
use Rattle.bridge_laws.specs.Standing.{Stands, asks_by_name, asks_names}
use Rattle.bridge_laws.proofs.LivingLaws.{called_held, queried_held}
use Rattle.bridge_laws.proofs.PaidLaws.{counted_held, AllPaid, opening_paid, opening_in_order, paid_kept, each_told}
use Rattle.bridge_laws.proofs.PaidSideLaws.{InOrder}
use Rattle.bridge_laws.proofs.PayingLaws.{some_of, held_once}
use Rattle.bridge_laws.proofs.RootedLaws.{IsKeptWhere, along_replay_where}
use Rattle.bridge_laws.proofs.StandingLaws.{no_more, same_standing, stood}
use Rattle.bridge_laws.proofs.StandingSideLaws.{fed_upholds, root_asks_upholds, root_calls_upholds, root_queries_upholds, root_makes_upholds, root_drops_upholds, root_takes_upholds, reaps_upholds, applied_upholds}
use Rattle.bridge_laws.proofs.StandingTableLaws.{Upholds, stands_on}

-- ---- an entry

-- what an entry says keeps what stands behind all messages before it
record KeepsStanding (p : Pair) (said : List Message) (s s' : Side) : Type 0 where
  pub kept : held_once p s.tables.holdings ≤ held_once p s'.tables.holdings + total (releases_of p) said
  pub behind : Stands p (held_once p s'.tables.holdings) said

keeps_by : (p : Pair) (s s' : Side) → Upholds p s.tables s'.tables → KeepsStanding p (drop (length s.tables.unsaid) s'.tables.unsaid) s s'
keeps_by p s s' upholds =
    subst (λ said. KeepsStanding p said s s')
    (sym (drop_at s.tables.unsaid upholds.new (length s.tables.unsaid) refl) ∙ ap (drop (length s.tables.unsaid)) (sym upholds.said))
    (record { kept = upholds.kept; behind = upholds.behind })

drained_keeps : (p : Pair) (g : Setting) (n : ℕ) (s : Side) → KeepsStanding p [] s (drains g n s)
unfolding drains total Stands
drained_keeps p g n s = record { kept = omega arith; behind = tt }

module _ (g : Setting) (p : Pair) (foreign : is_own g p.oid ≡ false) (closed : plan_constants g.plan ≡ []) where
  entry_keeps : (e : Entry) (s : Side) → may g s e ≡ true → asks_by_name e ≡ true → stands s ≡ true → stands (does g e s).side ≡ true → InOrder g s
      → KeepsStanding p (turn e s (does g e s)).said s (does g e s).side
  unfolding does ends_by
  entry_keeps (fed b) s can other before up order = keeps_by p s _ (fed_upholds g p foreign b s up order)
  entry_keeps ended s can other before up order = absurd (cc)
  entry_keeps failed s can other before up order = absurd (cc)
  entry_keeps (asked root name wanted) s can other before up order = keeps_by p s _ (root_asks_upholds p g root name wanted s other)
  entry_keeps (called root oid face function args) s can other before up order =
      let held = called_held g root oid face function args s can in
      keeps_by p s _ (root_calls_upholds p g root oid face function args s held.0 held.1)
  entry_keeps (queried root oid face wanted) s can other before up order =
      keeps_by p s _ (root_queries_upholds g p foreign root oid face wanted s (queried_held g root oid face wanted s can))
  entry_keeps (made root behaviour wanted) s can other before up order = keeps_by p s _ (root_makes_upholds p g root behaviour wanted s)
  entry_keeps (dropped root oid face) s can other before up order = keeps_by p s _ (root_drops_upholds g p foreign root oid face s before)
  entry_keeps (applied tid) s can other before up order = keeps_by p s _ (applied_upholds g p foreign closed tid s order up)
  entry_keeps (took root) s can other before up order = keeps_by p s _ (root_takes_upholds p root s)
  entry_keeps (reaped object) s can other before up order = keeps_by p s _ (reaps_upholds g p foreign s before order)
  entry_keeps (drained b) s can other before up order = drained_keeps p g (length b) s
  entry_keeps disposed s can other before up order = absurd (cc)
  entry_keeps full s can other before up order = absurd (cc)
  entry_keeps no_memory s can other before up order = absurd (no_more s.cause s up)

  -- ---- histories

  -- what an end said stands, where it stands itself
  abbrev AllStand : Told → Type 0
  AllStand x = stands x.side ≡ true → Stands p (held_once p x.side.tables.holdings) x.said

  -- arguments tell their references right, and what is asked for is a name
  abbrev IsFit : Entry → Type 0
  IsFit e = (list_all (is_told g) (entry_refs e) ≡ true) × (asks_by_name e ≡ true)

  stands_more : (x : Told) (e : Entry) → KeepsStanding p (turn e x.side (does g e x.side)).said x.side (does g e x.side).side → Stands p (held_once p x.side.tables.holdings) x.said
      → Stands p (held_once p (turn e x.side (does g e x.side)).side.tables.holdings) (told_more x e (turn e x.side (does g e x.side))).said
  stands_more x e keeps so_far =
      subst (λ n. Stands p n (x.said ++ (turn e x.side (does g e x.side)).said)) (sym (counted_held p (counts e) (does g e x.side).side))
      (stands_on p (held_once p x.side.tables.holdings) (held_once p (does g e x.side).side.tables.holdings) x.said (turn e x.side (does g e x.side)).said keeps.kept so_far keeps.behind)

  all_kept : IsKeptWhere g IsFit (λ x. AllPaid g p foreign closed x × AllStand x)
  all_kept x e fit so_far can = (
    paid_kept g p foreign closed x e fit.0 so_far.0 can,
    λ up.
        let here : stands (does g e x.side).side ≡ true = sym (same_standing g e x.side) ∙ up in
        let before = stood g e x.side can here in
        stands_more x e (entry_keeps e x.side can fit.1 before here (so_far.0 before).1) (so_far.1 before),
  )

  nothing_stands : (n : ℕ) → Stands p n []
  unfolding Stands
  nothing_stands n = tt

each_fit : (g : Setting) (p : Pair) (foreign : is_own g p.oid ≡ false) (closed : plan_constants g.plan ≡ []) (es : List Entry) → AllByRecursion (λ e. list_all (is_told g) (entry_refs e) ≡ true) es
    → list_all asks_by_name es ≡ true → AllByRecursion (IsFit g p foreign closed) es
each_fit g p foreign closed [] told other = tt
each_fit g p foreign closed (e ∷ es) told other =
    let parts = and_parts (asks_by_name e) (list_all asks_by_name es) other in
    ((told.0, parts.0), each_fit g p foreign closed es told.1 parts.1)

-- what stands behind messages stands behind the rest of them
stands_drop : (p : Pair) (n : ℕ) (front rest : List Message) → Stands p n (front ++ rest) → Stands p n rest
unfolding Stands
stands_drop p n [] rest all = all
stands_drop p n (m ∷ front) rest all = stands_drop p n front rest all.1

-- behind each message that used a pair stands a release of it, or it is held
pub all_stand : (g : Setting) (es : List Entry) (x : Told) (p : Pair) → plan_constants g.plan ≡ [] → are_told g es ≡ true → asks_names es ≡ true → Leads g es x
    → stands x.side ≡ true → is_own g p.oid ≡ false → Stands p (one_if (is_held p.oid p.face x.side.tables)) x.said
unfolding some_of asks_names
all_stand g es x p closed told other leads up foreign =
    (along_replay_where g (IsFit g p foreign closed) (λ y. AllPaid g p foreign closed y × AllStand g p foreign closed y)
    ((λ up. (opening_paid g p foreign closed, opening_in_order g p foreign closed)), (λ up. nothing_stands g p foreign closed _))
    (all_kept g p foreign closed) es (each_fit g p foreign closed es (each_told g es told) other) x leads).1 up

-- so it does in the rest of what was said
pub rest_stands : (g : Setting) (es : List Entry) (x : Told) (p : Pair) (front rest : List Message) → plan_constants g.plan ≡ [] → are_told g es ≡ true → asks_names es ≡ true
    → Leads g es x → stands x.side ≡ true → is_own g p.oid ≡ false → x.said ≡ front ++ rest → Stands p (one_if (is_held p.oid p.face x.side.tables)) rest
rest_stands g es x p front rest closed told other leads up foreign said =
    stands_drop p (one_if (is_held p.oid p.face x.side.tables)) front rest
    (subst (Stands p (one_if (is_held p.oid p.face x.side.tables))) said (all_stand g es x p closed told other leads up foreign))
