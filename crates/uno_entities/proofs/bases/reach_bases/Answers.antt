use Rattle.std.proofs.Common.{List, ℕ, length, sym, ap, subst, ◌∙◌, arith}
use Rattle.std.proofs.lemmas.List.{length-map, length-set, length-replicate, nil_from_length}
use Rattle.std.proofs.lemmas.List.Elements.{Contains-push}
use Rattle.std.specs.Prelude.{Contains, replicate, set, true, false}
use Rattle.uno_entities.specs.Entities.{entity_of, entities_of}
use Rattle.uno_entities.specs.Spreading.{Searched}
use Rattle.uno_entities.proofs.ReachLemmas.{IsWaiting, IsListed, ListsMarked, begins_waiting, begins_listed, nothing_listed, waiting_step, listed_step, marked_step, all_listed}
use Rattle.uno_entities.proofs.SpreadLemmas.{begins_searched, searched_step, search_ends}
use Rattle.uno_entities.proofs.bases.reach_bases.Goals as goal

pub loop-next-init : goal.loop-next-init
loop-next-init c =
    let long = length-map c.args.entities.now entity_of in
    let begun = c.in_ok-begin.ensures.marks ∙ ap (λ ms. set ms c.args.place true) c.requires.clear in
    record {
      long = ap length begun ∙ length-set _ _ _ ∙ length-replicate _ _;
      waiting = begins_waiting _ _ _ _ c.requires.place begun c.in_ok-begin.ensures.pending;
      searched = λ e at. begins_searched _ _ _ e _ _ c.requires.rising (omega (arith, long, c.requires.place)) at long begun c.in_ok-begin.ensures.pending;
      listed = begins_listed _ _ _ _ _ begun c.in_ok-begin.ensures.pending;
      marked = nothing_listed _ _ c.clear.ensures.items;
    }

pub mark_bases-requires-clause-place : goal.mark_bases-requires-clause-place
mark_bases-requires-clause-place c =
    (c.loop-next.invariant.waiting c.in-Some.next (subst (λ (q : List ℕ). Contains q c.in-Some.next) (sym c.in-Some.ensures.items) (Contains-push _ c.in-Some.next))).0

pub loop-next-preserved : goal.loop-next-preserved
loop-next-preserved c =
    let spreads = c.in_ok-mark_bases.ensures in
    let marks = c.loop-next.reach.search.marks.items in
    let waiting = subst (IsWaiting (length c.args.entities.now) marks) c.in-Some.ensures.items c.loop-next.invariant.waiting in
    let listed = subst (λ q. IsListed marks q c.loop-next.reach.places.items) c.in-Some.ensures.items c.loop-next.invariant.listed in
    record {
      long = spreads.long ∙ c.loop-next.invariant.long;
      waiting = waiting_step _ _ _ c.in-Some.next _ _ _ _ (length-map c.args.entities.now entity_of) spreads waiting;
      searched = λ e at. searched_step _ _ c.in-Some.next _ _ _ _ c.requires.rising
          (subst (λ q. Searched (entities_of c.args.entities.now) e.name marks q) c.in-Some.ensures.items (c.loop-next.invariant.searched e at)) spreads;
      listed = subst (IsListed _ _) (sym c.in_ok-push.ensures.items) (listed_step _ _ c.in-Some.next _ _ _ _ _ spreads listed);
      marked = subst (ListsMarked _) (sym c.in_ok-push.ensures.items) (marked_step _ _ _ c.in-Some.next _ _ _ _ _ spreads waiting c.loop-next.invariant.marked);
    }

pub returns-clause-bases : goal.returns-clause-bases
returns-clause-bases c = λ e at.
    let none = nil_from_length c.loop-next.reach.search.pending.items (omega (arith, c.in_default.ensures.cases.0)) in
    search_ends _ _ e _ c.requires.rising at
    (subst (λ q. Searched (entities_of c.args.entities.now) e.name c.loop-next.reach.search.marks.items q) none (c.loop-next.invariant.searched e at))

pub returns-clause-listed : goal.returns-clause-listed
returns-clause-listed c =
    all_listed _ _ _ (nil_from_length c.loop-next.reach.search.pending.items (omega (arith, c.in_default.ensures.cases.0))) c.loop-next.invariant.listed
    c.loop-next.invariant.marked
