-- Each move of a pair can be done, where each root's entry can be made: of both ends.
use Rattle.std.proofs.Common.{◌≡◌, refl, ap, ◌∙◌, ℕ, ◌≤◌, [], ◌∷◌, ◌++◌, map, Option, None, Some}
use Rattle.std.specs.List.{AllByRecursion}
use Rattle.bridge_model.specs.Entries.{Entry}
use Rattle.world_model.specs.Moves.{Deed, deeds, at, moves, Done, done}
use Rattle.world_model.specs.Pairs.{Pairing, with_world, enters, is_done_a, is_done_b, does}
use Rattle.world_laws.specs.Ready.{AreReady, BothGiveWell}
use Rattle.world_laws.proofs.CarriedLaws.{whole_met}
use Rattle.world_laws.proofs.InterlockLaws.{apart_of}
use Rattle.world_laws.proofs.RunLaws.{both_lead}
use Rattle.world_laws.proofs.SaidLaws.{given_a, given_b}
use Rattle.world_model.specs.Worlds.{Settings, of_a, of_b, Runs, with_a, with_b, happens, entries_of}
use Rattle.world_model.specs.declared.side.Side.TheVariants.{A, B}
use Rattle.world_laws.specs.Doing.{CanBeDone}
use Rattle.world_laws.proofs.Entering.{CanEnter, RootsCanMove}
use Rattle.world_laws.proofs.DoingLaws.{DeedCan, deeds_can, all_some, all_joined, all_mapped}

by_entry_a : (g : Settings) (cut : ℕ) (p : Pairing) (d : Deed) (x : Done) → done (of_a g) cut p.world.a.now p.world.b.now p.runs.a d ≡ Some x → (o : Option Entry) → x.entry ≡ o → CanEnter (of_a g) p.world.a p.world.b o
    → CanBeDone g cut p (at A d)
unfolding does happens
by_entry_a g cut p d x is None none can =
    let q : Pairing = record p { runs = record p.runs { a = x.runs } } in (q, ap (is_done_a g p) is ∙ ap (enters g q A) none)
by_entry_a g cut p d x is (Some e) one can =
    let q : Pairing = record p { runs = record p.runs { a = x.runs } } in (
      record q { world = record p.world { a = can.0 }; events = p.events ++ record { side = A; entry = e } ∷ [] },
      ap (is_done_a g p) is ∙ (ap (enters g q A) one ∙ ap (λ o. with_world q (record { side = A; entry = e }) (with_a p.world o)) can.1),
    )

by_entry_b : (g : Settings) (cut : ℕ) (p : Pairing) (d : Deed) (x : Done) → done (of_b g) cut p.world.b.now p.world.a.now p.runs.b d ≡ Some x → (o : Option Entry) → x.entry ≡ o → CanEnter (of_b g) p.world.b p.world.a o
    → CanBeDone g cut p (at B d)
unfolding does happens
by_entry_b g cut p d x is None none can =
    let q : Pairing = record p { runs = record p.runs { b = x.runs } } in (q, ap (is_done_b g p) is ∙ ap (enters g q B) none)
by_entry_b g cut p d x is (Some e) one can =
    let q : Pairing = record p { runs = record p.runs { b = x.runs } } in (
      record q { world = record p.world { b = can.0 }; events = p.events ++ record { side = B; entry = e } ∷ [] },
      ap (is_done_b g p) is ∙ (ap (enters g q B) one ∙ ap (λ o. with_world q (record { side = B; entry = e }) (with_b p.world o)) can.1),
    )

pub all_done : (g : Settings) (cut : ℕ) → 1 ≤ cut → AreReady g → (p : Pairing) → Runs g p.events p.world → BothGiveWell g p.events → RootsCanMove g p → AllByRecursion (CanBeDone g cut p) (moves g p.world p.runs)
unfolding moves
all_done g cut some ready p runs well can =
    let is = whole_met g ready p.events well p.world runs in
    let lead = both_lead g p.events p.world is.met in
    let a = deeds_can (of_a g) (entries_of A p.events) p.world.a p.world.b cut some lead.a (apart_of (of_a g) (entries_of A p.events) p.world.a.now (given_a g ready.up).roots lead.a) (λ up. (is.back.read up).part) (of_b g) p.runs.a can.a in
    let b = deeds_can (of_b g) (entries_of B p.events) p.world.b p.world.a cut some lead.b (apart_of (of_b g) (entries_of B p.events) p.world.b.now (given_b g ready.up).roots lead.b) (λ up. (is.there.read up).part) (of_a g) p.runs.b can.b in
    let first = deeds (of_a g) (of_b g) p.world.a.now p.world.b.now p.runs.a in
    let second = deeds (of_b g) (of_a g) p.world.b.now p.world.a.now p.runs.b in
    all_joined (CanBeDone g cut p) (map (at A) first) (map (at B) second)
    (all_mapped (at A) (CanBeDone g cut p) first
    (all_some (DeedCan (of_a g) cut p.world.a p.world.b p.runs.a) (λ (d : Deed). CanBeDone g cut p (at A d)) (λ d k. by_entry_a g cut p d k.0 k.1 k.0.entry refl k.2) first a))
    (all_mapped (at B) (CanBeDone g cut p) second
    (all_some (DeedCan (of_b g) cut p.world.b p.world.a p.runs.b) (λ (d : Deed). CanBeDone g cut p (at B d)) (λ d k. by_entry_b g cut p d k.0 k.1 k.0.entry refl k.2) second b))
