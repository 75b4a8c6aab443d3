-- A trail grows with what was seen, and ends again where it came by.
use Rattle.std.proofs.Common.{◌≡◌, ℕ, ◌+◌, ◌-◌, ◌<◌, ◌≤◌, Bool, true, false, List, [], ◌∷◌, ◌++◌, length, take, drop, get_or, Option, None, Some, sym, ap, subst, ◌∙◌, arith}
use Rattle.std.specs.Prelude.{slice_get}
use Rattle.std.proofs.lemmas.List.{length-append, length-take-le, take-take, take-append-le, take_all, take_more}
use Rattle.std.proofs.lemmas.Option.{slice_get-get_or}
use Rattle.uno_model.specs.Circles.{HasNoCircle}
use Rattle.uno_model.specs.Entities as plain
use Rattle.uno_model.specs.Registry.{IsRising, find_entity, stands_on, stands_on_body, leads_to}
use Rattle.uno_model.specs.Sound.{all_differ}
use Rattle.uno_model.proofs.PlaceLaws.{named_there}
use Rattle.uno_model.proofs.ReachLaws.{found_place}
use Rattle.uno_entities.proofs.SpreadLemmas.{entity_at}
use Rattle.rules_over_bases.specs.Known.{KeepsAt, differ_over, names_at, names_over}
use Rattle.rules_over_bases.specs.Occurring.{occurs}
use Rattle.rules_over_bases.specs.OwnNames.{own_names}
use Rattle.rules_over_bases.specs.Seen.{HasSeen, Sees, TakesBack}
use Rattle.rules_over_bases.specs.Standing.{IsOnlyBase}
use Rattle.rules_over_bases.specs.Trail.{AreOver, Climbs, Follows, StandsAt, GoesBack, SeenOver}
use Rattle.rules_over_bases.specs.declared.trail.Step.{Step}
use Rattle.rules_over_bases.specs.declared.trail.Trail.{Trail}
use Rattle.rules_over_bases.proofs.KindLaws.{names_behind}
use Rattle.rules_over_bases.proofs.TwinLaws.{occurs_append, same_differ}

-- ---- steps

module _ (reg : List plain.Entity) where
  pub climbs_low : (names : List (List ℕ)) (low : ℕ) (steps : List Step) → Climbs reg names low steps → low ≤ length names
  unfolding Climbs
  climbs_low names low [] climbs = climbs
  climbs_low names low (step ∷ steps) climbs = omega (arith, climbs.0, climbs_low names step.names steps climbs.2)

  -- more names behind
  pub climbs_more : (names more : List (List ℕ)) (low : ℕ) (steps : List Step) → Climbs reg names low steps → Climbs reg (names ++ more) low steps
  unfolding Climbs
  climbs_more names more low [] climbs = omega (arith, climbs, length-append names more)
  climbs_more names more low (step ∷ steps) climbs = (
    climbs.0,
    subst (AreOver reg step.place) (sym (take-append-le step.names names more (climbs_low names step.names steps climbs.2))) climbs.1,
    climbs_more names more step.names steps climbs.2,
  )

  -- one step more
  pub climbs_on : (names : List (List ℕ)) (low : ℕ) (steps : List Step) (step : Step) → Climbs reg names low steps → AreOver reg step.place names → step.names ≡ length names
      → Climbs reg names low (steps ++ step ∷ [])
  unfolding Climbs
  climbs_on names low [] step climbs over is = (
    omega (arith, climbs, is),
    subst (AreOver reg step.place) (sym (take_all step.names names (omega (arith, is)))) over,
    omega (arith, is),
  )
  climbs_on names low (first ∷ steps) step climbs over is = (climbs.0, climbs.1, climbs_on names first.names steps step climbs.2 over is)

  pub climbs_front : (names : List (List ℕ)) (low : ℕ) (steps more : List Step) → Climbs reg names low (steps ++ more) → Climbs reg names low steps
  unfolding Climbs
  climbs_front names low [] more climbs = climbs_low names low more climbs
  climbs_front names low (step ∷ steps) more climbs = (climbs.0, climbs.1, climbs_front names step.names steps more climbs.2)

  -- the last step has the most names
  last_high : (names : List (List ℕ)) (low : ℕ) (steps : List Step) (last : Step) → Climbs reg names low (steps ++ last ∷ []) → low ≤ last.names
  unfolding Climbs
  last_high names low [] last climbs = climbs.0
  last_high names low (step ∷ steps) last climbs = omega (arith, climbs.0, last_high names step.names steps last climbs.2)

  last_low : (names : List (List ℕ)) (low : ℕ) (steps : List Step) (last : Step) → Climbs reg names low (steps ++ last ∷ []) → last.names ≤ length names
  unfolding Climbs
  last_low names low [] last climbs = climbs.2
  last_low names low (step ∷ steps) last climbs = last_low names step.names steps last climbs.2

  last_over : (names : List (List ℕ)) (low : ℕ) (steps : List Step) (last : Step) → Climbs reg names low (steps ++ last ∷ []) → AreOver reg last.place (take last.names names)
  unfolding Climbs
  last_over names low [] last climbs = climbs.1
  last_over names low (step ∷ steps) last climbs = last_over names step.names steps last climbs.2

  -- with no more names than those of the last step
  climbs_cut : (names : List (List ℕ)) (low : ℕ) (steps : List Step) (last : Step) → Climbs reg names low (steps ++ last ∷ [])
      → Climbs reg (take last.names names) low (steps ++ last ∷ [])
  unfolding Climbs
  climbs_cut names low [] last climbs = (
    climbs.0,
    subst (AreOver reg last.place) (sym (take-take last.names last.names names (omega arith))) climbs.1,
    omega (arith, length-take-le last.names names climbs.2),
  )
  climbs_cut names low (step ∷ steps) last climbs = (
    climbs.0,
    subst (AreOver reg step.place) (sym (take-take step.names last.names names (last_high names step.names steps last climbs.2))) climbs.1,
    climbs_cut names step.names steps last climbs.2,
  )

-- ---- back to an entity

-- the steps are those at first, but for the last ones
abbrev pub AreFirst : List Step → List Step → Type 0
AreFirst first now = (reg : List plain.Entity) (names : List (List ℕ)) → Climbs reg names 0 first → Climbs reg names 0 now

-- the list is its front with its last element behind it
pub front_and_last : {X : Type 0} (xs : List X) (d : X) → 0 < length xs → xs ≡ take (length xs - 1) xs ++ get_or xs (length xs - 1) d ∷ []
front_and_last xs d some =
    let one : length xs ≡ length xs - 1 + 1 = omega (arith, some) in
    sym (take_all (length xs) xs (omega arith)) ∙ ap (λ n. take n xs) one ∙ take_more xs (length xs - 1) d (omega (arith, some))

pub fewer_steps : (first now next more : List Step) → AreFirst first now → now ≡ next ++ more → AreFirst first next
fewer_steps first now next more before is reg names climbs = climbs_front reg names 0 next more (subst (Climbs reg names 0) is (before reg names climbs))

-- what was read at the end is the last one
same_some : {X : Type 0} (a b : X) → Some a ≡ Some b → a ≡ b
same_some a b both = cc

last_found : {X : Type 0} (zs : List X) (x : X) → slice_get zs (length zs - 1) ≡ Some x → zs ≡ take (length zs - 1) zs ++ x ∷ []
last_found [] x at = let bad : None ≡ Some x = at in absurd cc
last_found (z ∷ zs) x at =
    let all = z ∷ zs in
    let last = same_some (get_or all (length all - 1) z) x (sym (slice_get-get_or all (length all - 1) z (omega arith)) ∙ at) in
    front_and_last all z (omega arith) ∙ ap (λ y. take (length all - 1) all ++ y ∷ []) last

pub last_read : {X : Type 0} (xs ys : List X) (read : Option X) (x : X) → ys ≡ xs → read ≡ slice_get ys (length ys - 1) → Some x ≡ read → xs ≡ take (length xs - 1) xs ++ x ∷ []
last_read xs ys read x same is found = last_found xs x (sym (found ∙ is ∙ ap (λ zs. slice_get zs (length zs - 1)) same))

pub found_back : (old new : Trail) (front : List Step) (step : Step) (place : ℕ) → AreFirst old.steps.items new.steps.items → new.steps.items ≡ front ++ step ∷ []
    → step.place ≡ place → TakesBack old.seen new.seen step.names → GoesBack old new place true
found_back old new front step place first is here taken = record { follows = follows; stands = λ reg before yes. stands reg before }
  where
    stands : (reg : List plain.Entity) → Follows reg old → StandsAt reg new place
    stands reg before =
        let climbs = subst (Climbs reg before.names 0) is (first reg before.names before.steps) in
        record {
          names = take step.names before.names;
          seen = taken before.names before.seen (last_low reg before.names 0 front step climbs);
          steps = subst (Climbs reg (take step.names before.names) 0) (sym is) (climbs_cut reg before.names 0 front step climbs);
          over = subst (λ p. AreOver reg p (take step.names before.names)) here (last_over reg before.names 0 front step climbs);
        }

    follows : (reg : List plain.Entity) → Follows reg old → Follows reg new
    follows reg before = let at = stands reg before in record { names = at.names; seen = at.seen; steps = at.steps }

pub not_found_back : (old new : Trail) (place : ℕ) → AreFirst old.steps.items new.steps.items → new.seen ≡ old.seen → GoesBack old new place false
not_found_back old new place first same = record {
  follows = λ reg before. record {
    names = before.names;
    seen = subst (λ s. HasSeen s before.names) (sym same) before.seen;
    steps = first reg before.names before.steps;
  };
  stands = λ reg before yes. let bad : false ≡ true = yes in absurd cc;
}

-- a list that was written back
pub written_back : (len : ℕ) (new items : List Bool) → length new ≡ len → take len (new ++ drop (length new) items) ≡ new
written_back len new items long = take-append-le len new (drop (length new) items) (omega (arith, long)) ∙ take_all len new (omega (arith, long))

-- ---- from an entity on

pub nothing_followed : (reg : List plain.Entity) (trail : Trail) → HasSeen trail.seen [] → trail.steps.items ≡ [] → Follows reg trail
unfolding Climbs
nothing_followed reg trail none start = record { names = []; seen = none; steps = subst (Climbs reg [] 0) (sym start) (omega arith) }

pub not_begun : (reg : List plain.Entity) (place : ℕ) (trail : Trail) (answer : Bool) → trail.steps.items ≡ [] → SeenOver reg place trail.seen answer → Follows reg trail
unfolding Climbs
not_begun reg place trail answer start seen = record {
  names = seen.names;
  seen = seen.has_seen;
  steps = subst (Climbs reg seen.names 0) (sym start) (omega arith);
}

pub begun : (reg : List plain.Entity) (place : ℕ) (trail : Trail) (answer : Bool) (step : Step) → trail.steps.items ≡ step ∷ [] → step.place ≡ place
    → ((names : List (List ℕ)) → HasSeen trail.seen names → step.names ≡ length names) → SeenOver reg place trail.seen answer → answer ≡ true → Follows reg trail
unfolding Climbs
begun reg place trail answer step start here long seen found = record {
  names = seen.names;
  seen = seen.has_seen;
  steps = subst (Climbs reg seen.names 0) (sym start)
      (climbs_on reg seen.names 0 [] step (omega arith) (subst (λ p. AreOver reg p seen.names) (sym here) (seen.over found)) (long seen.names seen.has_seen));
}

-- what stands on one entity alone has the names of that one over its bases, and its own
pub over_next : (reg : List plain.Entity) (place base : ℕ) (names own : List (List ℕ)) → IsRising reg → HasNoCircle (leads_to reg)
    → IsOnlyBase reg (stands_on_body (slice_get reg place)) base → AreOver reg base names → ((e : plain.Entity) → slice_get reg place ≡ Some e → own ≡ own_names e.body)
    → AreOver reg place (names ++ own)
over_next reg place base names own rising none only over is e at asked =
    let found = named_there reg place e rising at in
    let f = entity_at reg base only.there.within in
    let named : f.0.name ≡ only.name = (found_place only.name reg f.0 (only.there.found ∙ f.1)).2 in
    let stands : stands_on reg e.name ≡ only.name ∷ [] = ap stands_on_body (found ∙ sym at) ∙ only.alone in
    let split = ap (occurs asked) (names_behind reg e.name only.name none stands) in
    let parts = occurs_append asked (names_over reg only.name) (names_at (find_entity e.name reg)) in
    let below = over f.0 f.1 asked ∙ ap (λ n. occurs asked (names_over reg n)) named in
    let here = ap (λ o. occurs asked (names_at o)) found in
    let mine = ap (occurs asked) (is e at) in
    let sum = occurs_append asked names own in
    omega (arith, split, parts, below, here, mine, sum)

-- what was seen over an entity differs
pub over_differs : (reg : List plain.Entity) (place : ℕ) (names : List (List ℕ)) → AreOver reg place names → all_differ names ≡ true → KeepsAt (differ_over reg) reg place true
over_differs reg place names over differ e at = sym differ ∙ same_differ names (names_over reg e.name) (λ asked. over e at asked)

-- some of an entity's own names were seen
pub not_gone_on : (reg : List plain.Entity) (base : ℕ) (mid new : Trail) (own : List (List ℕ)) (are_new : Bool) → StandsAt reg mid base → Sees mid.seen new.seen own are_new
    → new.steps.items ≡ mid.steps.items → Follows reg new
not_gone_on reg base mid new own are_new stands sees same =
    let some = sees.some stands.names stands.seen in
    record {
      names = stands.names ++ some.0;
      seen = some.1;
      steps = subst (Climbs reg (stands.names ++ some.0) 0) (sym same) (climbs_more reg stands.names some.0 0 mid.steps.items stands.steps);
    }

module _ (reg : List plain.Entity) (place base : ℕ) (mid new : Trail) (own : List (List ℕ)) (are_new : Bool) (rising : IsRising reg) (none : HasNoCircle (leads_to reg)) where
  module _ (only : IsOnlyBase reg (stands_on_body (slice_get reg place)) base) (stands : StandsAt reg mid base) where
    module _ (is : (e : plain.Entity) → slice_get reg place ≡ Some e → own ≡ own_names e.body) (sees : Sees mid.seen new.seen own are_new) (yes : are_new ≡ true) where
      all_seen : HasSeen new.seen (stands.names ++ own)
      all_seen = sees.seen stands.names stands.seen yes

      over_both : AreOver reg place (stands.names ++ own)
      over_both = over_next reg place base stands.names own rising none only stands.over is

      pub gone_on : (step : Step) → new.steps.items ≡ mid.steps.items ++ step ∷ [] → step.place ≡ place
          → ((names : List (List ℕ)) → HasSeen new.seen names → step.names ≡ length names) → Follows reg new
      gone_on step more here long = record {
        names = stands.names ++ own;
        seen = all_seen;
        steps = subst (Climbs reg (stands.names ++ own) 0) (sym more)
            (climbs_on reg (stands.names ++ own) 0 mid.steps.items step (climbs_more reg stands.names own 0 mid.steps.items stands.steps)
            (subst (λ p. AreOver reg p (stands.names ++ own)) (sym here) over_both) (long (stands.names ++ own) all_seen));
      }

      pub gone_on_differs : KeepsAt (differ_over reg) reg place true
      gone_on_differs = over_differs reg place (stands.names ++ own) over_both all_seen.sets.differ
