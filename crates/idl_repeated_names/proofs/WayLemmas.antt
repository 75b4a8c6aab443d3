-- The way goes on, and goes back.
use Rattle.std.proofs.Common.{◌≡◌, refl, sym, ap, subst, ◌∙◌, ℕ, zero, suc, List, [], ◌∷◌, ◌++◌, length, reverse, append-nil, append_assoc, Contains, true, Option, None, Some, Bor}
use Rattle.std.proofs.lemmas.List.{reverse-append}
use Rattle.std.proofs.lemmas.List.Concat.{flat_map-append}
use Rattle.std.specs.List.{flat_map}
use Rattle.std.specs.Prelude.{IfSome, slice_get}
use Rattle.idl_model.specs.Trees as tree
use Rattle.idl_repeated_names.specs.Meeting.{Meets}
use Rattle.idl_repeated_names.specs.Over.{bases_at, chain_of, chain_within, fields_at, functions_at, named_at, names_over}
use Rattle.idl_repeated_names.specs.Sums.{nothing, summary_of}
use Rattle.idl_repeated_names.specs.Twins.{FindsSeconds, HasMet, HaveKeys, Named, SumsSeconds}
use Rattle.idl_repeated_names.specs.Walking.{Descends, GoesBack, IsFront, IsOnWay, LeadsOver, Stands}
use Rattle.idl_repeated_names.specs.declared.over.Kind.{Kind}
use Rattle.idl_repeated_names.specs.declared.over.Kind.TheVariants.{Functions, Fields}
use Rattle.idl_repeated_names.specs.declared.way.Step.{Step}
use Rattle.idl_repeated_names.specs.declared.way.Way.{Way}
use Rattle.idl_repeated_names.proofs.MeetingLemmas.{keys_first, none_found}
use Rattle.rules_over_bases.specs.Standing.{IsOnlyBase}
use Rattle.uno_entities.specs.Finding.{IsPlaceOf}
use Rattle.uno_model.specs.Circles.{HasNoCircle, ends_within}
use Rattle.uno_model.specs.Entities.{Entity}
use Rattle.uno_model.specs.Functions.{interfaces_of, is_met, visit, visit_all}
use Rattle.uno_model.specs.Registry.{find_entity, leads_to, member_bases, stands_on}
use Rattle.uno_model.proofs.CircleLaws.{next_ends, none_ends_at_once}
use Rattle.uno_model.proofs.MemberLaws.{all_ways_end, base_leads, flat_map_same}
use Rattle.uno_model.proofs.PlaceLaws.{contains_head}
use Rattle.uno_model.proofs.ReachLaws.{found_place}
use Rattle.uno_model.proofs.VisitLaws.{visit_is}

-- ---- steps

reversed_last : (steps : List Step) (s : Step) → reverse (steps ++ s ∷ []) ≡ s ∷ reverse steps
reversed_last steps s = reverse-append steps (s ∷ [])

module _ (over : List ℕ → List Named) where
  -- more names behind
  pub descends_more : (ns rest : List Named) (steps : List Step) → Descends over ns steps → Descends over (ns ++ rest) steps
  descends_more ns rest [] down = tt
  descends_more ns rest (s ∷ steps) down = (
    record { rest = down.0.rest ++ rest; split = ap (λ ms. ms ++ rest) down.0.split ∙ append_assoc (over s.name.now) down.0.rest rest; many = down.0.many; found = down.0.found },
    down.1,
  )

  -- without the last step
  descends_less : (ns : List Named) (s : Step) (steps : List Step) → Descends over ns (s ∷ steps) → Descends over ns steps
  descends_less ns s steps down = subst (λ ms. Descends over ms steps) (sym down.0.split) (descends_more (over s.name.now) down.0.rest steps down.1)

  -- at the last step, to which the way went on
  descends_at : (s : Step) (steps : List Step) → s.names ≡ length (over s.name.now) → (HaveKeys (over s.name.now) → SumsSeconds (over s.name.now) s.found) → Descends over (over s.name.now) steps
      → Descends over (over s.name.now) (s ∷ steps)
  descends_at s steps many found down = (record { rest = []; split = sym (append-nil (over s.name.now)); many = many; found = found }, down)

  last_first : (ns : List Named) (s : Step) (steps all : List Step) → all ≡ steps ++ s ∷ [] → Descends over ns (reverse all) → Descends over ns (s ∷ reverse steps)
  last_first ns s steps all put down = subst (Descends over ns) (ap reverse put ∙ reversed_last steps s) down

  first_last : (ns : List Named) (s : Step) (steps all : List Step) → all ≡ steps ++ s ∷ [] → Descends over ns (s ∷ reverse steps) → Descends over ns (reverse all)
  first_last ns s steps all put down = subst (Descends over ns) (sym (ap reverse put ∙ reversed_last steps s)) down

pub begins : (over : List ℕ → List Named) (way : Way) → HasMet way.twins [] → way.steps.items ≡ [] → summary_of way.twins.found ≡ nothing → IsOnWay over way []
begins over way met none found = record { met = met; steps = subst (λ (ss : List Step). Descends over [] (reverse ss)) (sym none) tt; found = λ have. none_found way.twins.found found }

pub gone_on : (old new : Way) (s : Step) → new.twins ≡ old.twins → new.steps.items ≡ old.steps.items ++ s ∷ [] → ((ns : List Named) → HasMet old.twins ns → s.names ≡ length ns) → s.found ≡ old.twins.found
    → (over : List ℕ → List Named) → IsOnWay over old (over s.name.now) → IsOnWay over new (over s.name.now)
gone_on old new s same put many kept over way =
    let there : HaveKeys (over s.name.now) → SumsSeconds (over s.name.now) s.found = λ have. subst (SumsSeconds (over s.name.now)) (sym kept) (way.found have) in
    record {
      met = subst (λ t. HasMet t (over s.name.now)) (sym same) way.met;
      steps = first_last over (over s.name.now) s old.steps.items new.steps.items put (descends_at over s (reverse old.steps.items) (many (over s.name.now) way.met) there way.steps);
      found = λ have. subst (FindsSeconds (over s.name.now)) (sym same) (way.found have);
    }

-- ---- steps that are taken off

abbrev pub AreFirst : List Step → List Step → Type 0
AreFirst first now = (over : List ℕ → List Named) (ns : List Named) → Descends over ns (reverse first) → Descends over ns (reverse now)

pub all_first : (steps : List Step) → AreFirst steps steps
all_first steps over ns down = down

pub fewer_steps : (first now next : List Step) (s : Step) → AreFirst first now → now ≡ next ++ s ∷ [] → AreFirst first next
fewer_steps first now next s before put over ns down = descends_less over ns s (reverse next) (last_first over ns s next now put (before over ns down))

pub found_back : (first popped new : Way) (now : List Step) (s : Step) (name : List ℕ) → AreFirst first.steps.items now → now ≡ popped.steps.items ++ s ∷ [] → popped.twins ≡ first.twins → s.name.now ≡ name
    → Stands popped new s → (over : List ℕ → List Named) → LeadsOver over first new name
found_back first popped new now s name before put same at stands over ns way =
    let down : IsFront over ns s × Descends over (over s.name.now) (reverse popped.steps.items) = last_first over ns s popped.steps.items now put (before over ns way.steps) in
    let met : HasMet popped.twins (over s.name.now ++ down.0.rest) = subst (HasMet popped.twins) down.0.split (subst (λ t. HasMet t ns) (sym same) way.met) in
    subst (λ n. IsOnWay over new (over n)) at
    (record {
      met = stands.taken (over s.name.now) down.0.rest met down.0.many;
      steps = first_last over (over s.name.now) s popped.steps.items new.steps.items stands.steps (descends_at over s (reverse popped.steps.items) down.0.many down.0.found down.1);
      found = λ have. subst (SumsSeconds (over s.name.now)) (sym stands.found) (down.0.found have);
    })

-- ---- the names over an entity are those over its one base, and its own

functions_one : (reg : List Entity) (name base : List ℕ) → HasNoCircle (leads_to reg) → stands_on reg name ≡ base ∷ [] → interfaces_of reg name ≡ interfaces_of reg base ++ name ∷ []
unfolding is_met visit_all
functions_one reg name base no_circle alone = visit_is reg [] name no_circle ∙ ap (λ bs. visit_all (visit reg) [] bs ++ name ∷ []) alone

-- where all ways end within so many levels there is nothing beyond them
chain_more : (levels : ℕ) (reg : List Entity) (name : List ℕ) → ends_within (leads_to reg) levels name ≡ true → chain_within (suc levels) reg name ≡ chain_within levels reg name
unfolding chain_within
chain_more zero reg name ends = absurd (none_ends_at_once (leads_to reg) name ends)
chain_more (suc levels) reg name ends =
    ap (λ ns. ns ++ name ∷ []) (flat_map_same (chain_within (suc levels) reg) (chain_within levels reg) (member_bases (find_entity name reg))
    (λ base has. chain_more levels reg base (next_ends (leads_to reg) levels name base ends (base_leads (find_entity name reg) base has))))

fields_one : (reg : List Entity) (name base : List ℕ) → HasNoCircle (leads_to reg) → member_bases (find_entity name reg) ≡ base ∷ [] → chain_of reg name ≡ chain_of reg base ++ name ∷ []
unfolding chain_within
fields_one reg name base no_circle alone =
    let led = base_leads (find_entity name reg) base (subst (λ (bs : List (List ℕ)). Contains bs base) (sym alone) (contains_head base [])) in
    let ends = next_ends (leads_to reg) (length reg) name base (all_ways_end reg name no_circle) led in
    ap (λ bs. flat_map (chain_within (length reg) reg) bs ++ name ∷ []) alone
    ∙ ap (λ ns. ns ++ name ∷ []) (append-nil (chain_within (length reg) reg base) ∙ sym (chain_more (length reg) reg base ends))

-- more names were met on the way, which are those over an entity then
reached : (over : List ℕ → List Named) (begun new : Way) (front more : List Named) (name : List ℕ) → over name ≡ front ++ more → IsOnWay over begun front → Meets begun.twins new.twins more
    → new.steps.items ≡ begun.steps.items → IsOnWay over new (over name)
reached over begun new front more name all way meets same =
    subst (IsOnWay over new) (sym all)
    (record {
      met = meets.met front way.met;
      steps = descends_more over front more (reverse new.steps.items) (subst (λ (steps : List Step). Descends over front (reverse steps)) (sym same) way.steps);
      found = λ have. meets.found front way.met have (way.found (keys_first front more have));
    })

module _ (own : List ℕ → Option tree.Declaration) (built reg : List Entity) (no_circle : HasNoCircle (leads_to reg)) where
  over_one : (kind : Kind) (name base : List ℕ) → bases_at kind reg name ≡ base ∷ [] → names_over kind own built reg name ≡ names_over kind own built reg base ++ named_at kind own built name
  over_one Functions name base alone =
      ap (flat_map (functions_at own built)) (functions_one reg name base no_circle alone) ∙ flat_map-append (functions_at own built) (interfaces_of reg base) (name ∷ [])
      ∙ ap (λ ns. flat_map (functions_at own built) (interfaces_of reg base) ++ ns) (append-nil (functions_at own built name))
  over_one Fields name base alone =
      ap (flat_map (fields_at own built)) (fields_one reg name base no_circle alone) ∙ flat_map-append (fields_at own built) (chain_of reg base) (name ∷ [])
      ∙ ap (λ ns. flat_map (fields_at own built) (chain_of reg base) ++ ns) (append-nil (fields_at own built name))

  pub reached_on : (kind : Kind) (name : List ℕ) (old back new : Way) → GoesBack (bases_at kind reg name) old back → Meets back.twins new.twins (named_at kind own built name) → new.steps.items ≡ back.steps.items
      → LeadsOver (names_over kind own built reg) old new name
  reached_on kind name old back new goes meets same ns way =
      let over : List ℕ → List Named = names_over kind own built reg in
      reached over back new (over goes.base) (named_at kind own built name) name (over_one kind name goes.base goes.alone) (goes.back over ns way) meets same

pub reached_anew : (over : List ℕ → List Named) (name : List ℕ) (old begun new : Way) → IsOnWay over begun [] → Meets begun.twins new.twins (over name) → new.steps.items ≡ begun.steps.items → LeadsOver over old new name
reached_anew over name old begun new way meets same ns was = reached over begun new [] (over name) name refl way meets same

-- ---- the entity at a place

pub place_named : (reg : List Entity) (i : ℕ) (e : Entity) (name : List ℕ) → Some e ≡ slice_get reg i → IsPlaceOf name reg i → e.name ≡ name
place_named reg i e name read there = (found_place name reg e (there.found ∙ sym read)).2

pub only_so : (reg : List Entity) (place : ℕ) (bases : List (List ℕ)) (result : Option (Bor (List ℕ))) → IsOnlyBase reg bases place
    → IfSome result (λ found. (name : List ℕ) → IsPlaceOf name reg place → found.now ≡ name) → IfSome result (λ base. bases ≡ base.now ∷ [])
only_so reg place bases None only named = tt
only_so reg place bases (Some base) only named = only.alone ∙ ap (λ n. n ∷ []) (sym (named only.name only.there))
