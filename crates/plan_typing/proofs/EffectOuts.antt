-- The parameters whose values come out: where a method begins they are known, each statement keeps them, and their values fit.
use Rattle.std.proofs.Common.{◌≡◌, refl, sym, ap, ◌∙◌, ℕ, Bool, true, false, not, ◌||◌, List, [], ◌∷◌, ◌++◌, map, Option, Some, option_map, if◌then◌else◌}
use Rattle.std.specs.List.{find, filter, list_any}
use Rattle.std.specs.Str.{bytes_eq}
use Rattle.std.proofs.lemmas.Bool.{and_parts}
use Rattle.std.proofs.lemmas.Slice.Eq.{bytes_eq-Decides}
use mathlib.Core.Path.{subst}
use Rattle.message_model.specs.Calls.{comes, kinds_on}
use Rattle.uno_model.specs.Entities.{Entity, Param}
use Rattle.uno_model.specs.Fits.{FitEach}
use Rattle.uno_model.specs.Sound.{all_differ}
use Rattle.uno_model.specs.Values.{plains}
use Rattle.uno_model.proofs.FindLaws.{same_equal}
use Rattle.uno_model.proofs.Options.{none_some}
use Rattle.plan_model.specs.Asking.{out_values}
use Rattle.plan_model.specs.Contexts.{Scoped, parameters}
use Rattle.plan_model.specs.Frames.{Variable}
use Rattle.plan_typing.specs.Effects.{OutStays, OutsStay}
use Rattle.plan_typing.specs.Scenes.{VariablesFit}
use Rattle.plan_typing.specs.Statements.{MayGo}
use Rattle.plan_typing.proofs.ValueWords.{variable_fits}

abbrev found : List ℕ → List Scoped → Option Scoped
found name ts = find (λ x. bytes_eq name x.name) ts

found_is : (name : List ℕ) (t : Scoped) (ts : List Scoped) (b : Bool) → bytes_eq name t.name ≡ b → found name (t ∷ ts) ≡ (if b then Some t else found name ts)
found_is name t ts true is = rw is refl
found_is name t ts false is = rw is refl

-- ---- where more types stand behind

found_in_front : (name : List ℕ) (ts us : List Scoped) (x : Scoped) → found name ts ≡ Some x → found name (ts ++ us) ≡ Some x
found_in_front name [] us x is = absurd (none_some is)
found_in_front name (t ∷ ts) us x is = by_test (found_in_front name ts us x) (bytes_eq name t.name) refl
  where
    by_test : (found name ts ≡ Some x → found name (ts ++ us) ≡ Some x) → (b : Bool) → bytes_eq name t.name ≡ b → found name (t ∷ (ts ++ us)) ≡ Some x
    by_test later true same = found_is name t (ts ++ us) true same ∙ (sym (found_is name t ts true same) ∙ is)
    by_test later false other = found_is name t (ts ++ us) false other ∙ later (sym (found_is name t ts false other) ∙ is)

pub stay_in_front : (ps : List Param) (ts us : List Scoped) → OutsStay ps ts → OutsStay ps (ts ++ us)
unfolding OutsStay
stay_in_front [] ts us stay = tt
stay_in_front (p ∷ ps) ts us stay =
    (λ out. found_in_front p.name ts us (record { name = p.name; kind = p.kind; comes_out = true }) (stay.0 out), stay_in_front ps ts us stay.1)

-- ---- where a variable goes that may go

-- a variable of another name is found still
found_without : (name other : List ℕ) → bytes_eq other name ≡ false → (ts : List Scoped) → found name (filter (λ t. not (bytes_eq other t.name)) ts) ≡ found name ts
found_without name other apart [] = refl
found_without name other apart (t ∷ ts) = by_test (found_without name other apart ts) (bytes_eq name t.name) refl (bytes_eq other t.name) refl
  where
    by_test : found name (filter (λ u. not (bytes_eq other u.name)) ts) ≡ found name ts → (b : Bool) → bytes_eq name t.name ≡ b → (g : Bool) → bytes_eq other t.name ≡ g
        → found name (filter (λ u. not (bytes_eq other u.name)) (t ∷ ts)) ≡ found name (t ∷ ts)
    by_test rest true same true goes =
        let name_is : name ≡ t.name = (bytes_eq-Decides name t.name).0 same in
        let bad : false ≡ true = sym apart ∙ (ap (bytes_eq other) name_is ∙ goes) in
        absurd (cc)
    by_test rest true same false stays = rw (stays, same) refl
    by_test rest false differs true goes = rw (goes, differs) rest
    by_test rest false differs false stays = rw (stays, differs) rest

-- what comes out may not go
one_stays : (name : List ℕ) (p : Param) (ts : List Scoped) → MayGo (found name ts) → OutStays p ts → OutStays p (filter (λ t. not (bytes_eq name t.name)) ts)
one_stays name p ts may stay out = by_test (bytes_eq name p.name) refl
  where
    known : Scoped
    known = record { name = p.name; kind = p.kind; comes_out = true }

    by_test : (b : Bool) → bytes_eq name p.name ≡ b → found p.name (filter (λ t. not (bytes_eq name t.name)) ts) ≡ Some (record { name = p.name; kind = p.kind; comes_out = true })
    by_test true same =
        let name_is : name ≡ p.name = (bytes_eq-Decides name p.name).0 same in
        let there : found name ts ≡ Some known = ap (λ n. found n ts) name_is ∙ stay out in
        let bad : true ≡ false = subst MayGo there may in
        absurd (cc)
    by_test false other = found_without p.name name other ts ∙ stay out

pub stay_without : (name : List ℕ) (ps : List Param) (ts : List Scoped) → MayGo (found name ts) → OutsStay ps ts → OutsStay ps (filter (λ t. not (bytes_eq name t.name)) ts)
unfolding OutsStay
stay_without name [] ts may stay = tt
stay_without name (p ∷ ps) ts may stay = (one_stays name p ts may stay.0, stay_without name ps ts may stay.1)

-- ---- where a method begins

-- none of the parameters has the name of the one in front
stay_behind : (t : Scoped) (ps : List Param) (ts : List Scoped) → list_any (bytes_eq t.name) (map (λ p. p.name) ps) ≡ false → OutsStay ps ts → OutsStay ps (t ∷ ts)
unfolding OutsStay
stay_behind t [] ts none stay = tt
stay_behind t (p ∷ ps) ts none stay = by_test (bytes_eq t.name p.name) refl (λ also. stay_behind t ps ts also stay.1)
  where
    apart : (b : Bool) → bytes_eq p.name t.name ≡ b → bytes_eq t.name p.name ≡ false → bytes_eq p.name t.name ≡ false
    apart false is differs = is
    apart true is differs =
        let name_is : p.name ≡ t.name = (bytes_eq-Decides p.name t.name).0 is in
        let bad : false ≡ true = sym differs ∙ (ap (bytes_eq t.name) name_is ∙ same_equal t.name) in
        absurd (cc)

    by_test : (b : Bool) → bytes_eq t.name p.name ≡ b → (list_any (bytes_eq t.name) (map (λ p. p.name) ps) ≡ false → OutsStay ps (t ∷ ts)) → OutsStay (p ∷ ps) (t ∷ ts)
    by_test true same later = let bad : true ≡ false = ap (λ b. b || list_any (bytes_eq t.name) (map (λ q. q.name) ps)) (sym same) ∙ none in absurd (cc)
    by_test false differs later = (
      λ out. found_is p.name t ts false (apart (bytes_eq p.name t.name) refl differs) ∙ stay.0 out,
      later (ap (λ b. b || list_any (bytes_eq t.name) (map (λ q. q.name) ps)) (sym differs) ∙ none),
    )

not_true : (b : Bool) → not b ≡ true → b ≡ false
not_true false is = refl
not_true true is = let bad : false ≡ true = is in absurd (cc)

pub stay_first : (ps : List Param) → all_differ (map (λ p. p.name) ps) ≡ true → OutsStay ps (parameters ps)
unfolding OutsStay all_differ parameters
stay_first [] differ = tt
stay_first (p ∷ ps) differ =
    let parts = and_parts (not (list_any (bytes_eq p.name) (map (λ q. q.name) ps))) (all_differ (map (λ q. q.name) ps)) differ in
    let first : Scoped = record { name = p.name; kind = p.kind; comes_out = comes p.way } in
    let others = stay_behind first ps (parameters ps) (not_true (list_any (bytes_eq p.name) (map (λ q. q.name) ps)) parts.0) (stay_first ps parts.1) in
    (λ out. found_is p.name first (parameters ps) true (same_equal p.name) ∙ ap (λ b. Some (record { name = p.name; kind = p.kind; comes_out = b })) out, others)

-- ---- their values

pub out_values_fit : (reg : List Entity) (ps : List Param) (xs : List Variable) (ts : List Scoped) → VariablesFit reg xs ts → OutsStay ps ts
    → FitEach reg (plains (out_values ps xs)) (kinds_on comes ps)
unfolding OutsStay out_values kinds_on FitEach
out_values_fit reg [] xs ts fit stay = tt
out_values_fit reg (p ∷ ps) xs ts fit stay = by_test (comes p.way) refl (out_values_fit reg ps xs ts fit stay.1)
  where
    by_test : (b : Bool) → comes p.way ≡ b → FitEach reg (plains (out_values ps xs)) (kinds_on comes ps) → FitEach reg (plains (out_values (p ∷ ps) xs)) (kinds_on comes (p ∷ ps))
    by_test true out rest = rw out (variable_fits reg p.name xs ts p.kind fit (ap (option_map (λ x. x.kind)) (stay.0 out)), rest)
    by_test false into rest = rw into rest
