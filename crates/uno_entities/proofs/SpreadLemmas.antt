-- Marks spread name by name, and a search that has nothing pending has marked all bases.
use Rattle.std.proofs.Common.{◌≡◌, ◌≢◌, ℕ, zero, suc, ◌+◌, ◌<◌, Bool, true, false, List, [], ◌∷◌, ◌++◌, length, set}
use Rattle.std.proofs.Common.{take, get_or, replicate, None, Some, refl, sym, ap, subst, ◌∙◌, ◌⊎◌, inl, inr, arith}
use Rattle.std.specs.Prelude.{slice_get, Contains, map, filter, not, if◌then◌else◌}
use Rattle.std.proofs.lemmas.Bool.{cases_eq}
use Rattle.std.proofs.lemmas.List.{length-set, length_push, map_more, length-replicate}
use Rattle.std.proofs.lemmas.List.Elements.{Contains-append_left, Contains-append_right, Contains-push, Contains-push_cases, Contains-append_cases}
use Rattle.uno_model.specs.Entities.{Entity, Base}
use Rattle.uno_entities.specs.Marks.{Marked, AllMarked, MarksBases}
use Rattle.uno_model.specs.Registry.{IsRising, find_entity, stands_on, stands_on_body, mandatory_bases, IsBaseOf}
use Rattle.uno_model.specs.Circles.{Leads, step, on}
use Rattle.uno_model.proofs.FindLaws.{distinct_places}
use Rattle.uno_model.proofs.ReachLaws.{found_place}
use Rattle.uno_entities.proofs.MarkLemmas.{marks_bases}
use Rattle.uno_model.proofs.PlaceLaws.{named_there}
use Rattle.uno_entities.specs.declared.entity.Base as types
use Rattle.uno_entities.specs.Entities.{base_of}
use Rattle.uno_entities.specs.Finding.{IsPlaceOf}
use Rattle.uno_entities.specs.Spreading.{unmarked, MarksPlace, Spreads, Searched}

-- a mark that is set stands, and the others stay
pub set_marked : (marks : List Bool) (p : ℕ) → p < length marks → Marked (set marks p true) p
set_marked [] p within = absurd (omega arith)
set_marked (m ∷ marks) zero within = refl
set_marked (m ∷ marks) (suc p) within = set_marked marks p (omega arith)

set_other : (marks : List Bool) (p i : ℕ) → i ≢ p → slice_get (set marks p true) i ≡ slice_get marks i
set_other [] p i other = refl
set_other (m ∷ marks) zero zero other = absurd (other refl)
set_other (m ∷ marks) zero (suc i) other = refl
set_other (m ∷ marks) (suc p) zero other = refl
set_other (m ∷ marks) (suc p) (suc i) other = set_other marks p i (λ e. other (ap suc e))

-- one place fewer is not marked
unmarked-set : (marks : List Bool) (p : ℕ) → slice_get marks p ≡ Some false → unmarked (set marks p true) + 1 ≡ unmarked marks
unfolding unmarked
unmarked-set [] p is = let bad : None ≡ Some false = is in cc
unmarked-set (m ∷ marks) zero is = let no_mark : m ≡ false = cc in rw no_mark refl
unmarked-set (true ∷ marks) (suc p) is = unmarked-set marks p is
unmarked-set (false ∷ marks) (suc p) is = ap (λ n. n + 1) (unmarked-set marks p is)

-- the one name in a list of one
only_name : (name n : List ℕ) → Contains (name ∷ []) n → name ≡ n
only_name name n (zero, within, is) = is
only_name name n (suc k, within, is) = absurd (omega arith)

one_name : (name : List ℕ) → Contains (name ∷ []) name
one_name name = (0, omega arith, refl)

-- an entity at the place of a name has that name
name_at_place : (name : List ℕ) (reg : List Entity) (p : ℕ) (e : Entity) → IsPlaceOf name reg p → slice_get reg p ≡ Some e → e.name ≡ name
name_at_place name reg p e place at = (found_place name reg e (place.found ∙ at)).2

-- the entity at a place that a name has
pub entity_at : (reg : List Entity) (p : ℕ) → p < length reg → (e : Entity) × (slice_get reg p ≡ Some e)
entity_at [] p within = absurd (omega arith)
entity_at (e ∷ es) zero within = (e, refl)
entity_at (e ∷ es) (suc p) within = entity_at es p (omega arith)

-- where the place of a name is marked, each entity of that name is
place_marks_all : (reg : List Entity) (name : List ℕ) (p : ℕ) (marks : List Bool) → IsRising reg → IsPlaceOf name reg p → Marked marks p
    → AllMarked reg marks (name ∷ [])
place_marks_all reg name p marks rising place mark i e at has =
    let here = entity_at reg p place.within in
    let same : e.name ≡ here.0.name = sym (only_name name e.name has) ∙ sym (name_at_place name reg p here.0 place here.1) in
    subst (Marked marks) (sym (distinct_places reg rising i p e here.0 at here.1 same)) mark

-- a name whose place is marked already spreads nothing
spreads_marked : (reg : List Entity) (name : List ℕ) (p : ℕ) (marks : List Bool) (pending : List ℕ) → IsRising reg → IsPlaceOf name reg p → Marked marks p
    → Spreads reg (name ∷ []) marks pending marks pending
spreads_marked reg name p marks pending rising place mark =
    record {
      long = refl;
      kept = λ i m. m;
      held = λ i h. h;
      added = λ i m. inl m;
      places = λ i h. inl h;
      all = place_marks_all reg name p marks rising place mark;
      work = omega arith;
    }

-- a name whose place was not marked is marked and pending
spreads_new : (reg : List Entity) (name : List ℕ) (p : ℕ) (marks : List Bool) (pending : List ℕ) → IsRising reg → length marks ≡ length reg
    → IsPlaceOf name reg p → slice_get marks p ≡ Some false
    → Spreads reg (name ∷ []) marks pending (set marks p true) (pending ++ p ∷ [])
spreads_new reg name p marks pending rising long place no_mark =
    record {
      long = length-set marks p true;
      kept = λ i m. kept_mark i m (cases_eq i p);
      held = λ i h. Contains-append_left pending (p ∷ []) i h;
      added = λ i m. added_mark i m (cases_eq i p);
      places = λ i h. elim (Contains-push_cases pending p i h) [
        | inl old ↦ inl old
        | inr new ↦ inr (subst (λ k. (k < length reg) × Marked (set marks p true) k) new (place.within, set_marked marks p within))
      ];
      all = place_marks_all reg name p (set marks p true) rising place (set_marked marks p within);
      work = omega (arith, unmarked-set marks p no_mark, length_push pending p);
    }
  where
    within : p < length marks
    within = omega (arith, long, place.within)

    kept_mark : (i : ℕ) → Marked marks i → (i ≡ p) ⊎ (i ≢ p) → Marked (set marks p true) i
    kept_mark i m (inl here) = subst (Marked (set marks p true)) (sym here) (set_marked marks p within)
    kept_mark i m (inr other) = set_other marks p i other ∙ m

    added_mark : (i : ℕ) → Marked (set marks p true) i → (i ≡ p) ⊎ (i ≢ p)
        → Marked marks i ⊎ (Contains (pending ++ p ∷ []) i × ((e : Entity) → slice_get reg i ≡ Some e → Contains (name ∷ []) e.name))
    added_mark i m (inl here) =
        inr (
          subst (Contains (pending ++ p ∷ [])) (sym here) (Contains-push pending p),
          λ e at. subst (Contains (name ∷ [])) (sym (name_at_place name reg p e place (subst (λ k. slice_get reg k ≡ Some e) here at))) (one_name name),
        )
    added_mark i m (inr other) = inl (sym (set_other marks p i other) ∙ m)

-- marking the place of a name spreads to it
pub marks_place : (reg : List Entity) (name : List ℕ) (p : ℕ) (marks : List Bool) (pending : List ℕ) (marks_after : List Bool) (pending_after : List ℕ)
    → IsRising reg → length marks ≡ length reg
    → IsPlaceOf name reg p → MarksPlace p marks pending marks_after pending_after → Spreads reg (name ∷ []) marks pending marks_after pending_after
marks_place reg name p marks pending marks_after pending_after rising long place (inl there) =
    let S : List Bool → List ℕ → Type 0 = λ m q. Spreads reg (name ∷ []) marks pending m q in
    subst (λ m. S m pending_after) (sym there.1) (subst (S marks) (sym there.2) (spreads_marked reg name p marks pending rising place there.0))
marks_place reg name p marks pending marks_after pending_after rising long place (inr new) =
    let S : List Bool → List ℕ → Type 0 = λ m q. Spreads reg (name ∷ []) marks pending m q in
    subst (λ m. S m pending_after) (sym new.1) (subst (S (set marks p true)) (sym new.2) (spreads_new reg name p marks pending rising long place new.0))

-- nothing changes where no entity has one of the names
pub spreads_nothing : (reg : List Entity) (names : List (List ℕ)) (marks : List Bool) (pending : List ℕ)
    → ((i : ℕ) (e : Entity) → slice_get reg i ≡ Some e → Contains names e.name → ⊥)
    → Spreads reg names marks pending marks pending
spreads_nothing reg names marks pending none =
    record {
      long = refl;
      kept = λ i m. m;
      held = λ i h. h;
      added = λ i m. inl m;
      places = λ i h. inl h;
      all = λ i e at has. absurd (none i e at has);
      work = omega arith;
    }

-- nor where there is no name
pub no_names : (reg : List Entity) (marks : List Bool) (pending : List ℕ) → Spreads reg [] marks pending marks pending
no_names reg marks pending = spreads_nothing reg [] marks pending (λ i e at has. omega (arith, has.1))

-- a name that is not there is no entity's
pub absent_nowhere : (reg : List Entity) (name : List ℕ) → IsRising reg → find_entity name reg ≡ None → (i : ℕ) (e : Entity) → slice_get reg i ≡ Some e
    → Contains (name ∷ []) e.name → ⊥
absent_nowhere reg name rising absent i e at has =
    differs (sym absent ∙ ap (λ n. find_entity n reg) (only_name name e.name has) ∙ named_there reg i e rising at)
  where
    differs : None ≡ Some e → ⊥
    differs bad = cc

-- marks that spread to some names, and then to others
pub spreads_then : (reg : List Entity) (ns ms : List (List ℕ)) (a b c : List Bool) (p q r : List ℕ) → Spreads reg ns a p b q → Spreads reg ms b q c r
    → Spreads reg (ns ++ ms) a p c r
spreads_then reg ns ms a b c p q r first second =
    record {
      long = second.long ∙ first.long;
      kept = λ i m. second.kept i (first.kept i m);
      held = λ i h. second.held i (first.held i h);
      added = λ i m. elim (second.added i m) [
        | inl before ↦ elim (first.added i before)
            [ inl old ↦ inl old | inr new ↦ inr (second.held i new.0, λ e at. Contains-append_left ns ms e.name (new.1 e at)) ]
        | inr new ↦ inr (new.0, λ e at. Contains-append_right ns ms e.name (new.1 e at))
      ];
      places = λ i h. elim (second.places i h) [
        | inl before ↦ elim (first.places i before) [ inl old ↦ inl old | inr new ↦ inr (new.0, second.kept i new.1) ]
        | inr new ↦ inr new
      ];
      all = λ i e at has. elim (Contains-append_cases ns ms e.name has) [ inl old ↦ second.kept i (first.all i e at old) | inr new ↦ second.all i e at new ];
      work = omega (arith, first.work, second.work);
    }

-- nothing spreads to no names
pub spreads_none : (reg : List Entity) (marks : List Bool) (pending : List ℕ) → Spreads reg [] marks pending marks pending
spreads_none reg marks pending = spreads_nothing reg [] marks pending (λ i e at has. omega (arith, has.1))

-- the names of the required bases, with one base more
pub required_more : (bases : List Base) (b : Base) → mandatory_bases (bases ++ b ∷ []) ≡ mandatory_bases bases ++ mandatory_bases (b ∷ [])
required_more [] b = refl
required_more (x ∷ xs) b = by_test (not x.optional) (required_more xs b)
  where
    by_test : (t : Bool) → mandatory_bases (xs ++ b ∷ []) ≡ mandatory_bases xs ++ mandatory_bases (b ∷ [])
        → map (λ y. y.name) (if t then x ∷ filter (λ y. not y.optional) (xs ++ b ∷ []) else filter (λ y. not y.optional) (xs ++ b ∷ []))
        ≡ map (λ y. y.name) (if t then x ∷ filter (λ y. not y.optional) xs else filter (λ y. not y.optional) xs) ++ mandatory_bases (b ∷ [])
    by_test true e = ap (λ ns. x.name ∷ ns) e
    by_test false e = e

-- the names of the required bases, one base further in the list
pub required_step : (bases : List types.Base) (i : ℕ) (b : types.Base) → i < length bases → b ≡ get_or bases i b
    → mandatory_bases (map base_of (take (i + 1) bases)) ≡ mandatory_bases (map base_of (take i bases)) ++ mandatory_bases (base_of b ∷ [])
required_step bases i b within is =
    ap mandatory_bases (map_more base_of bases i b within ∙ ap (λ x. map base_of (take i bases) ++ base_of x ∷ []) (sym is))
    ∙ required_more (map base_of (take i bases)) (base_of b)

-- a way goes one step further
leads_further : (reg : List Entity) (a b c : List ℕ) → Leads (stands_on reg) a b → Contains (stands_on reg b) c → Leads (stands_on reg) a c
leads_further reg a b c (step from to has) further = on from to c has (step to c further)
leads_further reg a b c (on from next to has more) further = on from next c has (leads_further reg next to c more further)

-- a base of a base is a base
base_further : (reg : List Entity) (name base next : List ℕ) → IsBaseOf reg base name → Contains (stands_on reg base) next → IsBaseOf reg next name
base_further reg name base next (inl same) has = inr (step name next (subst (λ n. Contains (stands_on reg n) next) (sym same) has))
base_further reg name base next (inr leads) has = inr (leads_further reg name base next leads has)

-- the bases of the entity at a place, by its name
bases_by_name : (reg : List Entity) (p : ℕ) (e : Entity) → IsRising reg → slice_get reg p ≡ Some e → stands_on_body (slice_get reg p) ≡ stands_on reg e.name
bases_by_name reg p e rising at = ap stands_on_body (at ∙ sym (named_there reg p e rising at))

-- a place that was taken from the pending ones and has spread leaves a search one step on
pub searched_step : (reg : List Entity) (name : List ℕ) (p : ℕ) (marks : List Bool) (rest : List ℕ) (marks_after : List Bool) (pending_after : List ℕ)
    → IsRising reg
    → Searched reg name marks (rest ++ p ∷ []) → Spreads reg (stands_on_body (slice_get reg p)) marks rest marks_after pending_after
    → Searched reg name marks_after pending_after
searched_step reg name p marks rest marks_after pending_after rising searched spreads =
    record {
      long = spreads.long ∙ searched.long;
      begun = λ i e at is. spreads.kept i (searched.begun i e at is);
      only = λ i e at m. elim (spreads.added i m) [
        | inl old ↦ searched.only i e at old
        | inr new ↦ base_further reg name source.0.name e.name (searched.only p source.0 source.1 mark)
            (subst (λ ns. Contains ns e.name) names (new.1 e at))
      ];
      closed = λ i e at m. elim (spreads.added i m) [ inl old ↦ still_closed i e at (searched.closed i e at old) | inr new ↦ inl new.0 ];
      waiting = λ i h. elim (spreads.places i h) [ inl old ↦ kept_waiting i old | inr new ↦ new ];
    }
  where
    here : (p < length reg) × Marked marks p
    here = searched.waiting p (Contains-push rest p)

    source : (e : Entity) × (slice_get reg p ≡ Some e)
    source = entity_at reg p here.0

    mark : Marked marks p
    mark = here.1

    names : stands_on_body (slice_get reg p) ≡ stands_on reg source.0.name
    names = bases_by_name reg p source.0 rising source.1

    kept_waiting : (i : ℕ) → Contains rest i → (i < length reg) × Marked marks_after i
    kept_waiting i old = let was = searched.waiting i (Contains-append_left rest (p ∷ []) i old) in (was.0, spreads.kept i was.1)

    all_here : (i : ℕ) (e : Entity) → slice_get reg i ≡ Some e → p ≡ i → AllMarked reg marks_after (stands_on reg e.name)
    all_here i e at same = subst (AllMarked reg marks_after) (bases_by_name reg p e rising (subst (λ k. slice_get reg k ≡ Some e) (sym same) at)) spreads.all

    still_closed : (i : ℕ) (e : Entity) → slice_get reg i ≡ Some e → Contains (rest ++ p ∷ []) i ⊎ AllMarked reg marks (stands_on reg e.name)
        → Contains pending_after i ⊎ AllMarked reg marks_after (stands_on reg e.name)
    still_closed i e at (inl pending) = elim (Contains-push_cases rest p i pending) [ inl old ↦ inl (spreads.held i old) | inr now ↦ inr (all_here i e at now) ]
    still_closed i e at (inr all) = inr (λ j f there has. spreads.kept j (all j f there has))

-- a search begins with one mark
pub replicate_unmarked : (n i : ℕ) → Marked (replicate n false) i → ⊥
replicate_unmarked zero i m = let bad : None ≡ Some true = m in cc
replicate_unmarked (suc n) zero m = let bad : Some false ≡ Some true = m in cc
replicate_unmarked (suc n) (suc i) m = replicate_unmarked n i m

pub search_begins : (reg : List Entity) (p : ℕ) (e : Entity) → IsRising reg → p < length reg → slice_get reg p ≡ Some e
    → Searched reg e.name (set (replicate (length reg) false) p true) (p ∷ [])
search_begins reg p e rising within at =
    record {
      long = length-set marks p true ∙ length-replicate (length reg) false;
      begun = λ i f there is. subst (Marked (set marks p true)) (distinct_places reg rising p i e f at there (sym is)) (set_marked marks p in_list);
      only = λ i f there m. inl (by_place i f there (cases_eq i p) m);
      closed = λ i f there m. inl (subst (Contains (p ∷ [])) (sym (at_start i m (cases_eq i p))) (0, omega arith, refl));
      waiting = λ i h. let here = only_place i h in subst (λ k. (k < length reg) × Marked (set marks p true) k) here (within, set_marked marks p in_list);
    }
  where
    marks : List Bool
    marks = replicate (length reg) false

    in_list : p < length marks
    in_list = omega (arith, within, length-replicate (length reg) false)

    at_start : (i : ℕ) → Marked (set marks p true) i → (i ≡ p) ⊎ (i ≢ p) → i ≡ p
    at_start i m (inl same) = same
    at_start i m (inr other) = absurd (replicate_unmarked (length reg) i (sym (set_other marks p i other) ∙ m))

    by_place : (i : ℕ) (f : Entity) → slice_get reg i ≡ Some f → (i ≡ p) ⊎ (i ≢ p) → Marked (set marks p true) i → e.name ≡ f.name
    by_place i f there which m = let same = at_start i m which in names (sym at ∙ ap (slice_get reg) (sym same) ∙ there)
      where
        names : Some e ≡ Some f → e.name ≡ f.name
        names one = let it : e ≡ f = cc in ap (λ (x : Entity). x.name) it

    only_place : (i : ℕ) → Contains (p ∷ []) i → p ≡ i
    only_place i (zero, low, is) = is
    only_place i (suc k, low, is) = absurd (omega arith)

-- a search with nothing pending has marked the bases, and nothing else
pub search_ends : (reg : List Entity) (p : ℕ) (e : Entity) (marks : List Bool) → IsRising reg → slice_get reg p ≡ Some e → Searched reg e.name marks []
    → MarksBases reg e.name marks
search_ends reg p e marks rising at searched =
    marks_bases reg marks e.name p e searched.long at refl (searched.begun p e at refl) searched.closed searched.only (distinct_places reg rising)

-- how a search over entities begins, whatever it is shown as
pub begins_searched : (count p : ℕ) (reg : List Entity) (e : Entity) (marks : List Bool) (pending : List ℕ) → IsRising reg → p < length reg
    → slice_get reg p ≡ Some e → length reg ≡ count
    → marks ≡ set (replicate count false) p true → pending ≡ p ∷ [] → Searched reg e.name marks pending
begins_searched count p reg e marks pending rising within at long m q =
    let S : List Bool → List ℕ → Type 0 = λ ms ps. Searched reg e.name ms ps in
    let shown : marks ≡ set (replicate (length reg) false) p true = m ∙ ap (λ n. set (replicate n false) p true) (sym long) in
    subst (λ ms. S ms pending) (sym shown) (subst (S (set (replicate (length reg) false) p true)) (sym q) (search_begins reg p e rising within at))

pub only_start : (p i : ℕ) (pending : List ℕ) → pending ≡ p ∷ [] → Contains pending i → p ≡ i
only_start p i pending q has = first (subst (λ (ps : List ℕ). Contains ps i) q has)
  where
    first : Contains (p ∷ []) i → p ≡ i
    first (zero, low, is) = is
    first (suc k, low, is) = absurd (omega arith)
