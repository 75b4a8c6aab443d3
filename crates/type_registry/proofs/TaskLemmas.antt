-- Tasks that are done from the last to the first.
use Rattle.std.proofs.Common.{◌≡◌, ℕ, zero, append-nil, append_assoc, suc, ◌+◌, ◌<◌, List, [], ◌∷◌, ◌++◌, length, map, reverse, true, false, refl, ap, sym, ◌∙◌, arith}
use Rattle.std.proofs.lemmas.List.{map-append, reverse-append}
use Rattle.uno_model.specs.Entities.{Entity}
use Rattle.uno_model.specs.Functions.{met_within, visit_all, is_met}
use Rattle.uno_model.specs.Registry.{stands_on}
use Rattle.uno_model.proofs.VisitLaws.{Extends, extends_on, met_extends}
use Rattle.type_registry.specs.declared.walk.Task.{Task}
use Rattle.type_registry.specs.Tasks.{tasks_of, doing_of, Doing, visit, leave, do_one, done, visits, sum_with, cost_within, cost, costs}

-- what stands behind is done first
pub done_behind : (reg : List Entity) (ts us : List Doing) (met : List (List ℕ)) → done reg (ts ++ us) met ≡ done reg ts (done reg us met)
unfolding done
done_behind reg [] us met = refl
done_behind reg (t ∷ ts) us met = ap (do_one reg t) (done_behind reg ts us met)

pub costs_behind : (reg : List Entity) (ts us : List Doing) → costs reg (ts ++ us) ≡ costs reg ts + costs reg us
unfolding costs
costs_behind reg [] us = omega arith
costs_behind reg (t ∷ ts) us = omega (arith, costs_behind reg ts us)

-- one task behind others
pub done_last : (reg : List Entity) (ts : List Doing) (t : Doing) (met : List (List ℕ)) → done reg (ts ++ t ∷ []) met ≡ done reg ts (do_one reg t met)
unfolding done
done_last reg ts t met = done_behind reg ts (t ∷ []) met

pub costs_last : (reg : List Entity) (ts : List Doing) (t : Doing) → costs reg (ts ++ t ∷ []) ≡ costs reg ts + cost reg t
unfolding costs
costs_last reg ts t = omega (arith, costs_behind reg ts (t ∷ []))

-- visits of some names, and of others behind them
pub visits_both : (levels : ℕ) (names others : List (List ℕ)) → visits levels (names ++ others) ≡ visits levels others ++ visits levels names
visits_both levels names others =
    ap reverse (map-append (λ name. visit name levels) names others) ∙ reverse-append (map (λ name. visit name levels) names) (map (λ name. visit name levels) others)

-- the last of the names is a task, and the others are left
pub one_task_more : (levels : ℕ) (names all : List (List ℕ)) (name : List ℕ) (old new whole : List Doing) → all ≡ names ++ name ∷ [] → new ≡ old ++ visit name levels ∷ []
    → old ++ visits levels all ≡ whole → new ++ visits levels names ≡ whole
one_task_more levels names all name old new whole is pushed before =
    ap (λ ts. ts ++ visits levels names) pushed ∙ append_assoc old (visit name levels ∷ []) (visits levels names)
    ∙ ap (λ ts. old ++ ts) (sym (ap (visits levels) is ∙ visits_both levels names (name ∷ []))) ∙ before

pub no_task_more : (levels : ℕ) (all : List (List ℕ)) (old whole : List Doing) → all ≡ [] → old ++ visits levels all ≡ whole → old ≡ whole
no_task_more levels all old whole none before = sym (append-nil old) ∙ ap (λ ns. old ++ visits levels ns) (sym none) ∙ before

-- to do the visits is to visit all, the first name first
pub done_visits : (reg : List Entity) (levels : ℕ) (names : List (List ℕ)) (met : List (List ℕ)) → done reg (visits levels names) met ≡ visit_all (met_within levels reg) met names
unfolding done visit_all
done_visits reg levels [] met = refl
done_visits reg levels (name ∷ names) met =
    ap (λ ts. done reg ts met) (visits_both levels (name ∷ []) names) ∙ done_last reg (visits levels names) (visit name levels) met
    ∙ done_visits reg levels names (met_within levels reg met name)

pub costs_visits : (reg : List Entity) (levels : ℕ) (names : List (List ℕ)) → costs reg (visits levels names) + length names ≡ sum_with (cost_within levels reg) names
unfolding costs sum_with
costs_visits reg levels [] = refl
costs_visits reg levels (name ∷ names) =
    let both = ap (costs reg) (visits_both levels (name ∷ []) names) in
    let last = costs_last reg (visits levels names) (visit name levels) in
    let rest = costs_visits reg levels names in
    omega (arith, both, last, rest)

-- ---- a visit

-- one that adds nothing
pub nothing_done : (reg : List Entity) (ts us : List Doing) (levels : ℕ) (met : List (List ℕ)) (name : List ℕ) → us ≡ ts → met_within levels reg met name ≡ met
    → done reg us met ≡ done reg ts (met_within levels reg met name)
nothing_done reg ts us levels met name same adds = ap (λ vs. done reg vs met) same ∙ ap (done reg ts) (sym adds)

pub over_none : (reg : List Entity) (levels : ℕ) (met : List (List ℕ)) (name : List ℕ) → levels ≡ 0 → met_within levels reg met name ≡ met
unfolding met_within
over_none reg levels met name none = rw none refl

pub was_met : (reg : List Entity) (levels : ℕ) (met : List (List ℕ)) (name : List ℕ) → 0 < levels → is_met name met ≡ true → met_within levels reg met name ≡ met
unfolding met_within
was_met reg zero met name some is = absurd (omega (arith, some))
was_met reg (suc levels) met name some is = rw is refl

pub some_cost : (reg : List Entity) (levels : ℕ) (name : List ℕ) → 0 < cost_within levels reg name
unfolding cost_within
some_cost reg zero name = omega arith
some_cost reg (suc levels) name = omega arith

pub task_cost : (reg : List Entity) (t : Doing) → 0 < cost reg t
task_cost reg (visit name levels) = some_cost reg levels name
task_cost reg (leave name) = omega arith

-- one that brings in its bases, and then itself
pub bases_first : (reg : List Entity) (ts us vs : List Doing) (levels less : ℕ) (met : List (List ℕ)) (name : List ℕ) → levels ≡ suc less → is_met name met ≡ false
    → us ≡ ts ++ leave name ∷ [] → vs ≡ us ++ visits less (stands_on reg name) → done reg vs met ≡ done reg ts (met_within levels reg met name)
unfolding met_within
bases_first reg ts us vs levels less met name is new left visited =
    let bases = stands_on reg name in
    let all : met_within levels reg met name ≡ visit_all (met_within less reg) met bases ++ name ∷ [] = rw (is, new) refl in
    ap (λ ws. done reg ws met) visited ∙ done_behind reg us (visits less bases) met ∙ ap (λ ws. done reg ws (done reg (visits less bases) met)) left
    ∙ done_last reg ts (leave name) (done reg (visits less bases) met) ∙ ap (λ m. done reg ts (m ++ name ∷ [])) (done_visits reg less bases met)
    ∙ ap (done reg ts) (sym all)

pub costs_less : (reg : List Entity) (ts us vs : List Doing) (levels less : ℕ) (name : List ℕ) → levels ≡ suc less
    → us ≡ ts ++ leave name ∷ [] → vs ≡ us ++ visits less (stands_on reg name) → costs reg vs < costs reg ts + cost_within levels reg name
unfolding cost_within
costs_less reg ts us vs levels less name is left visited =
    let bases = stands_on reg name in
    let whole : cost_within levels reg name ≡ 2 + sum_with (cost_within less reg) bases = rw is refl in
    omega (arith, whole, ap (costs reg) visited, costs_behind reg us (visits less bases), ap (costs reg) left, costs_last reg ts (leave name), costs_visits reg less bases)

-- all tasks, where the last one is taken off, and done
pub taken_off : (reg : List Entity) (rest all : List Doing) (t : Doing) (met more whole : List (List ℕ)) → all ≡ rest ++ t ∷ []
    → done reg all met ≡ whole → more ≡ do_one reg t met → done reg rest more ≡ whole
taken_off reg rest all t met more whole is so_far one =
    ap (done reg rest) one ∙ sym (done_last reg rest t met) ∙ sym (ap (λ ts. done reg ts met) is) ∙ so_far

pub one_less : (reg : List Entity) (rest all : List Doing) (t : Doing) → all ≡ rest ++ t ∷ [] → costs reg all ≡ costs reg rest + cost reg t
one_less reg rest all t is = ap (costs reg) is ∙ costs_last reg rest t

-- no tasks are left
pub none_left : (reg : List Entity) (ts : List Doing) (met whole : List (List ℕ)) → ts ≡ [] → done reg ts met ≡ whole → met ≡ whole
unfolding done
none_left reg ts met whole none so_far = sym (ap (λ us. done reg us met) none) ∙ so_far

-- the one task at first
pub one_task : (reg : List Entity) (ts : List Doing) (met : List (List ℕ)) (name : List ℕ) (levels : ℕ) → ts ≡ visit name levels ∷ [] → met ≡ []
    → done reg ts met ≡ met_within levels reg [] name
unfolding done
one_task reg ts met name levels is none = ap (λ us. done reg us met) is ∙ ap (λ m. met_within levels reg m name) none

-- ---- tasks as the code has them

pub popped : (rest all : List Task) (t : Task) (d : Doing) → all ≡ rest ++ t ∷ [] → doing_of t ≡ d → tasks_of all ≡ tasks_of rest ++ d ∷ []
popped rest all t d top is = ap tasks_of top ∙ map-append doing_of rest (t ∷ []) ∙ ap (λ e. tasks_of rest ++ e ∷ []) is

pub first_task : (old new : List Task) (t : Task) → old ≡ [] → new ≡ old ++ t ∷ [] → tasks_of new ≡ doing_of t ∷ []
first_task old new t none added = ap tasks_of added ∙ ap (λ ts. tasks_of (ts ++ t ∷ [])) none

-- as many levels as there are entities, and one more
pub all_levels : (reg : List Entity) (count levels : ℕ) (met : List (List ℕ)) (n : List ℕ) → count ≡ length reg → levels ≡ count + 1
    → met_within levels reg met n ≡ met_within (suc (length reg)) reg met n
all_levels reg count levels met n is more = let same : levels ≡ suc (length reg) = omega (arith, is, more) in ap (λ l. met_within l reg met n) same

-- ---- what a walk with few tasks at a time finds

-- what a visit over one level or more costs
pub cost_more : (reg : List Entity) (levels less : ℕ) (name : List ℕ) → levels ≡ less + 1 → cost_within levels reg name ≡ 2 + sum_with (cost_within less reg) (stands_on reg name)
unfolding cost_within
cost_more reg levels less name is = let next : levels ≡ suc less = omega (arith, is) in ap (λ l. cost_within l reg name) next

pub sum_last : (f : List ℕ → ℕ) (names : List (List ℕ)) (name : List ℕ) (all : List (List ℕ)) → all ≡ names ++ name ∷ [] → sum_with f all ≡ sum_with f names + f name + 1
unfolding sum_with
sum_last f names name all is = ap (sum_with f) is ∙ behind names
  where
    behind : (ns : List (List ℕ)) → sum_with f (ns ++ name ∷ []) ≡ sum_with f ns + f name + 1
    behind [] = omega arith
    behind (n ∷ ns) = omega (arith, behind ns)

-- what is met stays in front
pub done_extends : (reg : List Entity) (ts : List Doing) (met : List (List ℕ)) → Extends met (done reg ts met)
unfolding done
done_extends reg [] met = ([], sym (append-nil met))
done_extends reg (visit name levels ∷ ts) met = extends_on met (done reg ts met) _ (done_extends reg ts met) (met_extends levels reg (done reg ts met) name)
done_extends reg (leave name ∷ ts) met = extends_on met (done reg ts met) _ (done_extends reg ts met) (name ∷ [], refl)
