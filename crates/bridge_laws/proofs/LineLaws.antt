-- A run that stands for a history has the lines of its statements.
use Rattle.std.proofs.Common.{◌≡◌, refl, sym, ap, subst, ◌∙◌, ℕ, suc, List, [], ◌∷◌, ◌++◌, Option, None, Some}
use Rattle.std.proofs.lemmas.List.{append_assoc, append-nil}
use Rattle.plan_model.specs.Roots.{Run, opening_run}
use Rattle.bridge_model.specs.Entries.{Entry}
use Rattle.bridge_model.specs.Histories.{Told, Leads}
use Rattle.bridge_model.specs.RootRuns.{line_of, StandsFor, begun, another, entered, passed}
use Rattle.bridge_model.specs.Settings.{Setting}
use Rattle.bridge_laws.specs.Lines.{ComesFirst, IsAt, Lines, first, silent, line}
use Rattle.bridge_laws.proofs.LineMoveLaws.{Goes, stays, is_over, gives, root_goes}

first_later : (e : Option Entry) (later fs : List Entry) → ComesFirst e later → ComesFirst e (later ++ fs)
first_later None later fs is = tt
first_later (Some e) later fs (rest, is) = (rest ++ fs, ap (λ zs. zs ++ fs) is)

at_later : (g : Setting) (es fs : List Entry) (root place : ℕ) (ls : List (List ℕ)) → IsAt g es root place ls → IsAt g (es ++ fs) root place ls
at_later g es fs root place ls at =
    record {
      front = at.front;
      later = at.later ++ fs;
      journal = ap (λ zs. zs ++ fs) at.journal ∙ append_assoc at.front at.later fs;
      told = at.told;
      leads = at.leads;
      run = at.run;
      stands_for = at.stands_for;
      same_root = at.same_root;
      same_place = at.same_place;
      same_lines = at.same_lines;
    }

lines_later : (g : Setting) (es fs : List Entry) (root n : ℕ) (ls : List (List ℕ)) → Lines g es root n ls → Lines g (es ++ fs) root n ls
unfolding at_later
lines_later g es fs root n' ls' first = first
lines_later g es fs root n' ls' (silent place ls s e at there is next before) =
    silent place ls s e (at_later g es fs root place ls at) there is (first_later e at.later fs next) (lines_later g es fs root place ls before)
lines_later g es fs root n' ls' (line place ls s e text at there is next before) =
    line place ls s e text (at_later g es fs root place ls at) there is (first_later e at.later fs next) (lines_later g es fs root place ls before)

lines_as : (g : Setting) (es : List Entry) (a b n m : ℕ) (ks ls : List (List ℕ)) → b ≡ a → m ≡ n → ls ≡ ks → Lines g es a n ks → Lines g es b m ls
lines_as g es a b n m ks ls p q o is = subst (λ x. Lines g es x m ls) (sym p) (subst (λ x. Lines g es a x ls) (sym q) (subst (λ x. Lines g es a n x) (sym o) is))

goes_on : (g : Setting) (es later : List Entry) (told : Told) (r next : Run) (e : Option Entry) → Leads g es told → StandsFor g es r → ComesFirst e later → Lines g (es ++ later) r.root r.place r.lines
    → Goes g told.side r next e → Lines g (es ++ later) next.root next.place next.lines
goes_on g es later told r next e leads for_it comes before (stays reaches) = lines_as g (es ++ later) r.root next.root r.place next.place r.lines next.lines reaches.root reaches.place_is reaches.lines_are before
goes_on g es later told r next e leads for_it comes before (is_over s there is reaches) =
    lines_as g (es ++ later) r.root next.root (suc r.place) next.place r.lines next.lines reaches.root reaches.place_is reaches.lines_are
    (silent r.place r.lines s e
    (record { front = es; later = later; journal = refl; told = told; leads = leads; run = r; stands_for = for_it; same_root = refl; same_place = refl; same_lines = refl }) there is comes before)
goes_on g es later told r next e leads for_it comes before (gives s text there is reaches) =
    lines_as g (es ++ later) r.root next.root (suc r.place) next.place (r.lines ++ line_of r text ∷ []) next.lines reaches.root reaches.place_is reaches.lines_are
    (line r.place r.lines s e text
    (record { front = es; later = later; journal = refl; told = told; leads = leads; run = r; stands_for = for_it; same_root = refl; same_place = refl; same_lines = refl }) there is comes before)

first_run : (g : Setting) (root : ℕ) (instance : List ℕ) → Lines g [] (opening_run root instance).root (opening_run root instance).place (opening_run root instance).lines
unfolding opening_run
first_run g root instance = first

pub run_lines : (g : Setting) (es : List Entry) (r : Run) → StandsFor g es r → Lines g es r.root r.place r.lines
run_lines g es' r' (begun root instance) = first_run g root instance
run_lines g es' r' (another {es} {r} x other before) = lines_later g es (x ∷ []) r.root r.place r.lines (run_lines g es r before)
run_lines g es' r' (entered {es} {r} {next} {told} x leads is before) =
    goes_on g es (x ∷ []) told r next (Some x) leads before ([], refl) (lines_later g es (x ∷ []) r.root r.place r.lines (run_lines g es r before)) (root_goes g told.side r next (Some x) is)
run_lines g es' r' (passed {es} {r} {next} {told} leads is before) =
    subst (λ zs. Lines g zs next.root next.place next.lines) (append-nil es)
    (goes_on g es [] told r next None leads before tt (lines_later g es [] r.root r.place r.lines (run_lines g es r before)) (root_goes g told.side r next None is))
