-- All faults one behind the other, and the verdict.
use Rattle.std.proofs.Common.{◌≡◌, refl, sym, ap, subst, ◌∙◌, ℕ, ◌<◌, List, [], ◌∷◌, ◌++◌, length, map, slice_get, Some, Result, Ok, Err, true, append_assoc}
use Rattle.std.specs.List.{AllByRecursion, list_all}
use Rattle.std.proofs.lemmas.Option.{slice_get_within}
use Rattle.std.proofs.lemmas.Result.{err_from_is_err_and}
use Rattle.std.specs.Result.{IfErr, IsErrAnd}
use Rattle.idl_meaning_model.specs.Declarations as model
use Rattle.idl_meaning_model.specs.FromFiles.{AreOfFiles, has_identifiers, is_spelled_use}
use Rattle.idl_meaning_model.specs.NameFaults.{NameFault, IsResolved, declared_twice, faults, faults_among, forward_alone, names_told, refused_types, unknown_uses}
use Rattle.idl_meaning_model.specs.Declarations.{entities_declared}
use Rattle.idl_meaning_model.specs.Uses.{uses}
use Rattle.idl_model.specs.Places.{Place}
use Rattle.idl_model.specs.Trees.{Tree}
use Rattle.idl_names.specs.Alone.{alone_among, twice_among}
use Rattle.idl_names.specs.Collected.{declared_of, HasNumbers, IsCollected, Keep}
use Rattle.idl_names.specs.Faults.{AddsFaults, ComesFirst, all_faults_of}
use Rattle.idl_names.specs.Opened.{HasOpened, own_path}
use Rattle.idl_names.specs.Paths.{Parts}
use Rattle.idl_names.specs.Resolving.{IsRefused, TellsAll}
use Rattle.idl_names.specs.Telling.{AreRight, TellsUses, named_of, told_among, unknown_among}
use Rattle.idl_names.specs.declared.collecting.Collected.{Collected}
use Rattle.idl_names.specs.declared.declaration.Declared.{Declared}
use Rattle.idl_names.specs.declared.error.NameError.{NameError}
use Rattle.idl_names.specs.declared.error.NameError.TheVariants as error
use Rattle.idl_names.specs.declared.fault.Fault.{Fault}
use Rattle.idl_names.specs.declared.opening.Opened.{Opened}
use Rattle.idl_names.specs.declared.telling.Told.{Told}
use Rattle.idl_names.proofs.CollectedLemmas.{told_kept, all_numbers_kept}

abbrev Plain : Type 0
Plain = Place × NameFault

-- ---- of all declarations

pub alone_all : (ds : List model.Declared) → alone_among ds ds ≡ forward_alone ds
unfolding alone_among forward_alone
alone_all ds = refl

pub twice_all : (ds : List model.Declared) → twice_among ds ds ≡ declared_twice ds
unfolding twice_among declared_twice entities_declared
twice_all ds = refl

unknown_all : (ds : List model.Declared) → unknown_among ds (uses ds) ≡ unknown_uses ds
unfolding unknown_among unknown_uses
unknown_all ds = refl

behind : (old mid new : List Fault) (xs ys : List Plain) → all_faults_of mid ≡ xs → AddsFaults mid ys new → all_faults_of new ≡ xs ++ ys
behind old mid new xs ys is adds = adds ∙ ap (λ k. k ++ ys) is

pub all_told : (paths : List Parts) (ds : List model.Declared) (a b t : Told) (two three : List Fault) → a.names.items ≡ [] → a.faults.items ≡ [] → TellsUses paths ds a (uses ds) b
    → AddsFaults b.faults.items (forward_alone ds) two → AddsFaults two (declared_twice ds) three → AddsFaults three (refused_types ds) t.faults.items → t.names.items ≡ b.names.items
    → TellsAll paths ds t
all_told paths ds a b t two three no_names no_faults told second third fourth names =
    record {
      faults =
          fourth ∙ ap (λ k. k ++ refused_types ds) (third ∙ ap (λ k. k ++ declared_twice ds) (second ∙ ap (λ k. k ++ forward_alone ds) first))
          ∙ regroup (unknown_uses ds) (forward_alone ds) (declared_twice ds) (refused_types ds);
      names = ap (named_of paths) names ∙ told.names ∙ ap (λ k. named_of paths k ++ told_among ds (uses ds)) no_names;
      right = subst (AreRight paths) (sym names) (told.right (subst (AreRight paths) (sym no_names) tt));
    }
  where
    first : all_faults_of b.faults.items ≡ unknown_uses ds
    first = told.faults ∙ ap (λ k. all_faults_of k ++ unknown_among ds (uses ds)) no_faults ∙ unknown_all ds

    regroup : (w x y z : List Plain) → ((w ++ x) ++ y) ++ z ≡ w ++ (x ++ (y ++ z))
    regroup w x y z = append_assoc (w ++ x) y z ∙ append_assoc w x (y ++ z)

-- ---- of files

module _ (trees : List Tree) (old : Collected) (is : IsCollected trees old) (files : AreOfFiles trees) (new : List Parts) (keep : Keep old.paths new) where
  pub still_declared : map (declared_of new) old.declared.items ≡ model.declarations trees
  still_declared = told_kept old.paths new old.declared.items keep is.numbered ∙ is.told

  pub still_numbered : AllByRecursion (HasNumbers new) old.declared.items
  still_numbered = all_numbers_kept old.paths new old.declared.items keep is.numbered

  pub still_identifiers : list_all has_identifiers (map (declared_of new) old.declared.items) ≡ true
  still_identifiers = ap (list_all has_identifiers) still_declared ∙ files.identifiers

  pub still_spelled : list_all is_spelled_use (uses (map (declared_of new) old.declared.items)) ≡ true
  still_spelled = ap (λ ds. list_all is_spelled_use (uses ds)) still_declared ∙ files.used

  pub still_opened : (opened : Opened) → HasOpened new (map (declared_of old.paths) old.declared.items) opened → HasOpened new (map (declared_of new) old.declared.items) opened
  still_opened opened has = subst (λ ds. HasOpened new ds opened) (sym (told_kept old.paths new old.declared.items keep is.numbered)) has

-- ---- the verdict

-- want of memory says nothing of the names
pub no_memory_refused : {T : Type 0} (trees : List Tree) (r : Result T NameError) → IsErrAnd r (λ e. e ≡ error.NoMemory) → IfErr r (IsRefused trees)
no_memory_refused trees r is =
    let p = err_from_is_err_and r is in
    subst (λ q. IfErr q (IsRefused trees)) (sym p.1) (subst (IsRefused trees) (sym p.2) tt)

module _ (trees : List Tree) (paths : List Parts) (ds : List model.Declared) (all : ds ≡ model.declarations trees) (told : Told) (are : TellsAll paths ds told) where
  all_faults : all_faults_of told.faults.items ≡ faults trees
  unfolding faults
  all_faults = are.faults ∙ ap faults_among all

  pub resolved : told.faults.items ≡ [] → IsResolved trees (Ok (named_of paths told.names.items))
  unfolding names_told told_among
  resolved none = (sym all_faults ∙ ap all_faults_of none, are.names ∙ ap (λ es. told_among es (uses es)) all)

  pub refused : (fault : Plain) → ComesFirst (all_faults_of told.faults.items) fault → IsResolved trees (Err fault)
  refused fault first = let of_all = subst (λ fs. ComesFirst fs fault) all_faults first in record { one = of_all.one; first = of_all.first }

-- the numbers of declarations are those of paths
pub paths_low : (paths : List Parts) (count : ℕ) (all : List Declared) → count ≡ length paths → AllByRecursion (HasNumbers paths) all → AllByRecursion (λ d. d.path < count) all
paths_low paths count [] is has = tt
paths_low paths count (d ∷ ds) is has =
    (subst (λ n. d.path < n) (sym is) (slice_get_within paths d.path (own_path (declared_of paths d)) has.0.own), paths_low paths count ds is has.1)

-- what holds of a list holds of the slice that was made of it
pub of_items : {X : Type 0} {xs ys : List X} (P : List X → Type 0) → ys ≡ xs → P xs → P ys
of_items P same holds = subst P (sym same) holds

pub still_outermost : (trees : List Tree) (old : Collected) (new : List Parts) → IsCollected trees old → Keep old.paths new → slice_get new 0 ≡ Some []
still_outermost trees old new is keep = keep 0 (slice_get_within old.paths 0 [] is.outermost) ∙ is.outermost
