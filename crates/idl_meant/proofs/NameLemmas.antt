-- What is known of names, of what calls give.
use Rattle.std.proofs.Common.{◌≡◌, refl, sym, ap, subst, ◌∙◌, ℕ, ◌<◌, List, length, get_or, is_some, Option, None, Some, arith}
use Rattle.idl_meant.specs.Naming.{IsAnswer, NamesMeant, Stands}
use Rattle.idl_meant.specs.Owning.{AreOwners}
use Rattle.idl_meant.specs.Resolving.{AreTold}
use Rattle.idl_meant.specs.Using.{AreHeld, IsUsed}
use Rattle.idl_meant.specs.declared.names.Names.{Names}
use Rattle.idl_meant.proofs.StandingLemmas.{stands_there, told_where_used}
use Rattle.idl_model.specs.Places.{Place}
use Rattle.idl_model.specs.Trees.{Path}
use Rattle.idl_names.specs.Standing.{AreOnce}
use Rattle.idl_names.specs.declared.declaration.Declared.{Declared}
use Rattle.idl_names.specs.declared.resolving.Resolved.{Resolved}
use Rattle.idl_types.specs.Bodies.{bodies_of, steps_below, told_at}
use Rattle.idl_types.specs.Steps.{most}
use Rattle.idl_values.specs.Told.{number_at, number_told}
use Rattle.typedef_chains.specs.Chains.{IsEnd}

pub names_are : (r : Resolved) (names : Names) (all : List Declared) (table : List (Option ℕ)) (count : ℕ) → AreOnce r.paths → all ≡ r.declared.items → table ≡ names.owners.items → count ≡ length r.paths
    → ((p : Place) → number_at names.told.numbers p ≡ number_told r.names.items p) → AreHeld all names.uses → AreOwners all names.owners.items
    → ((n : ℕ) → n < count → IsEnd (steps_below (told_at names.told) (bodies_of all) table count) most n (get_or names.ends.items n None)) → NamesMeant r names
names_are r names all table count once same_all same_table many told uses owners ends =
    record {
      once = once;
      told = told;
      uses = subst (λ xs. AreHeld xs names.uses) same_all uses;
      owners = subst (λ xs. AreOwners xs names.owners.items) same_all owners;
      ends = λ n low.
          subst (λ xs. IsEnd (steps_below (told_at names.told) (bodies_of xs) names.owners.items (length r.paths)) most n (get_or names.ends.items n None)) same_all
          (subst (λ t. IsEnd (steps_below (told_at names.told) (bodies_of all) t (length r.paths)) most n (get_or names.ends.items n None)) same_table
          (subst (λ k. IsEnd (steps_below (told_at names.told) (bodies_of all) table k) most n (get_or names.ends.items n None)) many (ends n (omega (arith, low, many)))));
    }

-- what is told at the place of a path that is used in these modules
pub stands_told : (r : Resolved) (it : AreTold r) (names : Names) (are : NamesMeant r names) (modules : ℕ) (path : Path) → IsUsed r.declared.items modules path → (o : Option ℕ) → o ≡ number_at names.told.numbers path.place
    → IsAnswer (IsUsed r.declared.items modules path) (Stands r modules path) o
stands_told r it names are modules path used None is = (tt, λ due. ap is_some (is ∙ are.told path.place) ∙ told_where_used r it modules path used)
stands_told r it names are modules path used (Some n) is = (stands_there r it modules path used n (sym (are.told path.place) ∙ sym is), λ due. refl)
