-- The functions of an interface: each is declared by its owner, and behind the root's three none is the root's.
use Rattle.std.proofs.Common.{◌≡◌, refl, sym, ap, ◌∙◌, ℕ, Bool, true, false, List, [], ◌∷◌, ◌++◌, Option, None, Some, if◌then◌else◌}
use Rattle.std.specs.Prelude.{Contains}
use Rattle.std.specs.List.{flat_map, list_all}
use Rattle.std.specs.Str.{bytes_eq}
use Rattle.std.proofs.lemmas.List.{append_cancel_left}
use Rattle.std.proofs.lemmas.Slice.Eq.{bytes_eq-Decides}
use mathlib.Core.Path.{subst}
use Rattle.uno_model.specs.BuiltIn.{x_interface, x_interface_name, query_interface}
use Rattle.uno_model.specs.Entities.{Entity, Body, Member, interface, attribute, method}
use Rattle.uno_model.specs.Functions.{Function, getter, setter, accessors_of, calls_of, declared_in, declared_by, interfaces_of, functions_of, root_functions}
use Rattle.uno_model.specs.Functions as fn
use Rattle.uno_model.specs.Registry.{find_entity}
use Rattle.uno_model.specs.Sound.{IsSound}
use Rattle.uno_model.proofs.AllLaws.{all_append, all_flat, all_pass}
use Rattle.uno_model.proofs.CircleLaws.{all_at}
use Rattle.uno_model.proofs.FindLaws.{same_equal}
use Rattle.uno_model.proofs.PlaceLaws.{contains_head}
use Rattle.uno_model.proofs.VisitLaws.{interfaces_differ}
use Rattle.plan_typing.proofs.CalleePlaces.{in_one_of, Apart, differ_apart, apart_behind, apart_first}

-- ---- owners

is_of : List ℕ → Function → Bool
is_of owner f = bytes_eq f.owner owner

accessors_owned : (owner : List ℕ) (m : Member) → list_all (is_of owner) (accessors_of owner m) ≡ true
unfolding is_of
accessors_owned owner (method m) = refl
accessors_owned owner (attribute a) = by_test a.read_only
  where
    by_test : (b : Bool) → list_all (is_of owner) (if b then getter owner a ∷ [] else getter owner a ∷ (setter owner a ∷ [])) ≡ true
    by_test true = rw (same_equal owner) refl
    by_test false = rw (same_equal owner) refl

calls_owned : (owner : List ℕ) (m : Member) → list_all (is_of owner) (calls_of owner m) ≡ true
unfolding is_of
calls_owned owner (attribute a) = refl
calls_owned owner (method m) = rw (same_equal owner) refl

declared_owned : (owner : List ℕ) (body : Body) → list_all (is_of owner) (declared_in owner body) ≡ true
declared_owned owner (interface bases members) =
    all_append (is_of owner) (flat_map (accessors_of owner) members) (flat_map (calls_of owner) members)
    (all_flat (is_of owner) (accessors_of owner) members (all_pass (λ m. list_all (is_of owner) (accessors_of owner m)) (accessors_owned owner) members))
    (all_flat (is_of owner) (calls_of owner) members (all_pass (λ m. list_all (is_of owner) (calls_of owner m)) (calls_owned owner) members))
declared_owned owner _ = refl

all_owned : (owner : List ℕ) (o : Option Entity) → list_all (is_of owner) (declared_by owner o) ≡ true
all_owned owner None = refl
all_owned owner (Some e) = declared_owned owner e.body

pub owner_is : (owner : List ℕ) (o : Option Entity) (f : Function) → Contains (declared_by owner o) f → f.owner ≡ owner
unfolding is_of
owner_is owner o f has = (bytes_eq-Decides f.owner owner).0 (all_at (is_of owner) (declared_by owner o) f (all_owned owner o) has)

module _ (reg : List Entity) where
  abbrev pub declared_at : List ℕ → List Function
  declared_at owner = declared_by owner (find_entity owner reg)

  -- a function among those of interfaces is its owner's, which is one of them
  pub record Owned (ns : List (List ℕ)) (f : Function) : Type 0 where
    pub owner : Contains ns f.owner
    pub declared : Contains (declared_at f.owner) f

  pub owned : (ns : List (List ℕ)) (f : Function) → Contains (flat_map declared_at ns) f → Owned ns f
  owned ns f has =
      let one = in_one_of declared_at ns f has in
      let same = owner_is one.0 (find_entity one.0 reg) f one.2 in
      record { owner = subst (Contains ns) (sym same) one.1; declared = subst (λ n. Contains (declared_at n) f) (sym same) one.2 }

  -- ---- the root's

  module _ (root : find_entity x_interface_name reg ≡ Some x_interface) where
    of_root : declared_at x_interface_name ≡ root_functions
    of_root = ap (declared_by x_interface_name) root

    -- an interface that declares the root's first function is the root
    is_root : (n : List ℕ) (d : Function) (ds rest more : List Function) → declared_at n ≡ d ∷ ds → (d ∷ ds) ++ rest ≡ root_functions ++ more → n ≡ x_interface_name
    is_root n d ds rest more declares is =
        let first : d ≡ fn.call x_interface_name query_interface = cc in
        let own : d.owner ≡ n = owner_is n (find_entity n reg) d (subst (λ l. Contains l d) (sym declares) (contains_head d ds)) in
        sym own ∙ ap (λ f. f.owner) first

    behind_root : (ns : List (List ℕ)) (more : List Function) → declared_at x_interface_name ++ flat_map declared_at ns ≡ root_functions ++ more → flat_map declared_at ns ≡ more
    behind_root ns more is = append_cancel_left root_functions (flat_map declared_at ns) more (ap (λ l. l ++ flat_map declared_at ns) (sym of_root) ∙ is)

    -- behind the root's three stands none of the root's
    none_again : (ns : List (List ℕ)) (more : List Function) (f : Function) → Apart ns → flat_map declared_at ns ≡ root_functions ++ more → Contains more f
        → f.owner ≡ x_interface_name → ⊥
    none_again [] more f apart is has root_owned = let bad : ⊥ = cc in bad
    none_again (n ∷ ns) more f apart is has root_owned = by_declared (declared_at n) refl (λ also. none_again ns more f (apart_behind n ns apart) also has root_owned)
      where
        by_declared : (ds : List Function) → declared_at n ≡ ds → (flat_map declared_at ns ≡ root_functions ++ more → ⊥) → ⊥
        by_declared [] none later = later (ap (λ l. l ++ flat_map declared_at ns) (sym none) ∙ is)
        by_declared (d ∷ ds) declares later =
            let itself = is_root n d ds (flat_map declared_at ns) more declares (ap (λ l. l ++ flat_map declared_at ns) (sym declares) ∙ is) in
            let rest = behind_root ns more (ap (λ m. declared_at m ++ flat_map declared_at ns) (sym itself) ∙ is) in
            let there = (owned ns f (subst (λ l. Contains l f) (sym rest) has)).owner in
            apart_first n ns apart (subst (Contains ns) (root_owned ∙ sym itself) there)

    pub not_of_root : IsSound reg → (face : List ℕ) (more : List Function) (f : Function) → functions_of reg face ≡ root_functions ++ more → Contains more f
        → f.owner ≡ x_interface_name → ⊥
    not_of_root sound face more f is has root_owned =
        none_again (interfaces_of reg face) more f (differ_apart (interfaces_of reg face) (interfaces_differ reg face sound.no_circle)) is has root_owned
