-- What the rules ask of declarations that their entities do not show holds of those that write entities.
use Rattle.std.proofs.Common.{◌≡◌, ℕ, ℤ, Bool, true, false, not, ◌||◌, List, [], ◌∷◌, ◌++◌, map, Option, None, Some, is_some, refl, ap, ap₂, ◌∙◌, subst}
use Rattle.std.proofs.Common.{if◌then◌else◌}
use Rattle.std.specs.List.{list_all}
use Rattle.std.specs.Option.{option_to_list}
use Rattle.std.proofs.lemmas.Bool.{and_parts, and_from}
use Rattle.std.proofs.lemmas.Grind.{flat_map-append}
use Rattle.std.proofs.lemmas.List.Folds.{list_all-map}
use Rattle.uno_model.specs.BuiltIn.{HasBuiltIn}
use Rattle.uno_model.specs.Entities.{Entity, Body}
use Rattle.uno_model.specs.Entities as uno
use Rattle.uno_model.specs.Kinds as kd
use Rattle.uno_model.specs.Registry.{at_most_one}
use Rattle.uno_model.specs.Sound.{is_some_list}
use Rattle.registry_text_model.specs.Canonical.{is_only_base}
use Rattle.registry_text_model.specs.ConstantValues.{is_in_range, body_is_in_range}
use Rattle.registry_text_model.specs.EnumValues.{is_long, items_are_long}
use Rattle.registry_text_model.specs.Lines.{written}
use Rattle.registry_text_model.specs.Rules.{Rule}
use Rattle.registry_text_model.specs.Rules as rule
use Rattle.idl_model.specs.Trees.{Path, Declaration}
use Rattle.idl_model.specs.Trees as tree
use Rattle.idl_model.specs.Values.{is_wide}
use Rattle.idl_meaning_model.specs.ConstantsMeant.{value_meant}
use Rattle.idl_meaning_model.specs.Declarations.{Declared, Origin, Valued, expression, first_item, item_before, item_origin, full_name, scope_of, items_valued}
use Rattle.idl_meaning_model.specs.Declarations.{constant_valued, valued_in, all_valued}
use Rattle.idl_rules_model.specs.Bases.{base_in, bases_in}
use Rattle.idl_rules_model.specs.Circles.{value_comes_back}
use Rattle.idl_rules_model.specs.ConstantRanges.{constants_in}
use Rattle.idl_rules_model.specs.ItemValues.{items_in}
use Rattle.idl_rules_model.specs.Unshown.{bases_stand_in_one_way, rest_is_last, rests_are_last, members_have_names, keeps_unshown}
use Rattle.canonical_laws.specs.Written.{Each, WritesName, WritesMember, WritesBase, WritesInterface, WritesField, WritesItem, WritesConstant}
use Rattle.canonical_laws.specs.Written.{WritesGiven, WritesRest, WritesConstructor, constructors_written, WritesBody, expression_of}
use Rattle.canonical_laws.proofs.LiteralValues.{long_is_wide, ranged_is_wide, never_back, value_is}
use Rattle.canonical_laws.proofs.WrittenNames.{WritesDeclared}
use Rattle.canonical_laws.proofs.WrittenTypes.{type_is}
use Rattle.canonical_laws.proofs.WrittenUses.{each_passes}

or_true : (b : Bool) → (b || true) ≡ true
or_true true = refl
or_true false = refl

-- ---- bases in one way

no_base_in : (ts : List tree.InterfaceMember) (ms : List uno.Member) → Each WritesMember ts ms → bases_in ts ≡ []
no_base_in [] ms each = refl
no_base_in (t ∷ ts) [] each = absurd each
no_base_in (tree.base_member optional path ∷ ts) (m ∷ ms) each = absurd each.0
no_base_in (tree.attribute t ∷ ts) (m ∷ ms) each = no_base_in ts ms each.1
no_base_in (tree.method t ∷ ts) (m ∷ ms) each = no_base_in ts ms each.1

nothing_inside : (ts : List tree.InterfaceMember) → Each WritesBase ts [] → bases_in ts ≡ []
nothing_inside [] each = refl
nothing_inside (t ∷ ts) each = absurd each

nothing_behind : (o : Option Path) → Each WritesName (option_to_list o) [] → is_some o ≡ false
nothing_behind None each = refl
nothing_behind (Some path) each = absurd each

interface_one_way : (base : Option Path) (members : List tree.InterfaceMember) (bases : List uno.Base) (own : List uno.Member)
    → WritesInterface base members bases own
    → (not (is_some_list (bases_in members)) || not (is_some base)) ≡ true
interface_one_way base members bases own writes = by_test (is_only_base bases) refl
  where
    by_test : (b : Bool) → is_only_base bases ≡ b → (not (is_some_list (bases_in members)) || not (is_some base)) ≡ true
    by_test true is =
        let front : bases_in writes.front ≡ [] =
        nothing_inside writes.front (subst (λ b. Each WritesBase writes.front (if b then [] else bases)) is writes.inside) in
        let none : bases_in members ≡ [] =
        ap bases_in writes.split ∙ flat_map-append base_in writes.front writes.behind
        ∙ ap₂ (λ ps qs. ps ++ qs) front (no_base_in writes.behind own writes.declares) in
        rw none refl
    by_test false is =
        let none : is_some base ≡ false =
        nothing_behind base (subst (λ b. Each WritesName (option_to_list base) (if b then map (λ (x : uno.Base). x.name) bases else [])) is writes.colon) in
        rw none (or_true (not (is_some_list (bases_in members))))

one_way : (decl : Declaration) (body : Body) → WritesBody decl body → bases_stand_in_one_way decl ≡ true
unfolding WritesBody
one_way tree.forward body writes = absurd writes
one_way (tree.interface base members) body (bases, own, same, writes) = interface_one_way base members bases own writes
one_way _ body writes = refl

-- ---- names of members

pub have_names : (decl : Declaration) (body : Body) → WritesBody decl body → members_have_names decl ≡ true
unfolding WritesBody
have_names tree.forward body writes = absurd writes
have_names (tree.struct base members) body (of, fields, same, from, writes) =
    each_passes WritesField (λ (m : tree.Fields). is_some_list m.names) members fields (λ t f in' w. rw w.names refl) writes
have_names (tree.exception base members) body (of, fields, same, from, writes) =
    each_passes WritesField (λ (m : tree.Fields). is_some_list m.names) members fields (λ t f in' w. rw w.names refl) writes
have_names _ body writes = refl

-- ---- values

-- a constant or item that is a number passes
abbrev PassesNumbers : (Valued → Bool) → Type 0
PassesNumbers q = (v : Valued) (n : ℤ) → v.origin ≡ expression (expression_of n) → is_wide n ≡ true → q v ≡ true

module _ (d : Declared) (q : Valued → Bool) (passes : PassesNumbers q) where
  items_pass : (without : Origin) (ts : List tree.Item) (is : List uno.Item) → Each WritesItem ts is → list_all (λ i. is_long i.number) is ≡ true
      → list_all q (items_valued d without ts) ≡ true
  unfolding items_valued
  items_pass without [] is each long = refl
  items_pass without (t ∷ ts) [] each long = absurd each
  items_pass without (t ∷ ts) (i ∷ is) each long =
      let parts = and_parts (is_long i.number) (list_all (λ (j : uno.Item). is_long j.number) is) long in
      and_from (q (record { owner = full_name d; name = t.name; scope = scope_of d; origin = item_origin without t.value }))
      (list_all q (items_valued d (item_before t.name.place) ts))
      (passes (record { owner = full_name d; name = t.name; scope = scope_of d; origin = item_origin without t.value }) i.number
      (ap (item_origin without) each.0.value) (long_is_wide i.number parts.0))
      (items_pass (item_before t.name.place) ts is each.1 parts.1)

  constants_pass : (ts : List tree.Constant) (cs : List uno.Constant) → Each WritesConstant ts cs → list_all (λ c. is_in_range c.kind c.number) cs ≡ true
      → list_all (λ t. q (constant_valued d t)) ts ≡ true
  constants_pass [] cs each range = refl
  constants_pass (t ∷ ts) [] each range = absurd each
  constants_pass (t ∷ ts) (c ∷ cs) each range =
      let parts = and_parts (is_in_range c.kind c.number) (list_all (λ (e : uno.Constant). is_in_range e.kind e.number) cs) range in
      and_from (q (constant_valued d t)) (list_all (λ (u : tree.Constant). q (constant_valued d u)) ts)
      (passes (constant_valued d t) c.number (ap expression each.0.value) (ranged_is_wide c.kind c.number parts.0)) (constants_pass ts cs each.1 parts.1)

  valued_pass : (decl : Declaration) (body : Body) → WritesBody decl body → items_are_long body ≡ true → body_is_in_range body ≡ true
      → list_all q (valued_in d decl) ≡ true
  unfolding WritesBody
  valued_pass tree.forward body writes long range = absurd writes
  valued_pass (tree.enum ts) body (items, same, writes) long range = items_pass first_item ts items writes (subst (λ b. items_are_long b ≡ true) same long)
  valued_pass (tree.constants ts) body (cs, same, writes) long range =
      list_all-map q (constant_valued d) ts ∙ constants_pass ts cs writes (subst (λ b. body_is_in_range b ≡ true) same range)
  valued_pass _ body writes long range = refl

  items_in_pass : (decl : Declaration) (body : Body) → WritesBody decl body → items_are_long body ≡ true → list_all q (items_in d decl) ≡ true
  unfolding WritesBody
  items_in_pass tree.forward body writes long = absurd writes
  items_in_pass (tree.enum ts) body (items, same, writes) long = items_pass first_item ts items writes (subst (λ b. items_are_long b ≡ true) same long)
  items_in_pass _ body writes long = refl

  constants_in_pass : (decl : Declaration) (body : Body) → WritesBody decl body → body_is_in_range body ≡ true
      → list_all (λ c. q (constant_valued d c)) (constants_in decl) ≡ true
  unfolding WritesBody
  constants_in_pass tree.forward body writes range = absurd writes
  constants_in_pass (tree.constants ts) body (cs, same, writes) range = constants_pass ts cs writes (subst (λ b. body_is_in_range b ≡ true) same range)
  constants_in_pass _ body writes range = refl

never_comes_back : (vs : List Valued) → PassesNumbers (λ v. not (value_comes_back vs v))
never_comes_back vs v n literal wide = ap not (never_back vs v n literal)

has_value : (vs : List Valued) → PassesNumbers (λ v. is_some (value_meant vs v))
has_value vs v n literal wide = ap is_some (value_is vs v n literal wide)

-- ---- the rest of parameters

module _ (ds : List Declared) (reg : List Entity) (has : HasBuiltIn reg) (all : Each WritesDeclared ds (written reg)) (modules : List (List ℕ)) where
  given_before : (p : tree.ConstructorParameter) (ps : List tree.ConstructorParameter) → p.rest ≡ false → rest_is_last ds modules ps ≡ true
      → rest_is_last ds modules (p ∷ ps) ≡ true
  unfolding rest_is_last
  given_before p [] is rest = rw is refl
  given_before p (q ∷ ps) is rest = rw is rest

  rest_at_end : (behind : List tree.ConstructorParameter) (rest : Option (List ℕ)) → Each WritesRest behind (at_most_one rest)
      → rest_is_last ds modules behind ≡ true
  unfolding rest_is_last
  rest_at_end [] rest each = refl
  rest_at_end (r ∷ rs) None each = absurd each
  rest_at_end (r ∷ []) (Some name) each = rw (type_is ds reg has all modules r.type kd.any each.0.type refl) (or_true (not r.rest))
  rest_at_end (r ∷ (s ∷ rs)) (Some name) each = absurd each.1

  rest_last : (front behind : List tree.ConstructorParameter) (fs : List uno.Field) (rest : Option (List ℕ)) → Each WritesGiven front fs
      → Each WritesRest behind (at_most_one rest)
      → rest_is_last ds modules (front ++ behind) ≡ true
  rest_last [] behind fs rest given last = rest_at_end behind rest last
  rest_last (p ∷ ps) behind [] rest given last = absurd given
  rest_last (p ∷ ps) behind (f ∷ fs) rest given last = given_before p (ps ++ behind) given.0.rest (rest_last ps behind fs rest given.1 last)

  rests_last : (decl : Declaration) (body : Body) → WritesBody decl body → rests_are_last ds modules decl ≡ true
  unfolding WritesBody
  rests_last tree.forward body writes = absurd writes
  rests_last (tree.new_service path ts) body (base, cs, same, from, writes) =
      each_passes WritesConstructor (λ (c : tree.Constructor). rest_is_last ds modules c.parameters) ts (constructors_written cs)
      (λ t c in' w. ap (rest_is_last ds modules) w.split ∙ rest_last w.front w.behind c.params c.rest w.given w.rest) writes
  rests_last _ body writes = refl

-- ---- what entities do not show

module _ (ds : List Declared) (reg : List Entity) (has : HasBuiltIn reg) (all : Each WritesDeclared ds (written reg)) where
  pub unshown_kept : (r : Rule) (d : Declared) (e : Entity) → WritesDeclared d e → items_are_long e.body ≡ true → body_is_in_range e.body ≡ true
      → keeps_unshown r ds d ≡ true
  unshown_kept rule.bases d e writes long range = one_way d.body e.body writes.body
  unshown_kept rule.circles d e writes long range =
      valued_pass d (λ v. not (value_comes_back (all_valued ds) v)) (never_comes_back (all_valued ds)) d.body e.body writes.body long range
  unshown_kept rule.names d e writes long range = refl
  unshown_kept rule.one_way d e writes long range = refl
  unshown_kept rule.raised d e writes long range = refl
  unshown_kept rule.values d e writes long range =
      items_in_pass d (λ v. is_some (value_meant (all_valued ds) v)) (has_value (all_valued ds)) d.body e.body writes.body long
  unshown_kept rule.constant_values d e writes long range =
      constants_in_pass d (λ v. is_some (value_meant (all_valued ds) v)) (has_value (all_valued ds)) d.body e.body writes.body range
  unshown_kept rule.services d e writes long range = refl
  unshown_kept rule.singletons d e writes long range = refl
  unshown_kept rule.types d e writes long range = rests_last ds reg has all d.modules d.body e.body writes.body
  unshown_kept rule.whole d e writes long range = refl
