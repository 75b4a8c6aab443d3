-- How often a place occurs among those of the names and types of declarations: no more often than tokens stand at it.
use Rattle.std.proofs.Common.{◌≡◌, ℕ, ◌+◌, ◌≤◌, Bool, true, false, List, [], ◌∷◌, ◌++◌, map, Option, None, Some, codes, refl, sym, ap, ◌∙◌, arith, if◌then◌else◌}
use Rattle.std.specs.List.{flat_map}
use Rattle.std.specs.Option.{option_to_list}
use Rattle.grammar_model.specs.Relations.{One, Many, ◌&>◌}
use Rattle.idl_text_model.specs.Tokens.{Word}
use Rattle.idl_text_model.specs.Tokens as token
use Rattle.idl_model.specs.Grammar.{Mark, place_of_terminal, identifier_of, id_at, IsId, path_of, IsName, placed_simple, simple_words, of_table, simple_at, unsigned_at, IsSimple}
use Rattle.idl_model.specs.Places.{Place, is_at}
use Rattle.idl_model.specs.PlacedTokens.{PlacedToken, is_terminal}
use Rattle.idl_model.specs.Trees.{Id, Path, Simple, WrittenType, simple, named, sequence_of, Arguments, no_arguments, argument}
use Rattle.idl_model.specs.Trees.{Expr, number, truth, constant, parentheses, signed, chain, Operands, no_operands, operand}
use Rattle.idl_model.specs.Trees.{Fields, Item, Constant, Parameter, InterfaceMember, base_member, attribute, method, ConstructorParameter, Constructor}
use Rattle.idl_model.specs.Trees.{ServiceMember, face, subservice, property, Declaration, forward, interface, struct, exception, enum, constants, typedef, new_service, old_service}
use Rattle.idl_model.specs.Trees.{new_singleton, old_singleton, Def, in_module, declared, Defs, no_defs, def, Tree}
use Rattle.idl_meaning_model.specs.Declarations.{Declared, scope_of, declared_in, all_declared_in, declarations, Origin, first_item, item_before, Valued, items_valued, constant_valued, valued_in, all_valued}
use Rattle.idl_meaning_model.specs.FromFiles.{simple_places, argument_places, leaf_places}
use Rattle.idl_meaning_model.specs.Uses.{Used, an_entity, a_value, type_paths, argument_paths, expr_paths, operand_paths, accessor_raises, member_paths, constructor_paths, service_paths}
use Rattle.idl_meaning_model.specs.Uses.{entity_paths, value_paths, used_in, Use, uses_of, uses, member_types, service_types, types_in}
use Rattle.idl_meaning_model.specs.Uses as used
use Rattle.uno_model.proofs.Options.{same_some}
use Rattle.idl_compiled_model.proofs.Leaves.{Weights, AreWeights, type_weight, arguments_weight, expr_weight, operands_weight, names_weight, fields_weight, item_weight, constant_weight, parameter_weight, member_weight}
use Rattle.idl_compiled_model.proofs.Leaves.{given_weight, constructor_weight, service_weight, body_weight, def_weight, defs_weight}
use Rattle.idl_compiled_model.proofs.Weighing.{total, one_if, total_append, total_least, total_both, total_same, total_map, total_flat, Weighs, nothing, of_option, weighs_nothing, weighs_one, weighs_either}
use Rattle.idl_compiled_model.proofs.Weighing.{weighs_optional, weighs_less, weighs_image, weighs_seq}

-- ---- declarations of a tree

-- what declarations weigh no more than their names and bodies weigh no more than their trees
module _ (w : Weights) (f : Declared → ℕ) (each : (d : Declared) → f d ≤ w.id d.name + body_weight w d.body) where
  mutual
    unfolding declared_in def_weight total

    declared_less : (modules : List (List ℕ)) (d : Def) → total f (declared_in modules d) ≤ def_weight w d
    declared_less modules (in_module name ds) = let rest = all_declared_less (modules ++ name.name ∷ []) ds in omega (arith, rest)
    declared_less modules (declared published d) =
        let here = each (record { modules = modules; published = published; name = d.name; body = d.body }) in omega (arith, here)

    all_declared_less : (modules : List (List ℕ)) (ds : Defs) → total f (all_declared_in modules ds) ≤ defs_weight w ds
    all_declared_less modules no_defs = omega arith
    all_declared_less modules (def d ds) =
        let parts = total_append f (declared_in modules d) (all_declared_in modules ds) in
        let first = declared_less modules d in
        let rest = all_declared_less modules ds in
        omega (arith, parts, first, rest)

  tree_less : (tree : Tree) → total f (flat_map (declared_in []) tree) ≤ total (def_weight w) tree
  tree_less tree =
      let same = total_flat f (declared_in []) tree in
      let less = total_least (λ d. total f (declared_in [] d)) (def_weight w) tree (declared_less []) in
      omega (arith, same, less)

  pub declarations_less : (trees : List Tree) → total f (declarations trees) ≤ total (λ tree. total (def_weight w) tree) trees
  unfolding declarations
  declarations_less trees =
      let same = total_flat f (λ tree. flat_map (declared_in []) tree) trees in
      let less = total_least (λ tree. total f (flat_map (declared_in []) tree)) (λ tree. total (def_weight w) tree) trees tree_less in
      omega (arith, same, less)

-- ---- weights by a place

abbrev pub at_place : Place → Place → ℕ
at_place p q = one_if (is_at p q)

abbrev pub place_weights : Place → Weights
place_weights p =
    record {
      token = λ t. at_place p t.place;
      id = λ i. at_place p i.place;
      path = λ q. at_place p q.place;
      simple = λ q. at_place p q;
      number = λ n. 0;
    }

id_place : (place : Place) (x : Word) (i : Id) → identifier_of place x ≡ Some i → i.place ≡ place
id_place place (token.identifier name) i is = ap (λ (j : Id). j.place) (sym (same_some is))
id_place place (token.number n) i is = let bad : ⊥ = cc in absurd bad
id_place place (token.quoted x) i is = let bad : ⊥ = cc in absurd bad
id_place place (token.mark x) i is = let bad : ⊥ = cc in absurd bad

terminal_place : (place : Place) (b : Bool) (q : Place) → (if b then Some place else None) ≡ Some q → q ≡ place
terminal_place place true q is = sym (same_some is)
terminal_place place false q is = let bad : ⊥ = cc in absurd bad

simple_place : (place : Place) (o : Option Simple) (z : Place × Simple) → placed_simple place o ≡ Some z → z.0 ≡ place
simple_place place None z is = let bad : ⊥ = cc in absurd bad
simple_place place (Some s) z is = ap (λ (y : Place × Simple). y.0) (sym (same_some is))

no_more : {X : Type 0} (f : X → ℕ) (x y : X) → x ≡ y → f x ≤ f y
no_more f x y is = let same : f x ≡ f y = ap f is in omega (arith, same)

module _ (p : Place) where
  abbrev w : Weights
  w = place_weights p

  terminals_weigh : (x : Word) → Weighs w.token (at_place p) (One (place_of_terminal x))
  terminals_weigh x = weighs_one (at_place p) (place_of_terminal x) (λ t q is. no_more (at_place p) q t.place (terminal_place t.place (is_terminal x t.word) q is))

  ids_right : (t : PlacedToken) (i : Id) → id_at t ≡ Some i → at_place p i.place ≤ at_place p t.place
  ids_right t i is = no_more (at_place p) i.place t.place (id_place t.place t.word i is)

  abbrev path_parts : Option Place × (Id × List Id) → ℕ
  path_parts z = of_option (at_place p) z.0 + (at_place p (z.1).0.place + nothing (z.1).1)

  path_less : (z : Option Place × (Id × List Id)) → at_place p (path_of z).place ≤ path_parts z
  path_less (None, z) = omega arith
  path_less (Some q, z) = omega arith

  paths_weigh : Weighs w.token w.path IsName
  paths_weigh =
      weighs_image path_of path_parts w.path path_less
      (weighs_seq (weighs_optional (terminals_weigh (token.mark (codes "::")))) (weighs_seq (weighs_one w.id id_at ids_right) (weighs_nothing (Many (Mark (codes "::") &> IsId)))))

  simples_weigh : Weighs w.token (λ (z : Place × Simple). at_place p z.0) IsSimple
  simples_weigh =
      weighs_either
      (weighs_less (λ (z : Place × Simple). at_place p z.0) (weighs_seq (terminals_weigh (token.quoted (codes "unsigned"))) (weighs_nothing (One unsigned_at))) (λ z. omega arith))
      (weighs_one (λ (z : Place × Simple). at_place p z.0) simple_at (λ t z is. no_more (at_place p) z.0 t.place (simple_place t.place (of_table simple_words t.word) z is)))

  pub place_weighs : AreWeights w
  place_weighs = record { ids = ids_right; paths = paths_weigh; simples = simples_weigh; numbers = λ t n is. omega arith }

  -- ---- the places of a declaration

  abbrev at_path : Path → ℕ
  at_path q = at_place p q.place

  abbrev at_used : Used → ℕ
  at_used u = at_place p (used.path_of u).place

  abbrev in_type : WrittenType → ℕ
  in_type t = total (at_place p) (simple_places t)

mutual
  unfolding type_paths argument_paths simple_places argument_places type_weight arguments_weight total

  type_counts : (p : Place) (t : WrittenType) → total (at_path p) (type_paths t) + in_type p t ≡ type_weight (place_weights p) t
  type_counts p (simple q s) = omega arith
  type_counts p (named path ts) = let rest = arguments_count p ts in omega (arith, rest)
  type_counts p (sequence_of q t) = type_counts p t

  arguments_count : (p : Place) (ts : Arguments) → total (at_path p) (argument_paths ts) + total (at_place p) (argument_places ts) ≡ arguments_weight (place_weights p) ts
  arguments_count p no_arguments = omega arith
  arguments_count p (argument t ts) =
      let here = type_counts p t in
      let rest = arguments_count p ts in
      let paths = total_append (at_path p) (type_paths t) (argument_paths ts) in
      let places = total_append (at_place p) (simple_places t) (argument_places ts) in
      omega (arith, here, rest, paths, places)

mutual
  unfolding expr_paths operand_paths expr_weight operands_weight total

  expr_counts : (p : Place) (e : Expr) → total (at_path p) (expr_paths e) ≡ expr_weight (place_weights p) e
  expr_counts p (number n) = refl
  expr_counts p (truth b) = refl
  expr_counts p (constant path) = omega arith
  expr_counts p (parentheses e) = expr_counts p e
  expr_counts p (signed signs e) = expr_counts p e
  expr_counts p (chain e es) =
      let here = expr_counts p e in
      let rest = operands_count p es in
      let parts = total_append (at_path p) (expr_paths e) (operand_paths es) in
      omega (arith, here, rest, parts)

  operands_count : (p : Place) (es : Operands) → total (at_path p) (operand_paths es) ≡ operands_weight (place_weights p) es
  operands_count p no_operands = refl
  operands_count p (operand op e es) =
      let here = expr_counts p e in
      let rest = operands_count p es in
      let parts = total_append (at_path p) (expr_paths e) (operand_paths es) in
      omega (arith, here, rest, parts)

module _ (p : Place) where
  -- of parts that each have paths and types
  paths_and_types : {X : Type 0} (paths : X → List Path) (types : X → List WrittenType) (m : X → ℕ) → ((x : X) → total (at_path p) (paths x) + total (in_type p) (types x) ≤ m x) → (xs : List X)
      → total (at_path p) (flat_map paths xs) + total (in_type p) (flat_map types xs) ≤ total m xs
  unfolding total
  paths_and_types paths types m each [] = omega arith
  paths_and_types paths types m each (x ∷ xs) =
      let here = each x in
      let rest = paths_and_types paths types m each xs in
      let first = total_append (at_path p) (paths x) (flat_map paths xs) in
      let second = total_append (in_type p) (types x) (flat_map types xs) in
      omega (arith, here, rest, first, second)

  -- of parts that each have one type
  paths_and_type : {X : Type 0} (paths : X → List Path) (type : X → WrittenType) (m : X → ℕ) → ((x : X) → total (at_path p) (paths x) + in_type p (type x) ≤ m x) → (xs : List X)
      → total (at_path p) (flat_map paths xs) + total (in_type p) (map type xs) ≤ total m xs
  unfolding total
  paths_and_type paths type m each [] = omega arith
  paths_and_type paths type m each (x ∷ xs) =
      let here = each x in
      let rest = paths_and_type paths type m each xs in
      let first = total_append (at_path p) (paths x) (flat_map paths xs) in
      omega (arith, here, rest, first)

  raises_count : (o : Option (List Path)) → total (at_path p) (accessor_raises o) ≡ of_option (names_weight (place_weights p)) o
  unfolding total
  raises_count None = refl
  raises_count (Some paths) = refl

  parameters_count : (ps : List Parameter) → total (at_path p) (flat_map (λ (q : Parameter). type_paths q.type) ps) + total (in_type p) (map (λ (q : Parameter). q.type) ps) ≤ total (parameter_weight (place_weights p)) ps
  parameters_count ps =
      paths_and_type (λ (q : Parameter). type_paths q.type) (λ (q : Parameter). q.type) (parameter_weight (place_weights p)) (λ q. let here = type_counts p q.type in omega (arith, here)) ps

  given_count : (ps : List ConstructorParameter)
      → total (at_path p) (flat_map (λ (q : ConstructorParameter). type_paths q.type) ps) + total (in_type p) (map (λ (q : ConstructorParameter). q.type) ps) ≤ total (given_weight (place_weights p)) ps
  given_count ps =
      paths_and_type (λ (q : ConstructorParameter). type_paths q.type) (λ (q : ConstructorParameter). q.type) (given_weight (place_weights p)) (λ q. let here = type_counts p q.type in omega (arith, here)) ps

  member_counts : (m : InterfaceMember) → total (at_path p) (member_paths m) + total (in_type p) (member_types m) ≤ member_weight (place_weights p) m
  unfolding total
  member_counts (base_member optional path) = omega arith
  member_counts (attribute a) =
      let here = type_counts p a.type in
      let get = raises_count a.get in
      let set = raises_count a.set in
      let first = total_append (at_path p) (type_paths a.type) (accessor_raises a.get ++ accessor_raises a.set) in
      let second = total_append (at_path p) (accessor_raises a.get) (accessor_raises a.set) in
      omega (arith, here, get, set, first, second)
  member_counts (method m) =
      let here = type_counts p m.result_type in
      let given = parameters_count m.parameters in
      let first = total_append (at_path p) (type_paths m.result_type) (flat_map (λ (q : Parameter). type_paths q.type) m.parameters ++ m.raises) in
      let second = total_append (at_path p) (flat_map (λ (q : Parameter). type_paths q.type) m.parameters) m.raises in
      omega (arith, here, given, first, second)

  constructor_counts : (c : Constructor) → total (at_path p) (constructor_paths c) + total (in_type p) (map (λ (q : ConstructorParameter). q.type) c.parameters) ≤ constructor_weight (place_weights p) c
  constructor_counts c =
      let given = given_count c.parameters in
      let first = total_append (at_path p) (flat_map (λ (q : ConstructorParameter). type_paths q.type) c.parameters) c.raises in
      omega (arith, given, first)

  service_counts : (m : ServiceMember) → total (at_path p) (service_paths m) + total (in_type p) (service_types m) ≤ service_weight (place_weights p) m
  unfolding total
  service_counts (face optional path) = omega arith
  service_counts (subservice optional path) = omega arith
  service_counts (property q) = let here = type_counts p q.type in omega (arith, here)

  entities_count : (paths : List Path) → total (at_used p) (entity_paths paths) ≡ total (at_path p) paths
  entities_count paths = total_map (at_used p) an_entity paths

  values_count : (e : Expr) → total (at_used p) (value_paths e) ≡ expr_weight (place_weights p) e
  values_count e = total_map (at_used p) a_value (expr_paths e) ∙ expr_counts p e

  -- a name behind `:`, and what follows it
  base_and : (base : Option Path) (paths : List Path) → total (at_used p) (entity_paths (option_to_list base ++ paths)) ≡ of_option (at_path p) base + total (at_path p) paths
  unfolding total
  base_and None paths = let rest = entities_count paths in omega (arith, rest)
  base_and (Some path) paths = let rest = entities_count paths in omega (arith, rest)

  items_count : (items : List Item) → total (at_used p) (flat_map (λ (i : Item). flat_map value_paths (option_to_list i.value)) items) ≤ total (item_weight (place_weights p)) items
  unfolding total
  items_count [] = omega arith
  items_count (i ∷ is) =
      let rest = items_count is in
      let parts = total_append (at_used p) (flat_map value_paths (option_to_list i.value)) (flat_map (λ (j : Item). flat_map value_paths (option_to_list j.value)) is) in
      let here = one_value i.value in
      omega (arith, rest, parts, here)
    where
      one_value : (o : Option Expr) → total (at_used p) (flat_map value_paths (option_to_list o)) ≡ of_option (expr_weight (place_weights p)) o
      one_value None = refl
      one_value (Some e) =
          let none = total_append (at_used p) (value_paths e) [] in
          let here = values_count e in
          omega (arith, none, here)

  constants_count : (cs : List Constant)
      → total (at_used p) (flat_map (λ (c : Constant). entity_paths (type_paths c.type) ++ value_paths c.value) cs) + total (in_type p) (map (λ (c : Constant). c.type) cs) ≤ total (constant_weight (place_weights p)) cs
  unfolding total
  constants_count [] = omega arith
  constants_count (c ∷ cs) =
      let rest = constants_count cs in
      let parts = total_append (at_used p) (entity_paths (type_paths c.type) ++ value_paths c.value) (flat_map (λ (k : Constant). entity_paths (type_paths k.type) ++ value_paths k.value) cs) in
      let here = total_append (at_used p) (entity_paths (type_paths c.type)) (value_paths c.value) in
      let paths = entities_count (type_paths c.type) in
      let type = type_counts p c.type in
      let value = values_count c.value in
      omega (arith, rest, parts, here, paths, type, value)

  body_counts : (body : Declaration) → total (at_used p) (used_in body) + total (in_type p) (types_in body) ≤ body_weight (place_weights p) body
  unfolding used_in types_in total
  body_counts forward = omega arith
  body_counts (interface base members) =
      let paths = base_and base (flat_map member_paths members) in
      let all = paths_and_types member_paths member_types (member_weight (place_weights p)) member_counts members in
      omega (arith, paths, all)
  body_counts (struct base members) =
      let paths = base_and base (flat_map (λ (m : Fields). type_paths m.type) members) in
      let all = paths_and_type (λ (m : Fields). type_paths m.type) (λ (m : Fields). m.type) (fields_weight (place_weights p)) (λ m. let here = type_counts p m.type in omega (arith, here)) members in
      omega (arith, paths, all)
  body_counts (exception base members) =
      let paths = base_and base (flat_map (λ (m : Fields). type_paths m.type) members) in
      let all = paths_and_type (λ (m : Fields). type_paths m.type) (λ (m : Fields). m.type) (fields_weight (place_weights p)) (λ m. let here = type_counts p m.type in omega (arith, here)) members in
      omega (arith, paths, all)
  body_counts (enum items) = let all = items_count items in omega (arith, all)
  body_counts (constants cs) = constants_count cs
  body_counts (typedef t) = let paths = entities_count (type_paths t) in let here = type_counts p t in omega (arith, paths, here)
  body_counts (new_service base constructors) =
      let paths = entities_count (flat_map constructor_paths constructors) in
      let all =
      paths_and_types constructor_paths (λ (c : Constructor). map (λ (q : ConstructorParameter). q.type) c.parameters) (constructor_weight (place_weights p)) constructor_counts constructors in
      omega (arith, paths, all)
  body_counts (old_service members) =
      let paths = entities_count (flat_map service_paths members) in
      let all = paths_and_types service_paths service_types (service_weight (place_weights p)) service_counts members in
      omega (arith, paths, all)
  body_counts (new_singleton base) = omega arith
  body_counts (old_singleton service) = omega arith

  -- ---- the places of all declarations

  abbrev at_declared : Declared → ℕ
  at_declared d = at_place p d.name.place + (total (at_used p) (used_in d.body) + total (in_type p) (types_in d.body))

  abbrev at_use : Use → ℕ
  at_use u = at_used p u.used

  abbrev use_of : Declared → Used → Use
  use_of d u = record { scope = scope_of d; used = u }

  uses_count : (ds : List Declared) → total (at_place p) (map (λ (u : Use). (used.path_of u.used).place) (uses ds)) ≡ total (λ (d : Declared). total (at_used p) (used_in d.body)) ds
  unfolding uses uses_of
  uses_count ds =
      total_map (at_place p) (λ (u : Use). (used.path_of u.used).place) (uses ds) ∙ total_flat at_use uses_of ds
      ∙ total_same (λ d. total at_use (uses_of d)) (λ (d : Declared). total (at_used p) (used_in d.body)) ds (λ d. total_map at_use (use_of d) (used_in d.body))

  types_count : (ds : List Declared) → total (at_place p) (flat_map (λ (d : Declared). flat_map simple_places (types_in d.body)) ds) ≡ total (λ (d : Declared). total (in_type p) (types_in d.body)) ds
  types_count ds =
      total_flat (at_place p) (λ (d : Declared). flat_map simple_places (types_in d.body)) ds
      ∙ total_same (λ (d : Declared). total (at_place p) (flat_map simple_places (types_in d.body))) (λ (d : Declared). total (in_type p) (types_in d.body)) ds
      (λ d. total_flat (at_place p) simple_places (types_in d.body))

  leaves_count : (ds : List Declared) → total (at_place p) (leaf_places ds) ≡ total at_declared ds
  unfolding leaf_places
  leaves_count ds =
      let names = total_map (at_place p) (λ (d : Declared). d.name.place) ds in
      let names_used = uses_count ds in
      let types = types_count ds in
      let first = total_append (at_place p) (map (λ (d : Declared). d.name.place) ds)
      (map (λ (u : Use). (used.path_of u.used).place) (uses ds) ++ flat_map (λ (d : Declared). flat_map simple_places (types_in d.body)) ds) in
      let second = total_append (at_place p) (map (λ (u : Use). (used.path_of u.used).place) (uses ds)) (flat_map (λ (d : Declared). flat_map simple_places (types_in d.body)) ds) in
      let both = total_both (λ (d : Declared). at_place p d.name.place) (λ (d : Declared). total (at_used p) (used_in d.body) + total (in_type p) (types_in d.body)) ds in
      let others = total_both (λ (d : Declared). total (at_used p) (used_in d.body)) (λ (d : Declared). total (in_type p) (types_in d.body)) ds in
      omega (arith, names, names_used, types, first, second, both, others)

  pub leaves_less : (trees : List Tree) → total (at_place p) (leaf_places (declarations trees)) ≤ total (λ tree. total (def_weight (place_weights p)) tree) trees
  leaves_less trees =
      let same = leaves_count (declarations trees) in
      let less = declarations_less (place_weights p) at_declared (λ d. let here = body_counts d.body in omega (arith, here)) trees in
      omega (arith, same, less)

  -- ---- the names of constants and items

  abbrev at_valued : Valued → ℕ
  at_valued v = at_place p v.name.place

  items_valued_count : (d : Declared) (without : Origin) (items : List Item) → total at_valued (items_valued d without items) ≤ total (item_weight (place_weights p)) items
  unfolding items_valued total
  items_valued_count d without [] = omega arith
  items_valued_count d without (i ∷ is) = let rest = items_valued_count d (item_before i.name.place) is in omega (arith, rest)

  constants_valued_count : (d : Declared) (cs : List Constant) → total at_valued (map (constant_valued d) cs) ≤ total (constant_weight (place_weights p)) cs
  unfolding total
  constants_valued_count d [] = omega arith
  constants_valued_count d (c ∷ cs) = let rest = constants_valued_count d cs in omega (arith, rest)

  valued_count : (d : Declared) (body : Declaration) → total at_valued (valued_in d body) ≤ body_weight (place_weights p) body
  unfolding total
  valued_count d forward = omega arith
  valued_count d (interface base members) = omega arith
  valued_count d (struct base members) = omega arith
  valued_count d (exception base members) = omega arith
  valued_count d (enum items) = items_valued_count d first_item items
  valued_count d (constants cs) = constants_valued_count d cs
  valued_count d (typedef t) = omega arith
  valued_count d (new_service base constructors) = omega arith
  valued_count d (old_service members) = omega arith
  valued_count d (new_singleton base) = omega arith
  valued_count d (old_singleton service) = omega arith

  pub valued_less : (trees : List Tree) → total (at_place p) (map (λ (v : Valued). v.name.place) (all_valued (declarations trees))) ≤ total (λ tree. total (def_weight (place_weights p)) tree) trees
  unfolding all_valued
  valued_less trees =
      let ds = declarations trees in
      let same = total_map (at_place p) (λ (v : Valued). v.name.place) (all_valued ds) in
      let flat = total_flat at_valued (λ (d : Declared). valued_in d d.body) ds in
      let less = declarations_less (place_weights p) (λ (d : Declared). total at_valued (valued_in d d.body)) (λ d. let here = valued_count d d.body in omega (arith, here)) trees in
      omega (arith, same, flat, less)
