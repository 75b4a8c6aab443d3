-- Words that no file has: identifiers that are none, and numbers that are too great. Trees without them have identifiers as names, numbers that fit, and a name
-- for each type of members.
use Rattle.std.proofs.Common.{◌≡◌, ℕ, ◌+◌, ◌≤◌, ◌^◌, Bool, true, false, not, ◌&&◌, nat_lt, List, [], ◌∷◌, ◌++◌, map, Option, None, Some, codes, refl, sym, ap, ◌∙◌, arith}
use Rattle.std.proofs.lemmas.Bool.{and_parts, and_from}
use Rattle.std.proofs.lemmas.List.Folds.{list_all-append}
use Rattle.std.specs.List.{list_all, flat_map}
use Rattle.std.specs.Option.{option_to_list}
use Rattle.idl_text_model.specs.Tokens.{Word}
use Rattle.idl_text_model.specs.Tokens as token
use Rattle.grammar_model.specs.Relations.{Optional, Many}
use Rattle.idl_model.specs.Grammar.{identifier_of, id_at, IsId, path_of, Mark, MarkPlace, IsName, number_of, IsSimple}
use Rattle.idl_model.specs.Places.{Place}
use Rattle.idl_model.specs.Trees.{Id, Path, WrittenType, simple, named, sequence_of, Arguments, no_arguments, argument, Expr, number, truth, constant, parentheses, signed, chain, Operands, no_operands, operand}
use Rattle.idl_model.specs.Trees.{Fields, Item, Constant, Parameter, InterfaceMember, base_member, attribute, method, ConstructorParameter, Constructor}
use Rattle.idl_model.specs.Trees.{ServiceMember, face, subservice, property, Declaration, forward, interface, struct, exception, enum, constants, typedef, new_service, old_service}
use Rattle.idl_model.specs.Trees.{new_singleton, old_singleton, Def, in_module, declared, Defs, no_defs, def, Tree}
use Rattle.idl_model.specs.Values.{numbers_fit, operands_fit_numbers}
use Rattle.idl_meaning_model.specs.Declarations.{Declared, scope_of, declared_in, all_declared_in, declarations, Origin, first_item, item_before, item_origin, Valued, items_valued, constant_valued, valued_in, all_valued}
use Rattle.idl_meaning_model.specs.FromFiles.{member_ids, constructor_ids, service_ids, inner_ids, is_spelled, has_identifiers, are_identifiers, is_spelled_use}
use Rattle.idl_meaning_model.specs.Uses.{Used, a_value, type_paths, argument_paths, expr_paths, operand_paths, accessor_raises, member_paths, constructor_paths, service_paths}
use Rattle.idl_meaning_model.specs.Uses.{entity_paths, value_paths, used_in, uses_of, uses}
use Rattle.idl_meaning_model.specs.Uses as used
use Rattle.idl_rules_model.specs.Unshown.{members_have_names}
use Rattle.uno_model.proofs.Options.{same_some}
use Rattle.uno_model.specs.Names.{is_identifier}
use Rattle.uno_model.specs.Sound.{is_some_list}
use Rattle.idl_compiled_model.specs.Compiling.{origin_fits}
use Rattle.idl_compiled_model.proofs.Leaves.{Weights, AreWeights, type_weight, arguments_weight, expr_weight, operands_weight, names_weight, nameless, fields_weight, item_weight, constant_weight, parameter_weight, member_weight}
use Rattle.idl_compiled_model.proofs.Leaves.{given_weight, constructor_weight, service_weight, body_weight, def_weight, defs_weight}
use Rattle.idl_compiled_model.proofs.Weighing.{total, one_if, of_option, Weighs, nothing, weighs_nothing, weighs_one, weighs_many, weighs_image, weighs_seq, weighs_behind}

-- ---- weights

abbrev pub is_wrong : Word → Bool
is_wrong (token.identifier name) = not (is_identifier name)
is_wrong (token.number n) = not (nat_lt n (2 ^ 64))
is_wrong (token.quoted x) = false
is_wrong (token.mark x) = false

-- whether a name that is used has one identifier at least
abbrev pub is_spelled_path : Path → Bool
is_spelled_path q = are_identifiers q.parts

abbrev pub wrong_weights : Weights
wrong_weights =
    record {
      token = λ t. one_if (is_wrong t.word);
      id = λ i. one_if (not (is_spelled i));
      path = λ q. one_if (not (is_spelled_path q));
      simple = λ q. 0;
      number = λ n. one_if (not (nat_lt n (2 ^ 64)));
    }

abbrev wrong_name : List ℕ → ℕ
wrong_name name = one_if (not (is_identifier name))

abbrev wrong_number : ℕ → ℕ
wrong_number n = one_if (not (nat_lt n (2 ^ 64)))

same_weight : {X : Type 0} (f : X → ℕ) (x y : X) → x ≡ y → f x ≤ f y
same_weight f x y is = let same : f x ≡ f y = ap f is in omega (arith, same)

id_wrong : (place : Place) (x : Word) (i : Id) → identifier_of place x ≡ Some i → wrong_name i.name ≤ one_if (is_wrong x)
id_wrong place (token.identifier name) i is = same_weight wrong_name i.name name (ap (λ (j : Id). j.name) (sym (same_some is)))
id_wrong place (token.number n) i is = let bad : ⊥ = cc in absurd bad
id_wrong place (token.quoted x) i is = let bad : ⊥ = cc in absurd bad
id_wrong place (token.mark x) i is = let bad : ⊥ = cc in absurd bad

number_wrong : (x : Word) (n : ℕ) → number_of x ≡ Some n → wrong_number n ≤ one_if (is_wrong x)
number_wrong (token.identifier name) n is = let bad : ⊥ = cc in absurd bad
number_wrong (token.number m) n is = same_weight wrong_number n m (sym (same_some is))
number_wrong (token.quoted x) n is = let bad : ⊥ = cc in absurd bad
number_wrong (token.mark x) n is = let bad : ⊥ = cc in absurd bad

-- a name that is used is no worse than the identifiers in it
or_wrong : (b c : Bool) (n : ℕ) → one_if (not c) ≤ n → one_if (not (b && c)) ≤ one_if (not b) + n
or_wrong true c n low = omega (arith, low)
or_wrong false c n low = omega arith

names_wrong : (ids : List Id) → one_if (not (list_all is_identifier (map (λ (i : Id). i.name) ids))) ≤ total wrong_weights.id ids
unfolding total
names_wrong [] = omega arith
names_wrong (i ∷ is) = or_wrong (is_identifier i.name) (list_all is_identifier (map (λ (j : Id). j.name) is)) (total wrong_weights.id is) (names_wrong is)

abbrev path_wrong : Option Place × (Id × List Id) → ℕ
path_wrong z = nothing z.0 + (wrong_weights.id (z.1).0 + total wrong_weights.id (z.1).1)

path_less : (z : Option Place × (Id × List Id)) → wrong_weights.path (path_of z) ≤ path_wrong z
path_less z =
    let all = or_wrong (is_identifier (z.1).0.name) (list_all is_identifier (map (λ (j : Id). j.name) (z.1).1)) (total wrong_weights.id (z.1).1) (names_wrong (z.1).1) in
    omega (arith, all)

ids_weigh : Weighs wrong_weights.token wrong_weights.id IsId
ids_weigh = weighs_one wrong_weights.id id_at (λ t i is. id_wrong t.place t.word i is)

paths_weigh : Weighs wrong_weights.token wrong_weights.path IsName
paths_weigh =
    weighs_image path_of path_wrong wrong_weights.path path_less
    (weighs_seq (weighs_nothing (Optional (MarkPlace (codes "::")))) (weighs_seq ids_weigh (weighs_many (weighs_behind (Mark (codes "::")) ids_weigh))))

pub wrong_weigh : AreWeights wrong_weights
wrong_weigh = record {
  ids = λ t i is. id_wrong t.place t.word i is;
  paths = paths_weigh;
  simples = weighs_nothing IsSimple;
  numbers = λ t n is. number_wrong t.word n is;
}

-- ---- what weighs nothing is right

right_if : (b : Bool) → one_if (not b) ≤ 0 → b ≡ true
right_if true low = refl
right_if false low = let bad : ⊥ = omega (arith, low) in absurd bad

module _ {X : Type 0} (test : X → Bool) where
  all_right : (xs : List X) → total (λ x. one_if (not (test x))) xs ≤ 0 → list_all test xs ≡ true
  unfolding total
  all_right [] low = refl
  all_right (x ∷ xs) low = and_from (test x) (list_all test xs) (right_if (test x) (omega (arith, low))) (all_right xs (omega (arith, low)))

all_light : {X : Type 0} (test : X → Bool) (m : X → ℕ) → ((x : X) → m x ≤ 0 → test x ≡ true) → (xs : List X) → total m xs ≤ 0 → list_all test xs ≡ true
unfolding total
all_light test m each [] low = refl
all_light test m each (x ∷ xs) low = and_from (test x) (list_all test xs) (each x (omega (arith, low))) (all_light test m each xs (omega (arith, low)))

-- what passes of each part passes of all of them
all_flat : {X Y : Type 0} (test : Y → Bool) (f : X → List Y) (m : X → ℕ) → ((x : X) → m x ≤ 0 → list_all test (f x) ≡ true) → (xs : List X) → total m xs ≤ 0 → list_all test (flat_map f xs) ≡ true
unfolding total
all_flat test f m each [] low = refl
all_flat test f m each (x ∷ xs) low =
    list_all-append test (f x) (flat_map f xs)
    ∙ and_from (list_all test (f x)) (list_all test (flat_map f xs)) (each x (omega (arith, low))) (all_flat test f m each xs (omega (arith, low)))

all_mapped : {X Y : Type 0} (test : Y → Bool) (f : X → Y) (m : X → ℕ) → ((x : X) → m x ≤ 0 → test (f x) ≡ true) → (xs : List X) → total m xs ≤ 0 → list_all test (map f xs) ≡ true
unfolding total
all_mapped test f m each [] low = refl
all_mapped test f m each (x ∷ xs) low = and_from (test (f x)) (list_all test (map f xs)) (each x (omega (arith, low))) (all_mapped test f m each xs (omega (arith, low)))

abbrev w : Weights
w = wrong_weights

spelled : (i : Id) → w.id i ≤ 0 → is_spelled i ≡ true
spelled i low = right_if (is_spelled i) low

ids_spelled : (ids : List Id) → total w.id ids ≤ 0 → list_all is_spelled ids ≡ true
ids_spelled ids low = all_right is_spelled ids low

parameters_spelled : (ps : List Parameter) → total (parameter_weight w) ps ≤ 0 → list_all is_spelled (map (λ (p : Parameter). p.name) ps) ≡ true
parameters_spelled ps low = all_mapped is_spelled (λ (p : Parameter). p.name) (parameter_weight w) (λ p none. spelled p.name (omega (arith, none))) ps low

given_spelled : (ps : List ConstructorParameter) → total (given_weight w) ps ≤ 0 → list_all is_spelled (map (λ (p : ConstructorParameter). p.name) ps) ≡ true
given_spelled ps low = all_mapped is_spelled (λ (p : ConstructorParameter). p.name) (given_weight w) (λ p none. spelled p.name (omega (arith, none))) ps low

member_spelled : (m : InterfaceMember) → member_weight w m ≤ 0 → list_all is_spelled (member_ids m) ≡ true
member_spelled (base_member optional path) low = refl
member_spelled (attribute a) low = and_from (is_spelled a.name) true (spelled a.name (omega (arith, low))) refl
member_spelled (method m) low =
    and_from (is_spelled m.name) (list_all is_spelled (map (λ (p : Parameter). p.name) m.parameters)) (spelled m.name (omega (arith, low))) (parameters_spelled m.parameters (omega (arith, low)))

constructor_spelled : (c : Constructor) → constructor_weight w c ≤ 0 → list_all is_spelled (constructor_ids c) ≡ true
constructor_spelled c low =
    and_from (is_spelled c.name) (list_all is_spelled (map (λ (p : ConstructorParameter). p.name) c.parameters)) (spelled c.name (omega (arith, low))) (given_spelled c.parameters (omega (arith, low)))

service_spelled : (m : ServiceMember) → service_weight w m ≤ 0 → list_all is_spelled (service_ids m) ≡ true
service_spelled (face optional path) low = refl
service_spelled (subservice optional path) low = refl
service_spelled (property p) low = and_from (is_spelled p.name) true (spelled p.name (omega (arith, low))) refl

fields_spelled : (members : List Fields) → total (fields_weight w) members ≤ 0 → list_all is_spelled (flat_map (λ (m : Fields). m.names) members) ≡ true
fields_spelled members low = all_flat is_spelled (λ (m : Fields). m.names) (fields_weight w) (λ m none. ids_spelled m.names (omega (arith, none))) members low

body_spelled : (body : Declaration) → body_weight w body ≤ 0 → list_all is_spelled (inner_ids body) ≡ true
unfolding inner_ids
body_spelled forward low = refl
body_spelled (interface base members) low = all_flat is_spelled member_ids (member_weight w) member_spelled members (omega (arith, low))
body_spelled (struct base members) low = fields_spelled members (omega (arith, low))
body_spelled (exception base members) low = fields_spelled members (omega (arith, low))
body_spelled (enum items) low = all_mapped is_spelled (λ (i : Item). i.name) (item_weight w) (λ i none. spelled i.name (omega (arith, none))) items low
body_spelled (constants cs) low = all_mapped is_spelled (λ (c : Constant). c.name) (constant_weight w) (λ c none. spelled c.name (omega (arith, none))) cs low
body_spelled (typedef t) low = refl
body_spelled (new_service base constructors) low = all_flat is_spelled constructor_ids (constructor_weight w) constructor_spelled constructors (omega (arith, low))
body_spelled (old_service members) low = all_flat is_spelled service_ids (service_weight w) service_spelled members low
body_spelled (new_singleton base) low = refl
body_spelled (old_singleton service) low = refl

-- ---- names that are used

both_spelled : (ps qs : List Path) → list_all is_spelled_path ps ≡ true → list_all is_spelled_path qs ≡ true → list_all is_spelled_path (ps ++ qs) ≡ true
both_spelled ps qs first second = list_all-append is_spelled_path ps qs ∙ and_from (list_all is_spelled_path ps) (list_all is_spelled_path qs) first second

mutual
  unfolding type_paths argument_paths type_weight arguments_weight

  type_spelled : (t : WrittenType) → type_weight wrong_weights t ≤ 0 → list_all is_spelled_path (type_paths t) ≡ true
  type_spelled (simple p s) low = refl
  type_spelled (named path ts) low =
      and_from (is_spelled_path path) (list_all is_spelled_path (argument_paths ts)) (right_if (is_spelled_path path) (omega (arith, low))) (arguments_spelled ts (omega (arith, low)))
  type_spelled (sequence_of p t) low = type_spelled t low

  arguments_spelled : (ts : Arguments) → arguments_weight wrong_weights ts ≤ 0 → list_all is_spelled_path (argument_paths ts) ≡ true
  arguments_spelled no_arguments low = refl
  arguments_spelled (argument t ts) low = both_spelled (type_paths t) (argument_paths ts) (type_spelled t (omega (arith, low))) (arguments_spelled ts (omega (arith, low)))

mutual
  unfolding expr_paths operand_paths expr_weight operands_weight

  expr_spelled : (e : Expr) → expr_weight wrong_weights e ≤ 0 → list_all is_spelled_path (expr_paths e) ≡ true
  expr_spelled (number n) low = refl
  expr_spelled (truth b) low = refl
  expr_spelled (constant path) low = and_from (is_spelled_path path) true (right_if (is_spelled_path path) low) refl
  expr_spelled (parentheses e) low = expr_spelled e low
  expr_spelled (signed signs e) low = expr_spelled e low
  expr_spelled (chain e es) low = both_spelled (expr_paths e) (operand_paths es) (expr_spelled e (omega (arith, low))) (operands_spelled es (omega (arith, low)))

  operands_spelled : (es : Operands) → operands_weight wrong_weights es ≤ 0 → list_all is_spelled_path (operand_paths es) ≡ true
  operands_spelled no_operands low = refl
  operands_spelled (operand op e es) low = both_spelled (expr_paths e) (operand_paths es) (expr_spelled e (omega (arith, low))) (operands_spelled es (omega (arith, low)))

names_spelled : (paths : List Path) → total w.path paths ≤ 0 → list_all is_spelled_path paths ≡ true
names_spelled paths low = all_right is_spelled_path paths low

one_spelled : (path : Path) → w.path path ≤ 0 → list_all is_spelled_path (path ∷ []) ≡ true
one_spelled path low = and_from (is_spelled_path path) true (right_if (is_spelled_path path) low) refl

raised_spelled : (o : Option (List Path)) → of_option (names_weight w) o ≤ 0 → list_all is_spelled_path (accessor_raises o) ≡ true
raised_spelled None low = refl
raised_spelled (Some paths) low = names_spelled paths low

base_spelled : (o : Option Path) → of_option w.path o ≤ 0 → list_all is_spelled_path (option_to_list o) ≡ true
base_spelled None low = refl
base_spelled (Some path) low = one_spelled path low

parameter_paths_spelled : (ps : List Parameter) → total (parameter_weight w) ps ≤ 0 → list_all is_spelled_path (flat_map (λ (p : Parameter). type_paths p.type) ps) ≡ true
parameter_paths_spelled ps low = all_flat is_spelled_path (λ (p : Parameter). type_paths p.type) (parameter_weight w) (λ p none. type_spelled p.type (omega (arith, none))) ps low

given_paths_spelled : (ps : List ConstructorParameter) → total (given_weight w) ps ≤ 0 → list_all is_spelled_path (flat_map (λ (p : ConstructorParameter). type_paths p.type) ps) ≡ true
given_paths_spelled ps low = all_flat is_spelled_path (λ (p : ConstructorParameter). type_paths p.type) (given_weight w) (λ p none. type_spelled p.type (omega (arith, none))) ps low

member_paths_spelled : (m : InterfaceMember) → member_weight w m ≤ 0 → list_all is_spelled_path (member_paths m) ≡ true
member_paths_spelled (base_member optional path) low = one_spelled path low
member_paths_spelled (attribute a) low =
    both_spelled (type_paths a.type) (accessor_raises a.get ++ accessor_raises a.set) (type_spelled a.type (omega (arith, low)))
    (both_spelled (accessor_raises a.get) (accessor_raises a.set) (raised_spelled a.get (omega (arith, low))) (raised_spelled a.set (omega (arith, low))))
member_paths_spelled (method m) low =
    both_spelled (type_paths m.result_type) (flat_map (λ (p : Parameter). type_paths p.type) m.parameters ++ m.raises) (type_spelled m.result_type (omega (arith, low)))
    (both_spelled (flat_map (λ (p : Parameter). type_paths p.type) m.parameters) m.raises (parameter_paths_spelled m.parameters (omega (arith, low))) (names_spelled m.raises (omega (arith, low))))

constructor_paths_spelled : (c : Constructor) → constructor_weight w c ≤ 0 → list_all is_spelled_path (constructor_paths c) ≡ true
constructor_paths_spelled c low =
    both_spelled (flat_map (λ (p : ConstructorParameter). type_paths p.type) c.parameters) c.raises (given_paths_spelled c.parameters (omega (arith, low))) (names_spelled c.raises (omega (arith, low)))

service_paths_spelled : (m : ServiceMember) → service_weight w m ≤ 0 → list_all is_spelled_path (service_paths m) ≡ true
service_paths_spelled (face optional path) low = one_spelled path low
service_paths_spelled (subservice optional path) low = one_spelled path low
service_paths_spelled (property p) low = type_spelled p.type (omega (arith, low))

field_paths_spelled : (members : List Fields) → total (fields_weight w) members ≤ 0 → list_all is_spelled_path (flat_map (λ (m : Fields). type_paths m.type) members) ≡ true
field_paths_spelled members low = all_flat is_spelled_path (λ (m : Fields). type_paths m.type) (fields_weight w) (λ m none. type_spelled m.type (omega (arith, none))) members low

abbrev is_spelled_used : Used → Bool
is_spelled_used u = is_spelled_path (used.path_of u)

all_entities : (paths : List Path) → list_all is_spelled_path paths ≡ true → list_all is_spelled_used (entity_paths paths) ≡ true
all_entities [] all = refl
all_entities (p ∷ ps) all =
    let parts = and_parts (is_spelled_path p) (list_all is_spelled_path ps) all in
    and_from (is_spelled_path p) (list_all is_spelled_used (entity_paths ps)) parts.0 (all_entities ps parts.1)

all_values : (paths : List Path) → list_all is_spelled_path paths ≡ true → list_all is_spelled_used (map a_value paths) ≡ true
all_values [] all = refl
all_values (p ∷ ps) all =
    let parts = and_parts (is_spelled_path p) (list_all is_spelled_path ps) all in
    and_from (is_spelled_path p) (list_all is_spelled_used (map a_value ps)) parts.0 (all_values ps parts.1)

both_used : (us vs : List Used) → list_all is_spelled_used us ≡ true → list_all is_spelled_used vs ≡ true → list_all is_spelled_used (us ++ vs) ≡ true
both_used us vs first second = list_all-append is_spelled_used us vs ∙ and_from (list_all is_spelled_used us) (list_all is_spelled_used vs) first second

value_spelled : (o : Option Expr) → of_option (expr_weight w) o ≤ 0 → list_all is_spelled_used (flat_map value_paths (option_to_list o)) ≡ true
value_spelled None low = refl
value_spelled (Some e) low = both_used (value_paths e) [] (all_values (expr_paths e) (expr_spelled e low)) refl

used_spelled : (body : Declaration) → body_weight w body ≤ 0 → list_all is_spelled_used (used_in body) ≡ true
unfolding used_in
used_spelled forward low = refl
used_spelled (interface base members) low =
    all_entities (option_to_list base ++ flat_map member_paths members)
    (both_spelled (option_to_list base) (flat_map member_paths members) (base_spelled base (omega (arith, low)))
    (all_flat is_spelled_path member_paths (member_weight w) member_paths_spelled members (omega (arith, low))))
used_spelled (struct base members) low =
    all_entities (option_to_list base ++ flat_map (λ (m : Fields). type_paths m.type) members)
    (both_spelled (option_to_list base) (flat_map (λ (m : Fields). type_paths m.type) members) (base_spelled base (omega (arith, low))) (field_paths_spelled members (omega (arith, low))))
used_spelled (exception base members) low =
    all_entities (option_to_list base ++ flat_map (λ (m : Fields). type_paths m.type) members)
    (both_spelled (option_to_list base) (flat_map (λ (m : Fields). type_paths m.type) members) (base_spelled base (omega (arith, low))) (field_paths_spelled members (omega (arith, low))))
used_spelled (enum items) low =
    all_flat is_spelled_used (λ (i : Item). flat_map value_paths (option_to_list i.value)) (item_weight w) (λ i none. value_spelled i.value (omega (arith, none))) items low
used_spelled (constants cs) low =
    all_flat is_spelled_used (λ (c : Constant). entity_paths (type_paths c.type) ++ value_paths c.value) (constant_weight w)
    (λ c none.
    both_used (entity_paths (type_paths c.type)) (value_paths c.value) (all_entities (type_paths c.type) (type_spelled c.type (omega (arith, none))))
    (all_values (expr_paths c.value) (expr_spelled c.value (omega (arith, none)))))
    cs low
used_spelled (typedef t) low = all_entities (type_paths t) (type_spelled t low)
used_spelled (new_service base constructors) low =
    all_entities (base ∷ flat_map constructor_paths constructors)
    (both_spelled (base ∷ []) (flat_map constructor_paths constructors) (one_spelled base (omega (arith, low)))
    (all_flat is_spelled_path constructor_paths (constructor_weight w) constructor_paths_spelled constructors (omega (arith, low))))
used_spelled (old_service members) low = all_entities (flat_map service_paths members) (all_flat is_spelled_path service_paths (service_weight w) service_paths_spelled members low)
used_spelled (new_singleton base) low = all_entities (base ∷ []) (one_spelled base low)
used_spelled (old_singleton service) low = all_entities (service ∷ []) (one_spelled service low)

uses_spelled : (d : Declared) → body_weight w d.body ≤ 0 → list_all is_spelled_use (uses_of d) ≡ true
unfolding uses_of
uses_spelled d low = as_uses (used_in d.body) (used_spelled d.body low)
  where
    as_uses : (us : List Used) → list_all is_spelled_used us ≡ true → list_all is_spelled_use (map (λ (u : Used). record { scope = scope_of d; used = u }) us) ≡ true
    as_uses [] all = refl
    as_uses (u ∷ us) all =
        let parts = and_parts (is_spelled_used u) (list_all is_spelled_used us) all in
        and_from (is_spelled_used u) (list_all is_spelled_use (map (λ (v : Used). record { scope = scope_of d; used = v }) us)) parts.0 (as_uses us parts.1)

-- ---- numbers

mutual
  unfolding expr_weight operands_weight numbers_fit operands_fit_numbers

  expr_right : (e : Expr) → expr_weight wrong_weights e ≤ 0 → numbers_fit e ≡ true
  expr_right (number n) low = right_if (nat_lt n (2 ^ 64)) low
  expr_right (truth b) low = refl
  expr_right (constant path) low = refl
  expr_right (parentheses e) low = expr_right e low
  expr_right (signed signs e) low = expr_right e low
  expr_right (chain e es) low = and_from (numbers_fit e) (operands_fit_numbers es) (expr_right e (omega (arith, low))) (operands_right es (omega (arith, low)))

  operands_right : (es : Operands) → operands_weight wrong_weights es ≤ 0 → operands_fit_numbers es ≡ true
  operands_right no_operands low = refl
  operands_right (operand op e es) low = and_from (numbers_fit e) (operands_fit_numbers es) (expr_right e (omega (arith, low))) (operands_right es (omega (arith, low)))

abbrev valued_fits : Valued → Bool
valued_fits v = origin_fits v.origin

items_right : (d : Declared) (without : Origin) (items : List Item) → origin_fits without ≡ true → total (item_weight w) items ≤ 0 → list_all valued_fits (items_valued d without items) ≡ true
unfolding items_valued total
items_right d without [] fits low = refl
items_right d without (i ∷ is) fits low =
    and_from (origin_fits (item_origin without i.value)) (list_all valued_fits (items_valued d (item_before i.name.place) is)) (by_value i.value (omega (arith, low)))
    (items_right d (item_before i.name.place) is refl (omega (arith, low)))
  where
    by_value : (o : Option Expr) → of_option (expr_weight w) o ≤ 0 → origin_fits (item_origin without o) ≡ true
    by_value None none = fits
    by_value (Some e) none = expr_right e none

valued_right : (d : Declared) (body : Declaration) → body_weight w body ≤ 0 → list_all valued_fits (valued_in d body) ≡ true
valued_right d forward low = refl
valued_right d (interface base members) low = refl
valued_right d (struct base members) low = refl
valued_right d (exception base members) low = refl
valued_right d (enum items) low = items_right d first_item items refl low
valued_right d (constants cs) low = all_mapped valued_fits (constant_valued d) (constant_weight w) (λ c none. expr_right c.value (omega (arith, none))) cs low
valued_right d (typedef t) low = refl
valued_right d (new_service base constructors) low = refl
valued_right d (old_service members) low = refl
valued_right d (new_singleton base) low = refl
valued_right d (old_singleton service) low = refl

-- ---- types of members

has_name : (names : List Id) → nameless w names ≤ 0 → is_some_list names ≡ true
has_name [] low = let bad : ⊥ = omega (arith, low) in absurd bad
has_name (n ∷ ns) low = refl

members_named : (members : List Fields) → total (fields_weight w) members ≤ 0 → list_all (λ (m : Fields). is_some_list m.names) members ≡ true
members_named members low = all_light (λ (m : Fields). is_some_list m.names) (fields_weight w) (λ m none. has_name m.names (omega (arith, none))) members low

body_named : (body : Declaration) → body_weight w body ≤ 0 → members_have_names body ≡ true
body_named forward low = refl
body_named (interface base members) low = refl
body_named (struct base members) low = members_named members (omega (arith, low))
body_named (exception base members) low = members_named members (omega (arith, low))
body_named (enum items) low = refl
body_named (constants cs) low = refl
body_named (typedef t) low = refl
body_named (new_service base constructors) low = refl
body_named (old_service members) low = refl
body_named (new_singleton base) low = refl
body_named (old_singleton service) low = refl

-- ---- declarations of a tree that weighs nothing

-- what holds of each declaration in modules of identifiers whose name and body weigh nothing holds of all
module _ (test : Declared → Bool) (each : (d : Declared) → list_all is_identifier d.modules ≡ true → w.id d.name + body_weight w d.body ≤ 0 → test d ≡ true) where
  mutual
    unfolding declared_in def_weight

    declared_right : (modules : List (List ℕ)) (d : Def) → list_all is_identifier modules ≡ true → def_weight wrong_weights d ≤ 0 → list_all test (declared_in modules d) ≡ true
    declared_right modules (in_module name ds) spelled_all low =
        all_declared_right (modules ++ name.name ∷ []) ds
        (list_all-append is_identifier modules (name.name ∷ [])
        ∙ and_from (list_all is_identifier modules) (is_identifier name.name && true) spelled_all (and_from (is_identifier name.name) true (spelled name (omega (arith, low))) refl))
        (omega (arith, low))
    declared_right modules (declared published d) spelled_all low =
        and_from (test (record { modules = modules; published = published; name = d.name; body = d.body })) true
        (each (record { modules = modules; published = published; name = d.name; body = d.body }) spelled_all low) refl

    all_declared_right : (modules : List (List ℕ)) (ds : Defs) → list_all is_identifier modules ≡ true → defs_weight wrong_weights ds ≤ 0 → list_all test (all_declared_in modules ds) ≡ true
    all_declared_right modules no_defs spelled_all low = refl
    all_declared_right modules (def d ds) spelled_all low =
        list_all-append test (declared_in modules d) (all_declared_in modules ds)
        ∙ and_from (list_all test (declared_in modules d)) (list_all test (all_declared_in modules ds)) (declared_right modules d spelled_all (omega (arith, low)))
        (all_declared_right modules ds spelled_all (omega (arith, low)))

  tree_right : (tree : Tree) → total (def_weight w) tree ≤ 0 → list_all test (flat_map (declared_in []) tree) ≡ true
  tree_right tree low = all_flat test (declared_in []) (def_weight w) (λ d none. declared_right [] d refl none) tree low

  pub declarations_right : (trees : List Tree) → total (λ tree. total (def_weight w) tree) trees ≤ 0 → list_all test (declarations trees) ≡ true
  unfolding declarations
  declarations_right trees low = all_flat test (λ tree. flat_map (declared_in []) tree) (λ tree. total (def_weight w) tree) tree_right trees low

-- ---- what all declarations have

abbrev weight_of_trees : List Tree → ℕ
weight_of_trees trees = total (λ tree. total (def_weight w) tree) trees

pub all_have_identifiers : (trees : List Tree) → weight_of_trees trees ≤ 0 → list_all has_identifiers (declarations trees) ≡ true
unfolding has_identifiers
all_have_identifiers trees low = declarations_right has_identifiers one trees low
  where
    one : (d : Declared) → list_all is_identifier d.modules ≡ true → w.id d.name + body_weight w d.body ≤ 0 → ((list_all is_identifier d.modules && is_spelled d.name) && list_all is_spelled (inner_ids d.body)) ≡ true
    one d modules none =
        and_from (list_all is_identifier d.modules && is_spelled d.name) (list_all is_spelled (inner_ids d.body))
        (and_from (list_all is_identifier d.modules) (is_spelled d.name) modules (spelled d.name (omega (arith, none)))) (body_spelled d.body (omega (arith, none)))

pub all_members_named : (trees : List Tree) → weight_of_trees trees ≤ 0 → list_all (λ (d : Declared). members_have_names d.body) (declarations trees) ≡ true
all_members_named trees low = declarations_right (λ (d : Declared). members_have_names d.body) (λ d modules none. body_named d.body (omega (arith, none))) trees low

all_of_flat : {X Y : Type 0} (test : Y → Bool) (f : X → List Y) (xs : List X) → list_all (λ x. list_all test (f x)) xs ≡ true → list_all test (flat_map f xs) ≡ true
all_of_flat test f [] all = refl
all_of_flat test f (x ∷ xs) all =
    let parts = and_parts (list_all test (f x)) (list_all (λ y. list_all test (f y)) xs) all in
    list_all-append test (f x) (flat_map f xs) ∙ and_from (list_all test (f x)) (list_all test (flat_map f xs)) parts.0 (all_of_flat test f xs parts.1)

pub all_values_fit : (trees : List Tree) → weight_of_trees trees ≤ 0 → list_all valued_fits (all_valued (declarations trees)) ≡ true
unfolding all_valued
all_values_fit trees low =
    all_of_flat valued_fits (λ (d : Declared). valued_in d d.body) (declarations trees)
    (declarations_right (λ (d : Declared). list_all valued_fits (valued_in d d.body)) (λ d modules none. valued_right d d.body (omega (arith, none))) trees low)

pub all_uses_spelled : (trees : List Tree) → weight_of_trees trees ≤ 0 → list_all is_spelled_use (uses (declarations trees)) ≡ true
unfolding uses
all_uses_spelled trees low =
    all_of_flat is_spelled_use uses_of (declarations trees)
    (declarations_right (λ (d : Declared). list_all is_spelled_use (uses_of d)) (λ d modules none. uses_spelled d (omega (arith, none))) trees low)
