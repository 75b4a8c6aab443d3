-- The values in an expression that a term is can be carried by bytes, since a term's texts are UTF-8 and its numbers are of the types of their places.
use Rattle.std.proofs.Common.{◌≡◌, ℕ, ◌<◌, ◌^◌, ℤ, pos, negsuc, Bool, true, false, nat_lt, if◌then◌else◌, List, [], ◌∷◌, Option, None, Some, option_map, refl, FitsSigned}
use Rattle.std.specs.Int.{w32}
use Rattle.std.specs.List.{AllByRecursion, list_all}
use Rattle.std.specs.Str.{IsUtf8, bytes_eq}
use Rattle.std.proofs.lemmas.Bool.{and_parts, ltb-true}
use Rattle.std.proofs.lemmas.Str.{IsUtf8-from_is_utf8}
use Rattle.literal_model.specs.Literals.{Token, first_item}
use Rattle.literal_model.specs.Literals as token
use Rattle.literal_model.specs.Readings.{and_then, number_in, word_in, string_in, some_as, unsigned_of, signed_of, word_as, number_named, none_of_number, item_in, numeric, single}
use Rattle.literal_model.specs.Shapes.{is_some_name}
use Rattle.uno_model.specs.Defaults.{items_in, items_of}
use Rattle.uno_model.specs.Entities.{Entity, Item, Param}
use Rattle.uno_model.specs.Fits.{member_kinds}
use Rattle.uno_model.specs.Kinds.{Kind}
use Rattle.uno_model.specs.Kinds as kd
use Rattle.uno_model.specs.NamedTypes.{type_of_text}
use Rattle.uno_model.specs.Registry.{find_entity}
use Rattle.uno_model.specs.Spellable.{IsSpellable}
use Rattle.uno_model.specs.Values.{Plain}
use Rattle.uno_model.specs.Values as v
use Rattle.uno_model.specs.declared.way.Way.{Way}
use Rattle.uno_model.specs.declared.way.Way.TheVariants as way
use Rattle.plan_model.specs.Contexts.{Context, kind_of_variable, kind_of_word}
use Rattle.plan_model.specs.Evaluation.{both_values}
use Rattle.plan_model.specs.Expressions.{Word, Expression, Expressions, Argument}
use Rattle.plan_model.specs.Expressions as e
use Rattle.plan_model.specs.Forms.{is_leaf, is_cast, has_members, is_term, are_terms}
use Rattle.plan_model.specs.Lines.{Term, Terms, leaf, type_named, void_any, typed, elements, members, word, operation, none, more}
use Rattle.plan_model.specs.Typing.{is_whole, only_if, type_value, void_any_at, any_at, elements_at, members_at, word_at, expression_of, all_at, each_at, variable_in, gets, out_argument, argument_of, arguments_of}
use Rattle.plan_model.specs.declared.operation.Operation.{Operation}
use Rattle.bridge_laws.specs.Texts.{HasSmallNumber, AreSmallItems, IsWritable, AreWritable, IsWritableArgument}
use Rattle.bridge_laws.proofs.EvaluationSpelling.{IfSpellable}

-- ---- numbers

unsigned_by : (bits : ℕ) (mk : ℕ → Plain) (o : Option ℤ) → ((n : ℕ) → n < 2 ^ bits → IsSpellable (mk n)) → IfSpellable (some_as mk (and_then o (unsigned_of bits)))
unsigned_by bits mk None each = tt
unsigned_by bits mk (Some (negsuc n)) each = tt
unsigned_by bits mk (Some (pos n)) each = by_range (nat_lt n (2 ^ bits)) refl
  where
    by_range : (b : Bool) → nat_lt n (2 ^ bits) ≡ b → IfSpellable (some_as mk (if b then Some n else None))
    by_range true small = each n (ltb-true n (2 ^ bits) small)
    by_range false large = tt

-- what a property asks of a number that is there
abbrev If : {X : Type 0} → (X → Type 0) → Option X → Type 0
If P None = Unit
If P (Some x) = P x

signed_fits : (bits : ℕ) (P : ℤ → Type 0) (z : ℤ) → ((n : ℕ) → n < 2 ^ bits → P (pos n)) → ((n : ℕ) → n < 2 ^ bits → P (negsuc n)) → If P (signed_of bits z)
signed_fits bits P (pos n) each below = by_range (nat_lt n (2 ^ bits)) refl
  where
    by_range : (b : Bool) → nat_lt n (2 ^ bits) ≡ b → If P (if b then Some (pos n) else None)
    by_range true small = each n (ltb-true n (2 ^ bits) small)
    by_range false large = tt
signed_fits bits P (negsuc n) each below = by_range (nat_lt n (2 ^ bits)) refl
  where
    by_range : (b : Bool) → nat_lt n (2 ^ bits) ≡ b → If P (if b then Some (negsuc n) else None)
    by_range true small = below n (ltb-true n (2 ^ bits) small)
    by_range false large = tt

made : {X : Type 0} (P : X → Type 0) (mk : X → Plain) (o : Option X) → ((x : X) → P x → IsSpellable (mk x)) → If P o → IfSpellable (some_as mk o)
made P mk None each fine = tt
made P mk (Some x) each fine = each x fine

signed_by : (bits : ℕ) (mk : ℤ → Plain) (o : Option ℤ) → ((n : ℕ) → n < 2 ^ bits → IsSpellable (mk (pos n))) → ((n : ℕ) → n < 2 ^ bits → IsSpellable (mk (negsuc n)))
    → IfSpellable (some_as mk (and_then o (signed_of bits)))
signed_by bits mk None each below = tt
signed_by bits mk (Some z) each below = made (λ y. IsSpellable (mk y)) mk (signed_of bits z) (λ y is. is) (signed_fits bits (λ y. IsSpellable (mk y)) z each below)

number_spellable : (k : Kind) (t : Token) → IfSpellable (numeric k t)
unfolding IsSpellable
number_spellable kd.char t = unsigned_by 16 v.char (number_in t) (λ n small. small)
number_spellable kd.byte t = signed_by 7 v.byte (number_in t) (λ n small. record { sfits = small }) (λ n small. record { sfits = small })
number_spellable kd.short t = signed_by 15 v.short (number_in t) (λ n small. record { sfits = small }) (λ n small. record { sfits = small })
number_spellable kd.unsigned_short t = unsigned_by 16 v.unsigned_short (number_in t) (λ n small. small)
number_spellable kd.long t = signed_by 31 v.long (number_in t) (λ n small. record { sfits = small }) (λ n small. record { sfits = small })
number_spellable kd.unsigned_long t = unsigned_by 32 v.unsigned_long (number_in t) (λ n small. small)
number_spellable kd.hyper t = signed_by 63 v.hyper (number_in t) (λ n small. record { sfits = small }) (λ n small. record { sfits = small })
number_spellable kd.unsigned_hyper t = unsigned_by 64 v.unsigned_hyper (number_in t) (λ n small. small)
number_spellable k t = tt

-- ---- items of enums

abbrev SmallIf : Option ℤ → Type 0
SmallIf o = If (λ (z : ℤ). FitsSigned w32 z) o

small_or : (b : Bool) (x : ℤ) (o : Option ℤ) → FitsSigned w32 x → SmallIf o → SmallIf (if b then Some x else o)
small_or true x o p q = p
small_or false x o p q = q

named_small : (items : List Item) (w : List ℕ) → AllByRecursion HasSmallNumber items → SmallIf (number_named items w)
unfolding number_named
named_small [] w all = tt
named_small (i ∷ items) w all = small_or (bytes_eq i.name w) i.number (number_named items w) all.0 (named_small items w all.1)

kept_small : (o : Option ℤ) (go : ℤ → Option ℤ) → SmallIf o → ((z : ℤ) → FitsSigned w32 z → SmallIf (go z)) → SmallIf (and_then o go)
kept_small None go is keeps = tt
kept_small (Some z) go is keeps = keeps z is

none_small : (name : Option (List ℕ)) (z : ℤ) → FitsSigned w32 z → SmallIf (none_of_number name z)
none_small None z is = is
none_small (Some name) z is = tt

item_small : (items : List Item) (t : Token) → AllByRecursion HasSmallNumber items → SmallIf (item_in items t)
item_small items (token.word w) all =
    kept_small (number_named items w) (λ n. if is_some_name (first_item items n) w then Some n else None) (named_small items w all)
    (λ z is. small_or (is_some_name (first_item items z) w) z None is tt)
item_small items (token.number n) all =
    kept_small (signed_of 31 n) (λ m. none_of_number (first_item items m) m)
    (signed_fits 31 (λ z. FitsSigned w32 z) n (λ m small. record { sfits = small }) (λ m small. record { sfits = small }))
    (λ z is. none_small (first_item items z) z is)
item_small items t all = tt

items_by : (b : Bool) (e : Entity) (o : Option Entity) → AllByRecursion HasSmallNumber (items_in e.body) → AllByRecursion HasSmallNumber (items_of o)
    → AllByRecursion HasSmallNumber (items_of (if b then Some e else o))
items_by true e o here there = here
items_by false e o here there = there

items_small : (name : List ℕ) (reg : List Entity) → AreSmallItems reg → AllByRecursion HasSmallNumber (items_of (find_entity name reg))
unfolding find_entity
items_small name [] all = tt
items_small name (e ∷ reg) all = items_by (bytes_eq name e.name) e (find_entity name reg) all.0 (items_small name reg all.1)

enum_made : (name : List ℕ) (n : ℤ) → FitsSigned w32 n → IsSpellable (v.enum name n)
unfolding IsSpellable
enum_made name n is = is

-- ---- leaves

text_in : (reg : List Entity) (t : Token) → is_leaf reg t ≡ true → If IsUtf8 (string_in t)
text_in reg (token.string s) is = IsUtf8-from_is_utf8 s is
text_in reg t is = tt

text_made : (s : List ℕ) → IsUtf8 s → IsSpellable (v.str s)
unfolding IsSpellable
text_made s is = is

either_spellable : (b : Bool) (x : Plain) → IsSpellable x → IfSpellable (if b then Some x else None)
either_spellable true x fine = fine
either_spellable false x fine = tt

word_read : (asked : List ℕ) (x : Plain) (w : Option (List ℕ)) → IsSpellable x → IfSpellable (and_then w (word_as asked x))
word_read asked x None fine = tt
word_read asked x (Some w) fine = either_spellable (bytes_eq w asked) x fine

any_made : {X : Type 0} (mk : X → Plain) (o : Option X) → ((x : X) → IsSpellable (mk x)) → IfSpellable (some_as mk o)
any_made mk None each = tt
any_made mk (Some x) each = each x

module _ (reg : List Entity) (items : AreSmallItems reg) where
  single_spellable : (k : Kind) (t : Token) → is_leaf reg t ≡ true → IfSpellable (single reg k t)
  unfolding IsSpellable
  single_spellable kd.void t is = word_read _ v.void (word_in t) tt
  single_spellable kd.boolean t is = any_made v.boolean _ (λ b. tt)
  single_spellable kd.str t is = made IsUtf8 v.str (string_in t) text_made (text_in reg t is)
  single_spellable kd.kind t is = any_made v.kind _ (λ k. tt)
  single_spellable (kd.enum name) t is =
      made (λ (z : ℤ). FitsSigned w32 z) (v.enum name) (item_in (items_of (find_entity name reg)) t) (enum_made name) (item_small (items_of (find_entity name reg)) t (items_small name reg items))
  single_spellable (kd.interface name) t is = word_read _ (v.ref v.null) (word_in t) tt
  single_spellable k t is = number_spellable k t

  -- ---- expressions

  abbrev pub IfWritable : Option Expression → Type 0
  IfWritable None = Unit
  IfWritable (Some a) = IsWritable a

  abbrev pub IfAreWritable : Option Expressions → Type 0
  IfAreWritable None = Unit
  IfAreWritable (Some es) = AreWritable es

  constant_writable : (x : Option Plain) → IfSpellable x → IfWritable (option_map e.constant x)
  unfolding IsWritable
  constant_writable None fine = tt
  constant_writable (Some x) fine = fine

  type_writable : (k : Kind) (t : Option Kind) → IfWritable (type_value k t)
  unfolding IsWritable IsSpellable
  type_writable kd.kind (Some t) = tt
  type_writable k t = tt

  void_any_writable : (k : Kind) → IfWritable (void_any_at k)
  unfolding IsWritable IsSpellable
  void_any_writable kd.any = tt
  void_any_writable k = tt

  content_writable : (t : Kind) (a : Option Expression) → IfWritable a → IfWritable (option_map (e.any t) a)
  unfolding IsWritable
  content_writable t None fine = tt
  content_writable t (Some a) fine = fine

  any_writable : (k : Kind) (t : Option Kind) (content : Kind → Option Expression) → ((k : Kind) → IfWritable (content k)) → IfWritable (any_at k t content)
  any_writable kd.any (Some t) content fine = content_writable t (content t) (fine t)
  any_writable k t content fine = tt

  parts_writable : (mk : Expressions → Expression) (o : Option Expressions) → ((es : Expressions) → AreWritable es → IsWritable (mk es)) → IfAreWritable o → IfWritable (option_map mk o)
  parts_writable mk None each fine = tt
  parts_writable mk (Some es) each fine = each es fine

  list_writable : (k : Kind) (es : Expressions) → AreWritable es → IsWritable (e.list k es)
  unfolding IsWritable
  list_writable k es fine = fine

  bytes_writable : (es : Expressions) → AreWritable es → IsWritable (e.bytes es)
  unfolding IsWritable
  bytes_writable es fine = fine

  tuple_writable : (name : List ℕ) (es : Expressions) → AreWritable es → IsWritable (e.tuple name es)
  unfolding IsWritable
  tuple_writable name es fine = fine

  elements_writable : (k : Kind) (all : Kind → Option Expressions) → ((k : Kind) → IfAreWritable (all k)) → IfWritable (elements_at k all)
  elements_writable (kd.sequence kd.byte) all fine = parts_writable e.bytes (all kd.byte) bytes_writable (fine kd.byte)
  elements_writable (kd.sequence k) all fine = parts_writable (e.list k) (all k) (list_writable k) (fine k)
  elements_writable k all fine = tt

  members_writable : (k : Kind) (each : List Kind → Option Expressions) → ((ks : List Kind) → IfAreWritable (each ks)) → IfWritable (members_at reg k each)
  members_writable (kd.struct name) each fine = parts_writable (e.tuple name) (each (member_kinds reg name)) (tuple_writable name) (fine (member_kinds reg name))
  members_writable (kd.exception name) each fine = parts_writable (e.tuple name) (each (member_kinds reg name)) (tuple_writable name) (fine (member_kinds reg name))
  members_writable k each fine = tt

  only_writable : (b : Bool) (o : Option Expression) → IfWritable o → IfWritable (only_if b o)
  only_writable true o fine = fine
  only_writable false o fine = tt

  word_writable : (k : Kind) (w : Word) (o : Option Kind) → IfWritable (word_at reg k w o)
  unfolding IsWritable
  word_writable k w None = tt
  word_writable k w (Some from) = only_writable _ (Some (e.word w)) tt

  operation_writable : (op : Operation) (a b : Option Expression) → IfWritable a → IfWritable b → IfWritable (both_values a b (λ a b. Some (e.operation op a b)))
  unfolding IsWritable
  operation_writable op None b here there = tt
  operation_writable op (Some a) None here there = tt
  operation_writable op (Some a) (Some b) here there = (here, there)

  more_writable : (a : Option Expression) (b : Option Expressions) → IfWritable a → IfAreWritable b → IfAreWritable (both_values a b (λ a rest. Some (e.more a rest)))
  unfolding AreWritable
  more_writable None b here there = tt
  more_writable (Some a) None here there = tt
  more_writable (Some a) (Some es) here there = (here, there)

  nothing_writable : IfAreWritable (Some e.none)
  unfolding AreWritable
  nothing_writable = tt

  mutual
    unfolding expression_of all_at each_at is_term are_terms

    pub term_writable : (c : Context) (t : Term) (k : Kind) → is_term reg t ≡ true → IfWritable (expression_of reg c t k)
    term_writable c (leaf t) k is = constant_writable (single reg k t) (single_spellable k t is)
    term_writable c (type_named t) k is = type_writable k (type_of_text reg t)
    term_writable c void_any k is = void_any_writable k
    term_writable c (typed t x) k is =
        any_writable k (type_of_text reg t) (expression_of reg c x) (λ j. term_writable c x j (and_parts (is_cast t) (is_term reg x) is).1)
    term_writable c (elements ts) k is = elements_writable k (all_at reg c ts) (λ j. all_writable c ts j is)
    term_writable c (members ts) k is = members_writable k (each_at reg c ts) (λ ks. each_writable c ts ks (and_parts (has_members ts) (are_terms reg ts) is).1)
    term_writable c (word w) k is = word_writable k w (kind_of_word c w)
    term_writable c (operation op x y) k is =
        let parts = and_parts (is_term reg x) (is_term reg y) is in
        only_writable (is_whole k) _
        (operation_writable op (expression_of reg c x k) (expression_of reg c y k) (term_writable c x k parts.0) (term_writable c y k parts.1))

    all_writable : (c : Context) (ts : Terms) (k : Kind) → are_terms reg ts ≡ true → IfAreWritable (all_at reg c ts k)
    all_writable c none k is = nothing_writable
    all_writable c (more t ts) k is =
        let parts = and_parts (is_term reg t) (are_terms reg ts) is in
        more_writable (expression_of reg c t k) (all_at reg c ts k) (term_writable c t k parts.0) (all_writable c ts k parts.1)

    each_writable : (c : Context) (ts : Terms) (ks : List Kind) → are_terms reg ts ≡ true → IfAreWritable (each_at reg c ts ks)
    each_writable c none [] is = nothing_writable
    each_writable c none (k ∷ ks) is = tt
    each_writable c (more t ts) [] is = tt
    each_writable c (more t ts) (k ∷ ks) is =
        let parts = and_parts (is_term reg t) (are_terms reg ts) is in
        more_writable (expression_of reg c t k) (each_at reg c ts ks) (term_writable c t k parts.0) (each_writable c ts ks parts.1)

  -- ---- arguments

  abbrev IfArgument : Option Argument → Type 0
  IfArgument None = Unit
  IfArgument (Some a) = IsWritableArgument a

  abbrev pub IfArguments : Option (List Argument) → Type 0
  IfArguments None = Unit
  IfArguments (Some xs) = AllByRecursion IsWritableArgument xs

  into_writable : (a : Option Expression) → IfWritable a → IfArgument (option_map e.into a)
  into_writable None fine = tt
  into_writable (Some a) fine = fine

  argument_only : (b : Bool) (a : Argument) → IsWritableArgument a → IfArgument (only_if b (Some a))
  argument_only true a fine = fine
  argument_only false a fine = tt

  out_from : (p : Param) (mk : List ℕ → Argument) (name : List ℕ) (from : Option Kind) → ((name : List ℕ) → IsWritableArgument (mk name))
      → IfArgument (and_then from (λ from. only_if (gets reg p.way p.kind from) (Some (mk name))))
  out_from p mk name None fine = tt
  out_from p mk name (Some from) fine = argument_only (gets reg p.way p.kind from) (mk name) (fine name)

  out_writable : (c : Context) (p : Param) (mk : List ℕ → Argument) (o : Option (List ℕ)) → ((name : List ℕ) → IsWritableArgument (mk name)) → IfArgument (out_argument reg c p mk o)
  out_writable c p mk None fine = tt
  out_writable c p mk (Some name) fine = out_from p mk name (kind_of_variable c name) fine

  argument_by : (c : Context) (p : Param) (t : Term) (w : Way) → p.way ≡ w → is_term reg t ≡ true → IfArgument (argument_of reg c p t)
  unfolding argument_of
  argument_by c p t way.Into is formed = rw is (into_writable (expression_of reg c t p.kind) (term_writable c t p.kind formed))
  argument_by c p t way.Out is formed = rw is (out_writable c (record { way = way.Out; name = p.name; kind = p.kind }) e.out (variable_in t) (λ name. tt))
  argument_by c p t way.Both is formed = rw is (out_writable c (record { way = way.Both; name = p.name; kind = p.kind }) e.both (variable_in t) (λ name. tt))

  argument_more : (a : Option Argument) (b : Option (List Argument)) → IfArgument a → IfArguments b → IfArguments (both_values a b (λ a rest. Some (a ∷ rest)))
  argument_more None b here there = tt
  argument_more (Some a) None here there = tt
  argument_more (Some a) (Some rest) here there = (here, there)

  pub arguments_writable : (c : Context) (ps : List Param) (ts : List Term) → list_all (is_term reg) ts ≡ true → IfArguments (arguments_of reg c ps ts)
  unfolding arguments_of
  arguments_writable c [] [] is = tt
  arguments_writable c [] (t ∷ ts) is = tt
  arguments_writable c (p ∷ ps) [] is = tt
  arguments_writable c (p ∷ ps) (t ∷ ts) is =
      let parts = and_parts (is_term reg t) (list_all (is_term reg) ts) is in
      argument_more (argument_of reg c p t) (arguments_of reg c ps ts) (argument_by c p t p.way refl parts.0) (arguments_writable c ps ts parts.1)
