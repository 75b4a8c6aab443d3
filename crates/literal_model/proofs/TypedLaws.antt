-- What is read of tokens at a type fits it, and its own tokens are those that were read.
use Rattle.std.proofs.Common.{◌≡◌, ◌≢◌, ℕ, zero, suc, ◌<◌, ◌^◌, ℤ, pos, negsuc, Bool, true, false, List, [], ◌∷◌, ◌++◌, length, map, Option}
use Rattle.std.proofs.Common.{None, Some, Result, Ok, Err, inl, inr, IsTrue, refl, sym, ap, subst, ◌∙◌, codes, nat_lt, if◌then◌else◌}
use Rattle.std.proofs.lemmas.Bool.{both_ways, ltb-true}
use Rattle.std.proofs.lemmas.List.{append-nil, append_assoc}
use Rattle.std.proofs.lemmas.Int.{to_z-of_z}
use Rattle.std.proofs.lemmas.Slice.Eq.{bytes_eq-Decides}
use Rattle.std.specs.Int.{w8, cast_signed, cast_unsigned}
use Rattle.std.specs.Str.{bytes_eq}
use lib.Signed.{mag}
use Rattle.uno_model.specs.Defaults.{items_of}
use Rattle.uno_model.specs.Entities.{Entity, Item}
use Rattle.uno_model.specs.Fits.{Fits, FitEach, FitAll, IsTupleKind, member_kinds}
use Rattle.uno_model.specs.Kinds.{Kind}
use Rattle.uno_model.specs.Kinds as kd
use Rattle.literal_model.specs.Literals.{first_item, Token, opens, closes, comma, number, word, string, named, cast, square, curly, tokens_of, tokens_in, byte_tokens, comma_tokens}
use Rattle.literal_model.specs.Literals.{item_token}
use Rattle.literal_model.specs.Readings.{Fault, deep, misfit, Reads, left_at, number_in, word_in, string_in, named_in, cast_in, and_then, unsigned_of, signed_of, truth_of, word_as, number_named}
use Rattle.literal_model.specs.Readings.{item_in, none_of_number, some_as, single, only_token, is_comma, opens_square, opens_curly, closes_square, closes_curly, expect, with_first, behind_element}
use Rattle.literal_model.specs.Readings.{elements_on, elements_in, sequence_of, comma_at, members_on, tuple_of, is_void, held_by, any_of, bits_of, map_option, byte_in, value_step, value_within}
use Rattle.uno_model.specs.Registry.{find_entity}
use Rattle.literal_model.specs.Shapes.{Placed, on_ok, is_some_name}
use Rattle.uno_model.specs.Types.{is_type}
use Rattle.uno_model.specs.Values.{null, Plain, Plains, plains, none, more, refs, refs_in}
use Rattle.uno_model.specs.Values as v

abbrev pub bare : List Placed → List Token
bare = map (λ (p : Placed). p.token)

-- a step of a reading that went well
pub ok_step : {A B E : Type 0} (m : Result A E) (go : A → Result B E) (y : B) → on_ok m go ≡ Ok y → (x : A) × (m ≡ Ok x) × (go x ≡ Ok y)
ok_step (Ok x) go y e = (x, refl, e)
ok_step (Err f) go y e = let bad : ⊥ = cc in absurd bad

-- what holds of what was read holds of the same
pub ok_holds : {A B E : Type 0} (P : A → B → Type 0) (a c : A) (b d : B) → ◌≡◌ {A = Result (A × B) E} (Ok (a, b)) (Ok (c, d)) → P a b → P c d
ok_holds {A} {B} P a c b d e p = let pair : ◌≡◌ {A = A × B} (a, b) (c, d) = cc in subst (λ (y : A × B). P y.0 y.1) pair p

first_step : {X : Type 0} (x : X) (m : Result (List X × List Placed) Fault) (xs : List X) (rest : List Placed) → with_first x m ≡ Ok (xs, rest)
    → (y : List X × List Placed) × (m ≡ Ok y) × (◌≡◌ {A = Result (List X × List Placed) Fault} (Ok (x ∷ y.0, y.1)) (Ok (xs, rest)))
first_step x (Ok y) xs rest e = (y, refl, e)
first_step x (Err f) xs rest e = let bad : ⊥ = cc in absurd bad

only_step : {X : Type 0} (get : Token → Option X) (ps rest : List Placed) (x : X) → only_token get ps ≡ Ok (x, rest) → (p : Placed) × (ps ≡ p ∷ rest) × (get p.token ≡ Some x)
only_step get [] rest x e = let bad : ⊥ = cc in absurd bad
only_step {X} get (p ∷ ps) rest x e = by_token (get p.token) refl
  where
    by_token : (o : Option X) → get p.token ≡ o → (q : Placed) × (p ∷ ps ≡ q ∷ rest) × (get q.token ≡ Some x)
    by_token (Some y) is = let same : ◌≡◌ {A = Result (X × List Placed) Fault} (Ok (y, ps)) (Ok (x, rest)) = rw is at e in
        ok_holds (λ z r. (q : Placed) × (p ∷ ps ≡ q ∷ r) × (get q.token ≡ Some z)) y x ps rest same (p, refl, is)
    by_token None is = let bad : ◌≡◌ {A = Result (X × List Placed) Fault} (Err (misfit p.left)) (Ok (x, rest)) = rw is at e in let worse : ⊥ = cc in absurd worse

-- ---- one token

-- what an option gives, by its steps
then_some : {A B : Type 0} (o : Option A) (go : A → Option B) (y : B) → and_then o go ≡ Some y → (x : A) × (o ≡ Some x) × (go x ≡ Some y)
then_some None go y e = let bad : ⊥ = cc in absurd bad
then_some (Some x) go y e = (x, refl, e)

as_some : {X : Type 0} (mk : X → Plain) (o : Option X) (y : Plain) → some_as mk o ≡ Some y → (x : X) × (o ≡ Some x) × (y ≡ mk x)
as_some mk None y e = let bad : ⊥ = cc in absurd bad
as_some mk (Some x) y e = let same : Some (mk x) ≡ Some y = e in let is : y ≡ mk x = cc in (x, refl, is)

is_number : (t : Token) (n : ℤ) → number_in t ≡ Some n → t ≡ number n
is_number (number m) n e = let same : m ≡ n = cc in ap number same
is_number _ n e = let bad : ⊥ = cc in absurd bad

is_word : (t : Token) (w : List ℕ) → word_in t ≡ Some w → t ≡ word w
is_word (word x) w e = let same : x ≡ w = cc in ap word same
is_word _ w e = let bad : ⊥ = cc in absurd bad

is_string : (t : Token) (s : List ℕ) → string_in t ≡ Some s → t ≡ string s
is_string (string x) s e = let same : x ≡ s = cc in ap string same
is_string _ s e = let bad : ⊥ = cc in absurd bad

is_named : (t : Token) (k : Kind) → named_in t ≡ Some k → t ≡ named k
is_named (named j) k e = let same : j ≡ k = cc in ap named same
is_named _ k e = let bad : ⊥ = cc in absurd bad

is_cast : (t : Token) (k : Kind) → cast_in t ≡ Some k → t ≡ cast k
is_cast (cast j) k e = let same : j ≡ k = cc in ap cast same
is_cast _ k e = let bad : ⊥ = cc in absurd bad

unsigned_is : (bits : ℕ) (z : ℤ) (n : ℕ) → unsigned_of bits z ≡ Some n → z ≡ pos n
unsigned_is bits (pos m) n e = by_test (nat_lt m (2 ^ bits)) refl
  where
    by_test : (b : Bool) → nat_lt m (2 ^ bits) ≡ b → pos m ≡ pos n
    by_test true small = let same : Some m ≡ Some n = rw small at e in cc
    by_test false large = let bad : None ≡ Some n = rw large at e in let worse : ⊥ = cc in absurd worse
unsigned_is bits (negsuc m) n e = let bad : ⊥ = cc in absurd bad

signed_is : (bits : ℕ) (z n : ℤ) → signed_of bits z ≡ Some n → z ≡ n
signed_is bits (pos m) n e = by_test (nat_lt m (2 ^ bits)) refl
  where
    by_test : (b : Bool) → nat_lt m (2 ^ bits) ≡ b → pos m ≡ n
    by_test true small = let same : Some (pos m) ≡ Some n = rw small at e in cc
    by_test false large = let bad : None ≡ Some n = rw large at e in let worse : ⊥ = cc in absurd worse
signed_is bits (negsuc m) n e = by_test (nat_lt m (2 ^ bits)) refl
  where
    by_test : (b : Bool) → nat_lt m (2 ^ bits) ≡ b → negsuc m ≡ n
    by_test true small = let same : Some (negsuc m) ≡ Some n = rw small at e in cc
    by_test false large = let bad : None ≡ Some n = rw large at e in let worse : ⊥ = cc in absurd worse

word_is : (asked : List ℕ) (x y : Plain) (w : List ℕ) → word_as asked x w ≡ Some y → (w ≡ asked) × (y ≡ x)
word_is asked x y w e = by_test (bytes_eq w asked) refl
  where
    by_test : (b : Bool) → bytes_eq w asked ≡ b → (w ≡ asked) × (y ≡ x)
    by_test true same = let one : Some x ≡ Some y = rw same at e in let is : y ≡ x = cc in ((bytes_eq-Decides w asked).0 same, is)
    by_test false other = let bad : None ≡ Some y = rw other at e in let worse : ⊥ = cc in absurd worse

-- the token is the value's only one
pub record IsOnly (reg : List Entity) (k : Kind) (x : Plain) (t : Token) : Type 0 where
  pub fits : Fits reg x k
  pub closed : refs x ≡ []
  pub spelled : t ∷ [] ≡ tokens_of reg x

unsigned_only : (reg : List Entity) (k : Kind) (mk : ℕ → Plain) (bits : ℕ) (t : Token) (x : Plain) → ((n : ℕ) → IsOnly reg k (mk n) (number (pos n)))
    → some_as mk (and_then (number_in t) (unsigned_of bits)) ≡ Some x → IsOnly reg k x t
unsigned_only reg k mk bits t x only e =
    let a = as_some mk (and_then (number_in t) (unsigned_of bits)) x e in
    let b = then_some (number_in t) (unsigned_of bits) a.0 a.1 in
    let is : t ≡ number (pos a.0) = is_number t b.0 b.1 ∙ ap number (unsigned_is bits b.0 a.0 b.2) in
    subst (λ y. IsOnly reg k y t) (sym a.2) (subst (λ s. IsOnly reg k (mk a.0) s) (sym is) (only a.0))

signed_only : (reg : List Entity) (k : Kind) (mk : ℤ → Plain) (bits : ℕ) (t : Token) (x : Plain) → ((n : ℤ) → IsOnly reg k (mk n) (number n))
    → some_as mk (and_then (number_in t) (signed_of bits)) ≡ Some x → IsOnly reg k x t
signed_only reg k mk bits t x only e =
    let a = as_some mk (and_then (number_in t) (signed_of bits)) x e in
    let b = then_some (number_in t) (signed_of bits) a.0 a.1 in
    let is : t ≡ number a.0 = is_number t b.0 b.1 ∙ ap number (signed_is bits b.0 a.0 b.2) in
    subst (λ y. IsOnly reg k y t) (sym a.2) (subst (λ s. IsOnly reg k (mk a.0) s) (sym is) (only a.0))

word_only : (reg : List Entity) (k : Kind) (asked : List ℕ) (y : Plain) (t : Token) (x : Plain) → IsOnly reg k y (word asked)
    → and_then (word_in t) (word_as asked y) ≡ Some x → IsOnly reg k x t
word_only reg k asked y t x only e =
    let a = then_some (word_in t) (word_as asked y) x e in
    let b = word_is asked y x a.0 a.2 in
    let is : t ≡ word asked = is_word t a.0 a.1 ∙ ap word b.0 in
    subst (λ z. IsOnly reg k z t) (sym b.1) (subst (λ s. IsOnly reg k y s) (sym is) only)

truth_only : (reg : List Entity) (t : Token) (x : Plain) → some_as v.boolean (and_then (word_in t) truth_of) ≡ Some x → IsOnly reg kd.boolean x t
unfolding Fits tokens_of refs
truth_only reg t x e =
    let a = as_some v.boolean (and_then (word_in t) truth_of) x e in
    let b = then_some (word_in t) truth_of a.0 a.1 in
    let is = truth_is b.0 a.0 b.2 (is_word t b.0 b.1) in
    subst (λ y. IsOnly reg kd.boolean y t) (sym a.2) is
  where
    falsely : (w : List ℕ) (c : Bool) (s : Token) → bytes_eq w (codes "true") ≡ false → truth_of w ≡ Some c → s ≡ word w → (b : Bool)
        → bytes_eq w (codes "false") ≡ b → IsOnly reg kd.boolean (v.boolean c) s
    falsely w c s not_true says is true same =
        let one : Some false ≡ Some c = rw (not_true, same) at says in
        let which : false ≡ c = cc in
        let spelled : s ≡ word (codes "false") = is ∙ ap word ((bytes_eq-Decides w (codes "false")).0 same) in
        subst (λ d. IsOnly reg kd.boolean (v.boolean d) s) which (subst (λ u. IsOnly reg kd.boolean (v.boolean false) u) (sym spelled) (record { fits = refl; closed = refl; spelled = refl }))
    falsely w c s not_true says is false other = let bad : None ≡ Some c = rw (not_true, other) at says in let worse : ⊥ = cc in absurd worse

    truly : (w : List ℕ) (c : Bool) (s : Token) → truth_of w ≡ Some c → s ≡ word w → (b : Bool) → bytes_eq w (codes "true") ≡ b → IsOnly reg kd.boolean (v.boolean c) s
    truly w c s says is true same =
        let one : Some true ≡ Some c = rw same at says in
        let which : true ≡ c = cc in
        let spelled : s ≡ word (codes "true") = is ∙ ap word ((bytes_eq-Decides w (codes "true")).0 same) in
        subst (λ d. IsOnly reg kd.boolean (v.boolean d) s) which (subst (λ u. IsOnly reg kd.boolean (v.boolean true) u) (sym spelled) (record { fits = refl; closed = refl; spelled = refl }))
    truly w c s says is false other = falsely w c s other says is (bytes_eq w (codes "false")) refl

    truth_is : (w : List ℕ) (c : Bool) → truth_of w ≡ Some c → t ≡ word w → IsOnly reg kd.boolean (v.boolean c) t
    truth_is w c says is = truly w c t says is (bytes_eq w (codes "true")) refl

-- the word of an item
some_name_is : (o : Option (List ℕ)) (w : List ℕ) → is_some_name o w ≡ true → o ≡ Some w
some_name_is None w e = let bad : ⊥ = cc in absurd bad
some_name_is (Some name) w e = ap Some ((bytes_eq-Decides name w).0 e)

item_is : (items : List Item) (t : Token) (n : ℤ) → item_in items t ≡ Some n → t ≡ item_token (first_item items n) n
item_is items (word w) n e =
    let a = then_some (number_named items w) (λ m. if is_some_name (first_item items m) w then Some m else None) n e in
    by_test a.0 (is_some_name (first_item items a.0) w) refl a.2
  where
    by_test : (m : ℤ) (b : Bool) → is_some_name (first_item items m) w ≡ b → (if is_some_name (first_item items m) w then Some m else None) ≡ Some n
        → word w ≡ item_token (first_item items n) n
    by_test m true so says =
        let one : Some m ≡ Some n = rw so at says in
        let which : m ≡ n = cc in
        let named_so : first_item items n ≡ Some w = subst (λ z. first_item items z ≡ Some w) which (some_name_is (first_item items m) w so) in
        sym (ap (λ o. item_token o n) named_so)
    by_test m false other says = let bad : None ≡ Some n = rw other at says in let worse : ⊥ = cc in absurd worse
item_is items (number z) n e =
    let a = then_some (signed_of 31 z) (λ m. none_of_number (first_item items m) m) n e in
    by_item a.0 (first_item items a.0) refl (signed_is 31 z a.0 a.1) a.2
  where
    by_item : (m : ℤ) (o : Option (List ℕ)) → first_item items m ≡ o → z ≡ m → none_of_number (first_item items m) m ≡ Some n → number z ≡ item_token (first_item items n) n
    by_item m None absent is says =
        let one : Some m ≡ Some n = rw absent at says in
        let which : m ≡ n = cc in
        let none_so : first_item items n ≡ None = subst (λ y. first_item items y ≡ None) which absent in
        ap number (is ∙ which) ∙ sym (ap (λ o. item_token o n) none_so)
    by_item m (Some name) found is says = let bad : None ≡ Some n = rw found at says in let worse : ⊥ = cc in absurd worse
item_is items _ n e = let bad : ⊥ = cc in absurd bad

enum_only : (reg : List Entity) (name : List ℕ) (t : Token) (x : Plain) → is_type reg (kd.enum name) ≡ true
    → some_as (v.enum name) (item_in (items_of (find_entity name reg)) t) ≡ Some x → IsOnly reg (kd.enum name) x t
unfolding Fits tokens_of refs
enum_only reg name t x type e =
    let a = as_some (v.enum name) (item_in (items_of (find_entity name reg)) t) x e in
    let is = item_is (items_of (find_entity name reg)) t a.0 a.1 in
    let one : IsOnly reg (kd.enum name) (v.enum name a.0) t = record { fits = (refl, type); closed = refl; spelled = ap (λ s. s ∷ []) is } in
    subst (λ y. IsOnly reg (kd.enum name) y t) (sym a.2) one

string_only : (reg : List Entity) (t : Token) (x : Plain) → some_as v.str (string_in t) ≡ Some x → IsOnly reg kd.str x t
unfolding Fits tokens_of refs
string_only reg t x e =
    let a = as_some v.str (string_in t) x e in
    let one : IsOnly reg kd.str (v.str a.0) t = record { fits = refl; closed = refl; spelled = ap (λ s. s ∷ []) (is_string t a.0 a.1) } in
    subst (λ y. IsOnly reg kd.str y t) (sym a.2) one

-- every type that stands in a token is one of the registry
abbrev pub HasType : List Entity → Token → Type 0
HasType reg (named k) = IsTrue (is_type reg k)
HasType reg (cast k) = (k ≢ kd.any) × IsTrue (is_type reg k)
HasType reg _ = Unit

named_only : (reg : List Entity) (t : Token) (x : Plain) → HasType reg t → some_as v.kind (named_in t) ≡ Some x → IsOnly reg kd.kind x t
unfolding Fits tokens_of refs
named_only reg t x typed e =
    let a = as_some v.kind (named_in t) x e in
    let is = is_named t a.0 a.1 in
    let type : IsTrue (is_type reg a.0) = subst (HasType reg) is typed in
    let one : IsOnly reg kd.kind (v.kind a.0) t = record { fits = (refl, type); closed = refl; spelled = ap (λ s. s ∷ []) is } in
    subst (λ y. IsOnly reg kd.kind y t) (sym a.2) one

single_only : (reg : List Entity) (k : Kind) (t : Token) (x : Plain) → is_type reg k ≡ true → HasType reg t → single reg k t ≡ Some x → IsOnly reg k x t
unfolding Fits tokens_of refs
single_only reg kd.void t x type typed e = word_only reg kd.void (codes "void") v.void t x (record { fits = refl; closed = refl; spelled = refl }) e
single_only reg kd.char t x type typed e = unsigned_only reg kd.char v.char 16 t x (λ n. record { fits = refl; closed = refl; spelled = refl }) e
single_only reg kd.boolean t x type typed e = truth_only reg t x e
single_only reg kd.byte t x type typed e = signed_only reg kd.byte v.byte 7 t x (λ n. record { fits = refl; closed = refl; spelled = refl }) e
single_only reg kd.short t x type typed e = signed_only reg kd.short v.short 15 t x (λ n. record { fits = refl; closed = refl; spelled = refl }) e
single_only reg kd.unsigned_short t x type typed e = unsigned_only reg kd.unsigned_short v.unsigned_short 16 t x (λ n. record { fits = refl; closed = refl; spelled = refl }) e
single_only reg kd.long t x type typed e = signed_only reg kd.long v.long 31 t x (λ n. record { fits = refl; closed = refl; spelled = refl }) e
single_only reg kd.unsigned_long t x type typed e = unsigned_only reg kd.unsigned_long v.unsigned_long 32 t x (λ n. record { fits = refl; closed = refl; spelled = refl }) e
single_only reg kd.hyper t x type typed e = signed_only reg kd.hyper v.hyper 63 t x (λ n. record { fits = refl; closed = refl; spelled = refl }) e
single_only reg kd.unsigned_hyper t x type typed e = unsigned_only reg kd.unsigned_hyper v.unsigned_hyper 64 t x (λ n. record { fits = refl; closed = refl; spelled = refl }) e
single_only reg kd.str t x type typed e = string_only reg t x e
single_only reg kd.kind t x type typed e = named_only reg t x typed e
single_only reg (kd.enum name) t x type typed e = enum_only reg name t x type e
single_only reg (kd.interface name) t x type typed e = word_only reg (kd.interface name) (codes "null") (v.ref null) t x (record { fits = type; closed = refl; spelled = refl }) e
single_only reg _ t x type typed e = let bad : ⊥ = cc in absurd bad

-- two readings that are one gave the same
ok_parts : {A B : Type 0} (a c : A) (b d : B) → ◌≡◌ {A = Result (A × B) Fault} (Ok (a, b)) (Ok (c, d)) → (a ≡ c) × (b ≡ d)
ok_parts {A} {B} a c b d e = let pair : ◌≡◌ {A = A × B} (a, b) (c, d) = cc in (ap (λ (y : A × B). y.0) pair, ap (λ (y : A × B). y.1) pair)

not_ok : {Y : Type 0} (f : Fault) (y : Y) → Err f ≡ Ok y → ⊥
not_ok f y e = cc

-- ---- the elements of a sequence

abbrev pub Typed : List Entity → List Placed → Type 0
Typed reg [] = Unit
Typed reg (p ∷ ps) = HasType reg p.token × Typed reg ps

-- the tokens of elements, with a comma between any two
abbrev pub listed : {X : Type 0} → (X → List Token) → Bool → List X → List Token
listed E is_first [] = []
listed E is_first (x ∷ xs) = comma_tokens is_first ++ (E x ++ listed E false xs)

pub listed_plains : (reg : List Entity) (is_first : Bool) (xs : List Plain) → tokens_in reg is_first (plains xs) ≡ listed (tokens_of reg) is_first xs
unfolding tokens_in
listed_plains reg is_first [] = refl
listed_plains reg is_first (x ∷ xs) = ap (λ t. comma_tokens is_first ++ (tokens_of reg x ++ t)) (listed_plains reg false xs)

pub listed_bytes : (is_first : Bool) (bs : List ℕ) → byte_tokens is_first bs ≡ listed (λ b. number (cast_signed w8 b) ∷ []) is_first bs
unfolding byte_tokens
listed_bytes is_first [] = refl
listed_bytes is_first (b ∷ bs) = ap (λ t. comma_tokens is_first ++ (number (cast_signed w8 b) ∷ t)) (listed_bytes false bs)

abbrev pub Each : {X : Type 0} → (X → Type 0) → List X → Type 0
Each P [] = Unit
Each P (x ∷ xs) = P x × Each P xs

-- a token that is a mark is that mark
closes_square_is : (t : Token) → closes_square t ≡ true → t ≡ closes square
closes_square_is (closes square) e = refl
closes_square_is _ e = let bad : ⊥ = cc in absurd bad

closes_curly_is : (t : Token) → closes_curly t ≡ true → t ≡ closes curly
closes_curly_is (closes curly) e = refl
closes_curly_is _ e = let bad : ⊥ = cc in absurd bad

opens_square_is : (t : Token) → opens_square t ≡ true → t ≡ opens square
opens_square_is (opens square) e = refl
opens_square_is _ e = let bad : ⊥ = cc in absurd bad

opens_curly_is : (t : Token) → opens_curly t ≡ true → t ≡ opens curly
opens_curly_is (opens curly) e = refl
opens_curly_is _ e = let bad : ⊥ = cc in absurd bad

comma_is : (t : Token) → is_comma t ≡ true → t ≡ comma
comma_is comma e = refl
comma_is _ e = let bad : ⊥ = cc in absurd bad

-- what is behind a mark that was expected
expected : (left : ℕ) (test : Token → Bool) (ps rest : List Placed) → expect left test ps ≡ Ok rest → (p : Placed) × (ps ≡ p ∷ rest) × (test p.token ≡ true)
expected left test [] rest e = let bad : ⊥ = cc in absurd bad
expected left test (p ∷ ps) rest e = by_test (test p.token) refl
  where
    by_test : (b : Bool) → test p.token ≡ b → (q : Placed) × (p ∷ ps ≡ q ∷ rest) × (test q.token ≡ true)
    by_test true passes = let same : Ok ps ≡ Ok rest = rw passes at e in let is : ps ≡ rest = cc in (p, ap (λ qs. p ∷ qs) is, passes)
    by_test false fails = absurd (not_ok (misfit left) rest (rw fails at e))

module _ {X : Type 0} (reg : List Entity) (P : X → Type 0) (E : X → List Token) where
  -- an element is read
  pub record IsElement (x : X) (ps rest : List Placed) : Type 0 where
    pub good : P x
    pub spelled : bare ps ≡ E x ++ bare rest
    pub typed : Typed reg rest

  pub record AreElements (xs : List X) (ps rest : List Placed) : Type 0 where
    pub good : Each P xs
    pub spelled : bare ps ≡ listed E true xs ++ closes square ∷ bare rest
    pub onward : comma ∷ bare ps ≡ listed E false xs ++ closes square ∷ bare rest
    pub typed : Typed reg rest

  abbrev pub ReadsElements : Reads X → Type 0
  ReadsElements read = (ps rest : List Placed) (x : X) → Typed reg ps → read ps ≡ Ok (x, rest) → IsElement x ps rest

  -- the last element, before the bracket
  last_element : (x : X) (xs : List X) (ps qs rest rs : List Placed) (p : Placed) → IsElement x ps (p ∷ qs) → p.token ≡ closes square → x ∷ [] ≡ xs
      → qs ≡ rest → AreElements xs ps rest
  last_element x xs ps qs rest rs p is closes_it one two =
      let spelled : bare ps ≡ (E x ++ []) ++ closes square ∷ bare qs = is.spelled ∙ ap (λ t. E x ++ t ∷ bare qs) closes_it ∙ ap (λ y. y ++ closes square ∷ bare qs) (sym (append-nil (E x))) in
      let all : AreElements (x ∷ []) ps qs = record { good = (is.good, tt); spelled = spelled; onward = ap (λ t. comma ∷ t) spelled; typed = is.typed.1 } in
      subst (λ r. AreElements xs ps r) two (subst (λ ys. AreElements ys ps qs) one all)

  -- an element and those behind its comma
  more_elements : (x : X) (ys xs : List X) (ps qs r rest : List Placed) (p : Placed) → IsElement x ps (p ∷ qs) → p.token ≡ comma → AreElements ys qs r
      → x ∷ ys ≡ xs → r ≡ rest → AreElements xs ps rest
  more_elements x ys xs ps qs r rest p is comma_it are one two =
      let spelled : bare ps ≡ (E x ++ listed E false ys) ++ closes square ∷ bare r = is.spelled ∙ ap (λ t. E x ++ t ∷ bare qs) comma_it
      ∙ ap (λ t. E x ++ t) are.onward ∙ sym (append_assoc (E x) (listed E false ys) (closes square ∷ bare r)) in
      let all : AreElements (x ∷ ys) ps r = record { good = (is.good, are.good); spelled = spelled; onward = ap (λ t. comma ∷ t) spelled; typed = are.typed } in
      subst (λ s. AreElements xs ps s) two (subst (λ zs. AreElements zs ps r) one all)

  behind_sound : (left : ℕ) (x : X) (xs : List X) (ps qs rest : List Placed) (more_read : Reads (List X))
      → ((rs r : List Placed) (ys : List X) → Typed reg rs → more_read rs ≡ Ok (ys, r) → AreElements ys rs r) → IsElement x ps qs
      → behind_element left x qs more_read ≡ Ok (xs, rest) → AreElements xs ps rest
  behind_sound left x xs ps [] rest more_read inner is e = let bad : ⊥ = cc in absurd bad
  behind_sound left x xs ps (p ∷ qs) rest more_read inner is e = by_close (closes_square p.token) refl
    where
      by_more : (m : Result (List X × List Placed) Fault) → more_read qs ≡ m → is_comma p.token ≡ true → with_first x m ≡ Ok (xs, rest) → AreElements xs ps rest
      by_more (Ok y) read goes says = more_elements x y.0 xs ps qs y.1 rest p is (comma_is p.token goes) (inner qs y.1 y.0 is.typed.1 read)
          (ok_parts (x ∷ y.0) xs y.1 rest says).0 (ok_parts (x ∷ y.0) xs y.1 rest says).1
      by_more (Err f) read goes says = let bad : ⊥ = cc in absurd bad

      by_comma : (b : Bool) → is_comma p.token ≡ b → closes_square p.token ≡ false → AreElements xs ps rest
      by_comma true goes open_still = by_more (more_read qs) refl goes (rw (open_still, goes) at e)
      by_comma false lost open_still = absurd (not_ok (misfit left) (xs, rest) (rw (open_still, lost) at e))

      by_close : (b : Bool) → closes_square p.token ≡ b → AreElements xs ps rest
      by_close true ends = let parts = ok_parts (x ∷ []) xs qs rest (rw ends at e) in last_element x xs ps qs rest qs p is (closes_square_is p.token ends) parts.0 parts.1
      by_close false open_still = by_comma (is_comma p.token) refl open_still

  elements_sound : (n left : ℕ) (read : Reads X) (ps rest : List Placed) (xs : List X) → ReadsElements read → Typed reg ps
      → elements_on n left read ps ≡ Ok (xs, rest) → AreElements xs ps rest
  unfolding elements_on
  elements_sound zero left read ps rest xs reads typed e = let bad : ⊥ = cc in absurd bad
  elements_sound (suc n) left read ps rest xs reads typed e = by_read (read ps) refl (λ rs r ys t f. elements_sound n left read rs r ys reads t f)
    where
      by_read : (m : Result (X × List Placed) Fault) → read ps ≡ m
          → ((rs r : List Placed) (ys : List X) → Typed reg rs → elements_on n left read rs ≡ Ok (ys, r) → AreElements ys rs r)
          → AreElements xs ps rest
      by_read (Ok y) one inner = behind_sound left y.0 xs ps y.1 rest (elements_on n left read) inner (reads ps y.1 y.0 typed one) (rw one at e)
      by_read (Err f) one inner = absurd (not_ok f (xs, rest) (rw one at e))

  -- the elements with their brackets
  pub record IsSequence (xs : List X) (ps rest : List Placed) : Type 0 where
    pub good : Each P xs
    pub spelled : bare ps ≡ opens square ∷ (listed E true xs ++ closes square ∷ bare rest)
    pub typed : Typed reg rest

  pub sequence_sound : (read : Reads X) (ps rest : List Placed) (xs : List X) → ReadsElements read → Typed reg ps → sequence_of read ps ≡ Ok (xs, rest) → IsSequence xs ps rest
  sequence_sound read ps rest xs reads typed e = by_open (expect (left_at ps) opens_square ps) refl
    where
      by_first : (p : Placed) (qs : List Placed) → ps ≡ p ∷ qs → p.token ≡ opens square → Typed reg qs → (rs : List Placed) → rs ≡ qs
          → elements_in (left_at ps) read rs ≡ Ok (xs, rest) → IsSequence xs ps rest
      by_first p qs is opened typed_on [] same says = let bad : ⊥ = cc in absurd bad
      by_first p qs is opened typed_on (q ∷ rs) same says = by_close (closes_square q.token) refl
        where
          front : bare ps ≡ opens square ∷ bare (q ∷ rs)
          front = ap bare is ∙ ap (λ t. t ∷ bare qs) opened ∙ ap (λ zs. opens square ∷ bare zs) (sym same)

          by_close : (b : Bool) → closes_square q.token ≡ b → IsSequence xs ps rest
          by_close true ends =
              let parts = ok_parts [] xs rs rest (rw ends at says) in
              let one = parts.0 in
              let two = parts.1 in
              let typed_rest : Typed reg (q ∷ rs) = subst (Typed reg) (sym same) typed_on in
              let all : IsSequence [] ps rs = record { good = tt; spelled = front ∙ ap (λ t. opens square ∷ (t ∷ bare rs)) (closes_square_is q.token ends); typed = typed_rest.1 } in
              subst (λ r. IsSequence xs ps r) two (subst (λ ys. IsSequence ys ps rs) one all)
          by_close false some =
              let typed_rest : Typed reg (q ∷ rs) = subst (Typed reg) (sym same) typed_on in
              let are = elements_sound (length (q ∷ rs)) (left_at ps) read (q ∷ rs) rest xs reads typed_rest (rw some at says) in
              record { good = are.good; spelled = front ∙ ap (λ t. opens square ∷ t) are.spelled; typed = are.typed }

      by_open : (m : Result (List Placed) Fault) → expect (left_at ps) opens_square ps ≡ m → IsSequence xs ps rest
      by_open (Ok qs) opened =
          let at = expected (left_at ps) opens_square ps qs opened in
          let typed_all : Typed reg (at.0 ∷ qs) = subst (Typed reg) at.1 typed in
          by_first at.0 qs at.1 (opens_square_is at.0.token at.2) typed_all.1 qs refl (rw opened at e)
      by_open (Err f) refused = absurd (not_ok f (xs, rest) (rw refused at e))

-- ---- structs and exceptions

-- the members fit the types at their places
pub record AreMembers (reg : List Entity) (is_first : Bool) (ks : List Kind) (xs : List Plain) (ps rest : List Placed) : Type 0 where
  pub fits : FitEach reg (plains xs) ks
  pub closed : refs_in (plains xs) ≡ []
  pub spelled : bare ps ≡ tokens_in reg is_first (plains xs) ++ closes curly ∷ bare rest
  pub typed : Typed reg rest

-- a value is read, and what is behind it is typed
pub record IsTypedRead (reg : List Entity) (k : Kind) (x : Plain) (ps rest : List Placed) : Type 0 where
  pub fits : Fits reg x k
  pub closed : refs x ≡ []
  pub spelled : bare ps ≡ tokens_of reg x ++ bare rest
  pub typed : Typed reg rest

abbrev pub ReadsKinds : List Entity → (Kind → Reads Plain) → Type 0
ReadsKinds reg read = (k : Kind) (ps rest : List Placed) (x : Plain) → Typed reg ps → read k ps ≡ Ok (x, rest) → IsTypedRead reg k x ps rest

-- a comma, where one was expected
comma_sound : (reg : List Entity) (is_first : Bool) (left : ℕ) (ps qs : List Placed) → Typed reg ps → comma_at is_first left ps ≡ Ok qs
    → (bare ps ≡ comma_tokens is_first ++ bare qs) × Typed reg qs
comma_sound reg true left ps qs typed e = let is : ps ≡ qs = cc in (ap bare is, subst (Typed reg) is typed)
comma_sound reg false left ps qs typed e =
    let at = expected left is_comma ps qs e in
    let typed_all : Typed reg (at.0 ∷ qs) = subst (Typed reg) at.1 typed in
    (ap bare at.1 ∙ ap (λ t. t ∷ bare qs) (comma_is at.0.token at.2), typed_all.1)

no_members : (reg : List Entity) (left : ℕ) (is_first : Bool) (ps rest : List Placed) (xs : List Plain) → Typed reg ps
    → on_ok {B = List Plain × List Placed} (expect left closes_curly ps) (λ qs. Ok ([], qs)) ≡ Ok (xs, rest) → AreMembers reg is_first [] xs ps rest
unfolding FitEach refs_in tokens_in
no_members reg left is_first ps rest xs typed e =
    let end = ok_step (expect left closes_curly ps) (λ qs. Ok ([], qs)) (xs, rest) e in
    let at = expected left closes_curly ps end.0 end.1 in
    let typed_all : Typed reg (at.0 ∷ end.0) = subst (Typed reg) at.1 typed in
    ok_holds (λ ys r. AreMembers reg is_first [] ys ps r) [] xs end.0 rest end.2
    (record { fits = tt; closed = refl; spelled = ap bare at.1 ∙ ap (λ t. t ∷ bare end.0) (closes_curly_is at.0.token at.2); typed = typed_all.1 })

-- one member more
one_member : (reg : List Entity) (is_first : Bool) (k : Kind) (ks : List Kind) (x : Plain) (ys : List Plain) (ps qs rs rest : List Placed)
    → bare ps ≡ comma_tokens is_first ++ bare qs → IsTypedRead reg k x qs rs → AreMembers reg false ks ys rs rest
    → AreMembers reg is_first (k ∷ ks) (x ∷ ys) ps rest
unfolding FitEach refs_in tokens_in
one_member reg is_first k ks x ys ps qs rs rest comma_it is are = record {
  fits = (is.fits, are.fits);
  closed = ap (λ r. r ++ refs_in (plains ys)) is.closed ∙ are.closed;
  spelled = comma_it ∙ ap (λ t. comma_tokens is_first ++ t)
      (is.spelled ∙ ap (λ t. tokens_of reg x ++ t) are.spelled
      ∙ sym (append_assoc (tokens_of reg x) (tokens_in reg false (plains ys)) (closes curly ∷ bare rest)))
      ∙ sym (append_assoc (comma_tokens is_first) (tokens_of reg x ++ tokens_in reg false (plains ys)) (closes curly ∷ bare rest));
  typed = are.typed;
}

members_sound : (reg : List Entity) (read : Kind → Reads Plain) (left : ℕ) (is_first : Bool) (ks : List Kind) (ps rest : List Placed) (xs : List Plain)
    → ReadsKinds reg read → Typed reg ps → members_on read left is_first ks ps ≡ Ok (xs, rest)
    → AreMembers reg is_first ks xs ps rest
unfolding members_on
members_sound reg read left is_first [] ps rest xs reads typed e = no_members reg left is_first ps rest xs typed e
members_sound reg read left is_first (k ∷ ks) ps rest xs reads typed e =
    let first = ok_step (comma_at is_first left ps) (λ qs. on_ok (read k qs) (λ y. with_first y.0 (members_on read left false ks y.1))) (xs, rest) e in
    let one = ok_step (read k first.0) (λ y. with_first y.0 (members_on read left false ks y.1)) (xs, rest) first.2 in
    let others = first_step one.0.0 (members_on read left false ks one.0.1) xs rest one.2 in
    let comma_it = comma_sound reg is_first left ps first.0 typed first.1 in
    let is = reads k first.0 one.0.1 one.0.0 comma_it.1 one.1 in
    let are = members_sound reg read left false ks one.0.1 others.0.1 others.0.0 reads is.typed others.1 in
    ok_holds (λ ys r. AreMembers reg is_first (k ∷ ks) ys ps r) (one.0.0 ∷ others.0.0) xs others.0.1 rest others.2
    (one_member reg is_first k ks one.0.0 others.0.0 ps first.0 one.0.1 others.0.1 comma_it.0 is are)

-- the members with their brackets
pub record IsTuple (reg : List Entity) (ks : List Kind) (xs : List Plain) (ps rest : List Placed) : Type 0 where
  pub fits : FitEach reg (plains xs) ks
  pub closed : refs_in (plains xs) ≡ []
  pub spelled : bare ps ≡ opens curly ∷ (tokens_in reg true (plains xs) ++ closes curly ∷ bare rest)
  pub typed : Typed reg rest

tuple_sound : (reg : List Entity) (read : Kind → Reads Plain) (ks : List Kind) (ps rest : List Placed) (xs : List Plain) → ReadsKinds reg read
    → Typed reg ps → tuple_of read ks ps ≡ Ok (xs, rest) → IsTuple reg ks xs ps rest
tuple_sound reg read ks ps rest xs reads typed e =
    let opened = ok_step (expect (left_at ps) opens_curly ps) (members_on read (left_at ps) true ks) (xs, rest) e in
    let at = expected (left_at ps) opens_curly ps opened.0 opened.1 in
    let typed_all : Typed reg (at.0 ∷ opened.0) = subst (Typed reg) at.1 typed in
    let are = members_sound reg read (left_at ps) true ks opened.0 rest xs reads typed_all.1 opened.2 in
    record { fits = are.fits; closed = are.closed; spelled = ap bare at.1 ∙ ap (λ t. t ∷ bare opened.0) (opens_curly_is at.0.token at.2) ∙ ap (λ t. opens curly ∷ t) are.spelled; typed = are.typed }

-- ---- an any

is_void_is : (k : Kind) → is_void k ≡ true → k ≡ kd.void
is_void_is kd.void e = refl
is_void_is _ e = let bad : ⊥ = cc in absurd bad

-- where the type is not void, the value's tokens stand behind it
pub any_tokens : (reg : List Entity) (k : Kind) (x : Plain) → Fits reg x k → is_void k ≡ false → tokens_of reg (v.any k x) ≡ cast k ∷ tokens_of reg x
unfolding Fits tokens_of
any_tokens reg k v.void fits other = let is : is_void k ≡ true = ap is_void fits in absurd (both_ways (is_void k) other is)
any_tokens reg k _ fits other = refl

any_sound : (reg : List Entity) (read : Kind → Reads Plain) (ps rest : List Placed) (x : Plain) → ReadsKinds reg read → Typed reg ps
    → any_of read ps ≡ Ok (x, rest) → IsTypedRead reg kd.any x ps rest
unfolding Fits tokens_of refs
any_sound reg read ps rest x reads typed e = by_void (is_void k) refl
  where
    opened : (y : Kind × List Placed) × (only_token cast_in ps ≡ Ok y) × (held_by read y.0 y.1 ≡ Ok (x, rest))
    opened = ok_step (only_token cast_in ps) (λ y. held_by read y.0 y.1) (x, rest) e

    k : Kind
    k = opened.0.0

    qs : List Placed
    qs = opened.0.1

    at : (p : Placed) × (ps ≡ p ∷ qs) × (cast_in p.token ≡ Some k)
    at = only_step cast_in ps qs k opened.1

    token : at.0.token ≡ cast k
    token = is_cast at.0.token k at.2

    typed_all : Typed reg (at.0 ∷ qs)
    typed_all = subst (Typed reg) at.1 typed

    front : bare ps ≡ cast k ∷ bare qs
    front = ap bare at.1 ∙ ap (λ t. t ∷ bare qs) token

    by_void : (b : Bool) → is_void k ≡ b → IsTypedRead reg kd.any x ps rest
    by_void true is_it =
        let is : k ≡ kd.void = is_void_is k is_it in
        let has : HasType reg (cast kd.void) = subst (HasType reg) (token ∙ ap cast is) typed_all.0 in
        ok_holds (λ z r. IsTypedRead reg kd.any z ps r) (v.any kd.void v.void) x qs rest (rw is_it at opened.2)
        (record { fits = (refl, has.0, has.1, refl); closed = refl; spelled = front ∙ ap (λ j. cast j ∷ bare qs) is; typed = typed_all.1 })
    by_void false other =
        let one = ok_step {B = Plain × List Placed} (read k qs) (λ y. Ok (v.any k y.0, y.1)) (x, rest) (rw other at opened.2) in
        let is = reads k qs one.0.1 one.0.0 typed_all.1 one.1 in
        let has : HasType reg (cast k) = subst (HasType reg) token typed_all.0 in
        ok_holds (λ z r. IsTypedRead reg kd.any z ps r) (v.any k one.0.0) x one.0.1 rest one.2
        (record {
          fits = (refl, has.0, has.1, is.fits);
          closed = is.closed;
          spelled = front ∙ ap (λ t. cast k ∷ t) is.spelled ∙ ap (λ t. t ++ bare one.0.1) (sym (any_tokens reg k one.0.0 is.fits other));
          typed = is.typed;
        })

-- ---- each type

-- a value of one token
only_sound : (reg : List Entity) (k : Kind) (ps rest : List Placed) (x : Plain) → is_type reg k ≡ true → Typed reg ps
    → only_token (single reg k) ps ≡ Ok (x, rest) → IsTypedRead reg k x ps rest
only_sound reg k ps rest x type typed e =
    let at = only_step (single reg k) ps rest x e in
    let typed_all : Typed reg (at.0 ∷ rest) = subst (Typed reg) at.1 typed in
    let is = single_only reg k at.0.token x type typed_all.0 at.2 in
    record { fits = is.fits; closed = is.closed; spelled = ap bare at.1 ∙ ap (λ t. t ++ bare rest) is.spelled; typed = typed_all.1 }

-- a byte is its bits, written as a signed number
abbrev pub byte_token : ℕ → List Token
byte_token b = number (cast_signed w8 b) ∷ []

byte_back : (z n : ℤ) → signed_of 7 z ≡ Some n → cast_signed w8 (cast_unsigned w8 n) ≡ n
byte_back z n e = to_z-of_z w8 n (record { sfits = small z n e })
  where
    small : (z n : ℤ) → signed_of 7 z ≡ Some n → mag n < 2 ^ 7
    small (pos m) n e = by_test (nat_lt m (2 ^ 7)) refl
      where
        by_test : (b : Bool) → nat_lt m (2 ^ 7) ≡ b → mag n < 2 ^ 7
        by_test true few = let same : Some (pos m) ≡ Some n = rw few at e in let is : pos m ≡ n = cc in subst (λ y. mag y < 2 ^ 7) is (ltb-true m (2 ^ 7) few)
        by_test false many = let bad : None ≡ Some n = rw many at e in let worse : ⊥ = cc in absurd worse
    small (negsuc m) n e = by_test (nat_lt m (2 ^ 7)) refl
      where
        by_test : (b : Bool) → nat_lt m (2 ^ 7) ≡ b → mag n < 2 ^ 7
        by_test true few = let same : Some (negsuc m) ≡ Some n = rw few at e in let is : negsuc m ≡ n = cc in subst (λ y. mag y < 2 ^ 7) is (ltb-true m (2 ^ 7) few)
        by_test false many = let bad : None ≡ Some n = rw many at e in let worse : ⊥ = cc in absurd worse

map_some : (f : ℤ → ℕ) (o : Option ℤ) (y : ℕ) → map_option f o ≡ Some y → (x : ℤ) × (o ≡ Some x) × (f x ≡ y)
map_some f None y e = let bad : ⊥ = cc in absurd bad
map_some f (Some x) y e = let is : f x ≡ y = cc in (x, refl, is)

byte_is : (t : Token) (b : ℕ) → byte_in t ≡ Some b → t ∷ [] ≡ byte_token b
byte_is t b e =
    let a = map_some bits_of (and_then (number_in t) (signed_of 7)) b e in
    let c = then_some (number_in t) (signed_of 7) a.0 a.1 in
    let is : t ≡ number a.0 = is_number t c.0 c.1 ∙ ap number (signed_is 7 c.0 a.0 c.2) in
    ap (λ s. s ∷ []) (is ∙ ap number (sym (byte_back c.0 a.0 c.2)) ∙ ap (λ n. number (cast_signed w8 n)) a.2)

abbrev AnyByte : ℕ → Type 0
AnyByte b = Unit

bytes_read : (reg : List Entity) → ReadsElements reg AnyByte byte_token (only_token byte_in)
bytes_read reg ps rest b typed e =
    let at = only_step byte_in ps rest b e in
    let typed_all : Typed reg (at.0 ∷ rest) = subst (Typed reg) at.1 typed in
    record { good = tt; spelled = ap bare at.1 ∙ ap (λ t. t ++ bare rest) (byte_is at.0.token b at.2); typed = typed_all.1 }

-- an element of a sequence of other values
abbrev FitsWell : List Entity → Kind → Plain → Type 0
FitsWell reg k x = Fits reg x k × (refs x ≡ [])

values_read : (reg : List Entity) (read : Kind → Reads Plain) (k : Kind) → ReadsKinds reg read → ReadsElements reg (FitsWell reg k) (tokens_of reg) (read k)
values_read reg read k reads ps rest x typed e = let is = reads k ps rest x typed e in record { good = (is.fits, is.closed); spelled = is.spelled; typed = is.typed }

all_fit : (reg : List Entity) (k : Kind) (xs : List Plain) → Each (FitsWell reg k) xs → FitAll reg (plains xs) k × (refs_in (plains xs) ≡ [])
unfolding FitAll refs_in
all_fit reg k [] each = (tt, refl)
all_fit reg k (x ∷ xs) each = let others = all_fit reg k xs each.1 in ((each.0.0, others.0), ap (λ r. r ++ refs_in (plains xs)) each.0.1 ∙ others.1)

bytes_sound : (reg : List Entity) (ps rest : List Placed) (x : Plain) → Typed reg ps
    → on_ok {B = Plain × List Placed} (sequence_of (only_token byte_in) ps) (λ y. Ok (v.bytes y.0, y.1)) ≡ Ok (x, rest)
    → IsTypedRead reg (kd.sequence kd.byte) x ps rest
unfolding Fits tokens_of refs
bytes_sound reg ps rest x typed e =
    let all = ok_step (sequence_of (only_token byte_in) ps) (λ y. Ok (v.bytes y.0, y.1)) (x, rest) e in
    let are = sequence_sound reg AnyByte byte_token (only_token byte_in) ps all.0.1 all.0.0 (bytes_read reg) typed all.1 in
    let spelled : bare ps ≡ tokens_of reg (v.bytes all.0.0) ++ bare all.0.1 =
    are.spelled ∙ ap (λ t. opens square ∷ (t ++ closes square ∷ bare all.0.1)) (sym (listed_bytes true all.0.0))
    ∙ ap (λ t. opens square ∷ t) (sym (append_assoc (byte_tokens true all.0.0) (closes square ∷ []) (bare all.0.1))) in
    ok_holds (λ z r. IsTypedRead reg (kd.sequence kd.byte) z ps r) (v.bytes all.0.0) x all.0.1 rest all.2 (record { fits = refl; closed = refl; spelled = spelled; typed = are.typed })

list_sound : (reg : List Entity) (read : Kind → Reads Plain) (k : Kind) (ps rest : List Placed) (x : Plain) → k ≢ kd.byte
    → is_type reg (kd.sequence k) ≡ true → ReadsKinds reg read → Typed reg ps
    → on_ok {B = Plain × List Placed} (sequence_of (read k) ps) (λ y. Ok (v.list k (plains y.0), y.1)) ≡ Ok (x, rest) → IsTypedRead reg (kd.sequence k) x ps rest
unfolding Fits tokens_of refs
list_sound reg read k ps rest x other type reads typed e =
    let all = ok_step (sequence_of (read k) ps) (λ y. Ok (v.list k (plains y.0), y.1)) (x, rest) e in
    let are = sequence_sound reg (FitsWell reg k) (tokens_of reg) (read k) ps all.0.1 all.0.0 (values_read reg read k reads) typed all.1 in
    let good = all_fit reg k all.0.0 are.good in
    let spelled : bare ps ≡ tokens_of reg (v.list k (plains all.0.0)) ++ bare all.0.1 =
    are.spelled ∙ ap (λ t. opens square ∷ (t ++ closes square ∷ bare all.0.1)) (sym (listed_plains reg true all.0.0))
    ∙ ap (λ t. opens square ∷ t) (sym (append_assoc (tokens_in reg true (plains all.0.0)) (closes square ∷ []) (bare all.0.1))) in
    ok_holds (λ z r. IsTypedRead reg (kd.sequence k) z ps r) (v.list k (plains all.0.0)) x all.0.1 rest all.2
    (record { fits = (refl, other, type, good.0); closed = good.1; spelled = spelled; typed = are.typed })

struct_sound : (reg : List Entity) (read : Kind → Reads Plain) (k : Kind) (name : List ℕ) (ps rest : List Placed) (x : Plain) → IsTupleKind name k
    → is_type reg k ≡ true → ReadsKinds reg read → Typed reg ps
    → on_ok {B = Plain × List Placed} (tuple_of read (member_kinds reg name) ps) (λ y. Ok (v.tuple name (plains y.0), y.1)) ≡ Ok (x, rest) → IsTypedRead reg k x ps rest
unfolding Fits tokens_of refs
struct_sound reg read k name ps rest x kind_it type reads typed e =
    let all = ok_step (tuple_of read (member_kinds reg name) ps) (λ y. Ok (v.tuple name (plains y.0), y.1)) (x, rest) e in
    let are = tuple_sound reg read (member_kinds reg name) ps all.0.1 all.0.0 reads typed all.1 in
    let spelled : bare ps ≡ tokens_of reg (v.tuple name (plains all.0.0)) ++ bare all.0.1 =
    are.spelled ∙ ap (λ t. opens curly ∷ t) (sym (append_assoc (tokens_in reg true (plains all.0.0)) (closes curly ∷ []) (bare all.0.1))) in
    ok_holds (λ z r. IsTypedRead reg k z ps r) (v.tuple name (plains all.0.0)) x all.0.1 rest all.2
    (record { fits = (kind_it, type, are.fits); closed = are.closed; spelled = spelled; typed = are.typed })

sequence_step : (reg : List Entity) (read : Kind → Reads Plain) (k : Kind) (ps rest : List Placed) (x : Plain) → is_type reg (kd.sequence k) ≡ true
    → ReadsKinds reg read → Typed reg ps → value_step reg read (kd.sequence k) ps ≡ Ok (x, rest)
    → IsTypedRead reg (kd.sequence k) x ps rest
unfolding value_step
sequence_step reg read kd.byte ps rest x type reads typed e = bytes_sound reg ps rest x typed e
sequence_step reg read k ps rest x type reads typed e = list_sound reg read k ps rest x (λ same. let bad : ⊥ = cc in bad) type reads typed e

step_sound : (reg : List Entity) (read : Kind → Reads Plain) (k : Kind) (ps rest : List Placed) (x : Plain) → is_type reg k ≡ true
    → ReadsKinds reg read → Typed reg ps → value_step reg read k ps ≡ Ok (x, rest) → IsTypedRead reg k x ps rest
unfolding value_step
step_sound reg read kd.any ps rest x type reads typed e = any_sound reg read ps rest x reads typed e
step_sound reg read (kd.sequence k) ps rest x type reads typed e = sequence_step reg read k ps rest x type reads typed e
step_sound reg read (kd.struct name) ps rest x type reads typed e = struct_sound reg read (kd.struct name) name ps rest x (inl refl) type reads typed e
step_sound reg read (kd.exception name) ps rest x type reads typed e = struct_sound reg read (kd.exception name) name ps rest x (inr refl) type reads typed e
step_sound reg read k ps rest x type reads typed e = only_sound reg k ps rest x type typed e

-- what is read fits, has no references, and its tokens are those in front
pub within_sound : (levels : ℕ) (reg : List Entity) → ReadsKinds reg (value_within levels reg)
unfolding value_within
within_sound zero reg k ps rest x typed e = absurd (not_ok deep (x, rest) e)
within_sound (suc levels) reg k ps rest x typed e = by_type (is_type reg k) refl (within_sound levels reg)
  where
    by_type : (b : Bool) → is_type reg k ≡ b → ReadsKinds reg (value_within levels reg) → IsTypedRead reg k x ps rest
    by_type true type reads = step_sound reg (value_within levels reg) k ps rest x type reads typed (rw type at e)
    by_type false other reads = absurd (not_ok (misfit (left_at ps)) (x, rest) (rw other at e))
