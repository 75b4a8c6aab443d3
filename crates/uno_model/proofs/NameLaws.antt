-- In a sound registry a name is that of one type: an entity's name is no simple type's and does not begin with `[`.
use Rattle.std.proofs.Common.{◌≡◌, ℕ, ◌+◌, ◌≤◌, Bool, true, false, ◌==◌, List, [], ◌∷◌, ◌++◌, if◌then◌else◌, Option, None, Some, refl, sym, ap, subst, ◌∙◌, codes, arith}
use Rattle.std.proofs.lemmas.Bool.{and_parts, and_from, both_ways, false_from_ne_true}
use Rattle.std.specs.List.{list_all}
use Rattle.std.specs.Str.{bytes_eq}
use Rattle.std.proofs.lemmas.Slice.Eq.{bytes_eq-Decides}
use Rattle.uno_model.specs.Entities.{Entity, Body}
use Rattle.uno_model.specs.Entities as plain
use Rattle.uno_model.specs.Kinds.{Kind, name_of, nesting}
use Rattle.uno_model.specs.Kinds as kd
use Rattle.uno_model.specs.NamedTypes.{IsNamedWithin, kind_of_body, kind_of_entity, simple_of, word_of}
use Rattle.uno_model.specs.Names.{is_entity_name, parts_of}
use Rattle.uno_model.specs.Registry.{find_entity}
use Rattle.uno_model.specs.Sound.{is_named, is_there, is_enum, is_struct, is_exception, is_interface, kind_known, elements_storable, is_storable}

-- what is found has the name that was asked
pub found_name : (reg : List Entity) (name : List ℕ) (e : Entity) → list_all is_named reg ≡ true → find_entity name reg ≡ Some e → is_entity_name name ≡ true
unfolding find_entity
found_name [] name e named found = let bad : ⊥ = cc in absurd bad
found_name (d ∷ ds) name e named found = by_test (bytes_eq name d.name) refl (found_name ds name e (and_parts (is_named d) (list_all is_named ds) named).1)
  where
    by_test : (b : Bool) → bytes_eq name d.name ≡ b → (find_entity name ds ≡ Some e → is_entity_name name ≡ true) → is_entity_name name ≡ true
    by_test true same behind =
        let e = (bytes_eq-Decides name d.name).0 same in
        let front = and_parts (is_named d) (list_all is_named ds) named in
        let own = and_parts (is_entity_name d.name) _ front.0 in
        rw e own.0
    by_test false other behind = behind (rw other at found)

-- an entity that is there has an entity's name
pub there_named : (reg : List Entity) (wanted : Body → Bool) (name : List ℕ) → list_all is_named reg ≡ true → is_there reg wanted name ≡ true → is_entity_name name ≡ true
there_named reg wanted name named there = by_find (find_entity name reg) refl
  where
    by_find : (o : Option Entity) → find_entity name reg ≡ o → is_entity_name name ≡ true
    by_find None absent = let bad : false ≡ true = rw absent at there in let worse : ⊥ = cc in absurd worse
    by_find (Some e) found = found_name reg name e named found

-- no entity's name begins with `[`
pub no_bracket : (cs : List ℕ) → is_entity_name (91 ∷ cs) ≡ false
unfolding parts_of
no_bracket cs = by_parts (parts_of cs) refl
  where
    by_parts : (parts : List (List ℕ)) → parts_of cs ≡ parts → is_entity_name (91 ∷ cs) ≡ false
    by_parts [] e = rw e refl
    by_parts (part ∷ parts) e = rw e refl

-- no entity has the name of a simple type
other_name : (name word : List ℕ) → is_entity_name name ≡ true → is_entity_name word ≡ false → bytes_eq name word ≡ false
other_name name word named no_name =
    false_from_ne_true (bytes_eq name word)
    (λ same. both_ways (is_entity_name word) no_name (subst (λ n. is_entity_name n ≡ true) ((bytes_eq-Decides name word).0 same) named))

pub no_simple : (name : List ℕ) → is_entity_name name ≡ true → simple_of name ≡ None
unfolding simple_of parts_of
no_simple name named =
    rw (
      other_name name (codes "void") named refl,
      other_name name (codes "char") named refl,
      other_name name (codes "boolean") named refl,
      other_name name (codes "byte") named refl,
      other_name name (codes "short") named refl,
      other_name name (codes "unsigned short") named refl,
      other_name name (codes "long") named refl,
      other_name name (codes "unsigned long") named refl,
      other_name name (codes "hyper") named refl,
      other_name name (codes "unsigned hyper") named refl,
      other_name name (codes "string") named refl,
      other_name name (codes "type") named refl,
      other_name name (codes "any") named refl,
    )
    refl

-- an entity's name is read as the type that it is
entity_back : (reg : List Entity) (wanted : Body → Bool) (k : Kind) (name : List ℕ) → list_all is_named reg ≡ true → is_there reg wanted name ≡ true
    → ((b : Body) → wanted b ≡ true → kind_of_body name b ≡ Some k) → word_of reg name ≡ Some k
entity_back reg wanted k name named there reads = by_find (find_entity name reg) refl
  where
    by_find : (o : Option Entity) → find_entity name reg ≡ o → word_of reg name ≡ Some k
    by_find None absent = let bad : false ≡ true = rw absent at there in let worse : ⊥ = cc in absurd worse
    by_find (Some e) found =
        let is : wanted e.body ≡ true = rw found at there in
        rw (no_simple name (there_named reg wanted name named there), found) (reads e.body is)

enum_body : (name : List ℕ) (b : Body) → is_enum b ≡ true → kind_of_body name b ≡ Some (kd.enum name)
enum_body name (plain.enum items) is = refl
enum_body name _ is = let bad : ⊥ = cc in absurd bad

struct_body : (name : List ℕ) (b : Body) → is_struct b ≡ true → kind_of_body name b ≡ Some (kd.struct name)
struct_body name (plain.struct base members) is = refl
struct_body name _ is = let bad : ⊥ = cc in absurd bad

exception_body : (name : List ℕ) (b : Body) → is_exception b ≡ true → kind_of_body name b ≡ Some (kd.exception name)
exception_body name (plain.exception base members) is = refl
exception_body name _ is = let bad : ⊥ = cc in absurd bad

interface_body : (name : List ℕ) (b : Body) → is_interface b ≡ true → kind_of_body name b ≡ Some (kd.interface name)
interface_body name (plain.interface bases members) is = refl
interface_body name _ is = let bad : ⊥ = cc in absurd bad

-- a type that is no sequence
abbrev pub is_word : Kind → Bool
is_word (kd.sequence k) = false
is_word _ = true

-- the name of a type that is no sequence is read as that type
pub word_back : (reg : List Entity) (k : Kind) → list_all is_named reg ≡ true → is_word k ≡ true → kind_known reg k ≡ true → word_of reg (name_of k) ≡ Some k
unfolding simple_of
word_back reg kd.void named word known = refl
word_back reg kd.char named word known = refl
word_back reg kd.boolean named word known = refl
word_back reg kd.byte named word known = refl
word_back reg kd.short named word known = refl
word_back reg kd.unsigned_short named word known = refl
word_back reg kd.long named word known = refl
word_back reg kd.unsigned_long named word known = refl
word_back reg kd.hyper named word known = refl
word_back reg kd.unsigned_hyper named word known = refl
word_back reg kd.str named word known = refl
word_back reg kd.kind named word known = refl
word_back reg kd.any named word known = refl
word_back reg (kd.enum name) named word known = entity_back reg is_enum (kd.enum name) name named known (enum_body name)
word_back reg (kd.struct name) named word known = entity_back reg is_struct (kd.struct name) name named known (struct_body name)
word_back reg (kd.exception name) named word known = entity_back reg is_exception (kd.exception name) name named known (exception_body name)
word_back reg (kd.interface name) named word known = entity_back reg is_interface (kd.interface name) name named known (interface_body name)
word_back reg (kd.sequence k) named word known = let bad : ⊥ = cc in absurd bad

-- a text begins with `[`
abbrev pub is_bracket : List ℕ → Bool
is_bracket [] = false
is_bracket (c ∷ cs) = c == 91

-- the name of a type that is no sequence does not begin with `[`
pub no_front : (reg : List Entity) (k : Kind) (cs : List ℕ) → list_all is_named reg ≡ true → is_word k ≡ true → kind_known reg k ≡ true → name_of k ≡ 91 ∷ cs → ⊥
no_front reg kd.void cs named word known e = both_ways (is_bracket (name_of kd.void)) refl (ap is_bracket e)
no_front reg kd.char cs named word known e = both_ways (is_bracket (name_of kd.char)) refl (ap is_bracket e)
no_front reg kd.boolean cs named word known e = both_ways (is_bracket (name_of kd.boolean)) refl (ap is_bracket e)
no_front reg kd.byte cs named word known e = both_ways (is_bracket (name_of kd.byte)) refl (ap is_bracket e)
no_front reg kd.short cs named word known e = both_ways (is_bracket (name_of kd.short)) refl (ap is_bracket e)
no_front reg kd.unsigned_short cs named word known e = both_ways (is_bracket (name_of kd.unsigned_short)) refl (ap is_bracket e)
no_front reg kd.long cs named word known e = both_ways (is_bracket (name_of kd.long)) refl (ap is_bracket e)
no_front reg kd.unsigned_long cs named word known e = both_ways (is_bracket (name_of kd.unsigned_long)) refl (ap is_bracket e)
no_front reg kd.hyper cs named word known e = both_ways (is_bracket (name_of kd.hyper)) refl (ap is_bracket e)
no_front reg kd.unsigned_hyper cs named word known e = both_ways (is_bracket (name_of kd.unsigned_hyper)) refl (ap is_bracket e)
no_front reg kd.str cs named word known e = both_ways (is_bracket (name_of kd.str)) refl (ap is_bracket e)
no_front reg kd.kind cs named word known e = both_ways (is_bracket (name_of kd.kind)) refl (ap is_bracket e)
no_front reg kd.any cs named word known e = both_ways (is_bracket (name_of kd.any)) refl (ap is_bracket e)
no_front reg (kd.enum name) cs named word known e = both_ways _ (no_bracket cs) (subst (λ n. is_entity_name n ≡ true) e (there_named reg is_enum name named known))
no_front reg (kd.struct name) cs named word known e = both_ways _ (no_bracket cs) (subst (λ n. is_entity_name n ≡ true) e (there_named reg is_struct name named known))
no_front reg (kd.exception name) cs named word known e = both_ways _ (no_bracket cs) (subst (λ n. is_entity_name n ≡ true) e (there_named reg is_exception name named known))
no_front reg (kd.interface name) cs named word known e = both_ways _ (no_bracket cs) (subst (λ n. is_entity_name n ≡ true) e (there_named reg is_interface name named known))
no_front reg (kd.sequence k) cs named word known e = let bad : ⊥ = cc in absurd bad

-- two words that are known and have one name are one type
one_word : (reg : List Entity) (k j : Kind) → list_all is_named reg ≡ true → is_word k ≡ true → is_word j ≡ true → kind_known reg k ≡ true
    → kind_known reg j ≡ true → name_of k ≡ name_of j → k ≡ j
one_word reg k j named word word_j known known_j same =
    let first : word_of reg (name_of k) ≡ Some k = word_back reg k named word known in
    let second : word_of reg (name_of j) ≡ Some j = word_back reg j named word_j known_j in
    let both : Some k ≡ Some j = sym first ∙ ap (word_of reg) same ∙ second in
    cc

-- a word and any type
word_is : (reg : List Entity) (k j : Kind) → list_all is_named reg ≡ true → is_word k ≡ true → kind_known reg k ≡ true → kind_known reg j ≡ true
    → name_of k ≡ name_of j → k ≡ j
word_is reg k (kd.sequence j) named word known known_j same = absurd (no_front reg k (93 ∷ name_of j) named word known same)
word_is reg k j named word known known_j same = one_word reg k j named word refl known known_j same

-- a sequence and any type, where the types behind `[]` are one if their names are
sequence_is : (reg : List Entity) (k j : Kind) → ((i : Kind) → kind_known reg i ≡ true → name_of k ≡ name_of i → k ≡ i) → list_all is_named reg ≡ true
    → kind_known reg j ≡ true → name_of (kd.sequence k) ≡ name_of j → kd.sequence k ≡ j
sequence_is reg k (kd.sequence j) inside named known_j same = let behind : name_of k ≡ name_of j = cc in ap kd.sequence (inside j known_j behind)
sequence_is reg k j inside named known_j same = absurd (no_front reg j (93 ∷ name_of k) named refl known_j (sym same))

-- two types that are known and have one name are one type
pub one_type : (reg : List Entity) (k j : Kind) → list_all is_named reg ≡ true → kind_known reg k ≡ true → kind_known reg j ≡ true → name_of k ≡ name_of j → k ≡ j
one_type reg (kd.sequence k) j named known known_j same =
    sequence_is reg k j (λ i known_i behind. one_type reg k i named known known_i behind) named known_j same
one_type reg k j named known known_j same = word_is reg k j named refl known known_j same

-- ---- the levels of a name, from the outermost `[]` to the word behind them

-- what stands behind `[]` names none, so nothing is named by the whole
pub none_behind : (reg : List Entity) (text rest : List ℕ) (levels : ℕ) → list_all is_named reg ≡ true → text ≡ codes "[]" ++ rest
    → ((k : Kind) → IsNamedWithin reg rest levels k → ⊥) → (k : Kind) → IsNamedWithin reg text (levels + 1) k → ⊥
none_behind reg text rest levels named split none (kd.sequence k) is =
    let whole : codes "[]" ++ name_of k ≡ codes "[]" ++ rest = is.named ∙ split in
    let behind : name_of k ≡ rest = cc in
    let plain = and_parts (is_storable k) (elements_storable k) (and_parts (kind_known reg k) _ is.formed).1 in
    let known = (and_parts (kind_known reg k) _ is.formed).0 in
    none k (record { named = behind; formed = and_from (kind_known reg k) (elements_storable k) known plain.1; within = omega (arith, is.within) })
none_behind reg text rest levels named split none k is = no_front reg k (93 ∷ rest) named refl (and_parts (kind_known reg k) _ is.formed).0 (is.named ∙ split)

-- within no levels nothing that begins with `[]` is named
pub none_at_all : (reg : List Entity) (text rest : List ℕ) → list_all is_named reg ≡ true → text ≡ codes "[]" ++ rest → (k : Kind) → IsNamedWithin reg text 0 k → ⊥
none_at_all reg text rest named split (kd.sequence k) is = omega (arith, is.within)
none_at_all reg text rest named split k is = no_front reg k (93 ∷ rest) named refl (and_parts (kind_known reg k) _ is.formed).0 (is.named ∙ split)

-- where the type behind `[]` may be no element, nothing is named by the whole
pub none_of_bad : (reg : List Entity) (text rest : List ℕ) (levels below : ℕ) (j : Kind) → list_all is_named reg ≡ true → text ≡ codes "[]" ++ rest
    → IsNamedWithin reg rest below j → is_storable j ≡ false → (k : Kind) → IsNamedWithin reg text levels k → ⊥
none_of_bad reg text rest levels below j named split found bad (kd.sequence k) is =
    let whole : codes "[]" ++ name_of k ≡ codes "[]" ++ rest = is.named ∙ split in
    let behind : name_of k ≡ rest = cc in
    let parts = and_parts (kind_known reg k) _ is.formed in
    let known = (and_parts (kind_known reg j) _ found.formed).0 in
    let same = one_type reg k j named parts.0 known (behind ∙ sym found.named) in
    both_ways (is_storable k) (ap is_storable same ∙ bad) (and_parts (is_storable k) (elements_storable k) parts.1).0
none_of_bad reg text rest levels below j named split found bad k is = no_front reg k (93 ∷ rest) named refl (and_parts (kind_known reg k) _ is.formed).0 (is.named ∙ split)

-- a type behind `[]` that may be an element gives the type of the whole
pub one_more : (reg : List Entity) (text rest : List ℕ) (levels : ℕ) (j : Kind) → text ≡ codes "[]" ++ rest → IsNamedWithin reg rest levels j
    → is_storable j ≡ true → IsNamedWithin reg text (levels + 1) (kd.sequence j)
one_more reg text rest levels j split found good =
    let parts = and_parts (kind_known reg j) _ found.formed in
    record {
      named = ap (λ t. codes "[]" ++ t) found.named ∙ sym split;
      formed = and_from (kind_known reg j) _ parts.0 (and_from (is_storable j) (elements_storable j) good parts.1);
      within = omega (arith, found.within);
    }

-- ---- the word behind the brackets

-- one word more that a text may be
simple_step : (reg : List Entity) (text : List ℕ) (k j : Kind) → kind_known reg k ≡ true → elements_storable k ≡ true → nesting k ≡ 0
    → (rest : Option Kind) → (rest ≡ Some j → IsNamedWithin reg text 0 j)
    → (if bytes_eq text (name_of k) then Some k else rest) ≡ Some j → IsNamedWithin reg text 0 j
simple_step reg text k j known flat level rest behind found = by_test (bytes_eq text (name_of k)) refl
  where
    by_test : (b : Bool) → bytes_eq text (name_of k) ≡ b → IsNamedWithin reg text 0 j
    by_test true same =
        let one : Some k ≡ Some j = rw same at found in
        let is : k ≡ j = cc in
        subst (IsNamedWithin reg text 0) is
        (record {
          named = sym ((bytes_eq-Decides text (name_of k)).0 same);
          formed = and_from (kind_known reg k) (elements_storable k) known flat;
          within = omega (arith, level);
        })
    by_test false other = behind (rw other at found)

simple_gives : (reg : List Entity) (text : List ℕ) (j : Kind) → simple_of text ≡ Some j → IsNamedWithin reg text 0 j
unfolding simple_of
simple_gives reg text j = (simple_step reg text kd.void j refl refl refl _
    (simple_step reg text kd.char j refl refl refl _
    (simple_step reg text kd.boolean j refl refl refl _
    (simple_step reg text kd.byte j refl refl refl _
    (simple_step reg text kd.short j refl refl refl _
    (simple_step reg text kd.unsigned_short j refl refl refl _
    (simple_step reg text kd.long j refl refl refl _
    (simple_step reg text kd.unsigned_long j refl refl refl _
    (simple_step reg text kd.hyper j refl refl refl _
    (simple_step reg text kd.unsigned_hyper j refl refl refl _
    (simple_step reg text kd.str j refl refl refl _
    (simple_step reg text kd.kind j refl refl refl _
    (simple_step reg text kd.any j refl refl refl _ (λ (e : None ≡ Some j). let bad : ⊥ = cc in absurd bad))))))))))))))

body_gives : (reg : List Entity) (text : List ℕ) (j : Kind) (e : Entity) → find_entity text reg ≡ Some e → (b : Body) → e.body ≡ b
    → kind_of_body text b ≡ Some j → IsNamedWithin reg text 0 j
body_gives reg text j e found (plain.interface bases members) is reads =
    let one : kd.interface text ≡ j = cc in
    subst (IsNamedWithin reg text 0) one (record { named = refl; formed = and_from _ true (rw (found, is) refl) refl; within = omega arith })
body_gives reg text j e found (plain.struct base members) is reads =
    let one : kd.struct text ≡ j = cc in
    subst (IsNamedWithin reg text 0) one (record { named = refl; formed = and_from _ true (rw (found, is) refl) refl; within = omega arith })
body_gives reg text j e found (plain.exception base members) is reads =
    let one : kd.exception text ≡ j = cc in
    subst (IsNamedWithin reg text 0) one (record { named = refl; formed = and_from _ true (rw (found, is) refl) refl; within = omega arith })
body_gives reg text j e found (plain.enum items) is reads =
    let one : kd.enum text ≡ j = cc in
    subst (IsNamedWithin reg text 0) one (record { named = refl; formed = and_from _ true (rw (found, is) refl) refl; within = omega arith })
body_gives reg text j e found _ is reads = let bad : ⊥ = cc in absurd bad

-- what is read of a text that does not begin with `[]` has it as its name
pub word_gives : (reg : List Entity) (text : List ℕ) (j : Kind) → word_of reg text ≡ Some j → IsNamedWithin reg text 0 j
word_gives reg text j reads = by_simple (simple_of text) refl
  where
    by_find : (o : Option Entity) → find_entity text reg ≡ o → kind_of_entity text (find_entity text reg) ≡ Some j → IsNamedWithin reg text 0 j
    by_find None absent e = let none : None ≡ Some j = rw absent at e in let bad : ⊥ = cc in absurd bad
    by_find (Some d) found e = body_gives reg text j d found d.body refl (rw found at e)

    by_simple : (o : Option Kind) → simple_of text ≡ o → IsNamedWithin reg text 0 j
    by_simple (Some k) simple = let one : Some k ≡ Some j = rw simple at reads in simple_gives reg text j (simple ∙ one)
    by_simple None simple = by_find (find_entity text reg) refl (rw simple at reads)

pub more_levels : (reg : List Entity) (text : List ℕ) (below levels : ℕ) (k : Kind) → below ≤ levels → IsNamedWithin reg text below k → IsNamedWithin reg text levels k
more_levels reg text below levels k less is = record { named = is.named; formed = is.formed; within = omega (arith, is.within) }

-- where no word is read, and the text does not begin with `[]`, nothing is named
pub none_of_word : (reg : List Entity) (text : List ℕ) (levels : ℕ) → list_all is_named reg ≡ true → ((rest : List ℕ) → text ≡ codes "[]" ++ rest → ⊥)
    → word_of reg text ≡ None → (k : Kind) → IsNamedWithin reg text levels k → ⊥
none_of_word reg text levels named no_front none (kd.sequence k) is = no_front (name_of k) (sym is.named)
none_of_word reg text levels named no_front none k is =
    let reads : word_of reg text ≡ Some k = subst (λ t. word_of reg t ≡ Some k) is.named (word_back reg k named refl (and_parts (kind_known reg k) _ is.formed).0) in
    let bad : ⊥ = absurd_of none reads in bad
  where
    absurd_of : {o : Option Kind} {j : Kind} → o ≡ None → o ≡ Some j → ⊥
    absurd_of none some = cc
