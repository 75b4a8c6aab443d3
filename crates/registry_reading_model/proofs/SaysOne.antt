-- A text says one registry.
use Rattle.std.proofs.Common.{◌≡◌, ℕ, Bool, true, false, not, ◌||◌, List, [], ◌∷◌, map, filter, Option, None, Some, Ok, if◌then◌else◌, refl, sym, ap}
use Rattle.std.proofs.Common.{◌∙◌, subst}
use Rattle.std.proofs.lemmas.Bool.{both_ways}
use Rattle.std.proofs.lemmas.List.Kept.{IsStrictlySortedBy-filter}
use Rattle.std.specs.Cmp.Lexicographic.{slice_cmp}
use Rattle.std.specs.List.{list_all}
use Rattle.std.specs.List.Sorted.{IsStrictlySortedBy}
use Rattle.std.specs.Ordering.{nat_cmp}
use Rattle.uno_model.specs.Entities.{Body, exception, enum, constants, Entity}
use Rattle.uno_model.specs.Kinds.{Kind}
use Rattle.uno_model.specs.Kinds as kd
use Rattle.uno_model.specs.Registry.{IsRising, find_entity}
use Rattle.uno_model.specs.Sound.{is_there, is_interface, is_exception, is_enum}
use Rattle.uno_model.specs.Uses.{kinds_in}
use Rattle.uno_model.proofs.AllLaws.{all_pass}
use Rattle.registry_text_model.specs.Lines.{is_built_in_name, written, text_of}
use Rattle.registry_text_model.specs.Reading.{is_one_line, are_writable, text_lines, is_resolved, Says}
use Rattle.registry_reading_model.specs.Changes.{same, entity_changed, and_then}
use Rattle.registry_reading_model.specs.Heads.{Head, named_in, heads_in}
use Rattle.registry_reading_model.specs.Kept.{resolved, resolving, unresolved}
use Rattle.registry_reading_model.specs.States.{unread, between, run}
use Rattle.registry_reading_model.specs.TextLines.{lines_in}
use Rattle.registry_reading_model.proofs.ChangedTwice.{all_changed_twice}
use Rattle.registry_reading_model.proofs.Mapped.{map_stays}
use Rattle.registry_reading_model.proofs.Unchanged.{items_pass, constants_pass, entity_stays}
use Rattle.registry_reading_model.proofs.OneRegistry.{same_written}
use Rattle.registry_reading_model.proofs.NamedLaws.{resolved_in_registry}
use Rattle.registry_reading_model.proofs.RunsLaws.{runs}
use Rattle.registry_reading_model.proofs.SaysLaws.{named_kinds}
use Rattle.registry_reading_model.proofs.TextLinesLaws.{lines_back, lines_are_text}

-- ---- texts and lines

-- the lines of entities that can be written have no line feed
pub lines_written : (es : List Entity) → are_writable es ≡ true → list_all is_one_line (text_lines es) ≡ true
lines_written es writable =
    let read = runs false es writable (λ ordered. let worse : ⊥ = cc in absurd worse) in
    (lines_are_text false same (text_lines es) (between (map (entity_changed unresolved) es)) read).0

-- of one text there are one set of lines
pub same_lines : (es ds : List Entity) → are_writable es ≡ true → are_writable ds ≡ true → text_of (text_lines es) ≡ text_of (text_lines ds)
    → text_lines es ≡ text_lines ds
same_lines es ds writable fits texts =
    sym (lines_back (text_lines es) (lines_written es writable)) ∙ ap lines_in texts ∙ lines_back (text_lines ds) (lines_written ds fits)

-- of the same lines there are the same entities, but for the types of names
pub same_unresolved : (es ds : List Entity) → are_writable es ≡ true → are_writable ds ≡ true → text_lines es ≡ text_lines ds
    → map (entity_changed unresolved) es ≡ map (entity_changed unresolved) ds
same_unresolved es ds writable fits lines =
    let read : (cs : List Entity) → are_writable cs ≡ true
    → run false same unread (text_lines cs) ≡ Ok (between (map (entity_changed unresolved) cs)) =
    λ cs can. runs false cs can (λ ordered. let worse : ⊥ = cc in absurd worse) in
    let both : Ok (between (map (entity_changed unresolved) es)) ≡ Ok (between (map (entity_changed unresolved) ds)) =
    sym (read es writable) ∙ ap (run false same unread) lines ∙ read ds fits in
    cc

-- ---- types in a registry

-- a name is an entity of one kind
pub never_both : (reg : List Entity) (p q : Body → Bool) (name : List ℕ) → ((b : Body) → p b ≡ true → q b ≡ true → ⊥) → is_there reg p name ≡ true
    → is_there reg q name ≡ true → ⊥
never_both reg p q name apart one other = by_find (find_entity name reg) refl one other
  where
    by_find : (o : Option Entity) → find_entity name reg ≡ o → is_there reg p name ≡ true → is_there reg q name ≡ true → ⊥
    by_find None is one other = let absent : false ≡ true = rw is at one in both_ways false refl absent
    by_find (Some e) is one other = apart e.body (rw is at one) (rw is at other)

enum_or_exception : (b : Body) → is_enum b ≡ true → is_exception b ≡ true → ⊥
enum_or_exception (enum items) one other = both_ways false refl other
enum_or_exception _ one other = both_ways false refl one

enum_or_interface : (b : Body) → is_enum b ≡ true → is_interface b ≡ true → ⊥
enum_or_interface (enum items) one other = both_ways false refl other
enum_or_interface _ one other = both_ways false refl one

exception_or_interface : (b : Body) → is_exception b ≡ true → is_interface b ≡ true → ⊥
exception_or_interface (exception base members) one other = both_ways false refl other
exception_or_interface _ one other = both_ways false refl one

-- a struct's name is none of theirs
no_struct : (a b c : Bool) → not (a || (b || c)) ≡ true → ((a ≡ true → ⊥) × (b ≡ true → ⊥) × (c ≡ true → ⊥))
no_struct false false false is = (both_ways false refl, both_ways false refl, both_ways false refl)
no_struct true b c is = absurd (both_ways false refl is)
no_struct false true c is = absurd (both_ways false refl is)
no_struct false false true is = absurd (both_ways false refl is)

module _ (reg : List Entity) (heads : List Head) where
  enum_stays : (name : List ℕ) → is_there reg is_enum name ≡ true → is_resolved reg (named_in heads name) ≡ true → named_in heads name ≡ kd.enum name
  enum_stays name there = named_kinds (λ k. is_resolved reg k ≡ true → k ≡ kd.enum name) heads name
      (λ is. absurd (never_both reg is_enum is_interface name enum_or_interface there is))
      (λ is. absurd (never_both reg is_enum is_exception name enum_or_exception there is))
      (λ is. refl)
      (λ is. absurd ((no_struct (is_there reg is_enum name) (is_there reg is_exception name) (is_there reg is_interface name) is).0 there))

  exception_stays : (name : List ℕ) → is_there reg is_exception name ≡ true → is_resolved reg (named_in heads name) ≡ true
      → named_in heads name ≡ kd.exception name
  exception_stays name there = named_kinds (λ k. is_resolved reg k ≡ true → k ≡ kd.exception name) heads name
      (λ is. absurd (never_both reg is_exception is_interface name exception_or_interface there is))
      (λ is. refl)
      (λ is. absurd (never_both reg is_enum is_exception name enum_or_exception is there))
      (λ is. absurd ((no_struct (is_there reg is_enum name) (is_there reg is_exception name) (is_there reg is_interface name) is).1 there))

  interface_stays : (name : List ℕ) → is_there reg is_interface name ≡ true → is_resolved reg (named_in heads name) ≡ true
      → named_in heads name ≡ kd.interface name
  interface_stays name there = named_kinds (λ k. is_resolved reg k ≡ true → k ≡ kd.interface name) heads name
      (λ is. refl)
      (λ is. absurd (never_both reg is_exception is_interface name exception_or_interface is there))
      (λ is. absurd (never_both reg is_enum is_interface name enum_or_interface is there))
      (λ is. absurd ((no_struct (is_there reg is_enum name) (is_there reg is_exception name) (is_there reg is_interface name) is).2 there))

  struct_stays : (name : List ℕ) → is_resolved reg (kd.struct name) ≡ true → is_resolved reg (named_in heads name) ≡ true
      → named_in heads name ≡ kd.struct name
  struct_stays name there =
      let none = no_struct (is_there reg is_enum name) (is_there reg is_exception name) (is_there reg is_interface name) there in
      named_kinds (λ k. is_resolved reg k ≡ true → k ≡ kd.struct name) heads name (λ is. absurd (none.2 is)) (λ is. absurd (none.1 is))
      (λ is. absurd (none.0 is)) (λ is. refl)

  -- a type of the registry is the one that the headers have of its name, where those are the registry's
  kind_stays : ((k : Kind) → is_resolved reg (resolved (named_in heads) k) ≡ true) → (k : Kind) → is_resolved reg k ≡ true
      → resolved (named_in heads) k ≡ k
  unfolding resolved
  kind_stays each (kd.enum name) is = enum_stays name is (each (kd.enum name))
  kind_stays each (kd.struct name) is = struct_stays name is (each (kd.struct name))
  kind_stays each (kd.exception name) is = exception_stays name is (each (kd.exception name))
  kind_stays each (kd.interface name) is = interface_stays name is (each (kd.interface name))
  kind_stays each (kd.sequence k) is = ap kd.sequence (kind_stays each k is)
  kind_stays each _ is = refl

-- ---- entities that a text says

-- a type of which each name is a struct's, resolved
resolved_again : (named : List ℕ → Kind) (k : Kind) → resolved named (resolved kd.struct k) ≡ resolved named k
unfolding resolved
resolved_again named (kd.sequence k) = ap kd.sequence (resolved_again named k)
resolved_again named _ = refl

module _ (named : List ℕ → Kind) (good : Kind → Bool) (stays : (k : Kind) → good k ≡ true → resolved named k ≡ k) where
  any_items : (b : Body) → items_pass (resolving named) good stays (λ n. true) (λ n is. refl) (λ k n. true) (λ k n is. refl) b ≡ true
  any_items (enum items) = all_pass (λ i. true) (λ i. refl) items
  any_items _ = refl

  any_constants : (b : Body) → constants_pass (resolving named) good stays (λ n. true) (λ n is. refl) (λ k n. true) (λ k n is. refl) b ≡ true
  any_constants (constants cs) = all_pass (λ c. true) (λ c. refl) cs
  any_constants _ = refl

  entities_stay : (es : List Entity) → list_all (λ e. list_all good (kinds_in e.body)) es ≡ true → map (entity_changed (resolving named)) es ≡ es
  entities_stay es all =
      map_stays (entity_changed (resolving named)) (λ e. list_all good (kinds_in e.body))
      (λ e is. entity_stays (resolving named) good stays (λ n. true) (λ n is. refl) (λ k n. true) (λ k n is. refl) e is (any_constants e.body)
      (any_items e.body)) es all

same_change : (named : List ℕ → Kind) → and_then unresolved (resolving named) ≡ resolving named
same_change named = λ i. record { kind = λ k. resolved_again named k i; item = λ n. n; constant = λ n. n }

resolved_of_unresolved : (named : List ℕ → Kind) (es : List Entity)
    → map (entity_changed (resolving named)) (map (entity_changed unresolved) es) ≡ map (entity_changed (resolving named)) es
resolved_of_unresolved named es = all_changed_twice unresolved (resolving named) es ∙ ap (λ c. map (entity_changed c) es) (same_change named)

-- ---- one registry

names_written : (reg : List Entity) → map (λ e. e.name) (written reg) ≡ filter (λ n. not (is_built_in_name n)) (map (λ e. e.name) reg)
names_written [] = refl
names_written (e ∷ es) = by_test (is_built_in_name e.name) (names_written es)
  where
    by_test : (b : Bool) → map (λ d. d.name) (written es) ≡ filter (λ n. not (is_built_in_name n)) (map (λ d. d.name) es)
        → map (λ (d : Entity). d.name) (if not b then e ∷ written es else written es)
        ≡ (if not b then e.name ∷ filter (λ n. not (is_built_in_name n)) (map (λ d. d.name) es)
        else filter (λ n. not (is_built_in_name n)) (map (λ d. d.name) es))
    by_test true behind = behind
    by_test false behind = ap (λ ns. e.name ∷ ns) behind

pub rising_written : (reg : List Entity) → IsRising reg → IsRising (written reg)
rising_written reg rising =
    subst (IsStrictlySortedBy (slice_cmp nat_cmp)) (sym (names_written reg))
    (IsStrictlySortedBy-filter (slice_cmp nat_cmp) (λ n. not (is_built_in_name n)) (map (λ e. e.name) reg) rising)

-- what is said stays with its names resolved by the headers of its text
said_stays : (bytes : List ℕ) (es reg : List Entity) → Says bytes es reg
    → map (entity_changed (resolving (named_in (heads_in (text_lines es))))) es ≡ es
said_stays bytes es reg says =
    let order : IsRising es = subst IsRising says.written (rising_written reg says.rising) in
    let named = named_in (heads_in (text_lines es)) in
    entities_stay named (is_resolved reg)
    (kind_stays reg (heads_in (text_lines es)) (resolved_in_registry es reg says.writable order says.written says.built_in)) es says.resolved

pub one_said : (bytes : List ℕ) (es reg ds other : List Entity) → Says bytes es reg → Says bytes ds other → (es ≡ ds) × (reg ≡ other)
one_said bytes es reg ds other says too =
    let lines : text_lines es ≡ text_lines ds = same_lines es ds says.writable too.writable (sym says.text ∙ too.text) in
    let resolve : List (List ℕ) → List Entity → List Entity = λ ls. map (entity_changed (resolving (named_in (heads_in ls)))) in
    let same : es ≡ ds =
    sym (said_stays bytes es reg says) ∙ sym (resolved_of_unresolved (named_in (heads_in (text_lines es))) es)
    ∙ ap (resolve (text_lines es)) (same_unresolved es ds says.writable too.writable lines)
    ∙ ap (λ ls. resolve ls (map (entity_changed unresolved) ds)) lines
    ∙ resolved_of_unresolved (named_in (heads_in (text_lines ds))) ds ∙ said_stays bytes ds other too in
    (same, same_written reg other says.rising too.rising says.built_in too.built_in (says.written ∙ same ∙ sym too.written))
