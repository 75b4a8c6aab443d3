-- The entity of a declaration, found by the name that its path has.
use Rattle.std.proofs.Common.{◌≡◌, refl, sym, ap, ap₂, subst, ◌∙◌, ℕ, suc, ◌+◌, ◌<◌, ◌≤◌, inl, inr, Bool, true, false, List, [], ◌∷◌, ◌++◌, length, get_or, None, Some, if◌then◌else◌, arith}
use Rattle.std.proofs.lemmas.Bool.{cases_lt}
use Rattle.std.proofs.lemmas.List.{get_or_past, length-map}
use Rattle.std.proofs.lemmas.Option.{get_or_from_slice_get, slice_get_within}
use Rattle.std.specs.List.{flat_map}
use Rattle.std.specs.Str.{bytes_eq}
use Rattle.uno_entities.specs.Entities.{entities_of, entity_of}
use Rattle.uno_entities.specs.Finding.{IsPlaceOf}
use Rattle.uno_entities.specs.declared.entity.Entity as types
use Rattle.uno_entities.proofs.SpreadLemmas.{entity_at}
use Rattle.uno_model.specs.Entities.{Entity}
use Rattle.uno_model.specs.Places as uno
use Rattle.uno_model.specs.Registry.{IsRising, find_entity}
use Rattle.uno_model.proofs.PlaceLaws.{place_is, place_none}
use Rattle.idl_joint_places.specs.Circles.{node_there}
use Rattle.idl_joint_places.specs.There.{failing_there, passes}
use Rattle.idl_meaning_model.specs.Declarations as model
use Rattle.idl_meaning_model.specs.Declarations.{dotted, full_name, is_forward}
use Rattle.idl_model.specs.Places as plain
use Rattle.idl_names.specs.Collected.{HasNumbers, declared_of}
use Rattle.idl_names.specs.Paths.{Parts, within}
use Rattle.idl_names.specs.declared.declaration.Declared.{Declared}
use Rattle.idl_rules_model.specs.TypePlaces.{at_unless}
use Rattle.whole_entities.proofs.MarkLemmas.{mark_keeps, marks_of}

-- ---- its name

pub path_low : (paths : List Parts) (d : Declared) → HasNumbers paths d → d.path < length paths
path_low paths d has = slice_get_within paths d.path (within paths (d.modules, d.name.now.name)) has.own

pub named_so : (paths : List Parts) (d : Declared) (name : List ℕ) → HasNumbers paths d → name ≡ dotted (get_or paths d.path []) → name ≡ full_name (declared_of paths d)
named_so paths d name has is = is ∙ ap dotted (get_or_from_slice_get paths d.path (within paths (d.modules, d.name.now.name)) [] has.own)

-- ---- its mark

pub skipped : (test : Entity → Bool) (reg : List Entity) (d : model.Declared) → is_forward d.body ≡ true → failing_there test reg d ≡ []
unfolding failing_there
skipped test reg d kind = rw kind refl

pub absent : (test : Entity → Bool) (reg : List Entity) (d : model.Declared) → is_forward d.body ≡ false → find_entity (full_name d) reg ≡ None → failing_there test reg d ≡ []
unfolding failing_there
absent test reg d kind none = rw (kind, none) refl

pub marked : (test : Entity → Bool) (es : List types.Entity) (d : model.Declared) (place : ℕ) (b e : Bool) (marks : List Bool) → is_forward d.body ≡ false
    → IsPlaceOf (full_name d) (entities_of es) place → marks ≡ marks_of test es → b ≡ get_or marks place e → at_unless d.name.place b ≡ failing_there test (entities_of es) d
unfolding failing_there
marked test es d place b e marks kind there are is =
    let reg = entities_of es in
    let long = length-map es entity_of in
    let one = entity_at reg place there.within in
    let found : find_entity (full_name d) reg ≡ Some one.0 = there.found ∙ one.1 in
    let says : b ≡ test one.0 = mark_keeps test es place b e marks (let low = there.within in omega (arith, low, long)) are is one.0 one.1 in
    rw (kind, found) (ap (at_unless d.name.place) says)

-- ---- all marks

pub one_more_marked : (marks : List Bool) (n : ℕ) → get_or marks n true ≡ true → ((place : ℕ) → place < n → get_or marks place true ≡ true) → (place : ℕ) → place < n + 1
    → get_or marks place true ≡ true
one_more_marked marks n right so_far place before = elim (cases_lt place n) [
  | inl less ↦ so_far place less
  | inr least ↦ let same : place ≡ n = omega (arith, before, least) in ap (λ k. get_or marks k true) same ∙ right
]

pub all_so_far : (marks : List Bool) (n : ℕ) → length marks ≤ n → ((place : ℕ) → place < n → get_or marks place true ≡ true) → (place : ℕ) → get_or marks place true ≡ true
all_so_far marks n end so_far place = elim (cases_lt place n) [
  | inl less ↦ so_far place less
  | inr least ↦ get_or_past marks place true (omega (arith, end, least))
]

all_pass : (test : Entity → Bool) (es : List types.Entity) → ((place : ℕ) → get_or (marks_of test es) place true ≡ true) → (name : List ℕ) → passes test (find_entity name (entities_of es)) ≡ true
unfolding find_entity
all_pass test [] all name = refl
all_pass test (e ∷ es) all name = by_name (bytes_eq name (entity_of e).name) (all_pass test es (λ place. all (suc place)) name)
  where
    by_name : (b : Bool) → passes test (find_entity name (entities_of es)) ≡ true → passes test (if b then Some (entity_of e) else find_entity name (entities_of es)) ≡ true
    by_name true rest = all 0
    by_name false rest = rest

not_failing : (test : Entity → Bool) (reg : List Entity) (d : model.Declared) → passes test (find_entity (full_name d) reg) ≡ true → failing_there test reg d ≡ []
unfolding failing_there
not_failing test reg d right = by_kind (is_forward d.body)
  where
    by_kind : (b : Bool) → (if b then [] else at_unless d.name.place (passes test (find_entity (full_name d) reg))) ≡ []
    by_kind true = refl
    by_kind false = ap (at_unless d.name.place) right

-- where all entities are marked
pub none_failing : (test : Entity → Bool) (es : List types.Entity) (marks : List Bool) → marks ≡ marks_of test es → ((place : ℕ) → get_or marks place true ≡ true) → (ds : List model.Declared)
    → flat_map (failing_there test (entities_of es)) ds ≡ []
none_failing test es marks are all [] = refl
none_failing test es marks are all (d ∷ ds) =
    ap₂ (λ xs ys. xs ++ ys)
    (not_failing test (entities_of es) d (all_pass test es (subst (λ (ms : List Bool). (place : ℕ) → get_or ms place true ≡ true) are all) (full_name d)))
    (none_failing test es marks are all ds)

-- ---- its node

pub no_node : (reg : List Entity) (d : model.Declared) → is_forward d.body ≡ true → node_there reg d ≡ None
unfolding node_there
no_node reg d kind = rw kind refl

pub no_place : (reg : List Entity) (d : model.Declared) → is_forward d.body ≡ false → find_entity (full_name d) reg ≡ None → node_there reg d ≡ None
unfolding node_there
no_place reg d kind none = rw (kind, place_none reg (full_name d) none) refl

pub node_is : (reg : List Entity) (d : model.Declared) (place : ℕ) → IsRising reg → is_forward d.body ≡ false → IsPlaceOf (full_name d) reg place → node_there reg d ≡ Some (place, d.name.place)
unfolding node_there
node_is reg d place rising kind there =
    let one = entity_at reg place there.within in
    rw (kind, place_is reg (full_name d) place one.0 rising one.1 (there.found ∙ one.1)) refl
