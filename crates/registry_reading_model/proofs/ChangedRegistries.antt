-- What a change of types and numbers leaves of a registry: what is found by a name, what stands on what, the names of functions and members, and the ways.
use Rattle.std.proofs.Common.{◌≡◌, ℕ, zero, suc, Bool, true, false, List, [], ◌∷◌, ◌++◌, map, length, filter, Option, None, Some, option_map, refl}
use Rattle.std.proofs.Common.{sym, ap, ap₂, ◌∙◌, subst, if◌then◌else◌, Contains, codes}
use Rattle.std.specs.List.{flat_map}
use Rattle.std.specs.Str.{bytes_eq}
use Rattle.std.proofs.lemmas.List.{length-map, map-append}
use Rattle.std.proofs.lemmas.List.Elements.{filter_agree}
use Rattle.uno_model.specs.Circles.{Leads, step, on}
use Rattle.uno_model.specs.Entities.{Field, Member, attribute, method, Attribute}
use Rattle.uno_model.specs.Entities.{Body, interface, struct, exception, typedef}
use Rattle.uno_model.specs.Entities.{Entity}
use Rattle.uno_model.specs.Functions.{Function, getter, setter, accessors_of, calls_of, declared_in, declared_by, is_met, visit_all, met_within}
use Rattle.uno_model.specs.Functions.{interfaces_of, functions_of}
use Rattle.uno_model.specs.Kinds.{Kind}
use Rattle.uno_model.specs.Registry.{find_entity, stands_on, stands_on_body, member_bases, own_members, members_within, all_members}
use Rattle.uno_model.specs.Sound.{is_there}
use Rattle.registry_text_model.specs.NoCircles.{is_typedef, names_in, typedefs_in, led_on, leads_on, leads_on_to}
use Rattle.registry_reading_model.specs.Changes.{Change, field_changed, member_changed, body_changed, entity_changed}
use Rattle.registry_reading_model.specs.Kept.{cut, limited}
use Rattle.registry_reading_model.proofs.ChangedBodies.{SeesClass, typedef_seen, led_to_changed}
use Rattle.registry_reading_model.proofs.CutLaws.{cut_alike}
use Rattle.registry_reading_model.proofs.Mapped.{map_mapped, flat_read, flat_alike}

module _ (c : Change) where
  abbrev pub all_changed : List Entity → List Entity
  all_changed reg = map (entity_changed c) reg

  pub find_changed : (name : List ℕ) (reg : List Entity) → find_entity name (all_changed reg) ≡ option_map (entity_changed c) (find_entity name reg)
  unfolding find_entity
  find_changed name [] = refl
  find_changed name (e ∷ es) = by_test (bytes_eq name e.name) (find_changed name es)
    where
      by_test : (b : Bool) → find_entity name (all_changed es) ≡ option_map (entity_changed c) (find_entity name es)
          → (if b then Some (entity_changed c e) else find_entity name (all_changed es))
          ≡ option_map (entity_changed c) (if b then Some e else find_entity name es)
      by_test true behind = refl
      by_test false behind = behind

  -- whether an entity of a class is there
  pub there_changed : (wanted : Body → Bool) → SeesClass c wanted → (reg : List Entity) (name : List ℕ)
      → is_there (all_changed reg) wanted name ≡ is_there reg wanted name
  there_changed wanted sees reg name = by_find (find_entity name reg) refl
    where
      by_find : (o : Option Entity) → find_entity name reg ≡ o → is_there (all_changed reg) wanted name ≡ is_there reg wanted name
      by_find None absent = rw (find_changed name reg, absent) refl
      by_find (Some e) found = rw (find_changed name reg, found) (sees e.body)

  -- ---- bases

  bases_of_body : (name : List ℕ) (published : Bool) (b : Body)
      → stands_on_body (Some (record { name = name; published = published; body = body_changed c b }))
      ≡ stands_on_body (Some (record { name = name; published = published; body = b }))
  bases_of_body name published (interface bases members) = refl
  bases_of_body name published _ = refl

  bases_of_found : (o : Option Entity) → stands_on_body (option_map (entity_changed c) o) ≡ stands_on_body o
  bases_of_found None = refl
  bases_of_found (Some e) = bases_of_body e.name e.published e.body

  pub stands_on_changed : (reg : List Entity) (name : List ℕ) → stands_on (all_changed reg) name ≡ stands_on reg name
  stands_on_changed reg name = ap stands_on_body (find_changed name reg) ∙ bases_of_found (find_entity name reg)

  -- ---- functions

  same_visits : (f g : List (List ℕ) → List ℕ → List (List ℕ)) → ((met : List (List ℕ)) (name : List ℕ) → f met name ≡ g met name)
      → (met names : List (List ℕ)) → visit_all f met names ≡ visit_all g met names
  unfolding visit_all
  same_visits f g same met [] = refl
  same_visits f g same met (n ∷ ns) = ap (λ m. visit_all f m ns) (same met n) ∙ same_visits f g same (g met n) ns

  met_changed : (levels : ℕ) (reg : List Entity) (met : List (List ℕ)) (name : List ℕ)
      → met_within levels (all_changed reg) met name ≡ met_within levels reg met name
  unfolding met_within
  met_changed zero reg met name = refl
  met_changed (suc levels) reg met name =
      ap₂ (λ bases ms. if is_met name met then met else ms ++ name ∷ []) (stands_on_changed reg name)
      (ap (visit_all (met_within levels (all_changed reg)) met) (stands_on_changed reg name)
      ∙ same_visits (met_within levels (all_changed reg)) (met_within levels reg) (met_changed levels reg) met (stands_on reg name))

  pub interfaces_of_changed : (reg : List Entity) (name : List ℕ) → interfaces_of (all_changed reg) name ≡ interfaces_of reg name
  interfaces_of_changed reg name =
      ap (λ n. met_within (suc n) (all_changed reg) [] name) (length-map reg (entity_changed c)) ∙ met_changed (suc (length reg)) reg [] name

  abbrev pub names_of : List Function → List (List ℕ)
  names_of fs = map (λ f. f.name) fs

  accessors_named : (owner : List ℕ) (m : Member) → names_of (accessors_of owner (member_changed c m)) ≡ names_of (accessors_of owner m)
  accessors_named owner (method m) = refl
  accessors_named owner (attribute a) =
      by_access a.read_only
      (record { name = a.name; read_only = a.read_only; kind = c.kind a.kind; get_raises = a.get_raises; set_raises = a.set_raises }) refl
    where
      by_access : (read_only : Bool) (d : Attribute) → d.name ≡ a.name
          → names_of (if read_only then getter owner d ∷ [] else getter owner d ∷ (setter owner d ∷ []))
          ≡ names_of (if read_only then getter owner a ∷ [] else getter owner a ∷ (setter owner a ∷ []))
      by_access true d same = ap (λ n. (codes "get:" ++ n) ∷ []) same
      by_access false d same = ap (λ n. (codes "get:" ++ n) ∷ ((codes "set:" ++ n) ∷ [])) same

  calls_named : (owner : List ℕ) (m : Member) → names_of (calls_of owner (member_changed c m)) ≡ names_of (calls_of owner m)
  calls_named owner (attribute a) = refl
  calls_named owner (method m) = refl

  declared_named : (owner : List ℕ) (b : Body) → names_of (declared_in owner (body_changed c b)) ≡ names_of (declared_in owner b)
  declared_named owner (interface bases members) =
      map-append name (flat_map (accessors_of owner) (map (member_changed c) members)) (flat_map (calls_of owner) (map (member_changed c) members))
      ∙ ap₂ (λ xs ys. xs ++ ys) (flat_read name name (accessors_of owner) (accessors_of owner) (member_changed c) (accessors_named owner) members)
      (flat_read name name (calls_of owner) (calls_of owner) (member_changed c) (calls_named owner) members)
      ∙ sym (map-append name (flat_map (accessors_of owner) members) (flat_map (calls_of owner) members))
    where
      name : Function → List ℕ
      name f = f.name
  declared_named owner _ = refl

  found_named : (owner : List ℕ) (o : Option Entity) → names_of (declared_by owner (option_map (entity_changed c) o)) ≡ names_of (declared_by owner o)
  found_named owner None = refl
  found_named owner (Some e) = declared_named owner e.body

  -- the functions of an interface have the same names, and are as many
  pub functions_named : (reg : List Entity) (name : List ℕ) → names_of (functions_of (all_changed reg) name) ≡ names_of (functions_of reg name)
  functions_named reg name =
      ap (λ owners. names_of (flat_map (λ owner. declared_by owner (find_entity owner (all_changed reg))) owners)) (interfaces_of_changed reg name)
      ∙ flat_alike (λ (f : Function). f.name) (λ owner. declared_by owner (find_entity owner (all_changed reg)))
      (λ owner. declared_by owner (find_entity owner reg))
      (λ owner. ap (λ o. names_of (declared_by owner o)) (find_changed owner reg) ∙ found_named owner (find_entity owner reg)) (interfaces_of reg name)

  pub functions_counted : (reg : List Entity) (name : List ℕ) → length (functions_of (all_changed reg) name) ≡ length (functions_of reg name)
  functions_counted reg name =
      sym (length-map (functions_of (all_changed reg) name) (λ f. f.name)) ∙ ap length (functions_named reg name)
      ∙ length-map (functions_of reg name) (λ f. f.name)

  -- ---- members

  abbrev pub field_names : List Field → List (List ℕ)
  field_names fs = map (λ f. f.name) fs

  own_named : (name : List ℕ) (published : Bool) (b : Body)
      → field_names (own_members (Some (record { name = name; published = published; body = body_changed c b })))
      ≡ field_names (own_members (Some (record { name = name; published = published; body = b })))
  own_named name published (struct base members) = map_mapped (field_changed c) (λ (f : Field). f.name) (λ f. f.name) (λ f. refl) members
  own_named name published (exception base members) = map_mapped (field_changed c) (λ (f : Field). f.name) (λ f. f.name) (λ f. refl) members
  own_named name published _ = refl

  own_found : (o : Option Entity) → field_names (own_members (option_map (entity_changed c) o)) ≡ field_names (own_members o)
  own_found None = refl
  own_found (Some e) = own_named e.name e.published e.body

  member_bases_body : (name : List ℕ) (published : Bool) (b : Body)
      → member_bases (Some (record { name = name; published = published; body = body_changed c b }))
      ≡ member_bases (Some (record { name = name; published = published; body = b }))
  member_bases_body name published (interface bases members) = refl
  member_bases_body name published _ = refl

  member_bases_found : (o : Option Entity) → member_bases (option_map (entity_changed c) o) ≡ member_bases o
  member_bases_found None = refl
  member_bases_found (Some e) = member_bases_body e.name e.published e.body

  members_within_named : (levels : ℕ) (reg : List Entity) (name : List ℕ)
      → field_names (members_within levels (all_changed reg) name) ≡ field_names (members_within levels reg name)
  unfolding members_within
  members_within_named zero reg name = refl
  members_within_named (suc levels) reg name =
      let bases = member_bases (find_entity name reg) in
      map-append named (flat_map (members_within levels (all_changed reg)) (member_bases (find_entity name (all_changed reg))))
      (own_members (find_entity name (all_changed reg)))
      ∙ ap₂ (λ xs ys. xs ++ ys)
      (ap (λ bs. field_names (flat_map (members_within levels (all_changed reg)) bs))
      (ap member_bases (find_changed name reg) ∙ member_bases_found (find_entity name reg))
      ∙ flat_alike named (members_within levels (all_changed reg)) (members_within levels reg) (members_within_named levels reg) bases)
      (ap (λ o. field_names (own_members o)) (find_changed name reg) ∙ own_found (find_entity name reg))
      ∙ sym (map-append named (flat_map (members_within levels reg) bases) (own_members (find_entity name reg)))
    where
      named : Field → List ℕ
      named f = f.name

  pub all_members_named : (reg : List Entity) (name : List ℕ) → field_names (all_members (all_changed reg) name) ≡ field_names (all_members reg name)
  all_members_named reg name =
      ap (λ n. field_names (members_within (suc n) (all_changed reg) name)) (length-map reg (entity_changed c))
      ∙ members_within_named (suc (length reg)) reg name

-- ---- ways, in what a reader keeps

typedefs_changed : (reg : List Entity) (k : Kind) → typedefs_in (all_changed limited reg) (cut k) ≡ typedefs_in reg k
typedefs_changed reg k =
    ap (filter (is_there (all_changed limited reg) is_typedef)) (cut_alike names_in (λ j. refl) k)
    ∙ filter_agree (is_there (all_changed limited reg) is_typedef) (is_there reg is_typedef)
    (λ name. there_changed limited is_typedef (typedef_seen limited) reg name) (names_in k)

led_on_changed : (reg : List Entity) (b : Body) → led_on (all_changed limited reg) (body_changed limited b) ≡ led_on reg b
led_on_changed reg (typedef k) = typedefs_changed reg k
led_on_changed reg (struct base members) = led_to_changed (struct base members)
led_on_changed reg _ = refl

leads_on_changed : (reg : List Entity) (o : Option Entity) → leads_on (all_changed limited reg) (option_map (entity_changed limited) o) ≡ leads_on reg o
leads_on_changed reg None = refl
leads_on_changed reg (Some e) = led_on_changed reg e.body

pub leads_changed : (reg : List Entity) (name : List ℕ) → leads_on_to (all_changed limited reg) name ≡ leads_on_to reg name
unfolding leads_on_to
leads_changed reg name = ap (leads_on (all_changed limited reg)) (find_changed limited name reg) ∙ leads_on_changed reg (find_entity name reg)

-- where each leads to the same, the ways are the same
pub same_ways : {X : Type 0} (f g : X → List X) → ((x : X) → f x ≡ g x) → (a b : X) → Leads f a b → Leads g a b
same_ways f g same a b (step a' b' there) = step a b (subst (λ xs. Contains xs b) (same a) there)
same_ways f g same a b (on a' c b' there rest) = on a c b (subst (λ xs. Contains xs c) (same a) there) (same_ways f g same c b rest)
