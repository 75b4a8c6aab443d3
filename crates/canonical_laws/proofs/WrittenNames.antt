-- What a tree declares that writes a registry: one declaration for each entity that is written, under its name, and found where that is.
use Rattle.std.proofs.Common.{◌≡◌, ℕ, Bool, true, false, not, ◌&&◌, ◌||◌, List, [], ◌∷◌, ◌++◌, Option, None, Some, is_some, refl, sym, ap, ◌∙◌, subst, inl, inr}
use Rattle.std.proofs.Common.{append_assoc, if◌then◌else◌}
use Rattle.std.specs.List.{flat_map}
use Rattle.std.specs.Str.{bytes_eq}
use Rattle.std.proofs.lemmas.Bool.{cases_Bool, both_ways, false_from_ne_true}
use Rattle.std.proofs.lemmas.List.{append-nil}
use Rattle.std.proofs.lemmas.Slice.Eq.{bytes_eq-Decides}
use Rattle.uno_model.specs.BuiltIn.{built_in, HasBuiltIn}
use Rattle.uno_model.specs.Entities.{Entity, Body}
use Rattle.uno_model.specs.Names.{parts_of}
use Rattle.uno_model.specs.Registry.{find_entity}
use Rattle.uno_model.specs.Sound.{is_there}
use Rattle.uno_model.proofs.FindLaws.{none_found}
use Rattle.registry_text_model.specs.Lines.{is_built_in_name, written}
use Rattle.registry_reading_model.proofs.NamedLaws.{found_written}
use Rattle.idl_model.specs.Trees.{Path, Declaration, Def, Tree}
use Rattle.idl_model.specs.Trees as tree
use Rattle.idl_meaning_model.specs.Declarations.{Declared, dotted, full_name, declared_in, all_declared_in, declarations, is_forward, entities_declared}
use Rattle.idl_meaning_model.specs.Scopes.{declared_as, is_built_in, is_entity, entity_named}
use Rattle.idl_meaning_model.proofs.EachLaws.{each_weaker}
use Rattle.canonical_laws.specs.Written.{Each, WritesName, WritesBody, WritesUnder, WritesEntity, WritesRegistry}
use Rattle.canonical_laws.proofs.DottedNames.{dotted_parts, entity_is}
use Rattle.canonical_laws.proofs.SortedRegistry.{found_built_in, written_own}

-- ---- one declaration for each entity

-- a declaration is that of an entity
pub record WritesDeclared (d : Declared) (e : Entity) : Type 0 where
  pub named : full_name d ≡ e.name
  pub published : d.published ≡ e.published
  pub body : WritesBody d.body e.body

-- a definition in these modules declares this one alone
record DeclaresOne (modules : List (List ℕ)) (definition : Def) (parts : List (List ℕ)) (e : Entity) : Type 0 where
  one : Declared
  alone : declared_in modules definition ≡ one ∷ []
  named : full_name one ≡ dotted (modules ++ parts)
  published : one.published ≡ e.published
  body : WritesBody one.body e.body

declares_one : (parts modules : List (List ℕ)) (definition : Def) (e : Entity) → WritesUnder parts definition e → DeclaresOne modules definition parts e
unfolding WritesUnder declared_in all_declared_in
declares_one [] modules definition e writes = absurd writes
declares_one (id ∷ []) modules definition e (decl, is, name, body) =
    record {
      one = record { modules = modules; published = e.published; name = decl.name; body = decl.body };
      alone = ap (declared_in modules) is;
      named = ap (λ n. dotted (modules ++ n ∷ [])) name;
      published = refl;
      body = body;
    }
declares_one (m ∷ (n ∷ ns)) modules definition e (name, inner, is, named, rest) =
    let deep = declares_one (n ∷ ns) (modules ++ name.name ∷ []) inner e rest in
    record {
      one = deep.one;
      alone = ap (declared_in modules) is ∙ ap (λ ds. ds ++ []) deep.alone;
      named = deep.named ∙ ap dotted (append_assoc modules (name.name ∷ []) (n ∷ ns)) ∙ ap (λ x. dotted (modules ++ x ∷ (n ∷ ns))) named;
      published = deep.published;
      body = deep.body;
    }

all_declare : (ts : List Def) (es : List Entity) → Each WritesEntity ts es → Each WritesDeclared (flat_map (declared_in []) ts) es
all_declare [] [] writes = tt
all_declare [] (e ∷ es) writes = absurd writes
all_declare (t ∷ ts) [] writes = absurd writes
all_declare (t ∷ ts) (e ∷ es) writes =
    let own = declares_one (parts_of e.name) [] t e writes.0 in
    let this : WritesDeclared own.one e = record { named = own.named ∙ dotted_parts e.name; published = own.published; body = own.body } in
    subst (λ ds. Each WritesDeclared (ds ++ flat_map (declared_in []) ts) (e ∷ es)) (sym own.alone) (this, all_declare ts es writes.1)

pub written_declared : (t : Tree) (reg : List Entity) → WritesRegistry t reg → Each WritesDeclared (declarations (t ∷ [])) (written reg)
unfolding WritesRegistry declarations
written_declared t reg writes =
    subst (λ ds. Each WritesDeclared ds (written reg)) (sym (append-nil (flat_map (declared_in []) t))) (all_declare t (written reg) writes)

-- ---- none of them is forward

pub no_forward : (d : Declaration) (body : Body) → WritesBody d body → is_forward d ≡ false
unfolding WritesBody
no_forward tree.forward body writes = absurd writes
no_forward _ body writes = refl

pub all_entities : (ds : List Declared) (es : List Entity) → Each WritesDeclared ds es → entities_declared ds ≡ ds
unfolding entities_declared
all_entities [] es writes = refl
all_entities (d ∷ ds) [] writes = absurd writes
all_entities (d ∷ ds) (e ∷ es) writes = rw (no_forward d.body e.body writes.0.body) (ap (λ xs. d ∷ xs) (all_entities ds es writes.1))

-- ---- what is found under a name

abbrev pub FoundAlike : Option Declared → Option Entity → Type 0
FoundAlike None None = Unit {0}
FoundAlike None (Some e) = ⊥
FoundAlike (Some d) None = ⊥
FoundAlike (Some d) (Some e) = WritesDeclared d e

pub found_alike : (ds : List Declared) (es : List Entity) (name : List ℕ) → Each WritesDeclared ds es → FoundAlike (declared_as ds name) (find_entity name es)
unfolding declared_as find_entity
found_alike [] [] name writes = tt
found_alike [] (e ∷ es) name writes = absurd writes
found_alike (d ∷ ds) [] name writes = absurd writes
found_alike (d ∷ ds) (e ∷ es) name writes =
    let test : (not (is_forward d.body) && bytes_eq name (full_name d)) ≡ bytes_eq name e.name =
    rw (no_forward d.body e.body writes.0.body, writes.0.named) refl in
    subst (λ b. FoundAlike (if b then Some d else declared_as ds name) (find_entity name (e ∷ es))) (sym test)
    (by_test (bytes_eq name e.name) (found_alike ds es name writes.1))
  where
    by_test : (b : Bool) → FoundAlike (declared_as ds name) (find_entity name es)
        → FoundAlike (if b then Some d else declared_as ds name) (if b then Some e else find_entity name es)
    by_test true rest = writes.0
    by_test false rest = rest

none_alike : (o : Option Declared) (p : Option Entity) → FoundAlike o p → p ≡ None → o ≡ None
none_alike None p alike none = refl
none_alike (Some d) None alike none = absurd alike
none_alike (Some d) (Some e) alike none = let bad : ⊥ = cc in absurd bad

some_alike : (o : Option Declared) (p : Option Entity) (e : Entity) → FoundAlike o p → p ≡ Some e → is_some o ≡ true
some_alike None None e alike some = let bad : ⊥ = cc in absurd bad
some_alike None (Some f) e alike some = absurd alike
some_alike (Some d) p e alike some = refl

-- what is there is found, and is of its kind
pub there_found : (reg : List Entity) (wanted : Body → Bool) (name : List ℕ) → is_there reg wanted name ≡ true
    → (e : Entity) × (find_entity name reg ≡ Some e) × (wanted e.body ≡ true)
there_found reg wanted name there = by_find (find_entity name reg) refl
  where
    by_find : (o : Option Entity) → find_entity name reg ≡ o → (e : Entity) × (find_entity name reg ≡ Some e) × (wanted e.body ≡ true)
    by_find None is = let bad : false ≡ true = rw is at there in absurd (both_ways false refl bad)
    by_find (Some e) is = (e, is, rw is at there)

-- a path stands for an entity
abbrev pub known : List Declared → List (List ℕ) → Path → Bool
known ds modules path = is_some (entity_named ds modules path)

module _ (ds : List Declared) (reg : List Entity) (has : HasBuiltIn reg) (all : Each WritesDeclared ds (written reg)) where
  -- a built-in name is declared nowhere
  pub built_in_absent : (name : List ℕ) → is_built_in_name name ≡ true → declared_as ds name ≡ None
  built_in_absent name named =
      none_alike (declared_as ds name) (find_entity name (written reg)) (found_alike ds (written reg) name all)
      (none_found name (written reg) (each_weaker (λ e. is_built_in_name e.name ≡ false) (λ e. bytes_eq name e.name ≡ false) (written reg) other
      (written_own reg)))
    where
      other : (e : Entity) → is_built_in_name e.name ≡ false → bytes_eq name e.name ≡ false
      other e own =
          false_from_ne_true (bytes_eq name e.name)
          (λ same. both_ways (is_built_in_name e.name) own (ap is_built_in_name (sym ((bytes_eq-Decides name e.name).0 same)) ∙ named))

  -- any other is declared where it is the name of an entity
  pub own_alike : (name : List ℕ) → is_built_in_name name ≡ false → FoundAlike (declared_as ds name) (find_entity name reg)
  own_alike name own = subst (λ p. FoundAlike (declared_as ds name) p) (found_written reg name own) (found_alike ds (written reg) name all)

  -- what is in the registry is an entity among the declarations
  pub there_entity : (wanted : Body → Bool) (name : List ℕ) → is_there reg wanted name ≡ true → is_entity ds name ≡ true
  unfolding is_built_in
  there_entity wanted name there =
      let found = there_found reg wanted name there in
      elim (cases_Bool (is_built_in_name name)) [
        | inl named ↦ first_true (is_some (find_entity name built_in)) (is_some (declared_as ds name))
            (ap is_some (sym (found_built_in reg has name named) ∙ found.1))
        | inr own ↦ second_true (is_some (find_entity name built_in)) (is_some (declared_as ds name))
            (some_alike (declared_as ds name) (find_entity name reg) found.0 (own_alike name own) found.1)
      ]
    where
      first_true : (b c : Bool) → b ≡ true → (b || c) ≡ true
      first_true b c is = rw is refl

      second_true : (b c : Bool) → c ≡ true → (b || c) ≡ true
      second_true true c is = refl
      second_true false c is = is

  -- so a path stands for it
  pub path_known : (modules : List (List ℕ)) (path : Path) (name : List ℕ) (wanted : Body → Bool) → WritesName path name → is_there reg wanted name ≡ true
      → known ds modules path ≡ true
  path_known modules path name wanted writes there = ap is_some (entity_is ds modules path name writes (there_entity wanted name there))
