-- The modules round a declaration, and the line of an entity.
use Rattle.std.proofs.Common.{◌≡◌, ℕ, ◌+◌, ◌<◌, Bool, true, false, not, if◌then◌else◌, List, [], ◌∷◌, ◌++◌, map, length, take, get_or, refl, sym, ap, ◌∙◌, append_assoc, append-nil, codes, arith, Bor, Option, Some, None}
use Rattle.std.proofs.lemmas.List.{take_more, map-append}
use Rattle.std.proofs.lemmas.List.Splits.{slice_split_first, slice_split_none}
use Rattle.std.proofs.lemmas.List.Sums.{fails_before_first}
use Rattle.std.proofs.lemmas.Str.Pattern.{IsSplitOnceResult, split_once_first}
use Rattle.std.specs.List.{flat_map, position_or_len, after_first}
use Rattle.uno_entities.proofs.NameParts.{is_point, parts_split, length_parts}
use Rattle.uno_model.specs.Entities.{Body, Entity}
use Rattle.uno_model.specs.Names.{parts_of}
use Rattle.registry_text_model.specs.Canonical.{declaration, published_flag, in_modules, parted, canonical_line, canonical_unoidl}
use Rattle.registry_text_model.specs.Lines.{written, is_built_in_name}
use Rattle.idl_print.specs.Tokens.{followed, opened, closed, last_part}
use Rattle.idl_print.proofs.TokenLemmas.{tokens_more, no_tokens}

-- a name that is cut at its first point
pub parts_after : (name : List ℕ) (r : Option (Bor (List ℕ) × Bor (List ℕ))) (part behind : Bor (List ℕ)) → IsSplitOnceResult 46 name r → r ≡ Some (part, behind)
    → parts_of name ≡ part.now ∷ parts_of behind.now
parts_after name r part behind cut found =
    let at = rw found at (split_once_first 46 name r cut (omega arith)) in
    let front = at.1 in
    let back = at.2 in
    rw (front, back, parts_split (after_first is_point name)) (parts_split name ∙ slice_split_first is_point name 0 at.0)

pub whole_part : (name : List ℕ) (r : Option (Bor (List ℕ) × Bor (List ℕ))) → IsSplitOnceResult 46 name r → r ≡ None → parts_of name ≡ name ∷ []
whole_part name r cut none =
    let at : position_or_len is_point name ≡ length name = rw none at (split_once_first 46 name r cut (omega arith)) in
    parts_split name ∙ slice_split_none is_point name (λ k d h. fails_before_first is_point name k d (omega arith))

some_parts : (name : List ℕ) → 0 < length (parts_of name)
some_parts name = let long = length_parts name in omega (arith, long)

opened_more : (m : List ℕ) (ps : List (List ℕ)) → 0 < length ps → opened (m ∷ ps) ≡ codes "module" ∷ (m ∷ (codes "{" ∷ opened ps))
unfolding opened
opened_more m [] some = let bad : ⊥ = omega arith in absurd bad
opened_more m (p ∷ ps) some = refl

closed_more : (m : List ℕ) (ps : List (List ℕ)) → 0 < length ps → closed (m ∷ ps) ≡ codes ";" ∷ (codes "}" ∷ closed ps)
unfolding closed
closed_more m [] some = let bad : ⊥ = omega arith in absurd bad
closed_more m (p ∷ ps) some = refl

last_more : (m : List ℕ) (ps : List (List ℕ)) → 0 < length ps → last_part (m ∷ ps) ≡ last_part ps
unfolding last_part
last_more m [] some = let bad : ⊥ = omega arith in absurd bad
last_more m (p ∷ ps) some = refl

-- one module more is opened, or closed
pub opened_step : (name part behind a b c : List ℕ) → parts_of name ≡ part ∷ parts_of behind → a ++ followed (opened (parts_of name)) ≡ c
    → b ≡ a ++ followed (codes "module" ∷ (part ∷ (codes "{" ∷ []))) → b ++ followed (opened (parts_of behind)) ≡ c
opened_step name part behind a b c cut before now =
    ap (λ t. t ++ followed (opened (parts_of behind))) now ∙ tokens_more a (codes "module" ∷ (part ∷ (codes "{" ∷ []))) (opened (parts_of behind))
    ∙ ap (λ ts. a ++ followed ts) (sym (ap opened cut ∙ opened_more part (parts_of behind) (some_parts behind))) ∙ before

pub closed_step : (name part behind a b c : List ℕ) → parts_of name ≡ part ∷ parts_of behind → a ++ followed (closed (parts_of name)) ≡ c
    → b ≡ a ++ followed (codes ";" ∷ (codes "}" ∷ [])) → b ++ followed (closed (parts_of behind)) ≡ c
closed_step name part behind a b c cut before now =
    ap (λ t. t ++ followed (closed (parts_of behind))) now ∙ tokens_more a (codes ";" ∷ (codes "}" ∷ [])) (closed (parts_of behind))
    ∙ ap (λ ts. a ++ followed ts) (sym (ap closed cut ∙ closed_more part (parts_of behind) (some_parts behind))) ∙ before

pub last_step : (name part behind whole : List ℕ) → parts_of name ≡ part ∷ parts_of behind → last_part (parts_of name) ≡ whole → last_part (parts_of behind) ≡ whole
last_step name part behind whole cut before = sym (ap last_part cut ∙ last_more part (parts_of behind) (some_parts behind)) ∙ before

-- no module is left
pub opened_end : (name a c : List ℕ) → parts_of name ≡ name ∷ [] → a ++ followed (opened (parts_of name)) ≡ c → a ≡ c
unfolding opened
opened_end name a c whole before = sym (no_tokens a) ∙ ap (λ ps. a ++ followed (opened ps)) (sym whole) ∙ before

pub closed_end : (name a c : List ℕ) → parts_of name ≡ name ∷ [] → a ++ followed (closed (parts_of name)) ≡ c → a ≡ c
unfolding closed
closed_end name a c whole before = sym (no_tokens a) ∙ ap (λ ps. a ++ followed (closed ps)) (sym whole) ∙ before

pub last_end : (name whole : List ℕ) → parts_of name ≡ name ∷ [] → last_part (parts_of name) ≡ whole → name ≡ whole
unfolding last_part
last_end name whole is before = sym (ap last_part is) ∙ before

closed_behind : (ps : List (List ℕ)) → closed ps ++ (codes ";" ∷ (codes "}" ∷ [])) ≡ codes ";" ∷ (codes "}" ∷ closed ps)
unfolding closed
closed_behind [] = refl
closed_behind (p ∷ []) = refl
closed_behind (m ∷ (n ∷ ns)) = ap (λ ts. codes ";" ∷ (codes "}" ∷ ts)) (closed_behind (n ∷ ns))

-- a declaration in its modules is what opens them, the declaration, and what closes them
modules_are : (published : Bool) (body : Body) (ps : List (List ℕ)) → 0 < length ps
    → ((opened ps ++ published_flag published) ++ declaration (last_part ps) body) ++ closed ps ≡ in_modules published body ps
unfolding opened closed last_part in_modules
modules_are published body [] some = let bad : ⊥ = omega arith in absurd bad
modules_are published body (id ∷ []) some = append-nil (published_flag published ++ declaration id body)
modules_are published body (m ∷ (n ∷ ns)) some =
    ap (λ ts. codes "module" ∷ (m ∷ (codes "{" ∷ ts)))
    (ap (λ ts. ((opened (n ∷ ns) ++ published_flag published) ++ declaration (last_part (n ∷ ns)) body) ++ ts) (sym (closed_behind (n ∷ ns)))
    ∙ sym (append_assoc ((opened (n ∷ ns) ++ published_flag published) ++ declaration (last_part (n ∷ ns)) body) (closed (n ∷ ns)) (codes ";" ∷ (codes "}" ∷ [])))
    ∙ ap (λ ts. ts ++ (codes ";" ∷ (codes "}" ∷ []))) (modules_are published body (n ∷ ns) (omega arith)))

pub modules_written : (published : Bool) (body : Body) (name id a b c d e : List ℕ) → id ≡ last_part (parts_of name) → b ≡ a ++ followed (opened (parts_of name))
    → c ≡ b ++ followed (published_flag published) → d ≡ c ++ followed (declaration id body) → e ≡ d ++ followed (closed (parts_of name))
    → e ≡ a ++ followed (in_modules published body (parts_of name))
modules_written published body name id a b c d e is first second third fourth =
    let ps = parts_of name in
    fourth ∙ ap (λ t. t ++ followed (closed ps)) (third ∙ ap (λ t. t ++ followed (declaration id body)) (second ∙ ap (λ t. t ++ followed (published_flag published)) first
    ∙ tokens_more a (opened ps) (published_flag published)) ∙ tokens_more a (opened ps ++ published_flag published) (declaration id body))
    ∙ tokens_more a ((opened ps ++ published_flag published) ++ declaration id body) (closed ps)
    ∙ ap (λ i. a ++ followed (((opened ps ++ published_flag published) ++ declaration i body) ++ closed ps)) is
    ∙ ap (λ ts. a ++ followed ts) (modules_are published body ps (some_parts name))

-- ---- lines

parted_last : (ts : List (List ℕ)) (t : List ℕ) → parted (ts ++ t ∷ []) ≡ followed ts ++ t
unfolding parted followed
parted_last [] t = refl
parted_last (u ∷ []) t = sym (ap (λ v. v ++ t) (append-nil (u ++ 32 ∷ [])) ∙ append_assoc u (32 ∷ []) t)
parted_last (u ∷ (v ∷ vs)) t =
    ap (λ w. u ++ 32 ∷ w) (parted_last (v ∷ vs) t) ∙ sym (append_assoc (u ++ 32 ∷ []) (followed (v ∷ vs)) t ∙ append_assoc u (32 ∷ []) (followed (v ∷ vs) ++ t))

-- the last token and a line feed end a line
pub line_written : (e : Entity) (a b c : List ℕ) → b ≡ a ++ followed (in_modules e.published e.body (parts_of e.name)) → c ≡ b ++ (59 ∷ (10 ∷ [])) → c ≡ a ++ (canonical_line e ++ 10 ∷ [])
line_written e a b c first second =
    let ts = in_modules e.published e.body (parts_of e.name) in
    second ∙ ap (λ t. t ++ (59 ∷ (10 ∷ []))) first ∙ append_assoc a (followed ts) (59 ∷ (10 ∷ []))
    ∙ ap (λ t. a ++ t) (sym (append_assoc (followed ts) (59 ∷ []) (10 ∷ [])) ∙ ap (λ t. t ++ 10 ∷ []) (sym (parted_last ts (59 ∷ []))))

pub one_line : (e : Entity) (a b : List ℕ) → is_built_in_name e.name ≡ false → b ≡ a ++ (canonical_line e ++ 10 ∷ []) → b ≡ a ++ canonical_unoidl (e ∷ [])
one_line e a b other now = now ∙ rw other (ap (λ t. a ++ t) (sym (append-nil (canonical_line e ++ 10 ∷ []))))

pub no_line : (e : Entity) (a : List ℕ) → is_built_in_name e.name ≡ true → a ≡ a ++ canonical_unoidl (e ∷ [])
no_line e a built_in = rw built_in (sym (append-nil a))

unoidl_append : (es ds : List Entity) → canonical_unoidl (es ++ ds) ≡ canonical_unoidl es ++ canonical_unoidl ds
unoidl_append [] ds = refl
unoidl_append (e ∷ es) ds = by_test (is_built_in_name e.name) e es ds (unoidl_append es ds)
  where
    by_test : (t : Bool) (e : Entity) (es ds : List Entity) → canonical_unoidl (es ++ ds) ≡ canonical_unoidl es ++ canonical_unoidl ds
        → flat_map (λ x. canonical_line x ++ 10 ∷ []) (if not t then e ∷ written (es ++ ds) else written (es ++ ds))
        ≡ flat_map (λ x. canonical_line x ++ 10 ∷ []) (if not t then e ∷ written es else written es) ++ canonical_unoidl ds
    by_test true e es ds others = others
    by_test false e es ds others = ap (λ rest. (canonical_line e ++ 10 ∷ []) ++ rest) others ∙ sym (append_assoc (canonical_line e ++ 10 ∷ []) (canonical_unoidl es) (canonical_unoidl ds))

pub unoidl_more : {X : Type 0} (of : X → Entity) (xs : List X) (i : ℕ) (x : X) (a b c : List ℕ) → i < length xs → x ≡ get_or xs i x
    → b ≡ a ++ canonical_unoidl (map of (take i xs)) → c ≡ b ++ canonical_unoidl (of x ∷ []) → c ≡ a ++ canonical_unoidl (map of (take (i + 1) xs))
unoidl_more of xs i x a b c within read before now =
    now ∙ ap (λ t. t ++ canonical_unoidl (of x ∷ [])) before ∙ append_assoc a (canonical_unoidl (map of (take i xs))) (canonical_unoidl (of x ∷ []))
    ∙ ap (λ t. a ++ t) (sym (unoidl_append (map of (take i xs)) (of x ∷ [])))
    ∙ ap (λ es. a ++ canonical_unoidl es) (sym (map-append of (take i xs) (x ∷ []))) ∙ ap (λ ys. a ++ canonical_unoidl (map of ys)) (sym (take_more xs i x within ∙ ap (λ y. take i xs ++ y ∷ []) (sym read)))
