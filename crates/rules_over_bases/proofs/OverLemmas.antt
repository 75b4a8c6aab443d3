-- Names are seen along members, and along the entities that are marked.
use Rattle.std.proofs.Common.{◌≡◌, ℕ, zero, suc, ◌+◌, ◌<◌, ◌≤◌, Bool, true, false, List, [], ◌∷◌, ◌++◌, length, map, take, get_or, set, replicate, refl, sym, ap, subst, ◌∙◌, if◌then◌else◌, arith}
use Rattle.std.specs.Prelude.{Result, IfOk}
use Rattle.std.specs.List.{flat_map}
use Rattle.std.proofs.lemmas.List.Folds.{flat_map-map}
use Rattle.std.proofs.lemmas.Result.{IfOk-weaker}
use Rattle.uno_model.specs.Entities as plain
use Rattle.uno_model.specs.Sound.{all_differ}
use Rattle.uno_entities.specs.Entities.{entities_of, body_of, member_of}
use Rattle.uno_entities.specs.declared.entity.Entity.{Entity}
use Rattle.uno_entities.specs.declared.entity.Member.{Member}
use Rattle.rules_over_bases.specs.OwnNames.{getter_name, setter_name, accessor_names, names_of_member, own_names, row_if, marked_names}
use Rattle.rules_over_bases.specs.Occurring.{occurs}
use Rattle.rules_over_bases.specs.Seen.{HasSeen, Sees, SeesShare, SeenAll}
use Rattle.rules_over_bases.specs.declared.seen.Seen.{Seen}
use Rattle.rules_over_bases.proofs.SeenLemmas.{sees_then, sees_stop, sees_stop_at, sees_end}
use Rattle.rules_over_bases.proofs.TwinLaws.{occurs_append, same_differ, fewer_differ}

-- ---- the functions of an attribute

-- the getter's name repeats one
pub getter_repeats : (a : plain.Attribute) (old new : Seen) (name : List ℕ) (is_new : Bool) → name ≡ a.name → Sees old new (getter_name name ∷ []) is_new → is_new ≡ false
    → Sees old new (accessor_names a) false
getter_repeats a old new name is_new named sees twin =
    by_test a.read_only (subst (Sees old new (getter_name a.name ∷ [])) twin (subst (λ n. Sees old new (getter_name n ∷ []) is_new) named sees))
  where
    by_test : (ro : Bool) → Sees old new (getter_name a.name ∷ []) false
        → Sees old new (if ro then getter_name a.name ∷ [] else getter_name a.name ∷ (setter_name a.name ∷ [])) false
    by_test true here = here
    by_test false here = sees_stop old new (getter_name a.name ∷ []) (setter_name a.name ∷ []) here

-- behind it stands a setter's, where the attribute is not read-only
pub both_accessors : {E : Type 0} (a : plain.Attribute) (old mid new : Seen) (read written : List ℕ) (is_new : Bool) (result : Result Bool E) → read ≡ a.name → written ≡ a.name
    → Sees old mid (getter_name read ∷ []) is_new → is_new ≡ true → a.read_only ≡ false
    → IfOk result (λ b. Sees mid new (setter_name written ∷ []) b) → IfOk result (λ b. Sees old new (accessor_names a) b)
both_accessors a old mid new read written is_new result reads writes sees first is after =
    let getter = subst (Sees old mid (getter_name a.name ∷ [])) first (subst (λ n. Sees old mid (getter_name n ∷ []) is_new) reads sees) in
    IfOk-weaker result _ _
    (λ b then_set. by_test a.read_only is b (sees_then old mid new (getter_name a.name ∷ []) (setter_name a.name ∷ []) b getter
    (subst (λ n. Sees mid new (setter_name n ∷ []) b) writes then_set)))
    after
  where
    by_test : (ro : Bool) → ro ≡ false → (b : Bool) → Sees old new (getter_name a.name ∷ (setter_name a.name ∷ [])) b
        → Sees old new (if ro then getter_name a.name ∷ [] else getter_name a.name ∷ (setter_name a.name ∷ [])) b
    by_test false is_so b here = here
    by_test true is_so b here = let bad : true ≡ false = is_so in absurd cc

-- ---- members

abbrev pub row_of_member : Member → List (List ℕ)
row_of_member m = names_of_member (member_of m)

pub members_repeat : (ms : List Member) (i : ℕ) (m : Member) (old mid new : Seen) (are_new : Bool) → i < length ms → m ≡ get_or ms i m
    → Sees old mid (flat_map row_of_member (take i ms)) true → Sees mid new (row_of_member m) are_new → are_new ≡ false
    → Sees old new (flat_map names_of_member (map member_of ms)) false
members_repeat ms i m old mid new are_new within is before after twins =
    subst (λ ns. Sees old new ns false) (sym (flat_map-map names_of_member member_of ms)) (sees_stop_at row_of_member ms i m old mid new are_new within is before after twins)

pub members_end : (ms : List Member) (i : ℕ) (old new : Seen) → length ms ≤ i → Sees old new (flat_map row_of_member (take i ms)) true
    → Sees old new (flat_map names_of_member (map member_of ms)) true
members_end ms i old new over before =
    subst (λ ns. Sees old new ns true) (sym (flat_map-map names_of_member member_of ms)) (sees_end row_of_member ms i old new over before)

-- ---- entities that are marked

-- what is seen so far, with what is still marked, is what was marked at first
pub record SeenSoFar (seen : Seen) (reg : List plain.Entity) (first now : List Bool) : Type 0 where
  pub names : List (List ℕ)
  pub has_seen : HasSeen seen names
  pub parts : (name : List ℕ) → occurs name (marked_names first reg) ≡ occurs name names + occurs name (marked_names now reg)

-- the names of the entity at a place, if it is marked, and those of the others
pub names_share : (asked : List ℕ) (marks : List Bool) (es : List Entity) (p : ℕ) (d : Bool) (e : Entity) → p < length es → length marks ≡ length es
    → occurs asked (marked_names marks (entities_of es))
    ≡ occurs asked (row_if (get_or marks p d) (body_of (get_or es p e).body)) + occurs asked (marked_names (set marks p false) (entities_of es))
unfolding marked_names occurs
names_share asked marks [] p d e within long = absurd (omega (arith, within))
names_share asked [] (x ∷ es) p d e within long = absurd (omega (arith, long))
names_share asked (true ∷ marks) (x ∷ es) zero d e within long = occurs_append asked (own_names (body_of x.body)) (marked_names marks (entities_of es))
names_share asked (false ∷ marks) (x ∷ es) zero d e within long = omega arith
names_share asked (true ∷ marks) (x ∷ es) (suc p) d e within long =
    let rest = names_share asked marks es p d e (omega (arith, within)) (omega (arith, long)) in
    let before = occurs_append asked (own_names (body_of x.body)) (marked_names marks (entities_of es)) in
    let after = occurs_append asked (own_names (body_of x.body)) (marked_names (set marks p false) (entities_of es)) in
    omega (arith, rest, before, after)
names_share asked (false ∷ marks) (x ∷ es) (suc p) d e within long = names_share asked marks es p d e (omega (arith, within)) (omega (arith, long))

-- what was read there is seen
pub share_seen : {E : Type 0} (marks : List Bool) (es : List Entity) (p : ℕ) (mark : Bool) (e : Entity) (old new : Seen) (result : Result Bool E) → p < length es
    → length marks ≡ length es → mark ≡ get_or marks p mark → IfOk result (λ b. Sees old new (row_if mark (body_of (get_or es p e).body)) b)
    → IfOk result (λ b. SeesShare old new (marked_names marks (entities_of es)) (marked_names (set marks p false) (entities_of es)) b)
share_seen marks es p mark e old new result within long read seen =
    let body = body_of (get_or es p e).body in
    IfOk-weaker result _ _
    (λ b sees. record {
      row = row_if mark body;
      sees = sees;
      parts = λ name. names_share name marks es p mark e within long
          ∙ ap (λ m. occurs name (row_if m body) + occurs name (marked_names (set marks p false) (entities_of es))) (sym read);
    })
    seen

-- nothing is seen yet
pub none_so_far : (seen : Seen) (reg : List plain.Entity) (marks : List Bool) → HasSeen seen [] → SeenSoFar seen reg marks marks
unfolding occurs
none_so_far seen reg marks none = record { names = []; has_seen = none; parts = λ name. omega arith }

-- one entity more
pub more_so_far : (old new : Seen) (reg : List plain.Entity) (first now after : List Bool) (are_new : Bool) → SeenSoFar old reg first now
    → SeesShare old new (marked_names now reg) (marked_names after reg) are_new → are_new ≡ true → SeenSoFar new reg first after
more_so_far old new reg first now after are_new before share all_new =
    record {
      names = before.names ++ share.row;
      has_seen = share.sees.seen before.names before.has_seen all_new;
      parts = λ name. omega (arith, before.parts name, share.parts name, occurs_append name before.names share.row);
    }

-- a name is there twice
pub twice_so_far : (old new : Seen) (reg : List plain.Entity) (first now after : List Bool) (are_new : Bool) → SeenSoFar old reg first now
    → SeesShare old new (marked_names now reg) (marked_names after reg) are_new → are_new ≡ false → false ≡ all_differ (marked_names first reg)
twice_so_far old new reg first now after are_new before share twice = by_test (all_differ (marked_names first reg)) refl
  where
    names : List (List ℕ)
    names = before.names ++ share.row

    told : all_differ names ≡ false
    told = sym (share.sees.told before.names before.has_seen) ∙ twice

    fewer : (name : List ℕ) → occurs name names ≤ occurs name (marked_names first reg)
    fewer name = omega (arith, before.parts name, share.parts name, occurs_append name before.names share.row)

    by_test : (b : Bool) → all_differ (marked_names first reg) ≡ b → false ≡ b
    by_test false is = refl
    by_test true is = let bad : true ≡ false = sym (fewer_differ names (marked_names first reg) fewer is) ∙ told in absurd cc

-- what was seen with it is some of them
pub some_so_far : (old new : Seen) (reg : List plain.Entity) (first now after : List Bool) (are_new : Bool) → SeenSoFar old reg first now
    → SeesShare old new (marked_names now reg) (marked_names after reg) are_new → SeenAll new (marked_names first reg) false
some_so_far old new reg first now after are_new before share =
    let some = share.sees.some before.names before.has_seen in
    record { names = before.names ++ some.0; has_seen = some.1; all = λ yes name. let bad : false ≡ true = yes in absurd cc }

-- without a mark there is no name
no_names : (name : List ℕ) (count : ℕ) (reg : List plain.Entity) → occurs name (marked_names (replicate count false) reg) ≡ 0
unfolding marked_names occurs
no_names name zero reg = refl
no_names name (suc count) [] = refl
no_names name (suc count) (e ∷ es) = no_names name count es

-- all were seen
pub all_so_far : (seen : Seen) (reg : List plain.Entity) (first now : List Bool) (count : ℕ) → SeenSoFar seen reg first now → now ≡ replicate count false
    → true ≡ all_differ (marked_names first reg)
all_so_far seen reg first now count all none =
    sym all.has_seen.sets.differ ∙ same_differ all.names (marked_names first reg)
    (λ name. omega (arith, all.parts name, ap (λ ms. occurs name (marked_names ms reg)) none, no_names name count reg))

pub all_are_seen : (seen : Seen) (reg : List plain.Entity) (first now : List Bool) (count : ℕ) → SeenSoFar seen reg first now → now ≡ replicate count false
    → SeenAll seen (marked_names first reg) true
all_are_seen seen reg first now count all none = record {
  names = all.names;
  has_seen = all.has_seen;
  all = λ yes name. omega (arith, all.parts name, ap (λ ms. occurs name (marked_names ms reg)) none, no_names name count reg);
}
