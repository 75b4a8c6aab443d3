-- Tables in which all that is held and all that was sent out lives: references that live may be gained, said and taken, and all may be let go.
use Rattle.std.proofs.Common.{◌≡◌, ℕ, suc, ◌≤◌, Bool, true, false, cond, ◌||◌, ◌==◌, if◌then◌else◌, List, [], ◌∷◌, ◌++◌, find, is_some, None, Some, refl, ap, ◌∙◌, arith}
use Rattle.std.specs.List.{list_any}
use Rattle.std.specs.Str.{bytes_eq}
use Rattle.message_model.specs.MessageNamings.{message_namings}
use Rattle.message_model.specs.Messages.{Message, release}
use Rattle.uno_model.specs.Values.{Ref, null, own, peer, Plain}
use Rattle.table_model.specs.Holdings.{hold, Holdings, outlasts}
use Rattle.table_model.specs.Pair.{pair}
use Rattle.table_model.specs.Stubs.{Stubs}
use Rattle.table_model.specs.declared.holder.Holder.{Holder}
use Rattle.table_model.specs.declared.holder.Holder.TheVariants as holder
use Rattle.bridge_model.specs.Ends.{tables_at_end}
use Rattle.bridge_model.specs.Objects.{object_named, makes_object, with_fields}
use Rattle.bridge_model.specs.References.{counts_sent, says, releases, gains, gains_all, is_held, takes, takes_all, loses, loses_all, stays, gives_back, holds_ref, lets_go, lets_go_all, refs_of_values}
use Rattle.bridge_model.specs.Settings.{Setting, own_oid, release_tid}
use Rattle.bridge_model.specs.Sides.{Object, Tables}
use Rattle.bridge_model.specs.declared.cause.Cause.{Cause}
use Rattle.bridge_laws.specs.Counting.{total}
use Rattle.bridge_laws.specs.Living.{lives}
use Rattle.bridge_laws.proofs.NamingLaws.{message_refs, message_counts}
use Rattle.bridge_laws.proofs.StrayLaws.{untold, strays, held_strays, stub_strays, told_unless_stray, own_stray, peer_stray, Lasts, fewer_strays, fewer_held, fewer_sent, held_more, held_less, held_kept, sent_more}
use Rattle.bridge_laws.proofs.Sums.{total_push}

-- ---- words

-- the references in the fields of objects that are told wrongly
unfoldable pub object_untold : Setting → Object → ℕ
object_untold g o = total (untold g) (refs_of_values o.fields)

-- the objects of the first numbers are there
abbrev pub AreThere : ℕ → List Object → Type 0
AreThere m os = (n : ℕ) → 1 ≤ n → n ≤ m → list_any (λ o. n == o.number) os ≡ true

-- which identities live, that all that is held and sent out does, that fields tell their references, and that the first objects are there
pub record Alive (g : Setting) (m : ℕ) (live : List ℕ → Bool) (os : List Object) (hs : Holdings) (stubs : Stubs) : Type 0 where
  pub named : (oid : List ℕ) → lives g os oid ≡ live oid
  pub told : total (object_untold g) os ≡ 0
  pub there : AreThere m os
  pub held : held_strays g live hs ≡ 0
  pub sent : stub_strays g live stubs ≡ 0

abbrev pub AliveIn : Setting → ℕ → (List ℕ → Bool) → Tables → Type 0
AliveIn g m live t = Alive g m live t.objects t.holdings t.stubs

with_held : {g : Setting} {m : ℕ} {live : List ℕ → Bool} {os : List Object} {hs : Holdings} {stubs : Stubs} (now : Holdings)
    → Alive g m live os hs stubs → held_strays g live now ≡ 0 → Alive g m live os now stubs
with_held now alive held = record { named = alive.named; told = alive.told; there = alive.there; held = held; sent = alive.sent }

pub with_sent : {g : Setting} {m : ℕ} {live : List ℕ → Bool} {os : List Object} {hs : Holdings} {stubs : Stubs} (now : Stubs)
    → Alive g m live os hs stubs → stub_strays g live now ≡ 0 → Alive g m live os hs now
with_sent now alive sent = record { named = alive.named; told = alive.told; there = alive.there; held = alive.held; sent = sent }

-- ---- saying

pub says_alive : (g : Setting) (m : ℕ) (live : List ℕ → Bool) (msg : Message) (t : Tables) → total (strays g live) (message_refs msg) ≡ 0 → AliveIn g m live t
    → AliveIn g m live (says g msg t)
unfolding says
says_alive g m live msg t fine alive =
    let none = alive.sent in
    let named = message_counts (strays g live) g.registry msg in
    let more = sent_more g live (message_namings g.registry msg) t.stubs in
    with_sent (counts_sent (message_namings g.registry msg) t.stubs) alive (omega arith)

released_alive : (g : Setting) (m : ℕ) (live : List ℕ → Bool) (oid face : List ℕ) (t : Tables) → AliveIn g m live t → AliveIn g m live (releases g oid face t)
unfolding total
released_alive g m live oid face t alive = says_alive g m live (release (release_tid g) oid face) t refl alive

-- ---- gaining

pub gains_alive : (g : Setting) (m : ℕ) (live : List ℕ → Bool) (who : Holder) (r : Ref) (t : Tables) → strays g live r ≡ 0 → AliveIn g m live t → AliveIn g m live (gains who r t)
gains_alive g m live who null t fine alive = alive
gains_alive g m live who (own oid face) t fine alive =
    let none = alive.held in let more = held_more g live (hold who (pair oid face)) t.holdings in let one = own_stray g live oid face in
    with_held (gains who (own oid face) t).holdings alive (omega arith)
gains_alive g m live who (peer oid face) t fine alive =
    let none = alive.held in let more = held_more g live (hold who (pair oid face)) t.holdings in let one = peer_stray g live oid face in
    with_held (gains who (peer oid face) t).holdings alive (omega arith)

pub gains_all_alive : (g : Setting) (m : ℕ) (live : List ℕ → Bool) (who : Holder) (rs : List Ref) (t : Tables) → total (strays g live) rs ≡ 0 → AliveIn g m live t
    → AliveIn g m live (gains_all who rs t)
unfolding gains_all total
gains_all_alive g m live who [] t fine alive = alive
gains_all_alive g m live who (r ∷ rs) t fine alive =
    gains_all_alive g m live who rs (gains who r t) (omega arith) (gains_alive g m live who r t (omega arith) alive)

-- ---- taking

released_if : (g : Setting) (m : ℕ) (live : List ℕ → Bool) (b : Bool) (oid face : List ℕ) (t : Tables) → AliveIn g m live t
    → AliveIn g m live (if b then releases g oid face t else t)
released_if g m live true oid face t alive = released_alive g m live oid face t alive
released_if g m live false oid face t alive = alive

takes_alive : (g : Setting) (m : ℕ) (live : List ℕ → Bool) (who : Holder) (r : Ref) (t : Tables) → strays g live r ≡ 0 → AliveIn g m live t → AliveIn g m live (takes g who r t)
takes_alive g m live who null t fine alive = alive
takes_alive g m live who (own oid face) t fine alive = gains_alive g m live who (own oid face) t fine alive
takes_alive g m live who (peer oid face) t fine alive =
    gains_alive g m live who (peer oid face) (if is_held oid face t then releases g oid face t else t) fine (released_if g m live (is_held oid face t) oid face t alive)

pub takes_all_alive : (g : Setting) (m : ℕ) (live : List ℕ → Bool) (who : Holder) (rs : List Ref) (t : Tables) → total (strays g live) rs ≡ 0 → AliveIn g m live t
    → AliveIn g m live (takes_all g who rs t)
unfolding takes_all total
takes_all_alive g m live who [] t fine alive = alive
takes_all_alive g m live who (r ∷ rs) t fine alive =
    takes_all_alive g m live who rs (takes g who r t) (omega arith) (takes_alive g m live who r t (omega arith) alive)

-- ---- letting go

pub loses_alive : (g : Setting) (m : ℕ) (live : List ℕ → Bool) (who : Holder) (r : Ref) (t : Tables) → AliveIn g m live t → AliveIn g m live (loses who r t)
loses_alive g m live who null t alive = alive
loses_alive g m live who (own oid face) t alive =
    let none = alive.held in let less = held_less g live (hold who (pair oid face)) t.holdings in
    with_held (loses who (own oid face) t).holdings alive (omega arith)
loses_alive g m live who (peer oid face) t alive =
    let none = alive.held in let less = held_less g live (hold who (pair oid face)) t.holdings in
    with_held (loses who (peer oid face) t).holdings alive (omega arith)

pub loses_all_alive : (g : Setting) (m : ℕ) (live : List ℕ → Bool) (who : Holder) (rs : List Ref) (t : Tables) → AliveIn g m live t → AliveIn g m live (loses_all who rs t)
unfolding loses_all
loses_all_alive g m live who [] t alive = alive
loses_all_alive g m live who (r ∷ rs) t alive = loses_all_alive g m live who rs (loses who r t) (loses_alive g m live who r t alive)

kept_unless : (g : Setting) (m : ℕ) (live : List ℕ → Bool) (b : Bool) (oid face : List ℕ) (t : Tables) → AliveIn g m live t
    → AliveIn g m live (if b then t else releases g oid face t)
kept_unless g m live true oid face t alive = alive
kept_unless g m live false oid face t alive = released_alive g m live oid face t alive

gives_back_alive : (g : Setting) (m : ℕ) (live : List ℕ → Bool) (r : Ref) (t : Tables) → AliveIn g m live t → AliveIn g m live (gives_back g r t)
gives_back_alive g m live null t alive = alive
gives_back_alive g m live (own oid face) t alive = alive
gives_back_alive g m live (peer oid face) t alive = kept_unless g m live (stays g oid face t) oid face t alive

let_go_if : (g : Setting) (m : ℕ) (live : List ℕ → Bool) (b : Bool) (gone t : Tables) → AliveIn g m live gone → AliveIn g m live t → AliveIn g m live (if b then gone else t)
let_go_if g m live true gone t after alive = after
let_go_if g m live false gone t after alive = alive

pub lets_go_alive : (g : Setting) (m : ℕ) (live : List ℕ → Bool) (who : Holder) (r : Ref) (t : Tables) → AliveIn g m live t → AliveIn g m live (lets_go g who r t)
lets_go_alive g m live who r t alive =
    let_go_if g m live (holds_ref who r t) (gives_back g r (loses who r t)) t (gives_back_alive g m live r (loses who r t) (loses_alive g m live who r t alive)) alive

pub lets_go_all_alive : (g : Setting) (m : ℕ) (live : List ℕ → Bool) (who : Holder) (rs : List Ref) (t : Tables) → AliveIn g m live t → AliveIn g m live (lets_go_all g who rs t)
unfolding lets_go_all
lets_go_all_alive g m live who [] t alive = alive
lets_go_all_alive g m live who (r ∷ rs) t alive = lets_go_all_alive g m live who rs (lets_go g who r t) (lets_go_alive g m live who r t alive)

-- ---- the end

pub end_alive : (g : Setting) (m : ℕ) (live : List ℕ → Bool) (why : Cause) (t : Tables) → AliveIn g m live t → AliveIn g m live (tables_at_end why t)
unfolding stub_strays
end_alive g m live why t alive =
    let none = alive.held in let kept = held_kept g live outlasts t.holdings in
    record { named = alive.named; told = alive.told; there = alive.there; held = omega arith; sent = refl }

-- ---- objects that are made

-- with an object more
abbrev pub lives_with : Setting → (List ℕ → Bool) → ℕ → List ℕ → Bool
lives_with g live n oid = live oid || bytes_eq oid (own_oid g n)

pub lasts_with : (g : Setting) (live : List ℕ → Bool) (n : ℕ) → Lasts live (lives_with g live n)
lasts_with g live n oid is = ap (λ b. b || bytes_eq oid (own_oid g n)) is

found_push : {X : Type 0} (test : X → Bool) (xs : List X) (x : X) → is_some (find test (xs ++ x ∷ [])) ≡ (is_some (find test xs) || test x)
found_push test [] x = elim (test x) as (λ b. is_some (cond b (Some x) None) ≡ b) [ true ↦ refl | false ↦ refl ]
found_push test (y ∷ ys) x =
    let rest = found_push test ys x in
    elim (test y) as (λ b. is_some (cond b (Some y) (find test (ys ++ x ∷ []))) ≡ (is_some (cond b (Some y) (find test ys)) || test x)) [ true ↦ refl | false ↦ rest ]

-- what makes one of two so still makes one of them so
pub any_more : (a before after : Bool) → (before ≡ true → after ≡ true) → (a || before) ≡ true → (a || after) ≡ true
any_more true before after more is = refl
any_more false before after more is = more is

any_push : {X : Type 0} (test : X → Bool) (xs : List X) (x : X) → list_any test xs ≡ true → list_any test (xs ++ x ∷ []) ≡ true
any_push test [] x is = absurd (cc)
any_push test (y ∷ ys) x is = any_more (test y) (list_any test ys) (list_any test (ys ++ x ∷ [])) (any_push test ys x) is

lives_push : (g : Setting) (os : List Object) (o : Object) (oid : List ℕ) → lives g (os ++ o ∷ []) oid ≡ (lives g os oid || bytes_eq oid (own_oid g o.number))
unfolding object_named
lives_push g os o oid = found_push (λ o. bytes_eq oid (own_oid g o.number)) os o

pushed_alive : {g : Setting} {m : ℕ} {live : List ℕ → Bool} {os : List Object} {hs : Holdings} {stubs : Stubs} (o : Object) → object_untold g o ≡ 0
    → Alive g m live os hs stubs → Alive g m (lives_with g live o.number) (os ++ o ∷ []) hs stubs
pushed_alive {g = g} {live = live} {os = os} {hs = hs} {stubs = stubs} o told alive =
    let lasts = lasts_with g live o.number in
    let held = fewer_held g live (lives_with g live o.number) lasts hs in
    let sent = fewer_sent g live (lives_with g live o.number) lasts stubs in
    let none = alive.held in let nothing = alive.sent in
    let fields = total_push (object_untold g) os o in let before = alive.told in
    record {
      named = λ oid. lives_push g os o oid ∙ ap (λ b. b || bytes_eq oid (own_oid g o.number)) (alive.named oid);
      told = omega arith;
      there = λ n least most. any_push (λ o. n == o.number) os o (alive.there n least most);
      held = omega arith;
      sent = omega arith;
    }

made_untold : (g : Setting) (live : List ℕ → Bool) (o : Object) → total (strays g live) (refs_of_values o.fields) ≡ 0 → object_untold g o ≡ 0
unfolding object_untold
made_untold g live o fine = let most = told_unless_stray g live (refs_of_values o.fields) in omega arith

-- an object whose fields have what lives
pub makes_alive : (g : Setting) (m : ℕ) (live : List ℕ → Bool) (behaviour : ℕ) (fields : List Plain) (t : Tables) → total (strays g live) (refs_of_values fields) ≡ 0
    → AliveIn g m live t → AliveIn g m (lives_with g live (suc t.objects_made)) (makes_object behaviour fields t)
unfolding makes_object
makes_alive g m live behaviour fields t fine alive =
    let fewer = fewer_strays g live (lives_with g live (suc t.objects_made)) (lasts_with g live (suc t.objects_made)) (refs_of_values fields) in
    gains_all_alive g m (lives_with g live (suc t.objects_made)) (holder.Object (suc t.objects_made)) (refs_of_values fields)
    (record t { objects = t.objects ++ record { number = suc t.objects_made; behaviour = behaviour; fields = fields } ∷ []; objects_made = suc t.objects_made })
    (omega arith)
    (pushed_alive (record { number = suc t.objects_made; behaviour = behaviour; fields = fields })
    (made_untold g live (record { number = suc t.objects_made; behaviour = behaviour; fields = fields }) fine) alive)

-- ---- fields that change

fields_told : (g : Setting) (b : Bool) (fields : List Plain) (o : Object) (new os : List Object) → total (untold g) (refs_of_values fields) ≡ 0 → total (object_untold g) (o ∷ os) ≡ 0
    → (total (object_untold g) os ≡ 0 → total (object_untold g) new ≡ 0) → total (object_untold g) (if b then record o { fields = fields } ∷ os else o ∷ new) ≡ 0
unfolding total object_untold
fields_told g true fields o new os fine told rest = omega arith
fields_told g false fields o new os fine told rest = let behind = rest (omega arith) in omega arith

with_fields_told : (g : Setting) (n : ℕ) (fields : List Plain) (os : List Object) → total (untold g) (refs_of_values fields) ≡ 0 → total (object_untold g) os ≡ 0
    → total (object_untold g) (with_fields n fields os) ≡ 0
unfolding with_fields
with_fields_told g n fields [] fine told = told
with_fields_told g n fields (o ∷ os) fine told = fields_told g (n == o.number) fields o (with_fields n fields os) os fine told (λ rest. with_fields_told g n fields os fine rest)

lives_step : (test : ℕ → Bool) (b : Bool) (fields : List Plain) (o : Object) (new os : List Object)
    → is_some (find (λ o. test o.number) new) ≡ is_some (find (λ o. test o.number) os)
    → is_some (find (λ o. test o.number) (if b then record o { fields = fields } ∷ os else o ∷ new)) ≡ is_some (find (λ o. test o.number) (o ∷ os))
lives_step test true fields o new os rest =
    elim (test o.number) as (λ c. is_some (cond c (Some (record o { fields = fields })) (find (λ o. test o.number) os)) ≡ is_some (cond c (Some o) (find (λ o. test o.number) os))) [ true ↦ refl | false ↦ refl ]
lives_step test false fields o new os rest =
    elim (test o.number) as (λ c. is_some (cond c (Some o) (find (λ o. test o.number) new)) ≡ is_some (cond c (Some o) (find (λ o. test o.number) os))) [ true ↦ refl | false ↦ rest ]

numbers_found : (test : ℕ → Bool) (n : ℕ) (fields : List Plain) (os : List Object) → is_some (find (λ o. test o.number) (with_fields n fields os)) ≡ is_some (find (λ o. test o.number) os)
unfolding with_fields
numbers_found test n fields [] = refl
numbers_found test n fields (o ∷ os) = lives_step test (n == o.number) fields o (with_fields n fields os) os (numbers_found test n fields os)

there_step : (test : ℕ → Bool) (b : Bool) (fields : List Plain) (o : Object) (new os : List Object)
    → list_any (λ o. test o.number) new ≡ list_any (λ o. test o.number) os
    → list_any (λ o. test o.number) (if b then record o { fields = fields } ∷ os else o ∷ new) ≡ list_any (λ o. test o.number) (o ∷ os)
there_step test true fields o new os rest = refl
there_step test false fields o new os rest = ap (λ b. test o.number || b) rest

numbers_there : (test : ℕ → Bool) (n : ℕ) (fields : List Plain) (os : List Object) → list_any (λ o. test o.number) (with_fields n fields os) ≡ list_any (λ o. test o.number) os
unfolding with_fields
numbers_there test n fields [] = refl
numbers_there test n fields (o ∷ os) = there_step test (n == o.number) fields o (with_fields n fields os) os (numbers_there test n fields os)

lives_fields : (g : Setting) (n : ℕ) (fields : List Plain) (os : List Object) (oid : List ℕ) → lives g (with_fields n fields os) oid ≡ lives g os oid
unfolding object_named
lives_fields g n fields os oid = numbers_found (λ k. bytes_eq oid (own_oid g k)) n fields os

-- an object gets fields that are told
pub fields_alive : (g : Setting) (m : ℕ) (live : List ℕ → Bool) (n : ℕ) (fields : List Plain) (t : Tables) → total (untold g) (refs_of_values fields) ≡ 0 → AliveIn g m live t
    → AliveIn g m live (record t { objects = with_fields n fields t.objects })
fields_alive g m live n fields t fine alive =
    record {
      named = λ oid. lives_fields g n fields t.objects oid ∙ alive.named oid;
      told = with_fields_told g n fields t.objects fine alive.told;
      there = λ k least most. numbers_there (λ j. k == j) n fields t.objects ∙ alive.there k least most;
      held = alive.held;
      sent = alive.sent;
    }
