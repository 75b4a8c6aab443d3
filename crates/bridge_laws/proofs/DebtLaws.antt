-- The debt of a pair is what was sent and is not released: a stub's two numbers differ by it, over every history of an end that stands.
use Rattle.std.proofs.Common.{◌≡◌, refl, sym, ap, ◌∙◌, ℕ, ◌+◌, ◌<◌, ◌==◌, ◌↔◌, IfSome, Bool, true, false, is_some, subst, if◌then◌else◌, List, [], ◌∷◌, ◌++◌, length, drop, Option, None, Some, arith}
use Rattle.std.proofs.lemmas.List.{append-nil, drop_at}
use Rattle.message_model.specs.Messages.{Message, Answer, request, release, reply}
use Rattle.uno_model.specs.Entities.{Entity}
use Rattle.uno_model.specs.Values.{Plain}
use Rattle.urp_model.specs.declared.reason.Reason.TheVariants.{Unowed}
use Rattle.table_model.specs.Pair.{Pair, pair}
use Rattle.table_model.specs.Stubs.{Stubs, stub, released_one, IsOwed}
use Rattle.table_model.specs.declared.stub.Stub.{Stub}
use Rattle.plan_model.specs.Asking.{Effect, lets, sets, sets_field, drops, skips, calls, queries, makes, disposes, creates, returns, raises}
use Rattle.plan_model.specs.Frames.{frames_of}
use Rattle.bridge_model.specs.Applying.{effect_at}
use Rattle.bridge_model.specs.Ends.{ends_by}
use Rattle.bridge_model.specs.Entries.{Entry, fed, ended, failed, asked, called, queried, made, dropped, applied, took, reaped, drained, disposed, full, no_memory}
use Rattle.bridge_model.specs.Feeding.{feeds, remembers}
use Rattle.bridge_model.specs.Going.{drains}
use Rattle.bridge_model.specs.Histories.{Told, Leads}
use Rattle.bridge_model.specs.Objects.{lowest}
use Rattle.bridge_model.specs.Receiving.{refusal, receives, answers_at_once, below_top}
use Rattle.bridge_model.specs.References.{each_home, home_answer}
use Rattle.bridge_model.specs.Settings.{Setting}
use Rattle.bridge_model.specs.Sides.{Object, Side, stands, on_tables}
use Rattle.bridge_model.specs.Stacks.{with_unwound}
use Rattle.bridge_model.specs.Calls.{serves}
use Rattle.plan_model.specs.Plans.{first_objects}
use Rattle.bridge_model.specs.Steps.{turn, no_objects, opening, does, Picked, picked, applies_effect, applies_picked, reaps_some}
use Rattle.bridge_laws.specs.Counting.{total, places, releases_of, owed_by}
use Rattle.bridge_laws.proofs.FrameGrowsLaws.{grows_serves, grows_hands_from_peer, grows_answers_at_once, grows_applies, grows_root_calls, grows_root_queries, grows_root_asks, grows_root_makes, grows_root_drops, grows_root_takes, grows_reaps}
use Rattle.bridge_laws.proofs.GrowsLaws.{two_more, keeps_makes_all, stubs_after, Grown}
use Rattle.bridge_laws.proofs.HearingLaws.{along_feeds}
use Rattle.bridge_laws.proofs.HomeLaws.{unless_passed}
use Rattle.bridge_laws.proofs.OwingLaws.{AreOwed, after_owed, after_owe, released_owed, released_owes}
use Rattle.bridge_laws.proofs.Replays.{IsKept, along_replay}
use Rattle.bridge_laws.proofs.StandingLaws.{no_more, same_standing, stood}
use Rattle.bridge_laws.proofs.Sums.{total_append}

-- ---- the relation

-- what was got and what is newly said changes what is owed by as much
pub record Owing (reg : List Entity) (got said : List Message) (stubs stubs_now : Stubs) : Type 0 where
  pub owed : AreOwed stubs → AreOwed stubs_now
  pub debt : AreOwed stubs → (p : Pair) → total (places reg p) said + owed_by (stub p stubs) ≡ total (releases_of p) got + owed_by (stub p stubs_now)

-- the same of messages that stand behind those that were said before
pub record OwingMore (reg : List Entity) (got before after : List Message) (stubs stubs_now : Stubs) : Type 0 where
  pub new : List Message
  pub said : after ≡ before ++ new
  pub owing : Owing reg got new stubs stubs_now

owing_none : (reg : List Entity) (stubs : Stubs) → Owing reg [] [] stubs stubs
unfolding total
owing_none reg stubs = record { owed = λ owed. owed; debt = λ owed p. refl }

sums : (a b c d x y z : ℕ) → a + x ≡ b + y → c + y ≡ d + z → (a + c) + x ≡ (b + d) + z
sums a b c d x y z first later = omega arith

owing_on : {reg : List Entity} {got more said new : List Message} {x y z : Stubs} → Owing reg got said x y → Owing reg more new y z → Owing reg (got ++ more) (said ++ new) x z
owing_on {reg} {got} {more} {said} {new} {x} {y} {z} first later =
    record {
      owed = λ owed. later.owed (first.owed owed);
      debt =
          λ owed p.
          rw (total_append (places reg p) said new, total_append (releases_of p) got more)
          (sums (total (places reg p) said) (total (releases_of p) got) (total (places reg p) new) (total (releases_of p) more) (owed_by (stub p x)) (owed_by (stub p y)) (owed_by (stub p z))
          (first.debt owed p) (later.debt (first.owed owed) p));
    }

more_on : {reg : List Entity} {got more a b c : List Message} {x y z : Stubs} → OwingMore reg got a b x y → OwingMore reg more b c y z → OwingMore reg (got ++ more) a c x z
more_on {reg} {got} {more} {a} {b} {c} {x} {y} {z} first later =
    record { new = first.new ++ later.new; said = two_more a b c first.new later.new first.said later.said; owing = owing_on first.owing later.owing }

more_none : (reg : List Entity) (ms : List Message) (stubs : Stubs) → OwingMore reg [] ms ms stubs stubs
more_none reg ms stubs = record { new = []; said = sym (append-nil ms); owing = owing_none reg stubs }

-- what is said alone
grown_owes : (reg : List Entity) (p : Pair) (new : List Message) (stubs stubs_now : Stubs) (got : ℕ) → AreOwed stubs → stubs_now ≡ stubs_after reg new stubs → got ≡ 0
    → total (places reg p) new + owed_by (stub p stubs) ≡ got + owed_by (stub p stubs_now)
grown_owes reg p new stubs stubs_now got owed counted nothing =
    let same : owed_by (stub p stubs_now) ≡ owed_by (stub p (stubs_after reg new stubs)) = ap (λ x. owed_by (stub p x)) counted in
    let more = after_owe reg p new stubs owed in omega arith

pub owing_grown : {reg : List Entity} {a b : List Message} {x y : Stubs} (got : List Message) → ((p : Pair) → total (releases_of p) got ≡ 0) → Grown reg a b x y → OwingMore reg got a b x y
owing_grown {reg} {a} {b} {x} {y} got nothing grown =
    record {
      new = grown.new;
      said = grown.said;
      owing =
          record {
            owed = λ owed. subst AreOwed (sym grown.counted) (after_owed reg grown.new x owed);
            debt = λ owed p. grown_owes reg p grown.new x y (total (releases_of p) got) owed grown.counted (nothing p);
          };
    }

-- ---- a message that is received

none_got : (p : Pair) → total (releases_of p) [] ≡ 0
unfolding total
none_got p = refl

release_owes : (p : Pair) (tid oid face : List ℕ) (stubs : Stubs) → AreOwed stubs → is_some (stub (pair oid face) stubs) ≡ true
    → total (releases_of p) (release tid oid face ∷ []) + owed_by (stub p (released_one (pair oid face) stubs)) ≡ owed_by (stub p stubs)
unfolding total releases_of
release_owes p tid oid face stubs owed there = let less = released_owes p (pair oid face) stubs owed there in omega arith

release_got : (reg : List Entity) (tid oid face : List ℕ) (ms : List Message) (stubs : Stubs) → is_some (stub (pair oid face) stubs) ≡ true
    → OwingMore reg (release tid oid face ∷ []) ms ms stubs (released_one (pair oid face) stubs)
unfolding total
release_got reg tid oid face ms stubs there =
    record {
      new = [];
      said = sym (append-nil ms);
      owing =
          record {
            owed = λ owed. released_owed (pair oid face) stubs owed;
            debt = λ owed p. let less = release_owes p tid oid face stubs owed there in omega arith;
          };
    }

-- a request releases nothing
asks_nothing : (p : Pair) (tid oid face : List ℕ) (function : ℕ) (args : List Plain) → total (releases_of p) (request tid oid face function args ∷ []) ≡ 0
unfolding total releases_of
asks_nothing p tid oid face function args = omega arith

-- nor does a reply
replies_nothing : (p : Pair) (tid face : List ℕ) (function : ℕ) (a : Answer) → total (releases_of p) (reply tid face function a ∷ []) ≡ 0
unfolding total releases_of
replies_nothing p tid face function a = omega arith

-- what a side says and gets until it is another
abbrev pub Turns : Setting → List Message → Side → Side → Type 0
Turns g got s s' = OwingMore g.registry got s.tables.unsaid s'.tables.unsaid s.tables.stubs s'.tables.stubs

either : (g : Setting) (got : List Message) (b : Bool) (s x y : Side) → Turns g got s x → Turns g got s y → Turns g got s (if b then x else y)
either g got true s x y p q = p
either g got false s x y p q = q

received : (g : Setting) (m : Message) (s : Side) → refusal g s m ≡ None → Turns g (m ∷ []) s (receives g m s)
unfolding receives refusal
received g (release tid oid face) s is = release_got g.registry tid oid face s.tables.unsaid s.tables.stubs (unless_passed (is_some (stub (pair oid face) s.tables.stubs)) Unowed None is).0
received g (request tid oid face function args) s is =
    either g (request tid oid face function args ∷ []) (function == 0) s
    (on_tables (answers_at_once g tid oid face args) s)
    (with_unwound tid (serves g oid face function (each_home g args) (frames_of tid s.stacks) s.tables) s)
    (owing_grown _ (λ p. asks_nothing p tid oid face function args) (grows_answers_at_once g tid oid face args s.tables))
    (owing_grown _ (λ p. asks_nothing p tid oid face function args) (grows_serves g oid face function (each_home g args) (frames_of tid s.stacks) s.tables))
received g (reply tid face function a) s is =
    owing_grown _ (λ p. replies_nothing p tid face function a) (grows_hands_from_peer g tid (home_answer g a) (below_top (frames_of tid s.stacks)) s.tables)

-- ---- an entry

-- nothing is got
alone : {reg : List Entity} {a b : List Message} {x y : Stubs} → Grown reg a b x y → OwingMore reg [] a b x y
alone grows = owing_grown [] none_got grows

hears_owing : (g : Setting) (s : Side) (piece : List ℕ) → stands (feeds g piece s).side ≡ true → Turns g (feeds g piece s).got s (feeds g piece s).side
unfolding refusal
hears_owing g s piece up =
    along_feeds g (λ x. Turns g x.got s x.side)
    (λ bytes read x got is so_far. more_on so_far (received g read.0 (remembers read.1 x.side) is))
    piece s
    (λ bytes. more_none g.registry s.tables.unsaid s.tables.stubs)
    (λ bytes. more_none g.registry s.tables.unsaid s.tables.stubs)
    up

effect_owing : (g : Setting) (tid : List ℕ) (p : Picked) (e : Effect) (s : Side) → stands (applies_effect g tid p e s) ≡ true → Turns g [] s (applies_effect g tid p e s)
unfolding ends_by
effect_owing g tid p disposes s up = absurd (cc)
effect_owing g tid p (lets x) s up = alone (grows_applies g tid p.method p.below (lets x) s.tables)
effect_owing g tid p (sets x) s up = alone (grows_applies g tid p.method p.below (sets x) s.tables)
effect_owing g tid p (sets_field x) s up = alone (grows_applies g tid p.method p.below (sets_field x) s.tables)
effect_owing g tid p (drops name) s up = alone (grows_applies g tid p.method p.below (drops name) s.tables)
effect_owing g tid p skips s up = alone (grows_applies g tid p.method p.below skips s.tables)
effect_owing g tid p (calls target function args to) s up = alone (grows_applies g tid p.method p.below (calls target function args to) s.tables)
effect_owing g tid p (queries target wanted to) s up = alone (grows_applies g tid p.method p.below (queries target wanted to) s.tables)
effect_owing g tid p (makes behaviour face to) s up = alone (grows_applies g tid p.method p.below (makes behaviour face to) s.tables)
effect_owing g tid p (creates name args) s up = alone (grows_applies g tid p.method p.below (creates name args) s.tables)
effect_owing g tid p (returns x outs) s up = alone (grows_applies g tid p.method p.below (returns x outs) s.tables)
effect_owing g tid p (raises k x) s up = alone (grows_applies g tid p.method p.below (raises k x) s.tables)

picked_owing : (g : Setting) (tid : List ℕ) (o : Option Picked) (s : Side) → stands (applies_picked g tid o s) ≡ true → Turns g [] s (applies_picked g tid o s)
picked_owing g tid None s up = more_none g.registry s.tables.unsaid s.tables.stubs
picked_owing g tid (Some p) s up = effect_owing g tid p (effect_at g tid p.method p.below s.tables) s up

reaped_owing : (g : Setting) (o : Option Object) (s : Side) → Turns g [] s (reaps_some g o s)
reaped_owing g None s = more_none g.registry s.tables.unsaid s.tables.stubs
reaped_owing g (Some o) s = alone (grows_reaps g o s)

new_behind : {reg : List Entity} {got before after : List Message} {x y : Stubs} → OwingMore reg got before after x y → Owing reg got (drop (length before) after) x y
new_behind {reg} {got} {before} {after} {x} {y} more =
    subst (λ new. Owing reg got new x y) (sym (drop_at before more.new (length before) refl) ∙ ap (drop (length before)) (sym more.said)) more.owing

-- what an entry makes an end say and get
pub turned : (g : Setting) (e : Entry) (s : Side) → stands (does g e s).side ≡ true
    → Owing g.registry (turn e s (does g e s)).got (turn e s (does g e s)).said s.tables.stubs (turn e s (does g e s)).side.tables.stubs
unfolding does ends_by drains
turned g (fed b) s up = new_behind (hears_owing g s b up)
turned g ended s up = absurd (cc)
turned g failed s up = absurd (cc)
turned g (asked root name wanted) s up = new_behind (alone (grows_root_asks g root name wanted s))
turned g (called root oid face function args) s up = new_behind (alone (grows_root_calls g root oid face function args s))
turned g (queried root oid face wanted) s up = new_behind (alone (grows_root_queries g root oid face wanted s))
turned g (made root behaviour wanted) s up = new_behind (alone (grows_root_makes g root behaviour wanted s))
turned g (dropped root oid face) s up = new_behind (alone (grows_root_drops g root oid face s))
turned g (applied tid) s up = new_behind (picked_owing g tid (picked tid s) s up)
turned g (took root) s up = new_behind (alone (grows_root_takes g root s))
turned g (reaped object) s up = new_behind (reaped_owing g (lowest g s.tables) s)
turned g (drained b) s up = owing_none g.registry s.tables.stubs
turned g disposed s up = absurd (cc)
turned g full s up = absurd (cc)
turned g no_memory s up = absurd (no_more s.cause s up)

-- ---- histories

-- from the beginning of an end that stands
abbrev pub OwesAll : Setting → Told → Type 0
OwesAll g x = stands x.side ≡ true → Owing g.registry x.got x.said [] x.side.tables.stubs

opening_stubs : (g : Setting) → (opening g).tables.stubs ≡ []
unfolding opening
opening_stubs g = (keeps_makes_all g (first_objects g.plan) (no_objects g.plan)).counted

owing_kept : (g : Setting) → IsKept g (OwesAll g)
owing_kept g x e so_far can up =
    let here : stands (does g e x.side).side ≡ true = sym (same_standing g e x.side) ∙ up in
    owing_on (so_far (stood g e x.side can here)) (turned g e x.side here)

owing_all : (g : Setting) (es : List Entry) (x : Told) → Leads g es x → OwesAll g x
owing_all g es x leads = along_replay g (OwesAll g) (λ up. subst (Owing g.registry [] [] []) (sym (opening_stubs g)) (owing_none g.registry [])) (owing_kept g) es x leads

none_owed : AreOwed []
none_owed p = tt

-- each stub is owed
pub each_stub_owed : (g : Setting) (es : List Entry) (x : Told) → Leads g es x → stands x.side ≡ true → AreOwed x.side.tables.stubs
each_stub_owed g es x leads up = (owing_all g es x leads up).owed none_owed

-- the debt is the difference of a stub's numbers
pub debt_is : (g : Setting) (es : List Entry) (x : Told) (p : Pair) → Leads g es x → stands x.side ≡ true
    → total (places g.registry p) x.said ≡ total (releases_of p) x.got + owed_by (stub p x.side.tables.stubs)
debt_is g es x p leads up = let debt = (owing_all g es x leads up).debt none_owed p in omega arith

debt_tells : (o : Option Stub) (sent released : ℕ) → IfSome o IsOwed → sent ≡ released + owed_by o → is_some o ≡ true ↔ released < sent
debt_tells None sent released owed is = (λ there. absurd (cc), λ more. absurd (omega arith))
debt_tells (Some s) sent released owed is = (λ there. omega arith, λ more. refl)

-- a stub is there exactly where the debt is positive
pub stub_where : (g : Setting) (es : List Entry) (x : Told) (p : Pair) → Leads g es x → stands x.side ≡ true
    → is_some (stub p x.side.tables.stubs) ≡ true ↔ total (releases_of p) x.got < total (places g.registry p) x.said
stub_where g es x p leads up =
    debt_tells (stub p x.side.tables.stubs) (total (places g.registry p) x.said) (total (releases_of p) x.got) (each_stub_owed g es x leads up p) (debt_is g es x p leads up)
