-- Tables of which all can be carried by bytes: what objects have, the pairs that are held, what roots got, and what is said.
use Rattle.std.proofs.Common.{◌≡◌, ℕ, zero, suc, ◌+◌, ◌<◌, Bool, true, false, cond, if◌then◌else◌, List, [], ◌∷◌, map, slice_set, refl, sym, subst, arith}
use Rattle.std.specs.Cmp.{Equal-is}
use Rattle.std.specs.List.{AllByRecursion}
use Rattle.std.specs.Ordering.{eq_by_cmp}
use Rattle.std.specs.Str.{IsUtf8}
use Rattle.std.specs.declared.cmp.Ordering.{Ordering}
use Rattle.std.proofs.lemmas.Bool.{ltb-true}
use Rattle.message_model.specs.Messages.{Answer, returned, raised, Message, request, release, reply}
use Rattle.message_model.specs.Sayable.{AnswerSpellable, MessageSpellable}
use Rattle.uno_model.specs.Spellable.{IsSpellableRef}
use Rattle.uno_model.specs.Values.{Ref, null, own, peer}
use Rattle.table_model.specs.Bags.{one_more, one_less, how_often}
use Rattle.table_model.specs.Holdings.{Hold, hold, hold_cmp, Holdings, holds, outlasts}
use Rattle.table_model.specs.Pair.{pair}
use Rattle.table_model.specs.declared.holder.Holder.{Holder}
use Rattle.table_model.proofs.HoldLaws.{same_hold}
use Rattle.bridge_model.specs.Ends.{outcome_at_end, state_at_end, tables_at_end}
use Rattle.bridge_model.specs.References.{says, releases, gains, gains_all, is_held, takes, takes_all, loses, loses_all, stays, gives_back, holds_ref, lets_go, lets_go_all, refs_of_values, refs_of_answer}
use Rattle.bridge_model.specs.Settings.{Setting, release_tid}
use Rattle.bridge_model.specs.Sides.{Object, RootState, waits_call, waits_query, Tables, states_with, with_root}
use Rattle.bridge_model.specs.declared.cause.Cause.{Cause}
use Rattle.bridge_model.specs.declared.cause.Cause.TheVariants as cause
use Rattle.bridge_laws.specs.Holding.{AnswerGoes, MessageGoes, OutcomeSpellable, StateSpellable}
use Rattle.bridge_laws.proofs.JobSpelling.{all_filtered}
use Rattle.bridge_laws.proofs.ValueSpelling.{AllSpellable, RefsSpellable, all_append, as_plains, refs_spellable, values_refs}

-- ---- words

abbrev pub ObjectSpellable : Object → Type 0
ObjectSpellable o = AllSpellable o.fields

abbrev pub HoldSpellable : Hold → Type 0
HoldSpellable h = IsUtf8 h.pair.oid

pub record Table (objects : List Object) (hs : Holdings) (roots : List RootState) (unsaid : List Message) : Type 0 where
  pub fields : AllByRecursion ObjectSpellable objects
  pub held : AllByRecursion HoldSpellable hs
  pub states : AllByRecursion StateSpellable roots
  pub said : AllByRecursion MessageGoes unsaid

abbrev pub TablesSpellable : Tables → Type 0
TablesSpellable t = Table t.objects t.holdings t.roots t.unsaid

-- ---- answers

answer_spellable : (a : Answer) → AnswerGoes a → AnswerSpellable a
answer_spellable (returned x outs) fine = (fine.0, as_plains outs fine.1)
answer_spellable (raised k x) fine = fine.1

-- a message that goes so can be carried by bytes
pub message_spellable : (m : Message) → MessageGoes m → MessageSpellable m
message_spellable (request tid oid face function args) is = (is.0, as_plains args is.1)
message_spellable (release tid oid face) is = is
message_spellable (reply tid face function a) is = answer_spellable a is

pub messages_spellable : (ms : List Message) → AllByRecursion MessageGoes ms → AllByRecursion MessageSpellable ms
messages_spellable [] all = tt
messages_spellable (m ∷ ms) all = (message_spellable m all.0, messages_spellable ms all.1)

pub answer_refs : (a : Answer) → AnswerGoes a → RefsSpellable (refs_of_answer a)
unfolding refs_of_answer
answer_refs (returned x outs) fine = all_append IsSpellableRef _ (refs_of_values outs) (refs_spellable x fine.0) (values_refs outs fine.1)
answer_refs (raised k x) fine = refs_spellable x fine.1

-- ---- bags

more_by : {X : Type 0} (P : X → Type 0) (b : Bool) (x y : X) (xs ys : List X) → P x → P y → AllByRecursion P xs → AllByRecursion P ys → AllByRecursion P (cond b (y ∷ xs) (x ∷ y ∷ ys))
more_by P true x y xs ys one two here there = (two, here)
more_by P false x y xs ys one two here there = (one, (two, there))

all_more : {X : Type 0} (P : X → Type 0) (cmp : X → X → Ordering) (x : X) (ys : List X) → P x → AllByRecursion P ys → AllByRecursion P (one_more cmp x ys)
all_more P cmp x [] one all = (one, tt)
all_more P cmp x (y ∷ ys) one all = more_by P _ x y (one_more cmp x ys) ys one all.0 (all_more P cmp x ys one all.1) all.1

less_by : {X : Type 0} (P : X → Type 0) (b : Bool) (y : X) (xs ys : List X) → P y → AllByRecursion P xs → AllByRecursion P ys → AllByRecursion P (cond b ys (y ∷ xs))
less_by P true y xs ys two here there = there
less_by P false y xs ys two here there = (two, here)

all_less : {X : Type 0} (P : X → Type 0) (cmp : X → X → Ordering) (x : X) (ys : List X) → AllByRecursion P ys → AllByRecursion P (one_less cmp x ys)
all_less P cmp x [] all = tt
all_less P cmp x (y ∷ ys) all = less_by P _ y (one_less cmp x ys) ys all.0 (all_less P cmp x ys all.1) all.1

often_by : (h k : Hold) (b : Bool) (rest : ℕ) → eq_by_cmp hold_cmp h k ≡ b → HoldSpellable k → (0 < rest → HoldSpellable h) → 0 < cond b 1 0 + rest → HoldSpellable h
often_by h k true rest is here behind there = let same : k ≡ h = sym (same_hold h k ((Equal-is _).0 is)) in subst HoldSpellable same here
often_by h k false rest is here behind there = behind (omega arith)

often_spellable : (h : Hold) (hs : Holdings) → AllByRecursion HoldSpellable hs → 0 < how_often hold_cmp h hs → HoldSpellable h
often_spellable h [] all there = absurd (omega arith)
often_spellable h (k ∷ hs) all there = often_by h k (eq_by_cmp hold_cmp h k) (how_often hold_cmp h hs) refl all.0 (often_spellable h hs all.1) there

-- the identity of a pair that is held is UTF-8
pub holds_spellable : (h : Hold) (hs : Holdings) → AllByRecursion HoldSpellable hs → holds h hs ≡ true → HoldSpellable h
holds_spellable h hs all is = often_spellable h hs all (ltb-true 0 (how_often hold_cmp h hs) is)

-- ---- saying

pub says_spellable : (g : Setting) (m : Message) (t : Tables) → MessageGoes m → TablesSpellable t → TablesSpellable (says g m t)
unfolding says
says_spellable g m t is fine = record { fields = fine.fields; held = fine.held; states = fine.states; said = all_append MessageGoes t.unsaid (m ∷ []) fine.said (is, tt) }

releases_spellable : (g : Setting) (oid face : List ℕ) (t : Tables) → IsUtf8 oid → TablesSpellable t → TablesSpellable (releases g oid face t)
releases_spellable g oid face t is fine = says_spellable g (release (release_tid g) oid face) t is fine

tables_by : (b : Bool) (t u : Tables) → TablesSpellable t → TablesSpellable u → TablesSpellable (if b then t else u)
tables_by true t u p q = p
tables_by false t u p q = q

-- ---- holding

pub gains_spellable : (h : Holder) (r : Ref) (t : Tables) → IsSpellableRef r → TablesSpellable t → TablesSpellable (gains h r t)
gains_spellable h null t is fine = fine
gains_spellable h (own oid face) t is fine =
    record { fields = fine.fields; held = all_more HoldSpellable hold_cmp (hold h (pair oid face)) t.holdings is fine.held; states = fine.states; said = fine.said }
gains_spellable h (peer oid face) t is fine =
    record { fields = fine.fields; held = all_more HoldSpellable hold_cmp (hold h (pair oid face)) t.holdings is fine.held; states = fine.states; said = fine.said }

pub gains_all_spellable : (h : Holder) (rs : List Ref) (t : Tables) → RefsSpellable rs → TablesSpellable t → TablesSpellable (gains_all h rs t)
unfolding gains_all
gains_all_spellable h [] t are fine = fine
gains_all_spellable h (r ∷ rs) t are fine = gains_all_spellable h rs (gains h r t) are.1 (gains_spellable h r t are.0 fine)

pub takes_spellable : (g : Setting) (h : Holder) (r : Ref) (t : Tables) → IsSpellableRef r → TablesSpellable t → TablesSpellable (takes g h r t)
takes_spellable g h null t is fine = fine
takes_spellable g h (own oid face) t is fine = gains_spellable h (own oid face) t is fine
takes_spellable g h (peer oid face) t is fine =
    gains_spellable h (peer oid face) (if is_held oid face t then releases g oid face t else t) is
    (tables_by (is_held oid face t) (releases g oid face t) t (releases_spellable g oid face t is fine) fine)

pub takes_all_spellable : (g : Setting) (h : Holder) (rs : List Ref) (t : Tables) → RefsSpellable rs → TablesSpellable t → TablesSpellable (takes_all g h rs t)
unfolding takes_all
takes_all_spellable g h [] t are fine = fine
takes_all_spellable g h (r ∷ rs) t are fine = takes_all_spellable g h rs (takes g h r t) are.1 (takes_spellable g h r t are.0 fine)

-- ---- letting go

pub loses_spellable : (h : Holder) (r : Ref) (t : Tables) → TablesSpellable t → TablesSpellable (loses h r t)
loses_spellable h null t fine = fine
loses_spellable h (own oid face) t fine =
    record { fields = fine.fields; held = all_less HoldSpellable hold_cmp (hold h (pair oid face)) t.holdings fine.held; states = fine.states; said = fine.said }
loses_spellable h (peer oid face) t fine =
    record { fields = fine.fields; held = all_less HoldSpellable hold_cmp (hold h (pair oid face)) t.holdings fine.held; states = fine.states; said = fine.said }

pub loses_all_spellable : (h : Holder) (rs : List Ref) (t : Tables) → TablesSpellable t → TablesSpellable (loses_all h rs t)
unfolding loses_all
loses_all_spellable h [] t fine = fine
loses_all_spellable h (r ∷ rs) t fine = loses_all_spellable h rs (loses h r t) (loses_spellable h r t fine)

-- what is let go was held, and so may be released
gives_back_spellable : (g : Setting) (r : Ref) (t : Tables) → IsSpellableRef r → TablesSpellable t → TablesSpellable (gives_back g r t)
gives_back_spellable g null t is fine = fine
gives_back_spellable g (own oid face) t is fine = fine
gives_back_spellable g (peer oid face) t is fine = tables_by (stays g oid face t) t (releases g oid face t) fine (releases_spellable g oid face t is fine)

pub held_ref : (h : Holder) (r : Ref) (t : Tables) → TablesSpellable t → holds_ref h r t ≡ true → IsSpellableRef r
held_ref h null t fine is = tt
held_ref h (own oid face) t fine is = holds_spellable (hold h (pair oid face)) t.holdings fine.held is
held_ref h (peer oid face) t fine is = holds_spellable (hold h (pair oid face)) t.holdings fine.held is

let_go_by : (b : Bool) (t u : Tables) → (b ≡ true → TablesSpellable t) → TablesSpellable u → TablesSpellable (if b then t else u)
let_go_by true t u p q = p refl
let_go_by false t u p q = q

pub lets_go_spellable : (g : Setting) (h : Holder) (r : Ref) (t : Tables) → TablesSpellable t → TablesSpellable (lets_go g h r t)
lets_go_spellable g h r t fine =
    let_go_by (holds_ref h r t) (gives_back g r (loses h r t)) t
    (λ is. gives_back_spellable g r (loses h r t) (held_ref h r t fine is) (loses_spellable h r t fine)) fine

pub lets_go_all_spellable : (g : Setting) (h : Holder) (rs : List Ref) (t : Tables) → TablesSpellable t → TablesSpellable (lets_go_all g h rs t)
unfolding lets_go_all
lets_go_all_spellable g h [] t fine = fine
lets_go_all_spellable g h (r ∷ rs) t fine = lets_go_all_spellable g h rs (lets_go g h r t) (lets_go_spellable g h r t fine)

-- ---- roots

all_set : {X : Type 0} (P : X → Type 0) (xs : List X) (n : ℕ) (x : X) → P x → AllByRecursion P xs → AllByRecursion P (slice_set xs n x)
all_set P [] n x is all = tt
all_set P (y ∷ ys) zero x is all = (is, all.1)
all_set P (y ∷ ys) (suc n) x is all = (all.0, all_set P ys n x is all.1)

states_spellable : (root : ℕ) (s : RootState) (states : List RootState) → StateSpellable s → AllByRecursion StateSpellable states → AllByRecursion StateSpellable (states_with root s states)
unfolding states_with
states_spellable zero s states is all = all
states_spellable (suc n) s states is all = all_set StateSpellable states n s is all

pub with_root_spellable : (root : ℕ) (s : RootState) (t : Tables) → StateSpellable s → TablesSpellable t → TablesSpellable (with_root root s t)
with_root_spellable root s t is fine = record { fields = fine.fields; held = fine.held; states = states_spellable root s t.roots is fine.states; said = fine.said }

-- ---- the end

outcome_ended : (why : Cause) → OutcomeSpellable (outcome_at_end why)
outcome_ended cause.NoMemory = tt
outcome_ended why = tt

state_ended : (why : Cause) (s : RootState) → StateSpellable s → StateSpellable (state_at_end why s)
state_ended why waits_call is = outcome_ended why
state_ended why (waits_query wanted) is = outcome_ended why
state_ended why s is = is

states_ended : (why : Cause) (states : List RootState) → AllByRecursion StateSpellable states → AllByRecursion StateSpellable (map (state_at_end why) states)
states_ended why [] all = tt
states_ended why (s ∷ states) all = (state_ended why s all.0, states_ended why states all.1)

pub end_spellable : (why : Cause) (t : Tables) → TablesSpellable t → TablesSpellable (tables_at_end why t)
end_spellable why t fine =
    record { fields = fine.fields; held = all_filtered HoldSpellable outlasts t.holdings fine.held; states = states_ended why t.roots fine.states; said = fine.said }
