-- Frames that begin.
use Rattle.std.specs.Prelude.{OnErr, OnOk}
use Rattle.std.proofs.Common.{◌≡◌, ℕ, Bool, true, false, if◌then◌else◌, List, [], ◌∷◌, Option, None, Some, is_some, Result, Ok, Err, refl, sym, ap, ◌∙◌}
use Rattle.uno_model.specs.Values.{Plain, Ref, null, own, peer}
use Rattle.table_model.specs.declared.holder.Holder.{Holder}
use Rattle.table_model.specs.declared.holder.Holder.TheVariants as holder
use Rattle.message_model.specs.Calls.{numbered}
use Rattle.message_model.specs.Messages.{Message, request}
use Rattle.plan_model.specs.Frames.{Variable, Frame, body, outgoing, Stack, frames_of, pushed}
use Rattle.plan_model.specs.Holdings.{first_variables}
use Rattle.bridge_model.specs.Calls.{Unwound, first_body, params_of, calls_own, serves, calls_peer, counts_frame}
use Rattle.bridge_model.specs.Objects.{object_named, number_of}
use Rattle.bridge_model.specs.References.{says, gains, gains_all, releases, takes, takes_all, is_held, lets_go_all, refs_of_values}
use Rattle.bridge_model.specs.Settings.{Setting, own_oid}
use Rattle.bridge_model.specs.Sides.{Object, Tables}
use Rattle.bridge_model.specs.Stacks.{puts_frames}
use Rattle.bridge_laws.proofs.IdentityLaws.{named_oid}
use Rattle.bridge_tables.specs.EndTables.{EndTables, lasting, on_tables, with_tables}
use Rattle.bridge_tables.proofs.LastingLemmas.{frame_gains, frame_gains_all, frame_lets_go_all, frame_takes_all, frames_stay, objects_stay}
use Rattle.bridge_frames.specs.Unwinding.{begins, stacks_by, tables_by}
use Rattle.bridge_frames.proofs.StackLemmas.{puts_pushed}

-- ---- what was answered

-- what holds whatever was answered, and what follows from what holds where it is no refusal
pub at_err : {A E P : Type 0} (r : Result A E) → P → OnErr r P
at_err (Ok x) p = tt
at_err (Err e) p = p

pub at_any : {A E P : Type 0} (r : Result A E) → P → OnOk r P
at_any (Ok x) p = p
at_any (Err e) p = tt

pub at_ok : {A E P Q : Type 0} (r : Result A E) → (P → Q) → OnOk r P → OnOk r Q
at_ok (Ok x) f p = f p
at_ok (Err e) f p = p

-- ---- what is done behind a change of the tables

pub stacks_behind : {A E : Type 0} (r : Result A E) (tid : List ℕ) (u w : Unwound) (ss after : List Stack) → u ≡ w → OnOk r (after ≡ stacks_by tid u ss) → OnOk r (after ≡ stacks_by tid w ss)
stacks_behind (Ok x) tid u w ss after same here = here ∙ ap (λ v. stacks_by tid v ss) same
stacks_behind (Err e) tid u w ss after same here = here

pub tables_behind : {A E : Type 0} (r : Result A E) (u w : Unwound) (t : Tables) (before between after : EndTables) → u ≡ w → between ≡ with_tables t before → OnOk r (after ≡ tables_by u between)
    → OnOk r (after ≡ tables_by w before)
tables_behind (Ok x) u w t before between after same held here = here ∙ (λ i. with_tables (same i).tables (held i))
tables_behind (Err e) u w t before between after same held here = here

pub lost_behind : {A E : Type 0} (r : Result A E) (before between after : EndTables) → lasting between ≡ lasting before → OnErr r (lasting after ≡ lasting between) → OnErr r (lasting after ≡ lasting before)
lost_behind (Ok x) before between after same here = here
lost_behind (Err e) before between after same here = here ∙ same

-- what lasts is the same behind what a frame gains, takes or lets go, and behind what is said
pub lasting_gained : (n : ℕ) (r : Ref) (e after : EndTables) → after ≡ on_tables (gains (holder.Frame n) r) e → lasting after ≡ lasting e
lasting_gained n r e after is = ap lasting is ∙ ap (λ t. with_tables t e) (frame_gains n r e.tables)

pub lasting_all_gained : (n : ℕ) (rs : List Ref) (e after : EndTables) → after ≡ on_tables (gains_all (holder.Frame n) rs) e → lasting after ≡ lasting e
lasting_all_gained n rs e after is = ap lasting is ∙ ap (λ t. with_tables t e) (frame_gains_all n rs e.tables)

pub lasting_all_gone : (n : ℕ) (g : Setting) (rs : List Ref) (e after : EndTables) → after ≡ on_tables (lets_go_all g (holder.Frame n) rs) e → lasting after ≡ lasting e
lasting_all_gone n g rs e after is = ap lasting is ∙ ap (λ t. with_tables t e) (frame_lets_go_all n g rs e.tables)

pub lasting_all_taken : (n : ℕ) (g : Setting) (rs : List Ref) (e after : EndTables) → after ≡ on_tables (takes_all g (holder.Frame n) rs) e → lasting after ≡ lasting e
lasting_all_taken n g rs e after is = ap lasting is ∙ ap (λ t. with_tables t e) (frame_takes_all n g rs e.tables)

pub lasting_said : (g : Setting) (m : Message) (e after : EndTables) → after ≡ on_tables (says g m) e → lasting after ≡ lasting e
unfolding says
lasting_said g m e after is = ap lasting is

-- ---- what is taken changes holdings and what is said alone

abbrev quietly : Tables → Tables → Tables
quietly u t = record t { holdings = u.holdings; stubs = u.stubs; unsaid = u.unsaid }

module _ (g : Setting) (h : Holder) where
  taken_peer : (b : Bool) (oid face : List ℕ) (t : Tables)
      → gains h (peer oid face) (if b then releases g oid face t else t) ≡ quietly (gains h (peer oid face) (if b then releases g oid face t else t)) t
  unfolding says
  taken_peer true oid face t = refl
  taken_peer false oid face t = refl

  taken_quietly : (r : Ref) (t : Tables) → takes g h r t ≡ quietly (takes g h r t) t
  taken_quietly null t = refl
  taken_quietly (own oid face) t = refl
  taken_quietly (peer oid face) t = taken_peer (is_held oid face t) oid face t

  all_taken_quietly : (rs : List Ref) (t : Tables) → takes_all g h rs t ≡ quietly (takes_all g h rs t) t
  unfolding takes_all
  all_taken_quietly [] t = refl
  all_taken_quietly (r ∷ rs) t = all_taken_quietly rs (takes g h r t) ∙ ap (quietly (takes_all g h rs (takes g h r t))) (taken_quietly r t)

  objects_taken : (rs : List Ref) (t : Tables) → (takes_all g h rs t).objects ≡ t.objects
  objects_taken rs t = ap (λ x. x.objects) (all_taken_quietly rs t)

  frames_taken : (rs : List Ref) (t : Tables) → (takes_all g h rs t).frames_made ≡ t.frames_made
  frames_taken rs t = ap (λ x. x.frames_made) (all_taken_quietly rs t)

-- ---- a method whose arguments are held begins

-- its first frame reads what holding leaves
first_again : (g : Setting) (from_peer : Bool) (oid face : List ℕ) (function : ℕ) (args : List Plain) (t u : Tables) → u.objects ≡ t.objects → u.frames_made ≡ t.frames_made
    → first_body g from_peer oid face function args u ≡ first_body g from_peer oid face function args t
first_again g from_peer oid face function args t u objects frames =
    (λ i. record {
      number = frames i;
      object = number_of (object_named g oid (objects i));
      face = face;
      function = function;
      from_peer = from_peer;
      variables = first_variables g.registry (params_of (numbered g.registry face function)) args;
      place = 0;
    })

module _ (g : Setting) (oid face : List ℕ) (function : ℕ) (args : List Plain) (fs : List Frame) (e held : EndTables) where
  pub begun_here : held ≡ on_tables (λ t. gains_all (holder.Frame t.frames_made) (refs_of_values args) t) e → begins g (first_body g false oid face function args held.tables) fs held.tables ≡ calls_own g oid face function args fs e.tables
  unfolding calls_own
  begun_here gained =
      let h : Holder = holder.Frame e.tables.frames_made in
      let now : held.tables ≡ gains_all h (refs_of_values args) e.tables = ap (λ x. x.tables) gained in
      let first = first_again g false oid face function args e.tables held.tables (ap (λ x. x.objects) now ∙ objects_stay h (refs_of_values args) e.tables)
      (ap (λ x. x.frames_made) now ∙ frames_stay h (refs_of_values args) e.tables) in
      (λ i. begins g (first i) fs (now i))

  pub begun_there : held ≡ on_tables (λ t. takes_all g (holder.Frame t.frames_made) (refs_of_values args) t) e → begins g (first_body g true oid face function args held.tables) fs held.tables ≡ serves g oid face function args fs e.tables
  unfolding serves
  begun_there taken =
      let h : Holder = holder.Frame e.tables.frames_made in
      let now : held.tables ≡ takes_all g h (refs_of_values args) e.tables = ap (λ x. x.tables) taken in
      let first = first_again g true oid face function args e.tables held.tables (ap (λ x. x.objects) now ∙ objects_taken g h (refs_of_values args) e.tables)
      (ap (λ x. x.frames_made) now ∙ frames_taken g h (refs_of_values args) e.tables) in
      (λ i. begins g (first i) fs (now i))

-- its frame stands on those of its thread
pub first_pushed : (g : Setting) (from_peer : Bool) (oid face : List ℕ) (function : ℕ) (args : List Plain) (t : Tables) (tid : List ℕ) (n o : ℕ) (xs : List Variable) (ss after : List Stack)
    → n ≡ t.frames_made → o ≡ number_of (object_named g oid t.objects) → xs ≡ first_variables g.registry (params_of (numbered g.registry face function)) args
    → after ≡ pushed tid (body (record { number = n; object = o; face = face; function = function; from_peer = from_peer; variables = xs; place = 0 })) ss
    → after ≡ puts_frames tid (body (first_body g from_peer oid face function args t) ∷ frames_of tid ss) ss
first_pushed g from_peer oid face function args t tid n o xs ss after number object variables here =
    here
    ∙ (λ i. pushed tid (body (record { number = number i; object = object i; face = face; function = function; from_peer = from_peer; variables = variables i; place = 0 })) ss)
    ∙ puts_pushed tid (body (first_body g from_peer oid face function args t)) ss

-- ---- a call goes out

pub frames_said : (g : Setting) (m : Message) (e after : EndTables) → after ≡ on_tables (says g m) e → after.tables.frames_made ≡ e.tables.frames_made
unfolding says
frames_said g m e after is = ap (λ x. x.tables.frames_made) is

pub out_pushed : (g : Setting) (tid oid face : List ℕ) (function : ℕ) (args : List Plain) (t : Tables) (n : ℕ) (ss after : List Stack) → n ≡ t.frames_made
    → after ≡ pushed tid (outgoing (record { number = n; oid = oid; face = face; function = function })) ss → after ≡ stacks_by tid (calls_peer g tid oid face function args (frames_of tid ss) t) ss
unfolding calls_peer
out_pushed g tid oid face function args t n ss after number here =
    here ∙ (λ i. pushed tid (outgoing (record { number = number i; oid = oid; face = face; function = function })) ss)
    ∙ puts_pushed tid (outgoing (record { number = t.frames_made; oid = oid; face = face; function = function })) ss

pub out_counted : (g : Setting) (tid oid face : List ℕ) (function : ℕ) (args : List Plain) (fs : List Frame) (e said after : EndTables) → said ≡ on_tables (says g (request tid oid face function args)) e
    → after ≡ on_tables counts_frame said → after ≡ tables_by (calls_peer g tid oid face function args fs e.tables) e
unfolding calls_peer
out_counted g tid oid face function args fs e said after spoken here = here ∙ ap (on_tables counts_frame) spoken

-- ---- the identity by which an own object is called

is_there : (x : Option Object) → (number_of x ≡ 0 → ⊥) → is_some x ≡ true
is_there None there = absurd (there refl)
is_there (Some o) there = refl

-- where it has a number, it is that number's
pub called_itself : (g : Setting) (oid : List ℕ) (os : List Object) (n : ℕ) → n ≡ number_of (object_named g oid os) → (n ≡ 0 → ⊥) → oid ≡ own_oid g n
called_itself g oid os n is there = sym (named_oid g oid os (is_there (object_named g oid os) (λ none. there (is ∙ none)))) ∙ ap (own_oid g) (sym is)
