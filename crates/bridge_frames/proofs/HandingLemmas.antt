-- Answers that are handed to the frames of a thread.
use Rattle.std.proofs.Common.{◌≡◌, ℕ, true, false, if◌then◌else◌, List, [], ◌∷◌, drop, Option, Some, Result, Ok, Err, refl, sym, ap, subst, ◌∙◌}
use Rattle.std.specs.Prelude.{OnErr, OnOk}
use Rattle.message_model.specs.Messages.{Answer, returned, raised}
use Rattle.uno_model.specs.Kinds.{Kind}
use Rattle.uno_base.specs.declared.no_memory.NoMemory.{NoMemory}
use Rattle.uno_model.specs.Values.{Ref, Plain, refs}
use Rattle.uno_values.specs.declared.value.AnyValue.{AnyValue}
use Rattle.plan_model.specs.Frames.{Body, Frame, base, body, outgoing, Stack, first_frame, frames_of, is_body, popped, top}
use Rattle.plan_model.specs.Leaving.{leaving_frame}
use Rattle.bridge_model.specs.Calls.{Unwound, unwound}
use Rattle.bridge_model.specs.Handing.{answers_peer, ends_frame, gains_below, goes_on_with, hands, hands_down, hands_from_peer, hands_over, root_gets, takes_below}
use Rattle.bridge_model.specs.References.{refs_of_answer}
use Rattle.bridge_model.specs.Settings.{Setting}
use Rattle.bridge_model.specs.Sides.{Tables, state_of}
use Rattle.bridge_model.specs.Stacks.{puts_frames}
use Rattle.bridge_tables.specs.EndTables.{EndTables, lasting, on_tables, with_tables}
use Rattle.bridge_frames.specs.Raising.{GoesThrough, Leaves}
use Rattle.bridge_frames.specs.Unwinding.{is_root, stacks_by, tables_by}
use Rattle.bridge_frames.proofs.LastingLemmas.{gained_below, handed_over, taken_below}
use Rattle.bridge_frames.proofs.StackLemmas.{puts_again, puts_popped, puts_same}

-- ---- what is on top

-- a method on top, and the frames below it
pub record IsMethod (fs : List Frame) : Type 0 where
  pub method : Body
  pub below : List Frame
  pub all : fs ≡ body method ∷ below

pub method_of : (fs : List Frame) → is_body (first_frame fs) ≡ true → IsMethod fs
method_of [] is = absurd (cc)
method_of (base root ∷ fs) is = absurd (cc)
method_of (body b ∷ fs) is = record { method = b; below = fs; all = refl }
method_of (outgoing o ∷ fs) is = absurd (cc)

pub no_root : (fs : List Frame) → is_body (first_frame fs) ≡ true → is_root fs ≡ false
no_root [] is = refl
no_root (base root ∷ fs) is = absurd (cc)
no_root (body b ∷ fs) is = refl
no_root (outgoing o ∷ fs) is = refl

-- ---- what handing does

module _ (g : Setting) (tid : List ℕ) where
  pub hands_root : (a : Answer) (root : ℕ) (fs : List Frame) (t : Tables) → first_frame fs ≡ Some (base root) → hands g tid a fs t ≡ unwound [] (root_gets g root (state_of root t.roots) a t)
  unfolding hands
  hands_root a root [] t is = absurd (cc)
  hands_root a root (base other ∷ fs) t is = let same : other ≡ root = cc in ap (λ n. unwound [] (root_gets g n (state_of n t.roots) a t)) same
  hands_root a root (body b ∷ fs) t is = absurd (cc)
  hands_root a root (outgoing o ∷ fs) t is = absurd (cc)

  pub hands_nobody : (a : Answer) (fs : List Frame) (t : Tables) → is_root fs ≡ false → is_body (first_frame fs) ≡ false → hands g tid a fs t ≡ unwound fs t
  unfolding hands
  hands_nobody a [] t other none = refl
  hands_nobody a (base root ∷ fs) t other none = absurd (cc)
  hands_nobody a (body b ∷ fs) t other none = absurd (cc)
  hands_nobody a (outgoing o ∷ fs) t other none = refl

  pub hands_returned : (x : Plain) (outs : List Plain) (b : Body) (fs : List Frame) (t : Tables) → hands g tid (returned x outs) (body b ∷ fs) t ≡ goes_on_with g b x outs fs t
  unfolding hands
  hands_returned x outs b fs t = refl

  pub hands_peer : (k : Kind) (x : Plain) (b : Body) (fs : List Frame) (t : Tables) → b.from_peer ≡ true
      → hands g tid (raised k x) (body b ∷ fs) t ≡ unwound fs (answers_peer g tid b (refs_of_answer (raised k x)) (leaving_frame g.registry tid b (raised k x)) t)
  unfolding hands refs_of_answer
  hands_peer k x b fs t is =
      ap
      (λ c. if c then unwound fs (answers_peer g tid b (refs x) (leaving_frame g.registry tid b (raised k x)) t)
      else hands g tid (leaving_frame g.registry tid b (raised k x)) fs (hands_over g b (refs x) (leaving_frame g.registry tid b (raised k x)) fs t))
      is

  pub hands_on : (k : Kind) (x : Plain) (b : Body) (fs : List Frame) (t : Tables) → b.from_peer ≡ false
      → hands g tid (raised k x) (body b ∷ fs) t
      ≡ hands g tid (leaving_frame g.registry tid b (raised k x)) fs (hands_over g b (refs_of_answer (raised k x)) (leaving_frame g.registry tid b (raised k x)) fs t)
  unfolding hands refs_of_answer
  hands_on k x b fs t is =
      ap
      (λ c. if c then unwound fs (answers_peer g tid b (refs x) (leaving_frame g.registry tid b (raised k x)) t)
      else hands g tid (leaving_frame g.registry tid b (raised k x)) fs (hands_over g b (refs x) (leaving_frame g.registry tid b (raised k x)) fs t))
      is

  -- where no frame is, nothing is done
  pub hands_none : (a : Answer) (t : Tables) → hands g tid a [] t ≡ unwound [] t
  unfolding hands
  hands_none a t = refl

-- ---- as code hands them

-- what follows from a success, or from two facts of a refusal
pub on_ok : {A E P Q : Type 0} (r : Result A E) → (P → Q) → OnOk r P → OnOk r Q
on_ok (Ok x) f p = f p
on_ok (Err e) f p = tt

pub on_errs : {A E P Q R : Type 0} (r : Result A E) → (P → Q → R) → OnErr r P → OnErr r Q → OnErr r R
on_errs (Ok x) f p q = tt
on_errs (Err e) f p q = f p q

frames_by : (tid : List ℕ) (ss : List Stack) (u v : Unwound) → u ≡ v → stacks_by tid u ss ≡ stacks_by tid v ss
frames_by tid ss u v same = ap (λ w. stacks_by tid w ss) same

-- what is done to the frames below one that is gone
pub below_stacks : (tid : List ℕ) (ss : List Stack) {A E : Type 0} (r : Result A E) (after between : List Stack) (fs : List Frame) (change : List Frame → Unwound) → (change []).frames ≡ []
    → frames_of tid between ≡ fs → between ≡ puts_frames tid fs ss → ((h : Frame) → (hs : List Frame) → frames_of tid between ≡ h ∷ hs → OnOk r (after ≡ stacks_by tid (change (h ∷ hs)) between))
    → (frames_of tid between ≡ [] → OnOk r (after ≡ between)) → OnOk r (after ≡ stacks_by tid (change fs) ss)
below_stacks tid ss r after between [] change nothing found put some none = on_ok r (λ p. p ∙ put ∙ ap (λ xs. puts_frames tid xs ss) (sym nothing)) (none found)
below_stacks tid ss r after between (h ∷ hs) change nothing found put some none =
    on_ok r (λ p. p ∙ ap (stacks_by tid (change (h ∷ hs))) put ∙ puts_again tid h hs (change (h ∷ hs)).frames ss) (some h hs found)

module _ (g : Setting) (tid : List ℕ) (a : Answer) (ss : List Stack) (e : EndTables) where
  -- a root
  pub root_stacks : (after : List Stack) (root : ℕ) (f : Frame) (fs : List Frame) → top tid ss ≡ Some (base root) → frames_of tid ss ≡ f ∷ fs → after ≡ puts_frames tid [] ss
      → after ≡ stacks_by tid (hands g tid a (f ∷ fs) e.tables) ss
  root_stacks after root f fs above is ends =
      ends ∙ frames_by tid ss (unwound [] (root_gets g root (state_of root e.tables.roots) a e.tables)) (hands g tid a (f ∷ fs) e.tables)
      (sym (hands_root g tid a root (f ∷ fs) e.tables (ap first_frame (sym is) ∙ above)))

  pub root_tables : (now : EndTables) (root : ℕ) → top tid ss ≡ Some (base root) → now ≡ on_tables (λ t. root_gets g root (state_of root t.roots) a t) e
      → now ≡ tables_by (hands g tid a (frames_of tid ss) e.tables) e
  root_tables now root above gets = gets ∙ ap (λ u. tables_by u e) (sym (hands_root g tid a root (frames_of tid ss) e.tables above))

  -- nobody
  pub nobody_stacks : (f : Frame) (fs : List Frame) → is_root (frames_of tid ss) ≡ false → is_body (top tid ss) ≡ false → frames_of tid ss ≡ f ∷ fs → ss ≡ stacks_by tid (hands g tid a (f ∷ fs) e.tables) ss
  nobody_stacks f fs other none is =
      sym (puts_same tid f fs ss is)
      ∙ frames_by tid ss (unwound (f ∷ fs) e.tables) (hands g tid a (f ∷ fs) e.tables)
      (sym (hands_nobody g tid a (f ∷ fs) e.tables (ap is_root (sym is) ∙ other) (ap (λ xs. is_body (first_frame xs)) (sym is) ∙ none)))

  pub nobody_tables : is_root (frames_of tid ss) ≡ false → is_body (top tid ss) ≡ false → e ≡ tables_by (hands g tid a (frames_of tid ss) e.tables) e
  nobody_tables other none = ap (λ u. tables_by u e) (sym (hands_nobody g tid a (frames_of tid ss) e.tables other none))

  -- a method that goes on
  pub returned_stacks : (after : List Stack) (x : Plain) (outs : List Plain) (f : Frame) (fs : List Frame) → a ≡ returned x outs → is_body (top tid ss) ≡ true → frames_of tid ss ≡ f ∷ fs
      → ((b : Body) → (below : List Frame) → frames_of tid ss ≡ body b ∷ below → after ≡ stacks_by tid (goes_on_with g b x outs below e.tables) ss)
      → after ≡ stacks_by tid (hands g tid a (f ∷ fs) e.tables) ss
  returned_stacks after x outs f fs answer method is goes =
      let m = method_of (f ∷ fs) (ap (λ xs. is_body (first_frame xs)) (sym is) ∙ method) in
      goes m.method m.below (is ∙ m.all)
      ∙ frames_by tid ss (goes_on_with g m.method x outs m.below e.tables) (hands g tid a (f ∷ fs) e.tables)
      (sym ((λ i. hands g tid (answer i) (m.all i) e.tables) ∙ hands_returned g tid x outs m.method m.below e.tables))

  pub returned_tables : (now : EndTables) (x : Plain) (outs : List Plain) → a ≡ returned x outs → is_body (top tid ss) ≡ true
      → ((b : Body) → (below : List Frame) → frames_of tid ss ≡ body b ∷ below → now ≡ tables_by (goes_on_with g b x outs below e.tables) e) → now ≡ tables_by (hands g tid a (frames_of tid ss) e.tables) e
  returned_tables now x outs answer method goes =
      let m = method_of (frames_of tid ss) method in
      goes m.method m.below m.all ∙ ap (λ u. tables_by u e) (sym ((λ i. hands g tid (answer i) (m.all i) e.tables) ∙ hands_returned g tid x outs m.method m.below e.tables))

  module _ (k : Kind) (x : Plain) (answer : a ≡ raised k x) where
    -- a method that answers the peer
    module _ (now : EndTables) (method : is_body (top tid ss) ≡ true)
        (goes : (b : Body) → (below : List Frame) → frames_of tid ss ≡ body b ∷ below
        → (b.from_peer ≡ true) × (now ≡ on_tables (answers_peer g tid b (refs_of_answer (raised k x)) (leaving_frame g.registry tid b (raised k x))) e)) where
      peer_hands : (b : Body) (below fs : List Frame) → fs ≡ body b ∷ below → b.from_peer ≡ true
          → hands g tid a fs e.tables ≡ unwound below (answers_peer g tid b (refs_of_answer (raised k x)) (leaving_frame g.registry tid b (raised k x)) e.tables)
      peer_hands b below fs all peer = (λ i. hands g tid (answer i) (all i) e.tables) ∙ hands_peer g tid k x b below e.tables peer

      pub peer_stacks : (after : List Stack) (f : Frame) (fs : List Frame) → frames_of tid ss ≡ f ∷ fs → after ≡ popped tid ss → after ≡ stacks_by tid (hands g tid a (f ∷ fs) e.tables) ss
      peer_stacks after f fs is gone =
          let m = method_of (frames_of tid ss) method in
          let all = goes m.method m.below m.all in
          gone ∙ puts_popped tid ss ∙ ap (λ xs. puts_frames tid (drop 1 xs) ss) m.all
          ∙ frames_by tid ss (unwound m.below (answers_peer g tid m.method (refs_of_answer (raised k x)) (leaving_frame g.registry tid m.method (raised k x)) e.tables)) (hands g tid a (f ∷ fs) e.tables)
          (sym (peer_hands m.method m.below (f ∷ fs) (sym is ∙ m.all) all.0))

      pub peer_tables : now ≡ tables_by (hands g tid a (frames_of tid ss) e.tables) e
      peer_tables =
          let m = method_of (frames_of tid ss) method in
          let all = goes m.method m.below m.all in
          all.1 ∙ ap (λ u. tables_by u e) (sym (peer_hands m.method m.below (frames_of tid ss) m.all all.0))

    -- a method below which the exception goes on
    module _ (left : Answer) (mid : EndTables) (between : List Stack) (method : is_body (top tid ss) ≡ true)
        (goes : (b : Body) → (below : List Frame) → frames_of tid ss ≡ body b ∷ below
        → (b.from_peer ≡ false) × (left ≡ leaving_frame g.registry tid b (raised k x)) × (mid ≡ on_tables (hands_over g b (refs_of_answer (raised k x)) left below) e))
        (gone : between ≡ popped tid ss) (rest : frames_of tid between ≡ drop 1 (frames_of tid ss)) where
      on_hands : (b : Body) (below fs : List Frame) → fs ≡ body b ∷ below → b.from_peer ≡ false → left ≡ leaving_frame g.registry tid b (raised k x)
          → mid ≡ on_tables (hands_over g b (refs_of_answer (raised k x)) left below) e → hands g tid a fs e.tables ≡ hands g tid left below mid.tables
      on_hands b below fs all local leaves over =
          (λ i. hands g tid (answer i) (all i) e.tables) ∙ hands_on g tid k x b below e.tables local
          ∙ (λ i. hands g tid (sym leaves i) below (hands_over g b (refs_of_answer (raised k x)) (sym leaves i) below e.tables))
          ∙ ap (λ z. hands g tid left below z.tables) (sym over)

      pub through_stacks : {A E : Type 0} (r : Result A E) (after : List Stack) (f : Frame) (fs : List Frame) → frames_of tid ss ≡ f ∷ fs
          → ((h : Frame) → (hs : List Frame) → frames_of tid between ≡ h ∷ hs → OnOk r (after ≡ stacks_by tid (hands g tid left (h ∷ hs) mid.tables) between))
          → (frames_of tid between ≡ [] → OnOk r (after ≡ between)) → OnOk r (after ≡ stacks_by tid (hands g tid a (f ∷ fs) e.tables) ss)
      through_stacks r after f fs is some none =
          let m = method_of (frames_of tid ss) method in
          let all = goes m.method m.below m.all in
          on_ok r
          (λ p. p ∙ frames_by tid ss (hands g tid left m.below mid.tables) (hands g tid a (f ∷ fs) e.tables) (sym (on_hands m.method m.below (f ∷ fs) (sym is ∙ m.all) all.0 all.1 all.2)))
          (below_stacks tid ss r after between m.below (λ xs. hands g tid left xs mid.tables) (ap (λ u. u.frames) (hands_none g tid left mid.tables)) (rest ∙ ap (drop 1) m.all)
          (gone ∙ puts_popped tid ss ∙ ap (λ xs. puts_frames tid (drop 1 xs) ss) m.all) some none)

      pub through_tables : {A E : Type 0} (r : Result A E) (now : EndTables) → OnOk r (now ≡ tables_by (hands g tid left (frames_of tid between) mid.tables) mid)
          → OnOk r (now ≡ tables_by (hands g tid a (frames_of tid ss) e.tables) e)
      through_tables r now goes_on =
          let m = method_of (frames_of tid ss) method in
          let all = goes m.method m.below m.all in
          on_ok r
          (λ p. p ∙ ap (λ xs. tables_by (hands g tid left xs mid.tables) mid) (rest ∙ ap (drop 1) m.all) ∙ ap (tables_by (hands g tid left m.below mid.tables)) all.2
          ∙ ap (λ u. tables_by u e) (sym (on_hands m.method m.below (frames_of tid ss) m.all all.0 all.1 all.2)))
          goes_on

      pub through_lost : {A E : Type 0} (r : Result A E) (now : EndTables) → OnErr r (is_root (frames_of tid between) ≡ false) → OnErr r (lasting now ≡ lasting mid) → OnErr r (lasting now ≡ lasting e)
      through_lost r now other lost =
          let m = method_of (frames_of tid ss) method in
          let all = goes m.method m.below m.all in
          on_errs r
          (λ other last. last ∙ ap lasting all.2
          ∙ ap (λ t. with_tables t e)
          (handed_over g m.method (refs_of_answer (raised k x)) left m.below e.tables (sym (ap is_root (rest ∙ ap (drop 1) m.all)) ∙ other)))
          other lost

-- ---- the answer of the peer

module _ (g : Setting) (tid : List ℕ) (a : Answer) (ss : List Stack) (e mid : EndTables) (took : mid ≡ on_tables (takes_below g (frames_of tid ss) a) e) where
  pub from_peer_stacks : {A E : Type 0} (r : Result A E) (after : List Stack) (f : Frame) (fs : List Frame) → frames_of tid ss ≡ f ∷ fs → OnOk r (after ≡ stacks_by tid (hands g tid a (f ∷ fs) mid.tables) ss)
      → OnOk r (after ≡ stacks_by tid (hands_from_peer g tid a (f ∷ fs) e.tables) ss)
  unfolding hands_from_peer
  from_peer_stacks r after f fs is goes =
      on_ok r (λ p. p ∙ ap (λ t. stacks_by tid (hands g tid a (f ∷ fs) t) ss) (ap (λ z. z.tables) took ∙ ap (λ xs. takes_below g xs a e.tables) is)) goes

  pub from_peer_tables : {A E : Type 0} (r : Result A E) (now : EndTables) → OnOk r (now ≡ tables_by (hands g tid a (frames_of tid ss) mid.tables) mid)
      → OnOk r (now ≡ tables_by (hands_from_peer g tid a (frames_of tid ss) e.tables) e)
  unfolding hands_from_peer
  from_peer_tables r now goes = on_ok r (λ p. p ∙ ap (λ z. tables_by (hands g tid a (frames_of tid ss) z.tables) z) took) goes

  pub from_peer_lost : {A E : Type 0} (r : Result A E) (now : EndTables) → OnErr r (is_root (frames_of tid ss) ≡ false) → OnErr r (lasting now ≡ lasting mid) → OnErr r (lasting now ≡ lasting e)
  from_peer_lost r now other lost = on_errs r (λ other last. last ∙ ap lasting took ∙ ap (λ t. with_tables t e) (taken_below g (frames_of tid ss) a e.tables other)) other lost

-- ---- what is handed behind a change of the tables

module _ (g : Setting) (tid : List ℕ) (a : Answer) (ss : List Stack) (e mid : EndTables) (change : List Frame → Tables → Tables) (changed : mid ≡ on_tables (change (frames_of tid ss)) e) where
  pub behind_stacks : {A E : Type 0} (r : Result A E) (after : List Stack) (f : Frame) (fs : List Frame) → frames_of tid ss ≡ f ∷ fs → OnOk r (after ≡ stacks_by tid (hands g tid a (f ∷ fs) mid.tables) ss)
      → OnOk r (after ≡ stacks_by tid (hands g tid a (f ∷ fs) (change (f ∷ fs) e.tables)) ss)
  behind_stacks r after f fs is goes =
      on_ok r (λ p. p ∙ ap (λ t. stacks_by tid (hands g tid a (f ∷ fs) t) ss) (ap (λ z. z.tables) changed ∙ ap (λ xs. change xs e.tables) is)) goes

  pub behind_tables : {A E : Type 0} (r : Result A E) (now : EndTables) → OnOk r (now ≡ tables_by (hands g tid a (frames_of tid ss) mid.tables) mid)
      → OnOk r (now ≡ tables_by (hands g tid a (frames_of tid ss) (change (frames_of tid ss) e.tables)) e)
  behind_tables r now goes = on_ok r (λ p. p ∙ ap (λ z. tables_by (hands g tid a (frames_of tid ss) z.tables) z) changed) goes

-- ---- a method that ends

same_method : (fs : List Frame) (b m : Body) (below : List Frame) → fs ≡ body b ∷ below → first_frame fs ≡ Some (body m) → m ≡ b
same_method fs b m below all above = let same : Some (body m) ≡ Some (body b) = sym above ∙ ap first_frame all in cc

module _ (g : Setting) (tid : List ℕ) (m : Body) (a : Answer) (ss between : List Stack) (e : EndTables) (above : top tid ss ≡ Some (body m)) (gone : between ≡ popped tid ss)
    (rest : frames_of tid between ≡ drop 1 (frames_of tid ss)) (b : Body) (fs : List Frame) (all : frames_of tid ss ≡ body b ∷ fs) where
  found : frames_of tid between ≡ fs
  found = rest ∙ ap (drop 1) all

  put : between ≡ puts_frames tid fs ss
  put = gone ∙ puts_popped tid ss ∙ ap (λ xs. puts_frames tid (drop 1 xs) ss) all

  same : m ≡ b
  same = same_method (frames_of tid ss) b m fs all above

  -- that the peer called
  peer_ends : m.from_peer ≡ true → ends_frame g tid b a fs e.tables ≡ unwound fs (answers_peer g tid m [] a e.tables)
  unfolding ends_frame same
  peer_ends is =
      ap (λ c. if c then unwound fs (answers_peer g tid b [] a e.tables) else hands_down g tid b a fs e.tables) (sym (ap (λ x. x.from_peer) same) ∙ is)
      ∙ ap (λ x. unwound fs (answers_peer g tid x [] a e.tables)) (sym same)

  pub peer_ends_stacks : m.from_peer ≡ true → between ≡ stacks_by tid (ends_frame g tid b a fs e.tables) ss
  unfolding put
  peer_ends_stacks is = put ∙ frames_by tid ss (unwound fs (answers_peer g tid m [] a e.tables)) (ends_frame g tid b a fs e.tables) (sym (peer_ends is))

  pub peer_ends_tables : {A E : Type 0} (r : Result A E) (now : EndTables) → m.from_peer ≡ true → OnOk r (now ≡ on_tables (answers_peer g tid m [] a) e) → OnOk r (now ≡ tables_by (ends_frame g tid b a fs e.tables) e)
  peer_ends_tables r now is sent = on_ok r (λ p. p ∙ ap (λ u. tables_by u e) (sym (peer_ends is))) sent

  local_ends : m.from_peer ≡ false → ends_frame g tid b a fs e.tables ≡ hands_down g tid m a fs e.tables
  unfolding ends_frame same
  local_ends is =
      ap (λ c. if c then unwound fs (answers_peer g tid b [] a e.tables) else hands_down g tid b a fs e.tables) (sym (ap (λ x. x.from_peer) same) ∙ is)
      ∙ ap (λ x. hands_down g tid x a fs e.tables) (sym same)

  down_nothing : (c : Answer) (t : Tables) → (hands_down g tid m c [] t).frames ≡ []
  down_nothing (returned x outs) t = ap (λ u. u.frames) (hands_none g tid (returned x outs) t)
  down_nothing (raised k x) t = ap (λ u. u.frames) (hands_none g tid (raised k x) (hands_over g m [] (raised k x) [] t))

  -- that was called from here
  pub local_ends_stacks : m.from_peer ≡ false → {A E : Type 0} (r : Result A E) (after : List Stack)
      → ((h : Frame) → (hs : List Frame) → frames_of tid between ≡ h ∷ hs → OnOk r (after ≡ stacks_by tid (hands_down g tid m a (h ∷ hs) e.tables) between))
      → (frames_of tid between ≡ [] → OnOk r (after ≡ between)) → OnOk r (after ≡ stacks_by tid (ends_frame g tid b a fs e.tables) ss)
  unfolding found put
  local_ends_stacks local r after some none =
      on_ok r (λ p. p ∙ frames_by tid ss (hands_down g tid m a fs e.tables) (ends_frame g tid b a fs e.tables) (sym (local_ends local)))
      (below_stacks tid ss r after between fs (λ xs. hands_down g tid m a xs e.tables) (down_nothing a e.tables) found put some none)

  pub local_ends_tables : m.from_peer ≡ false → {A E : Type 0} (r : Result A E) (now : EndTables) → OnOk r (now ≡ tables_by (hands_down g tid m a (frames_of tid between) e.tables) e)
      → OnOk r (now ≡ tables_by (ends_frame g tid b a fs e.tables) e)
  unfolding found
  local_ends_tables local r now goes = on_ok r (λ p. p ∙ ap (λ xs. tables_by (hands_down g tid m a xs e.tables) e) found ∙ ap (λ u. tables_by u e) (sym (local_ends local))) goes

-- where handing is refused that came behind handing over
pub over_lost : (g : Setting) (tid : List ℕ) (m : Body) (a : Answer) (between : List Stack) (e mid : EndTables) → mid ≡ on_tables (hands_over g m [] a (frames_of tid between)) e → {A E : Type 0} (r : Result A E) (now : EndTables)
    → OnErr r (is_root (frames_of tid between) ≡ false) → OnErr r (lasting now ≡ lasting mid) → OnErr r (lasting now ≡ lasting e)
over_lost g tid m a between e mid over r now other lost =
    on_errs r (λ other last. last ∙ ap lasting over ∙ ap (λ t. with_tables t e) (handed_over g m [] a (frames_of tid between) e.tables other)) other lost

-- ---- an exception that goes through a method

pub refs_raised : (k : Kind) (x : Plain) → refs_of_answer (raised k x) ≡ refs x
unfolding refs_of_answer
refs_raised k x = refl

-- what is let go first are these references, and what leaves is this
pub leaves_so : (g : Setting) (tid : List ℕ) (b : Body) (fs : List Frame) (held these : List Ref) (left leaving : Answer) (old new : EndTables) (r : Result (Option AnyValue) NoMemory) → held ≡ these → left ≡ leaving
    → Leaves g tid b fs held left old new r → Leaves g tid b fs these leaving old new r
leaves_so g tid b fs held these left leaving old new r same is l = subst (λ x. Leaves g tid b fs these x old new r) is (subst (λ rs. Leaves g tid b fs rs left old new r) same l)

-- the method that went is the one that was on top
pub goes_so : (g : Setting) (tid : List ℕ) (ss between : List Stack) (m b : Body) (fs : List Frame) (a : Answer) (old new : EndTables) (r : Result (Option AnyValue) NoMemory) → frames_of tid ss ≡ body b ∷ fs → top tid ss ≡ Some (body m)
    → frames_of tid between ≡ drop 1 (frames_of tid ss) → GoesThrough g tid m (frames_of tid between) a old new r → GoesThrough g tid b fs a old new r
goes_so g tid ss between m b fs a old new r all above rest goes =
    subst (λ x. GoesThrough g tid x fs a old new r) (same_method (frames_of tid ss) b m fs all above)
    (subst (λ xs. GoesThrough g tid m xs a old new r) (rest ∙ ap (drop 1) all) goes)

-- where handing is refused that came behind gaining
pub given_lost : (tid : List ℕ) (a : Answer) (ss : List Stack) (e mid now : EndTables) {A E : Type 0} (r : Result A E) → mid ≡ on_tables (gains_below (frames_of tid ss) a) e → OnErr r (is_root (frames_of tid ss) ≡ false)
    → OnErr r (lasting now ≡ lasting mid) → OnErr r (lasting now ≡ lasting e)
given_lost tid a ss e mid now r gained other lost =
    on_errs r (λ other last. last ∙ ap lasting gained ∙ ap (λ t. with_tables t e) (gained_below (frames_of tid ss) a e.tables other)) other lost
