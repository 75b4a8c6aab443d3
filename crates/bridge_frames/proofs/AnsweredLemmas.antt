-- Which root is answered, as code tells it.
use Rattle.std.proofs.Common.{◌≡◌, ℕ, true, false, List, [], ◌∷◌, drop, Option, None, Some, Result, Ok, Err, option_map, refl, sym, ap, ◌∙◌}
use Rattle.std.specs.Prelude.{IfOk, OnOk}
use Rattle.message_model.specs.Messages.{Answer, returned, raised}
use Rattle.uno_model.specs.Kinds.{Kind}
use Rattle.uno_model.specs.Values.{Ref, Plain}
use Rattle.plan_model.specs.Frames.{Body, Frame, base, body, outgoing, Stack, first_frame, frames_of, is_body, top}
use Rattle.plan_model.specs.Leaving.{leaving_frame}
use Rattle.bridge_model.specs.Handing.{answers_peer, gains_below, hands_from_peer, hands_over, takes_below}
use Rattle.bridge_model.specs.References.{refs_of_answer}
use Rattle.bridge_model.specs.Settings.{Setting}
use Rattle.bridge_model.specs.Sides.{RootState, Tables, state_of}
use Rattle.bridge_tables.specs.EndTables.{EndTables, lasting, on_tables}
use Rattle.bridge_frames.specs.Answered.{gets_all, root_answered, root_in, root_reached, taken_back}
use Rattle.bridge_frames.specs.Unwinding.{is_root, tables_by}
use Rattle.bridge_frames.proofs.BackLemmas.{below_reached, from_peer_back, peer_reached}
use Rattle.bridge_frames.proofs.HandingLemmas.{method_of}
use Rattle.bridge_frames.proofs.LastingLemmas.{frame_ends}
use Rattle.bridge_frames.proofs.RootBackLemmas.{below_roots, below_taken}

-- what follows from what a success gives
on_value : {X E : Type 0} {P Q : X → Type 0} (r : Result X E) → ((x : X) → P x → Q x) → IfOk r P → IfOk r Q
on_value (Ok x) f p = f x p
on_value (Err e) f p = tt

-- roots do what they did where a frame is let go, or takes what comes in
over_roots : (g : Setting) (b : Body) (extra : List Ref) (a : Answer) (fs : List Frame) (t : Tables) → (hands_over g b extra a fs t).roots ≡ t.roots
over_roots g b extra a fs t = ap (λ u. u.roots) (frame_ends g b extra (gains_below fs a t)) ∙ below_roots fs a t

taken_roots : (g : Setting) (fs : List Frame) (a : Answer) (t : Tables) → (takes_below g fs a t).roots ≡ t.roots
taken_roots g fs a t = ap (λ u. u.roots) (below_taken g fs a t) ∙ below_roots fs a t

-- ---- which root is reached

root_first : (a : Answer) (root : ℕ) (fs : List Frame) → first_frame fs ≡ Some (base root) → root_reached a fs ≡ Some root
unfolding root_reached
root_first a root [] is = absurd (cc)
root_first a root (base other ∷ fs) is = let same : other ≡ root = cc in ap Some same
root_first a root (body b ∷ fs) is = absurd (cc)
root_first a root (outgoing o ∷ fs) is = absurd (cc)

nobody_first : (a : Answer) (fs : List Frame) → is_root fs ≡ false → is_body (first_frame fs) ≡ false → root_reached a fs ≡ None
unfolding root_reached
nobody_first a [] other none = refl
nobody_first a (base root ∷ fs) other none = absurd (cc)
nobody_first a (body b ∷ fs) other none = absurd (cc)
nobody_first a (outgoing o ∷ fs) other none = refl

method_first : (x : Plain) (outs : List Plain) (b : Body) (fs : List Frame) → root_reached (returned x outs) (body b ∷ fs) ≡ None
unfolding root_reached
method_first x outs b fs = refl

-- ---- as it is told

module _ (tid : List ℕ) (a : Answer) (ss : List Stack) (states : List RootState) where
  told_by : (root : Option ℕ) → root_reached a (frames_of tid ss) ≡ root → option_map (root_in states) root ≡ root_answered states a (frames_of tid ss)
  told_by root is = ap (option_map (root_in states)) (sym is)

  -- a root
  pub root_told : (root : ℕ) (before : RootState) → top tid ss ≡ Some (base root) → before ≡ state_of root states → Some (root, before) ≡ root_answered states a (frames_of tid ss)
  root_told root before above was = ap (λ s. Some (root, s)) was ∙ told_by (Some root) (root_first a root (frames_of tid ss) above)

  -- nobody
  pub nobody_told : is_root (frames_of tid ss) ≡ false → is_body (top tid ss) ≡ false → None ≡ root_answered states a (frames_of tid ss)
  nobody_told other none = told_by None (nobody_first a (frames_of tid ss) other none)

  -- a method that goes on
  pub method_told : (x : Plain) (outs : List Plain) → a ≡ returned x outs → is_body (top tid ss) ≡ true → None ≡ root_answered states a (frames_of tid ss)
  method_told x outs answer method =
      let m = method_of (frames_of tid ss) method in
      told_by None ((λ i. root_reached (answer i) (m.all i)) ∙ method_first x outs m.method m.below)

-- an exception that goes through a method
module _ (g : Setting) (tid : List ℕ) (a : Answer) (ss : List Stack) (e : EndTables) (k : Kind) (x : Plain) (answer : a ≡ raised k x) (now : EndTables) (method : is_body (top tid ss) ≡ true) where
  -- the peer gets it
  pub peer_told : ((b : Body) → (below : List Frame) → frames_of tid ss ≡ body b ∷ below
      → (b.from_peer ≡ true) × (now ≡ on_tables (answers_peer g tid b (refs_of_answer (raised k x)) (leaving_frame g.registry tid b (raised k x))) e)) → None ≡ root_answered e.tables.roots a (frames_of tid ss)
  peer_told goes =
      let m = method_of (frames_of tid ss) method in
      told_by tid a ss e.tables.roots None ((λ i. root_reached (answer i) (m.all i)) ∙ peer_reached k x m.method m.below (goes m.method m.below m.all).0)

  -- or it goes on below
  pub through_told : (j : Kind) (y : Plain) (between : List Stack)
      → ((b : Body) → (below : List Frame) → frames_of tid ss ≡ body b ∷ below
      → (b.from_peer ≡ false) × (raised j y ≡ leaving_frame g.registry tid b (raised k x)) × (now ≡ on_tables (hands_over g b (refs_of_answer (raised k x)) (raised j y) below) e))
      → frames_of tid between ≡ drop 1 (frames_of tid ss) → {X E : Type 0} (told : X → Option (ℕ × RootState)) (r : Result X E)
      → IfOk r (λ v. told v ≡ root_answered now.tables.roots (raised j y) (frames_of tid between)) → IfOk r (λ v. told v ≡ root_answered e.tables.roots a (frames_of tid ss))
  through_told j y between goes rest told r below =
      let m = method_of (frames_of tid ss) method in
      let all = goes m.method m.below m.all in
      let roots : now.tables.roots ≡ e.tables.roots = ap (λ z. z.tables.roots) all.2 ∙ over_roots g m.method (refs_of_answer (raised k x)) (raised j y) m.below e.tables in
      on_value r
      (λ v is. is ∙ (λ i. root_answered (roots i) (raised j y) ((rest ∙ ap (drop 1) m.all) i))
      ∙ ap (option_map (root_in e.tables.roots)) (sym (below_reached k j x y m.method m.below all.0))
      ∙ (λ i. root_answered e.tables.roots (sym answer i) (sym m.all i)))
      below

-- ---- the answer of the peer

module _ (g : Setting) (tid : List ℕ) (a : Answer) (ss : List Stack) (e : EndTables) {X E : Type 0} (told : X → Option (ℕ × RootState)) (r : Result X E) where
  pub from_peer_told : (mid : EndTables) → mid ≡ on_tables (takes_below g (frames_of tid ss) a) e → IfOk r (λ v. told v ≡ root_answered mid.tables.roots a (frames_of tid ss))
      → IfOk r (λ v. told v ≡ root_answered e.tables.roots a (frames_of tid ss))
  from_peer_told mid took answered =
      let roots : mid.tables.roots ≡ e.tables.roots = ap (λ z. z.tables.roots) took ∙ taken_roots g (frames_of tid ss) a e.tables in
      on_value r (λ v is. is ∙ ap (λ states. root_answered states a (frames_of tid ss)) roots) answered

  -- and it is taken back
  pub peer_taken_back : (now : EndTables) → IfOk r (λ v. told v ≡ root_answered e.tables.roots a (frames_of tid ss)) → OnOk r (now ≡ tables_by (hands_from_peer g tid a (frames_of tid ss) e.tables) e)
      → ((root : ℕ) → root_reached a (frames_of tid ss) ≡ Some root → gets_all (state_of root e.tables.roots) a ≡ true) → IfOk r (λ v. lasting (taken_back (told v) now) ≡ lasting e)
  peer_taken_back now answered does gets = both r answered does
    where
      both : (q : Result X E) → IfOk q (λ v. told v ≡ root_answered e.tables.roots a (frames_of tid ss)) → OnOk q (now ≡ tables_by (hands_from_peer g tid a (frames_of tid ss) e.tables) e)
          → IfOk q (λ v. lasting (taken_back (told v) now) ≡ lasting e)
      both (Ok v) is done = from_peer_back g tid a (frames_of tid ss) e now (told v) is done gets
      both (Err why) is done = tt
