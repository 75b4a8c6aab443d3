-- What is left of a side when memory is wanting: what is taken back, and the end of the bridge behind it.
use Rattle.std.proofs.Common.{◌≡◌, refl, sym, ap, ◌∙◌, ℕ, ◌<◌, Bool, true, false, List, [], ◌∷◌, ◌++◌, length, map, option_to_list, IsSome, Option, None, Some, arith, if◌then◌else◌}
use Rattle.std.proofs.lemmas.Bool.{false≢true}
use Rattle.std.proofs.lemmas.List.{append-nil, map-append}
use Rattle.std.specs.List.{filter}
use Rattle.table_model.specs.Holdings.{Holdings, outlasts}
use Rattle.table_model.specs.declared.holder.Holder.{Holder}
use Rattle.table_model.specs.declared.holder.Holder.TheVariants as holder
use Rattle.uno_model.specs.Values.{Ref, null, own, peer}
use Rattle.bridge_model.specs.Ends.{ends_by, forgets, runs_out}
use Rattle.bridge_model.specs.References.{loses, loses_all}
use Rattle.bridge_model.specs.Sides.{RootState, Side, Tables, stands, stands_by, state_of, with_root, on_tables}
use Rattle.bridge_model.specs.declared.cause.Cause.{Cause}
use Rattle.bridge_model.specs.declared.cause.Cause.TheVariants as cause
use Rattle.bridge_tables.specs.EndTables.{EndTables, lasts, with_frames_made}
use Rattle.bridge_tables.specs.EndTables as tables
use Rattle.bridge_tables.specs.Roots.{root_of, state_refs}
use Rattle.bridge_tables.proofs.LastingLemmas.{lasts_loses_all}
use Rattle.bridge_frames.specs.Answered.{answered_root, taken_back, takes_back_root}
use Rattle.bridge_frames.specs.declared.roots.AnsweredRoot.{AnsweredRoot}
use Rattle.bridge_state.specs.Undoing.{remains, rests, takes_roots_back, undone}
use Rattle.bridge_state.specs.declared.hearing.Trace.{Trace}

-- ---- roots that are taken back

-- what lasts, but for how many frames began
abbrev pub rested : Tables → Tables
rested t = with_frames_made 0 (lasts t)

loses_counted : (h : Holder) (r : Ref) (n : ℕ) (t : Tables) → with_frames_made n (loses h r t) ≡ loses h r (with_frames_made n t)
loses_counted h null n t = refl
loses_counted h (own oid face) n t = refl
loses_counted h (peer oid face) n t = refl

all_counted : (h : Holder) (rs : List Ref) (n : ℕ) (t : Tables) → with_frames_made n (loses_all h rs t) ≡ loses_all h rs (with_frames_made n t)
unfolding loses_all
all_counted h [] n t = refl
all_counted h (r ∷ rs) n t = all_counted h rs n (loses h r t) ∙ ap (loses_all h rs) (loses_counted h r n t)

one_rested : (a : ℕ × RootState) (t : Tables) → rested (takes_back_root a.0 a.1 t) ≡ takes_back_root a.0 a.1 (rested t)
one_rested a t =
    ap (with_frames_made 0) (lasts_loses_all (holder.Root a.0) (state_refs (state_of a.0 t.roots)) (with_root a.0 a.1 t))
    ∙ all_counted (holder.Root a.0) (state_refs (state_of a.0 t.roots)) 0 (lasts (with_root a.0 a.1 t))

all_rested : (done : List (ℕ × RootState)) (t : Tables) → rested (takes_roots_back done t) ≡ takes_roots_back done (rested t)
unfolding takes_roots_back
all_rested [] t = refl
all_rested (a ∷ done) t = one_rested a (takes_roots_back done t) ∙ ap (takes_back_root a.0 a.1) (all_rested done t)

-- where the same rests, the same is taken back
pub taken_same : (done : List (ℕ × RootState)) (t u : Tables) → rested t ≡ rested u → rested (takes_roots_back done t) ≡ rested (takes_roots_back done u)
taken_same done t u same = all_rested done t ∙ ap (takes_roots_back done) same ∙ sym (all_rested done u)

one_behind : (done : List (ℕ × RootState)) (a : ℕ × RootState) (t : Tables) → takes_roots_back (done ++ a ∷ []) t ≡ takes_roots_back done (takes_back_root a.0 a.1 t)
unfolding takes_roots_back
one_behind [] a t = refl
one_behind (b ∷ done) a t = ap (takes_back_root b.0 b.1) (one_behind done a t)

-- a root more was answered, of which nothing rests once it is taken back
pub taken_more : (done : List (ℕ × RootState)) (a : ℕ × RootState) (t u : Tables) → rested (takes_back_root a.0 a.1 u) ≡ rested t → rested (takes_roots_back (done ++ a ∷ []) u) ≡ rested (takes_roots_back done t)
taken_more done a t u same = ap rested (one_behind done a u) ∙ taken_same done (takes_back_root a.0 a.1 u) t same

-- ---- the end

-- where the same rests, and as many frames began, the same remains
pub remains_by : (n : ℕ) (a b : Side) → rests a ≡ rests b → n ≡ b.tables.frames_made → remains (on_tables (with_frames_made n) a) ≡ remains b
remains_by n a b same few = ap (on_tables (with_frames_made n)) same ∙ ap (λ m. on_tables (with_frames_made m) (remains b)) few

-- where no root was answered, nothing is taken back
pub nothing_undone : (x : Trace) (s : Side) → x.answered.items ≡ [] → rests (undone x s) ≡ rests s
unfolding takes_roots_back
nothing_undone x s none = ap (λ xs. rests (on_tables (takes_roots_back (map answered_root xs)) s)) none

filtered : {A : Type 0} (p : A → Bool) (x : A) (xs ys : List A) → filter p ys ≡ ys → (b : Bool) → p x ≡ b → filter p (if b then x ∷ ys else ys) ≡ (if b then x ∷ ys else ys)
filtered p x xs ys same true is = ap (λ c. if c then x ∷ filter p ys else filter p ys) is ∙ ap (λ zs. x ∷ zs) same
filtered p x xs ys same false is = same

filter_twice : {A : Type 0} (p : A → Bool) (xs : List A) → filter p (filter p xs) ≡ filter p xs
filter_twice p [] = refl
filter_twice p (x ∷ xs) = filtered p x xs (filter p xs) (filter_twice p xs) (p x) refl

with_held : Holdings → Side → Side
with_held hs s = record s { tables = record s.tables { holdings = hs } }

ends_remaining : (s : Side) → forgets (ends_by cause.NoMemory (remains s)) ≡ forgets (ends_by cause.NoMemory s)
unfolding ends_by with_held
ends_remaining s = ap (λ hs. with_held hs (forgets (ends_by cause.NoMemory s))) (filter_twice outlasts s.tables.holdings)

same_by : (a b : Side) (c d : Option Cause) → a.cause ≡ c → b.cause ≡ d → stands b ≡ true → remains a ≡ remains b → runs_out c a ≡ runs_out d b
unfolding runs_out
same_by a b None None is also up same = sym (ends_remaining a) ∙ ap (λ s. forgets (ends_by cause.NoMemory s)) same ∙ ends_remaining b
same_by a b (Some why) None is also up same = let bad : ◌≡◌ {A = Option Cause} (Some why) None = sym is ∙ (ap (λ s. s.cause) same ∙ also) in absurd (cc)
same_by a b c (Some why) is also up same = let bad : ◌≡◌ {A = Bool} true false = sym up ∙ ap stands_by also in absurd (cc)

-- where the same remains of a bridge that stands, its end for want of memory is the same
pub same_end : (a b : Side) → stands b ≡ true → remains a ≡ remains b → runs_out a.cause a ≡ runs_out b.cause b
same_end a b up same = same_by a b a.cause b.cause refl refl up same

-- ---- taking back one by one

pub taken_next : (xs ys : List AnsweredRoot) (o : Option AnsweredRoot) (x : AnsweredRoot) (t0 t1 e : EndTables) → xs ≡ ys ++ option_to_list o → o ≡ Some x → t1 ≡ tables.on_tables (takes_back_root x.root (root_of x.before)) t0
    → tables.on_tables (takes_roots_back (map answered_root xs)) t0 ≡ e → tables.on_tables (takes_roots_back (map answered_root ys)) t1 ≡ e
taken_next xs ys o x t0 t1 e all some back so =
    let these : map answered_root xs ≡ map answered_root ys ++ answered_root x ∷ [] = ap (map answered_root) (all ∙ ap (λ p. ys ++ option_to_list p) some) ∙ map-append answered_root ys (x ∷ []) in
    ap (tables.on_tables (takes_roots_back (map answered_root ys))) back
    ∙ ap (λ t. tables.with_tables t t0) (sym (one_behind (map answered_root ys) (answered_root x) t0.tables))
    ∙ ap (λ zs. tables.on_tables (takes_roots_back zs) t0) (sym these) ∙ so

pub taken_all : (xs : List AnsweredRoot) (t0 e : EndTables) → (0 < length xs → ⊥) → tables.on_tables (takes_roots_back (map answered_root xs)) t0 ≡ e → t0 ≡ e
unfolding takes_roots_back
taken_all [] t0 e none so = so
taken_all (x ∷ xs) t0 e none so = absurd (none (omega arith))

pub none_some : {A : Type 0} (o : Option A) → o ≡ None → IsSome o → ⊥
none_some None is some = false≢true some
none_some (Some x) is some = absurd (cc)

-- what is noted of a root that was answered, where one was
pub noted_back : (done : List (ℕ × RootState)) (x : Option (ℕ × RootState)) (t0 t1 : EndTables) → tables.lasting (taken_back x t1) ≡ tables.lasting t0
    → rested (takes_roots_back (done ++ option_to_list x) t1.tables) ≡ rested (takes_roots_back done t0.tables)
noted_back done None t0 t1 is = ap (λ xs. rested (takes_roots_back xs t1.tables)) (append-nil done) ∙ taken_same done t1.tables t0.tables (ap (λ e. with_frames_made 0 e.tables) is)
noted_back done (Some a) t0 t1 is = taken_more done a t0.tables t1.tables (ap (λ e. with_frames_made 0 e.tables) is)
