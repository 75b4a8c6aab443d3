-- The frames of a thread that are put: they are its own, those of other threads stay, and no thread has two stacks.
use Rattle.std.proofs.Common.{◌≡◌, refl, sym, ap, ◌∙◌, ℕ, Bool, true, false, List, [], ◌∷◌, if◌then◌else◌}
use Rattle.std.specs.Str.{bytes_eq}
use Rattle.std.proofs.lemmas.Bool.{true≢false}
use Rattle.std.proofs.lemmas.Slice.Eq.{bytes_eq-Decides}
use Rattle.plan_model.specs.Frames.{Frame, Stack, frames_of}
use Rattle.bridge_model.specs.Stacks.{stack_with, puts_frames}
use Rattle.bridge_laws.specs.Grounded.{AreApart}

-- ---- the frames of a thread

same_tid : (tid : List ℕ) → bytes_eq tid tid ≡ true
same_tid tid = (bytes_eq-Decides tid tid).1 refl

other_tid : (tid other : List ℕ) (b : Bool) → (tid ≡ other → ⊥) → bytes_eq tid other ≡ b → b ≡ false
other_tid tid other true apart is = absurd (apart ((bytes_eq-Decides tid other).0 is))
other_tid tid other false apart is = refl

apart_tid : (tid other : List ℕ) → (tid ≡ other → ⊥) → bytes_eq tid other ≡ false
apart_tid tid other apart = other_tid tid other (bytes_eq tid other) apart refl

frames_first : (tid : List ℕ) (fs : List Frame) (ss : List Stack) → frames_of tid ss ≡ [] → frames_of tid (stack_with tid fs ss) ≡ fs
unfolding frames_of
frames_first tid [] ss none = none
frames_first tid (f ∷ fs) ss none = rw (same_tid tid) refl

frames_put_at : (tid : List ℕ) (fs : List Frame) (s : Stack) (ss : List Stack) (b : Bool) → bytes_eq tid s.tid ≡ b → frames_of s.tid ss ≡ []
    → frames_of tid (puts_frames tid fs ss) ≡ fs → frames_of tid (if b then stack_with tid fs ss else s ∷ puts_frames tid fs ss) ≡ fs
unfolding frames_of
frames_put_at tid fs s ss true is none behind = frames_first tid fs ss (ap (λ t. frames_of t ss) ((bytes_eq-Decides tid s.tid).0 is) ∙ none)
frames_put_at tid fs s ss false is none behind = rw (is) behind

-- what is put is there
pub frames_put : (tid : List ℕ) (fs : List Frame) (ss : List Stack) → AreApart ss → frames_of tid (puts_frames tid fs ss) ≡ fs
unfolding puts_frames frames_of AreApart
frames_put tid fs [] apart = frames_first tid fs [] refl
frames_put tid fs (s ∷ ss) apart = frames_put_at tid fs s ss (bytes_eq tid s.tid) refl apart.0 (frames_put tid fs ss apart.1)

frames_behind : (tid other : List ℕ) (fs : List Frame) (ss : List Stack) → bytes_eq other tid ≡ false → frames_of other (stack_with tid fs ss) ≡ frames_of other ss
unfolding frames_of
frames_behind tid other [] ss apart = refl
frames_behind tid other (f ∷ fs) ss apart = rw (apart) refl

frames_other_at : (tid other : List ℕ) (fs : List Frame) (s : Stack) (ss : List Stack) (b : Bool) → bytes_eq tid s.tid ≡ b → bytes_eq other tid ≡ false
    → frames_of other (puts_frames tid fs ss) ≡ frames_of other ss
    → frames_of other (if b then stack_with tid fs ss else s ∷ puts_frames tid fs ss) ≡ (if bytes_eq other s.tid then s.frames else frames_of other ss)
unfolding frames_of
frames_other_at tid other fs s ss true is apart behind =
    let there = ap (bytes_eq other) ((bytes_eq-Decides tid s.tid).0 is) in
    frames_behind tid other fs ss apart ∙ ap (λ t. if t then s.frames else frames_of other ss) (sym apart ∙ there)
frames_other_at tid other fs s ss false is apart behind = ap (λ gs. if bytes_eq other s.tid then s.frames else gs) behind

frames_of_other : (tid other : List ℕ) (fs : List Frame) (ss : List Stack) → bytes_eq other tid ≡ false → frames_of other (puts_frames tid fs ss) ≡ frames_of other ss
unfolding puts_frames frames_of
frames_of_other tid other fs [] apart = frames_behind tid other fs [] apart
frames_of_other tid other fs (s ∷ ss) apart = frames_other_at tid other fs s ss (bytes_eq tid s.tid) refl apart (frames_of_other tid other fs ss apart)

-- those of other threads stay
pub frames_stay : (tid other : List ℕ) (fs : List Frame) (ss : List Stack) → (other ≡ tid → ⊥) → frames_of other (puts_frames tid fs ss) ≡ frames_of other ss
frames_stay tid other fs ss apart = frames_of_other tid other fs ss (apart_tid other tid apart)

-- ---- no thread has two

apart_with : (tid : List ℕ) (fs : List Frame) (ss : List Stack) → frames_of tid ss ≡ [] → AreApart ss → AreApart (stack_with tid fs ss)
unfolding AreApart
apart_with tid [] ss none apart = apart
apart_with tid (f ∷ fs) ss none apart = (none, apart)

apart_put_at : (tid : List ℕ) (fs : List Frame) (s : Stack) (ss : List Stack) (b : Bool) → bytes_eq tid s.tid ≡ b → frames_of s.tid ss ≡ [] → AreApart ss
    → AreApart (puts_frames tid fs ss) → AreApart (if b then stack_with tid fs ss else s ∷ puts_frames tid fs ss)
unfolding AreApart
apart_put_at tid fs s ss true is none apart behind = apart_with tid fs ss (ap (λ t. frames_of t ss) ((bytes_eq-Decides tid s.tid).0 is) ∙ none) apart
apart_put_at tid fs s ss false is none apart behind =
    (frames_stay tid s.tid fs ss (λ e. true≢false (sym ((bytes_eq-Decides tid s.tid).1 (sym e)) ∙ is)) ∙ none, behind)

pub apart_put : (tid : List ℕ) (fs : List Frame) (ss : List Stack) → AreApart ss → AreApart (puts_frames tid fs ss)
unfolding puts_frames AreApart frames_of
apart_put tid fs [] apart = apart_with tid fs [] refl tt
apart_put tid fs (s ∷ ss) apart = apart_put_at tid fs s ss (bytes_eq tid s.tid) refl apart.0 apart.1 (apart_put tid fs ss apart.1)
