-- All stacks after the frames of one thread changed.
use Rattle.std.proofs.Common.{◌≡◌, ℕ, ◌<◌, ◌≤◌, Bool, true, false, if◌then◌else◌, List, [], ◌∷◌, length, drop, IsSome, refl, sym, ap, ◌∙◌, arith}
use Rattle.std.specs.Cmp.Lexicographic.{bytes_decides}
use Rattle.std.specs.Str.{bytes_eq}
use Rattle.plan_model.specs.Frames.{Frame, Stack, is_of, first_frame, frames_of, top, pushed, popped, less_one, with_top, other_top}
use Rattle.bridge_model.specs.Stacks.{stack_with, puts_frames}

same_tid : (tid : List ℕ) → bytes_eq tid tid ≡ true
same_tid tid = (bytes_decides tid tid).1 refl

named : (tid : List ℕ) (s : Stack) → is_of tid s ≡ true → tid ≡ s.tid
named tid s is = (bytes_decides tid s.tid).0 is

-- ---- the operations on stacks change the frames of one thread

push_step : (tid : List ℕ) (f : Frame) (s : Stack) (ss rest : List Stack) (fs : List Frame) (b : Bool) → is_of tid s ≡ b → rest ≡ puts_frames tid (f ∷ fs) ss
    → (if b then record s { frames = f ∷ s.frames } ∷ ss else s ∷ rest) ≡ (if b then stack_with tid (f ∷ (if b then s.frames else fs)) ss else s ∷ puts_frames tid (f ∷ (if b then s.frames else fs)) ss)
push_step tid f s ss rest fs true is same = ap (λ t. record { tid = t; frames = f ∷ s.frames } ∷ ss) (sym (named tid s is))
push_step tid f s ss rest fs false is same = ap (λ xs. s ∷ xs) same

pub puts_pushed : (tid : List ℕ) (f : Frame) (ss : List Stack) → pushed tid f ss ≡ puts_frames tid (f ∷ frames_of tid ss) ss
unfolding pushed puts_frames frames_of
puts_pushed tid f [] = refl
puts_pushed tid f (s ∷ ss) = push_step tid f s ss (pushed tid f ss) (frames_of tid ss) (is_of tid s) refl (puts_pushed tid f ss)

pop_here : (tid : List ℕ) (s : Stack) (fs : List Frame) (ss : List Stack) → tid ≡ s.tid → less_one s.tid fs ss ≡ stack_with tid (drop 1 fs) ss
pop_here tid s [] ss is = refl
pop_here tid s (f ∷ []) ss is = refl
pop_here tid s (f ∷ (g ∷ gs)) ss is = ap (λ t. record { tid = t; frames = g ∷ gs } ∷ ss) (sym is)

pop_step : (tid : List ℕ) (s : Stack) (ss rest : List Stack) (fs : List Frame) (b : Bool) → is_of tid s ≡ b → rest ≡ puts_frames tid (drop 1 fs) ss
    → (if b then less_one s.tid s.frames ss else s ∷ rest) ≡ (if b then stack_with tid (drop 1 (if b then s.frames else fs)) ss else s ∷ puts_frames tid (drop 1 (if b then s.frames else fs)) ss)
pop_step tid s ss rest fs true is same = pop_here tid s s.frames ss (named tid s is)
pop_step tid s ss rest fs false is same = ap (λ xs. s ∷ xs) same

pub puts_popped : (tid : List ℕ) (ss : List Stack) → popped tid ss ≡ puts_frames tid (drop 1 (frames_of tid ss)) ss
unfolding popped puts_frames frames_of
puts_popped tid [] = refl
puts_popped tid (s ∷ ss) = pop_step tid s ss (popped tid ss) (frames_of tid ss) (is_of tid s) refl (puts_popped tid ss)

top_here : (tid : List ℕ) (f g : Frame) (gs fs : List Frame) (s : Stack) (ss : List Stack) → tid ≡ s.tid → fs ≡ g ∷ gs → record s { frames = other_top f fs } ∷ ss ≡ stack_with tid (f ∷ gs) ss
top_here tid f g gs fs s ss is top = (λ i. record { tid = sym is i; frames = other_top f (top i) } ∷ ss)

top_step : (tid : List ℕ) (f g : Frame) (gs fs : List Frame) (s : Stack) (ss rest : List Stack) (b : Bool) → is_of tid s ≡ b → (if b then s.frames else fs) ≡ g ∷ gs → (fs ≡ g ∷ gs → rest ≡ puts_frames tid (f ∷ gs) ss)
    → (if b then record s { frames = other_top f s.frames } ∷ ss else s ∷ rest) ≡ (if b then stack_with tid (f ∷ gs) ss else s ∷ puts_frames tid (f ∷ gs) ss)
top_step tid f g gs fs s ss rest true is top same = top_here tid f g gs s.frames s ss (named tid s is) top
top_step tid f g gs fs s ss rest false is top same = ap (λ xs. s ∷ xs) (same top)

pub puts_top : (tid : List ℕ) (f g : Frame) (gs : List Frame) (ss : List Stack) → frames_of tid ss ≡ g ∷ gs → with_top tid f ss ≡ puts_frames tid (f ∷ gs) ss
unfolding with_top puts_frames frames_of
puts_top tid f g gs [] top = absurd (cc)
puts_top tid f g gs (s ∷ ss) top = top_step tid f g gs (frames_of tid ss) s ss (with_top tid f ss) (is_of tid s) refl top (λ there. puts_top tid f g gs ss there)

-- ---- one change after the other

again_step : (tid : List ℕ) (f : Frame) (fs gs : List Frame) (s : Stack) (ss rest : List Stack) (b : Bool) → is_of tid s ≡ b → puts_frames tid gs rest ≡ puts_frames tid gs ss
    → puts_frames tid gs (if b then stack_with tid (f ∷ fs) ss else s ∷ rest) ≡ (if b then stack_with tid gs ss else s ∷ puts_frames tid gs ss)
unfolding puts_frames
again_step tid f fs gs s ss rest true is same = ap (λ b. if b then stack_with tid gs ss else record { tid = tid; frames = f ∷ fs } ∷ puts_frames tid gs ss) (same_tid tid)
again_step tid f fs gs s ss rest false is same = ap (λ b. if b then stack_with tid gs rest else s ∷ puts_frames tid gs rest) is ∙ ap (λ xs. s ∷ xs) same

-- of two changes the second counts, where the thread had frames in between
pub puts_again : (tid : List ℕ) (f : Frame) (fs gs : List Frame) (ss : List Stack) → puts_frames tid gs (puts_frames tid (f ∷ fs) ss) ≡ puts_frames tid gs ss
unfolding puts_frames
puts_again tid f fs gs [] = ap (λ b. if b then stack_with tid gs [] else record { tid = tid; frames = f ∷ fs } ∷ puts_frames tid gs []) (same_tid tid)
puts_again tid f fs gs (s ∷ ss) = again_step tid f fs gs s ss (puts_frames tid (f ∷ fs) ss) (is_of tid s) refl (puts_again tid f fs gs ss)

same_step : (tid : List ℕ) (f : Frame) (fs gs : List Frame) (s : Stack) (ss : List Stack) (b : Bool) → is_of tid s ≡ b → (if b then s.frames else gs) ≡ f ∷ fs → (gs ≡ f ∷ fs → puts_frames tid (f ∷ fs) ss ≡ ss)
    → (if b then stack_with tid (f ∷ fs) ss else s ∷ puts_frames tid (f ∷ fs) ss) ≡ s ∷ ss
same_step tid f fs gs s ss true is top same = (λ i. record { tid = named tid s is i; frames = sym top i } ∷ ss)
same_step tid f fs gs s ss false is top same = ap (λ xs. s ∷ xs) (same top)

-- the frames that a thread has change nothing
pub puts_same : (tid : List ℕ) (f : Frame) (fs : List Frame) (ss : List Stack) → frames_of tid ss ≡ f ∷ fs → puts_frames tid (f ∷ fs) ss ≡ ss
unfolding puts_frames frames_of
puts_same tid f fs [] top = absurd (cc)
puts_same tid f fs (s ∷ ss) top = same_step tid f fs (frames_of tid ss) s ss (is_of tid s) refl top (λ there. puts_same tid f fs ss there)

found_step : (tid : List ℕ) (f : Frame) (fs : List Frame) (s : Stack) (ss rest : List Stack) (b : Bool) → is_of tid s ≡ b → frames_of tid rest ≡ f ∷ fs
    → frames_of tid (if b then stack_with tid (f ∷ fs) ss else s ∷ rest) ≡ f ∷ fs
unfolding frames_of
found_step tid f fs s ss rest true is found = ap (λ b. if b then f ∷ fs else frames_of tid ss) (same_tid tid)
found_step tid f fs s ss rest false is found = ap (λ b. if b then s.frames else frames_of tid rest) is ∙ found

-- a thread has the frames that it was given
pub found_put : (tid : List ℕ) (f : Frame) (fs : List Frame) (ss : List Stack) → frames_of tid (puts_frames tid (f ∷ fs) ss) ≡ f ∷ fs
unfolding puts_frames frames_of
found_put tid f fs [] = ap (λ b. if b then f ∷ fs else []) (same_tid tid)
found_put tid f fs (s ∷ ss) = found_step tid f fs s ss (puts_frames tid (f ∷ fs) ss) (is_of tid s) refl (found_put tid f fs ss)

-- behind a frame that is gone, a change of those below it
pub puts_below : (tid : List ℕ) (fs gs : List Frame) (ss between after : List Stack) → between ≡ puts_frames tid fs ss → ((f : Frame) → (rest : List Frame) → fs ≡ f ∷ rest → after ≡ puts_frames tid gs between)
    → (fs ≡ [] → (after ≡ between) × (gs ≡ [])) → after ≡ puts_frames tid gs ss
puts_below tid [] gs ss between after first some none = (none refl).0 ∙ first ∙ ap (λ hs. puts_frames tid hs ss) (sym (none refl).1)
puts_below tid (f ∷ fs) gs ss between after first some none = some f fs refl ∙ ap (puts_frames tid gs) first ∙ puts_again tid f fs gs ss

-- ---- a thread whose frames are taken one after the other

some_put : (tid : List ℕ) (ss : List Stack) (fs : List Frame) → IsSome (first_frame fs) → frames_of tid ss ≡ fs → ss ≡ puts_frames tid fs ss
some_put tid ss [] some is = absurd (cc)
some_put tid ss (f ∷ fs) some is = sym (puts_same tid f fs ss is)

pub all_put : (tid : List ℕ) (ss : List Stack) → IsSome (top tid ss) → ss ≡ puts_frames tid (frames_of tid ss) ss
all_put tid ss some = some_put tid ss (frames_of tid ss) some refl

less_put : (tid : List ℕ) (old ss after : List Stack) (fs : List Frame) → 0 < length fs → frames_of tid ss ≡ fs → ss ≡ puts_frames tid fs old → after ≡ puts_frames tid (drop 1 fs) ss → after ≡ puts_frames tid (drop 1 fs) old
less_put tid old ss after [] some is all here = absurd (omega (arith, some))
less_put tid old ss after (f ∷ fs) some is all here = here ∙ ap (puts_frames tid fs) all ∙ puts_again tid f fs fs old

pub one_less_put : (tid : List ℕ) (old ss after : List Stack) → 0 < length (frames_of tid ss) → ss ≡ puts_frames tid (frames_of tid ss) old → after ≡ popped tid ss → frames_of tid after ≡ drop 1 (frames_of tid ss)
    → after ≡ puts_frames tid (frames_of tid after) old
one_less_put tid old ss after some all gone left =
    less_put tid old ss after (frames_of tid ss) some refl all (gone ∙ puts_popped tid ss) ∙ ap (λ fs. puts_frames tid fs old) (sym left)

pub one_less : (fs gs : List Frame) → 0 < length fs → gs ≡ drop 1 fs → length gs < length fs
one_less [] gs some is = absurd (omega (arith, some))
one_less (f ∷ fs) gs some is = let long = ap length is in omega (arith, long)

none_left : (fs : List Frame) → length fs ≤ 0 → fs ≡ []
none_left [] none = refl
none_left (f ∷ fs) none = absurd (omega (arith, none))

pub nothing_put : (tid : List ℕ) (old ss : List Stack) → length (frames_of tid ss) ≤ 0 → ss ≡ puts_frames tid (frames_of tid ss) old → ss ≡ puts_frames tid [] old
nothing_put tid old ss none all = all ∙ ap (λ fs. puts_frames tid fs old) (none_left (frames_of tid ss) none)
