-- The rows of the stacks by their births, before and after one of them changes.
use Rattle.std.proofs.Common.{◌≡◌, ℕ, suc, ◌<◌, ◌≤◌, Bool, true, false, cond, List, [], ◌∷◌, ◌++◌, length, Option, None, Some, Result, Ok, Err, deque_len, get_or, IsSome, refl, sym, ap, ◌∙◌, subst, option_map, arith}
use Rattle.std.specs.Prelude.{nat_eq, map, drop, OnErr, IfSome, slice_set as set_at}
use Rattle.std.specs.VecDeque.{deque_with_item}
use Rattle.std.proofs.lemmas.List.{length-map}
use denote.Ref.{Bor}
use Rattle.std.specs.BTreeMap.{is_at, insert_entry}
use Rattle.std.specs.Cmp.{unsigned_ties}
use Rattle.std.specs.Map.{lookup, set_value, remove_entry, values_of}
use Rattle.std.specs.Option.{option_to_list}
use Rattle.std.specs.Ordering.{nat_cmp, match_ordering}
use Rattle.std.specs.declared.cmp.Ordering.TheVariants.{Greater}
use Rattle.std.proofs.lemmas.Bool.Decides.{nat_tests}
use Rattle.plan_model.specs.Frames as plain
use Rattle.plan_model.specs.Frames.{first_frame, other_top}
use Rattle.plan_types.specs.Frames.{frame_of}
use Rattle.plan_types.specs.declared.frame.Frame.{Frame}
use Rattle.call_stacks.specs.Rows.{Rise, Rows, stack_of, rows_of, stacks_of, stack_at, frames_in, frames_at, changed_at, without_at, one_more, one_less, topped}
use Rattle.call_stacks.specs.declared.stack.Stack.{Stack}
use Rattle.std.specs.Global.{Global}
use Rattle.std.specs.declared.collections.VecDeque.{VecDeque}

at_number : (n k : ℕ) → is_at (nat_cmp n) k ≡ nat_eq n k
at_number n k = sym (unsigned_ties n k)

mapped : (b : Bool) (x y : Option Stack) → option_map stack_of (cond b x y) ≡ cond b (option_map stack_of x) (option_map stack_of y)
mapped true x y = refl
mapped false x y = refl

-- what the map has is what is found in its rows
pub found : (n : ℕ) (es : List (ℕ × Stack)) → option_map stack_of (lookup (is_at (nat_cmp n)) es) ≡ stack_at n (rows_of es)
found n [] = refl
found n (e ∷ es) =
    mapped (is_at (nat_cmp n) e.0) (Some e.1) (lookup (is_at (nat_cmp n)) es) ∙ ap (cond (is_at (nat_cmp n) e.0) (Some (stack_of e.1))) (found n es)
    ∙ ap (λ b. cond b (Some (stack_of e.1)) (stack_at n (rows_of es))) (at_number n e.0)

rows_cond : (b : Bool) (x y : List (ℕ × Stack)) → rows_of (cond b x y) ≡ cond b (rows_of x) (rows_of y)
rows_cond true x y = refl
rows_cond false x y = refl

-- a stack that is taken out of the map
pub taken : (n : ℕ) (es : List (ℕ × Stack)) → rows_of (remove_entry (is_at (nat_cmp n)) es) ≡ without_at n (rows_of es)
taken n [] = refl
taken n (e ∷ es) =
    rows_cond (is_at (nat_cmp n) e.0) es (e ∷ remove_entry (is_at (nat_cmp n)) es)
    ∙ ap (λ rest. cond (is_at (nat_cmp n) e.0) (rows_of es) ((e.0, stack_of e.1) ∷ rest)) (taken n es)
    ∙ ap (λ b. cond b (rows_of es) ((e.0, stack_of e.1) ∷ without_at n (rows_of es))) (at_number n e.0)

module _ (n : ℕ) (change : plain.Stack → plain.Stack) (v w : Stack) (is : stack_of w ≡ change (stack_of v)) where
  here : (e : ℕ × Stack) (es : List (ℕ × Stack)) → Some e.1 ≡ Some v → ◌≡◌ {A = Rows} ((e.0, stack_of w) ∷ rows_of es) ((e.0, change (stack_of e.1)) ∷ rows_of es)
  here e es found = let one : e.1 ≡ v = cc in ap (λ s. (e.0, s) ∷ rows_of es) (is ∙ ap (λ s. change (stack_of s)) (sym one))

  -- a stack that is changed in the map
  pub set : (es : List (ℕ × Stack)) → lookup (is_at (nat_cmp n)) es ≡ Some v → rows_of (set_value (is_at (nat_cmp n)) es w) ≡ changed_at n change (rows_of es)
  set [] found = refl
  set (e ∷ es) found =
      ap (λ b. rows_of (cond b ((e.0, w) ∷ es) (e ∷ set_value (is_at (nat_cmp n)) es w))) (at_number n e.0)
      ∙ elim (nat_eq n e.0) as (λ b. cond b (Some e.1) (lookup (is_at (nat_cmp n)) es) ≡ Some v → rows_of (cond b ((e.0, w) ∷ es) (e ∷ set_value (is_at (nat_cmp n)) es w)) ≡ cond b ((e.0, change (stack_of e.1)) ∷ rows_of es) ((e.0, stack_of e.1) ∷ changed_at n change (rows_of es))) [
        | true ↦ λ found. here e es found
        | false ↦ λ found. ap (λ rest. (e.0, stack_of e.1) ∷ rest) (set es found)
      ] (ap (λ b. cond b (Some e.1) (lookup (is_at (nat_cmp n)) es)) (sym (at_number n e.0)) ∙ found)

-- numbers that rise stay within their bounds
pub bounds : (least n : ℕ) (rows : Rows) → Rise least rows n → least ≤ n
bounds least n [] h = h
bounds least n (r ∷ rs) h = let more = bounds (suc r.0) n rs h.1 in let first = h.0 in omega (arith, more, first)

greater : (n k : ℕ) → k < n → nat_cmp n k ≡ Greater
greater n k below = grind (arith, nat_tests)

-- a stack that is put behind all others
pub added : (least n : ℕ) (s : Stack) (es : List (ℕ × Stack)) → Rise least (rows_of es) n → rows_of (insert_entry nat_cmp es n s) ≡ rows_of es ++ ((n, stack_of s) ∷ [])
added least n s [] h = refl
added least n s (e ∷ es) h =
    let above = bounds (suc e.0) n (rows_of es) h.1 in
    ap (λ o. rows_of (match_ordering o ((n, s) ∷ e ∷ es) ((e.0, s) ∷ es) (e ∷ insert_entry nat_cmp es n s))) (greater n e.0 (omega (arith, above)))
    ∙ ap (λ rest. (e.0, stack_of e.1) ∷ rest) (added (suc e.0) n s es h.1)

-- what the map lacks is not among its rows
pub missing : (n : ℕ) (es : List (ℕ × Stack)) → IsSome (stack_at n (rows_of es)) → None ≡ lookup (is_at (nat_cmp n)) es → ⊥
missing n es there none = let bad : false ≡ true = subst IsSome (sym (found n es) ∙ ap (option_map stack_of) (sym none)) there in let clash : ⊥ = cc in clash

-- a stack that is not among the rows has no frames
pub frames_none : (n : ℕ) (es : List (ℕ × Stack)) → None ≡ lookup (is_at (nat_cmp n)) es → frames_at n (rows_of es) ≡ []
frames_none n es none = ap frames_in (sym (found n es) ∙ ap (option_map stack_of) (sym none))

-- the frames of one that is
pub frames_found : (n : ℕ) (es : List (ℕ × Stack)) (s : Stack) → Some s ≡ lookup (is_at (nat_cmp n)) es → frames_at n (rows_of es) ≡ map frame_of s.frames.items
frames_found n es s is = ap frames_in (sym (found n es) ∙ ap (option_map stack_of) (sym is))

-- a stack that is written as it was
pub written_same : (n : ℕ) (es : List (ℕ × Stack)) (v w : Stack) → stack_of w ≡ stack_of v → lookup (is_at (nat_cmp n)) es ≡ Some v → rows_of (set_value (is_at (nat_cmp n)) es w) ≡ rows_of es
written_same n es v w same is = set n (λ s. s) v w same es is ∙ unchanged n (rows_of es)
  where
    unchanged : (n : ℕ) (rows : Rows) → changed_at n (λ s. s) rows ≡ rows
    unchanged n [] = refl
    unchanged n (r ∷ rs) = elim (nat_eq n r.0) as (λ b. cond b ((r.0, r.1) ∷ rs) (r ∷ changed_at n (λ s. s) rs) ≡ r ∷ rs) [ true ↦ refl | false ↦ ap (λ rest. r ∷ rest) (unchanged n rs) ]

-- the stacks in the order of births
pub valued : (es : List (ℕ × Stack)) → map stack_of (values_of es) ≡ stacks_of (rows_of es)
valued [] = refl
valued (e ∷ es) = ap (λ rest. stack_of e.1 ∷ rest) (valued es)

-- a stack with these frames
abbrev pub Frames : Type 0
Frames = VecDeque Frame Global

abbrev pub with_frames : Stack → Frames → Stack
with_frames s q = record { tid = s.tid; frames = q }

-- a stack of which other frames are written
pub frames_set : (n : ℕ) (es : List (ℕ × Stack)) (s : Stack) (q : Frames) (change : plain.Stack → plain.Stack) → stack_of (with_frames s q) ≡ change (stack_of s) → Some s ≡ lookup (is_at (nat_cmp n)) es
    → rows_of (set_value (is_at (nat_cmp n)) es (with_frames s q)) ≡ changed_at n change (rows_of es)
frames_set n es s q change is there = set n change s (with_frames s q) is es (sym there)

pub more_of : (s : Stack) (q : Frames) (f : Frame) → q.items ≡ f ∷ s.frames.items → stack_of (with_frames s q) ≡ one_more (frame_of f) (stack_of s)
more_of s q f is = λ i. record { tid = s.tid; frames = map frame_of (is i) }

pub less_of : (s : Stack) (q : Frames) → q.items ≡ drop 1 s.frames.items → stack_of (with_frames s q) ≡ one_less (stack_of s)
less_of s q is = (λ i. record { tid = s.tid; frames = map frame_of (is i) }) ∙ λ i. record { tid = s.tid; frames = less_given s.frames.items i }
  where
    less_given : (fs : List Frame) → map frame_of (drop 1 fs) ≡ drop 1 (map frame_of fs)
    less_given [] = refl
    less_given (f ∷ fs) = refl

pub same_of : (s : Stack) (q : Frames) → q.items ≡ s.frames.items → stack_of (with_frames s q) ≡ stack_of s
same_of s q is = λ i. record { tid = s.tid; frames = map frame_of (is i) }

-- a deque without a first item has none
pub sized : (q : Frames) → deque_len q ≡ length q.items
sized q = q.ok.0

pub top_popped : (q after : Frames) (f : Option Frame) → q.items ≡ option_to_list f ++ after.items → (0 < deque_len q → IsSome f) → option_map frame_of f ≡ first_frame (map frame_of q.items)
top_popped q after (Some f) is some = ap (λ fs. first_frame (map frame_of fs)) (sym is)
top_popped q after None is some = sym (ap (λ fs. first_frame (map frame_of fs)) (bare q.items (sized q)))
  where
    bare : (fs : List Frame) → deque_len q ≡ length fs → fs ≡ []
    bare [] e = refl
    bare (x ∷ fs) e = let there : 0 < deque_len q = omega (arith, e) in let clash : false ≡ true = some there in let bad : ⊥ = cc in absurd bad

-- whatever was answered
pub at_err : {T E P : Type 0} (r : Result T E) → P → OnErr r P
at_err (Ok x) p = tt
at_err (Err e) p = p

-- the frame at the front of a deque
pub front_of : (q : Frames) (x : Frame) → 0 < deque_len q → x ≡ get_or q.items 0 x → Some (frame_of x) ≡ first_frame (map frame_of q.items)
front_of q x some is = by q.items (sized q) is
  where
    by : (fs : List Frame) → deque_len q ≡ length fs → x ≡ get_or fs 0 x → Some (frame_of x) ≡ first_frame (map frame_of fs)
    by [] e is = let bad : ⊥ = omega (arith, e, some) in absurd bad
    by (f ∷ fs) e is = ap (λ f. Some (frame_of f)) is

pub fronted : (q : Frames) (r : Option (Bor Frame)) → (IsSome r → 0 < deque_len q) → (0 < deque_len q → IsSome r) → IfSome r (λ x. x.now ≡ get_or q.items 0 x.now) → option_map (λ f. frame_of f.now) r ≡ first_frame (map frame_of q.items)
fronted q (Some x) there some is = front_of q x.now (there refl) is
fronted q None there some is = by q.items (sized q)
  where
    by : (fs : List Frame) → deque_len q ≡ length fs → None ≡ first_frame (map frame_of fs)
    by [] e = refl
    by (f ∷ fs) e = let first : 0 < deque_len q = omega (arith, e) in let clash : false ≡ true = some first in let bad : ⊥ = cc in absurd bad

-- frames of which the one at the front is another
pub topped_of : (s : Stack) (f g : Frame) → g ≡ f → stack_of (with_frames s (deque_with_item s.frames 0 g)) ≡ topped (frame_of f) (stack_of s)
topped_of s f g is = λ i. record { tid = s.tid; frames = (by s.frames.items ∙ λ i. other_top (frame_of (is i)) (map frame_of s.frames.items)) i }
  where
    by : (fs : List Frame) → map frame_of (set_at fs 0 g) ≡ other_top (frame_of g) (map frame_of fs)
    by [] = refl
    by (x ∷ fs) = refl

-- a stack that has a frame is there, and its deque has a first one
pub no_place : (n : ℕ) (es : List (ℕ × Stack)) → 0 < length (frames_at n (rows_of es)) → None ≡ lookup (is_at (nat_cmp n)) es → ⊥
no_place n es some none = let bare = ap length (frames_none n es none) in omega (arith, some, bare)

pub has_front : (n : ℕ) (es : List (ℕ × Stack)) (s : Stack) → 0 < length (frames_at n (rows_of es)) → Some s ≡ lookup (is_at (nat_cmp n)) es → 0 < deque_len s.frames
has_front n es s some is =
    let long = ap length (frames_found n es s is) in
    let same = length-map s.frames.items frame_of in
    let size = sized s.frames in
    omega (arith, some, long, same, size)

pub front_there : (n : ℕ) (es : List (ℕ × Stack)) (s : Stack) → 0 < length (frames_at n (rows_of es)) → Some s ≡ lookup (is_at (nat_cmp n)) es → (0 < deque_len s.frames → false ≡ true) → ⊥
front_there n es s some is none = let clash : false ≡ true = none (has_front n es s some is) in let bad : ⊥ = cc in bad
