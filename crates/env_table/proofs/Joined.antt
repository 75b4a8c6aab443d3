-- An environment of what frames hold, and of what others do.
use Rattle.std.proofs.Common.{◌≡◌, ℕ, ◌+◌, ◌≤◌, ◌<◌, Bool, true, false, not, ◌&&◌, ◌||◌, List, [], ◌++◌, length, Option, None, Some, if◌then◌else◌, nat_eq, nat_lt, option_map, refl, sym, ap, ◌∙◌, subst, arith, length-append, IfSome, IfNone}
use borrow.Author.Tests.{ltb-true}
use Rattle.std.proofs.lemmas.Bool.Decides.{nat_tests}
use Rattle.std.proofs.lemmas.List.Folds.{list_any-append}
use Rattle.std.specs.Prelude.{T}
use Rattle.std.specs.List.{filter, list_any}
use Rattle.std.specs.Str.{bytes_eq}
use Rattle.table_model.specs.Bags.{how_often}
use Rattle.table_model.specs.Holdings.{Hold, Holdings, hold_cmp, holders, holds, held, let_go, is_of_frame, outlasts, are_frames, are_others, without_holds, frames_without}
use Rattle.table_model.specs.Pair.{Pair, is_pair}
use Rattle.table_model.proofs.BagLaws.{how_many_append}
use Rattle.table_model.proofs.FrameLaws.{frame_more, frame_less, frame_often, other_more, other_less, other_often, all_more, all_less, all_filter, others_outlast, frames_part, often_among}

-- ---- numbers

sum_none : (a b : ℕ) → (nat_eq a 0 && nat_eq b 0) ≡ nat_eq (a + b) 0
sum_none a b = grind (arith, nat_tests)

sum_one : (a b : ℕ) → 0 < a → (nat_eq a 1 && nat_eq b 0) ≡ nat_eq (a + b) 1
sum_one a b some = grind (arith, nat_tests)

none_yet : (first : Bool) (a b n all : ℕ) → first ≡ nat_eq a 0 → n ≡ b → all ≡ a + b → (first && nat_eq n 0) ≡ nat_eq all 0
none_yet first a b n all is same sum = (λ i. is i && nat_eq (same i) 0) ∙ sum_none a b ∙ ap (λ n. nat_eq n 0) (sym sum)

told : (b : Bool) (t a o n all : ℕ) → nat_lt 0 t ≡ b → t ≤ a → n ≡ o → all ≡ a + o
    → option_map (λ last. last && nat_eq n 0) (if b then Some (nat_eq a 1) else None) ≡ (if b then Some (nat_eq all 1) else None)
told true t a o n all there le same sum =
    let some : 0 < t = ltb-true 0 t there in
    ap Some (ap (λ n. nat_eq a 1 && nat_eq n 0) same ∙ sum_one a o (omega arith) ∙ ap (λ n. nat_eq n 1) (sym sum))
told false t a o n all there le same sum = refl

module _ (fs os whole : Holdings) (is : fs ++ os ≡ whole) (frames : T (are_frames fs)) (others : T (are_others os)) where
  pub all_holders : (p : Pair) → holders p whole ≡ holders p fs + holders p os
  all_holders p = ap (holders p) (sym is) ∙ how_many_append (λ h. is_pair p h.pair) fs os

  -- an OID is held by a frame or by another
  pub any_whole : (oid : List ℕ) → list_any (λ h. bytes_eq oid h.pair.oid) whole ≡ (list_any (λ h. bytes_eq oid h.pair.oid) fs || list_any (λ h. bytes_eq oid h.pair.oid) os)
  any_whole oid = ap (list_any (λ h. bytes_eq oid h.pair.oid)) (sym is) ∙ list_any-append (λ h. bytes_eq oid h.pair.oid) fs os

  module _ (h : Hold) where
    module _ (of_frame : is_of_frame h ≡ true) where
      often_frame : how_often hold_cmp h whole ≡ how_often hold_cmp h fs
      often_frame = ap (how_often hold_cmp h) (sym is) ∙ frame_often h of_frame fs os others

      pub holds_frame : (b : Bool) → b ≡ holds h fs → b ≡ holds h whole
      holds_frame b e = e ∙ ap (nat_lt 0) (sym often_frame)

      pub first_frame : (first : Bool) (n : ℕ) → first ≡ nat_eq (holders h.pair fs) 0 → n ≡ holders h.pair os → (first && nat_eq n 0) ≡ nat_eq (holders h.pair whole) 0
      first_frame first n e same = none_yet first _ _ n _ e same (all_holders h.pair)

      pub last_frame : (r gone : Option Bool) (n : ℕ) → gone ≡ (if holds h fs then Some (nat_eq (holders h.pair fs) 1) else None) → n ≡ holders h.pair os
          → r ≡ option_map (λ last. last && nat_eq n 0) gone → r ≡ (if holds h whole then Some (nat_eq (holders h.pair whole) 1) else None)
      last_frame r gone n e same is =
          is ∙ ap (option_map (λ last. last && nat_eq n 0)) e
          ∙ told (holds h fs) (how_often hold_cmp h fs) _ _ n _ refl (often_among h fs) same (all_holders h.pair)
          ∙ ap (λ t. if nat_lt 0 t then Some (nat_eq (holders h.pair whole) 1) else None) (sym often_frame)

      module _ (after : Holdings) where
        pub held_frame : after ≡ held h fs → after ++ os ≡ held h whole
        held_frame e = ap (λ fs. fs ++ os) e ∙ sym (frame_more h of_frame fs os others) ∙ ap (held h) is

        pub gone_frame : after ≡ let_go h fs → after ++ os ≡ let_go h whole
        gone_frame e = ap (λ fs. fs ++ os) e ∙ sym (frame_less h of_frame fs os others) ∙ ap (let_go h) is

        pub frames_held : after ≡ held h fs → T (are_frames after)
        frames_held e = subst (λ fs. T (are_frames fs)) (sym e) (all_more is_of_frame h fs of_frame frames)

        pub frames_gone : after ≡ let_go h fs → T (are_frames after)
        frames_gone e = subst (λ fs. T (are_frames fs)) (sym e) (all_less is_of_frame h fs frames)

    module _ (of_other : is_of_frame h ≡ false) where
      often_other : how_often hold_cmp h whole ≡ how_often hold_cmp h os
      often_other = ap (how_often hold_cmp h) (sym is) ∙ other_often h of_other fs os frames

      turned : holders h.pair whole ≡ holders h.pair os + holders h.pair fs
      turned = let all = all_holders h.pair in omega (arith, all)

      pub holds_other : (b : Bool) → b ≡ holds h os → b ≡ holds h whole
      holds_other b e = e ∙ ap (nat_lt 0) (sym often_other)

      pub first_other : (first : Bool) (n : ℕ) → first ≡ nat_eq (holders h.pair os) 0 → n ≡ holders h.pair fs → (first && nat_eq n 0) ≡ nat_eq (holders h.pair whole) 0
      first_other first n e same = none_yet first _ _ n _ e same turned

      pub last_other : (r gone : Option Bool) (n : ℕ) → gone ≡ (if holds h os then Some (nat_eq (holders h.pair os) 1) else None) → n ≡ holders h.pair fs
          → r ≡ option_map (λ last. last && nat_eq n 0) gone → r ≡ (if holds h whole then Some (nat_eq (holders h.pair whole) 1) else None)
      last_other r gone n e same is =
          is ∙ ap (option_map (λ last. last && nat_eq n 0)) e
          ∙ told (holds h os) (how_often hold_cmp h os) _ _ n _ refl (often_among h os) same turned
          ∙ ap (λ t. if nat_lt 0 t then Some (nat_eq (holders h.pair whole) 1) else None) (sym often_other)

      module _ (after : Holdings) where
        pub held_other : after ≡ held h os → fs ++ after ≡ held h whole
        held_other e = ap (λ os. fs ++ os) e ∙ sym (other_more h of_other fs os frames) ∙ ap (held h) is

        pub gone_other : after ≡ let_go h os → fs ++ after ≡ let_go h whole
        gone_other e = ap (λ os. fs ++ os) e ∙ sym (other_less h of_other fs os frames) ∙ ap (let_go h) is

        pub others_held : after ≡ held h os → T (are_others after)
        others_held e = subst (λ os. T (are_others os)) (sym e) (all_more outlasts h os (ap not of_other) others)

        pub others_gone : after ≡ let_go h os → T (are_others after)
        others_gone e = subst (λ os. T (are_others os)) (sym e) (all_less outlasts h os others)

  -- ---- what frames hold goes

  module _ (after : Holdings) (oid : List ℕ) (gone : after ≡ without_holds oid fs) where
    pub whole_without : after ++ os ≡ frames_without oid whole
    whole_without = ap (λ fs. fs ++ os) gone ∙ sym (frames_part oid fs os frames others) ∙ ap (frames_without oid) is

    pub frames_left : T (are_frames after)
    frames_left = subst (λ fs. T (are_frames fs)) (sym gone) (all_filter is_of_frame (λ h. not (bytes_eq oid h.pair.oid)) fs frames)

  pub fewer_whole : (after : Holdings) → length after < length fs → length (after ++ os) < length whole
  fewer_whole after fewer =
      let long = ap length (sym is) ∙ length-append fs os in
      let left = length-append after os in
      omega (arith, long, left)

  -- where frames hold nothing, all stays
  pub all_outlast : fs ≡ [] → filter outlasts whole ≡ whole
  all_outlast none = ap (filter outlasts) (sym is) ∙ others_outlast fs os frames others ∙ sym (ap (λ fs. fs ++ os) none) ∙ is

-- what is said of what may be there
pub if_some : {A : Type 0} {P Q : A → Type 0} (o : Option A) → ((x : A) → P x → Q x) → IfSome o P → IfSome o Q
if_some None f p = p
if_some (Some x) f p = f x p

pub if_none : {A : Type 0} {P Q : Type 0} (o : Option A) → (P → Q) → IfNone o P → IfNone o Q
if_none None f p = f p
if_none (Some x) f p = p

-- and what holds in both cases
pub either : {A : Type 0} {P : A → Type 0} {Q R : Type 0} (o : Option A) → ((x : A) → P x → R) → (Q → R) → IfSome o P → IfNone o Q → R
either None f g p q = g q
either (Some x) f g p q = f x p
