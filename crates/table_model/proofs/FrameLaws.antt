-- Holdings in two parts: what frames hold, and behind it what others do.
use Rattle.std.proofs.Common.{◌≡◌, ℕ, ◌+◌, ◌≤◌, Bool, true, false, cond, not, ◌&&◌, ◌||◌, List, [], ◌∷◌, ◌++◌, refl, sym, ap, ◌∙◌, subst, arith}
use Rattle.std.proofs.lemmas.Bool.{true≢false}
use Rattle.std.specs.Prelude.{T}
use Rattle.std.specs.declared.cmp.Ordering.TheVariants.{Less, Greater}
use Rattle.std.specs.List.{filter, list_all, list_any}
use Rattle.std.specs.Ordering.{is_gt, is_eq, eq_by_cmp}
use Rattle.std.specs.Str.{bytes_eq}
use Rattle.table_model.specs.Bags.{how_often, one_more, one_less}
use Rattle.table_model.specs.Holdings.{Hold, Holdings, hold, holder_cmp, hold_cmp, is_frame, is_of_frame, outlasts, are_frames, are_others, without_holds, frames_without, holders}
use Rattle.table_model.specs.Pair.{Pair, is_pair}
use Rattle.table_model.specs.declared.holder.Holder.{Holder}
use Rattle.table_model.specs.declared.holder.Holder.TheVariants.{Frame, Object, Root}
use Rattle.table_model.proofs.BagLaws.{how_many_append, any_one_more}
use Rattle.table_model.proofs.HoldLaws.{is_hold_by_parts}

first : (a b : Bool) → T (a && b) → T a
first true b p = tt
first false b p = p

second : (a b : Bool) → T (a && b) → T b
second true b p = p
second false b p = absurd p

both : (a b : Bool) → T a → T b → T (a && b)
both true b p q = q
both false b p q = p

told : (b : Bool) → T b → b ≡ true
told true p = refl
told false p = absurd p

told_not : (b : Bool) → T (not b) → b ≡ false
told_not true p = absurd p
told_not false p = refl

-- ---- frames stand first

frame_below : (a b : Holder) (p q : Pair) → is_frame a ≡ true → is_frame b ≡ false → hold_cmp (hold a p) (hold b q) ≡ Less
frame_below (Frame n) (Frame m) p q is other = absurd (true≢false other)
frame_below (Frame n) (Object m) p q is other = refl
frame_below (Frame n) (Root m) p q is other = refl
frame_below (Object n) b p q is other = absurd (true≢false (sym is))
frame_below (Root n) b p q is other = absurd (true≢false (sym is))

frame_above : (a b : Holder) (p q : Pair) → is_frame a ≡ false → is_frame b ≡ true → hold_cmp (hold a p) (hold b q) ≡ Greater
frame_above (Frame n) b p q is other = absurd (true≢false is)
frame_above (Object n) (Frame m) p q is other = refl
frame_above (Root n) (Frame m) p q is other = refl
frame_above a (Object m) p q is other = absurd (true≢false (sym other))
frame_above a (Root m) p q is other = absurd (true≢false (sym other))

below : (h o : Hold) → is_of_frame h ≡ true → is_of_frame o ≡ false → hold_cmp h o ≡ Less
below h o is other = frame_below h.holder o.holder h.pair o.pair is other

above : (h f : Hold) → is_of_frame h ≡ false → is_of_frame f ≡ true → hold_cmp h f ≡ Greater
above h f is other = frame_above h.holder f.holder h.pair f.pair is other

module _ (h : Hold) where
  -- ---- one more and one less of what a frame holds

  module _ (is : is_of_frame h ≡ true) where
    first_of : (os : Holdings) → T (are_others os) → one_more hold_cmp h os ≡ h ∷ os
    first_of [] others = refl
    first_of (o ∷ os) others = ap (λ c. cond (is_gt c) (o ∷ one_more hold_cmp h os) (h ∷ o ∷ os)) (below h o is (told_not _ (first _ _ others)))

    none_of : (os : Holdings) → T (are_others os) → one_less hold_cmp h os ≡ os
    none_of [] others = refl
    none_of (o ∷ os) others =
        ap (λ c. cond (is_eq c) os (o ∷ one_less hold_cmp h os)) (below h o is (told_not _ (first _ _ others)))
        ∙ ap (λ os. o ∷ os) (none_of os (second _ _ others))

    never_of : (os : Holdings) → T (are_others os) → how_often hold_cmp h os ≡ 0
    never_of [] others = refl
    never_of (o ∷ os) others =
        let rest = never_of os (second _ _ others) in
        ap (λ c. cond (is_eq c) 1 0 + how_often hold_cmp h os) (below h o is (told_not _ (first _ _ others))) ∙ omega arith

    -- a frame's occurrence comes among those of frames
    pub frame_more : (fs os : Holdings) → T (are_others os) → one_more hold_cmp h (fs ++ os) ≡ one_more hold_cmp h fs ++ os
    frame_more [] os others = first_of os others
    frame_more (f ∷ fs) os others =
        elim (is_gt (hold_cmp h f)) as (λ b. cond b (f ∷ one_more hold_cmp h (fs ++ os)) (h ∷ f ∷ (fs ++ os)) ≡ cond b (f ∷ one_more hold_cmp h fs) (h ∷ f ∷ fs) ++ os) [
          | true ↦ ap (λ hs. f ∷ hs) (frame_more fs os others)
          | false ↦ refl
        ]

    -- and goes from there
    pub frame_less : (fs os : Holdings) → T (are_others os) → one_less hold_cmp h (fs ++ os) ≡ one_less hold_cmp h fs ++ os
    frame_less [] os others = none_of os others
    frame_less (f ∷ fs) os others =
        elim (eq_by_cmp hold_cmp h f) as (λ b. cond b (fs ++ os) (f ∷ one_less hold_cmp h (fs ++ os)) ≡ cond b fs (f ∷ one_less hold_cmp h fs) ++ os) [
          | true ↦ refl
          | false ↦ ap (λ hs. f ∷ hs) (frame_less fs os others)
        ]

    -- it is there as often
    pub frame_often : (fs os : Holdings) → T (are_others os) → how_often hold_cmp h (fs ++ os) ≡ how_often hold_cmp h fs
    frame_often fs os others =
        let never = never_of os others in
        how_many_append (eq_by_cmp hold_cmp h) fs os ∙ omega arith

  -- ---- and of what another holds

  module _ (is : is_of_frame h ≡ false) where
    -- another's occurrence comes among those of others
    pub other_more : (fs os : Holdings) → T (are_frames fs) → one_more hold_cmp h (fs ++ os) ≡ fs ++ one_more hold_cmp h os
    other_more [] os frames = refl
    other_more (f ∷ fs) os frames =
        ap (λ c. cond (is_gt c) (f ∷ one_more hold_cmp h (fs ++ os)) (h ∷ f ∷ (fs ++ os))) (above h f is (told _ (first _ _ frames)))
        ∙ ap (λ hs. f ∷ hs) (other_more fs os (second _ _ frames))

    -- and goes from there
    pub other_less : (fs os : Holdings) → T (are_frames fs) → one_less hold_cmp h (fs ++ os) ≡ fs ++ one_less hold_cmp h os
    other_less [] os frames = refl
    other_less (f ∷ fs) os frames =
        ap (λ c. cond (is_eq c) (fs ++ os) (f ∷ one_less hold_cmp h (fs ++ os))) (above h f is (told _ (first _ _ frames)))
        ∙ ap (λ hs. f ∷ hs) (other_less fs os (second _ _ frames))

    -- it is there as often
    pub other_often : (fs os : Holdings) → T (are_frames fs) → how_often hold_cmp h (fs ++ os) ≡ how_often hold_cmp h os
    other_often [] os frames = refl
    other_often (f ∷ fs) os frames =
        let rest = other_often fs os (second _ _ frames) in
        ap (λ c. cond (is_eq c) 1 0 + how_often hold_cmp h (fs ++ os)) (above h f is (told _ (first _ _ frames))) ∙ omega arith

-- ---- what holds of all occurrences

module _ (test : Hold → Bool) (h : Hold) where
  -- what holds of all holds of all with one more that it holds of
  pub all_more : (hs : Holdings) → test h ≡ true → T (list_all test hs) → T (list_all test (one_more hold_cmp h hs))
  all_more [] is all = both _ _ (subst T (sym is) tt) tt
  all_more (k ∷ hs) is all =
      elim (is_gt (hold_cmp h k)) as (λ b. T (list_all test (cond b (k ∷ one_more hold_cmp h hs) (h ∷ k ∷ hs)))) [
        | true ↦ both _ _ (first _ _ all) (all_more hs is (second _ _ all))
        | false ↦ both _ _ (subst T (sym is) tt) all
      ]

  -- and of all with one less
  pub all_less : (hs : Holdings) → T (list_all test hs) → T (list_all test (one_less hold_cmp h hs))
  all_less [] all = tt
  all_less (k ∷ hs) all =
      elim (eq_by_cmp hold_cmp h k) as (λ b. T (list_all test (cond b hs (k ∷ one_less hold_cmp h hs)))) [
        | true ↦ second _ _ all
        | false ↦ both _ _ (first _ _ all) (all_less hs (second _ _ all))
      ]

-- and of all that pass a test
pub all_filter : (test passes : Hold → Bool) (hs : Holdings) → T (list_all test hs) → T (list_all test (filter passes hs))
all_filter test passes [] all = tt
all_filter test passes (h ∷ hs) all =
    let rest = all_filter test passes hs (second _ _ all) in
    elim (passes h) as (λ b. T (list_all test (cond b (h ∷ filter passes hs) (filter passes hs)))) [ true ↦ both _ _ (first _ _ all) rest | false ↦ rest ]

-- ---- what frames hold goes

none_of_frames : (os : Holdings) → T (are_others os) → filter outlasts os ≡ os
none_of_frames [] others = refl
none_of_frames (o ∷ os) others =
    ap (λ b. cond b (o ∷ filter outlasts os) (filter outlasts os)) (told (outlasts o) (first _ _ others)) ∙ ap (λ os. o ∷ os) (none_of_frames os (second _ _ others))

-- all of frames goes at the end
pub others_outlast : (fs os : Holdings) → T (are_frames fs) → T (are_others os) → filter outlasts (fs ++ os) ≡ os
others_outlast [] os frames others = none_of_frames os others
others_outlast (f ∷ fs) os frames others =
    ap (λ b. cond (not b) (f ∷ filter outlasts (fs ++ os)) (filter outlasts (fs ++ os))) (told (is_of_frame f) (first _ _ frames))
    ∙ others_outlast fs os (second _ _ frames) others

nothing_forgotten : (oid : List ℕ) (os : Holdings) → T (are_others os) → frames_without oid os ≡ os
nothing_forgotten oid [] others = refl
nothing_forgotten oid (o ∷ os) others =
    ap (λ b. cond (not (b && bytes_eq oid o.pair.oid)) (o ∷ frames_without oid os) (frames_without oid os)) (told_not (is_of_frame o) (first _ _ others))
    ∙ ap (λ os. o ∷ os) (nothing_forgotten oid os (second _ _ others))

-- what frames hold of an OID goes from the first part
pub frames_part : (oid : List ℕ) (fs os : Holdings) → T (are_frames fs) → T (are_others os) → frames_without oid (fs ++ os) ≡ without_holds oid fs ++ os
frames_part oid [] os frames others = nothing_forgotten oid os others
frames_part oid (f ∷ fs) os frames others =
    ap (λ b. cond (not (b && bytes_eq oid f.pair.oid)) (f ∷ frames_without oid (fs ++ os)) (frames_without oid (fs ++ os))) (told (is_of_frame f) (first _ _ frames))
    ∙ elim (bytes_eq oid f.pair.oid) as (λ b. cond (not b) (f ∷ frames_without oid (fs ++ os)) (frames_without oid (fs ++ os)) ≡ cond (not b) (f ∷ without_holds oid fs) (without_holds oid fs) ++ os) [
      | true ↦ frames_part oid fs os (second _ _ frames) others
      | false ↦ ap (λ hs. f ∷ hs) (frames_part oid fs os (second _ _ frames) others)
    ]

-- what frames hold of an OID is none of what stays at the end
pub rest_outlasts : (oid : List ℕ) (hs : Holdings) → filter outlasts (frames_without oid hs) ≡ filter outlasts hs
rest_outlasts oid [] = refl
rest_outlasts oid (h ∷ hs) = left (is_of_frame h) (bytes_eq oid h.pair.oid) refl (rest_outlasts oid hs)
  where
    left : (b d : Bool) → is_of_frame h ≡ b → filter outlasts (frames_without oid hs) ≡ filter outlasts hs
        → filter outlasts (cond (not (b && d)) (h ∷ frames_without oid hs) (frames_without oid hs)) ≡ cond (not b) (h ∷ filter outlasts hs) (filter outlasts hs)
    left true true is rest = rest
    left true false is rest = ap (λ b. cond (not b) (h ∷ filter outlasts (frames_without oid hs)) (filter outlasts (frames_without oid hs))) is ∙ rest
    left false d is rest = ap (λ b. cond (not b) (h ∷ filter outlasts (frames_without oid hs)) (filter outlasts (frames_without oid hs))) is ∙ ap (λ hs. h ∷ hs) rest

-- ---- an OID that is held

-- one occurrence more holds its OID, and every other OID is held as before
pub any_more : (oid : List ℕ) (h : Hold) (hs : Holdings) → list_any (λ h. bytes_eq oid h.pair.oid) (one_more hold_cmp h hs) ≡ (bytes_eq oid h.pair.oid || list_any (λ h. bytes_eq oid h.pair.oid) hs)
any_more oid h hs = any_one_more hold_cmp (λ h. bytes_eq oid h.pair.oid) h hs

-- a holder that has an occurrence of a pair is one of the pair's
pub often_among : (h : Hold) (hs : Holdings) → how_often hold_cmp h hs ≤ holders h.pair hs
often_among h [] = omega arith
often_among h (k ∷ hs) =
    let rest = often_among h hs in
    ap_le (eq_by_cmp hold_cmp h k) (eq_by_cmp holder_cmp h.holder k.holder) (is_pair h.pair k.pair) (is_hold_by_parts h k) (how_often hold_cmp h hs) (holders h.pair hs) rest
  where
    ap_le : (c a b : Bool) → c ≡ (a && b) → (n m : ℕ) → n ≤ m → cond c 1 0 + n ≤ cond b 1 0 + m
    ap_le c true b is n m le = subst (λ c. cond c 1 0 + n ≤ cond b 1 0 + m) (sym is) (omega arith)
    ap_le c false true is n m le = subst (λ c. cond c 1 0 + n ≤ 1 + m) (sym is) (omega arith)
    ap_le c false false is n m le = subst (λ c. cond c 1 0 + n ≤ 0 + m) (sym is) (omega arith)
