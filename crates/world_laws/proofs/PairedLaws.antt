-- The calls of one end that wait, beside the methods of the other that serve: each method stands beside its call, and at most the top call has none.
use Rattle.std.proofs.Common.{◌≡◌, refl, sym, ap, subst, ◌∙◌, ℕ, zero, suc, ◌+◌, ◌≤◌, inl, inr, Bool, true, false, List, [], ◌∷◌, ◌++◌, length, arith, if◌then◌else◌}
use Rattle.std.proofs.lemmas.List.{append_assoc, length-append}
use Rattle.plan_model.specs.Frames.{Body, Frame, base, body, outgoing}
use Rattle.bridge_model.specs.Steps.{Picked}
use Rattle.world_model.specs.Threads.{Shape, root, local, serves, out, shape_of_body, shapes, Crossing, idle, runs, asked, answered, locals, upper, lower, View, seen, Locks}
use Rattle.world_laws.specs.Serving.{calls_out, served_among}
use Rattle.world_laws.proofs.CrossingFrames.{calls_in, begun_at, served_if, served_in}

-- ---- lists

module _ {W P : Type 0} (R : W → P → Type 0) where
  abbrev pub Each : List W → List P → Type 0
  Each [] [] = Unit
  Each (w ∷ ws) (p ∷ ps) = R w p × Each ws ps
  Each ws ps = ⊥

-- behind some calls stand those that are served
pub record Paired {W P : Type 0} (R : W → P → Type 0) (ws : List W) (ps : List P) : Type 0 where
  pub over : List W
  pub under : List W
  pub are : ws ≡ over ++ under
  pub each : Each R under ps

pub same_length : {W P : Type 0} (R : W → P → Type 0) (ws : List W) (ps : List P) → Each R ws ps → length ws ≡ length ps
same_length R [] [] each = refl
same_length R (w ∷ ws) (p ∷ ps) each = ap suc (same_length R ws ps each.1)
same_length R [] (p ∷ ps) each = absurd each
same_length R (w ∷ ws) [] each = absurd each

-- a part at the end that is no longer than another one is at the end of that
suffix : {W : Type 0} (xs ys gone zs : List W) → xs ++ ys ≡ gone ++ zs → length ys ≤ length zs → (more : List W) × (zs ≡ more ++ ys)
suffix xs ys [] zs is least = (xs, sym is)
suffix [] ys (g ∷ gone) zs is least =
    let longer : length ys ≡ suc (length (gone ++ zs)) = ap length is in
    let more = length-append gone zs in
    let bad : ⊥ = omega arith in absurd bad
suffix (x ∷ xs) ys (g ∷ gone) zs is least = let tails : xs ++ ys ≡ gone ++ zs = cc in suffix xs ys gone zs tails least

no_more : {W : Type 0} (more ys zs : List W) → zs ≡ more ++ ys → length zs ≡ length ys → zs ≡ ys
no_more [] ys zs is same = is
no_more (m ∷ more) ys zs is same =
    let longer : length zs ≡ suc (length (more ++ ys)) = ap length is in
    let parts = length-append more ys in
    let bad : ⊥ = omega arith in absurd bad

-- what is left of methods
each_left : {W P : Type 0} (R : W → P → Type 0) (ws : List W) (ended ps : List P) → Each R ws (ended ++ ps) → Paired R ws ps
each_left R ws [] ps each = record { over = []; under = ws; are = refl; each = each }
each_left R [] (p ∷ ended) ps each = absurd each
each_left R (w ∷ ws) (p ∷ ended) ps each = let k = each_left R ws ended ps each.1 in record { over = w ∷ k.over; under = k.under; are = ap (λ zs. w ∷ zs) k.are; each = k.each }

module _ {W P : Type 0} (R : W → P → Type 0) where
  pub none_paired : Paired R [] []
  none_paired = record { over = []; under = []; are = refl; each = tt }

  -- calls were answered, and there are as many left as methods that serve
  pub calls_answered : (ws gone zs : List W) (ps : List P) → ws ≡ gone ++ zs → length ps ≤ length zs → Paired R ws ps → Paired R zs ps
  calls_answered ws gone zs ps is least k =
      let same = same_length R k.under ps k.each in
      let within : length k.under ≤ length zs = subst (λ n. n ≤ length zs) (sym same) least in
      let more = suffix k.over k.under gone zs (sym k.are ∙ is) within in
      record { over = more.0; under = k.under; are = more.1; each = k.each }

  pub calls_made : (ws new zs : List W) (ps : List P) → zs ≡ new ++ ws → Paired R ws ps → Paired R zs ps
  calls_made ws new zs ps is k = record { over = new ++ k.over; under = k.under; are = is ∙ (ap (λ ys. new ++ ys) k.are ∙ sym (append_assoc new k.over k.under)); each = k.each }

  pub methods_ended : (ws : List W) (ps ended qs : List P) → ps ≡ ended ++ qs → Paired R ws ps → Paired R ws qs
  methods_ended ws ps ended qs is k =
      let left = each_left R k.under ended qs (subst (λ zs. Each R k.under zs) is k.each) in
      record { over = k.over ++ left.over; under = left.under; are = k.are ∙ (ap (λ zs. k.over ++ zs) left.are ∙ sym (append_assoc k.over left.over left.under)); each = left.each }

  -- where as many calls wait as methods serve, each is served
  pub all_served : (ws : List W) (ps : List P) → length ws ≡ length ps → Paired R ws ps → Each R ws ps
  all_served ws ps same k =
      let shown = same_length R k.under ps k.each in
      subst (λ zs. Each R zs ps) (sym (no_more k.over k.under ws k.are (same ∙ sym shown))) k.each

  -- the top call alone was not served, and now is
  pub method_begun : (w : W) (ws : List W) (p : P) (ps : List P) → length ws ≡ length ps → R w p → Paired R (w ∷ ws) ps → Paired R (w ∷ ws) (p ∷ ps)
  method_begun w ws p ps same r k =
      let least : length ps ≤ length ws = let q = same in omega arith in
      let below = all_served ws ps same (calls_answered (w ∷ ws) (w ∷ []) ws ps refl least k) in
      record { over = []; under = w ∷ ws; are = refl; each = (r, below) }

-- the call of one method, and how many are below both
pub record Found {W P : Type 0} (R : W → P → Type 0) (ws : List W) (p : P) (behind : List P) : Type 0 where
  pub over : List W
  pub call : W
  pub under : List W
  pub are : ws ≡ over ++ call ∷ under
  pub is : R call p
  pub matched : length under ≡ length behind

found_each : {W P : Type 0} (R : W → P → Type 0) (ws : List W) (front : List P) (p : P) (behind : List P) → Each R ws (front ++ p ∷ behind) → Found R ws p behind
found_each R [] [] p behind each = absurd each
found_each R [] (q ∷ front) p behind each = absurd each
found_each R (w ∷ ws) [] p behind each = record { over = []; call = w; under = ws; are = refl; is = each.0; matched = same_length R ws behind each.1 }
found_each R (w ∷ ws) (q ∷ front) p behind each =
    let k = found_each R ws front p behind each.1 in record { over = w ∷ k.over; call = k.call; under = k.under; are = ap (λ zs. w ∷ zs) k.are; is = k.is; matched = k.matched }

pub found : {W P : Type 0} (R : W → P → Type 0) (ws : List W) (ps front : List P) (p : P) (behind : List P) → ps ≡ front ++ p ∷ behind → Paired R ws ps → Found R ws p behind
found R ws ps front p behind is k =
    let f = found_each R k.under front p behind (subst (λ zs. Each R k.under zs) is k.each) in
    record { over = k.over ++ f.over; call = f.call; under = f.under; are = k.are ∙ (ap (λ zs. k.over ++ zs) f.are ∙ sym (append_assoc k.over f.over (f.call ∷ f.under))); is = f.is; matched = f.matched }

each_also : {W P : Type 0} (R S : W → P → Type 0) → ((w : W) (p : P) → R w p → S w p) → (ws : List W) (ps : List P) → Each R ws ps → Each S ws ps
each_also R S also [] [] each = tt
each_also R S also (w ∷ ws) (p ∷ ps) each = (also w p each.0, each_also R S also ws ps each.1)
each_also R S also [] (p ∷ ps) each = absurd each
each_also R S also (w ∷ ws) [] each = absurd each

pub paired_also : {W P : Type 0} (R S : W → P → Type 0) → ((w : W) (p : P) → R w p → S w p) → (ws : List W) (ps : List P) → Paired R ws ps → Paired S ws ps
paired_also R S also ws ps k = record { over = k.over; under = k.under; are = k.are; each = each_also R S also k.under ps k.each }

-- ---- how many

unfoldable pub outs : List Shape → ℕ
outs [] = 0
outs (root ∷ ss) = outs ss
outs (local ∷ ss) = outs ss
outs (serves f ∷ ss) = outs ss
outs (out k ∷ ss) = suc (outs ss)

unfoldable pub servings : List Shape → ℕ
servings [] = 0
servings (root ∷ ss) = servings ss
servings (local ∷ ss) = servings ss
servings (serves f ∷ ss) = suc (servings ss)
servings (out k ∷ ss) = servings ss

body_outs : (p : Bool) (b : Body) (ss : List Shape) → outs (shape_of_body p b ∷ ss) ≡ outs ss
unfolding outs
body_outs true b ss = refl
body_outs false b ss = refl

pub calls_counted : (fs : List Frame) → length (calls_in fs) ≡ outs (shapes fs)
unfolding calls_in outs
calls_counted [] = refl
calls_counted (base n ∷ fs) = calls_counted fs
calls_counted (body b ∷ fs) = calls_counted fs ∙ sym (body_outs b.from_peer b (shapes fs))
calls_counted (outgoing o ∷ fs) = ap suc (calls_counted fs)

body_servings : (p : Bool) (b : Body) (q : Picked) (ps : List Picked) (ss : List Shape) → length ps ≡ servings ss → length (served_if p q ps) ≡ servings (shape_of_body p b ∷ ss)
unfolding servings
body_servings true b q ps ss same = ap suc same
body_servings false b q ps ss same = same

pub methods_counted : (fs : List Frame) → length (served_in fs) ≡ servings (shapes fs)
unfolding served_in servings
methods_counted [] = refl
methods_counted (base n ∷ fs) = methods_counted fs
methods_counted (body b ∷ fs) = body_servings b.from_peer b (begun_at b fs) (served_in fs) (shapes fs) (methods_counted fs)
methods_counted (outgoing o ∷ fs) = methods_counted fs

pub calls_out_are : (fs : List Frame) → calls_out fs ≡ length (calls_in fs)
unfolding calls_out calls_in
calls_out_are [] = refl
calls_out_are (base n ∷ fs) = calls_out_are fs
calls_out_are (body b ∷ fs) = calls_out_are fs
calls_out_are (outgoing o ∷ fs) = ap suc (calls_out_are fs)

served_by : (p : Bool) (q : Picked) (n : ℕ) (ps : List Picked) → n ≡ length ps → (if p then suc n else n) ≡ length (served_if p q ps)
served_by true q n ps same = ap suc same
served_by false q n ps same = same

pub served_among_are : (fs : List Frame) → served_among fs ≡ length (served_in fs)
unfolding served_among served_in
served_among_are [] = refl
served_among_are (base n ∷ fs) = served_among_are fs
served_among_are (body b ∷ fs) = served_by b.from_peer (begun_at b fs) (served_among fs) (served_in fs) (served_among_are fs)
served_among_are (outgoing o ∷ fs) = served_among_are fs

-- ---- a thread

outs_locals : (n : ℕ) (ss : List Shape) → outs (locals n ss) ≡ outs ss
unfolding outs locals
outs_locals zero ss = refl
outs_locals (suc n) ss = outs_locals n ss

servings_locals : (n : ℕ) (ss : List Shape) → servings (locals n ss) ≡ servings ss
unfolding servings locals
servings_locals zero ss = refl
servings_locals (suc n) ss = servings_locals n ss

-- each end has as many calls that went out as the other has methods that serve them
mutual
  unfolding upper lower outs servings

  pub calls_above : (n : ℕ) (cs : List Crossing) → outs (upper n cs) ≡ servings (lower n cs)
  calls_above n [] = outs_locals n (root ∷ [])
  calls_above n (c ∷ cs) = outs_locals c.above (serves c.call.called ∷ lower n cs) ∙ calls_below n cs

  pub calls_below : (n : ℕ) (cs : List Crossing) → outs (lower n cs) ≡ servings (upper n cs)
  calls_below n [] = sym (servings_locals n (root ∷ []))
  calls_below n (c ∷ cs) = ap suc (calls_above n cs) ∙ sym (servings_locals c.above (serves c.call.called ∷ lower n cs))

least_of : (a b : ℕ) → a ≡ b → b ≤ a
least_of a b same = omega arith

least_more : (a b : ℕ) → a ≡ b → b ≤ suc a
least_more a b same = omega arith

-- no end has more methods that serve than the other has calls that went out
pub within : (v : View) → Locks v → servings v.theirs ≤ outs v.mine
unfolding seen outs servings
within v (idle, real, inl is) = subst (λ (z : View). servings z.theirs ≤ outs z.mine) (sym is) (least_of 0 0 refl)
within v (idle, real, inr is) = subst (λ (z : View). servings z.theirs ≤ outs z.mine) (sym is) (least_of 0 0 refl)
within v (runs n cs, real, inl is) = subst (λ (z : View). servings z.theirs ≤ outs z.mine) (sym is) (least_of (outs (upper n cs)) (servings (lower n cs)) (calls_above n cs))
within v (runs n cs, real, inr is) = subst (λ (z : View). servings z.theirs ≤ outs z.mine) (sym is) (least_of (outs (lower n cs)) (servings (upper n cs)) (calls_below n cs))
within v (asked k n cs, real, inl is) = subst (λ (z : View). servings z.theirs ≤ outs z.mine) (sym is) (least_more (outs (upper n cs)) (servings (lower n cs)) (calls_above n cs))
within v (asked k n cs, real, inr is) = subst (λ (z : View). servings z.theirs ≤ outs z.mine) (sym is) (least_of (outs (lower n cs)) (servings (upper n cs)) (calls_below n cs))
within v (answered k n cs, real, inl is) = subst (λ (z : View). servings z.theirs ≤ outs z.mine) (sym is) (least_more (outs (upper n cs)) (servings (lower n cs)) (calls_above n cs))
within v (answered k n cs, real, inr is) = subst (λ (z : View). servings z.theirs ≤ outs z.mine) (sym is) (least_of (outs (lower n cs)) (servings (upper n cs)) (calls_below n cs))
