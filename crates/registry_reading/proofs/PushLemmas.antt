-- What was read stands behind the others, seen as what it is.
use Rattle.std.proofs.Common.{◌≡◌, subst, Bool, true, false, List, [], ◌∷◌, ◌++◌, map, Option, None, Some, option_map, Result, Ok, Err, sym, ap, ◌∙◌}
use Rattle.std.proofs.lemmas.List.{map-append}
use Rattle.std.specs.Prelude.{IfOk}
use Rattle.registry_reading_model.specs.Bodies.{pushed}
use Rattle.registry_reading_model.specs.Words.{on_some}
use Rattle.registry_reading.specs.Taken.{IsTaken}

pub pushed_taken : {X Y E : Type 0} (g : X → Y) (old new : List X) (x : Option X) (y : Option Y) (r : Result Bool E) → option_map g x ≡ y
    → IfOk r (λ taken. IsTaken taken new (pushed old x)) → IfOk r (λ taken. IsTaken taken (map g new) (pushed (map g old) y))
pushed_taken g old new x y (Err e) is put = tt
pushed_taken g old new None y (Ok true) is put = absurd cc
pushed_taken g old new (Some x) y (Ok true) is put =
    ap (pushed (map g old)) (sym is) ∙ ap Some (sym (map-append g old (x ∷ []))) ∙ ap (option_map (map g)) put
pushed_taken g old new None y (Ok false) is put = ap (pushed (map g old)) (sym is)
pushed_taken g old new (Some x) y (Ok false) is put = absurd cc

-- the same of what stands behind a front
pub pushed_behind : {X Y Z E : Type 0} (g : X → Y) (old new : List X) (x : Option X) (front : Option Z) (z : Z) (f : Z → Option Y) (r : Result Bool E) → Some z ≡ front
    → option_map g x ≡ f z → IfOk r (λ taken. IsTaken taken new (pushed old x)) → IfOk r (λ taken. IsTaken taken (map g new) (pushed (map g old) (on_some front f)))
pushed_behind g old new x front z f r at is put = pushed_taken g old new x (on_some front f) r (is ∙ ap (λ o. on_some o f) at) put

-- the same of what is seen as it is
pub pushed_same : {X E : Type 0} (old new : List X) (x y : Option X) (r : Result Bool E) → x ≡ y → IfOk r (λ taken. IsTaken taken new (pushed old x))
    → IfOk r (λ taken. IsTaken taken new (pushed old y))
pushed_same old new x y r is put = subst (λ o. IfOk r (λ taken. IsTaken taken new (pushed old o))) is put
