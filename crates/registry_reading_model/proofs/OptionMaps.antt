-- Changes that go through options, tests and lists.
use Rattle.std.proofs.Common.{◌≡◌, Bool, true, false, List, [], ◌∷◌, map, Option, None, Some, option_map, if◌then◌else◌, refl, sym, ap}
use Rattle.std.proofs.lemmas.List.{map_push}
use Rattle.uno_model.specs.Sound.{is_some_list}
use Rattle.registry_reading_model.specs.Bodies.{pushed, all_but_last, last_of, last_changed}
use Rattle.registry_reading_model.specs.Words.{on_some, where_}

pub on_some_changed : {X Y Z : Type 0} (h : Y → Z) (o : Option X) (f : X → Option Y) (g : X → Option Z) → ((x : X) → g x ≡ option_map h (f x))
    → on_some o g ≡ option_map h (on_some o f)
on_some_changed h None f g each = refl
on_some_changed h (Some x) f g each = each x

-- the same, where what there is changes too
pub on_changed : {W X Y Z : Type 0} (h : Y → Z) (k : W → X) (o : Option W) (p : Option X) (f : W → Option Y) (g : X → Option Z) → p ≡ option_map k o
    → ((x : W) → g (k x) ≡ option_map h (f x)) → on_some p g ≡ option_map h (on_some o f)
on_changed h k None p f g e each = rw e refl
on_changed h k (Some x) p f g e each = rw e (each x)

pub where_changed : {Y Z : Type 0} (h : Y → Z) (b : Bool) (o : Option Y) (p : Option Z) → p ≡ option_map h o → where_ b p ≡ option_map h (where_ b o)
where_changed h true o p e = e
where_changed h false o p e = refl

pub choice_changed : {Y Z : Type 0} (h : Y → Z) (b : Bool) (o p : Option Y) (q r : Option Z) → q ≡ option_map h o → r ≡ option_map h p
    → (if b then q else r) ≡ option_map h (if b then o else p)
choice_changed h true o p q r e f = e
choice_changed h false o p q r e f = f

pub pushed_changed : {Y Z : Type 0} (h : Y → Z) (ys : List Y) (o : Option Y) (p : Option Z) → p ≡ option_map h o
    → pushed (map h ys) p ≡ option_map (map h) (pushed ys o)
pushed_changed h ys None p e = rw e refl
pushed_changed h ys (Some y) p e = rw e (ap Some (sym (map_push h ys y)))

pub some_list_changed : {Y Z : Type 0} (h : Y → Z) (ys : List Y) → is_some_list (map h ys) ≡ is_some_list ys
some_list_changed h [] = refl
some_list_changed h (y ∷ ys) = refl

last_of_changed : {Y Z : Type 0} (h : Y → Z) (y : Y) (ys : List Y) → last_of (h y) (map h ys) ≡ h (last_of y ys)
last_of_changed h y [] = refl
last_of_changed h y (x ∷ xs) = last_of_changed h x xs

all_but_last_changed : {Y Z : Type 0} (h : Y → Z) (y : Y) (ys : List Y) → all_but_last (h y) (map h ys) ≡ map h (all_but_last y ys)
all_but_last_changed h y [] = refl
all_but_last_changed h y (x ∷ xs) = ap (λ zs. h y ∷ zs) (all_but_last_changed h x xs)

pub last_changed_changed : {Y Z : Type 0} (h : Y → Z) (f : Y → Option Y) (g : Z → Option Z) → ((y : Y) → g (h y) ≡ option_map h (f y)) → (ys : List Y)
    → last_changed g (map h ys) ≡ option_map (map h) (last_changed f ys)
unfolding last_changed
last_changed_changed h f g each [] = refl
last_changed_changed h f g each (y ∷ ys) =
    rw (last_of_changed h y ys, all_but_last_changed h y ys)
    (on_changed (map h) h (f (last_of y ys)) (g (h (last_of y ys))) _ _ (each (last_of y ys)) (λ z. ap Some (sym (map_push h (all_but_last y ys) z))))
