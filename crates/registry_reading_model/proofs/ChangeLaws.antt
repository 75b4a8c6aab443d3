-- To change all types and numbers while a text is read is to read it and to change them then.
use Rattle.std.proofs.Common.{◌≡◌, ℕ, Bool, true, false, not, ◌||◌, List, [], ◌∷◌, ◌++◌, map, Option, None, Some, Result, Ok, Err, option_map}
use Rattle.std.proofs.Common.{if◌then◌else◌, refl, sym, ap, codes}
use Rattle.std.proofs.lemmas.List.{map_push}
use Rattle.std.specs.Str.{bytes_eq}
use Rattle.uno_model.specs.Entities.{Field, Base, Member, Constructor}
use Rattle.uno_model.specs.Entities.{Body, interface, struct, exception, enum, constants, typedef, new_service, old_service, new_singleton}
use Rattle.uno_model.specs.Entities.{old_singleton, Entity}
use Rattle.registry_reading_model.proofs.OptionMaps.{on_some_changed, on_changed, where_changed, choice_changed, pushed_changed, last_changed_changed}
use Rattle.registry_reading_model.specs.Bodies.{body_line, field_of, attribute_of, method_of, oneway_of}
use Rattle.registry_reading_model.specs.Bodies.{base_added, with_members, interface_line, item_of, constant_of, constructor_of}
use Rattle.registry_reading_model.specs.Bodies.{constructor_line, part_of, behind_word, fields_line, pushed}
use Rattle.registry_reading_model.specs.Changes.{Change, same, field_changed, attribute_changed, method_changed, member_changed, item_changed}
use Rattle.registry_reading_model.specs.Changes.{constant_changed}
use Rattle.registry_reading_model.specs.Changes.{constructor_changed, part_changed, body_changed, entity_changed}
use Rattle.registry_reading_model.specs.Headers.{header_of, is_free_name, words_opened, opened, opened_with, opened_alone, singleton_of}
use Rattle.registry_reading_model.specs.Headers.{perhaps_published}
use Rattle.registry_reading_model.specs.States.{State, unread, between, within, Wrong, bad, out_of_order, step, run, begun, gone_on, on_read}
use Rattle.registry_reading_model.specs.States.{is_above}
use Rattle.registry_reading_model.specs.Words.{on_some, word_of, behind, entity_name_of}
use Rattle.registry_reading_model.proofs.ChangedParts.{kind_changed, field_by, attribute_by, method_by, oneway_by, get_raises_by, set_raises_by}
use Rattle.registry_reading_model.proofs.ChangedParts.{param_added_by, raises_by, item_by, constant_by, constructor_by, given_by, rest_by, raised_by}
use Rattle.registry_reading_model.proofs.ChangedParts.{property_by}

-- ---- lines under a header

members_by : (c : Change) (bases : List Base) (o : Option (List Member)) (p : Option (List Member)) → p ≡ option_map (map (member_changed c)) o
    → with_members bases p ≡ option_map (body_changed c) (with_members bases o)
members_by c bases o p e = on_changed (body_changed c) (map (member_changed c)) o p _ _ e (λ ms. refl)

base_by : (c : Change) (optional : Bool) (bases : List Base) (members : List Member) (text : List ℕ)
    → base_added optional bases (map (member_changed c) members) text ≡ option_map (body_changed c) (base_added optional bases members text)
base_by c optional bases [] text = on_some_changed (body_changed c) (entity_name_of text) _ _ (λ name. refl)
base_by c optional bases (m ∷ ms) text = refl

interface_by : (c : Change) (bases : List Base) (members : List Member) (word text : List ℕ)
    → interface_line c bases (map (member_changed c) members) word text ≡ option_map (body_changed c) (interface_line same bases members word text)
unfolding interface_line
interface_by c bases members word text =
    let h = body_changed c in
    let inner = member_changed c in
    choice_changed h (bytes_eq word (codes "base")) _ _ _ _ (base_by c false bases members text)
    (choice_changed h (bytes_eq word (codes "optional")) _ _ _ _ (base_by c true bases members text)
    (choice_changed h (bytes_eq word (codes "attribute")) _ _ _ _
    (members_by c bases _ _ (pushed_changed inner members _ _ (on_changed inner (attribute_changed c) (attribute_of same text) (attribute_of c text) _ _ (attribute_by c text) (λ a. refl))))
    (choice_changed h (bytes_eq word (codes "getraises")) _ _ _ _ (members_by c bases _ _ (last_changed_changed inner _ _ (get_raises_by c text) members))
    (choice_changed h (bytes_eq word (codes "setraises")) _ _ _ _ (members_by c bases _ _ (last_changed_changed inner _ _ (set_raises_by c text) members))
    (choice_changed h (bytes_eq word (codes "method")) _ _ _ _
    (members_by c bases _ _ (pushed_changed inner members _ _ (on_changed inner (method_changed c) (method_of same text) (method_of c text) _ _ (method_by c text) (λ m. refl))))
    (choice_changed h (bytes_eq word (codes "oneway")) _ _ _ _
    (members_by c bases _ _ (pushed_changed inner members _ _ (on_changed inner (method_changed c) (oneway_of same text) (oneway_of c text) _ _ (oneway_by c text) (λ m. refl))))
    (choice_changed h (bytes_eq word (codes "param")) _ _ _ _ (members_by c bases _ _ (last_changed_changed inner _ _ (param_added_by c text) members))
    (choice_changed h (bytes_eq word (codes "raises")) _ _ _ _ (members_by c bases _ _ (last_changed_changed inner _ _ (raises_by c text) members)) refl))))))))

constructors_by : (c : Change) (constructors : List Constructor) (word text : List ℕ)
    → constructor_line c (map (constructor_changed c) constructors) word text ≡ option_map (map (constructor_changed c)) (constructor_line same constructors word text)
unfolding constructor_line
constructors_by c constructors word text =
    let h = map (constructor_changed c) in
    let inner = constructor_changed c in
    choice_changed h (bytes_eq word (codes "constructor")) _ _ _ _ (pushed_changed inner constructors (constructor_of text) (constructor_of text) (constructor_by c text))
    (choice_changed h (bytes_eq word (codes "param")) _ _ _ _ (last_changed_changed inner _ _ (given_by c text) constructors)
    (choice_changed h (bytes_eq word (codes "rest")) _ _ _ _ (last_changed_changed inner _ _ (rest_by c text) constructors)
    (choice_changed h (bytes_eq word (codes "raises")) _ _ _ _ (last_changed_changed inner _ _ (raised_by c text) constructors) refl)))

part_by : (c : Change) (word text : List ℕ) → part_of c word text ≡ option_map (part_changed c) (part_of same word text)
unfolding part_of
part_by c word text =
    let h = part_changed c in
    choice_changed h (bytes_eq word (codes "interface")) _ _ _ _ (on_some_changed h (entity_name_of text) _ _ (λ name. refl))
    (choice_changed h (bytes_eq word (codes "optinterface")) _ _ _ _ (on_some_changed h (entity_name_of text) _ _ (λ name. refl))
    (choice_changed h (bytes_eq word (codes "service")) _ _ _ _ (on_some_changed h (entity_name_of text) _ _ (λ name. refl))
    (choice_changed h (bytes_eq word (codes "optservice")) _ _ _ _ (on_some_changed h (entity_name_of text) _ _ (λ name. refl))
    (choice_changed h (bytes_eq word (codes "property")) _ _ _ _ (property_by c text) refl))))

behind_word_changed : {Y Z : Type 0} (h : Y → Z) (line : List ℕ) (f : List ℕ → List ℕ → Option Y) (g : List ℕ → List ℕ → Option Z)
    → ((word text : List ℕ) → g word text ≡ option_map h (f word text)) → behind_word line g ≡ option_map h (behind_word line f)
behind_word_changed h line f g each = on_some_changed h (word_of line) _ _ (λ x. each x.0 x.1)

fields_by : (c : Change) (members : List Field) (line : List ℕ)
    → fields_line c (map (field_changed c) members) line ≡ option_map (map (field_changed c)) (fields_line same members line)
unfolding fields_line
fields_by c members line =
    pushed_changed (field_changed c) members _ _ (on_some_changed (field_changed c) (behind (codes "member ") line) (field_of same) (field_of c) (λ x. field_by c x))

pub line_changed : (c : Change) (b : Body) (line : List ℕ) → body_line c (body_changed c b) line ≡ option_map (body_changed c) (body_line same b line)
unfolding body_line
line_changed c (interface bases members) line = behind_word_changed (body_changed c) line _ _ (λ word text. interface_by c bases members word text)
line_changed c (struct base members) line = on_changed (body_changed c) (map (field_changed c)) (fields_line same members line) _ _ _ (fields_by c members line) (λ fields. refl)
line_changed c (exception base members) line = on_changed (body_changed c) (map (field_changed c)) (fields_line same members line) _ _ _ (fields_by c members line) (λ fields. refl)
line_changed c (enum items) line =
    on_changed (body_changed c) (map (item_changed c)) (pushed items (on_some (behind (codes "value ") line) (item_of same))) _ _ _
    (pushed_changed (item_changed c) items _ _ (on_some_changed (item_changed c) (behind (codes "value ") line) (item_of same) (item_of c) (λ x. item_by c x))) (λ is. refl)
line_changed c (constants cs) line =
    on_changed (body_changed c) (map (constant_changed c)) (pushed cs (on_some (behind (codes "const ") line) (constant_of same))) _ _ _
    (pushed_changed (constant_changed c) cs _ _ (on_some_changed (constant_changed c) (behind (codes "const ") line) (constant_of same) (constant_of c) (λ x. constant_by c x)))
    (λ ks. refl)
line_changed c (new_service base constructors) line =
    on_changed (body_changed c) (map (constructor_changed c)) (behind_word line (constructor_line same constructors)) _ _ _
    (behind_word_changed (map (constructor_changed c)) line _ _ (λ word text. constructors_by c constructors word text)) (λ ks. refl)
line_changed c (old_service parts) line =
    on_changed (body_changed c) (map (part_changed c)) (pushed parts (behind_word line (part_of same))) _ _ _
    (pushed_changed (part_changed c) parts _ _ (behind_word_changed (part_changed c) line _ _ (λ word text. part_by c word text))) (λ ps. refl)
line_changed c (typedef k) line = refl
line_changed c (new_singleton base) line = refl
line_changed c (old_singleton service) line = refl

-- ---- headers

opened_by : (c : Change) (word rest : List ℕ) → opened_with c word rest ≡ option_map (body_changed c) (opened_with same word rest)
unfolding opened_with
opened_by c word rest =
    let h = body_changed c in
    choice_changed h (bytes_eq word (codes "struct")) _ _ _ _ (on_some_changed h (entity_name_of rest) _ _ (λ base. refl))
    (choice_changed h (bytes_eq word (codes "exception")) _ _ _ _ (on_some_changed h (entity_name_of rest) _ _ (λ base. refl))
    (choice_changed h (bytes_eq word (codes "typedef")) _ _ _ _ (kind_changed c h rest _ _ (λ k. refl))
    (choice_changed h (bytes_eq word (codes "service")) _ _ _ _
    (choice_changed h (bytes_eq rest (codes "old")) _ _ _ _ refl
    (on_some_changed h (behind (codes "new ") rest) _ _ (λ base. on_some_changed h (entity_name_of base) _ _ (λ name. refl))))
    (choice_changed h (bytes_eq word (codes "singleton")) _ _ _ _
    (on_some_changed h (word_of rest) _ _ (λ x. on_some_changed h (entity_name_of x.1) (singleton_of x.0) (singleton_of x.0) (λ name. singleton_by x.0 name))) refl))))
  where
    singleton_by : (form name : List ℕ) → singleton_of form name ≡ option_map (body_changed c) (singleton_of form name)
    singleton_by form name =
        choice_changed (body_changed c) (bytes_eq form (codes "new")) _ _ _ _ refl (choice_changed (body_changed c) (bytes_eq form (codes "old")) _ _ _ _ refl refl)

alone_by : (c : Change) (word : List ℕ) → opened_alone word ≡ option_map (body_changed c) (opened_alone word)
unfolding opened_alone
alone_by c word =
    let h = body_changed c in
    choice_changed h (bytes_eq word (codes "interface")) _ _ _ _ refl
    (choice_changed h (bytes_eq word (codes "struct")) _ _ _ _ refl
    (choice_changed h (bytes_eq word (codes "exception")) _ _ _ _ refl
    (choice_changed h (bytes_eq word (codes "enum")) _ _ _ _ refl
    (choice_changed h (bytes_eq word (codes "constants")) _ _ _ _ refl refl))))

words_by : (c : Change) (published : Bool) (text : List ℕ)
    → words_opened c published text ≡ option_map (entity_changed c) (words_opened same published text)
unfolding words_opened
words_by c published text = on_some_changed (entity_changed c) (word_of text) _ _ (λ x. by_name x.0 x.1 (word_of x.1))
  where
    by_name : (word behind_it : List ℕ) (o : Option (List ℕ × List ℕ))
        → opened c published word behind_it o ≡ option_map (entity_changed c) (opened same published word behind_it o)
    by_name word behind_it None =
        where_changed (entity_changed c) (is_free_name behind_it) _ _ (on_changed (entity_changed c) (body_changed c) (opened_alone word) (opened_alone word) _ _ (alone_by c word) (λ b. refl))
    by_name word behind_it (Some x) =
        where_changed (entity_changed c) (is_free_name x.0) _ _
        (on_changed (entity_changed c) (body_changed c) (opened_with same word x.1) (opened_with c word x.1) _ _ (opened_by c word x.1) (λ b. refl))

pub header_changed : (c : Change) (line : List ℕ) → header_of c line ≡ option_map (entity_changed c) (header_of same line)
unfolding header_of
header_changed c line = by_words (behind (codes "published ") line)
  where
    by_words : (o : Option (List ℕ)) → perhaps_published c line o ≡ option_map (entity_changed c) (perhaps_published same line o)
    by_words None = words_by c false line
    by_words (Some words) = words_by c true words

-- ---- states

abbrev pub state_changed : Change → State → State
state_changed c unread = unread
state_changed c (between es) = between (map (entity_changed c) es)
state_changed c (within es e) = within (map (entity_changed c) es) (entity_changed c e)

abbrev pub result_map : {T U E : Type 0} → (T → U) → Result T E → Result U E
result_map f (Ok x) = Ok (f x)
result_map f (Err e) = Err e

pub above_changed : (c : Change) (es : List Entity) (name : List ℕ) → is_above (map (entity_changed c) es) name ≡ is_above es name
unfolding is_above
above_changed c [] name = refl
above_changed c (e ∷ []) name = refl
above_changed c (e ∷ (d ∷ ds)) name = above_changed c (d ∷ ds) name

pub step_changed : (o : Bool) (c : Change) (st : State) (line : List ℕ)
    → step o c (state_changed c st) line ≡ result_map (state_changed c) (step o same st line)
unfolding step
step_changed o c unread line = by_test (bytes_eq line (codes "unoreg 1"))
  where
    by_test : (b : Bool) → ◌≡◌ {A = Result State Wrong} (if b then Ok (between []) else Err bad) (result_map (state_changed c) (if b then Ok (between []) else Err bad))
    by_test true = refl
    by_test false = refl
step_changed o c (between es) line = rw (header_changed c line) (by_header (header_of same line))
  where
    by_test : (e : Entity) (b : Bool) → ◌≡◌ {A = Result State Wrong} (if b then Ok (within (map (entity_changed c) es) (entity_changed c e)) else Err out_of_order)
        (result_map (state_changed c) (if b then Ok (within es e) else Err out_of_order))
    by_test e true = refl
    by_test e false = refl

    by_header : (h : Option Entity) → begun o (map (entity_changed c) es) (option_map (entity_changed c) h) ≡ result_map (state_changed c) (begun o es h)
    by_header None = refl
    by_header (Some e) = rw (above_changed c es e.name) (by_test e (not o || is_above es e.name))
step_changed o c (within es e) line = by_test (bytes_eq line (codes "end"))
  where
    by_line : (b : Option Body) → gone_on (map (entity_changed c) es) (entity_changed c e) (option_map (body_changed c) b) ≡ result_map (state_changed c) (gone_on es e b)
    by_line None = refl
    by_line (Some b) = refl

    ended : ◌≡◌ {A = Result State Wrong} (Ok (between (map (entity_changed c) es ++ entity_changed c e ∷ []))) (Ok (between (map (entity_changed c) (es ++ e ∷ []))))
    ended = ap (λ ds. Ok (between ds)) (sym (map_push (entity_changed c) es e))

    by_test : (b : Bool)
        → (if b then Ok (between (map (entity_changed c) es ++ entity_changed c e ∷ [])) else gone_on (map (entity_changed c) es) (entity_changed c e) (body_line c (body_changed c e.body) line))
        ≡ result_map (state_changed c) (if b then Ok (between (es ++ e ∷ [])) else gone_on es e (body_line same e.body line))
    by_test true = ended
    by_test false = rw (line_changed c e.body line) (by_line (body_line same e.body line))

pub run_from_changed : (o : Bool) (c : Change) (lines : List (List ℕ)) (st : State)
    → run o c (state_changed c st) lines ≡ result_map (state_changed c) (run o same st lines)
unfolding run
run_from_changed o c [] st = refl
run_from_changed o c (line ∷ lines) st = rw (step_changed o c st line) (by_step (step o same st line) (λ next. run_from_changed o c lines next))
  where
    by_step : (r : Result State Wrong) → ((next : State) → run o c (state_changed c next) lines ≡ result_map (state_changed c) (run o same next lines))
        → on_read (result_map (state_changed c) r) (λ next. run o c next lines) ≡ result_map (state_changed c) (on_read r (λ next. run o same next lines))
    by_step (Err w) rest = refl
    by_step (Ok next) rest = rest next

pub run_changed : (o : Bool) (c : Change) (lines : List (List ℕ)) → run o c unread lines ≡ result_map (state_changed c) (run o same unread lines)
run_changed o c lines = run_from_changed o c lines unread
