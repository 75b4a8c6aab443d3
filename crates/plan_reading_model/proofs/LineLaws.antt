-- A line is read as itself, and what is read is the line that its text says.
use Rattle.std.proofs.Common.{◌≡◌, ℕ, Bool, true, false, ◌&&◌, List, [], ◌∷◌, ◌++◌, None, Some, refl, ap, ◌∙◌, codes, arith}
use Rattle.std.proofs.lemmas.Bool.{and_parts}
use Rattle.std.proofs.lemmas.List.{append-nil}
use Rattle.std.specs.List.{list_all}
use Rattle.std.specs.Str.{bytes_eq}
use Rattle.literal_model.proofs.ScanLaws.{front_rest}
use Rattle.literal_model.specs.Shapes.{run_of, behind_run}
use Rattle.uno_model.proofs.Options.{same_some, none_some}
use Rattle.uno_model.specs.Entities.{Entity}
use Rattle.uno_model.specs.Names.{is_identifier}
use Rattle.uno_model.specs.Sound.{is_named, is_some_list}
use Rattle.plan_model.specs.Forms.{is_path, is_type_text, is_function_text, is_export_name, is_variable_name, is_declared, is_word_formed, is_left_out, is_term, is_line}
use Rattle.plan_model.specs.Keeps.{Says}
use Rattle.plan_model.specs.Lines.{Line, behaviour, field, method, service, singleton, export, thread, end_line, let_variable, set_variable}
use Rattle.plan_model.specs.Lines.{set_field, call, query, make, drop_variable, when, return, raise, dispose, ask, ask_instance, same}
use Rattle.plan_model.specs.PlanText.{term_text, call_text, line_words, line_text}
use Rattle.plan_reading_model.specs.LineReading.{call_at}
use Rattle.plan_reading_model.specs.LineReading.{when_at, line_alone, line_behind, is_not_blank, line_of_words, line_at}
use Rattle.plan_reading_model.proofs.LineAsks.{ask_said, ask_instance_said, ask_back}
use Rattle.plan_reading_model.proofs.LineCalls.{called_text, call_line, call_said, call_back}
use Rattle.plan_reading_model.proofs.LineHeads.{behaviour_said, behaviour_back, field_said, field_back, method_said, method_back, offer_said}
use Rattle.plan_reading_model.proofs.LineHeads.{service_back, singleton_back, export_said, export_back}
use Rattle.plan_reading_model.proofs.LineParts.{says_made, behind_fails}
use Rattle.plan_reading_model.proofs.LineStatements.{let_said, let_back, set_variable_said, set_field_said, set_back, query_said, query_back, make_said, make_back}
use Rattle.plan_reading_model.proofs.LineStatements.{drop_said, drop_back, same_said, same_back, return_said, return_back, raise_said, raise_back}
use Rattle.plan_reading_model.proofs.LineTests.{test_text, when_line, when_said, when_back}
use Rattle.plan_reading_model.proofs.PartLaws.{chosen, same_word, ends_type}
use Rattle.plan_reading_model.proofs.TermLaws.{raised_ends}

-- ---- what is spelled is read

-- the value that is raised does not begin with a second word of its type
abbrev pub is_readable : Line → Bool
is_readable (raise k t) = ends_type (32 ∷ term_text t)
is_readable l = true

called_front : (reg : List Entity) (rest : List ℕ) → line_at reg (codes "call" ++ 32 ∷ rest) ≡ call_at reg rest
unfolding line_at run_of behind_run line_behind
called_front reg rest = refl

test_front : (reg : List Entity) (rest : List ℕ) → line_at reg (codes "when" ++ 32 ∷ rest) ≡ when_at reg rest
unfolding line_at run_of behind_run line_behind
test_front reg rest = refl

pub readable_said : (reg : List Entity) (l : Line) → is_line reg l ≡ true → is_readable l ≡ true → line_at reg (line_text l) ≡ Some l
unfolding line_at run_of behind_run line_alone line_behind line_words is_line
readable_said reg (behaviour name faces) is readable =
    let named = and_parts (is_identifier name) (is_some_list faces && list_all is_path faces) is in
    let are = and_parts (is_some_list faces) (list_all is_path faces) named.1 in
    behaviour_said name faces named.0 are.0 are.1
readable_said reg (field d) is readable = field_said d is
readable_said reg (method face function) is readable =
    let parts = and_parts (is_path face) (is_function_text function) is in
    method_said face function parts.0 parts.1
readable_said reg (service name b) is readable =
    let parts = and_parts (is_path name) (is_identifier b) is in
    offer_said service name b parts.0 parts.1
readable_said reg (singleton name b) is readable =
    let parts = and_parts (is_path name) (is_identifier b) is in
    offer_said singleton name b parts.0 parts.1
readable_said reg (export name b) is readable =
    let parts = and_parts (is_export_name name) (is_identifier b) is in
    export_said name b parts.0 parts.1
readable_said reg thread is readable = refl
readable_said reg end_line is readable = refl
readable_said reg (let_variable d t) is readable =
    let parts = and_parts (is_declared d) (is_term reg t) is in
    let_said reg d t parts.0 parts.1
readable_said reg (set_variable name t) is readable =
    let parts = and_parts (is_variable_name name) (is_term reg t) is in
    set_variable_said reg name t parts.0 parts.1
readable_said reg (set_field name t) is readable =
    let parts = and_parts (is_identifier name) (is_term reg t) is in
    set_field_said reg name t parts.0 parts.1
readable_said reg (call to target function args) is readable =
    let parts = and_parts (is_left_out is_declared to && is_word_formed target) (is_function_text function && list_all (is_term reg) args) is in
    let front = and_parts (is_left_out is_declared to) (is_word_formed target) parts.0 in
    let rest = and_parts (is_function_text function) (list_all (is_term reg) args) parts.1 in
    ap (line_at reg) (call_line to target function args) ∙ called_front reg (called_text to (call_text target function args))
    ∙ call_said reg to target function args front.0 front.1 rest.0 rest.1
readable_said reg (query d target) is readable =
    let parts = and_parts (is_declared d) (is_word_formed target) is in
    query_said d target parts.0 parts.1
readable_said reg (make d b) is readable =
    let parts = and_parts (is_declared d) (is_identifier b) is in
    make_said d b parts.0 parts.1
readable_said reg (drop_variable name) is readable = drop_said name is
readable_said reg (when left c right back) is readable =
    let parts = and_parts (is_word_formed left) (is_term reg right && is_left_out (is_term reg) back) is in
    let rest = and_parts (is_term reg right) (is_left_out (is_term reg) back) parts.1 in
    ap (line_at reg) (when_line left c right back) ∙ test_front reg (test_text left c right back) ∙ when_said reg left c right back parts.0 rest.0 rest.1
readable_said reg (return None) is readable = refl
readable_said reg (return (Some t)) is readable = return_said reg t is
readable_said reg (raise k t) is readable =
    let parts = and_parts (is_type_text k) (is_term reg t) is in
    raise_said reg k t parts.0 parts.1 readable
readable_said reg dispose is readable = refl
readable_said reg (ask d name) is readable =
    let parts = and_parts (is_declared d) (is_export_name name) is in
    ask_said d name parts.0 parts.1
readable_said reg (ask_instance d) is readable = ask_instance_said d is
readable_said reg (same x y) is readable =
    let parts = and_parts (is_variable_name x) (is_variable_name y) is in
    same_said x y parts.0 parts.1

-- where the names of the registry are identifiers
all_readable : (reg : List Entity) (l : Line) → list_all is_named reg ≡ true → is_line reg l ≡ true → is_readable l ≡ true
unfolding is_line
all_readable reg (raise k t) named is = raised_ends reg t named (and_parts (is_type_text k) (is_term reg t) is).1
all_readable reg l named is = refl

pub line_said : (reg : List Entity) (l : Line) → list_all is_named reg ≡ true → is_line reg l ≡ true → line_at reg (line_text l) ≡ Some l
line_said reg l named is = readable_said reg l is (all_readable reg l named is)

-- ---- what is read is spelled

alone_back : (reg : List Entity) (w : List ℕ) (l : Line) → line_alone w ≡ Some l → Says reg w l
unfolding line_alone line_words is_line
alone_back reg w l e =
    chosen (bytes_eq w (codes "thread")) _ _ l e (λ is r. says_made reg w thread l (same_some r) refl (same_word w (codes "thread") is)) (λ other e.
    chosen (bytes_eq w (codes "end")) _ _ l e (λ is r. says_made reg w end_line l (same_some r) refl (same_word w (codes "end") is)) (λ other e.
    chosen (bytes_eq w (codes "return")) _ _ l e (λ is r. says_made reg w (return None) l (same_some r) refl (same_word w (codes "return") is)) (λ other e.
    chosen (bytes_eq w (codes "dispose")) _ _ l e (λ is r. says_made reg w dispose l (same_some r) refl (same_word w (codes "dispose") is))
    (λ other e. absurd (none_some e)))))

-- a line by its first word
by_word : (reg : List Entity) (w v rest : List ℕ) (l : Line) → Says reg (v ++ 32 ∷ rest) l → bytes_eq w v ≡ true → Says reg (w ++ 32 ∷ rest) l
by_word reg w v rest l says is = record { spelled = ap (λ u. u ++ 32 ∷ rest) (same_word w v is) ∙ says.spelled; formed = says.formed }

word_line : (reg : List Entity) (w rest : List ℕ) (l : Line) → line_behind reg w rest ≡ Some l → Says reg (w ++ 32 ∷ rest) l
unfolding line_behind
word_line reg w rest l e =
    chosen (bytes_eq w (codes "behaviour")) _ _ l e (λ is r. by_word reg w (codes "behaviour") rest l (behaviour_back reg rest l r) is) (λ other e.
    chosen (bytes_eq w (codes "field")) _ _ l e (λ is r. by_word reg w (codes "field") rest l (field_back reg rest l r) is) (λ other e.
    chosen (bytes_eq w (codes "method")) _ _ l e (λ is r. by_word reg w (codes "method") rest l (method_back reg rest l r) is) (λ other e.
    chosen (bytes_eq w (codes "service")) _ _ l e (λ is r. by_word reg w (codes "service") rest l (service_back reg rest l r) is) (λ other e.
    chosen (bytes_eq w (codes "singleton")) _ _ l e (λ is r. by_word reg w (codes "singleton") rest l (singleton_back reg rest l r) is) (λ other e.
    chosen (bytes_eq w (codes "export")) _ _ l e (λ is r. by_word reg w (codes "export") rest l (export_back reg rest l r) is) (λ other e.
    chosen (bytes_eq w (codes "let")) _ _ l e (λ is r. by_word reg w (codes "let") rest l (let_back reg rest l r) is) (λ other e.
    chosen (bytes_eq w (codes "set")) _ _ l e (λ is r. by_word reg w (codes "set") rest l (set_back reg rest l r) is) (λ other e.
    chosen (bytes_eq w (codes "call")) _ _ l e (λ is r. by_word reg w (codes "call") rest l (call_back reg rest l r) is) (λ other e.
    chosen (bytes_eq w (codes "query")) _ _ l e (λ is r. by_word reg w (codes "query") rest l (query_back reg rest l r) is) (λ other e.
    chosen (bytes_eq w (codes "new")) _ _ l e (λ is r. by_word reg w (codes "new") rest l (make_back reg rest l r) is) (λ other e.
    chosen (bytes_eq w (codes "drop")) _ _ l e (λ is r. by_word reg w (codes "drop") rest l (drop_back reg rest l r) is) (λ other e.
    chosen (bytes_eq w (codes "when")) _ _ l e (λ is r. by_word reg w (codes "when") rest l (when_back reg rest l r) is) (λ other e.
    chosen (bytes_eq w (codes "return")) _ _ l e (λ is r. by_word reg w (codes "return") rest l (return_back reg rest l r) is) (λ other e.
    chosen (bytes_eq w (codes "raise")) _ _ l e (λ is r. by_word reg w (codes "raise") rest l (raise_back reg rest l r) is) (λ other e.
    chosen (bytes_eq w (codes "ask")) _ _ l e (λ is r. by_word reg w (codes "ask") rest l (ask_back reg rest l r) is) (λ other e.
    chosen (bytes_eq w (codes "same")) _ _ l e (λ is r. by_word reg w (codes "same") rest l (same_back reg rest l r) is)
    (λ other e. absurd (none_some e))))))))))))))))))

blank_only : (c : ℕ) → is_not_blank c ≡ false → c ≡ 32
blank_only c is = grind arith

pub line_back : (reg : List Entity) (text : List ℕ) (l : Line) → line_at reg text ≡ Some l → Says reg text l
unfolding line_at
line_back reg text l e = by_rest (behind_run is_not_blank text) refl (run_of is_not_blank text) (front_rest is_not_blank text) e
  where
    by_rest : (rest : List ℕ) → behind_run is_not_blank text ≡ rest → (w : List ℕ) → text ≡ w ++ behind_run is_not_blank text
        → line_of_words reg w (behind_run is_not_blank text) ≡ Some l → Says reg text l
    by_rest [] none w whole read =
        let says = alone_back reg w l (rw none at read) in
        record { spelled = whole ∙ ap (λ r. w ++ r) none ∙ append-nil w ∙ says.spelled; formed = says.formed }
    by_rest (c ∷ cs) some w whole read =
        let blank : c ≡ 32 = blank_only c (behind_fails is_not_blank text c cs some) in
        let says = word_line reg w cs l (rw some at read) in
        record { spelled = whole ∙ ap (λ r. w ++ r) some ∙ ap (λ d. w ++ d ∷ cs) blank ∙ says.spelled; formed = says.formed }
