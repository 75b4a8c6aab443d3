-- How far an input was answered: at the beginning, where bytes are read, where turns are made, and at each end.
use Rattle.std.proofs.Common.{◌≡◌, sym, ap, subst, ◌∙◌, ℕ, Bool, true, false, List, [], ◌++◌, Option, None, Some}
use Rattle.std.proofs.KnownBytes.{Appends-nil, Appends-trans, Consumes-nil, Consumes-trans}
use Rattle.std.proofs.lemmas.List.{append_assoc, append-nil, append_cancel_right}
use Rattle.std.specs.Io.KnownBytes.{Appends, Consumes}
use Rattle.plan_model.specs.Roots.{Run}
use Rattle.uno_io.specs.Fronts.{AppendsFront}
use Rattle.bridge_model.specs.Histories.{Told, nothing_told}
use Rattle.bridge_model.specs.Orders.{first_runs}
use Rattle.bridge_model.specs.Settings.{Setting}
use Rattle.bridge_model.specs.Sides.{stands, stands_by}
use Rattle.bridge_model.specs.declared.cause.Cause.{Cause}
use Rattle.bridge_model.specs.declared.cause.Cause.TheVariants as reason
use Rattle.bridge_laws.specs.Working.{AllIsDone, IsDone, IsInOrder}
use Rattle.bridge_laws.proofs.WorkingOrderLaws.{begins_in_order, order_is_done}
use Rattle.answering.specs.Answering.{WasRead, Had, no_more, more, AnsweredWhole, InputEnded, AnsweredPart}
use Rattle.answering.specs.Doing.{Closes}
use Rattle.answering.specs.Serving.{Holds, HoldsFront, IsOver, IsAllIn, IsCutOrNot}
use Rattle.answering.specs.Turning.{Turns, Halts, Answers, HaltsIn}
use Rattle.answering.proofs.TurnLaws.{front_all, front_behind}

-- ---- the beginning, and what is read

pub holds_first : (g : Setting) (input out : Option (List ℕ)) → Holds g input input out out (nothing_told g) (first_runs 1 g.plan.threads) []
holds_first g input out = record { read = []; consumed = Consumes-nil input; order = λ rest. begins_in_order g rest; written = Appends-nil out }

pub holds_piece : {g : Setting} {i j k o p : Option (List ℕ)} {t : Told} {runs : List Run} (piece : List ℕ) → Holds g i j o p t runs [] → Consumes j k piece → Holds g i k o p t runs piece
holds_piece {g} {i} {j} {k} {o} {p} {t} {runs} piece is comes =
    record {
      read = is.read ++ piece;
      consumed = Consumes-trans i j k is.read piece is.consumed comes;
      order = λ rest. subst (λ z. IsInOrder g z t runs (piece ++ rest)) (sym (append_assoc is.read piece rest)) (is.order (piece ++ rest));
      written = is.written;
    }

-- nothing came
pub holds_none : {g : Setting} {i j k o p : Option (List ℕ)} {t : Told} {runs : List Run} {left : List ℕ} → Holds g i j o p t runs left → Consumes j k [] → Holds g i k o p t runs left
holds_none {g} {i} {j} {k} {o} {p} {t} {runs} {left} is comes =
    record {
      read = is.read;
      consumed = subst (Consumes i k) (append-nil is.read) (Consumes-trans i j k is.read [] is.consumed comes);
      order = is.order;
      written = is.written;
    }

-- ---- turns

pub written_on : (o p q : Option (List ℕ)) (a b out : List ℕ) → Appends o p a → Appends p q out → b ≡ a ++ out → Appends o q b
written_on o p q a b out before taken is = subst (Appends o q) (sym is) (Appends-trans o p q a out before taken)

front_on : (o p q : Option (List ℕ)) (a b out : List ℕ) → Appends o p a → AppendsFront p q out → b ≡ a ++ out → AppendsFront o q b
front_on o p q a b out before taken is = subst (AppendsFront o q) (sym is) (front_behind o p q a out before taken)

pub holds_on : {g : Setting} {i j o p q : Option (List ℕ)} {t u : Told} {runs next : List Run} {left : List ℕ} → Holds g i j o p t runs left → Turns g t u runs next p q
    → Holds g i j o q u next left
holds_on {g} {i} {j} {o} {p} {q} {t} {u} {runs} {next} {left} is turns =
    record {
      read = is.read;
      consumed = is.consumed;
      order = λ rest. turns.order (is.read ++ rest) (left ++ rest) (is.order rest);
      written = written_on o p q t.bytes_out u.bytes_out turns.out is.written turns.taken turns.more;
    }

pub piece_on : {g : Setting} {i j o p q : Option (List ℕ)} {t u : Told} {runs next : List Run} {piece left : List ℕ} → Holds g i j o p t runs piece → Answers g t u runs next piece left p q
    → Holds g i j o q u next left
piece_on {g} {i} {j} {o} {p} {q} {t} {u} {runs} {next} {piece} {left} is answers =
    record {
      read = is.read;
      consumed = is.consumed;
      order = λ rest. answers.order (is.read ++ rest) rest (is.order rest);
      written = written_on o p q t.bytes_out u.bytes_out answers.out is.written answers.taken answers.more;
    }

pub holds_front : {g : Setting} {i j o p : Option (List ℕ)} {t : Told} {runs : List Run} {left : List ℕ} → Holds g i j o p t runs left → HoldsFront g i j o p
holds_front {g} {i} {j} {o} {p} {t} {runs} {left} is =
    record {
      told = t;
      runs = runs;
      left = left;
      read = is.read;
      consumed = is.consumed;
      order = is.order;
      written = front_all o p t.bytes_out is.written;
    }

pub halted : {g : Setting} {i j o p q : Option (List ℕ)} {t : Told} {runs : List Run} {left : List ℕ} → Holds g i j o p t runs left → Halts g t runs p q → HoldsFront g i j o q
halted {g} {i} {j} {o} {p} {q} {t} {runs} {left} is halts =
    record {
      told = halts.told;
      runs = halts.next;
      left = left;
      read = is.read;
      consumed = is.consumed;
      order = λ rest. halts.order (is.read ++ rest) (left ++ rest) (is.order rest);
      written = front_on o p q t.bytes_out halts.told.bytes_out halts.out is.written halts.taken halts.more;
    }

pub halted_in : {g : Setting} {i j o p q : Option (List ℕ)} {t : Told} {runs : List Run} {piece : List ℕ} → Holds g i j o p t runs piece → HaltsIn g t runs piece p q
    → HoldsFront g i j o q
halted_in {g} {i} {j} {o} {p} {q} {t} {runs} {piece} is halts =
    record {
      told = halts.told;
      runs = halts.next;
      left = halts.left;
      read = is.read;
      consumed = is.consumed;
      order = λ rest. halts.order (is.read ++ rest) rest (is.order rest);
      written = front_on o p q t.bytes_out halts.told.bytes_out halts.out is.written halts.taken halts.more;
    }

-- a front of nothing more
pub halted_closing : {g : Setting} {i j o p q : Option (List ℕ)} {t : Told} {runs : List Run} {left : List ℕ} → Holds g i j o p t runs left → AppendsFront p q [] → HoldsFront g i j o q
halted_closing {g} {i} {j} {o} {p} {q} {t} {runs} {left} is front =
    record {
      told = t;
      runs = runs;
      left = left;
      read = is.read;
      consumed = is.consumed;
      order = is.order;
      written = front_on o p q t.bytes_out t.bytes_out [] is.written front (sym (append-nil t.bytes_out));
    }

-- ---- the end of the input

-- with no more bytes
pub whole_order : {g : Setting} {i j o p : Option (List ℕ)} {t : Told} {runs : List Run} → (is : Holds g i j o p t runs []) → IsInOrder g is.read t runs []
whole_order {g} {i} {j} {o} {p} {t} {runs} is = subst (λ z. IsInOrder g z t runs []) (append-nil is.read) (is.order [])

unfoldable pub all_in : {g : Setting} {i j o p q : Option (List ℕ)} {t u : Told} {runs next : List Run} → Holds g i j o p t runs [] → AllIsDone g t.side runs → stands t.side ≡ true
    → Closes g t u runs next → Appends p q [] → u.side.cause ≡ Some reason.Ended → IsAllIn g i j o q
all_in {g} {i} {j} {o} {p} {q} {t} {u} {runs} {next} is done up closes taken ended =
    record {
      before = t;
      runs = runs;
      holds = record {
        read = is.read;
        consumed = is.consumed;
        order = is.order;
        written = written_on o p q t.bytes_out t.bytes_out [] is.written taken (sym (append-nil t.bytes_out));
      };
      done = done;
      stood = up;
      told = u;
      next = next;
      order = closes.order is.read (whole_order is);
      all_done = closes.done;
      out = closes.out;
      ended = ended;
    }

-- ---- what a contract says of it

read_is : (i j : Option (List ℕ)) (read s : List ℕ) → Consumes i j read → WasRead i j s → read ≡ s
read_is (Some old) (Some new) read s consumed was = append_cancel_right read s new (sym consumed ∙ was)
read_is (Some old) None read s consumed was = absurd was
read_is None new read s consumed was = absurd was

pub answered_part : {g : Setting} {i j o p : Option (List ℕ)} → HoldsFront g i j o p → (s : List ℕ) → WasRead i j s → AnsweredPart g s o p
answered_part {g} {i} {j} {o} {p} is s was =
    record {
      told = is.told;
      runs = is.runs;
      left = is.left;
      order = λ rest. subst (λ z. IsInOrder g (z ++ rest) is.told is.runs (is.left ++ rest)) (read_is i j is.read s is.consumed was) (is.order rest);
      written = is.written;
    }

gone : (c : Option Cause) (why : Cause) → c ≡ Some why → stands_by c ≡ false
gone c why is = ap stands_by is

pub answered_over : {g : Setting} {i j o p : Option (List ℕ)} {why : Cause} → IsOver g i j o p why → (s : List ℕ) → WasRead i j s → AnsweredWhole g s false o p why
answered_over {g} {i} {j} {o} {p} {why} is s was =
    record { told = is.told; done = λ bytes had. done_with bytes had; written = is.holds.written; ended = is.ended }
  where
    same : is.holds.read ≡ s
    same = read_is i j is.holds.read s is.holds.consumed was

    done_behind : (rest : List ℕ) → IsDone g (s ++ rest) is.told
    done_behind rest =
        subst (λ z. IsDone g (z ++ rest) is.told) same
        (order_is_done g (is.holds.read ++ rest) is.told is.runs (is.left ++ rest) (is.holds.order rest) is.done (gone is.told.side.cause why is.ended))

    done_with : (bytes : List ℕ) → Had s false bytes → IsDone g bytes is.told
    done_with bytes (more rest) = done_behind rest

pub answered_all : {g : Setting} {i j o p : Option (List ℕ)} → IsAllIn g i j o p → (s : List ℕ) → WasRead i j s → AnsweredWhole g s true o p reason.Ended
answered_all {g} {i} {j} {o} {p} is s was =
    record { told = is.told; done = λ bytes had. done_with bytes had; written = subst (Appends o p) (sym is.out) is.holds.written; ended = is.ended }
  where
    done_here : IsDone g s is.told
    done_here =
        subst (λ z. IsDone g z is.told) (read_is i j is.holds.read s is.holds.consumed was)
        (order_is_done g is.holds.read is.told is.next [] is.order is.all_done (gone is.told.side.cause reason.Ended is.ended))

    done_with : (bytes : List ℕ) → Had s true bytes → IsDone g bytes is.told
    done_with bytes no_more = done_here

pub input_ended : {g : Setting} {i j o p : Option (List ℕ)} {cut : Bool} → IsCutOrNot g i j o p cut → (s : List ℕ) → WasRead i j s → InputEnded g s cut
input_ended {g} {i} {j} {o} {p} {cut} is s was =
    record {
      told = is.all.before;
      runs = is.all.runs;
      order = subst (λ z. IsInOrder g z is.all.before is.all.runs []) (read_is i j is.all.holds.read s is.all.holds.consumed was) (whole_order is.all.holds);
      done = is.all.done;
      stood = is.all.stood;
      awaited = is.awaited;
    }
