-- The echo plan: its object is asked for and called, and the stub is released.
use Rattle.std.proofs.Common.{◌≡◌, refl, ℕ, List, [], ◌∷◌, ◌++◌, map, None, Some, codes}
use Rattle.plan_model.proofs.DemoPlans.{demo, echo_plan}
use Rattle.urp_model.specs.declared.reason.Reason.TheVariants as reason
use Rattle.bridge_model.specs.Entries.{Entry, fed, drained, applied}
use Rattle.bridge_model.specs.Settings.{Setting}
use Rattle.bridge_model.specs.declared.cause.Cause.{Cause}
use Rattle.bridge_model.specs.declared.cause.Cause.TheVariants.{Broken}
use Rattle.bridge_model.proofs.OnLiterals.{on_literals}
use Rattle.bridge_model.proofs.Rows.{hex, Seen, seen}

abbrev pub echo : Setting
echo = record { tag = codes "S"; registry = demo; plan = echo_plan }

-- ---- asked and called

-- function 0 of the name `echo`, on the thread `T`, for demo.XEcho
abbrev pub asks_echo : List ℕ
asks_echo =
    hex (codes "0000003A 00000001 F8 00 96 0000 1B")
    ++ (codes "com.sun.star.uno.XInterface"
    ++ (hex (codes "04") ++ (codes "echo" ++ (hex (codes "0000 01") ++ (codes "T" ++ (hex (codes "0000 96 0001 0A") ++ codes "demo.XEcho"))))))

-- an any of demo.XEcho with the object `S;1`
abbrev pub grants_echo : List ℕ
grants_echo =
    hex (codes "00000019 00000001 88 01")
    ++ (codes "T" ++ (hex (codes "0000 96 0000 0A") ++ (codes "demo.XEcho" ++ (hex (codes "03") ++ (codes "S;1" ++ hex (codes "0000"))))))

abbrev pub asked : List Entry
asked = fed asks_echo ∷ (drained grants_echo ∷ [])

-- the peer has the object, and nothing waits
abbrev granted : Seen
granted = record { waiting = []; stubs = 1; held = 0; objects = 1; stacks = 0; cause = None }

asked_row : seen echo asked ≡ Some granted
unfolding on_literals
asked_row = refl

-- twice(21), and behind it twice(1) by a short header
abbrev pub twice_21 : List ℕ
twice_21 = hex (codes "0000000F 00000001 F0 03 16 0001 03") ++ (codes "S;1" ++ hex (codes "0001 00000015"))

abbrev pub is_42 : List ℕ
is_42 = hex (codes "00000005 00000001 80 0000002A")

abbrev pub twice_1 : List ℕ
twice_1 = hex (codes "00000005 00000001 03 00000001")

abbrev pub is_2 : List ℕ
is_2 = hex (codes "00000005 00000001 80 00000002")

abbrev on_t : Entry
on_t = applied (codes "T")

abbrev called : List Entry
called = fed twice_21 ∷ (on_t ∷ (drained is_42 ∷ (fed twice_1 ∷ (on_t ∷ (drained is_2 ∷ [])))))

called_row : seen echo (asked ++ called) ≡ Some granted
unfolding on_literals
called_row = refl

-- a call that runs holds its own object
running_row : seen echo (asked ++ fed twice_21 ∷ []) ≡ Some (record granted { held = 1; stacks = 1 })
unfolding on_literals
running_row = refl

-- the release, and another one that nobody owes
abbrev pub lets_echo_go : List ℕ
lets_echo_go = hex (codes "00000008 00000001 C8 02 03") ++ (codes "C;0" ++ hex (codes "0001"))

released_row : seen echo (asked ++ (called ++ fed lets_echo_go ∷ [])) ≡ Some (record granted { stubs = 0 })
unfolding on_literals
released_row = refl

-- the bridge ends, for a reason that stands at a place
abbrev broken : Cause → Seen
broken why = record { waiting = []; stubs = 0; held = 0; objects = 1; stacks = 0; cause = Some why }

released_twice_row : seen echo (asked ++ (called ++ (fed lets_echo_go ∷ (fed (hex (codes "00000001 00000001 02")) ∷ [])))) ≡ Some (broken (Broken reason.Unowed 126))
unfolding on_literals
released_twice_row = refl

-- ---- pieces

-- one byte at a time
abbrev by_bytes : List ℕ → List Entry
by_bytes bytes = map (λ b. fed (b ∷ [])) bytes

by_bytes_row : seen echo (by_bytes asks_echo ++ (drained grants_echo ∷ (by_bytes twice_21 ++ (on_t ∷ (drained is_42 ∷ []))))) ≡ Some granted
unfolding on_literals
by_bytes_row = refl

-- two messages in a block, on two threads, of which each is answered
abbrev twice_on_two : List ℕ
twice_on_two =
    hex (codes "00000019 00000002 F0 03 16 0001 03")
    ++ (codes "S;1" ++ (hex (codes "0001 00000015 C8 03 01") ++ (codes "U" ++ hex (codes "0001 00000001"))))

abbrev is_2_on_u : List ℕ
is_2_on_u = hex (codes "00000009 00000001 88 01") ++ (codes "U" ++ hex (codes "0001 00000002"))

two_threads_row : seen echo (asked ++ (fed twice_on_two ∷ (on_t ∷ (applied (codes "U") ∷ (drained (is_42 ++ is_2_on_u) ∷ []))))) ≡ Some granted
unfolding on_literals
two_threads_row = refl

-- no input, and seven bytes of a header
nothing_row : seen echo [] ≡ Some (record granted { stubs = 0 })
unfolding on_literals
nothing_row = refl

begun_row : seen echo (fed (hex (codes "0000003A 000000")) ∷ []) ≡ Some (record granted { stubs = 0 })
unfolding on_literals
begun_row = refl

-- ---- broken at once

no_messages_row : seen echo (fed (hex (codes "00000000 00000000")) ∷ []) ≡ Some (broken (Broken reason.NoMessages 0))
unfolding on_literals
no_messages_row = refl

no_last_row : seen echo (fed twice_1 ∷ []) ≡ Some (broken (Broken reason.NoLast 8))
unfolding on_literals
no_last_row = refl

-- the object of a slot that has none, and null
abbrev asks_slot : List ℕ → List ℕ
asks_slot oid =
    hex (codes "00000036 00000001 F8 00 96 0000 1B")
    ++ (codes "com.sun.star.uno.XInterface" ++ (oid ++ (hex (codes "01") ++ (codes "T" ++ (hex (codes "0000 96 0001 0A") ++ codes "demo.XEcho")))))

unknown_slot_row : seen echo (fed (asks_slot (hex (codes "00 0005"))) ∷ []) ≡ Some (broken (Broken reason.UnknownSlot 8))
unfolding on_literals
unknown_slot_row = refl

null_row : seen echo (fed (asks_slot (hex (codes "00 FFFF"))) ∷ []) ≡ Some (broken (Broken reason.UnknownOid 8))
unfolding on_literals
null_row = refl

-- ---- broken behind the object

abbrev behind_asked : List ℕ → List Entry
behind_asked bytes = asked ++ fed bytes ∷ []

unknown_function_row : seen echo (behind_asked (hex (codes "00000001 00000001 3F"))) ≡ Some (broken (Broken reason.UnknownFunction 74))
unfolding on_literals
unknown_function_row = refl

acquire_row : seen echo (behind_asked (hex (codes "00000001 00000001 01"))) ≡ Some (broken (Broken reason.Acquire 74))
unfolding on_literals
acquire_row = refl

unowed_row : seen echo (behind_asked (hex (codes "00000001 00000001 02"))) ≡ Some (broken (Broken reason.Unowed 74))
unfolding on_literals
unowed_row = refl

short_row : seen echo (behind_asked (hex (codes "00000001 00000001 C0"))) ≡ Some (broken (Broken reason.ShortMessage 74))
unfolding on_literals
short_row = refl

-- a whole question with a byte behind it is answered before the bridge ends
left_over_row : seen echo (behind_asked (hex (codes "00000005 00000001 00 16 0001 FF")))
    ≡ Some (record (broken (Broken reason.LeftOver 66)) { waiting = hex (codes "00000007 00000001 80 16 0000 00 0000") })
unfolding on_literals
left_over_row = refl

too_large_row : seen echo (behind_asked (hex (codes "01000001 00000001"))) ≡ Some (broken (Broken reason.TooLarge 66))
unfolding on_literals
too_large_row = refl

nobody_waits_row : seen echo (behind_asked (hex (codes "00000001 00000001 80"))) ≡ Some (broken (Broken reason.NobodyWaits 74))
unfolding on_literals
nobody_waits_row = refl

bad_flags_row : seen echo (behind_asked (hex (codes "00000003 00000001 C1 40 00"))) ≡ Some (broken (Broken reason.BadFlags 74))
unfolding on_literals
bad_flags_row = refl

-- a thread of this end that has no calls open
abbrev on_s_9 : List ℕ
on_s_9 = hex (codes "0000000B 00000001 C8 00 03") ++ (codes "S;9" ++ hex (codes "0001 16 0001"))

unknown_thread_row : seen echo (behind_asked on_s_9) ≡ Some (broken (Broken reason.UnknownThread 74))
unfolding on_literals
unknown_thread_row = refl

-- a second call on a thread whose first one runs
abbrev twice_at_once : List ℕ
twice_at_once = hex (codes "00000014 00000002 F0 03 16 0001 03") ++ (codes "S;1" ++ hex (codes "0001 00000015 03 00000001"))

busy_thread_row : seen echo (behind_asked twice_at_once) ≡ Some (broken (Broken reason.BusyThread 89))
unfolding on_literals
busy_thread_row = refl
