-- The flags that a sender sets are those that a reader finds.
use Rattle.std.proofs.Common.{◌≡◌, ℕ, ◌+◌, ◌*◌, ◌<◌, ◌≤◌, Bool, true, false, refl, arith}
use Rattle.std.specs.Int.{from_bool}
use Rattle.message_model.specs.Headers.{has, new_type_flag, new_oid_flag, new_tid_flag, wide_flag, more_flag, exception_flag}
use Rattle.message_model.specs.WritingMessages.{reply_flags}

-- the flags of a long header
abbrev pub flags_of : Bool → Bool → Bool → Bool → Bool → ℕ
flags_of k o t w m =
    192 + (from_bool k * new_type_flag + (from_bool o * new_oid_flag + (from_bool t * new_tid_flag + (from_bool w * wide_flag + from_bool m * more_flag))))

-- what such flags say
pub record Say (flags : ℕ) (k o t w m : Bool) : Type 0 where
  pub marked : 192 ≤ flags
  pub type_is : has new_type_flag flags ≡ k
  pub oid_is : has new_oid_flag flags ≡ o
  pub tid_is : has new_tid_flag flags ≡ t
  pub wide_is : has wide_flag flags ≡ w
  pub more_is : has more_flag flags ≡ m

said : {flags : ℕ} → 192 ≤ flags → Say flags (has new_type_flag flags) (has new_oid_flag flags) (has new_tid_flag flags) (has wide_flag flags) (has more_flag flags)
said marked = record { marked = marked; type_is = refl; oid_is = refl; tid_is = refl; wide_is = refl; more_is = refl }

pub flags_say : (k o t w m : Bool) → Say (flags_of k o t w m) k o t w m
flags_say true true true true true = said (omega arith)
flags_say true true true true false = said (omega arith)
flags_say true true true false true = said (omega arith)
flags_say true true true false false = said (omega arith)
flags_say true true false true true = said (omega arith)
flags_say true true false true false = said (omega arith)
flags_say true true false false true = said (omega arith)
flags_say true true false false false = said (omega arith)
flags_say true false true true true = said (omega arith)
flags_say true false true true false = said (omega arith)
flags_say true false true false true = said (omega arith)
flags_say true false true false false = said (omega arith)
flags_say true false false true true = said (omega arith)
flags_say true false false true false = said (omega arith)
flags_say true false false false true = said (omega arith)
flags_say true false false false false = said (omega arith)
flags_say false true true true true = said (omega arith)
flags_say false true true true false = said (omega arith)
flags_say false true true false true = said (omega arith)
flags_say false true true false false = said (omega arith)
flags_say false true false true true = said (omega arith)
flags_say false true false true false = said (omega arith)
flags_say false true false false true = said (omega arith)
flags_say false true false false false = said (omega arith)
flags_say false false true true true = said (omega arith)
flags_say false false true true false = said (omega arith)
flags_say false false true false true = said (omega arith)
flags_say false false true false false = said (omega arith)
flags_say false false false true true = said (omega arith)
flags_say false false false true false = said (omega arith)
flags_say false false false false true = said (omega arith)
flags_say false false false false false = said (omega arith)

-- the flags of a reply
pub record Reply (flags : ℕ) (raised new_tid : Bool) : Type 0 where
  pub marked : (128 ≤ flags) × (flags < 192)
  pub raised_is : has exception_flag flags ≡ raised
  pub tid_is : has new_tid_flag flags ≡ new_tid

pub reply_says : (raised new_tid : Bool) → Reply (reply_flags raised new_tid) raised new_tid
reply_says true true = record { marked = (omega arith, omega arith); raised_is = refl; tid_is = refl }
reply_says true false = record { marked = (omega arith, omega arith); raised_is = refl; tid_is = refl }
reply_says false true = record { marked = (omega arith, omega arith); raised_is = refl; tid_is = refl }
reply_says false false = record { marked = (omega arith, omega arith); raised_is = refl; tid_is = refl }
