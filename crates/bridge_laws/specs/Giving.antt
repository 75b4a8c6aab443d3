-- Journals whose roots give what may be said.
use Rattle.std.specs.Prelude.{◌≡◌, ℕ, ◌≤◌, true, List}
use Rattle.std.specs.List.{AllByRecursion}
use Rattle.message_model.specs.Calls.{argument_kinds}
use Rattle.message_model.specs.Messages.{request}
use Rattle.message_model.specs.Sayable.{MayBeSaid, IsCalled, IsThread}
use Rattle.uno_model.specs.BuiltIn.{x_interface_name}
use Rattle.uno_model.specs.Fits.{FitEach, IsIdentity}
use Rattle.uno_model.specs.Functions.{Function}
use Rattle.uno_model.specs.Values.{Plain, plains}
use Rattle.plan_model.specs.Forms.{is_export_name}
use Rattle.plan_typing.specs.Effects.{MakingFits}
use Rattle.bridge_model.specs.Calls.{query_args}
use Rattle.bridge_model.specs.Entries.{Entry, asked, called, queried, made}
use Rattle.bridge_model.specs.Settings.{Setting, root_tid}

-- a function of the interface that may be called, beside the three of every interface, with arguments that fit it; how much they weigh and how deep they are nested the call itself tests
pub record MayBeCalled (g : Setting) (root : ℕ) (oid face : List ℕ) (function : ℕ) (args : List Plain) : Type 0 where
  pub real : 3 ≤ function
  pub declared : Function
  pub called : IsCalled g.registry face function declared
  pub thread : IsThread (root_tid g root)
  pub identity : IsIdentity oid
  pub fit : FitEach g.registry (plains args) (argument_kinds declared)

-- a root asks for what has the form of an export's name, and a query of a root may be said, and a call made, whether it goes to the peer or not; what a root makes is of a behaviour of the plan, under an interface that it supports
abbrev pub MayGive : Setting → Entry → Type 0
MayGive g (asked root name wanted) = (is_export_name name ≡ true) × MayBeSaid g.registry (request (root_tid g root) name x_interface_name 0 (query_args wanted))
MayGive g (called root oid face function args) = MayBeCalled g root oid face function args
MayGive g (queried root oid face wanted) = MayBeSaid g.registry (request (root_tid g root) oid face 0 (query_args wanted))
MayGive g (made root behaviour wanted) = MakingFits g.registry g.plan behaviour wanted
MayGive g e = Unit

-- so do all of a journal
abbrev pub RootsGive : Setting → List Entry → Type 0
RootsGive g es = AllByRecursion (MayGive g) es
