-- Values as plain trees, their references and their depth (Developer's Guide, Professional UNO, 'Using the types of UNOIDL').
use Rattle.std.specs.Prelude.{ℕ, ℤ, suc, max, Bool, List, [], ◌∷◌, ◌++◌}
use Rattle.uno_model.specs.Kinds.{Kind}

-- a reference: null, or an object and the interface under which it is held, of the own side or of the peer's
pub data Ref : Type 0 where
  null : Ref
  own : List ℕ → List ℕ → Ref
  peer : List ℕ → List ℕ → Ref

-- a value by its type; `tuple` is a struct or an exception, `list` a sequence of any elements but bytes, with their type
mutual
  pub data Plain : Type 0 where
    void : Plain
    char : ℕ → Plain
    boolean : Bool → Plain
    byte : ℤ → Plain
    short : ℤ → Plain
    unsigned_short : ℕ → Plain
    long : ℤ → Plain
    unsigned_long : ℕ → Plain
    hyper : ℤ → Plain
    unsigned_hyper : ℕ → Plain
    str : List ℕ → Plain
    kind : Kind → Plain
    any : Kind → Plain → Plain
    enum : List ℕ → ℤ → Plain
    tuple : List ℕ → Plains → Plain
    list : Kind → Plains → Plain
    bytes : List ℕ → Plain
    ref : Ref → Plain

  pub data Plains : Type 0 where
    none : Plains
    more : Plain → Plains → Plains

-- a list of values as the parts of a value
abbrev pub plains : List Plain → Plains
plains [] = none
plains (v ∷ vs) = more v (plains vs)

-- a reference that is not null, as a list
abbrev pub object_in : Ref → List Ref
object_in null = []
object_in (own oid face) = own oid face ∷ []
object_in (peer oid face) = peer oid face ∷ []

-- the references of a value that are not null, from left to right
unfoldable mutual
  pub refs : Plain → List Ref
  refs (any k v) = refs v
  refs (tuple name vs) = refs_in vs
  refs (list k vs) = refs_in vs
  refs (ref r) = object_in r
  refs _ = []

  pub refs_in : Plains → List Ref
  refs_in none = []
  refs_in (more v vs) = refs v ++ refs_in vs

-- how deep a value is nested: the outermost has depth 1; elements, members and what an any holds, one more
unfoldable mutual
  pub depth : Plain → ℕ
  depth (any k v) = suc (depth v)
  depth (tuple name vs) = suc (depth_in vs)
  depth (list k vs) = suc (depth_in vs)
  depth _ = 1

  pub depth_in : Plains → ℕ
  depth_in none = 0
  depth_in (more v vs) = max (depth v) (depth_in vs)
