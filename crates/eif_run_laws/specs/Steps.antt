-- Steps that do not go wrong.
use Rattle.std.specs.Prelude.{◌≡◌, List}
use Rattle.eif_meaning.specs.Values.{Object, Store, State, Outcome, done, stopped, cut_off, wrong}
use Rattle.eif_meaning.specs.System.{System}
use Rattle.eif_run_laws.specs.Holders.{IsHeap, Grow}

-- an outcome that is not wrong, and where it is done has this
abbrev pub Safe : {S A : Type 0} → Outcome S A → (S → A → Type 0) → Type 0
Safe (done s a) q = q s a
Safe (stopped w) q = Unit {0}
Safe (cut_off w) q = Unit {0}
Safe (wrong k w) q = ⊥

abbrev pub heap_of : State → List Object
heap_of s = s.store.heap

-- the state with another store
abbrev pub with_store : Store → State → State
with_store t s = record s { store = t }

-- a later state differs in its store alone, in whose heap, which is sound, the objects stay
pub record Extends (system : System) (s t : State) : Type 0 where
  pub rest : t ≡ with_store t.store s
  pub grown : Grow (heap_of s) (heap_of t)
  pub heap : IsHeap system (heap_of t)
