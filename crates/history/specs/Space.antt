-- The space that the search goes through: of each thread, how many operations are placed, and the object that they leave.
use Rattle.std.specs.Prelude.{ℕ, zero, suc, ◌+◌, ◌-◌, ◌≡◌, Bool, true, false, ◌&&◌, List, [], ◌∷◌, length, get_or, set, drop, replicate, leb}
use Rattle.std.proofs.Math.Option.{Option, none, some}
use Rattle.std.proofs.Math.ListN.{get_elem? as nth}
use Rattle.theory.specs.Space.{Move, idle, refused, place, Space}
use Rattle.history.specs.Object.{Object}
use Rattle.history.specs.Rows.{Entry, Rows}
use Rattle.history.specs.Recorder.{pending}

-- a thread's next operation, where ps are placed
abbrev pub next : {A : Type 0} → List (List A) → List ℕ → ℕ → Option A
next [] ps t = none
next (r ∷ rows) [] t = none
next (r ∷ rows) (p ∷ ps) zero = nth r p
next (r ∷ rows) (p ∷ ps) (suc t) = next rows ps t

-- one more of thread t is placed
abbrev pub more : List ℕ → ℕ → List ℕ
more ps t = set ps t (suc (get_or ps t 0))

-- how many operations are not placed yet
abbrev pub unplaced : {A : Type 0} → List (List A) → List ℕ → ℕ
unplaced [] ps = 0
unplaced (r ∷ rows) [] = 0
unplaced (r ∷ rows) (p ∷ ps) = (length r - p) + unplaced rows ps

-- of each thread as many are placed as are needed
abbrev pub met : List ℕ → List ℕ → Bool
met [] ps = true
met (n ∷ ns) [] = true
met (n ∷ ns) (p ∷ ps) = leb n p && met ns ps

module _ (O : Object) where
  pub record Node : Type 0 where
    pub progress : List ℕ
    pub object : O.State

  -- nothing but operations in flight
  abbrev pub only_pending : List (Entry O) → Bool
  only_pending [] = true
  only_pending (e ∷ r) = pending O e.ret && only_pending r

  -- every completed operation is placed
  abbrev pub all_placed : Rows O → List ℕ → Bool
  all_placed [] ps = true
  all_placed (r ∷ rows) [] = true
  all_placed (r ∷ rows) (p ∷ ps) = only_pending (drop p r) && all_placed rows ps

  abbrev pub checked : Bool → O.Ret → Option O.Ret
  checked true r = some r
  checked false r = none

  -- the return of an operation here: of one in flight what the object answers; of a completed one the recorded one, if it is right
  abbrev pub gives : O.State → O.Op → Option O.Ret → Option O.Ret
  gives s o none = some (O.answers s o)
  gives s o (some r) = checked (O.ok s o r) r

  abbrev pub stepped : Node → ℕ → Entry O → Node
  stepped x t e = record { progress = more x.progress t; object = O.after x.object e.op }

  abbrev pub placing : Node → ℕ → Entry O → Bool → Option O.Ret → Move O.Ret Node
  placing x t e false g = refused
  placing x t e true none = refused
  placing x t e true (some r) = place r (stepped x t e)

  abbrev pub trying : Node → ℕ → Option (Entry O) → Move O.Ret Node
  trying x t none = idle
  trying x t (some e) = placing x t e (met e.needs x.progress) (gives x.object e.op e.ret)

  module _ (rows : Rows O) where
    -- threads are tried upwards, and the search has finished once every completed operation is placed
    abbrev pub space : Space O.Ret
    space = record {
      Node = Node;
      threads = length rows;
      finished = λ x. all_placed rows x.progress;
      move = λ x t. trying x t (next rows x.progress t);
    }

    abbrev pub size : Node → ℕ
    size x = unplaced rows x.progress

    -- where the search begins: nothing is placed
    abbrev pub root : O.State → Node
    root s = record { progress = replicate (length rows) 0; object = s }

    -- thread t's next operation can be placed here, with the return r
    pub record Plays (x : Node) (t : ℕ) (r : O.Ret) : Type 0 where
      pub entry : Entry O
      pub is_next : next rows x.progress t ≡ some entry
      pub is_met : met entry.needs x.progress ≡ true
      pub is_given : gives x.object entry.op entry.ret ≡ some r
