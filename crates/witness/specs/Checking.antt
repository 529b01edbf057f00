-- The checker's answer: the words of a proposed order are replayed, place by place, over the rows that a tester reads as.
use Rattle.std.specs.Prelude.{ℕ, Bool, true, false, not, List, [], ◌∷◌, eqb}
use Rattle.std.proofs.Math.Option.{Option, none, some}
use Rattle.history.specs.Rows.{Entry, Rows}
use Rattle.history.specs.Recorder.{pending}
use Rattle.history.specs.Space.{Node, next, met, all_placed, gives, stepped, root}
use Rattle.values.specs.Value.{pick}
use Rattle.families.specs.Families.{families}
use Rattle.semantics.specs.Invoking.{holds}
use Rattle.families.specs.declared.Ret.{Ret}
use Rattle.stepping.specs.declared.histories.History.{History}
use Rattle.recording_meaning.specs.Reading.{rows_of}
use Rattle.recording_meaning.specs.Models.{Model}
use Rattle.witness.specs.Words.{words_of}

-- The same words.
unfoldable pub same_words : List ℕ → List ℕ → Bool
same_words [] [] = true
same_words [] (w ∷ ws) = false
same_words (v ∷ vs) [] = false
same_words (v ∷ vs) (w ∷ ws) = pick (eqb v w) (same_words vs ws) false

-- The words are those of the return, if there is one.
abbrev pub told : Option Ret → List ℕ → Bool
told none ws = false
told (some r) ws = same_words (words_of r) ws

-- A place of the order: the thread's next operation, if it has one, must have its notes met, and the return that stands here must have those
-- words. Then `go` tells of the rest, given whether the operation is completed and the situation that it leaves.
abbrev pub placed : Node families → ℕ → List ℕ → Option (Entry families) → (Bool → Node families → Bool) → Bool
placed x t ws none go = false
placed x t ws (some e) go =
    pick (met e.needs x.progress)
    (pick (told (gives families x.object e.op e.ret) ws) (go (not (pending families e.ret)) (stepped families x t e)) false)
    false

-- The words from a situation on, four to a place. `ended`: nothing is placed yet, or the last one placed is completed. In the end that must be
-- so, and every completed operation must be placed.
unfoldable pub replays : Rows families → Bool → Node families → List ℕ → Bool
replays rows ended x [] = pick ended (all_placed families rows x.progress) false
replays rows ended x (t ∷ []) = false
replays rows ended x (t ∷ n ∷ []) = false
replays rows ended x (t ∷ n ∷ c ∷ []) = false
replays rows ended x (t ∷ n ∷ c ∷ v ∷ ws) = placed x t (n ∷ c ∷ v ∷ []) (next rows x.progress t) (λ b y. replays rows b y ws)

-- The answer for a tester and the words of a proposed order: no if the tester is out of shape or not valid, else the replay's.
unfoldable pub check_with : {T : Type 0} → (T → Bool) → (T → History) → (T → ℕ → List ℕ) → T → List ℕ → Bool
check_with shaped history needs s ws =
    pick (shaped s)
    (pick (history s).valid
    (replays (rows_of (needs s) (history s)) true (root families (rows_of (needs s) (history s)) (holds (history s).start)) ws)
    false)
    false

abbrev pub check_of : (M : Model) → M.Tester → List ℕ → Bool
check_of M = check_with M.shaped M.history M.needs
