-- What the code's functions answer, in terms of the record itself.
use Rattle.std.specs.Prelude.{ℕ, zero, suc, ◌+◌, ◌*◌, Bool, true, false, List, [], ◌∷◌, length, get_or, set, replicate, eqb, leb, ltb, Some, None, Result, Ok, Err}
use Rattle.std.specs.declared.option.Option.{Option}
use Rattle.std.specs.Bool.{then_some}
use Rattle.std.specs.Option.{option_map}
use Rattle.values.specs.Value.{pick}
use Rattle.values.specs.Sizes.{threads}
use Rattle.semantics.specs.Calls.{invoke_of, step_of}
use Rattle.families.specs.declared.Object.{Object}
use Rattle.families.specs.declared.Op.{Op}
use Rattle.stepping.specs.declared.histories.Operation.{Operation}
use Rattle.stepping.specs.declared.histories.History.{History}
use Rattle.stepping.specs.Record.{held, operation_at}
use Rattle.stepping.specs.Shape.{all_below}
use Rattle.witness.specs.declared.replay.Settled.{Settled}
use Rattle.witness.specs.declared.replay.Stage.{Stage}
use Rattle.witness.specs.Words.{words_of}
use Rattle.witness.specs.Checking.{same_words}
use Rattle.values.specs.declared.refusal.Refusal.{Refusal}
use Rattle.families.specs.declared.Ret.{Ret}

-- the place of thread t's k-th operation; past the end if there is none
unfoldable pub place_of : List Operation → ℕ → ℕ → ℕ
place_of [] t k = 0
place_of (o ∷ os) t zero = pick (eqb o.thread t) 0 (suc (place_of os t zero))
place_of (o ∷ os) t (suc k) = suc (place_of os t (pick (eqb o.thread t) k (suc k)))

-- of each thread as many are placed as are wanted; thread 0's number stands at place i
unfoldable pub reaches_of : List ℕ → ℕ → List ℕ → Bool
reaches_of wanted i ps = all_below (λ u. leb (get_or wanted (i + u) 0) (get_or ps u 0)) threads

unfoldable pub answered_of : Result Ret Refusal → List ℕ → Bool
answered_of (Ok r) ws = same_words (words_of r) ws
answered_of (Err e) ws = false

unfoldable pub said_yes : Result Bool Refusal → Bool
said_yes (Ok true) = true
said_yes (Ok false) = false
said_yes (Err e) = false

-- what may not stand there leaves nothing
abbrev pub settled : Bool → Bool → Object → Option Settled
settled ok ended o = then_some ok (record { ended = ended; object = o })

-- an operation placed on the bare object, where the order has those words for its return
unfoldable pub settle_of : Object → Op → Option Ret → List ℕ → Option Settled
settle_of o op None ws = settled (answered_of (invoke_of o op).answer ws) false (invoke_of o op).object
settle_of o op (Some r) ws =
    settled (pick (said_yes (step_of o op r).said) (same_words (words_of r) ws) false) true (step_of o op r).object

abbrev pub stage : Bool → List ℕ → Object → Stage
stage ended ps o = record { ended = ended; progress = ps; object = o }

abbrev pub on_stage : List ℕ → ℕ → Settled → Stage
on_stage ps t s = stage s.ended (set ps t (get_or ps t 0 + 1)) s.object

-- one place more; the thread's next operation is the one at place i
abbrev pub stage_at : List ℕ → History → Stage → ℕ → List ℕ → ℕ → Option Stage
stage_at notes h s t ws i =
    pick (ltb i (length (held h)))
    (pick (reaches_of notes (i * threads) s.progress)
    (option_map (on_stage s.progress t) (settle_of s.object (operation_at h i).op (operation_at h i).outcome ws))
    None)
    None

unfoldable pub stage_after : List ℕ → History → Stage → ℕ → List ℕ → Option Stage
stage_after notes h s t ws =
    pick (ltb t threads) (stage_at notes h s t ws (place_of (held h) t (get_or s.progress t 0))) None

abbrev pub goes_on : Option Stage → (Stage → Bool) → Bool
goes_on None go = false
goes_on (Some s) go = go s

-- the words from a stage on
unfoldable pub play_from : List ℕ → History → Stage → List ℕ → Bool
play_from notes h s [] = pick s.ended (reaches_of h.done 0 s.progress) false
play_from notes h s (t ∷ []) = false
play_from notes h s (t ∷ n ∷ []) = false
play_from notes h s (t ∷ n ∷ c ∷ []) = false
play_from notes h s (t ∷ n ∷ c ∷ v ∷ ws) = goes_on (stage_after notes h s t (n ∷ c ∷ v ∷ [])) (λ z. play_from notes h z ws)

abbrev pub begun : History → Stage
begun h = stage true (replicate threads 0) h.start

unfoldable pub play_of : List ℕ → History → List ℕ → Bool
play_of notes h ws = play_from notes h (begun h) ws
