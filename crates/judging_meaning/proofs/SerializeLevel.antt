-- One level of the Rust's search answers what one level of the search's tree does, in as many turns as that has attempts, where the levels below
-- agree.
use Rattle.std.specs.Prelude.{ℕ, zero, suc, ◌+◌, ◌<◌, ◌≡◌, refl, Bool, true, false, cond, not, List, [], ◌∷◌, ◌++◌, length, get_or, drop}
use Rattle.std.proofs.Common.{sym, ap, ap₂, ◌∙◌, append_assoc, length-set, drop_of_length-le, drop-cons, arith}
use Rattle.std.proofs.Math.Option.{Option, none, some}
use Rattle.theory.specs.Tree.{Tree, along, unless, answer, count}
use Rattle.theory.specs.Space.{Move, Step, branch, row as tries}
use Rattle.history.specs.Object.{Object}
use Rattle.history.specs.Rows.{Entry, Rows, row, AllShaped}
use Rattle.history.specs.Progress.{next_row}
use Rattle.history.specs.Space.{Node, next, more, met, checked, gives, stepped, placing, trying, space}
use Rattle.history.specs.Ways.{Steps, strip}
use Rattle.families.specs.RustObjects.{SequentialSpec}
use Rattle.recording_meaning.specs.Rust.{Keeps, get, insert, remove}
use Rattle.recording_meaning.specs.RustMaps.{entry, tabled}
use Rattle.judging_meaning.specs.Serialize.{
  Came,
  returned,
  looked,
  TotalOrder,
  Serializes,
  Queues,
  Flights,
  Search,
  or_else,
  try_in_flight,
  try_remaining,
  try_each,
}
use Rattle.judging_meaning.specs.Shown.{operations_from}
use Rattle.judging_meaning.specs.Remaining.{
  Place,
  places,
  places_many,
  place_at,
  if_used,
  left,
  queues_at,
  flights_at,
  Turn,
  nothing,
  flying,
  completed,
  turn,
}
use Rattle.judging_meaning.specs.Violations.{Agrees}
use Rattle.judging_meaning.specs.Refers.{Refers, AllOwn}
use Rattle.judging_meaning.specs.SerializeLevel.{came_in, came_from, Same}

-- a turn that comes to none, and one that is not made, before the rest

turned_away : {A : Type 0} (c : Came A) → or_else (looked (returned none)) c ≡ looked c
turned_away c = ap (λ (n : ℕ). record { answer = c.answer; turns = n }) (omega arith)

none_made : {A : Type 0} (c : Came A) → or_else (returned none) c ≡ c
none_made c = ap (λ (n : ℕ). record { answer = c.answer; turns = n }) (omega arith)

module _ (O : Object) (K : Keeps O.Op O.Ret) (flight : O.Op → List ℕ → K.InFlight) (S : Serializes K) (rows : Rows O)
    (Obj : SequentialSpec O.Op O.Ret) (held : O.State → Obj.Self) (Own : O.Op → Type 0) (refers : Refers O Obj held Own) where
  module _ (agrees : Agrees O K flight S rows) (shaped : AllShaped O rows) (own : AllOwn O rows Own) (search : Search K S Obj) (below : Node O → Tree (Step (space O rows)))
      (same : Same O K flight S rows Obj held Own refers search below) (v : TotalOrder O.Op O.Ret) (ps : List ℕ) (s : O.State) (many : length ps ≡ length rows) where
    -- where the level is, in the tree and in the Rust's maps; and where it goes on once one more of thread t is placed

    abbrev here : Node O
    here = record { progress = ps; object = s }

    abbrev remaining : Queues K S
    remaining = queues_at O K flight S rows ps

    abbrev flights : Flights K S
    flights = flights_at O K flight S rows ps

    abbrev remaining_on : ℕ → Queues K S
    remaining_on t = queues_at O K flight S rows (more ps t)

    abbrev flights_on : ℕ → Flights K S
    flights_on t = flights_at O K flight S rows (more ps t)

    -- what the tree answers, and what the Rust's loop does

    abbrev answered : Tree (Step (space O rows)) → Came (TotalOrder O.Op O.Ret)
    answered tree = came_from O rows ps v tree

    abbrev looped : Queues K S → Came (TotalOrder O.Op O.Ret)
    looped m = try_each K S Obj search v (held s) remaining flights m

    -- what comes of thread t's attempt with e: nothing where its notes are not met or its return is refused, else what the level below answers
    abbrev tried : ℕ → Entry O → Bool → Option O.Ret → Came (TotalOrder O.Op O.Ret)
    tried t e false g = looked (returned none)
    tried t e true none = looked (returned none)
    tried t e true (some r) = looked (came_from O rows (more ps t) (v ++ ((e.op, r) ∷ [])) (below (stepped O here t e)))

    -- in the tree

    came_along : (t : ℕ) (e : Entry O) (r : O.Ret) (y : Node O) (a b : Option (Steps O rows)) (i j : ℕ) → next rows ps t ≡ some e
        → or_else (looked (came_in O rows (more ps t) (v ++ ((e.op, r) ∷ [])) a i)) (came_in O rows ps v b j)
        ≡ came_in O rows ps v (along (record { thread = t; label = r; to = y }) a b) (suc (i + unless a j))
    came_along t e r y none b i j n = ap (came_in O rows ps v b) (omega arith)
    came_along t e r y (some p) b i j n =
        let z : suc i ≡ suc (i + 0) = omega arith in
        rw (n, append_assoc v ((e.op, r) ∷ []) (operations_from O rows (more ps t) (strip O rows p)), ← z)

    branch_agrees : (t : ℕ) (e : Entry O) (b : Bool) (g : Option O.Ret) (rest : Tree (Step (space O rows))) → next rows ps t ≡ some e
        → met e.needs ps ≡ b → gives O s e.op e.ret ≡ g
        → or_else (tried t e b g) (answered rest) ≡ answered (branch (space O rows) below t (trying O here t (next rows ps t)) rest)
    branch_agrees t e b g rest n m h = go b g ∙ ap (λ (z : Move O.Ret (Node O)). answered (branch (space O rows) below t z rest)) (sym is)
      where
        is : trying O here t (next rows ps t) ≡ placing O here t e b g
        is = ap (trying O here t) n ∙ ap (λ (c : Bool). placing O here t e c (gives O s e.op e.ret)) m ∙ ap (placing O here t e b) h

        go : (b : Bool) (g : Option O.Ret)
            → or_else (tried t e b g) (answered rest) ≡ answered (branch (space O rows) below t (placing O here t e b g) rest)
        go false g = turned_away (answered rest)
        go true none = turned_away (answered rest)
        go true (some r) =
            let tree = below (stepped O here t e) in
            came_along t e r (stepped O here t e) (answer tree) (answer rest) (count tree) (count rest) n

    -- in the Rust

    is_own : (t : ℕ) (e : Entry O) → next rows ps t ≡ some e → Own e.op
    is_own t e n = own t (get_or ps t 0) e (sym (next_row rows ps t many) ∙ n)

    goes_on : (t : ℕ) (u : TotalOrder O.Op O.Ret) (z : O.State)
        → search u (held z) (remaining_on t) (flights_on t) ≡ came_from O rows (more ps t) u (below (record { progress = more ps t; object = z }))
    goes_on t u z = same u (more ps t) z (length-set ps t (suc (get_or ps t 0)) ∙ many)

    -- Case 1
    flight_agrees : (t : ℕ) (e : Entry O) → next rows ps t ≡ some e → remaining ≡ remaining_on t → remove flights t ≡ flights_on t
        → try_in_flight K S Obj search v (held s) remaining flights t (some (flight e.op e.needs))
        ≡ tried t e (met e.needs ps) (some (O.answers s e.op))
    flight_agrees t e n q f =
        rw (agrees.operates e.op e.needs, q, f, agrees.violates ps t e many n, refers.invokes s e.op (is_own t e n)) (go (met e.needs ps))
      where
        go : (b : Bool)
            → looked (cond (not b) (returned none)
            (search (v ++ ((e.op, O.answers s e.op) ∷ [])) (held (O.after s e.op)) (remaining_on t) (flights_on t)))
            ≡ tried t e b (some (O.answers s e.op))
        go true = ap looked (goes_on t _ _)
        go false = refl

    -- Case 2
    remaining_agrees : (t : ℕ) (e : Entry O) (q : O.Ret) (p : K.InFlight × O.Ret) (m : Queues K S) → next rows ps t ≡ some e
        → p ≡ (flight e.op e.needs, q) → m ≡ remaining_on t → flights ≡ flights_on t
        → try_remaining K S Obj search v (held s) remaining flights p m ≡ tried t e (met e.needs ps) (checked O (O.ok s e.op q) q)
    remaining_agrees t e q p m n c i f =
        rw (c, i, f, agrees.operates e.op e.needs, agrees.violates ps t e many n, refers.says s e.op q (is_own t e n))
        (go (met e.needs ps) (O.ok s e.op q) refl)
      where
        go : (b k : Bool) → O.ok s e.op q ≡ k
            → looked (cond (not b) (returned none)
            (cond k (search (v ++ ((e.op, q) ∷ [])) (Obj.is_valid_step (held s) e.op q).1 (remaining_on t) (flights_on t)) (returned none)))
            ≡ tried t e b (checked O k q)
        go true true h = rw (refers.leaves s e.op q (is_own t e n) h) (ap looked (goes_on t _ _))
        go true false h = refl
        go false true h = refl
        go false false h = refl

    -- a thread that has nothing left is passed over
    passed_over : (t : ℕ) (r : List (Entry O)) (m : Queues K S) → get flights t ≡ none → looped (entry t (if_used O K flight S r []) m) ≡ looped m
    passed_over t [] m f = refl
    passed_over t (e ∷ r) m f = rw f (none_made (looped m))

    -- thread t's turn, and then the rest
    thread_agrees : (t : ℕ) (m : Queues K S) (rest : Tree (Step (space O rows))) → t < length rows → looped m ≡ answered rest
        → looped (entry t (left O K flight S (row O rows t, get_or ps t 0)) m)
        ≡ answered (branch (space O rows) below t (trying O here t (next rows ps t)) rest)
    thread_agrees t m rest there h = go (turn O K flight S rows ps t (shaped t) many there)
      where
        each : Option (List S.Remaining) → Came (TotalOrder O.Op O.Ret)
        each o = looped (entry t o m)

        go : Turn O K flight S rows ps t
            → each (left O K flight S (row O rows t, get_or ps t 0)) ≡ answered (branch (space O rows) below t (trying O here t (next rows ps t)) rest)
        go (nothing n l f) =
            ap each l
            ∙ passed_over t (row O rows t) m f
            ∙ h
            ∙ ap (λ (z : Option (Entry O)). answered (branch (space O rows) below t (trying O here t z) rest)) (sym n)
        go (flying {e = e} n g l f q r) =
            ap each l
            ∙ ap₂ or_else (ap (try_in_flight K S Obj search v (held s) remaining flights t) f ∙ flight_agrees t e n q r) h
            ∙ branch_agrees t e _ _ rest n refl (ap (gives O s e.op) g)
        go (completed {e = e} {q = q} {rest = cs} n g l i f) =
            ap each l
            ∙ ap₂ or_else (remaining_agrees t e q _ (insert remaining t cs) n (agrees.pops (get_or ps t 0) e.op e.needs q) i f) h
            ∙ branch_agrees t e _ _ rest n refl (ap (gives O s e.op) g)

    -- The loop over the m threads from t on.
    pub threads_agree : (m t : ℕ) → t + m ≡ length rows
        → looped (tabled (left O K flight S) t (drop t (places O rows ps))) ≡ answered (tries (space O rows) below here t m)
    threads_agree zero t e =
        ap (λ (l : List (Place O)). looped (tabled (left O K flight S) t l))
        (drop_of_length-le (places O rows ps) {i = t} (omega (arith, places_many O rows ps many)))
    threads_agree (suc m) t e =
        ap (λ (l : List (Place O)). looped (tabled (left O K flight S) t l))
        (drop-cons (places O rows ps) t ([], 0) (omega (arith, places_many O rows ps many))
        ∙ ap (λ (a : Place O). a ∷ drop (suc t) (places O rows ps)) (place_at O rows ps t many))
        ∙ thread_agrees t _ _ (omega arith) (threads_agree m (suc t) (omega arith))
