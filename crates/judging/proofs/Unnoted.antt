-- Rows whose notes ask the same of every progress are searched alike; notes of zeros ask nothing, like none.
use Rattle.std.specs.Prelude.{ℕ, zero, suc, ◌≡◌, refl, Bool, true, false, cond, List, [], ◌∷◌, length, drop, replicate, eqb}
use Rattle.std.proofs.Common.{ap, ◌∙◌}
use Rattle.std.proofs.Math.Option.{Option, none, some}
use Rattle.std.proofs.Math.ListN.{get_elem? as nth}
use Rattle.theory.specs.Space.{Move, Space, grow}
use Rattle.theory.specs.Budget.{judge}
use Rattle.history.specs.Object.{Object}
use Rattle.history.specs.Rows.{Entry, Rows}
use Rattle.history.specs.Space.{Node, next, unplaced, met, only_pending, all_placed, gives, placing, trying, space, size, root}
use Rattle.history.specs.Budgets.{judged}
use Rattle.values.specs.Sizes.{threads}
use Rattle.families.specs.Families.{families}
use Rattle.families.specs.States.{state_of}
use Rattle.stepping.specs.declared.histories.Operation.{Operation}
use Rattle.stepping.specs.declared.histories.History.{History}
use Rattle.stepping.specs.Record.{held}
use Rattle.recording_meaning.specs.Reading.{entry_of, entries, of_thread, by_thread, rows_of, notes_of, no_notes}
use Rattle.recording_meaning.specs.AsRows.{zeros_alike}
use Rattle.judging.specs.Answers.{judged_of}

-- two spaces of the same situations, with the same threads, ends and moves, have the same search trees

module _ {L N : Type 0} where
  abbrev space_of : ℕ → (N → Bool) → (N → ℕ → Move L N) → Space L
  space_of k ends moves = record { Node = N; threads = k; finished = ends; move = moves }

  grow_same : {k l : ℕ} {f g : N → Bool} {m o : N → ℕ → Move L N} → k ≡ l → ((x : N) → f x ≡ g x) → ((x : N) (t : ℕ) → m x t ≡ o x t)
      → (n : ℕ) (x : N) → grow (space_of k f m) n x ≡ grow (space_of l g o) n x
  grow_same a b c n x = λ i. grow (space_of (a i) (λ y. b y i) (λ y t. c y t i)) n x

-- two lists of the same length, related place by place
abbrev Each : {A : Type 0} → (A → A → Type 0) → List A → List A → Type 0
Each R [] [] = Unit {0}
Each R [] (y ∷ m) = ⊥
Each R (x ∷ l) [] = ⊥
Each R (x ∷ l) (y ∷ m) = R x y × Each R l m

each_length : {A : Type 0} (R : A → A → Type 0) (l m : List A) → Each R l m → length l ≡ length m
each_length R [] [] w = refl
each_length R [] (y ∷ m) w = absurd w
each_length R (x ∷ l) [] w = absurd w
each_length R (x ∷ l) (y ∷ m) w = ap suc (each_length R l m w.1)

module _ (O : Object) where
  -- the same operation with the same return, and notes that ask the same
  record Alike (e f : Entry O) : Type 0 where
    same_op : e.op ≡ f.op
    same_ret : e.ret ≡ f.ret
    same_met : (ps : List ℕ) → met e.needs ps ≡ met f.needs ps

  abbrev AlikeRow : List (Entry O) → List (Entry O) → Type 0
  AlikeRow = Each Alike

  abbrev AlikeRows : Rows O → Rows O → Type 0
  AlikeRows = Each AlikeRow

  -- the same ends

  only_alike : (r s : List (Entry O)) (p : ℕ) → AlikeRow r s → only_pending O (drop p r) ≡ only_pending O (drop p s)
  only_alike [] [] p w = refl
  only_alike [] (f ∷ s) p w = absurd w
  only_alike (e ∷ r) [] p w = absurd w
  only_alike (e ∷ r) (f ∷ s) zero w = rw (w.0.same_ret, only_alike r s zero w.1)
  only_alike (e ∷ r) (f ∷ s) (suc p) w = only_alike r s p w.1

  placed_alike : (rows other : Rows O) (ps : List ℕ) → AlikeRows rows other → all_placed O rows ps ≡ all_placed O other ps
  placed_alike [] [] ps w = refl
  placed_alike [] (s ∷ other) ps w = absurd w
  placed_alike (r ∷ rows) [] ps w = absurd w
  placed_alike (r ∷ rows) (s ∷ other) [] w = refl
  placed_alike (r ∷ rows) (s ∷ other) (p ∷ ps) w = rw (only_alike r s p w.0, placed_alike rows other ps w.1)

  -- the same moves

  placing_alike : (x : Node O) (t : ℕ) (e f : Entry O) (b : Bool) (g : Option O.Ret) → e.op ≡ f.op → placing O x t e b g ≡ placing O x t f b g
  placing_alike x t e f false g h = refl
  placing_alike x t e f true none h = refl
  placing_alike x t e f true (some r) h = rw h

  trying_alike : (x : Node O) (t : ℕ) (e f : Entry O) → Alike e f → trying O x t (some e) ≡ trying O x t (some f)
  trying_alike x t e f w =
      let asked = met f.needs x.progress in
      ap (λ (b : Bool). placing O x t e b (gives O x.object e.op e.ret)) (w.same_met x.progress)
      ∙ ap (λ (a : Option O.Ret). placing O x t e asked (gives O x.object e.op a)) w.same_ret
      ∙ placing_alike x t e f asked (gives O x.object e.op f.ret) w.same_op
      ∙ ap (λ (o : O.Op). placing O x t f asked (gives O x.object o f.ret)) w.same_op

  at_alike : (x : Node O) (t : ℕ) (r s : List (Entry O)) (p : ℕ) → AlikeRow r s → trying O x t (nth r p) ≡ trying O x t (nth s p)
  at_alike x t [] [] p w = refl
  at_alike x t [] (f ∷ s) p w = absurd w
  at_alike x t (e ∷ r) [] p w = absurd w
  at_alike x t (e ∷ r) (f ∷ s) zero w = trying_alike x t e f w.0
  at_alike x t (e ∷ r) (f ∷ s) (suc p) w = at_alike x t r s p w.1

  next_alike : (x : Node O) (t : ℕ) (rows other : Rows O) (ps : List ℕ) (u : ℕ) → AlikeRows rows other
      → trying O x t (next rows ps u) ≡ trying O x t (next other ps u)
  next_alike x t [] [] ps u w = refl
  next_alike x t [] (s ∷ other) ps u w = absurd w
  next_alike x t (r ∷ rows) [] ps u w = absurd w
  next_alike x t (r ∷ rows) (s ∷ other) [] u w = refl
  next_alike x t (r ∷ rows) (s ∷ other) (p ∷ ps) zero w = at_alike x t r s p w.0
  next_alike x t (r ∷ rows) (s ∷ other) (p ∷ ps) (suc u) w = next_alike x t rows other ps u w.1

  -- the same sizes

  unplaced_alike : (rows other : Rows O) (ps : List ℕ) → AlikeRows rows other → unplaced rows ps ≡ unplaced other ps
  unplaced_alike [] [] ps w = refl
  unplaced_alike [] (s ∷ other) ps w = absurd w
  unplaced_alike (r ∷ rows) [] ps w = absurd w
  unplaced_alike (r ∷ rows) (s ∷ other) [] w = refl
  unplaced_alike (r ∷ rows) (s ∷ other) (p ∷ ps) w = rw (each_length Alike r s w.0, unplaced_alike rows other ps w.1)

  judged_alike : (rows other : Rows O) (b : ℕ) (s : O.State) → AlikeRows rows other → judged O rows b s ≡ judged O other b s
  judged_alike rows other b s w =
      let many : length rows ≡ length other = each_length AlikeRow rows other w in
      let start : root O rows s ≡ root O other s = rw many in
      let sizes : size O rows (root O rows s) ≡ size O other (root O other s) = unplaced_alike rows other _ w ∙ ap (size O other) start in
      ap (judge b)
      (grow_same many (λ x. placed_alike rows other x.progress w) (λ x t. next_alike x t rows other x.progress t w) (size O rows (root O rows s)) (root O rows s)
      ∙ ap (λ (n : ℕ). grow (space O other) n (root O rows s)) sizes
      ∙ ap (λ (x : Node O). grow (space O other) (size O other (root O other s)) x) start)

-- the rows of a history

module _ (needs other : ℕ → List ℕ) (same : (i : ℕ) (ps : List ℕ) → met (needs i) ps ≡ met (other i) ps) where
  thread_alike : (t i : ℕ) (os : List Operation) → AlikeRow families (of_thread t (entries needs i os)) (of_thread t (entries other i os))
  thread_alike t i [] = tt
  thread_alike t i (o ∷ os) = go (eqb o.thread t) (thread_alike t (suc i) os)
    where
      go : (b : Bool) → AlikeRow families (of_thread t (entries needs (suc i) os)) (of_thread t (entries other (suc i) os))
          → AlikeRow families (cond b (entry_of o (needs i) ∷ of_thread t (entries needs (suc i) os)) (of_thread t (entries needs (suc i) os)))
          (cond b (entry_of o (other i) ∷ of_thread t (entries other (suc i) os)) (of_thread t (entries other (suc i) os)))
      go true w = (record { same_op = refl; same_ret = refl; same_met = same i }, w)
      go false w = w

  threads_alike : (k n : ℕ) (os : List Operation) → AlikeRows families (by_thread k n (entries needs 0 os)) (by_thread k n (entries other 0 os))
  threads_alike k zero os = tt
  threads_alike k (suc n) os = (thread_alike k 0 os, threads_alike (suc k) n os)

  -- Whatever the notes: what the walk finds depends on what they ask alone.
  pub judged_same : (h : History) (b : ℕ) → judged_of needs h b ≡ judged_of other h b
  unfolding judged_of rows_of
  judged_same h b =
      judged_alike families (rows_of needs h) (rows_of other h) b (state_of h.start.kind h.start.items) (threads_alike 0 threads (held h))

-- notes of zeros
pub zeros_ask_nothing : (n : ℕ) (h : History) (b : ℕ) → judged_of (notes_of (replicate n 0)) h b ≡ judged_of no_notes h b
zeros_ask_nothing n = judged_same (notes_of (replicate n 0)) no_notes (zeros_alike n)
