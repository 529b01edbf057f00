-- Counters against counters: notes that are met, and every completed operation placed.
use Rattle.std.proofs.Common.{ℕ, zero, suc, ◌+◌, ◌*◌, ◌<◌, ◌≤◌, ◌≡◌, refl, sym, ap, ◌∙◌, Bool, true, false, List, [], zero-add, arith, length, take, drop, get_or-take, get_or-drop, leb-true, le-leb, ltb-true, ltb-false}
use Rattle.std.proofs.Math.ListN.{get_or, get_or-eq_default}
use Rattle.std.proofs.Math.Seq.{drop-nil}
use Rattle.std.proofs.Math.Dec.{leb, leb-suc-suc}
use Rattle.std.specs.Prelude.{ltb}
use Rattle.std.proofs.lemmas.Bool.{lt-leb}
use Rattle.history.specs.Rows.{Entry, row, Shaped, empty, in_flight, completed_first}
use Rattle.history.specs.Recorder.{completed as completed_of}
use Rattle.history.specs.Space.{met, only_pending, all_placed}
use Rattle.history.specs.Progress.{met_of, of_met, placed_of, of_placed}
use Rattle.values.specs.Sizes.{threads}
use Rattle.families.specs.Families.{families}
use Rattle.stepping.specs.declared.histories.History.{History}
use Rattle.recording_meaning.specs.Reading.{rows_of, notes_of}
use Rattle.recording_meaning.specs.Rowing.{rows_many}
use Rattle.recording_meaning.specs.Parts.{below_each, each_below, Parts}
use Rattle.recording_meaning.specs.Shaping.{rows_shaped, rows_done}
use Rattle.witness.specs.WordsPlayed.{reaches_of}

-- two tests, each of which passes where the other does
same_test : (a b : Bool) → (a ≡ true → b ≡ true) → (b ≡ true → a ≡ true) → a ≡ b
same_test true b f g = sym (f refl)
same_test false true f g = g refl
same_test false false f g = refl

module _ (wanted : List ℕ) (i : ℕ) (ps : List ℕ) where
  of_reaches : reaches_of wanted i ps ≡ true → (u : ℕ) → u < threads → get_or wanted (i + u) 0 ≤ get_or ps u 0
  unfolding reaches_of
  of_reaches e u l = leb-true _ _ (below_each (λ u. leb (get_or wanted (i + u) 0) (get_or ps u 0)) threads e u l)

  reaches_of_lem : ((u : ℕ) → u < threads → get_or wanted (i + u) 0 ≤ get_or ps u 0) → reaches_of wanted i ps ≡ true
  unfolding reaches_of
  reaches_of_lem f = each_below (λ u. leb (get_or wanted (i + u) 0) (get_or ps u 0)) threads (λ u l. le-leb _ _ (f u l))

-- the notes of an operation are met
pub notes_met : (notes : List ℕ) (i : ℕ) (ps : List ℕ) → length ps ≡ threads → met (notes_of notes i) ps ≡ reaches_of notes (i * threads) ps
unfolding notes_of
notes_met notes i ps many =
    let at : (u : ℕ) → u < threads → get_or (take threads (drop (i * threads) notes)) u 0 ≡ get_or notes (i * threads + u) 0
    = λ u l. get_or-take threads (drop (i * threads) notes) u 0 l ∙ get_or-drop (i * threads) notes u 0 in
    same_test _ _ (λ e. reaches_of_lem notes (i * threads) ps (λ u l.
    omega (arith, of_met (take threads (drop (i * threads) notes)) ps e u (omega arith), at u l)))
    (λ e. met_of (take threads (drop (i * threads) notes)) ps (λ u l.
    omega (arith, of_reaches notes (i * threads) ps e u (omega arith), at u (omega arith))))

-- of a row in shape, only an operation in flight is left exactly if as many are placed as are completed
row_placed : {r : List (Entry families)} (p : ℕ) → Shaped families r → only_pending families (drop p r) ≡ leb (completed_of families r) p
row_placed p empty = ap (only_pending families) (drop-nil p) ∙ sym (le-leb 0 p (omega arith))
row_placed zero (in_flight h) = rw h
row_placed (suc p) (in_flight h) = rw h (ap (only_pending families) (drop-nil p) ∙ sym (le-leb 0 (suc p) (omega arith)))
row_placed zero (completed_first {r = r} h s) = rw h (sym (lt-leb (suc (completed_of families r)) 0 (omega arith)))
row_placed (suc p) (completed_first {r = r} h s) = rw h (row_placed p s ∙ sym (leb-suc-suc (completed_of families r) p))

-- every completed operation is placed exactly if each thread's counter reaches what it has completed
pub done_placed : (needs : ℕ → List ℕ) (h : History) → Parts h → (ps : List ℕ) → length ps ≡ threads
    → all_placed families (rows_of needs h) ps ≡ reaches_of h.done 0 ps
done_placed needs h w ps many =
    let rows = rows_of needs h in
    let each : (t : ℕ) → only_pending families (drop (get_or ps t 0) (row families rows t)) ≡ leb (completed_of families (row families rows t)) (get_or ps t 0)
    = λ t. row_placed (get_or ps t 0) (rows_shaped needs h w t) in
    same_test _ _ (λ e. reaches_of_lem h.done 0 ps (λ u l.
    let a = sym (each u) ∙ of_placed families rows ps (many ∙ sym (rows_many needs h)) e u in
    rw (zero-add u) (omega (arith, rows_done needs h w u l, leb-true (completed_of families (row families rows u)) (get_or ps u 0) a))))
    (λ e. placed_of families rows ps (λ t. each t ∙ le-leb _ _ (go e t (ltb t threads) refl)))
  where
    go : reaches_of h.done 0 ps ≡ true → (t : ℕ) (b : Bool) → ltb t threads ≡ b
        → completed_of families (row families (rows_of needs h) t) ≤ get_or ps t 0
    go e t true l =
        let a : get_or h.done t 0 ≤ get_or ps t 0 = rw (zero-add t) at (of_reaches h.done 0 ps e t (ltb-true t threads l)) in
        omega (arith, rows_done needs h w t (ltb-true t threads l))
    go e t false l =
        let n : row families (rows_of needs h) t ≡ []
        = get_or-eq_default (rows_of needs h) [] (omega (arith, ltb-false t threads l, rows_many needs h)) in
        rw n (omega arith)
