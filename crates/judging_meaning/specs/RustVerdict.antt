-- The judge's verdict is the Rust's: where the budget covers the search, it is the order that `serialized_history` answers, or None.
use Rattle.std.specs.Prelude.{ℕ, ◌≤◌, ◌≡◌, ◌↔◌, true, false, []}
use Rattle.std.proofs.Math.Option.{Option, none}
use Rattle.theory.specs.Tree.{Tree, count}
use Rattle.theory.specs.Space.{Step}
use Rattle.theory.specs.Budget.{Verdict, no_order}
use Rattle.history.specs.Space.{space}
use Rattle.history.specs.Ways.{searched}
use Rattle.history.specs.Budgets.{judged}
use Rattle.families.specs.Families.{families}
use Rattle.families.specs.RustObjects.{ref_objects, ref_obj}
use Rattle.semantics.specs.Invoking.{holds}
use Rattle.families.specs.declared.Object.{Object}
use Rattle.families.specs.declared.Op.{Op}
use Rattle.families.specs.declared.Ret.{Ret}
use Rattle.recording_meaning.specs.Models.{Model, tester_rows}
use Rattle.recording_meaning.specs.Rust.{len}
use Rattle.recording_meaning.specs.RustReading.{InRust, RustTester, in_rust, StandsFor}
use Rattle.judging_meaning.specs.Serialize.{Came, search_history, TotalOrder, Serializes, queues, serialize, serialized_history}
use Rattle.judging_meaning.specs.Shown.{shown_verdict}

-- what a whole search tells

module _ (M : Model) (R : InRust M) (S : Serializes R.keeps) where
  -- What the search of the Rust's tester that a tester reads as comes to: what `serialized_history` answers, and the turns counted.

  abbrev pub rust_search : M.Tester → Came (TotalOrder Op Ret)
  rust_search s = search_history R.keeps S ref_objects ref_obj (in_rust M R s)

  abbrev pub rust_answer : M.Tester → Option (TotalOrder Op Ret)
  rust_answer s = (rust_search s).answer

  abbrev pub rust_turns : M.Tester → ℕ
  rust_turns s = (rust_search s).turns

  -- The tree that the judge searches, and its verdict under the budget b.

  abbrev pub search_of : (s : M.Tester) → Tree (Step (space families (tester_rows M s)))
  search_of s = searched families (tester_rows M s) (holds (M.history s).start)

  abbrev pub verdict_of : (s : M.Tester) → ℕ → Verdict (Step (space families (tester_rows M s)))
  verdict_of s b = (judged families (tester_rows M s) b (holds (M.history s).start)).verdict

  -- The verdict is the Rust's answer.
  pub record Serialized : Type 0 where
    -- of a valid history, where the budget covers the search
    pub covered : (s : M.Tester) → M.Lengths s → M.shaped s ≡ true → (M.history s).valid ≡ true → (b : ℕ) → count (search_of s) ≤ b
        → rust_answer s ≡ shown_verdict families (tester_rows M s) (verdict_of s b)
    -- so that it is None exactly where there is no order
    pub none_exactly : (s : M.Tester) → M.Lengths s → M.shaped s ≡ true → (M.history s).valid ≡ true → (b : ℕ) → count (search_of s) ≤ b
        → (rust_answer s ≡ none) ↔ (verdict_of s b ≡ no_order)
    -- the turns of its loops that look at an operation are the attempts
    pub counted : (s : M.Tester) → M.Lengths s → M.shaped s ≡ true → (M.history s).valid ≡ true → rust_turns s ≡ count (search_of s)
    -- the levels of the transcription do not bound it: with more of them it comes to the same
    pub unbounded : (s : M.Tester) → M.Lengths s → M.shaped s ≡ true → (M.history s).valid ≡ true
        → (n : ℕ) → len Op Ret Object R.keeps (in_rust M R s) ≤ n
        → serialize R.keeps S ref_objects n [] (ref_obj (M.history s).start) (queues R.keeps S (in_rust M R s).history_by_thread)
        (in_rust M R s).in_flight_by_thread ≡ rust_search s
    -- of a history that is not valid: None, and no turn
    pub invalid : (s : M.Tester) → (M.history s).valid ≡ false → rust_answer s ≡ none
    pub none_counted : (s : M.Tester) → (M.history s).valid ≡ false → rust_turns s ≡ 0
    -- and a stray entry changes nothing
    pub stray : (s : M.Tester) {T : RustTester M R} → StandsFor M R s T → serialized_history R.keeps S ref_objects ref_obj T ≡ rust_answer s
    pub stray_counted : (s : M.Tester) {T : RustTester M R} → StandsFor M R s T → (search_history R.keeps S ref_objects ref_obj T).turns ≡ rust_turns s
