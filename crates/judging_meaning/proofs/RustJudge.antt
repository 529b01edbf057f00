-- The judge's answer is the Rust's: where the budget covers the search, the order that `serialized_history` answers, or None.
use Rattle.std.specs.Prelude.{ℕ, ◌≤◌, ◌≡◌, Bool}
use Rattle.std.proofs.Math.Path.{refl, sym}
use Rattle.std.proofs.Common.{ap, ◌∙◌, inr}
use Rattle.std.proofs.Math.Bool.{true, false}
use Rattle.std.proofs.Math.Option.{none, some}
use Rattle.theory.specs.Budget.{Verdict as Found, order, no_order, undecided, Judged}
use Rattle.history.specs.Rows.{Rows}
use Rattle.history.specs.Orders.{Order as Places}
use Rattle.values.specs.Value.{pick}
use Rattle.families.specs.Families.{families}
use Rattle.families.specs.declared.Op.{Op}
use Rattle.families.specs.declared.Ret.{Ret}
use Rattle.recording_meaning.specs.Models.{Model, tester_rows, sequential_model, linearizability_model}
use Rattle.recording_meaning.specs.Inputs.{feed}
use Rattle.recording_meaning.specs.Lawful.{Lawful, sequential_lawful, linearizability_lawful}
use Rattle.recording_meaning.specs.EventTurns.{good_shaped}
use Rattle.recording_meaning.specs.Reaching.{good_new}
use Rattle.recording_meaning.proofs.TesterFeeding.{good_feed}
use Rattle.recording_meaning.specs.RustReading.{InRust, sequential_in_rust, linearizability_in_rust, AsRust}
use Rattle.recording_meaning.proofs.RustFeeding.{sequential_as_rust, linearizability_as_rust}
use Rattle.judging.specs.declared.answer.Verdict.{Verdict}
use Rattle.judging.specs.declared.answer.Verdict.TheVariants.{Order, NoOrder, Undecided, Invalid}
use Rattle.judging.specs.Answers.{is_consistent, without_order, Placement, told, told_of, judged_of, judge_of, judge_with}
use Rattle.judging_meaning.specs.Serialize.{TotalOrder, Serializes, is_some, sequential_serializes, linearizable_serializes}
use Rattle.judging_meaning.specs.Shown.{with_operations, shown_verdict}
use Rattle.judging_meaning.specs.RustVerdict.{rust_answer, Serialized}
use Rattle.judging_meaning.proofs.RustVerdict.{sequential_serialized, linearizability_serialized}
use Rattle.judging_meaning.specs.Judging.{order_in, needed, Sound}
use Rattle.judging_meaning.proofs.Judged.{order_told, judges}
use Rattle.judging_meaning.specs.RustJudge.{shown_with, shown_answer, JudgesAsRust}

-- what the walk found, shown as an answer
shown_told : (rows : Rows families) (j : Judged Placement) → shown_answer rows (told_of j) ≡ shown_verdict families rows j.verdict
unfolding told_of without_order
shown_told rows j = go j.verdict
  where
    go : (v : Found Placement) → shown_answer rows (told v j.attempts) ≡ shown_verdict families rows v
    go (order p) = ap (λ (q : Places families). some (with_operations families rows q)) (order_told rows j.attempts p)
    go no_order = refl
    go undecided = refl

shown_consistent : (v : Verdict) (l : TotalOrder Op Ret) → is_some (shown_with v l) ≡ is_consistent v
unfolding is_consistent
shown_consistent Order l = refl
shown_consistent NoOrder l = refl
shown_consistent Undecided l = refl
shown_consistent Invalid l = refl

-- what is judged of a tester in shape with a valid history
judge_sound : (M : Model) (s : M.Tester) (b : ℕ) → Sound M s → judge_of M s b ≡ told_of (judged_of (M.needs s) (M.history s) b)
unfolding judge_with
judge_sound M s b h =
    let found = told_of (judged_of (M.needs s) (M.history s) b) in
    let invalid = without_order Invalid 0 in
    ap (λ (e : Bool). pick e (pick (M.history s).valid found invalid) invalid) h.0 ∙ ap (λ (v : Bool). pick v found invalid) h.1

module _ (M : Model) (L : Lawful M) (R : InRust M) (S : Serializes R.keeps) (recorded : AsRust M R)
    (serialized : Serialized M R S) where
  invalid_none : (s : M.Tester) → (M.history s).valid ≡ false → (b : ℕ) → shown_answer (tester_rows M s) (judge_of M s b) ≡ none
  invalid_none s v b =
      ap (λ (w : Verdict). shown_with w (with_operations families (tester_rows M s) (order_in (judge_of M s b)))) (((judges M L s b).verdict_exactly Invalid).1 (inr v))

  same : (s : M.Tester) → M.Lengths s → M.shaped s ≡ true → (b : ℕ) → needed M s ≤ b
      → rust_answer M R S s ≡ shown_answer (tester_rows M s) (judge_of M s b)
  unfolding judged_of
  same s z e b h = go (M.history s).valid refl
    where
      go : (v : Bool) → (M.history s).valid ≡ v → rust_answer M R S s ≡ shown_answer (tester_rows M s) (judge_of M s b)
      go true v =
          serialized.covered s z e v b h
          ∙ sym (ap (shown_answer (tester_rows M s)) (judge_sound M s b (e, v)) ∙ shown_told (tester_rows M s) (judged_of (M.needs s) (M.history s) b))
      go false v = serialized.invalid s v ∙ sym (invalid_none s v b)

  as_rust : JudgesAsRust M R S
  as_rust = record {
    same_answer = same;
    same_consistent = λ s z e b h.
        ap is_some (same s z e b h) ∙ shown_consistent (judge_of M s b).verdict (with_operations families (tester_rows M s) (order_in (judge_of M s b)));
    same_invalid = λ s v b. (serialized.invalid s v, invalid_none s v b);
    same_fed = λ start e l w b h.
        let s = feed M (M.new start) l in
        let g = good_feed M L l (M.new start) (good_new M L start) in
        serialized.stray s (recorded.in_sizes start e l w).stands ∙ same s (L.lengths s g.sized g.beside) (good_shaped M L s g) b h;
  }

pub sequential_judge_as_rust : JudgesAsRust sequential_model sequential_in_rust (sequential_serializes Op Ret)
sequential_judge_as_rust = as_rust sequential_model sequential_lawful sequential_in_rust (sequential_serializes Op Ret) sequential_as_rust
    sequential_serialized

pub linearizability_judge_as_rust : JudgesAsRust linearizability_model linearizability_in_rust (linearizable_serializes Op Ret)
linearizability_judge_as_rust = as_rust linearizability_model linearizability_lawful linearizability_in_rust (linearizable_serializes Op Ret)
    linearizability_as_rust linearizability_serialized
