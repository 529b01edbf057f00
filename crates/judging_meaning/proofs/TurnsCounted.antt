-- What an attempt is, from the Rust's side: the attempts that a judge reports are the turns of the Rust's loops in which the thread still has an
-- operation to place, and under a budget the first so many of them.
use Rattle.std.specs.Prelude.{ℕ, ◌<◌, min, ◌≡◌, refl, ◌↔◌, Bool, true, false}
use Rattle.std.proofs.Common.{sym, ap, ◌∙◌, inr, arith}
use Rattle.families.specs.declared.Op.{Op}
use Rattle.families.specs.declared.Ret.{Ret}
use Rattle.recording_meaning.specs.Models.{Model, sequential_model, linearizability_model}
use Rattle.recording_meaning.specs.Lawful.{Lawful, sequential_lawful, linearizability_lawful}
use Rattle.recording_meaning.specs.RustReading.{InRust, sequential_in_rust, linearizability_in_rust}
use Rattle.judging.specs.declared.answer.Verdict.TheVariants.{Undecided, Invalid}
use Rattle.judging.specs.Answers.{judge_of}
use Rattle.judging_meaning.specs.Serialize.{Serializes, sequential_serializes, linearizable_serializes}
use Rattle.judging_meaning.specs.Judging.{VerdictWhen}
use Rattle.judging_meaning.proofs.Judged.{judges}
use Rattle.judging_meaning.specs.RustVerdict.{rust_turns, Serialized}
use Rattle.judging_meaning.proofs.RustVerdict.{sequential_serialized, linearizability_serialized}
use Rattle.judging_meaning.specs.TurnsCounted.{CountsTurns}

module _ (M : Model) (L : Lawful M) (R : InRust M) (S : Serializes R.keeps) (serialized : Serialized M R S) where
  made : (s : M.Tester) → M.Lengths s → M.shaped s ≡ true → (b : ℕ) → (judge_of M s b).attempts ≡ min b (rust_turns M R S s)
  made s z e b = go (M.history s).valid refl
    where
      go : (v : Bool) → (M.history s).valid ≡ v → (judge_of M s b).attempts ≡ min b (rust_turns M R S s)
      go true v = (judges M L s b).attempts_made (e, v) ∙ ap (min b) (sym (serialized.counted s z e v))
      go false v =
          let n = (judges M L s b).invalid_attempts (((judges M L s b).verdict_exactly Invalid).1 (inr v)) in
          omega (arith, n, serialized.none_counted s v)

  short : (s : M.Tester) → M.Lengths s → M.shaped s ≡ true → (b : ℕ) → ((judge_of M s b).verdict ≡ Undecided) ↔ (b < rust_turns M R S s)
  short s z e b = (λ u. let w = exactly.0 u in omega (arith, w.1, serialized.counted s z e w.0.1), λ l. go (M.history s).valid refl l)
    where
      exactly : ((judge_of M s b).verdict ≡ Undecided) ↔ VerdictWhen M s b Undecided
      exactly = (judges M L s b).verdict_exactly Undecided

      go : (v : Bool) → (M.history s).valid ≡ v → b < rust_turns M R S s → (judge_of M s b).verdict ≡ Undecided
      go true v l = exactly.1 ((e, v), omega (arith, serialized.counted s z e v))
      go false v l = absurd (omega (arith, serialized.none_counted s v))

  counts : CountsTurns M R S
  counts = record {
    needed_turns = λ s z e v. sym (serialized.counted s z e v);
    attempts_turns = made;
    undecided_turns = short;
    stands_turns = λ s h z e b. made s z e b ∙ ap (min b) (sym (serialized.stray_counted s h));
  }

pub sequential_counts_turns : CountsTurns sequential_model sequential_in_rust (sequential_serializes Op Ret)
sequential_counts_turns = counts sequential_model sequential_lawful sequential_in_rust (sequential_serializes Op Ret) sequential_serialized

pub linearizability_counts_turns : CountsTurns linearizability_model linearizability_in_rust (linearizable_serializes Op Ret)
linearizability_counts_turns =
    counts linearizability_model linearizability_lawful linearizability_in_rust (linearizable_serializes Op Ret) linearizability_serialized
