-- The judge's verdict is the Rust's: where the budget covers the search, it is the order that `serialized_history` answers, or None.
use Rattle.std.specs.Prelude.{ℕ, ◌≤◌, ◌≡◌, refl, Bool, true, []}
use Rattle.std.proofs.Common.{sym, ap, ◌∙◌, arith}
use Rattle.std.proofs.Math.Option.{Option, none, some}
use Rattle.theory.specs.Tree.{answer, count}
use Rattle.theory.specs.Space.{Step}
use Rattle.theory.specs.Budget.{no_order, Judged, told}
use Rattle.theory.proofs.Verdicts.{judge_enough}
use Rattle.history.specs.Rows.{Rows}
use Rattle.history.specs.Lists.{not_some}
use Rattle.history.specs.Space.{space}
use Rattle.history.specs.Ways.{Steps}
use Rattle.families.specs.declared.family.Family.{Family}
use Rattle.families.specs.Family.{family_of, op_family}
use Rattle.families.specs.Families.{families}
use Rattle.families.specs.RustObjects.{ref_objects, ref_obj}
use Rattle.families.specs.RustFamilies.{holding, object_same}
use Rattle.semantics.specs.Invoking.{holds}
use Rattle.families.specs.declared.Object.{Object}
use Rattle.families.specs.declared.Op.{Op}
use Rattle.families.specs.declared.Ret.{Ret}
use Rattle.recording_meaning.specs.Models.{Model, tester_rows, sequential_model, linearizability_model}
use Rattle.recording_meaning.specs.Meaning.{Means}
use Rattle.recording_meaning.proofs.Meant.{sequential_meaning, linearizability_meaning}
use Rattle.recording_meaning.specs.Lawful.{Lawful, sequential_lawful, linearizability_lawful}
use Rattle.recording_meaning.specs.Rust.{len}
use Rattle.recording_meaning.specs.RustMaps.{in_maps}
use Rattle.recording_meaning.specs.RustReading.{InRust, sequential_in_rust, linearizability_in_rust, RustTester, in_rust, StandsFor, exactly, strayed}
use Rattle.judging_meaning.specs.Serialize.{
  Came,
  search_history,
  TotalOrder,
  Serializes,
  queues,
  serialize,
  sequential_serializes,
  linearizable_serializes,
}
use Rattle.judging_meaning.specs.Shown.{shown, shown_verdict}
use Rattle.judging_meaning.specs.Violations.{Agrees}
use Rattle.judging_meaning.proofs.Violations.{sequential_agrees, linearizable_agrees}
use Rattle.judging_meaning.specs.Refers.{families_refer}
use Rattle.judging_meaning.specs.SerializeAgrees.{came}
use Rattle.judging_meaning.proofs.SerializeAgrees.{serialize_agrees}
use Rattle.judging_meaning.specs.RowRecord.{rows_own}
use Rattle.judging_meaning.specs.RowNotes.{sequential_noteless, linearizability_fits}
use Rattle.judging_meaning.specs.RustVerdict.{rust_search, rust_answer, search_of, verdict_of, Serialized}

-- what a whole search tells

module _ (rows : Rows families) where
  shown_told : (a : Option (Steps families rows)) → shown families rows a ≡ shown_verdict families rows (told a)
  shown_told (some p) = refl
  shown_told none = refl

  told_none : (a : Option (Steps families rows)) → shown_verdict families rows (told a) ≡ none → told a ≡ no_order
  told_none (some p) h = not_some (sym h)
  told_none none h = refl

module _ (M : Model) (R : InRust M) (S : Serializes R.keeps) where
  -- The tree that the judge searches, and its verdict under the budget b.

  -- the Rust's search, by validity
  abbrev rust_of : M.Tester → Bool → Came (TotalOrder Op Ret)
  rust_of s b = search_history R.keeps S ref_objects ref_obj (in_maps families R.keeps R.flight (M.history s).start (tester_rows M s) b)

  stray_same : (s : M.Tester) {T : RustTester M R} → StandsFor M R s T → search_history R.keeps S ref_objects ref_obj T ≡ rust_search M R S s
  stray_same s exactly = refl
  stray_same s (strayed t l v) = rw v

  module _ (means : Means M) (L : Lawful M)
      (agrees : (s : M.Tester) → M.Lengths s → M.shaped s ≡ true → Agrees families R.keeps R.flight S (tester_rows M s)) where
    module _ (s : M.Tester) (z : M.Lengths s) (e : M.shaped s ≡ true) (v : (M.history s).valid ≡ true) where
      -- the family of the tester's object, whose operations it holds

      abbrev family : Family
      family = family_of (M.history s).start.kind

      abbrev Own : Op → Type 0
      Own op = op_family op ≡ family

      -- down to as many levels as the Rust's len says, or more
      levels_came : (n : ℕ) → len Op Ret Object R.keeps (in_rust M R s) ≤ n
          → serialize R.keeps S ref_objects n [] (ref_obj (M.history s).start) (queues R.keeps S (in_rust M R s).history_by_thread)
          (in_rust M R s).in_flight_by_thread ≡ came families (tester_rows M s) (search_of M R S s)
      levels_came n h =
          serialize_agrees families R.keeps R.flight S (tester_rows M s) ref_objects (holding family) Own (families_refer family) (agrees s z e)
          (means.rows_in_shape s z e) (rows_own M L s z e) (M.history s).start (ref_obj (M.history s).start) (holds (M.history s).start)
          (object_same (M.history s).start.kind (M.history s).start.items) n h

      -- the Rust's tester is valid, so that it searches
      rust_came : rust_search M R S s ≡ came families (tester_rows M s) (search_of M R S s)
      rust_came = ap (rust_of s) v ∙ levels_came (len Op Ret Object R.keeps (in_rust M R s)) (omega arith)

      rust_told : rust_answer M R S s ≡ shown_verdict families (tester_rows M s) (told (answer (search_of M R S s)))
      rust_told = ap (λ (c : Came (TotalOrder Op Ret)). c.answer) rust_came ∙ shown_told (tester_rows M s) (answer (search_of M R S s))

      verdict_told : (b : ℕ) → count (search_of M R S s) ≤ b → verdict_of M R S s b ≡ told (answer (search_of M R S s))
      verdict_told b h = ap (λ (j : Judged (Step (space families (tester_rows M s)))). j.verdict) (judge_enough b (search_of M R S s) h)

    pub serialized : Serialized M R S
    serialized = record {
      covered = λ s z e v b h. rust_told s z e v ∙ ap (shown_verdict families (tester_rows M s)) (sym (verdict_told s z e v b h));
      none_exactly = λ s z e v b h. (
        λ n. verdict_told s z e v b h ∙ told_none (tester_rows M s) (answer (search_of M R S s)) (sym (rust_told s z e v) ∙ n),
        λ n. rust_told s z e v ∙ ap (shown_verdict families (tester_rows M s)) (sym (verdict_told s z e v b h) ∙ n),
      );
      counted = λ s z e v. ap (λ (c : Came (TotalOrder Op Ret)). c.turns) (rust_came s z e v);
      unbounded = λ s z e v n h. levels_came s z e v n h ∙ sym (rust_came s z e v);
      invalid = λ s v. rw v;
      none_counted = λ s v. rw v;
      stray = λ s h. ap (λ (c : Came (TotalOrder Op Ret)). c.answer) (stray_same s h);
      stray_counted = λ s h. ap (λ (c : Came (TotalOrder Op Ret)). c.turns) (stray_same s h);
    }

pub sequential_serialized : Serialized sequential_model sequential_in_rust (sequential_serializes Op Ret)
sequential_serialized =
    serialized sequential_model sequential_in_rust (sequential_serializes Op Ret) sequential_meaning sequential_lawful
    (λ s z e. sequential_agrees families (tester_rows sequential_model s) (sequential_noteless s))

pub linearizability_serialized : Serialized linearizability_model linearizability_in_rust (linearizable_serializes Op Ret)
linearizability_serialized =
    serialized linearizability_model linearizability_in_rust (linearizable_serializes Op Ret) linearizability_meaning linearizability_lawful
    (λ s z e. linearizable_agrees families (tester_rows linearizability_model s) (linearizability_fits s z e))
