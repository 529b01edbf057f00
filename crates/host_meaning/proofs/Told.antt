-- The verdict in an answer's first byte tells of a file what Telling says, for both models by one proof.
use Rattle.std.specs.Prelude.{ℕ, ◌≤◌, ◌<◌, ◌≡◌, refl, ◌↔◌, false, List, length, get_or}
use Rattle.std.proofs.Common.{sym, ap, ◌∙◌, arith}
use Rattle.history.specs.Events.{Events}
use Rattle.history.specs.Papers.{Linearizable, SequentiallyConsistent}
use Rattle.families.specs.Families.{State, families}
use Rattle.semantics.specs.Invoking.{holds}
use Rattle.recording_meaning.specs.Models.{Model, sequential_model, linearizability_model}
use Rattle.recording_meaning.specs.Lawful.{Lawful, sequential_lawful, linearizability_lawful}
use Rattle.recording_meaning.specs.Inputs.{as_inputs, broken, drawn, taken}
use Rattle.judging.specs.declared.answer.Verdict.{Verdict}
use Rattle.judging.specs.declared.answer.Verdict.TheVariants.{Order, NoOrder, Undecided}
use Rattle.judging.specs.Answers.{judge_of}
use Rattle.judging_meaning.specs.Judging.{JudgesFresh}
use Rattle.judging_meaning.proofs.JudgedFresh.{fresh_sequential, fresh_linearizable}
use Rattle.judging_meaning.specs.VerdictsOneWay.{verdict_fed}
use Rattle.corpus.specs.Load.{Load, load_of}
use Rattle.corpus.specs.Files.{Whole}
use Rattle.corpus.proofs.Files.{whole_loads, number_zero}
use Rattle.host.specs.Call.{head_of, bytes_of, report_of, answer_size, model_of, call_number}
use Rattle.host.specs.Loads.{unbroken}
use Rattle.host.specs.CallMeaning.{judged_of}
use Rattle.host.proofs.CallMeant.{says, calls}
use Rattle.host_meaning.specs.Telling.{verdict_byte, Met, attempts_of, Tells}
use Rattle.host_meaning.specs.Whole.{all_taken, begins_fresh}

-- Where the call answers, the first byte is the report's verdict.
pub byte_is : (file : List ℕ) (model budget : ℕ) (answer : List ℕ) → call_number model answer ≡ 0
    → verdict_byte file model budget answer ≡ (report_of (model_of model) file budget).verdict
unfolding bytes_of head_of
byte_is file model budget answer z = ap (λ (l : List ℕ). get_or l 0 0) ((calls file model budget answer).answered z)

-- What the judge says of a whole capture is what it says of the fresh tester fed with its events.
pub verdict_is : (M : Model) (file : List ℕ) (budget : ℕ) (c : Whole M file) → (judged_of M file budget).verdict ≡ verdict_fed M c.start (as_inputs c.events) budget
verdict_is M file budget c = ap (λ (l : Load M). (judge_of M l.tester budget).verdict) (whole_loads M file c)

module _ (M : Model) (L : Lawful M) (Meets : State → Events families → Type 0) (fresh : JudgesFresh M Meets) (file : List ℕ) (budget : ℕ) where
  -- a verdict that is given exactly where P holds of the fresh tester is given of the file exactly where P holds of a whole capture in it
  by_capture : (v : Verdict) (P : Whole M file → Type 0) → ((c : Whole M file) → (verdict_fed M c.start (as_inputs c.events) budget ≡ v) ↔ P c)
      → (((load_of M file).number ≡ 0) × ((judged_of M file budget).verdict ≡ v)) ↔ ((c : Whole M file) × P c)
  by_capture v P exactly = (
    λ p. let c = (number_zero M file).0 p.0 in (c, (exactly c).0 (sym (verdict_is M file budget c) ∙ p.1)),
    λ p. ((number_zero M file).1 p.0, verdict_is M file budget p.0 ∙ (exactly p.0).1 p.1),
  )

  module _ (c : Whole M file) where
    abbrev verdict : Verdict
    verdict = verdict_fed M c.start (as_inputs c.events) budget

    kept : broken (drawn M (M.new c.start) (as_inputs c.events)) ≡ false
    kept = unbroken M c.events (M.new c.start) c.recorded

    -- all of its events count, from the header's object on
    met_is : Meets (holds c.start) (taken M (M.new c.start) (as_inputs c.events)) ≡ Met M file Meets c
    met_is = rw (all_taken M c.events (M.new c.start) c.recorded) refl

    order_when : (verdict ≡ Order) ↔ ((attempts_of M file c ≤ budget) × Met M file Meets c)
    order_when = rw met_is at ((fresh c.start (as_inputs c.events) budget).order_fed c.start (begins_fresh M L file c) kept)

    no_order_when : (verdict ≡ NoOrder) ↔ ((attempts_of M file c ≤ budget) × (Met M file Meets c → ⊥))
    no_order_when = rw met_is at ((fresh c.start (as_inputs c.events) budget).no_order_fed c.start (begins_fresh M L file c) kept)

    undecided_when : (verdict ≡ Undecided) ↔ (budget < attempts_of M file c)
    undecided_when = (fresh c.start (as_inputs c.events) budget).undecided_fed kept

  tells : Tells M file Meets budget (report_of M file budget).verdict
  tells =
      let w = says M L file budget in record {
        green = both (both w.order_exactly (by_capture Order _ order_when)) apart;
        no_order = both (both w.no_order_exactly (by_capture NoOrder _ no_order_when)) apart;
        undecided = both w.undecided_exactly (by_capture Undecided _ undecided_when);
      }
    where
      both : {A B C : Type 0} → A ↔ B → B ↔ C → A ↔ C
      both f g = (λ a. g.0 (f.0 a), λ c. f.1 (g.1 c))

      apart : {A : Type 0} {B C : A → Type 0} → ((a : A) × (B a × C a)) ↔ ((a : A) × B a × C a)
      apart = (λ p. (p.0, p.1.0, p.1.1), λ p. (p.0, (p.1, p.2)))

-- The theorem: what the first byte says of any file, under any budget, in any buffer of at least 79 bytes.

pub linearizable_told : (file : List ℕ) (budget : ℕ) (answer : List ℕ) → answer_size ≤ length answer
    → Tells linearizability_model file (Linearizable families) budget (verdict_byte file 1 budget answer)
linearizable_told file budget answer h =
    rw (byte_is file 1 budget answer ((calls file 1 budget answer).done h (omega arith))) (tells linearizability_model linearizability_lawful (Linearizable families) fresh_linearizable file budget)

pub sequential_told : (file : List ℕ) (budget : ℕ) (answer : List ℕ) → answer_size ≤ length answer
    → Tells sequential_model file (SequentiallyConsistent families) budget (verdict_byte file 0 budget answer)
sequential_told file budget answer h =
    rw (byte_is file 0 budget answer ((calls file 0 budget answer).done h (omega arith))) (tells sequential_model sequential_lawful (SequentiallyConsistent families) fresh_sequential file budget)
