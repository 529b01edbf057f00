-- The ends of the call: nothing is written, or the report.
use Rattle.std.proofs.Common.{ℕ, suc, ◌≡◌, sym, ap, ◌∙◌, List, ◌++◌, arith, drop}
use Rattle.host.specs.declared.report.Report.{Report}
use Rattle.recording_meaning.specs.Models.{Model}
use Rattle.corpus.specs.declared.load.Loaded.{Loaded}
use Rattle.corpus.specs.Load.{load_of}
use Rattle.corpus.specs.LoadAnswers.{as_loaded}
use Rattle.host.specs.Call.{report_with, report_of, bytes_of, answer_size, model_of, call_number, call_answer}
use Rattle.host.proofs.CallMeant.{calls}

module _ (file answer : List ℕ) (model budget : ℕ) where
  pub unwritten : (n : ℕ) → call_number model answer ≡ suc n → (suc n ≡ call_number model answer) × (answer ≡ call_answer file model budget answer)
  unwritten n e = (sym e, sym ((calls file model budget answer).untouched (λ z. omega arith)))

  pub written : call_number model answer ≡ 0 → (r : Report) → r ≡ report_of (model_of model) file budget → (out : List ℕ)
      → out ≡ bytes_of r ++ drop answer_size answer → (0 ≡ call_number model answer) × (out ≡ call_answer file model budget answer)
  written z r e out f =
      (sym z, f ∙ ap (λ (x : Report). bytes_of x ++ drop answer_size answer) e ∙ sym ((calls file model budget answer).answered z))

-- what is reported of a loaded file is what is said of the file
pub reported_as : (M : Model) (file : List ℕ) (budget : ℕ) (l : Loaded M.Tester) (r : Report) → l ≡ as_loaded M (load_of M file)
    → r ≡ report_with M.shaped M.history M.needs l budget → r ≡ report_of M file budget
unfolding report_of
reported_as M file budget l r e f = rw e at f
