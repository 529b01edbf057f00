-- The host call of document 01: the number that it returns, and what it makes of the lent bytes.
use Rattle.std.specs.Prelude.{ℕ, Bool, zero, suc, ◌+◌, ◌/◌, ◌%◌, List, [], ◌∷◌, ◌++◌, map, ltb, eqb, length, drop, replicate}
use Rattle.values.specs.Sizes.{capacity}
use Rattle.values.specs.Value.{pick}
use Rattle.stepping.specs.declared.histories.History.{History}
use Rattle.recording_meaning.specs.Models.{Model, sequential_model, linearizability_model}
use Rattle.judging.specs.declared.answer.Answer.{Answer}
use Rattle.judging.specs.declared.answer.Placed.{Placed}
use Rattle.judging.specs.Answers.{number_of, nobody_there, judge_with}
use Rattle.corpus.specs.declared.load.Loaded.{Loaded}
use Rattle.corpus.specs.Load.{Load, load_of}
use Rattle.corpus.specs.LoadAnswers.{as_loaded}
use Rattle.host.specs.declared.report.Report.{Report}

-- what is reported

-- Loading refusals 4 and 5 give verdict 3, others 4.
unfoldable pub refused_verdict : ℕ → ℕ
refused_verdict number = pick (eqb number 4) 3 (pick (eqb number 5) 3 4)

-- A file that is refused: the number, and the place of the event; then length and attempts are 0.
unfoldable pub refused_report : ℕ → ℕ → Report
refused_report number place = record {
  verdict = refused_verdict number;
  number = number;
  length = 0;
  attempts = 0;
  place = place;
  threads = replicate capacity nobody_there.thread;
}

-- The threads of an order, and 255 where nobody stands.
unfoldable pub threads_of : List Placed → List ℕ
threads_of order = map (λ (p : Placed). p.thread) order

-- A file that is judged: what the judge answers; without refusal number and place are 0.
unfoldable pub judged_report : Answer → Report
judged_report a = record {
  verdict = number_of a.verdict;
  number = 0;
  length = a.length;
  attempts = a.attempts;
  place = 0;
  threads = threads_of a.order;
}

-- What loading comes to: judged if nothing is refused.
abbrev pub report_with : {T : Type 0} → (T → Bool) → (T → History) → (T → ℕ → List ℕ) → Loaded T → ℕ → Report
report_with shaped history needs l budget =
    pick (eqb l.number 0) (judged_report (judge_with shaped history needs l.tester budget)) (refused_report l.number l.place)

abbrev pub report_by : (M : Model) → Load M → ℕ → Report
report_by M l budget = report_with M.shaped M.history M.needs (as_loaded M l) budget

-- A file, by a model.
unfoldable pub report_of : Model → List ℕ → ℕ → Report
report_of M file budget = report_by M (load_of M file) budget

-- its bytes

-- The lowest bytes of n, so many of them, lowest first.
abbrev pub little : ℕ → ℕ → List ℕ
little zero n = []
little (suc many) n = n % 256 ∷ little many (n / 256)

-- Verdict; number; length; attempts, 8 bytes little-endian; place, 4 bytes little-endian.
unfoldable pub head_of : ℕ → ℕ → ℕ → ℕ → ℕ → List ℕ
head_of verdict number length attempts place = verdict ∷ number ∷ length ∷ little 8 attempts ++ little 4 place

-- That is so many bytes.
abbrev pub head_size : ℕ
head_size = 15

-- These, and then the 64 thread numbers.
unfoldable pub bytes_of : Report → List ℕ
bytes_of r = head_of r.verdict r.number r.length r.attempts r.place ++ r.threads

-- 79 bytes.
abbrev pub answer_size : ℕ
answer_size = head_size + capacity

-- the call

-- 0 sequential, 1 linearizable.
abbrev pub model_of : ℕ → Model
model_of zero = sequential_model
model_of (suc n) = linearizability_model

-- 10 for a buffer under 79 bytes precedes 11 for a model that is not 0 or 1.
unfoldable pub call_number : ℕ → List ℕ → ℕ
call_number model answer = pick (ltb (length answer) answer_size) 10 (pick (ltb 1 model) 11 0)

-- On 0 the first 79 bytes become those of the report, and the bytes from 79 on keep their contents; else nothing is written.
unfoldable pub call_answer : List ℕ → ℕ → ℕ → List ℕ → List ℕ
call_answer file model budget answer =
    pick (eqb (call_number model answer) 0) (bytes_of (report_of (model_of model) file budget) ++ drop answer_size answer) answer
