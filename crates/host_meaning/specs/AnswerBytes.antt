-- What each byte of an answer says, by its offset in the buffer as it is after the call: document 01's section on the host call, line by line.
use Rattle.std.specs.Prelude.{ℕ, ◌+◌, ◌/◌, ◌%◌, ◌^◌, ◌<◌, ◌≤◌, ◌≡◌, ◌≢◌, ◌↔◌, List, length, get_or, take, drop}
use Rattle.values.specs.Sizes.{capacity}
use Rattle.judging.specs.declared.answer.Answer.{Answer}
use Rattle.judging.specs.declared.answer.Verdict.TheVariants.{Order, NoOrder, Undecided}
use Rattle.judging.specs.Answers.{nobody_there}
use Rattle.corpus.specs.Load.{Load, load_of}
use Rattle.host.specs.Call.{model_of, call_answer}
use Rattle.host.specs.Loads.{Breaking}
use Rattle.host.specs.CallMeaning.{judged_of, sum}

module _ (file : List ℕ) (model budget : ℕ) (answer : List ℕ) where
  -- What loading the file comes to, and what the judge answers of the tester that is loaded.

  abbrev pub loaded : Load (model_of model)
  loaded = load_of (model_of model) file

  abbrev pub judged : Answer
  judged = judged_of (model_of model) file budget

  -- The buffer after the call, and its byte at an offset.

  abbrev pub buffer : List ℕ
  buffer = call_answer file model budget answer

  abbrev pub byte : ℕ → ℕ
  byte i = get_or buffer i 0

  pub record AnswerBytes : Type 0 where
    -- "On 0 the first 79 bytes become": the buffer is as long as it was.
    pub as_long : length buffer ≡ length answer
    -- At 0 the "verdict (0 Order, 1 No order, 2 Undecided, 3 Invalid, 4 file refused)"; "loading refusals 4 and 5 give verdict 3, others 4".
    pub order_at : (byte 0 ≡ 0) ↔ ((loaded.number ≡ 0) × (judged.verdict ≡ Order))
    pub no_order_at : (byte 0 ≡ 1) ↔ ((loaded.number ≡ 0) × (judged.verdict ≡ NoOrder))
    pub undecided_at : (byte 0 ≡ 2) ↔ ((loaded.number ≡ 0) × (judged.verdict ≡ Undecided))
    pub invalid_at : (byte 0 ≡ 3) ↔ Breaking loaded.number
    pub refused_at : (byte 0 ≡ 4) ↔ ((loaded.number ≢ 0) × (Breaking loaded.number → ⊥))
    -- At 1 the "refusal number or 0".
    pub number_at : byte 1 ≡ loaded.number
    -- At 2 the "order length".
    pub length_at : loaded.number ≡ 0 → byte 2 ≡ judged.length
    -- From 3 on the "attempts, 8 bytes little-endian": byte 3 + i has the i-th digit to the base 256, and the eight together say the number.
    pub attempts_at : loaded.number ≡ 0 → (i : ℕ) → i < 8 → byte (3 + i) ≡ judged.attempts / 256 ^ i % 256
    pub attempts_said : loaded.number ≡ 0 → budget < 256 ^ 8 → sum (take 8 (drop 3 buffer)) ≡ judged.attempts
    -- From 11 on the "place, 4 bytes little-endian".
    pub place_at : (i : ℕ) → i < 4 → byte (11 + i) ≡ loaded.place / 256 ^ i % 256
    pub place_said : sum (take 4 (drop 11 buffer)) ≡ loaded.place
    -- From 15 on "64 thread numbers, 255 where unused": those of the order, place by place, and 255 behind it.
    pub thread_at : loaded.number ≡ 0 → (i : ℕ) → i < judged.length → byte (15 + i) ≡ (get_or judged.order i nobody_there).thread
    pub unused_at : (i : ℕ) → byte 2 ≤ i → i < capacity → byte (15 + i) ≡ 255
    -- After a refusal "length and attempts are 0".
    pub refused_length : loaded.number ≢ 0 → byte 2 ≡ 0
    pub refused_attempts : loaded.number ≢ 0 → (i : ℕ) → i < 8 → byte (3 + i) ≡ 0
    -- "Without refusal the place is 0."
    pub no_place : byte 1 ≡ 0 → (i : ℕ) → i < 4 → byte (11 + i) ≡ 0
    -- "Without an Order the length is 0 and every thread number 255."
    pub no_length : byte 0 ≢ 0 → byte 2 ≡ 0
    pub no_threads : byte 0 ≢ 0 → (i : ℕ) → i < capacity → byte (15 + i) ≡ 255
    -- "Bytes from 79 on keep their contents."
    pub kept : (i : ℕ) → 15 + capacity ≤ i → byte i ≡ get_or answer i 0
