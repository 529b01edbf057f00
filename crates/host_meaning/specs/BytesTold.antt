-- Every answer's bytes are what AnswerBytes says, for both models by one proof.
use Rattle.std.specs.Prelude.{ℕ, zero, suc, ◌+◌, ◌-◌, ◌/◌, ◌%◌, ◌^◌, ◌<◌, ◌≤◌, ◌≡◌, ◌≢◌, Bool, ltb, pos, take, drop}
use Rattle.std.proofs.Math.Path.{refl, ap}
use Rattle.std.proofs.Common.{sym, ◌∙◌, div-one, ltb-true, ltb-false, eqb-true, length-take}
use Rattle.std.proofs.Math.Bool.{true, false}
use mathlib.Core.List.{List, [], ◌∷◌, ◌++◌}
use Rattle.std.proofs.Math.Nat.{div-div-eq-div-mul, pow-succ', zero-div}
use native.Mathlib.Omega.{arith}
use Rattle.std.proofs.lemmas.Bool.{eqb-false}
use Rattle.std.proofs.Math.Dec.{eqb}
use Rattle.std.proofs.Math.ListN.{length, get_or, length-append, length-drop, length-replicate, get_or-append}
use Rattle.std.proofs.lemmas.List.{length-map, get_or-replicate}
use Rattle.std.proofs.Math.Seq.{get_or-append-add, get_or-drop}
use Rattle.values.specs.Sizes.{capacity}
use Rattle.families.specs.Objects.{new_register}
use Rattle.families.specs.declared.Object.{Object}
use Rattle.recording_meaning.specs.Inputs.{as_inputs}
use Rattle.recording_meaning.specs.Models.{Model}
use Rattle.recording_meaning.specs.Lawful.{Lawful}
use Rattle.recording_meaning.specs.EventTurns.{Good}
use Rattle.recording_meaning.specs.Reaching.{good_new}
use Rattle.recording_meaning.proofs.TesterFeeding.{good_feed}
use Rattle.judging.specs.declared.answer.Placed.{Placed}
use Rattle.judging.specs.Answers.{nobody_there}
use Rattle.judging_meaning.specs.Judging.{item, Answered}
use Rattle.judging_meaning.proofs.Judged.{judges}
use Rattle.numbers.specs.Reader.{Read, got, refused}
use Rattle.format.specs.Format.{header}
use Rattle.format.specs.Lengths.{header_short}
use Rattle.corpus.specs.Load.{load_of}
use Rattle.corpus.proofs.Loaded.{not_loaded}
use Rattle.corpus.proofs.Files.{loaded_fed, place_in, place_zero}
use Rattle.host.specs.Call.{threads_of, report_of, little, head_of, bytes_of, answer_size, model_of, call_number}
use Rattle.host.specs.CallMeaning.{judged_of, Says, sum}
use Rattle.host.proofs.CallMeant.{says, calls, lawful_of, little_sum}
use Rattle.host_meaning.specs.AnswerBytes.{buffer, byte, AnswerBytes}

-- the digits of a number to the base 256
digit : (many n i : ℕ) → i < many → get_or (little many n) i 0 ≡ n / 256 ^ i % 256
digit zero n i h = absurd (omega arith)
digit (suc many) n zero h = ap (λ (x : ℕ). x % 256) (sym (div-one n))
digit (suc many) n (suc i) h =
    digit many (n / 256) i (omega arith)
    ∙ ap (λ (x : ℕ). x % 256) (div-div-eq-div-mul n 256 (256 ^ i) ∙ ap (λ (x : ℕ). n / x) (sym (pow-succ' 256 i)))

-- a place of a list of what the elements of another say
get_d_map : (l : List Placed) (i d : ℕ) (e : Placed) → i < length l → get_or (threads_of l) i d ≡ (get_or l i e).thread
unfolding threads_of
get_d_map [] i d e h = absurd (omega arith)
get_d_map (p ∷ l) zero d e h = refl
get_d_map (p ∷ l) (suc i) d e h = get_d_map l i d e (omega arith)

module _ (M : Model) (L : Lawful M) (file : List ℕ) where
  -- a loaded tester is in shape
  good_loaded : Good M L (load_of M file).tester
  good_loaded = go (header file) refl
    where
      go : (r : Read Object) → header file ≡ r → Good M L (load_of M file).tester
      go (got o n) e = let f = loaded_fed M file o n e in rw f.3 (good_feed M L (as_inputs f.0) (M.new o) (good_new M L o))
      go (refused why) e = rw (not_loaded M file why e) (good_new M L (new_register (pos 0)))

  -- a place is one of a file of at most 65,536 bytes
  place_small : (load_of M file).place < 256 ^ 4
  place_small = go (header file) refl (eqb (load_of M file).number 0) refl
    where
      go : (r : Read Object) → header file ≡ r → (z : Bool) → eqb (load_of M file).number 0 ≡ z → (load_of M file).place < 256 ^ 4
      go r e true z = rw (place_zero M file (eqb-true (load_of M file).number 0 z)) (omega arith)
      go (got o n) e false z = omega (arith, (place_in M file o n e (eqb-false (load_of M file).number 0 z)).1, header_short file o n e)
      go (refused why) e false z = rw (not_loaded M file why e) (omega arith)

  module _ (budget : ℕ) where
    answered : Answered M (load_of M file).tester budget (judged_of M file budget)
    answered = judges M L (load_of M file).tester budget

    -- an answer has 64 places, and its order fits in

    length_in : (judged_of M file budget).length ≤ capacity
    length_in = answered.length_fits (L.lengths (load_of M file).tester good_loaded.sized good_loaded.beside)

    order_long : length (judged_of M file budget).order ≡ capacity
    order_long =
        let a = judged_of M file budget in
        omega (
          arith,
          length_in,
          answered.length_is,
          length-map (take a.length a.order) item,
          length-take a.length a.order,
          ap length answered.nobody_behind,
          length-drop a.length a.order,
          length-replicate (capacity - a.length) nobody_there,
        )

    -- what the report says, which the bytes are laid from

    told : Says M file budget (report_of M file budget)
    told = says M L file budget

    refused_length : (load_of M file).number ≢ 0 → (report_of M file budget).length ≡ 0
    refused_length d = told.no_length (λ e. d (told.order_exactly.0 e).0)

    -- a report has 64 thread numbers
    threads_long : length (report_of M file budget).threads ≡ capacity
    unfolding threads_of
    threads_long = go (eqb (load_of M file).number 0) refl
      where
        go : (z : Bool) → eqb (load_of M file).number 0 ≡ z → length (report_of M file budget).threads ≡ capacity
        go true z =
            rw (told.threads_is (eqb-true (load_of M file).number 0 z)) (length-map (judged_of M file budget).order (λ (p : Placed). p.thread) ∙ order_long)
        go false z =
            let e = refused_length (eqb-false (load_of M file).number 0 z) in
            ap length (rw e at told.unused_is) ∙ length-replicate {A = ℕ} capacity 255

    -- 255 behind the order
    unused : (i : ℕ) → (report_of M file budget).length ≤ i → i < capacity → get_or (report_of M file budget).threads i 0 ≡ 255
    unused i h k =
        let n = (report_of M file budget).length in
        let e : n + (i - n) ≡ i = omega arith in
        ap (λ (j : ℕ). get_or (report_of M file budget).threads j 0) (sym e)
        ∙ sym (get_or-drop n (report_of M file budget).threads (i - n) 0)
        ∙ ap (λ (l : List ℕ). get_or l (i - n) 0) told.unused_is
        ∙ get_or-replicate (capacity - n) (i - n) 255 0 (omega arith)

module _ (file : List ℕ) (model budget : ℕ) (answer : List ℕ) (done : call_number model answer ≡ 0) where
  abbrev M : Model
  M = model_of model

  abbrev L : Lawful M
  L = lawful_of model

  abbrev w : Says M file budget (report_of M file budget)
  w = told M L file budget

  abbrev behind : List ℕ
  behind = drop answer_size answer

  laid : buffer file model budget answer ≡ bytes_of (report_of M file budget) ++ behind
  laid = (calls file model budget answer).answered done

  roomy : answer_size ≤ length answer
  roomy = go (ltb (length answer) answer_size) refl
    where
      go : (b : Bool) → ltb (length answer) answer_size ≡ b → answer_size ≤ length answer
      go true e = absurd (omega (arith, (calls file model budget answer).short (ltb-true (length answer) answer_size e)))
      go false e = ltb-false (length answer) answer_size e

  -- the bytes from an offset on
  from : (n i : ℕ) → byte file model budget answer (n + i) ≡ get_or (drop n (bytes_of (report_of M file budget) ++ behind)) i 0
  from n i = sym (get_or-drop n (buffer file model budget answer) i 0) ∙ ap (λ (l : List ℕ). get_or (drop n l) i 0) laid

  -- the fields of the report by their offsets

  verdict_byte : byte file model budget answer 0 ≡ (report_of M file budget).verdict
  unfolding bytes_of head_of
  verdict_byte = ap (λ (l : List ℕ). get_or l 0 0) laid

  number_byte : byte file model budget answer 1 ≡ (load_of M file).number
  unfolding bytes_of head_of
  number_byte = ap (λ (l : List ℕ). get_or l 1 0) laid ∙ w.number_is

  length_byte : byte file model budget answer 2 ≡ (report_of M file budget).length
  unfolding bytes_of head_of
  length_byte = ap (λ (l : List ℕ). get_or l 2 0) laid

  attempts_bytes : (i : ℕ) → i < 8 → byte file model budget answer (3 + i) ≡ (report_of M file budget).attempts / 256 ^ i % 256
  unfolding bytes_of head_of
  attempts_bytes i h =
      let r = report_of M file budget in
      from 3 i ∙ get_or-append (little 8 r.attempts) (little 4 r.place ++ r.threads ++ behind) 0 i h ∙ digit 8 r.attempts i h

  attempts_sum : (report_of M file budget).attempts < 256 ^ 8 → sum (take 8 (drop 3 (buffer file model budget answer))) ≡ (report_of M file budget).attempts
  unfolding bytes_of head_of
  attempts_sum h = ap (λ (l : List ℕ). sum (take 8 (drop 3 l))) laid ∙ little_sum 8 (report_of M file budget).attempts h

  place_bytes : (i : ℕ) → i < 4 → byte file model budget answer (11 + i) ≡ (load_of M file).place / 256 ^ i % 256
  unfolding bytes_of head_of
  place_bytes i h =
      let r = report_of M file budget in
      from 11 i
      ∙ get_or-append (little 4 r.place) (r.threads ++ behind) 0 i h
      ∙ digit 4 r.place i h
      ∙ ap (λ (x : ℕ). x / 256 ^ i % 256) w.place_is

  place_sum : sum (take 4 (drop 11 (buffer file model budget answer))) ≡ (load_of M file).place
  unfolding bytes_of head_of
  place_sum =
      ap (λ (l : List ℕ). sum (take 4 (drop 11 l))) laid
      ∙ little_sum 4 (report_of M file budget).place (rw w.place_is (place_small M L file))
      ∙ w.place_is

  thread_bytes : (i : ℕ) → i < capacity → byte file model budget answer (15 + i) ≡ get_or (report_of M file budget).threads i 0
  unfolding bytes_of head_of
  thread_bytes i h = from 15 i ∙ get_or-append (report_of M file budget).threads behind 0 i (rw (threads_long M L file budget) h)

  kept : (i : ℕ) → 15 + capacity ≤ i → byte file model budget answer i ≡ get_or answer i 0
  unfolding bytes_of head_of
  kept i h =
      let l = (report_of M file budget).threads in
      let j = i - (15 + capacity) in
      let e : 15 + (length l + j) ≡ i = omega (arith, threads_long M L file budget) in
      let k : answer_size + j ≡ i = omega arith in
      ap (byte file model budget answer) (sym e)
      ∙ from 15 (length l + j)
      ∙ get_or-append-add l behind j 0
      ∙ get_or-drop answer_size answer j 0
      ∙ ap (λ (n : ℕ). get_or answer n 0) k

  as_long : length (buffer file model budget answer) ≡ length answer
  unfolding bytes_of head_of
  as_long =
      ap length laid
      ∙ omega (arith, length-append (report_of M file budget).threads behind, threads_long M L file budget, length-drop answer_size answer, roomy)

  zero_digits : (n i : ℕ) → n ≡ 0 → n / 256 ^ i % 256 ≡ 0
  zero_digits n i e = ap (λ (x : ℕ). x / 256 ^ i % 256) e ∙ ap (λ (x : ℕ). x % 256) (zero-div (256 ^ i))

  -- The theorem: the bytes of every answer.
  pub answer_bytes : AnswerBytes file model budget answer
  answer_bytes = record {
    as_long = as_long;
    order_at = rw verdict_byte w.order_exactly;
    no_order_at = rw verdict_byte w.no_order_exactly;
    undecided_at = rw verdict_byte w.undecided_exactly;
    invalid_at = rw verdict_byte w.invalid_exactly;
    refused_at = rw verdict_byte w.refused_exactly;
    number_at = number_byte;
    length_at = λ z. length_byte ∙ w.length_is z;
    attempts_at = λ z i h. attempts_bytes i h ∙ ap (λ (x : ℕ). x / 256 ^ i % 256) (w.attempts_is z);
    attempts_said = λ z h.
        let e = w.attempts_is z in
        attempts_sum (omega (arith, e, (answered M L file budget).within_budget)) ∙ e;
    place_at = place_bytes;
    place_said = place_sum;
    thread_at = λ z i h.
        let k : i < capacity = omega (arith, length_in M L file budget) in
        thread_bytes i k ∙ ap (λ (l : List ℕ). get_or l i 0) (w.threads_is z) ∙ get_d_map (judged_of M file budget).order i 0 nobody_there (omega (arith, order_long M L file budget));
    unused_at = λ i h k. thread_bytes i k ∙ unused M L file budget i (omega (arith, length_byte)) k;
    refused_length = λ d. length_byte ∙ refused_length M L file budget d;
    refused_attempts = λ d i h. attempts_bytes i h ∙ zero_digits (report_of M file budget).attempts i (w.refused_attempts d);
    no_place = λ z i h. place_bytes i h ∙ zero_digits (load_of M file).place i (place_zero M file (sym number_byte ∙ z));
    no_length = λ d. length_byte ∙ none d;
    no_threads = λ d i h. thread_bytes i h ∙ unused M L file budget i (omega (arith, none d)) h;
    kept = kept;
  }
    where
      none : byte file model budget answer 0 ≢ 0 → (report_of M file budget).length ≡ 0
      none d = w.no_length (λ e. d (verdict_byte ∙ e))
