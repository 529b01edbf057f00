-- Verdicts on files only move one way.
use Rattle.std.specs.Prelude.{ℕ, ◌+◌, ◌≤◌, ◌≡◌, refl, ◌≢◌, ◌⊎◌, Bool, true, false, List, [], ◌∷◌, ◌++◌, eqb, length, drop}
use Rattle.std.proofs.Common.{sym, ap, ◌∙◌, subst, inl, inr, ⊎_elim, append_assoc, arith, eqb-true}
use Rattle.std.proofs.lemmas.List.{drop-append-le}
use Rattle.history.specs.Events.{Events}
use Rattle.families.specs.Families.{families}
use Rattle.values.specs.Value.{pick}
use Rattle.families.specs.declared.Object.{Object}
use Rattle.stepping.specs.EventSteps.{number_of as recorded_number}
use Rattle.recording_meaning.specs.Models.{Model, sequential_model, linearizability_model}
use Rattle.recording_meaning.specs.Inputs.{Inputs, as_inputs, drawn}
use Rattle.recording_meaning.specs.InputLaws.{as_both}
use Rattle.recording_meaning.proofs.TestersAlike.{testers_alike}
use Rattle.judging.specs.declared.answer.Verdict.{Verdict}
use Rattle.judging.specs.declared.answer.Verdict.TheVariants.{Order, NoOrder, Undecided, Invalid}
use Rattle.judging_meaning.specs.VerdictsOneWay.{verdict_fed}
use Rattle.judging_meaning.proofs.VerdictsOneWay.{larger_budget, refused_stays_refused, linearizable_then_sequential}
use Rattle.numbers.specs.Reader.{Read, got, refused}
use Rattle.format.specs.Format.{header}
use Rattle.format.specs.Spelling.{Spells, spells_more}
use Rattle.corpus.specs.Load.{Load, record_event, record_events, load_of}
use Rattle.format.specs.Taking.{first_in}
use Rattle.format.specs.Lengths.{header_field, header_short}
use Rattle.corpus.specs.Loaded.{AllRecorded, Outcome, ended, unread, unrecorded}
use Rattle.corpus.proofs.Loaded.{loaded, not_loaded}
use Rattle.corpus.specs.Files.{Whole}
use Rattle.corpus.proofs.Files.{number_zero}
use Rattle.host.specs.Call.{judged_report, refused_report, bytes_of, report_of, answer_size, model_of, call_number, call_answer}
use Rattle.host.specs.Loads.{Breaking, file_refusal}
use Rattle.host.specs.CallMeaning.{judged_of, Says}
use Rattle.host.proofs.CallMeant.{calls}
use Rattle.host_meaning.specs.Telling.{verdict_byte}
use Rattle.host_meaning.proofs.Told.{byte_is, verdict_is}
use Rattle.host_meaning.specs.FurtherBytes.{header_stays, spells_further}
use Rattle.host_meaning.specs.FilesOneWay.{Red}

-- a report under a larger budget is the same, unless it was Undecided
larger_report : (M : Model) (file : List ℕ) (b c : ℕ) → Says M file b (report_of M file b) → b ≤ c → (report_of M file b).verdict ≢ 2
    → report_of M file c ≡ report_of M file b
unfolding report_of
larger_report M file b c s h d = go (eqb (load_of M file).number 0) refl
  where
    go : (z : Bool) → eqb (load_of M file).number 0 ≡ z
        → pick z (judged_report (judged_of M file c)) (refused_report (load_of M file).number (load_of M file).place)
        ≡ pick z (judged_report (judged_of M file b)) (refused_report (load_of M file).number (load_of M file).place)
    go false e = refl
    go true e =
        ap judged_report (larger_budget M (load_of M file).tester b c h
        (λ u. d (s.undecided_exactly.1 (eqb-true (load_of M file).number 0 e, u))))

-- A larger budget changes nothing but an Undecided: no byte of any other answer.
pub larger_budget_keeps : (file : List ℕ) (model b c : ℕ) (answer : List ℕ) → b ≤ c → verdict_byte file model b answer ≢ 2
    → call_answer file model c answer ≡ call_answer file model b answer
unfolding call_answer
larger_budget_keeps file model b c answer h d = go (eqb (call_number model answer) 0) refl
  where
    go : (z : Bool) → eqb (call_number model answer) 0 ≡ z
        → pick z (bytes_of (report_of (model_of model) file c) ++ drop answer_size answer) answer
        ≡ pick z (bytes_of (report_of (model_of model) file b) ++ drop answer_size answer) answer
    go false e = refl
    go true e =
        let w = calls file model b answer in
        let z = eqb-true (call_number model answer) 0 e in
        ap (λ r. bytes_of r ++ drop answer_size answer)
        (larger_report (model_of model) file b c w.said h (λ u. d (byte_is file model b answer z ∙ u)))

-- what draws 0 in one model draws 0 in the other
module _ (M N : Model) where
  recorded_alike : (l : Events families) (s : M.Tester) (t : N.Tester) → drawn N t (as_inputs l) ≡ drawn M s (as_inputs l) → AllRecorded M s l
      → AllRecorded N t l
  recorded_alike [] s t e a = tt
  recorded_alike (v ∷ l) s t e a =
      let first : (record_event N t v).0 ≡ (record_event M s v).0 = cc in
      let rest : drawn N (record_event N t v).1 (as_inputs l) ≡ drawn M (record_event M s v).1 (as_inputs l) = cc in
      (ap recorded_number first ∙ a.0, recorded_alike l (record_event M s v).1 (record_event N t v).1 rest a.1)

-- a capture that is whole for the one tester is whole for the other
whole_alike : (file : List ℕ) → Whole linearizability_model file → Whole sequential_model file
whole_alike file c = record {
  start = c.start;
  first = c.first;
  events = c.events;
  head = c.head;
  spelled = c.spelled;
  recorded = recorded_alike linearizability_model sequential_model c.events (linearizability_model.new c.start) (sequential_model.new c.start)
      (testers_alike c.start (as_inputs c.events)).same_numbers c.recorded;
}

-- A file that is green for linearizability, under any budget b, is green or Undecided for sequential consistency, under any budget c.
pub green_for_both : (file : List ℕ) (b c : ℕ) (answer other : List ℕ) → answer_size ≤ length answer → answer_size ≤ length other
    → verdict_byte file 1 b answer ≡ 0 → (verdict_byte file 0 c other ≡ 0) ⊎ (verdict_byte file 0 c other ≡ 2)
unfolding whole_alike
green_for_both file b c answer other h k e =
    let w = calls file 1 b answer in
    let x = calls file 0 c other in
    let p = w.said.order_exactly.0 (sym (byte_is file 1 b answer (w.done h (omega arith))) ∙ e) in
    let l = (number_zero linearizability_model file).0 p.0 in
    let s = whole_alike file l in
    let byte = byte_is file 0 c other (x.done k (omega arith)) in
    let not-red = linearizable_then_sequential l.start (as_inputs l.events) b c (sym (verdict_is linearizability_model file b l) ∙ p.1) in
    let loads = (number_zero sequential_model file).1 s in
    let is = verdict_is sequential_model file c s in
    by_verdict _ refl not-red.0 not-red.1 (λ o. byte ∙ x.said.order_exactly.1 (loads, is ∙ o)) (λ u. byte ∙ x.said.undecided_exactly.1 (loads, is ∙ u))
  where
    by_verdict : {P Q : Type 0} {u : Verdict} (v : Verdict) → u ≡ v → u ≢ NoOrder → u ≢ Invalid → (u ≡ Order → P) → (u ≡ Undecided → Q) → P ⊎ Q
    by_verdict Order e n i p q = inl (p e)
    by_verdict NoOrder e n i p q = absurd (n e)
    by_verdict Undecided e n i p q = inr (q e)
    by_verdict Invalid e n i p q = absurd (i e)

-- all events of a list are recorded, and so are those behind its first ones
module _ (M : Model) where
  later_recorded : (l rest : Events families) (t : M.Tester) → AllRecorded M t (l ++ rest) → AllRecorded M (record_events M t l) rest
  later_recorded [] rest t a = a
  later_recorded (v ∷ l) rest t a = later_recorded l rest (record_event M t v).1 a.1

  module _ (file more : List ℕ) (on : Whole M (file ++ more)) where
    same_header : (o : Object) (n : ℕ) → header file ≡ got o n → (o ≡ on.start) × (n ≡ on.first)
    same_header o n e =
        let g : got o n ≡ got on.start on.first
        = sym (header_stays file more o n e (header_short (file ++ more) on.start on.first on.head)) ∙ on.head in
        (cc, cc)

    -- where the file begins with events, the file that goes on has these first
    events_further : (o : Object) (n : ℕ) → header file ≡ got o n → (l : Events families) (m : ℕ) → Spells o.kind (drop n file) l m
        → (rest : Events families) × (on.events ≡ l ++ rest)
    events_further o n e l m sp =
        let q = same_header o n e in
        let d : drop on.first (file ++ more) ≡ drop n file ++ more
        = ap (λ (i : ℕ). drop i (file ++ more)) (sym q.1) ∙ drop-append-le n file more (first_in header 6 header_field file o n e).1 in
        spells_further o.kind l (drop n file) more m sp on.events (length (drop n file ++ more)) (rw q.0 (subst (λ (t : List ℕ). Spells on.start.kind t on.events (length t)) d on.spelled)) refl

    broken_stays : Breaking (load_of M file).number → ⊥
    broken_stays b = by_header (header file) refl
      where
        by_outcome : (o : Object) (n : ℕ) → header file ≡ got o n → Outcome M o.kind (drop n file) n (M.new o) (load_of M file) → ⊥
        by_outcome o n e (ended l m sp all q r) =
            ⊎_elim (λ f. omega (arith, ap (λ (x : Load M). x.number) r)) (λ f. omega (arith, ap (λ (x : Load M). x.number) r)) b
        by_outcome o n e (unread l m sp all i why q r) = file_refusal why (subst Breaking (ap (λ (x : Load M). x.number) r) b)
        by_outcome o n e (unrecorded l m sp all i v used q d r) =
            let f = events_further o n e (l ++ (v ∷ [])) (m + used) (spells_more o.kind l (drop n file) m v used sp q) in
            let g : on.events ≡ l ++ (v ∷ f.0) = f.1 ∙ append_assoc l (v ∷ []) f.0 in
            let a : AllRecorded M (M.new on.start) (l ++ (v ∷ f.0))
            = subst (λ (k : Events families). AllRecorded M (M.new on.start) k) g on.recorded in
            d (subst (λ (x : Object). recorded_number (record_event M (record_events M (M.new x) l) v).0 ≡ 0) (sym (same_header o n e).0)
            (later_recorded l (v ∷ f.0) (M.new on.start) a).0)

        by_header : (x : Read Object) → header file ≡ x → ⊥
        by_header (got o n) e = by_outcome o n e (loaded M file o n e)
        by_header (refused why) e = file_refusal why (subst Breaking (ap (λ (x : Load M). x.number) (not_loaded M file why e)) b)

-- no order before, no order after
no_order_stays : (file more : List ℕ) (b c : ℕ) (was : Whole linearizability_model file) (on : Whole linearizability_model (file ++ more))
    → (judged_of linearizability_model file b).verdict ≡ NoOrder → verdict_fed linearizability_model on.start (as_inputs on.events) c ≢ Order
no_order_stays file more b c was on e order =
    let M = linearizability_model in
    let f = events_further M file more on was.start was.first was.head was.events (length (drop was.first file)) was.spelled in
    let same = (same_header M file more on was.start was.first was.head).0 in
    let inputs : as_inputs on.events ≡ as_inputs was.events ++ as_inputs f.0 = ap as_inputs f.1 ∙ as_both was.events f.0 in
    refused_stays_refused was.start (as_inputs was.events) (as_inputs f.0) b c (inl (sym (verdict_is M file b was) ∙ e))
    (ap (λ (o : Object). verdict_fed M o (as_inputs was.events ++ as_inputs f.0) c) same
    ∙ ap (λ (l : Inputs). verdict_fed M on.start l c) (sym inputs)
    ∙ order)

-- A file that is once red for linearizability, under any budget b, is never green however it goes on, under any budget c.
pub red_stays_red : (file more : List ℕ) (b c : ℕ) (answer other : List ℕ) → answer_size ≤ length answer → answer_size ≤ length other
    → Red (verdict_byte file 1 b answer) → verdict_byte (file ++ more) 1 c other ≢ 0
red_stays_red file more b c answer other h k red green =
    let w = calls file 1 b answer in
    let x = calls (file ++ more) 1 c other in
    let p = x.said.order_exactly.0 (sym (byte_is (file ++ more) 1 c other (x.done k (omega arith))) ∙ green) in
    let byte = byte_is file 1 b answer (w.done h (omega arith)) in
    let on = (number_zero linearizability_model (file ++ more)).0 p.0 in
    let ordered = sym (verdict_is linearizability_model (file ++ more) c on) ∙ p.1 in
    ⊎_elim (λ e. let q = w.said.no_order_exactly.0 (sym byte ∙ e) in no_order_stays file more b c ((number_zero linearizability_model file).0 q.0) on q.1 ordered)
    (λ e. broken_stays linearizability_model file more on (w.said.invalid_exactly.0 (sym byte ∙ e))) red
