-- What the number that loading gives says of the tester that is loaded.
use Rattle.std.specs.Prelude.{ℕ, ◌≡◌, refl, ◌≢◌, ◌⊎◌, Bool, true, false, ◌&&◌, not, List, [], ◌∷◌, drop, Result, Ok, Err}
use Rattle.std.proofs.Common.{ap, ◌∙◌, subst, ⊎_elim, arith}
use Rattle.history.specs.Lists.{not_both}
use Rattle.history.specs.Events.{Events}
use Rattle.families.specs.Families.{families}
use Rattle.families.specs.declared.Object.{Object}
use Rattle.stepping.specs.Drawn.{zero_taken, breaks_number}
use Rattle.stepping.specs.EventSteps.{number_of as recorded_number}
use Rattle.recording_meaning.specs.Models.{Model}
use Rattle.recording_meaning.specs.Lawful.{Lawful}
use Rattle.recording_meaning.specs.EventTurns.{good_shaped}
use Rattle.recording_meaning.specs.Reaching.{good_new}
use Rattle.recording_meaning.specs.Inputs.{as_input, as_inputs, broke, broken, drawn}
use Rattle.recording_meaning.proofs.TesterFeeding.{step_of, good_feed, invalid_exactly}
use Rattle.judging.specs.declared.answer.Verdict.TheVariants.{Invalid}
use Rattle.judging.specs.Answers.{judge_of}
use Rattle.numbers.specs.declared.refusal.Refusal.{Refusal}
use Rattle.numbers.specs.declared.refusal.Refusal.TheVariants.{TooLong, Unopened, Cut, TooBig, Unknown, StartTooDeep}
use Rattle.numbers.specs.FileRefusals.{number_of}
use Rattle.numbers.specs.Reader.{Read, got, refused}
use Rattle.format.specs.Format.{header}
use Rattle.corpus.specs.Load.{Load, record_event, record_events, load_of}
use Rattle.corpus.specs.Loaded.{AllRecorded, Outcome, ended, unread, unrecorded}
use Rattle.corpus.proofs.Loaded.{loaded, not_loaded}
use Rattle.corpus.proofs.Files.{number_zero, whole_loads}
use Rattle.host.specs.Ordered.{ordered, sound_verdict, invalid_verdict}
use Rattle.stepping.specs.declared.recorded.Reason.{Reason}

-- 4 or 5, by number
abbrev pub Breaking : ℕ → Type 0
Breaking n = (n ≡ 4) ⊎ (n ≡ 5)

-- no refusal of a file is
pub file_refusal : (why : Refusal) → Breaking (number_of why) → ⊥
unfolding number_of
file_refusal TooLong = ⊎_elim (λ e. omega arith) (λ e. omega arith)
file_refusal Unopened = ⊎_elim (λ e. omega arith) (λ e. omega arith)
file_refusal Cut = ⊎_elim (λ e. omega arith) (λ e. omega arith)
file_refusal TooBig = ⊎_elim (λ e. omega arith) (λ e. omega arith)
file_refusal Unknown = ⊎_elim (λ e. omega arith) (λ e. omega arith)
file_refusal StartTooDeep = ⊎_elim (λ e. omega arith) (λ e. omega arith)

-- and a refusal of recording breaks the history if it is one
recorded_breaks : (r : Result Unit Reason) → Breaking (recorded_number r) → broke r ≡ true
unfolding recorded_number
recorded_breaks (Ok tt) = ⊎_elim (λ e. absurd (omega arith)) (λ e. absurd (omega arith))
recorded_breaks (Err r) = (breaks_number r).0

zero_keeps : (r : Result Unit Reason) → recorded_number r ≡ 0 → broke r ≡ false
zero_keeps r e = ap broke (zero_taken r e)

off : (b : Bool) → b && false ≡ false
off true = refl
off false = refl

module _ (M : Model) where
  -- what draws 0 does not break
  pub unbroken : (l : Events families) (t : M.Tester) → AllRecorded M t l → broken (drawn M t (as_inputs l)) ≡ false
  unbroken [] t all = refl
  unbroken (v ∷ l) t all = rw (zero_keeps (record_event M t v).0 all.0) (unbroken l (record_event M t v).1 all.1)

  module _ (L : Lawful M) (file : List ℕ) (b : ℕ) where
    -- Without refusal the judge never says Invalid.
    pub sound_loaded : (load_of M file).number ≡ 0 → (judge_of M (load_of M file).tester b).verdict ≢ Invalid
    sound_loaded z =
        let w = (number_zero M file).0 z in
        let fresh = M.new w.start in
        let fed = record_events M fresh w.events in
        let e : (load_of M file).tester ≡ fed = ap (λ (x : Load M). x.tester) (whole_loads M file w) in
        let keeps = unbroken w.events fresh w.recorded in
        rw e
        (sound_verdict M fed (ordered M fed b) (good_shaped M L fed (good_feed M L (as_inputs w.events) fresh (good_new M L w.start)))
        (not_off (M.history fed).valid (λ f. not_both ((invalid_exactly M L w.start (as_inputs w.events)).0 f) keeps)))
      where
        not_off : (x : Bool) → (x ≡ false → ⊥) → x ≡ true
        not_off true f = refl
        not_off false f = absurd (f refl)

    -- After refusals 4 and 5 it says Invalid.
    pub broken_loaded : Breaking (load_of M file).number → (judge_of M (load_of M file).tester b).verdict ≡ Invalid
    broken_loaded h = by_header (header file) refl
      where
        at_file : (why : Refusal) → (load_of M file).number ≡ number_of why → (judge_of M (load_of M file).tester b).verdict ≡ Invalid
        at_file why e = absurd (file_refusal why (subst Breaking e h))

        by_outcome : (o : Object) (n : ℕ) → Outcome M o.kind (drop n file) n (M.new o) (load_of M file)
            → (judge_of M (load_of M file).tester b).verdict ≡ Invalid
        by_outcome o n (ended l m sp all q r) = absurd (⊎_elim (λ e. omega (arith, ap (λ (x : Load M). x.number) r)) (λ e. omega (arith, ap (λ (x : Load M). x.number) r)) h)
        by_outcome o n (unread l m sp all i why q r) = at_file why (ap (λ (x : Load M). x.number) r)
        by_outcome o n (unrecorded l m sp all i v used q d r) =
            let s = record_events M (M.new o) l in
            let t = record_event M s v in
            let k : broke t.0 ≡ true = recorded_breaks t.0 (subst Breaking (ap (λ (x : Load M). x.number) r) h) in
            let w : (M.history t.1).valid ≡ false =
            (step_of M L s (good_feed M L (as_inputs l) (M.new o) (good_new M L o)) (as_input v)).valid ∙ ap (λ (x : Bool). (M.history s).valid && not x) k ∙ off (M.history s).valid in
            let e : (load_of M file).tester ≡ t.1 = ap (λ (x : Load M). x.tester) r in
            rw e (invalid_verdict M t.1 (ordered M t.1 b) w)

        by_header : (x : Read Object) → header file ≡ x → (judge_of M (load_of M file).tester b).verdict ≡ Invalid
        by_header (got o n) e = by_outcome o n (loaded M file o n e)
        by_header (refused why) e = at_file why (ap (λ (x : Load M). x.number) (not_loaded M file why e))
