-- The host call means what Meaning says, for both models by one proof.
use Rattle.std.specs.Prelude.{ℕ, zero, suc, ◌-◌, ◌*◌, ◌/◌, ◌%◌, ◌+◌, ◌^◌, ◌<◌, ◌≡◌, ◌≢◌, ◌↔◌, Bool, true, false, List, eqb, length}
use Rattle.std.proofs.Math.Path.{refl, sym, ap}
use Rattle.std.proofs.Common.{◌∙◌, subst, inl, inr, ⊎_elim, div-add-mod', div-lt_iff_lt-mul, pow-suc, zero-lt-suc, arith, lt-ltb, le-ltb, eq-eqb, ne_eqb, eqb-true}
use Rattle.std.proofs.lemmas.Bool.{eqb-false}
use Rattle.std.proofs.Math.ListN.{drop, replicate}
use Rattle.values.specs.Sizes.{capacity}
use Rattle.recording_meaning.specs.Models.{Model}
use Rattle.recording_meaning.specs.Lawful.{Lawful, sequential_lawful, linearizability_lawful}
use Rattle.judging.specs.declared.answer.Answer.{Answer}
use Rattle.judging.specs.declared.answer.Verdict.{Verdict}
use Rattle.judging.specs.declared.answer.Verdict.TheVariants.{Order, NoOrder, Undecided, Invalid}
use Rattle.judging.specs.Answers.{number_of}
use Rattle.corpus.specs.Load.{load_of}
use Rattle.corpus.proofs.Files.{place_zero}
use Rattle.host.specs.declared.report.Report.{Report}
use Rattle.host.specs.Call.{
  refused_verdict,
  refused_report,
  judged_report,
  report_of,
  little,
  answer_size,
  model_of,
  call_number,
  call_answer,
}
use Rattle.host.specs.Ordered.{Ordered, ordered, no_length, unused}
use Rattle.host.specs.Loads.{Breaking, sound_loaded, broken_loaded}
use Rattle.host.specs.CallMeaning.{judged_of, Says, Calls, sum}

-- the verdict of a number
abbrev verdict_of : ℕ → Verdict
verdict_of zero = Order
verdict_of (suc zero) = NoOrder
verdict_of (suc (suc zero)) = Undecided
verdict_of (suc (suc (suc n))) = Invalid

back : (v : Verdict) → verdict_of (number_of v) ≡ v
unfolding number_of
back Order = refl
back NoOrder = refl
back Undecided = refl
back Invalid = refl

below_three : (v : Verdict) → v ≢ Invalid → number_of v < 3
unfolding number_of
below_three Order d = omega arith
below_three NoOrder d = omega arith
below_three Undecided d = omega arith
below_three Invalid d = absurd (d refl)

breaking_verdict : (n : ℕ) → Breaking n → refused_verdict n ≡ 3
unfolding refused_verdict
breaking_verdict n (inl e) = rw e refl
breaking_verdict n (inr e) = rw e refl

other_verdict : (n : ℕ) → (Breaking n → ⊥) → refused_verdict n ≡ 4
unfolding refused_verdict
other_verdict n d = rw (ne_eqb n 4 (λ e. d (inl e)), ne_eqb n 5 (λ e. d (inr e))) refl

-- a number is 0, 4 or 5, or any other
by_number : {P : Type 0} (n : ℕ) → (n ≡ 0 → P) → (Breaking n → P) → (n ≢ 0 → (Breaking n → ⊥) → P) → P
by_number {P} n none broken other = go (eqb n 0) (eqb n 4) (eqb n 5) refl refl refl
  where
    go : (x y z : Bool) → eqb n 0 ≡ x → eqb n 4 ≡ y → eqb n 5 ≡ z → P
    go true y z e f g = none (eqb-true n 0 e)
    go false true z e f g = broken (inl (eqb-true n 4 f))
    go false false true e f g = broken (inr (eqb-true n 5 g))
    go false false false e f g = other (eqb-false n 0 e) (⊎_elim (eqb-false n 4 f) (eqb-false n 5 g))

breaking_refused : (n : ℕ) → Breaking n → n ≢ 0
breaking_refused n (inl e) z = omega arith
breaking_refused n (inr e) z = omega arith

-- what is reported, by what loading comes to
module _ (M : Model) (file : List ℕ) (budget : ℕ) where
  pub is_judged : (load_of M file).number ≡ 0 → report_of M file budget ≡ judged_report (judged_of M file budget)
  unfolding report_of
  is_judged z = rw (eq-eqb (load_of M file).number 0 z) refl

  pub is_refused : (load_of M file).number ≢ 0 → report_of M file budget ≡ refused_report (load_of M file).number (load_of M file).place
  unfolding report_of
  is_refused d = rw (ne_eqb (load_of M file).number 0 d) refl

module _ (M : Model) (L : Lawful M) (file : List ℕ) (budget : ℕ) where
  abbrev number : ℕ
  number = (load_of M file).number

  abbrev place : ℕ
  place = (load_of M file).place

  abbrev answer : Answer
  answer = judged_of M file budget

  abbrev report : Report
  report = report_of M file budget

  -- the verdict in each case

  judged_verdict : number ≡ 0 → report.verdict ≡ number_of answer.verdict
  unfolding judged_report
  judged_verdict z = ap (λ (r : Report). r.verdict) (is_judged M file budget z)

  judged_low : number ≡ 0 → report.verdict < 3
  judged_low z = rw (judged_verdict z) (below_three answer.verdict (sound_loaded M L file budget z))

  broken_verdict : Breaking number → report.verdict ≡ 3
  unfolding refused_report
  broken_verdict h = ap (λ (r : Report). r.verdict) (is_refused M file budget (breaking_refused number h)) ∙ breaking_verdict number h

  refused_verdict_lem : number ≢ 0 → (Breaking number → ⊥) → report.verdict ≡ 4
  unfolding refused_report
  refused_verdict_lem d h = ap (λ (r : Report). r.verdict) (is_refused M file budget d) ∙ other_verdict number h

  judged_exactly : (v : Verdict) → v ≢ Invalid → (report.verdict ≡ number_of v) ↔ ((number ≡ 0) × (answer.verdict ≡ v))
  judged_exactly v d =
      let low = below_three v d in (
        λ e. by_number number (λ z. (z, sym (back answer.verdict) ∙ ap verdict_of (sym (judged_verdict z) ∙ e) ∙ back v))
            (λ h. absurd (omega (arith, broken_verdict h))) (λ n h. absurd (omega (arith, refused_verdict_lem n h))),
        λ p. judged_verdict p.0 ∙ ap number_of p.1,
      )

  invalid_when : (report.verdict ≡ 3) ↔ Breaking number
  invalid_when = (
    λ e. by_number number (λ z. absurd (omega (arith, judged_low z))) (λ h. h) (λ n h. absurd (omega (arith, refused_verdict_lem n h))),
    broken_verdict,
  )

  refused_when : (report.verdict ≡ 4) ↔ ((number ≢ 0) × (Breaking number → ⊥))
  refused_when = (
    λ e. by_number number (λ z. absurd (omega (arith, judged_low z))) (λ h. absurd (omega (arith, broken_verdict h))) (λ n h. (n, h)),
    λ p. refused_verdict_lem p.0 p.1,
  )

  -- a field, whether the file is judged or refused
  by_report : (P : Report → Type 0) → (number ≡ 0 → P (judged_report answer)) → (number ≢ 0 → P (refused_report number place))
      → P report
  by_report P f g = by_number number (λ z. subst P (sym (is_judged M file budget z)) (f z)) (λ h. refuse (breaking_refused number h)) (λ n h. refuse n)
    where
      refuse : number ≢ 0 → P report
      refuse d = subst P (sym (is_refused M file budget d)) (g d)

  found : Ordered M (load_of M file).tester answer
  found = ordered M (load_of M file).tester budget

  -- The theorem, of a file.
  pub says : Says M file budget report
  unfolding number_of judged_report refused_report
  says = record {
    order_exactly = judged_exactly Order (λ e. omega (arith, ap number_of e));
    no_order_exactly = judged_exactly NoOrder (λ e. omega (arith, ap number_of e));
    undecided_exactly = judged_exactly Undecided (λ e. omega (arith, ap number_of e));
    invalid_exactly = invalid_when;
    invalid_judged = λ e. broken_loaded M L file budget (invalid_when.0 e);
    refused_exactly = refused_when;
    number_is = by_report (λ (r : Report). r.number ≡ number) (λ z. sym z) (λ d. refl);
    place_is = by_report (λ (r : Report). r.place ≡ place) (λ z. sym (place_zero M file z)) (λ d. refl);
    attempts_is = λ z. ap (λ (r : Report). r.attempts) (is_judged M file budget z);
    length_is = λ z. ap (λ (r : Report). r.length) (is_judged M file budget z);
    threads_is = λ z. ap (λ (r : Report). r.threads) (is_judged M file budget z);
    refused_attempts = λ d. ap (λ (r : Report). r.attempts) (is_refused M file budget d);
    no_length = by_report (λ (r : Report). r.verdict ≢ 0 → r.length ≡ 0) (λ z d. no_length M (load_of M file).tester found (λ e. d (ap number_of e))) (λ d e. refl);
    unused_is = by_report (λ (r : Report). drop r.length r.threads ≡ replicate (capacity - r.length) 255) (λ z. unused M (load_of M file).tester found) (λ d. refl);
  }

pub lawful_of : (model : ℕ) → Lawful (model_of model)
lawful_of zero = sequential_lawful
lawful_of (suc n) = linearizability_lawful

-- The theorem, of the call.
pub calls : (file : List ℕ) (model budget : ℕ) (answer : List ℕ) → Calls file model budget answer
unfolding call_number call_answer
calls file model budget answer = record {
  short = λ h. rw (lt-ltb (length answer) answer_size h) refl;
  stranger = λ h k. rw (le-ltb (length answer) answer_size h, lt-ltb 1 model k) refl;
  done = λ h k. rw (le-ltb (length answer) answer_size h, le-ltb 1 model k) refl;
  untouched = λ d. rw (ne_eqb (call_number model answer) 0 d) refl;
  answered = λ z. rw (eq-eqb (call_number model answer) 0 z) refl;
  said = says (model_of model) (lawful_of model) file budget;
}

-- The little-endian bytes of a number say it.
pub little_sum : (many n : ℕ) → n < 256 ^ many → sum (little many n) ≡ n
little_sum zero n h = omega arith
little_sum (suc many) n h =
    let k : n / 256 < 256 ^ many = (div-lt_iff_lt-mul (zero-lt-suc 255)).1 (subst (λ (x : ℕ). n < x) (pow-suc 256 many) h) in
    ap (λ (x : ℕ). x * 256 + n % 256) (little_sum many (n / 256) k) ∙ div-add-mod' n 256
