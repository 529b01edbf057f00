-- L2 read to the letter, where <_H is between operations that are both completed in H, is weaker than L2 as it is taken: a register may then answer what
-- is only written after the read was over, by a write that never returns.
use Rattle.std.specs.Prelude.{ℕ, zero, suc, ◌<◌, ◌≡◌, refl, Bool, true, false, cond, [], ◌∷◌, ◌++◌, eqb}
use Rattle.std.proofs.Common.{sym, ap, ◌∙◌, eq-eqb, ne_eqb, arith}
use Rattle.std.proofs.Math.Option.{none, some}
use Rattle.history.specs.Object.{Object, Lawful}
use Rattle.history.specs.Events.{Events, invoked, returned, invocations, returns, sub, Alternates, nothing, call, Precedes}
use Rattle.history.specs.Papers.{responds, complete, response, none_left, Sequential, rest, step, In, Explains, Linearizable}
use Rattle.history.specs.Rows.{Rows}
use Rattle.history.specs.Recorder.{notes, Fed, fed, invokes, gives_back}
use Rattle.history.proofs.Splits.{ret_append, counts_sub, at_precedes}
use Rattle.history.proofs.Theorem.{linearizable}
use Rattle.history.proofs.Verdict.{verdict}
use Rattle.history.specs.LiteralReading.{
  KeepsCompletedTime,
  LinearizableLiterally,
  Asked,
  write,
  read,
  write_ok,
  read_ok,
  right,
  answers,
  register,
  read_before_written,
}

module _ (O : Object) where
  -- an operation that has its response in H is in S

  sequential_returns : (u : ℕ) {s : O.State} {S : Events O} → Sequential O s S → returns O u S ≡ invocations O u S
  sequential_returns u rest = refl
  sequential_returns u (step h w) = let i = sequential_returns u w in omega arith

  complete_returns : (u : ℕ) (H : Events O) → returns O u (complete O H) ≡ returns O u H
  complete_returns u [] = refl
  complete_returns u (returned t r ∷ H) = let i = complete_returns u H in omega arith
  complete_returns u (invoked t o ∷ H) = go (responds O t H) (complete_returns u H)
    where
      go : (b : Bool) → returns O u (complete O H) ≡ returns O u H → returns O u (cond b (invoked t o ∷ complete O H) (complete O H)) ≡ returns O u (invoked t o ∷ H)
      go true i = omega arith
      go false i = omega arith

  completed_in : {s : O.State} {H S : Events O} → Explains O s H S → (u k : ℕ) → k < returns O u H → In O u k S
  completed_in {H = H} {S = S} x u k h =
      let a : returns O u x.H' ≡ returns O u (H ++ x.extension.responses) = ap (returns O u) x.extension.appended in
      let b = ret_append O u H x.extension.responses in
      let c = complete_returns u x.H' in
      let d : returns O u (complete O x.H') ≡ returns O u S
      = sym (counts_sub O u (complete O x.H')).1 ∙ ap (returns O u) (x.equivalent u) ∙ (counts_sub O u S).1 in
      let e = sequential_returns u x.legal in
      omega arith

  -- What is linearizable is so to the letter.
  pub linearizable_literally : {s : O.State} {H : Events O} → Linearizable O s H → LinearizableLiterally O s H
  linearizable_literally l = record {
    S = l.S;
    explains = l.explains;
    keeps_time = λ t j u k p h. l.keeps_time t j u k p (completed_in l.explains u k h);
  }

-- A register of numbers.

lawful : Lawful register
lawful = record { answers_ok = go }
  where
    go : (s : ℕ) (o : Asked) → right s o (answers s o) ≡ true
    go s (write v) = refl
    go s read = eq-eqb s s refl

-- to the letter the write, which is pending, may stand before the read

abbrev write_first : Events register
write_first = invoked 0 (write 5) ∷ returned 0 write_ok ∷ invoked 1 read ∷ returned 1 (read_ok 5) ∷ []

-- threads 0 and 1, and one that does nothing
by_thread : (P : ℕ → Type 0) → P 0 → P 1 → ((t : ℕ) → eqb 0 t ≡ false → eqb 1 t ≡ false → P t) → (t : ℕ) → P t
by_thread P zeroth first other zero = zeroth
by_thread P zeroth first other (suc zero) = first
by_thread P zeroth first other (suc (suc t)) = other (suc (suc t)) (ne_eqb 0 (suc (suc t)) (λ e. omega arith)) (ne_eqb 1 (suc (suc t)) (λ e. omega arith))

explained : Explains register 0 read_before_written write_first
explained = record {
  H' = read_before_written ++ (returned 0 write_ok ∷ []);
  extension = record {
    responses = returned 0 write_ok ∷ [];
    only = response none_left;
    appended = refl;
    formed = by_thread (λ t. Alternates register (sub register t (read_before_written ++ (returned 0 write_ok ∷ [])))) (call nothing) (call nothing)
        (λ t a b. rw (b, a) nothing);
  };
  equivalent = by_thread (λ t. sub register t (complete register (read_before_written ++ (returned 0 write_ok ∷ []))) ≡ sub register t write_first) refl refl
      (λ t a b. rw (b, a));
  legal = step refl (step refl rest);
}

in_letter : KeepsCompletedTime register read_before_written write_first
in_letter t j u k p h = absurd (by_thread Answered (λ g. omega arith) first (λ u a b g. let z : k < 0 = rw b at g in omega arith) u h p)
  where
    Answered : ℕ → Type 0
    Answered u = k < returns register u read_before_written → Precedes register read_before_written t j u k → ⊥

    first : Answered 1
    first h p = let z = at_precedes register (record { A = []; op = read; B = _; split = refl; number = omega arith }) p in omega arith

-- as L2 is taken the search of the rows finds no order

abbrev rows : Rows register
rows =
    (record { op = write 5; ret = none; needs = 0 ∷ 1 ∷ [] } ∷ [])
    ∷ (record { op = read; ret = some (read_ok 5); needs = 0 ∷ 0 ∷ [] } ∷ [])
    ∷ []

recorded : Fed register (notes register) 2 read_before_written rows
recorded =
    let zeroth : 0 < 2 = omega arith in
    let first : 1 < 2 = omega arith in
    record { from_fresh = invokes first refl (gives_back first refl (invokes zeroth refl fed)) }

-- The two readings differ.
pub literal_reading_differs : LinearizableLiterally register 0 read_before_written × (Linearizable register 0 read_before_written → ⊥)
literal_reading_differs = (
  record { S = write_first; explains = explained; keeps_time = in_letter },
  λ l. let o = (linearizable register lawful recorded 0).1 l in verdict register lawful rows 0 o.0 o.1,
)
