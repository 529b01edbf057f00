-- What an event does to a tester in shape: one account for both testers.
use Rattle.std.specs.Prelude.{ℕ, ◌<◌, ◌≤◌, ◌≡◌, refl, true, false, List, Result, Ok, Err, is_ok}
use Rattle.std.proofs.Common.{sym, ap, ◌∙◌, arith}
use Rattle.std.proofs.Math.Path.{subst}
use Rattle.std.proofs.Math.Option.{none}
use Rattle.history.specs.Lists.{not_both}
use Rattle.history.specs.Recorder.{extend, close, new as put}
use Rattle.values.specs.Sizes.{capacity}
use Rattle.families.specs.Families.{families}
use Rattle.families.specs.declared.Op.{Op}
use Rattle.families.specs.declared.Ret.{Ret}
use Rattle.stepping.specs.declared.recorded.Reason.{Reason}
use Rattle.stepping.specs.declared.recorded.Reason.TheVariants.{InFlight, NothingInFlight, Full}
use Rattle.stepping.specs.declared.step.Step.{Step}
use Rattle.stepping.specs.Record.{held, invalidated, extended, completed}
use Rattle.stepping.specs.EventSteps.{step, refuse}
use Rattle.recording_meaning.specs.Reading.{Sized, rows_of}
use Rattle.recording_meaning.specs.Held.{flies, Found, found_flies}
use Rattle.recording_meaning.specs.Parts.{Parts}
use Rattle.recording_meaning.specs.Rowing.{flying_row, rows_invalidated, rows_extended, rows_completed}
use Rattle.recording_meaning.specs.Cases.{
  Barred,
  Judged,
  out_of_shape,
  barred,
  passed,
  Invoked,
  busy,
  full,
  begun,
  Returning,
  idle,
  ended,
  invoke_goes,
  return_goes,
}
use Rattle.recording_meaning.specs.Models.{Model, tester_rows}
use Rattle.recording_meaning.specs.Numbers.{Busy, op_said, ret_said, Fine}
use Rattle.recording_meaning.specs.Lawful.{Lawful}
use Rattle.values.specs.declared.refusal.Refusal.{Refusal}

module _ (M : Model) where
  -- What an invocation answers and leaves.
  pub data InvokeTurn (s : M.Tester) (t : ℕ) (op : Op) : Result Unit Reason → M.Tester → Type 0 where
    invoke_refused : {r : Reason} → Barred (M.history s) t (op_said M s op) r → InvokeTurn s t op (Err r) s
    second : {next : M.Tester} → Fine M s t (op_said M s op) → Busy M s t ≡ true → M.history next ≡ invalidated (M.history s)
        → tester_rows M next ≡ tester_rows M s → InvokeTurn s t op (Err InFlight) next
    no_room : Fine M s t (op_said M s op) → Busy M s t ≡ false → capacity ≤ (M.history s).count → InvokeTurn s t op (Err Full) s
    invoke_taken : {next : M.Tester} → Fine M s t (op_said M s op) → Busy M s t ≡ false → (M.history s).count < capacity
        → M.history next ≡ extended (M.history s) t op
        → tester_rows M next ≡ extend families (tester_rows M s) t (put families M.keep (tester_rows M s) t op) → InvokeTurn s t op (Ok tt) next

  -- What a return answers and leaves.
  pub data ReturnTurn (s : M.Tester) (t : ℕ) (ret : Ret) : Result Unit Reason → M.Tester → Type 0 where
    return_refused : {r : Reason} → Barred (M.history s) t (ret_said M s ret) r → ReturnTurn s t ret (Err r) s
    stray : {next : M.Tester} → Fine M s t (ret_said M s ret) → Busy M s t ≡ false → M.history next ≡ invalidated (M.history s)
        → tester_rows M next ≡ tester_rows M s → ReturnTurn s t ret (Err NothingInFlight) next
    return_taken : {next : M.Tester} (i : ℕ) → Fine M s t (ret_said M s ret) → Busy M s t ≡ true → M.history next ≡ completed (M.history s) i t ret
        → tester_rows M next ≡ close families (tester_rows M s) t ret → ReturnTurn s t ret (Ok tt) next

-- an answer that is not 0
pub not_taken : {r : Result Unit Reason} {B : Type 0} → r ≡ Ok tt → is_ok r ≡ false → B
not_taken e f = let z : ◌≡◌ {A = ℕ} 0 1 = cc in absurd (omega arith)

module _ (M : Model) (L : Lawful M) where
  -- A tester in shape, by its parts.
  pub record Good (s : M.Tester) : Type 0 where
    pub sized : Sized (M.history s)
    pub parts : Parts (M.history s)
    pub beside : L.Beside s

  pub good_shaped : (s : M.Tester) → Good s → M.shaped s ≡ true
  good_shaped s g = L.in_shape s g.sized g.parts g.beside

  pub good_of : (s : M.Tester) → M.Lengths s → M.shaped s ≡ true → Good s
  good_of s z e = let w = L.shape_in s z e in record { sized = L.sized s z; parts = w.0; beside = w.1 }

  module _ (s : M.Tester) (g : Good s) (t : ℕ) where
    unbroken : {B : Type 0} → M.shaped s ≡ false → B
    unbroken e = not_both (good_shaped s g) e

    is_busy : {i : ℕ} {said : Result Unit Refusal} → Fine M s t said → Found t (held (M.history s)) i → Busy M s t ≡ true
    is_busy a w = flying_row (M.needs s) (M.history s) t a.known ∙ found_flies w

    is_idle : {said : Result Unit Refusal} → Fine M s t said → flies t (held (M.history s)) ≡ false → Busy M s t ≡ false
    is_idle a e = flying_row (M.needs s) (M.history s) t a.known ∙ e

    pub invoke_turn : (op : Op) → InvokeTurn M s t op (M.on_invoke s t op).0 (M.on_invoke s t op).1
    invoke_turn op =
        let w = invoke_goes (M.shaped s) (M.history s) t op in
        subst (λ (a : Result Unit Reason × M.Tester). InvokeTurn M s t op a.0 a.1) (sym (L.invokes s t op)) (judge w.judge w.invoke)
      where
        same : (r : Reason) → InvokeTurn M s t op (Err r) s → InvokeTurn M s t op (Err r) (L.after_invoke s t (refuse r (M.history s)))
        same r w = subst (InvokeTurn M s t op (Err r)) (sym (L.invoke_same s t (Err r) refl)) w

        run : {x : Step} → Fine M s t (op_said M s op) → Invoked (M.history s) t op x
            → InvokeTurn M s t op x.recorded (L.after_invoke s t x)
        run a (busy w) =
            let x : Step = step (Err InFlight) (invalidated (M.history s)) in
            second a (is_busy a w) (L.invoke_history s t x)
            (rw (L.invoke_refused s t x refl, L.invoke_history s t x) (rows_invalidated (M.needs s) (M.history s)))
        run a (full f l) = same Full (no_room a (is_idle a f) l)
        run a (begun f l) =
            let x : Step = step (Ok tt) (extended (M.history s) t op) in
            let n = L.invoke_noted s t op g.parts g.beside a.known l in
            invoke_taken a (is_idle a f) l (L.invoke_history s t x)
            (ap (rows_of (M.needs (L.after_invoke s t x))) (L.invoke_history s t x)
            ∙ rows_extended (M.history s) t a.known (M.needs s) (M.needs (L.after_invoke s t x)) op g.sized l n.0
            ∙ ap (λ (k : List ℕ). extend families (tester_rows M s) t (record { op = op; ret = none; needs = k })) n.1)

        judge : {y x : Step} → Judged (M.shaped s) (M.history s) t (op_said M s op) y x → Invoked (M.history s) t op y
            → InvokeTurn M s t op x.recorded (L.after_invoke s t x)
        judge (out_of_shape e) w = unbroken e
        judge (barred e z) w = same _ (invoke_refused z)
        judge (passed a) w = run a w

    pub return_turn : (ret : Ret) → ReturnTurn M s t ret (M.on_return s t ret).0 (M.on_return s t ret).1
    return_turn ret =
        let w = return_goes (M.shaped s) (M.history s) t ret in
        subst (λ (a : Result Unit Reason × M.Tester). ReturnTurn M s t ret a.0 a.1) (sym (L.returns s t ret)) (judge w.judge w.return)
      where
        same : (r : Reason) → ReturnTurn M s t ret (Err r) s → ReturnTurn M s t ret (Err r) (L.after_return s (refuse r (M.history s)))
        same r w = subst (ReturnTurn M s t ret (Err r)) (sym (L.return_same s (Err r))) w

        rows_in : (x : Step) → tester_rows M (L.after_return s x) ≡ rows_of (M.needs s) x.history
        rows_in x = rw (L.return_needs s x, L.return_history s x)

        run : {x : Step} → Fine M s t (ret_said M s ret) → Returning (M.history s) t ret x
            → ReturnTurn M s t ret x.recorded (L.after_return s x)
        run a (idle f) =
            let x : Step = step (Err NothingInFlight) (invalidated (M.history s)) in
            stray a (is_idle a f) (L.return_history s x) (rows_in x ∙ rows_invalidated (M.needs s) (M.history s))
        run a (ended {i = i} w) =
            let x : Step = step (Ok tt) (completed (M.history s) i t ret) in
            return_taken i a (is_busy a w) (L.return_history s x) (rows_in x ∙ rows_completed (M.history s) t a.known (M.needs s) ret w)

        judge : {y x : Step} → Judged (M.shaped s) (M.history s) t (ret_said M s ret) y x → Returning (M.history s) t ret y
            → ReturnTurn M s t ret x.recorded (L.after_return s x)
        judge (out_of_shape e) w = unbroken e
        judge (barred e z) w = same _ (return_refused z)
        judge (passed a) w = run a w
