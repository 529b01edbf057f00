-- Each number is given exactly under its condition.
use Rattle.std.specs.Prelude.{ℕ, ◌≡◌, ◌↔◌, true, false}
use Rattle.std.proofs.Math.Path.{refl}
use Rattle.std.proofs.Common.{sym, ap, ◌∙◌, subst, Option, Some, None, Result, Ok, Err}
use borrow.Author.Tests.{lt-ltb, le-ltb}
use Rattle.values.specs.Sizes.{threads, capacity}
use Rattle.families.specs.Refusals.{start_check}
use Rattle.families.specs.RefusalsExactly.{start_exactly}
use Rattle.families.specs.declared.Object.{Object}
use Rattle.families.specs.declared.Op.{Op}
use Rattle.families.specs.declared.Ret.{Ret}
use Rattle.stepping.specs.declared.recorded.Reason.TheVariants.{AlreadyInvalid, NoSuchThread, NotOwn, InFlight, NothingInFlight, Full, OutOfShape}
use Rattle.stepping.specs.declared.step.Step.{Step}
use Rattle.stepping.specs.Record.{held, find_flying}
use Rattle.stepping.specs.EventSteps.{begun_by, begun_of, admitted, invoke_by, invoke_of, return_by, return_of}
use Rattle.recording_meaning.specs.Held.{flies, found_flies, flying_at, flying_none}
use Rattle.recording_meaning.specs.Rowing.{flying_row}
use Rattle.recording_meaning.specs.Cases.{
  invalid,
  stranger,
  foreign,
  Judged,
  out_of_shape,
  barred,
  passed,
  Invoked,
  busy,
  full,
  begun,
  Returning,
  idle,
  ended,
  invoke_goes,
  return_goes,
}
use Rattle.recording_meaning.specs.Models.{Model}
use Rattle.recording_meaning.specs.Lawful.{Lawful}
use Rattle.recording_meaning.specs.Numbers.{Busy, op_said, ret_said, Left, Fine, EventWhen, InvokeLeft, InvokeWhen, ReturnLeft, ReturnWhen, MadeWhen}
use Rattle.values.specs.declared.refusal.Refusal.{Refusal}
use Rattle.stepping.specs.declared.recorded.Reason.{Reason}

module _ (M : Model) (L : Lawful M) (s : M.Tester) (t : ℕ) where
  flight : {said : Result Unit Refusal} → Fine M s t said → Busy M s t ≡ flies t (held (M.history s))
  flight a = flying_row (M.needs s) (M.history s) t a.known

  -- the number that is given has its condition

  event_gives : (left : Left) {said : Result Unit Refusal} {y x : Step} → Judged (M.shaped s) (M.history s) t said y x
      → (Fine M s t said → EventWhen M s t said left y.recorded) → EventWhen M s t said left x.recorded
  event_gives left (out_of_shape e) run = e
  event_gives left (barred e (invalid v)) run = (e, v)
  event_gives left (barred e (stranger v k)) run = (e, v, k)
  event_gives left (barred e (foreign v k r)) run = (e, v, k, r)
  event_gives left (passed a) run = run a

  invoke_gives : (op : Op) → InvokeWhen M s t op (invoke_of (M.shaped s) (M.history s) t op).recorded
  invoke_gives op = let w = invoke_goes (M.shaped s) (M.history s) t op in event_gives (InvokeLeft M s t) w.judge (run w.invoke)
    where
      run : {x : Step} → Invoked (M.history s) t op x → Fine M s t (op_said M s op) → InvokeWhen M s t op x.recorded
      run (busy w) a = (a, flight a ∙ found_flies w)
      run (full f l) a = (a, (flight a ∙ f, l))
      run (begun f l) a = (a, (flight a ∙ f, l))

  return_gives : (ret : Ret) → ReturnWhen M s t ret (return_of (M.shaped s) (M.history s) t ret).recorded
  return_gives ret = let w = return_goes (M.shaped s) (M.history s) t ret in event_gives (ReturnLeft M s t) w.judge (run w.return)
    where
      run : {x : Step} → Returning (M.history s) t ret x → Fine M s t (ret_said M s ret) → ReturnWhen M s t ret x.recorded
      run (idle f) a = (a, flight a ∙ f)
      run (ended w) a = (a, flight a ∙ found_flies w)

  -- and where the condition holds, the number is given

  -- what comes of an event by what its thread has in flight: the number, if it is admitted
  gives_by : {said : Result Unit Refusal} {p : Option ℕ} {r : Result Unit Reason} (comes : Option ℕ → Step) → Fine M s t said → find_flying t (M.history s) ≡ p → (comes p).recorded ≡ r
      → (admitted (M.shaped s) (M.history s) t said (comes (find_flying t (M.history s)))).recorded ≡ r
  gives_by comes a e z = rw (e, a.in_shape, a.valid, lt-ltb t threads a.known, a.own) z

  busy_gives : {said : Result Unit Refusal} {r : Result Unit Reason} (comes : Option ℕ → Step) → Fine M s t said → Busy M s t ≡ true → ((i : ℕ) → (comes (Some i)).recorded ≡ r)
      → (admitted (M.shaped s) (M.history s) t said (comes (find_flying t (M.history s)))).recorded ≡ r
  busy_gives comes a e z = let w = flying_at t (M.history s) (sym (flight a) ∙ e) in gives_by comes a w.1 (z w.0)

  idle_gives : {said : Result Unit Refusal} {r : Result Unit Reason} (comes : Option ℕ → Step) → Fine M s t said → Busy M s t ≡ false → (comes None).recorded ≡ r
      → (admitted (M.shaped s) (M.history s) t said (comes (find_flying t (M.history s)))).recorded ≡ r
  idle_gives comes a e z = gives_by comes a (flying_none t (M.history s) (sym (flight a) ∙ e)) z

  invoke_given : (op : Op) (r : Result Unit Reason) → InvokeWhen M s t op r → (invoke_of (M.shaped s) (M.history s) t op).recorded ≡ r
  unfolding invoke_of
  invoke_given op (Err OutOfShape) e = rw e
  invoke_given op (Err AlreadyInvalid) w = rw (w.0, w.1)
  invoke_given op (Err NoSuchThread) w = rw (w.0, w.1, le-ltb t threads w.2)
  invoke_given op (Err (NotOwn r)) w = rw (w.0, w.1, lt-ltb t threads w.2, w.3)
  invoke_given op (Err InFlight) w = busy_gives (λ p. invoke_by p (M.history s) t op) w.0 w.1 (λ i. refl)
  invoke_given op (Err Full) w = idle_gives (λ p. invoke_by p (M.history s) t op) w.0 w.1.0 (rw (le-ltb (M.history s).count capacity w.1.1))
  invoke_given op (Ok tt) w = idle_gives (λ p. invoke_by p (M.history s) t op) w.0 w.1.0 (rw (lt-ltb (M.history s).count capacity w.1.1))
  invoke_given op (Err NothingInFlight) w = absurd w.1

  return_given : (ret : Ret) (r : Result Unit Reason) → ReturnWhen M s t ret r → (return_of (M.shaped s) (M.history s) t ret).recorded ≡ r
  unfolding return_of
  return_given ret (Err OutOfShape) e = rw e
  return_given ret (Err AlreadyInvalid) w = rw (w.0, w.1)
  return_given ret (Err NoSuchThread) w = rw (w.0, w.1, le-ltb t threads w.2)
  return_given ret (Err (NotOwn r)) w = rw (w.0, w.1, lt-ltb t threads w.2, w.3)
  return_given ret (Err NothingInFlight) w = idle_gives (λ p. return_by p (M.history s) t ret) w.0 w.1 refl
  return_given ret (Ok tt) w = busy_gives (λ p. return_by p (M.history s) t ret) w.0 w.1 (λ i. refl)
  return_given ret (Err InFlight) w = absurd w.1
  return_given ret (Err Full) w = absurd w.1

  -- Each number exactly under its condition.

  pub invoke_exactly : (op : Op) (r : Result Unit Reason) → ((M.on_invoke s t op).0 ≡ r) ↔ InvokeWhen M s t op r
  invoke_exactly op r =
      let e = ap (λ (a : Result Unit Reason × M.Tester). a.0) (L.invokes s t op) in
      (λ z. subst (InvokeWhen M s t op) (sym e ∙ z) (invoke_gives op), λ w. e ∙ invoke_given op r w)

  pub return_exactly : (ret : Ret) (r : Result Unit Reason) → ((M.on_return s t ret).0 ≡ r) ↔ ReturnWhen M s t ret r
  return_exactly ret r =
      let e = ap (λ (a : Result Unit Reason × M.Tester). a.0) (L.returns s t ret) in
      (λ z. subst (ReturnWhen M s t ret) (sym e ∙ z) (return_gives ret), λ w. e ∙ return_given ret r w)

pub made_exactly : (start : Object) (m : Result Unit Refusal) → ((begun_of start).made ≡ m) ↔ MadeWhen start m
unfolding begun_of
made_exactly start m = (λ e. subst (MadeWhen start) e (gives (start_check start.kind) refl), given m)
  where
    gives : (c : Result Unit Refusal) → start_check start.kind ≡ c → MadeWhen start (begun_by c start).made
    gives (Ok tt) e = (start_exactly start.kind (Ok tt)).0 e
    gives (Err r) e = (start_exactly start.kind (Err r)).0 e

    given : (m : Result Unit Refusal) → MadeWhen start m → (begun_by (start_check start.kind) start).made ≡ m
    given (Ok tt) w = rw ((start_exactly start.kind (Ok tt)).1 w)
    given (Err r) w = rw ((start_exactly start.kind (Err r)).1 w)
