-- The ways in which an event can go, each with what holds there.
use Rattle.std.specs.Prelude.{ℕ, ◌<◌, ◌≤◌, ◌≡◌, refl, Bool, true, false, ltb, Option, Some, None, Result, Ok, Err}
use Rattle.std.proofs.Common.{ltb-true, ltb-false}
use Rattle.values.specs.Sizes.{threads, capacity}
use Rattle.families.specs.Refusals.{op_belongs, ret_belongs}
use Rattle.families.specs.declared.Op.{Op}
use Rattle.families.specs.declared.Ret.{Ret}
use Rattle.values.specs.declared.refusal.Refusal.{Refusal}
use Rattle.stepping.specs.declared.histories.History.{History}
use Rattle.stepping.specs.declared.recorded.Reason.{Reason}
use Rattle.stepping.specs.declared.recorded.Reason.TheVariants.{AlreadyInvalid, NoSuchThread, NotOwn, InFlight, NothingInFlight, Full, OutOfShape}
use Rattle.stepping.specs.declared.step.Step.{Step}
use Rattle.stepping.specs.Record.{held, find_flying, invalidated, extended, completed}
use Rattle.stepping.specs.Shape.{kind_of}
use Rattle.stepping.specs.EventSteps.{breaks, unless, step, refuse, owned, admitted, invoke_by, invoke_of, return_by, return_of}
use Rattle.recording_meaning.specs.Numbers.{Admitted}
use Rattle.recording_meaning.specs.Held.{flies, Found, found_at, found_none}

-- What is refused of a record in shape before invocations and returns part ways, in their order: 1, 2, and what the object refuses.
pub data Barred (h : History) (t : ℕ) (said : Result Unit Refusal) : Reason → Type 0 where
  invalid : h.valid ≡ false → Barred h t said AlreadyInvalid
  stranger : h.valid ≡ true → threads ≤ t → Barred h t said NoSuchThread
  foreign : {r : Refusal} → h.valid ≡ true → t < threads → said ≡ Err r → Barred h t said (NotOwn r)

-- none of it turns validity off
pub barred_keeps : {h : History} {t : ℕ} {said : Result Unit Refusal} {r : Reason} → Barred h t said r → breaks r ≡ false
unfolding breaks
barred_keeps (invalid v) = refl
barred_keeps (stranger v k) = refl
barred_keeps (foreign v k e) = refl

module _ (shaped : Bool) (h : History) (t : ℕ) (said : Result Unit Refusal) where
  -- What comes of an event, where x comes of it if it is admitted.
  pub data Judged (x : Step) : Step → Type 0 where
    out_of_shape : shaped ≡ false → Judged x (refuse OutOfShape h)
    barred : {r : Reason} → shaped ≡ true → Barred h t said r → Judged x (refuse r h)
    passed : Admitted shaped h t said → Judged x x

  judged : (x : Step) → Judged x (admitted shaped h t said x)
  judged x = go shaped h.valid (ltb t threads) said refl refl refl refl
    where
      go : (a b c : Bool) (d : Result Unit Refusal) → shaped ≡ a → h.valid ≡ b → ltb t threads ≡ c → said ≡ d
          → Judged x (unless a (refuse OutOfShape h) (unless b (refuse AlreadyInvalid h) (unless c (refuse NoSuchThread h) (owned d h x))))
      go false b c d ea eb ec ed = out_of_shape ea
      go true false c d ea eb ec ed = barred ea (invalid eb)
      go true true false d ea eb ec ed = barred ea (stranger eb (ltb-false t threads ec))
      go true true true (Err r) ea eb ec ed = barred ea (foreign eb (ltb-true t threads ec) ed)
      go true true true (Ok tt) ea eb ec ed = passed (record { in_shape = ea; valid = eb; known = ltb-true t threads ec; own = ed })

-- An admitted invocation.
pub data Invoked (h : History) (t : ℕ) (op : Op) : Step → Type 0 where
  busy : {i : ℕ} → Found t (held h) i → Invoked h t op (step (Err InFlight) (invalidated h))
  full : flies t (held h) ≡ false → capacity ≤ h.count → Invoked h t op (refuse Full h)
  begun : flies t (held h) ≡ false → h.count < capacity → Invoked h t op (step (Ok tt) (extended h t op))

invoked : (h : History) (t : ℕ) (op : Op) → Invoked h t op (invoke_by (find_flying t h) h t op)
invoked h t op = go (find_flying t h) refl
  where
    room : (b : Bool) → ltb h.count capacity ≡ b → flies t (held h) ≡ false → Invoked h t op (unless b (refuse Full h) (step (Ok tt) (extended h t op)))
    room true e f = begun f (ltb-true h.count capacity e)
    room false e f = full f (ltb-false h.count capacity e)

    go : (p : Option ℕ) → find_flying t h ≡ p → Invoked h t op (invoke_by p h t op)
    go (Some i) e = busy (found_at t h i e)
    go None e = room (ltb h.count capacity) refl (found_none t h e)

-- An admitted return.
pub data Returning (h : History) (t : ℕ) (ret : Ret) : Step → Type 0 where
  idle : flies t (held h) ≡ false → Returning h t ret (step (Err NothingInFlight) (invalidated h))
  ended : {i : ℕ} → Found t (held h) i → Returning h t ret (step (Ok tt) (completed h i t ret))

returning : (h : History) (t : ℕ) (ret : Ret) → Returning h t ret (return_by (find_flying t h) h t ret)
returning h t ret = go (find_flying t h) refl
  where
    go : (p : Option ℕ) → find_flying t h ≡ p → Returning h t ret (return_by p h t ret)
    go (Some i) e = ended (found_at t h i e)
    go None e = idle (found_none t h e)

-- What comes of an invocation, and of a return.

pub record InvokeGoes (shaped : Bool) (h : History) (t : ℕ) (op : Op) (r : Step) : Type 0 where
  pub then : Step
  pub judge : Judged shaped h t (op_belongs (kind_of h) op) then r
  pub invoke : Invoked h t op then

pub invoke_goes : (shaped : Bool) (h : History) (t : ℕ) (op : Op) → InvokeGoes shaped h t op (invoke_of shaped h t op)
unfolding invoke_of
invoke_goes shaped h t op = record {
  then = invoke_by (find_flying t h) h t op;
  judge = judged shaped h t (op_belongs (kind_of h) op) (invoke_by (find_flying t h) h t op);
  invoke = invoked h t op;
}

pub record ReturnGoes (shaped : Bool) (h : History) (t : ℕ) (ret : Ret) (r : Step) : Type 0 where
  pub then : Step
  pub judge : Judged shaped h t (ret_belongs (kind_of h) ret) then r
  pub return : Returning h t ret then

pub return_goes : (shaped : Bool) (h : History) (t : ℕ) (ret : Ret) → ReturnGoes shaped h t ret (return_of shaped h t ret)
unfolding return_of
return_goes shaped h t ret = record {
  then = return_by (find_flying t h) h t ret;
  judge = judged shaped h t (ret_belongs (kind_of h) ret) (return_by (find_flying t h) h t ret);
  return = returning h t ret;
}
