-- Inputs within document 01's sizes, of the object's own, draw nothing but what the Rust knows: 0, 1, 4 and 5.
use Rattle.std.specs.Prelude.{ℕ, ◌+◌, ◌<◌, ◌≤◌, ◌≡◌, refl, Bool, true, false, cond, [], ◌∷◌, ◌++◌, is_ok}
use Rattle.std.proofs.Common.{sym, ap, ◌∙◌, subst, arith, Result, Ok, Err}
use Rattle.history.specs.Lists.{and_both}
use Rattle.history.specs.Events.{Events, invoked, returned, ThreadsBelow}
use Rattle.values.specs.Sizes.{threads, capacity}
use Rattle.values.specs.Value.{pick}
use Rattle.families.specs.Refusals.{ret_belongs}
use Rattle.families.specs.Families.{families}
use Rattle.families.specs.declared.Kind.{Kind}
use Rattle.families.specs.declared.Object.{Object}
use Rattle.families.specs.declared.Op.{Op}
use Rattle.families.specs.declared.Ret.{Ret}
use Rattle.stepping.specs.declared.histories.History.{History}
use Rattle.stepping.specs.declared.recorded.Reason.{Reason}
use Rattle.stepping.specs.Shape.{kind_of}
use Rattle.recording_meaning.specs.Cases.{Barred, invalid, stranger, foreign}
use Rattle.recording_meaning.specs.Models.{Model}
use Rattle.recording_meaning.specs.Numbers.{op_said, ret_said}
use Rattle.recording_meaning.specs.Lawful.{Lawful}
use Rattle.recording_meaning.specs.EventTurns.{
  Good,
  InvokeTurn,
  invoke_refused,
  second,
  no_room,
  invoke_taken,
  ReturnTurn,
  return_refused,
  stray,
  return_taken,
  invoke_turn,
  return_turn,
}
use Rattle.recording_meaning.specs.Reaching.{good_invoke}
use Rattle.recording_meaning.specs.Inputs.{Input, invoke, return, invret, Inputs, named, events_in, Own, invocations_in, give, drawn, takes}
use Rattle.recording_meaning.specs.InputLaws.{invocations_both}
use Rattle.recording_meaning.proofs.TesterFeeding.{step_of, good_give}
use Rattle.recording_meaning.specs.RustReading.{comparable, all_comparable}
use Rattle.values.specs.declared.refusal.Refusal.{Refusal}

module _ (M : Model) (L : Lawful M) where
  fits_barred : {h : History} {t : ℕ} {said : Result Unit Refusal} {r : Reason} → t < threads → said ≡ Ok tt → Barred h t said r → comparable (Err r) ≡ true
  fits_barred k f (invalid v) = refl
  fits_barred k f (stranger v m) = absurd (omega arith)
  fits_barred k f (foreign v m d) = absurd (let z : ◌≡◌ {A = ℕ} 0 1 = cc in omega arith)

  fits_invoke : {s next : M.Tester} {t : ℕ} {op : Op} {r : Result Unit Reason} → t < threads → op_said M s op ≡ Ok tt → (M.history s).count < capacity
      → InvokeTurn M s t op r next → comparable r ≡ true
  fits_invoke k f c (invoke_refused w) = fits_barred k f w
  fits_invoke k f c (second a b h w) = refl
  fits_invoke k f c (no_room a b m) = absurd (omega arith)
  fits_invoke k f c (invoke_taken a b m h w) = refl

  fits_return : {s next : M.Tester} {t : ℕ} {ret : Ret} {r : Result Unit Reason} → t < threads → ret_said M s ret ≡ Ok tt → ReturnTurn M s t ret r next
      → comparable r ≡ true
  fits_return k f (return_refused w) = fits_barred k f w
  fits_return k f (stray a b h w) = refl
  fits_return k f (return_taken i a b h w) = refl

  module _ (s : M.Tester) (g : Good M L s) where
    same_kind : (v : Input) → kind_of (M.history (give M s v).1) ≡ kind_of (M.history s)
    same_kind v = ap (λ (o : Object). o.kind) (step_of M L s g v).start

    fits : (v : Input) (H : Events families) → ThreadsBelow families threads (named v ++ H) → Own (kind_of (M.history s)) (named v ++ H)
        → (M.history s).count + invocations_in (named v ++ H) ≤ capacity → comparable (give M s v).0 ≡ true
    fits (invoke t op) H k f c = fits_invoke k.0 f.0 (omega arith) (invoke_turn M L s g t op)
    fits (return t ret) H k f c = fits_return k.0 f.0 (return_turn M L s g t ret)
    fits (invret t op ret) H k f c =
        subst (λ (a : Result Unit Reason × M.Tester). comparable a.0 ≡ true) (sym (L.invrets s t op ret)) (go (is_ok (M.on_invoke s t op).0))
      where
        next : M.Tester
        next = (M.on_invoke s t op).1

        go : (b : Bool) → comparable (pick b (M.on_return next t ret) (M.on_invoke s t op)).0 ≡ true
        go true =
            fits_return k.0 (ap (λ (k : Kind). ret_belongs k ret) (same_kind (invoke t op)) ∙ f.1.0)
            (return_turn M L next (good_invoke M L s g t op) t ret)
        go false = fits_invoke k.0 f.0 (omega arith) (invoke_turn M L s g t op)

  rest_below : (v : Input) (H : Events families) → ThreadsBelow families threads (named v ++ H) → ThreadsBelow families threads H
  rest_below (invoke t op) H k = k.1
  rest_below (return t ret) H k = k.1
  rest_below (invret t op ret) H k = k.1.1

  rest_own : (k : Kind) (v : Input) (H : Events families) → Own k (named v ++ H) → Own k H
  rest_own k (invoke t op) H o = o.1
  rest_own k (return t ret) H o = o.1
  rest_own k (invret t op ret) H o = o.1.1

  -- no more invocations are recorded than named
  takes_few : (s : M.Tester) (v : Input) → invocations_in (takes M s v) ≤ invocations_in (named v)
  takes_few s (invoke t op) = go (is_ok (M.on_invoke s t op).0)
    where
      go : (b : Bool) → invocations_in (cond b (invoked t op ∷ []) []) ≤ 1
      go true = omega arith
      go false = omega arith
  takes_few s (return t ret) = go (is_ok (M.on_return s t ret).0)
    where
      go : (b : Bool) → invocations_in (cond b (returned t ret ∷ []) []) ≤ 0
      go true = omega arith
      go false = omega arith
  takes_few s (invret t op ret) = go (is_ok (M.on_invoke s t op).0) (is_ok (M.on_invret s t op ret).0)
    where
      go : (b c : Bool) → invocations_in (cond b (invoked t op ∷ cond c (returned t ret ∷ []) []) []) ≤ 1
      go true true = omega arith
      go true false = omega arith
      go false c = omega arith

  -- along the inputs
  pub all_fit : (l : Inputs) (s : M.Tester) → Good M L s → ThreadsBelow families threads (events_in l) → Own (kind_of (M.history s)) (events_in l)
      → (M.history s).count + invocations_in (events_in l) ≤ capacity → all_comparable (drawn M s l) ≡ true
  all_fit [] s g k f c = refl
  all_fit (v ∷ l) s g k f c =
      let next = (give M s v).1 in
      and_both (comparable (give M s v).0) (all_comparable (drawn M next l)) (fits s g v (events_in l) k f c)
      (all_fit l next (good_give M L s g v) (rest_below v (events_in l) k)
      (subst (λ (k : Kind). Own k (events_in l)) (sym (same_kind s g v)) (rest_own (kind_of (M.history s)) v (events_in l) f))
      (omega (arith, c, (step_of M L s g v).count, takes_few s v, invocations_both (named v) (events_in l))))
