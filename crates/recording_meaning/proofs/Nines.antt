-- 9 is given exactly to a record out of shape, and hands it back as it came: for any record, by all three calls.
use Rattle.std.specs.Prelude.{ℕ, ◌≡◌, ◌≢◌, Bool, is_ok}
use Rattle.std.proofs.Math.Path.{refl, ap}
use Rattle.std.proofs.Common.{sym, ◌∙◌, arith, Result, Ok, Err}
use Rattle.std.proofs.Math.Bool.{true, false}
use Rattle.history.specs.Lists.{not_both}
use Rattle.values.specs.Value.{pick}
use Rattle.values.specs.Checks.{number_of as refusal_number}
use Rattle.families.specs.RefusalsExactly.{op_three, ret_three}
use Rattle.families.specs.declared.Op.{Op}
use Rattle.families.specs.declared.Ret.{Ret}
use Rattle.values.specs.declared.refusal.Refusal.{Refusal}
use Rattle.stepping.specs.declared.recorded.Reason.TheVariants.{AlreadyInvalid, NoSuchThread, NotOwn, InFlight, NothingInFlight, Full, OutOfShape}
use Rattle.stepping.specs.Shape.{kind_of}
use Rattle.stepping.specs.EventSteps.{reason_number, number_of, invoke_of, return_of}
use Rattle.recording_meaning.specs.Models.{Model}
use Rattle.recording_meaning.specs.Lawful.{Lawful}
use Rattle.recording_meaning.specs.EventTurns.{Good, good_shaped, good_of}
use Rattle.recording_meaning.specs.Reaching.{good_invoke}
use Rattle.recording_meaning.specs.Numbers.{Left, EventWhen, InvokeLeft, ReturnLeft}
use Rattle.recording_meaning.proofs.NumbersExactly.{invoke_exactly, return_exactly}
use Rattle.recording_meaning.specs.Meaning.{NineKeeps}
use Rattle.stepping.specs.declared.recorded.Reason.{Reason}

-- A tester in shape gives no event 9, where its object refuses with 3 only.
no_nine : (M : Model) (s : M.Tester) (t : ℕ) (left : Left) {said : Result Unit Refusal} → M.shaped s ≡ true → ((r : Refusal) → said ≡ Err r → refusal_number r ≡ 3)
    → (r : Result Unit Reason) → EventWhen M s t said left r → number_of r ≢ 9
unfolding number_of reason_number
no_nine M s t left e three (Ok tt) w z = omega arith
no_nine M s t left e three (Err AlreadyInvalid) w z = omega arith
no_nine M s t left e three (Err NoSuchThread) w z = omega arith
no_nine M s t left e three (Err (NotOwn r)) w z = omega (arith, three r w.3)
no_nine M s t left e three (Err InFlight) w z = omega arith
no_nine M s t left e three (Err NothingInFlight) w z = omega arith
no_nine M s t left e three (Err Full) w z = omega arith
no_nine M s t left e three (Err OutOfShape) w z = not_both e w

module _ (M : Model) (L : Lawful M) where
  -- in shape: no 9

  pub no_nine_invoke : (s : M.Tester) → M.shaped s ≡ true → (t : ℕ) (op : Op) → number_of (M.on_invoke s t op).0 ≢ 9
  no_nine_invoke s e t op =
      no_nine M s t (InvokeLeft M s t) e (op_three (kind_of (M.history s)) op) (M.on_invoke s t op).0
      ((invoke_exactly M L s t op (M.on_invoke s t op).0).0 refl)

  pub no_nine_return : (s : M.Tester) → M.shaped s ≡ true → (t : ℕ) (ret : Ret) → number_of (M.on_return s t ret).0 ≢ 9
  no_nine_return s e t ret =
      no_nine M s t (ReturnLeft M s t) e (ret_three (kind_of (M.history s)) ret) (M.on_return s t ret).0
      ((return_exactly M L s t ret (M.on_return s t ret).0).0 refl)

  pub no_nine_invret : (s : M.Tester) → Good M L s → (t : ℕ) (op : Op) (ret : Ret) → number_of (M.on_invret s t op ret).0 ≢ 9
  no_nine_invret s g t op ret e =
      go (is_ok (M.on_invoke s t op).0) (ap (λ (a : Result Unit Reason × M.Tester). number_of a.0) (sym (L.invrets s t op ret)) ∙ e)
    where
      next : M.Tester
      next = (M.on_invoke s t op).1

      go : (b : Bool) → number_of (pick b (M.on_return next t ret) (M.on_invoke s t op)).0 ≢ 9
      go true = no_nine_return next (good_shaped M L next (good_invoke M L s g t op)) t ret
      go false = no_nine_invoke s (good_shaped M L s g) t op

  module _ (s : M.Tester) (t : ℕ) where
    -- out of shape: 9, and the tester as it came

    kept_invoke : (op : Op) → M.shaped s ≡ false → M.on_invoke s t op ≡ (Err OutOfShape, s)
    unfolding invoke_of
    kept_invoke op e =
        L.invokes s t op
        ∙ ap (λ (b : Bool). ((invoke_of b (M.history s) t op).recorded, L.after_invoke s t (invoke_of b (M.history s) t op))) e
        ∙ ap (λ (x : M.Tester). (Err OutOfShape, x)) (L.invoke_same s t (Err OutOfShape) refl)

    kept_return : (ret : Ret) → M.shaped s ≡ false → M.on_return s t ret ≡ (Err OutOfShape, s)
    unfolding return_of
    kept_return ret e =
        L.returns s t ret
        ∙ ap (λ (b : Bool). ((return_of b (M.history s) t ret).recorded, L.after_return s (return_of b (M.history s) t ret))) e
        ∙ ap (λ (x : M.Tester). (Err OutOfShape, x)) (L.return_same s (Err OutOfShape))

    kept_invret : (op : Op) (ret : Ret) → M.shaped s ≡ false → M.on_invret s t op ret ≡ (Err OutOfShape, s)
    kept_invret op ret e =
        L.invrets s t op ret
        ∙ ap (λ (a : Result Unit Reason × M.Tester). pick (is_ok a.0) (M.on_return a.1 t ret) a) (kept_invoke op e)

    -- so that 9 is given exactly there

    nine : {a : Result Unit Reason × M.Tester} → (M.shaped s ≡ true → number_of a.0 ≢ 9) → (M.shaped s ≡ false → a ≡ (Err OutOfShape, s)) → NineKeeps M s a
    unfolding number_of reason_number
    nine {a} in_shape out = record {
      exactly = (λ z. go z (M.shaped s) refl, λ e. ap (λ (x : Result Unit Reason × M.Tester). number_of x.0) (out e));
      keeps = λ e. ap (λ (x : Result Unit Reason × M.Tester). x.1) (out e);
    }
      where
        go : number_of a.0 ≡ 9 → (b : Bool) → M.shaped s ≡ b → b ≡ false
        go z true e = absurd (in_shape e z)
        go z false e = refl

    pub nine_invoke : (op : Op) → NineKeeps M s (M.on_invoke s t op)
    nine_invoke op = nine (λ e. no_nine_invoke s e t op) (kept_invoke op)

    pub nine_return : (ret : Ret) → NineKeeps M s (M.on_return s t ret)
    nine_return ret = nine (λ e. no_nine_return s e t ret) (kept_return ret)

    pub nine_invret : M.Lengths s → (op : Op) (ret : Ret) → NineKeeps M s (M.on_invret s t op ret)
    nine_invret z op ret = nine (λ e. no_nine_invret s (good_of M L s z e) t op ret) (kept_invret op ret)
