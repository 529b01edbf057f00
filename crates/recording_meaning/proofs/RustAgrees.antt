-- Recording equals the Rust: after each call that the Rust knows, the tester reads as the Rust's tester after it, with the same Ok or Err and len.
use Rattle.std.specs.Prelude.{ℕ, ◌<◌, ◌≡◌, Bool, true, false, length, is_ok}
use Rattle.std.proofs.Math.Path.{refl, ap}
use Rattle.std.proofs.Common.{sym, ◌∙◌, subst, eq-eqb, arith, None, Result, Ok, Err}
use mathlib.Core.List.{[]}
use Rattle.history.specs.Lists.{not_both}
use Rattle.history.specs.Rows.{Rows, row, Shaped}
use Rattle.values.specs.Sizes.{threads}
use Rattle.values.specs.Value.{pick}
use Rattle.families.specs.Families.{families}
use Rattle.families.specs.declared.Object.{Object}
use Rattle.families.specs.declared.Op.{Op}
use Rattle.families.specs.declared.Ret.{Ret}
use Rattle.stepping.specs.declared.histories.History.{History}
use Rattle.stepping.specs.Record.{operation, held, is_pending, flying_by}
use Rattle.recording_meaning.specs.Rust.{Map, linearizable, Answered, Result as RustResult, Ok as RustOk, Err as RustErr, with_entry, on_invoke, on_return, on_return_if, on_invret}
use Rattle.recording_meaning.specs.RustMaps.{with_notes}
use Rattle.recording_meaning.proofs.RustSteps.{last_noted, invokes_busy, returns_idle, returns_closes, invokes_extends}
use Rattle.recording_meaning.specs.Held.{flies, flies_mid, held_extended}
use Rattle.recording_meaning.specs.Rowing.{rows_many, flying_row}
use Rattle.recording_meaning.specs.Shaping.{rows_shaped}
use Rattle.recording_meaning.specs.Cases.{invalid, stranger, foreign}
use Rattle.recording_meaning.specs.Models.{Model, tester_rows, sequential_model, linearizability_model}
use Rattle.recording_meaning.specs.Numbers.{Busy}
use Rattle.recording_meaning.specs.Lawful.{Lawful}
use Rattle.recording_meaning.specs.EventTurns.{
  Good,
  InvokeTurn,
  invoke_refused,
  second,
  no_room,
  invoke_taken,
  ReturnTurn,
  return_refused,
  stray,
  return_taken,
  invoke_turn,
  return_turn,
}
use Rattle.recording_meaning.specs.Reaching.{good_invoke}
use Rattle.recording_meaning.specs.RustReading.{
  InRust,
  sequential_in_rust,
  linearizability_in_rust,
  result_of,
  comparable,
  RustTester,
  answered,
  in_rust,
  left_by,
}
use Rattle.recording_meaning.specs.RustAgrees.{TakesAlong, maps}
use Rattle.stepping.specs.declared.recorded.Reason.{Reason}

pub sequential_takes : TakesAlong sequential_model sequential_in_rust
sequential_takes rows t op l = refl

pub linearizability_takes : TakesAlong linearizability_model linearizability_in_rust
linearizability_takes rows t op l =
    ap (λ (m : Map ℕ). (m, op)) (last_noted families (linearizable Op Ret) (with_notes families) rows 0 t t (omega arith) l)

module _ (M : Model) (R : InRust M) where
  -- a tester with that history's start, those rows and that validity is this in the Rust
  pub same_maps : (s next : M.Tester) {rows : Rows families} {valid : Bool} → (M.history next).start ≡ (M.history s).start → tester_rows M next ≡ rows
      → (M.history next).valid ≡ valid → in_rust M R next ≡ maps M R (M.history s).start rows valid
  same_maps s next {rows} e w b =
      ap (λ (o : Object). maps M R o (tester_rows M next) (M.history next).valid) e
      ∙ ap (λ (r : Rows families). maps M R (M.history s).start r (M.history next).valid) w
      ∙ ap (maps M R (M.history s).start rows) b

module _ (M : Model) (L : Lawful M) (R : InRust M) (along : TakesAlong M R) where
  module _ (s : M.Tester) (g : Good M L s) (t : ℕ) where
    shaped : Shaped families (row families (tester_rows M s) t)
    shaped = rows_shaped (M.needs s) (M.history s) g.parts t

    in_rows : t < threads → t < length (tester_rows M s)
    in_rows l = rw (rows_many (M.needs s) (M.history s)) l

    -- on_invoke: the same answer, and the tester after it reads as the Rust's.
    pub invoke_as_rust : (op : Op) → comparable (M.on_invoke s t op).0 ≡ true → on_invoke Op Ret Object R.keeps (in_rust M R s) t op
        ≡ answered M R (result_of (M.on_invoke s t op).0) (in_rust M R (M.on_invoke s t op).1)
    invoke_as_rust op = go (invoke_turn M L s g t op)
      where
        go : {r : Result Unit Reason} {next : M.Tester} → InvokeTurn M s t op r next → comparable r ≡ true
            → on_invoke Op Ret Object R.keeps (in_rust M R s) t op ≡ answered M R (result_of r) (in_rust M R next)
        go (invoke_refused (invalid v)) c =
            subst (λ (x : RustTester M R). on_invoke Op Ret Object R.keeps x t op ≡ answered M R RustErr x) (sym (same_maps M R s s refl refl v)) refl
        go (invoke_refused (stranger v k)) c = not_both c refl
        go (invoke_refused (foreign v k f)) c = not_both c refl
        go (second {next = next} a b h w) c =
            ap (λ (x : RustTester M R). on_invoke Op Ret Object R.keeps x t op) (same_maps M R s s refl refl a.valid)
            ∙ invokes_busy families R.keeps R.flight (M.history s).start (tester_rows M s) t (in_rows a.known) op shaped b
            ∙ ap (answered M R RustErr) (sym (same_maps M R s next (ap (λ (x : History). x.start) h) w (ap (λ (x : History). x.valid) h)))
        go (no_room a b k) c = not_both c refl
        go (invoke_taken {next = next} a b k h w) c =
            ap (λ (x : RustTester M R). on_invoke Op Ret Object R.keeps x t op) (same_maps M R s s refl refl a.valid)
            ∙ invokes_extends families R.keeps R.flight (M.history s).start (tester_rows M s) t (in_rows a.known) op (M.keep (tester_rows M s) t)
            (along (tester_rows M s) t op (in_rows a.known)) shaped b
            ∙ ap (answered M R RustOk) (sym (same_maps M R s next (ap (λ (x : History). x.start) h) w (ap (λ (x : History). x.valid) h ∙ a.valid)))

    -- on_return: the same, but for the stray entry after 5.
    pub return_as_rust : (ret : Ret) → comparable (M.on_return s t ret).0 ≡ true → on_return Op Ret Object R.keeps (in_rust M R s) t ret
        ≡ answered M R (result_of (M.on_return s t ret).0) (left_by M R (M.on_return s t ret).0 (in_rust M R (M.on_return s t ret).1) t)
    return_as_rust ret = go (return_turn M L s g t ret)
      where
        go : {r : Result Unit Reason} {next : M.Tester} → ReturnTurn M s t ret r next → comparable r ≡ true
            → on_return Op Ret Object R.keeps (in_rust M R s) t ret ≡ answered M R (result_of r) (left_by M R r (in_rust M R next) t)
        go (return_refused (invalid v)) c =
            subst (λ (x : RustTester M R). on_return Op Ret Object R.keeps x t ret ≡ answered M R RustErr x) (sym (same_maps M R s s refl refl v)) refl
        go (return_refused (stranger v k)) c = not_both c refl
        go (return_refused (foreign v k f)) c = not_both c refl
        go (stray {next = next} a b h w) c =
            ap (λ (x : RustTester M R). on_return Op Ret Object R.keeps x t ret) (same_maps M R s s refl refl a.valid)
            ∙ returns_idle families R.keeps R.flight (M.history s).start (tester_rows M s) t (in_rows a.known) ret shaped b
            ∙ ap (λ (x : RustTester M R). answered M R RustErr (with_entry Op Ret Object R.keeps x t))
            (sym (same_maps M R s next (ap (λ (x : History). x.start) h) w (ap (λ (x : History). x.valid) h)))
        go (return_taken {next = next} i a b h w) c =
            ap (λ (x : RustTester M R). on_return Op Ret Object R.keeps x t ret) (same_maps M R s s refl refl a.valid)
            ∙ returns_closes families R.keeps R.flight (M.history s).start (tester_rows M s) t (in_rows a.known) ret shaped b
            ∙ ap (answered M R RustOk) (sym (same_maps M R s next (ap (λ (x : History). x.start) h) w (ap (λ (x : History). x.valid) h ∙ a.valid)))

  module _ (s : M.Tester) (g : Good M L s) (t : ℕ) (op : Op) (ret : Ret) where
    abbrev began : Result Unit Reason × M.Tester
    began = M.on_invoke s t op

    abbrev ended : Result Unit Reason × M.Tester
    ended = M.on_return began.1 t ret

    -- after an invocation that is taken its thread has one in flight
    now_busy : {r : Result Unit Reason} {next : M.Tester} → is_ok r ≡ true → InvokeTurn M s t op r next → Busy M next t ≡ true
    unfolding flying_by is_pending
    now_busy e (invoke_refused w) = not_both e refl
    now_busy e (second a b h w) = not_both e refl
    now_busy e (no_room a b k) = not_both e refl
    now_busy e (invoke_taken {next = next} a b k h w) =
        flying_row (M.needs next) (M.history next) t a.known
        ∙ ap (λ (x : History). flies t (held x)) h
        ∙ ap (flies t) (held_extended (M.history s) t op g.sized k)
        ∙ flies_mid t (operation t op None) (held (M.history s)) [] (rw (eq-eqb t t refl))

    -- so that its return leaves no stray entry
    no_stray : {r : Result Unit Reason} {next : M.Tester} {T : RustTester M R} → Busy M began.1 t ≡ true → ReturnTurn M began.1 t ret r next
        → left_by M R r T t ≡ T
    no_stray e (return_refused (invalid v)) = refl
    no_stray e (return_refused (stranger v k)) = refl
    no_stray e (return_refused (foreign v k f)) = refl
    no_stray e (stray a b h w) = not_both e b
    no_stray e (return_taken i a b h w) = refl

    at_ok : (r : Result Unit Reason) → is_ok r ≡ true → (comparable r ≡ true) × (result_of r ≡ RustOk)
    at_ok (Ok tt) e = (refl, refl)
    at_ok (Err r) e = not_both e refl

    at_err : (r : Result Unit Reason) → is_ok r ≡ false → result_of r ≡ RustErr
    at_err (Ok tt) e = not_both refl e
    at_err (Err r) e = refl

    -- on_invret: the two in turn.
    pub invret_as_rust : comparable (M.on_invret s t op ret).0 ≡ true → on_invret Op Ret Object R.keeps (in_rust M R s) t op ret
        ≡ answered M R (result_of (M.on_invret s t op ret).0) (in_rust M R (M.on_invret s t op ret).1)
    invret_as_rust =
        subst (λ (a : Result Unit Reason × M.Tester). comparable a.0 ≡ true → on_invret Op Ret Object R.keeps (in_rust M R s) t op ret
        ≡ answered M R (result_of a.0) (in_rust M R a.1)) (sym (L.invrets s t op ret)) (go (is_ok began.0) refl)
      where
        -- what the invocation came to
        begins : comparable began.0 ≡ true → on_invret Op Ret Object R.keeps (in_rust M R s) t op ret
            ≡ on_return_if Op Ret Object R.keeps (result_of began.0) (in_rust M R began.1) t ret
        begins c =
            ap (λ (a : Answered Op Ret Object R.keeps). on_return_if Op Ret Object R.keeps a.result a.tester t ret) (invoke_as_rust s g t op c)

        go : (b : Bool) → is_ok began.0 ≡ b → (let a = pick b ended began in
            comparable a.0 ≡ true → on_invret Op Ret Object R.keeps (in_rust M R s) t op ret ≡ answered M R (result_of a.0) (in_rust M R a.1))
        go true e c =
            begins (at_ok began.0 e).0
            ∙ ap (λ (x : RustResult). on_return_if Op Ret Object R.keeps x (in_rust M R began.1) t ret) (at_ok began.0 e).1
            ∙ return_as_rust began.1 (good_invoke M L s g t op) t ret c
            ∙ ap (answered M R (result_of ended.0))
            (no_stray (now_busy e (invoke_turn M L s g t op)) (return_turn M L began.1 (good_invoke M L s g t op) t ret))
        go false e c =
            begins c
            ∙ ap (λ (x : RustResult). on_return_if Op Ret Object R.keeps x (in_rust M R began.1) t ret) (at_err began.0 e)
            ∙ ap (λ (x : RustResult). answered M R x (in_rust M R began.1)) (sym (at_err began.0 e))
