-- Recording is the Rust's along any inputs that it knows.
use Rattle.std.specs.Prelude.{ℕ, ◌+◌, ◌≡◌, refl, true, false, [], ◌∷◌, map, length, is_ok}
use Rattle.std.proofs.Common.{sym, ◌∙◌, subst, arith, Result, Ok, Err}
use Rattle.std.proofs.Math.Path.{ap}
use Rattle.history.specs.Lists.{not_both, and_left, and_right}
use Rattle.values.specs.Value.{pick}
use Rattle.families.specs.Families.{families}
use Rattle.families.specs.declared.Kind.{Kind}
use Rattle.families.specs.declared.Object.{Object}
use Rattle.families.specs.declared.Op.{Op}
use Rattle.families.specs.declared.Ret.{Ret}
use Rattle.stepping.specs.declared.histories.History.{History}
use Rattle.stepping.specs.declared.recorded.Reason.{Reason}
use Rattle.stepping.specs.declared.recorded.Reason.TheVariants.{AlreadyInvalid}
use Rattle.recording_meaning.specs.Rust.{Answered, Err as RustErr, new, with_entry, len}
use Rattle.recording_meaning.specs.RustMaps.{tabled, flight_entry}
use Rattle.recording_meaning.proofs.RustSteps.{len_operations as maps_len, stray_lengths}
use Rattle.stepping.specs.Shape.{kind_of}
use Rattle.recording_meaning.specs.Rowing.{rows_many}
use Rattle.recording_meaning.specs.Shaping.{rows_shaped}
use Rattle.recording_meaning.specs.Cases.{Barred, invalid, stranger, foreign}
use Rattle.recording_meaning.specs.Models.{Model, tester_rows, sequential_model, linearizability_model}
use Rattle.recording_meaning.specs.Lawful.{Lawful, sequential_lawful, linearizability_lawful}
use Rattle.recording_meaning.specs.EventTurns.{
  Good,
  good_of,
  InvokeTurn,
  invoke_refused,
  second,
  no_room,
  invoke_taken,
  ReturnTurn,
  return_refused,
  stray,
  return_taken,
  invoke_turn,
  return_turn,
}
use Rattle.recording_meaning.specs.Reaching.{good_new}
use Rattle.recording_meaning.specs.Inputs.{Input, invoke, return, invret, Inputs, events_in, Own, give, feed, drawn}
use Rattle.recording_meaning.proofs.TesterFeeding.{good_give, good_feed, len_operations, new_count}
use Rattle.recording_meaning.proofs.Meant.{meaning}
use Rattle.recording_meaning.specs.RustReading.{
  InRust,
  result_of,
  comparable,
  all_comparable,
  RustTester,
  answered,
  in_rust,
  left_by,
  StandsFor,
  exactly,
  strayed,
  rust_new,
  rust_give,
  rust_feed,
  rust_drawn,
  SameAsRust,
  AsRust,
  sequential_in_rust,
  linearizability_in_rust,
}
use Rattle.recording_meaning.proofs.Fitting.{all_fit}
use Rattle.recording_meaning.specs.RustAgrees.{TakesAlong}
use Rattle.recording_meaning.proofs.RustAgrees.{sequential_takes, linearizability_takes, same_maps, invoke_as_rust, return_as_rust, invret_as_rust}
use Rattle.values.specs.declared.refusal.Refusal.{Refusal}

module _ (M : Model) (R : InRust M) where
  -- The Rust's answer a agrees with number r and the tester after it.
  record Agrees (r : Result Unit Reason) (next : M.Tester) (a : Answered Op Ret Object R.keeps) : Type 0 where
    result : a.result ≡ result_of r
    stands : StandsFor M R next a.tester

module _ (M : Model) (L : Lawful M) (R : InRust M) (along : TakesAlong M R) where
  -- once validity is off

  rust_off : (T : RustTester M R) (v : Input) → T.is_valid_history ≡ false → rust_give M R T v ≡ answered M R RustErr T
  rust_off T (invoke t op) e = rw e
  rust_off T (return t ret) e = rw e
  rust_off T (invret t op ret) e = rw e

  off_barred : {h : History} {t : ℕ} {said : Result Unit Refusal} {r : Reason} → h.valid ≡ false → Barred h t said r → ◌≡◌ {A = Result Unit Reason} (Err r) (Err AlreadyInvalid)
  off_barred e (invalid v) = refl
  off_barred e (stranger v k) = not_both v e
  off_barred e (foreign v k f) = not_both v e

  off_invoke : {s next : M.Tester} {t : ℕ} {op : Op} {r : Result Unit Reason} → (M.history s).valid ≡ false → InvokeTurn M s t op r next
      → (r ≡ Err AlreadyInvalid) × (next ≡ s)
  off_invoke e (invoke_refused w) = (off_barred e w, refl)
  off_invoke e (second a b h w) = not_both a.valid e
  off_invoke e (no_room a b k) = not_both a.valid e
  off_invoke e (invoke_taken a b k h w) = not_both a.valid e

  off_return : {s next : M.Tester} {t : ℕ} {ret : Ret} {r : Result Unit Reason} → (M.history s).valid ≡ false → ReturnTurn M s t ret r next
      → (r ≡ Err AlreadyInvalid) × (next ≡ s)
  off_return e (return_refused w) = (off_barred e w, refl)
  off_return e (stray a b h w) = not_both a.valid e
  off_return e (return_taken i a b h w) = not_both a.valid e

  off_give : (s : M.Tester) → Good M L s → (v : Input) → (M.history s).valid ≡ false → ((give M s v).0 ≡ Err AlreadyInvalid) × ((give M s v).1 ≡ s)
  off_give s g (invoke t op) e = off_invoke e (invoke_turn M L s g t op)
  off_give s g (return t ret) e = off_return e (return_turn M L s g t ret)
  off_give s g (invret t op ret) e =
      let o = off_invoke e (invoke_turn M L s g t op) in
      let w : M.on_invret s t op ret ≡ M.on_invoke s t op
      = L.invrets s t op ret ∙ ap (λ (r : Result Unit Reason). pick (is_ok r) (M.on_return (M.on_invoke s t op).1 t ret) (M.on_invoke s t op)) o.0 in
      (ap (λ (a : Result Unit Reason × M.Tester). a.0) w ∙ o.0, ap (λ (a : Result Unit Reason × M.Tester). a.1) w ∙ o.1)

  -- what a return leaves stands for the tester after it
  left_stands : {s next : M.Tester} {t : ℕ} {ret : Ret} {r : Result Unit Reason} → ReturnTurn M s t ret r next → StandsFor M R next (left_by M R r (in_rust M R next) t)
  left_stands (return_refused (invalid v)) = exactly
  left_stands (return_refused (stranger v k)) = exactly
  left_stands (return_refused (foreign v k f)) = exactly
  left_stands {t = t} (stray a b h w) = strayed t a.known (ap (λ (x : History). x.valid) h)
  left_stands (return_taken i a b h w) = exactly

  -- One input: the same answer, and the Rust's tester goes on standing for the tester.
  agrees : (s : M.Tester) {T : RustTester M R} → Good M L s → StandsFor M R s T → (v : Input) → comparable (give M s v).0 ≡ true
      → Agrees M R (give M s v).0 (give M s v).1 (rust_give M R T v)
  agrees s g exactly (invoke t op) c =
      subst (Agrees M R (M.on_invoke s t op).0 (M.on_invoke s t op).1) (sym (invoke_as_rust M L R along s g t op c))
      (record { result = refl; stands = exactly })
  agrees s g exactly (return t ret) c =
      subst (Agrees M R (M.on_return s t ret).0 (M.on_return s t ret).1) (sym (return_as_rust M L R along s g t ret c))
      (record { result = refl; stands = left_stands (return_turn M L s g t ret) })
  agrees s g exactly (invret t op ret) c =
      subst (Agrees M R (M.on_invret s t op ret).0 (M.on_invret s t op ret).1) (sym (invret_as_rust M L R along s g t op ret c))
      (record { result = refl; stands = exactly })
  agrees s g (strayed u l b) v c =
      let T = with_entry Op Ret Object R.keeps (in_rust M R s) u in
      let o = off_give s g v b in
      subst (Agrees M R (give M s v).0 (give M s v).1) (sym (rust_off T v b)) (record {
        result = ap result_of (sym o.0);
        stands = subst (λ (x : M.Tester). StandsFor M R x T) (sym o.1) (strayed u l b);
      })

  -- len is the same.

  len_in_rust : (s : M.Tester) → Good M L s → len Op Ret Object R.keeps (in_rust M R s) ≡ M.len s
  len_in_rust s g =
      maps_len families R.keeps R.flight 0 (tester_rows M s) (rows_shaped (M.needs s) (M.history s) g.parts) ∙ sym (len_operations M L s g)

  len_agrees : (s : M.Tester) {T : RustTester M R} → Good M L s → StandsFor M R s T → len Op Ret Object R.keeps T ≡ M.len s
  len_agrees s g exactly = len_in_rust s g
  len_agrees s g (strayed u l b) =
      ap (λ (n : ℕ). length (tabled (flight_entry families R.keeps R.flight) 0 (tester_rows M s)) + n)
      (stray_lengths families R.keeps R.flight (tester_rows M s) u (rw (rows_many (M.needs s) (M.history s)) l))
      ∙ len_in_rust s g

  -- along the inputs

  run_agrees : (l : Inputs) (s : M.Tester) {T : RustTester M R} → Good M L s → StandsFor M R s T → all_comparable (drawn M s l) ≡ true
      → (rust_drawn M R T l ≡ map result_of (drawn M s l)) × StandsFor M R (feed M s l) (rust_feed M R T l)
  run_agrees [] s g w c = (refl, w)
  run_agrees (v ∷ l) s g w c =
      let a = agrees s g w v (and_left (comparable (give M s v).0) (all_comparable (drawn M (give M s v).1 l)) c) in
      let r = run_agrees l (give M s v).1 (good_give M L s g v) a.stands
      (and_right (comparable (give M s v).0) (all_comparable (drawn M (give M s v).1 l)) c) in
      (rw (a.result, r.0), r.1)

  -- the start that was given is the one that the tester is made with
  new_stands : (start : Object) → M.made start ≡ Ok tt → StandsFor M R (M.new start) (rust_new M R start)
  new_stands start e =
      let w = (meaning M L).new_leaves start (Ok tt) e in
      subst (StandsFor M R (M.new start))
      (same_maps M R (M.new start) (M.new start) refl w.no_rows w.valid ∙ ap (new Op Ret Object R.keeps) w.starts) exactly

  -- From fresh, for all inputs that draw 0, 1, 4 and 5.
  same_as_rust : (start : Object) → M.made start ≡ Ok tt → (l : Inputs) → all_comparable (drawn M (M.new start) l) ≡ true → SameAsRust M R start l
  same_as_rust start e l c =
      let g = good_new M L start in
      let w = run_agrees l (M.new start) g (new_stands start e) c in
      record { results = w.0; stands = w.1; lens = len_agrees (feed M (M.new start) l) (good_feed M L l (M.new start) g) w.1 }

  -- While the history is valid, the Rust's tester is exactly what the tester reads as.
  valid_exactly : (s : M.Tester) {T : RustTester M R} → (M.history s).valid ≡ true → StandsFor M R s T → T ≡ in_rust M R s
  valid_exactly s v exactly = refl
  valid_exactly s v (strayed t l b) = not_both v b

  -- the kind of the start that was given
  new_kind : (start : Object) → M.made start ≡ Ok tt → kind_of (M.history (M.new start)) ≡ start.kind
  new_kind start e = ap (λ (o : Object). o.kind) ((meaning M L).new_leaves start (Ok tt) e).starts

  pub as_rust : AsRust M R
  as_rust = record {
    invoke_as = λ s z e. invoke_as_rust M L R along s (good_of M L s z e);
    return_as = λ s z e. return_as_rust M L R along s (good_of M L s z e);
    invret_as = λ s z e. invret_as_rust M L R along s (good_of M L s z e);
    run_as = same_as_rust;
    in_sizes = λ start e l w.
        same_as_rust start e l (all_fit M L l (M.new start) (good_new M L start) w.known
        (subst (λ (k : Kind). Own k (events_in l)) (sym (new_kind start e)) w.own) (omega (arith, w.room, new_count M L start)));
    while_valid = λ s v w. valid_exactly s v w;
  }

pub sequential_as_rust : AsRust sequential_model sequential_in_rust
sequential_as_rust = as_rust sequential_model sequential_lawful sequential_in_rust sequential_takes

pub linearizability_as_rust : AsRust linearizability_model linearizability_in_rust
linearizability_as_rust = as_rust linearizability_model linearizability_lawful linearizability_in_rust linearizability_takes
