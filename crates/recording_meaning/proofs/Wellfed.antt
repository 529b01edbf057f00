-- Inputs whose events history's recorder can be fed, of the object's own and within the tester's room, are all recorded, and leave the rows that
-- history says.
use Rattle.std.specs.Prelude.{ℕ, ◌+◌, ◌<◌, ◌≤◌, ◌≡◌, true, false, [], ◌∷◌, ◌++◌, length, is_ok}
use Rattle.std.proofs.Math.Path.{refl, ap, subst}
use Rattle.std.proofs.Common.{sym, ◌∙◌, arith, Result, Ok}
use Rattle.history.specs.Events.{Events, invoked, returned}
use Rattle.history.specs.Rows.{Rows, row}
use Rattle.history.specs.Recorder.{flying, extend, close, new as put, Feeds, fed, invokes, gives_back, Fed}
use Rattle.values.specs.Sizes.{threads, capacity}
use Rattle.values.specs.Value.{pick}
use Rattle.families.specs.Families.{families}
use Rattle.families.specs.declared.Kind.{Kind}
use Rattle.families.specs.declared.Object.{Object}
use Rattle.families.specs.declared.Op.{Op}
use Rattle.families.specs.declared.Ret.{Ret}
use Rattle.stepping.specs.declared.histories.History.{History}
use Rattle.stepping.specs.Shape.{kind_of}
use Rattle.recording_meaning.specs.Rowing.{rows_many}
use Rattle.recording_meaning.specs.Numbers.{op_said, ret_said, Fine}
use Rattle.recording_meaning.specs.Models.{Model, tester_rows}
use Rattle.recording_meaning.specs.Lawful.{Lawful}
use Rattle.recording_meaning.specs.EventTurns.{
  Good,
  good_shaped,
  InvokeTurn,
  invoke_refused,
  second,
  no_room,
  invoke_taken,
  ReturnTurn,
  return_refused,
  stray,
  return_taken,
  not_taken,
  invoke_turn,
  return_turn,
}
use Rattle.recording_meaning.specs.Reaching.{good_new, good_invoke, good_return}
use Rattle.recording_meaning.proofs.NumbersExactly.{invoke_exactly, return_exactly}
use Rattle.recording_meaning.specs.Inputs.{Input, invoke, return, invret, Inputs, named, events_in, Own, invocations_in, give, takes, Wellfed}
use Rattle.recording_meaning.proofs.TesterFeeding.{new_rows, new_valid, new_count}
use Rattle.stepping.specs.declared.recorded.Reason.{Reason}

module _ (M : Model) (L : Lawful M) where
  -- what stays true of the tester after an event that is taken
  record Next (s next : M.Tester) (rows : Rows families) (more : ℕ) : Type 0 where
    valid : (M.history next).valid ≡ true
    own : kind_of (M.history next) ≡ kind_of (M.history s)
    count : (M.history next).count ≡ (M.history s).count + more
    reads : tester_rows M next ≡ rows

  next_invoke : {s next : M.Tester} {t : ℕ} {op : Op} {r : Result Unit Reason} → r ≡ Ok tt → InvokeTurn M s t op r next
      → Next s next (extend families (tester_rows M s) t (put families M.keep (tester_rows M s) t op)) 1
  next_invoke e (invoke_refused w) = not_taken e refl
  next_invoke e (second a b h w) = not_taken e refl
  next_invoke e (no_room a b c) = not_taken e refl
  next_invoke e (invoke_taken a b c h w) = record {
    valid = ap (λ (x : History). x.valid) h ∙ a.valid;
    own = ap kind_of h;
    count = ap (λ (x : History). x.count) h;
    reads = w;
  }

  next_return : {s next : M.Tester} {t : ℕ} {ret : Ret} {r : Result Unit Reason} → r ≡ Ok tt → ReturnTurn M s t ret r next
      → Next s next (close families (tester_rows M s) t ret) 0
  next_return e (return_refused w) = not_taken e refl
  next_return e (stray a b h w) = not_taken e refl
  next_return e (return_taken i a b h w) = record {
    valid = ap (λ (x : History). x.valid) h ∙ a.valid;
    own = ap kind_of h;
    count = ap (λ (x : History). x.count) h ∙ omega arith;
    reads = w;
  }

  feeds_invoke : {rows end : Rows families} {t : ℕ} {op : Op} {H : Events families} → Feeds families M.keep rows (invoked t op ∷ H) end
      → (t < length rows) × (flying families (row families rows t) ≡ false)
      × Feeds families M.keep (extend families rows t (put families M.keep rows t op)) H end
  feeds_invoke (invokes l f w) = (l, f, w)

  feeds_return : {rows end : Rows families} {t : ℕ} {ret : Ret} {H : Events families} → Feeds families M.keep rows (returned t ret ∷ H) end
      → (t < length rows) × (flying families (row families rows t) ≡ true) × Feeds families M.keep (close families rows t ret) H end
  feeds_return (gives_back l f w) = (l, f, w)

  feeds_end : {rows end : Rows families} → Feeds families M.keep rows [] end → rows ≡ end
  feeds_end fed = refl

  -- A tester in shape that the events H can be fed to.
  record Ready (s : M.Tester) (H : Events families) (end : Rows families) : Type 0 where
    good : Good M L s
    valid : (M.history s).valid ≡ true
    own : Own (kind_of (M.history s)) H
    room : (M.history s).count + invocations_in H ≤ capacity
    feeds : Feeds families M.keep (tester_rows M s) H end

  -- what is ready for an event takes it, and is ready for the next

  takes_invoke : {s : M.Tester} {t : ℕ} {op : Op} {H : Events families} {end : Rows families} → Ready s (invoked t op ∷ H) end
      → ((M.on_invoke s t op).0 ≡ Ok tt) × Ready (M.on_invoke s t op).1 H end
  takes_invoke {s} {t} {op} {H} {end} r =
      let f = feeds_invoke r.feeds in
      let a : Fine M s t (op_said M s op) = record {
        in_shape = good_shaped M L s r.good;
        valid = r.valid;
        known = omega (arith, f.0, rows_many (M.needs s) (M.history s));
        own = r.own.0;
      } in
      let e = (invoke_exactly M L s t op (Ok tt)).1 (a, (f.1, omega (arith, r.room))) in
      let n = next_invoke e (invoke_turn M L s r.good t op) in (
        e,
        record {
          good = good_invoke M L s r.good t op;
          valid = n.valid;
          own = subst (λ (k : Kind). Own k H) (sym n.own) r.own.1;
          room = omega (arith, n.count, r.room);
          feeds = subst (λ (rows : Rows families). Feeds families M.keep rows H end) (sym n.reads) f.2;
        },
      )

  takes_return : {s : M.Tester} {t : ℕ} {ret : Ret} {H : Events families} {end : Rows families} → Ready s (returned t ret ∷ H) end
      → ((M.on_return s t ret).0 ≡ Ok tt) × Ready (M.on_return s t ret).1 H end
  takes_return {s} {t} {ret} {H} {end} r =
      let f = feeds_return r.feeds in
      let a : Fine M s t (ret_said M s ret) = record {
        in_shape = good_shaped M L s r.good;
        valid = r.valid;
        known = omega (arith, f.0, rows_many (M.needs s) (M.history s));
        own = r.own.0;
      } in
      let e = (return_exactly M L s t ret (Ok tt)).1 (a, f.1) in
      let n = next_return e (return_turn M L s r.good t ret) in (
        e,
        record {
          good = good_return M L s r.good t ret;
          valid = n.valid;
          own = subst (λ (k : Kind). Own k H) (sym n.own) r.own.1;
          room = omega (arith, n.count, r.room);
          feeds = subst (λ (rows : Rows families). Feeds families M.keep rows H end) (sym n.reads) f.2;
        },
      )

  -- and for an input
  takes_input : (v : Input) {s : M.Tester} {H : Events families} {end : Rows families} → Ready s (named v ++ H) end
      → (takes M s v ≡ named v) × Ready (give M s v).1 H end
  takes_input (invoke t op) r = let a = takes_invoke r in (rw a.0, a.1)
  takes_input (return t ret) r = let a = takes_return r in (rw a.0, a.1)
  takes_input (invret t op ret) {s} {H} {end} r =
      let a = takes_invoke r in
      let b = takes_return a.1 in
      let e : M.on_invret s t op ret ≡ M.on_return (M.on_invoke s t op).1 t ret
      = L.invrets s t op ret ∙ ap (λ (x : Result Unit Reason). pick (is_ok x) (M.on_return (M.on_invoke s t op).1 t ret) (M.on_invoke s t op)) a.0 in
      (rw (a.0, e, b.0), subst (λ (x : Result Unit Reason × M.Tester). Ready x.1 H end) (sym e) b.1)

  wellfed : (l : Inputs) {s : M.Tester} {end : Rows families} → Ready s (events_in l) end → Wellfed M s l end
  wellfed [] r = record { all_taken = refl; valid = r.valid; reads = feeds_end r.feeds }
  wellfed (v ∷ l) r =
      let a = takes_input v r in
      let w = wellfed l a.1 in
      record { all_taken = rw (a.0, w.all_taken); valid = w.valid; reads = w.reads }

  -- Fed from fresh: all is recorded, the history is valid, and the rows are history's.
  pub fed_history : (start : Object) (l : Inputs) (rows : Rows families) → Own (kind_of (M.history (M.new start))) (events_in l)
      → invocations_in (events_in l) ≤ capacity → Fed families M.keep threads (events_in l) rows → Wellfed M (M.new start) l rows
  fed_history start l rows o c w =
      wellfed l (record {
        good = good_new M L start;
        valid = new_valid M L start;
        own = o;
        room = omega (arith, new_count M L start);
        feeds = subst (λ (r : Rows families). Feeds families M.keep r (events_in l) rows) (sym (new_rows M L start)) w.from_fresh;
      })
