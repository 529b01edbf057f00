-- Recording means what Meaning says, for both testers by one proof.
use Rattle.std.specs.Prelude.{ℕ, ◌≡◌, ◌↔◌, false}
use Rattle.std.proofs.Math.Path.{refl, ap}
use Rattle.std.proofs.Common.{sym, ◌∙◌, subst, Result, Ok, Err}
use Rattle.history.specs.Lists.{not_both}
use Rattle.history.specs.Rows.{Rows, operations}
use Rattle.history.specs.Notes.{Tells}
use Rattle.history.proofs.Notes.{fed_tells}
use Rattle.history.specs.Recorder.{extend, close, new as put}
use Rattle.families.specs.Objects.{zeros, new_stack}
use Rattle.families.specs.RefusalsExactly.{start_exactly}
use Rattle.families.specs.Families.{families}
use Rattle.families.specs.declared.Object.{Object}
use Rattle.families.specs.declared.Op.{Op}
use Rattle.families.specs.declared.Ret.{Ret}
use Rattle.stepping.specs.declared.histories.History.{History}
use Rattle.stepping.specs.declared.recorded.Reason.{Reason}
use Rattle.recording.specs.declared.linearizability.LinearizabilityTester.{LinearizabilityTester}
use Rattle.recording.specs.declared.sequential_consistency.SequentialConsistencyTester.{SequentialConsistencyTester}
use Rattle.stepping.specs.Record.{fresh}
use Rattle.stepping.specs.Shape.{InShape, NotesInShape}
use Rattle.stepping.specs.EventSteps.{breaks, size_of}
use Rattle.recording_meaning.specs.Beginning.{begun_clear, begun_refused}
use Rattle.recording_meaning.specs.Cases.{Barred, barred_keeps}
use Rattle.recording_meaning.specs.ShapeExactly.{shape_exactly, tester_exactly}
use Rattle.recording_meaning.specs.Shaping.{rows_shaped}
use Rattle.recording_meaning.specs.Models.{Model, tester_rows, Reached, sequential_model, linearizability_model}
use Rattle.recording_meaning.specs.Lawful.{Lawful, sequential_lawful, linearizability_lawful}
use Rattle.recording_meaning.specs.EventTurns.{
  good_of,
  InvokeTurn,
  invoke_refused,
  second,
  no_room,
  invoke_taken,
  ReturnTurn,
  return_refused,
  stray,
  return_taken,
  not_taken,
  invoke_turn,
  return_turn,
}
use Rattle.recording_meaning.specs.Reaching.{good_new, reached_good, reached_shaped}
use Rattle.recording_meaning.specs.Numbers.{MadeWhen}
use Rattle.recording_meaning.proofs.NumbersExactly.{invoke_exactly, return_exactly, made_exactly}
use Rattle.recording_meaning.specs.Inputs.{Inputs, feed, taken}
use Rattle.recording_meaning.proofs.TesterFeeding.{new_rows, new_valid, fed_rows, invalid_exactly, len_operations, len_invocations}
use Rattle.recording_meaning.proofs.Wellfed.{fed_history}
use Rattle.recording_meaning.proofs.Nines.{no_nine_invoke, no_nine_return, no_nine_invret, nine_invoke, nine_return, nine_invret}
use Rattle.recording_meaning.specs.Meaning.{Leaves, Fresh, NewLeaves, Means}
use Rattle.values.specs.declared.refusal.Refusal.{Refusal}

module _ (M : Model) (L : Lawful M) where
  refused_leaves : {s : M.Tester} {t : ℕ} {said : Result Unit Refusal} {rows : Rows families} {r : Reason} → Barred (M.history s) t said r → Leaves M s rows (Err r) s
  refused_leaves w = record { recorded = λ e. not_taken e refl; turned_off = λ e. not_both e (barred_keeps w); refused = λ e b. refl }

  invoke_leaves : {s next : M.Tester} {t : ℕ} {op : Op} {r : Result Unit Reason} → InvokeTurn M s t op r next
      → Leaves M s (extend families (tester_rows M s) t (put families M.keep (tester_rows M s) t op)) r next
  unfolding breaks
  invoke_leaves (invoke_refused w) = refused_leaves w
  invoke_leaves (second a b h w) = record { recorded = λ e. not_taken e refl; turned_off = λ e. (h, w); refused = λ e b. not_both refl b }
  invoke_leaves (no_room a b c) = record { recorded = λ e. not_taken e refl; turned_off = λ e. not_both e refl; refused = λ e b. refl }
  invoke_leaves (invoke_taken a b c h w) = record { recorded = λ e. w; turned_off = λ e. not_both e refl; refused = λ e b. not_both refl e }

  return_leaves : {s next : M.Tester} {t : ℕ} {ret : Ret} {r : Result Unit Reason} → ReturnTurn M s t ret r next
      → Leaves M s (close families (tester_rows M s) t ret) r next
  unfolding breaks
  return_leaves (return_refused w) = refused_leaves w
  return_leaves (stray a b h w) = record { recorded = λ e. not_taken e refl; turned_off = λ e. (h, w); refused = λ e b. not_both refl b }
  return_leaves (return_taken i a b h w) = record { recorded = λ e. w; turned_off = λ e. not_both e refl; refused = λ e b. not_both refl e }

  -- what constructors hand back

  new_fresh : (start o : Object) → M.history (M.new start) ≡ fresh o → Fresh M o (M.new start)
  unfolding fresh
  new_fresh start o e = record {
    starts = ap (λ (h : History). h.start) e;
    valid = new_valid M L start;
    no_rows = new_rows M L start;
    no_operations = len_operations M L (M.new start) (good_new M L start) ∙ ap (operations families) (new_rows M L start);
    blank = e;
  }

  new_leaves : (start : Object) (m : Result Unit Refusal) → M.made start ≡ m → NewLeaves M start m (M.new start)
  new_leaves start (Ok tt) e =
      let w = (made_exactly start (Ok tt)).0 (sym (L.makes start) ∙ e) in
      new_fresh start start ((L.begins start).0 ∙ begun_clear start ((start_exactly start.kind (Ok tt)).1 w))
  new_leaves start (Err r) e =
      let w = (made_exactly start (Err r)).0 (sym (L.makes start) ∙ e) in
      new_fresh start (new_stack zeros 0) ((L.begins start).0 ∙ begun_refused start r ((start_exactly start.kind (Err r)).1 w))

  len_out : (s : M.Tester) → M.shaped s ≡ false → M.len s ≡ 0
  unfolding size_of
  len_out s e = L.size s ∙ rw e

  pub meaning : Means M
  meaning = record {
    new_number = λ start m. subst (λ (x : Result Unit Refusal). (x ≡ m) ↔ MadeWhen start m) (sym (L.makes start)) (made_exactly start m);
    new_leaves = new_leaves;
    in_shape = λ w. reached_shaped M L w;
    no_nine_invoke = λ {s} w. no_nine_invoke M L s (reached_shaped M L w);
    no_nine_return = λ {s} w. no_nine_return M L s (reached_shaped M L w);
    no_nine_invret = λ {s} w. no_nine_invret M L s (reached_good M L w);
    nine_invoke = nine_invoke M L;
    nine_return = nine_return M L;
    nine_invret = λ s z t. nine_invret M L s t z;
    invoke_number = invoke_exactly M L;
    return_number = return_exactly M L;
    invret_is = L.invrets;
    rows_in_shape = λ s z e. rows_shaped (M.needs s) (M.history s) (good_of M L s z e).parts;
    len_is = λ s z e. len_operations M L s (good_of M L s z e);
    len_out = len_out;
    invoke_rows = λ s z e t op. invoke_leaves (invoke_turn M L s (good_of M L s z e) t op);
    return_rows = λ s z e t ret. return_leaves (return_turn M L s (good_of M L s z e) t ret);
    fed = fed_rows M L;
    invalid_if = invalid_exactly M L;
    len_fed = len_invocations M L;
    all_recorded = fed_history M L;
  }

pub sequential_meaning : Means sequential_model
sequential_meaning = meaning sequential_model sequential_lawful

pub linearizability_meaning : Means linearizability_model
linearizability_meaning = meaning linearizability_model linearizability_lawful

-- Every tester that constructors and calls make has the shape that is spelt out.

pub sequential_in_shape : {s : SequentialConsistencyTester} → Reached sequential_model s → InShape s.history
sequential_in_shape {s} w =
    (shape_exactly s.history (reached_good sequential_model sequential_lawful w).sized).1 (sequential_meaning.in_shape w)

pub linearizability_in_shape : {s : LinearizabilityTester} → Reached linearizability_model s → InShape s.history × NotesInShape s.history s.notes
linearizability_in_shape {s} w =
    (tester_exactly s (reached_good linearizability_model linearizability_lawful w).sized).1 (linearizability_meaning.in_shape w)

-- For the linearizability tester, the notes say exactly what the recorded events say of time.
pub notes_tell : (start : Object) (l : Inputs) → (let s = linearizability_model.new start in
    Tells families (taken linearizability_model s l) (tester_rows linearizability_model (feed linearizability_model s l)))
notes_tell start l = fed_tells families (fed_rows linearizability_model linearizability_lawful start l)
