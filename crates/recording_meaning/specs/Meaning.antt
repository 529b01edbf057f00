-- What recording means, for both testers by one proof.
use Rattle.std.specs.Prelude.{ℕ, ◌≤◌, ◌≡◌, ◌≢◌, ◌↔◌, true, false, [], replicate, Result, Ok, Err, is_ok}
use Rattle.history.specs.Rows.{Rows, AllShaped, operations}
use Rattle.history.specs.Recorder.{extend, close, new as put, Fed}
use Rattle.values.specs.Sizes.{threads, capacity}
use Rattle.values.specs.Value.{pick}
use Rattle.families.specs.Families.{families}
use Rattle.families.specs.Objects.{zeros, new_stack}
use Rattle.families.specs.declared.Object.{Object}
use Rattle.families.specs.declared.Op.{Op}
use Rattle.families.specs.declared.Ret.{Ret}
use Rattle.stepping.specs.Record.{fresh, invalidated}
use Rattle.stepping.specs.Shape.{kind_of}
use Rattle.stepping.specs.EventSteps.{number_of}
use Rattle.recording_meaning.specs.Models.{Model, tester_rows, Reached}
use Rattle.recording_meaning.specs.Numbers.{InvokeWhen, ReturnWhen, MadeWhen}
use Rattle.recording_meaning.specs.Inputs.{Inputs, events_in, broke, broken, Own, invocations_in, feed, drawn, taken, Wellfed}
use Rattle.values.specs.declared.refusal.Refusal.{Refusal}
use Rattle.stepping.specs.declared.recorded.Reason.{Reason}

module _ (M : Model) where
  -- What a call that answers r makes of a tester, where rows is what comes of its rows if the event is recorded.
  pub record Leaves (s : M.Tester) (rows : Rows families) (r : Result Unit Reason) (next : M.Tester) : Type 0 where
    -- 0: the rows
    pub recorded : r ≡ Ok tt → tester_rows M next ≡ rows
    -- 4 and 5: validity off, the rest and the rows as they were
    pub turned_off : broke r ≡ true → (M.history next ≡ invalidated (M.history s)) × (tester_rows M next ≡ tester_rows M s)
    -- any other number: the tester as it came
    pub refused : is_ok r ≡ false → broke r ≡ false → next ≡ s

  -- A fresh tester of an initial object: that very object with its items, a valid history, and no operation of any thread.
  pub record Fresh (start : Object) (s : M.Tester) : Type 0 where
    pub starts : (M.history s).start ≡ start
    pub valid : (M.history s).valid ≡ true
    pub no_rows : tester_rows M s ≡ replicate threads []
    pub no_operations : M.len s ≡ 0
    -- with blanks in every place
    pub blank : M.history s ≡ fresh start

  -- What a constructor that answers m hands back: for 0 a fresh tester of the start given, for 8 and 9 one of the empty stack.
  abbrev pub NewLeaves : Object → Result Unit Refusal → M.Tester → Type 0
  NewLeaves start (Ok tt) s = Fresh start s
  NewLeaves start (Err r) s = Fresh (new_stack zeros 0) s

  -- 9 is given to the tester s exactly if it is out of shape, and hands it back as it came; a is what the call answers and leaves.
  pub record NineKeeps (s : M.Tester) (a : Result Unit Reason × M.Tester) : Type 0 where
    pub exactly : (number_of a.0 ≡ 9) ↔ (M.shaped s ≡ false)
    pub keeps : M.shaped s ≡ false → a.1 ≡ s

  pub record Means : Type 0 where
    -- a constructor gives each number exactly under its condition, and hands back what belongs to it
    pub new_number : (start : Object) (m : Result Unit Refusal) → (M.made start ≡ m) ↔ MadeWhen start m
    pub new_leaves : (start : Object) (m : Result Unit Refusal) → M.made start ≡ m → NewLeaves start m (M.new start)
    -- every tester that constructors and calls make is in shape
    pub in_shape : {s : M.Tester} → Reached M s → M.shaped s ≡ true
    -- so that none of them gets 9
    pub no_nine_invoke : {s : M.Tester} → Reached M s → (t : ℕ) (op : Op) → number_of (M.on_invoke s t op).0 ≢ 9
    pub no_nine_return : {s : M.Tester} → Reached M s → (t : ℕ) (ret : Ret) → number_of (M.on_return s t ret).0 ≢ 9
    pub no_nine_invret : {s : M.Tester} → Reached M s → (t : ℕ) (op : Op) (ret : Ret) → number_of (M.on_invret s t op ret).0 ≢ 9
    -- whatever the record, 9 exactly if it is out of shape, and then the tester as it came
    pub nine_invoke : (s : M.Tester) (t : ℕ) (op : Op) → NineKeeps s (M.on_invoke s t op)
    pub nine_return : (s : M.Tester) (t : ℕ) (ret : Ret) → NineKeeps s (M.on_return s t ret)
    pub nine_invret : (s : M.Tester) → M.Lengths s → (t : ℕ) (op : Op) (ret : Ret) → NineKeeps s (M.on_invret s t op ret)
    -- each number exactly under its condition
    pub invoke_number : (s : M.Tester) (t : ℕ) (op : Op) (r : Result Unit Reason) → ((M.on_invoke s t op).0 ≡ r) ↔ InvokeWhen M s t op r
    pub return_number : (s : M.Tester) (t : ℕ) (ret : Ret) (r : Result Unit Reason) → ((M.on_return s t ret).0 ≡ r) ↔ ReturnWhen M s t ret r
    -- on_invret answers and leaves what the two calls in turn do; a refused invocation stands
    pub invret_is : (s : M.Tester) (t : ℕ) (op : Op) (ret : Ret) → M.on_invret s t op ret
        ≡ pick (is_ok (M.on_invoke s t op).0) (M.on_return (M.on_invoke s t op).1 t ret) (M.on_invoke s t op)
    -- a tester in shape reads as rows in shape, of as many operations as len says
    pub rows_in_shape : (s : M.Tester) → M.Lengths s → M.shaped s ≡ true → AllShaped families (tester_rows M s)
    pub len_is : (s : M.Tester) → M.Lengths s → M.shaped s ≡ true → M.len s ≡ operations families (tester_rows M s)
    -- out of shape it is 0
    pub len_out : (s : M.Tester) → M.shaped s ≡ false → M.len s ≡ 0
    -- and events make of them what history's recorder does
    pub invoke_rows : (s : M.Tester) → M.Lengths s → M.shaped s ≡ true → (t : ℕ) (op : Op)
        → Leaves s (extend families (tester_rows M s) t (put families M.keep (tester_rows M s) t op)) (M.on_invoke s t op).0 (M.on_invoke s t op).1
    pub return_rows : (s : M.Tester) → M.Lengths s → M.shaped s ≡ true → (t : ℕ) (ret : Ret)
        → Leaves s (close families (tester_rows M s) t ret) (M.on_return s t ret).0 (M.on_return s t ret).1
    -- fed from fresh, whatever the inputs, of the three calls in any order: the rows are those of the events recorded
    pub fed : (start : Object) (l : Inputs) → Fed families M.keep threads (taken M (M.new start) l) (tester_rows M (feed M (M.new start) l))
    -- validity is off exactly if some input drew 4 or 5 at its turn
    pub invalid_if : (start : Object) (l : Inputs) → (M.history (feed M (M.new start) l)).valid ≡ false ↔ broken (drawn M (M.new start) l) ≡ true
    -- len counts the invocations recorded
    pub len_fed : (start : Object) (l : Inputs) → M.len (feed M (M.new start) l) ≡ invocations_in (taken M (M.new start) l)
    -- inputs whose events history's recorder can be fed, of the object's own and at most 64 of them invocations, are all recorded and leave its rows
    pub all_recorded : (start : Object) (l : Inputs) (rows : Rows families) → Own (kind_of (M.history (M.new start))) (events_in l)
        → invocations_in (events_in l) ≤ capacity → Fed families M.keep threads (events_in l) rows → Wellfed M (M.new start) l rows
