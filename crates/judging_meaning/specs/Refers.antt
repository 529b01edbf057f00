-- What is asked of an abstract object and a reference object of the Rust, for a search to go the same way with both; and that the families and the
-- Rust's objects are so, for the operations of one family.
use Rattle.std.specs.Prelude.{ℕ, ◌≡◌, Bool, true}
use Rattle.std.proofs.Common.{ap, ◌∙◌}
use Rattle.history.specs.Object.{Object}
use Rattle.history.specs.Rows.{Entry, Rows, Is}
use Rattle.values.specs.Value.{pick}
use Rattle.families.specs.declared.family.Family.{Family}
use Rattle.families.specs.Family.{op_family}
use Rattle.families.specs.Families.{State, families, right, after}
use Rattle.families.specs.Placing.{leaves_wrong}
use Rattle.families.specs.RustObjects.{RefObj, SequentialSpec, ref_objects}
use Rattle.families.specs.RustFamilies.{holding, invoke_same, step_same}
use Rattle.families.specs.declared.Op.{Op}
use Rattle.families.specs.declared.Ret.{Ret}

-- Of the operations that are the object's own, which are all that the Rust's types let in; `held` is the Rust's object that holds a state.
pub record Refers (O : Object) (Obj : SequentialSpec O.Op O.Ret) (held : O.State → Obj.Self) (Own : O.Op → Type 0) : Type 0 where
  -- invoke answers and leaves what the abstract object does
  pub invokes : (s : O.State) (op : O.Op) → Own op → Obj.invoke (held s) op ≡ (O.answers s op, held (O.after s op))
  -- is_valid_step is true for a right return
  pub says : (s : O.State) (op : O.Op) (ret : O.Ret) → Own op → (Obj.is_valid_step (held s) op ret).0 ≡ O.ok s op ret
  -- and leaves then what the abstract object does
  pub leaves : (s : O.State) (op : O.Op) (ret : O.Ret) → Own op → O.ok s op ret ≡ true → (Obj.is_valid_step (held s) op ret).1 ≡ held (O.after s op)

-- All operations of rows are the object's own.
abbrev pub AllOwn : (O : Object) → Rows O → (O.Op → Type 0) → Type 0
AllOwn O rows Own = (t k : ℕ) (e : Entry O) → Is O rows t k e → Own e.op

pub families_refer : (f : Family) → Refers families ref_objects (holding f) (λ (op : Op). op_family op ≡ f)
families_refer f = record {
  invokes = λ s op own. rw (← own) (invoke_same s op);
  says = λ s op ret own. rw (← own) (ap (λ (x : Bool × RefObj). x.0) (step_same s op ret));
  leaves = λ s op ret own e. rw (← own) (ap (λ (x : Bool × RefObj). x.1) (step_same s op ret) ∙ left s op ret e);
}
  where
    left : (s : State) (op : Op) (ret : Ret) → right s op ret ≡ true
        → holding (op_family op) (pick (right s op ret) (after s op) (pick (leaves_wrong op ret) (after s op) s)) ≡ holding (op_family op) (after s op)
    left s op ret e = rw e
