-- What an invocation that is taken tells, and the notes that it leaves.
use Rattle.std.proofs.Common.{ℕ, ◌<◌, ◌≡◌, refl, sym, ap, ◌∙◌, Bool, true, false, List, ltb-true, Option, Some, None, Result, Ok, Err}
use Rattle.std.specs.Prelude.{ltb, is_ok}
use Rattle.values.specs.Value.{pick}
use Rattle.values.specs.Sizes.{threads, capacity}
use Rattle.families.specs.Refusals.{op_belongs}
use Rattle.families.specs.declared.Op.{Op}
use Rattle.stepping.specs.declared.histories.History.{History}
use Rattle.stepping.specs.declared.recorded.Reason.TheVariants.{AlreadyInvalid, NoSuchThread, OutOfShape}
use Rattle.stepping.specs.declared.step.Step.{Step}
use Rattle.recording.specs.declared.linearizability.LinearizabilityTester.{LinearizabilityTester}
use Rattle.stepping.specs.Record.{find_flying}
use Rattle.stepping.specs.Shape.{kind_of}
use Rattle.stepping.specs.EventSteps.{unless, refuse, owned, invoke_by, invoke_of}
use Rattle.recording.specs.Testers.{shaped_tester, notes_after, linearizability_after, invoked_by, linearizability_invoke}
use Rattle.shape.specs.Notes.{notes_with}
use Rattle.stepping.specs.RecordLaws.{never}
use Rattle.shape.specs.Notes.{noted_at}
use Rattle.shape.proofs.NotesLaws.{noted_in}
use Rattle.values.specs.declared.refusal.Refusal.{Refusal}

-- there is room, and the thread is one of the eight
pub taken_in : (shaped : Bool) (h : History) (t : ℕ) (op : Op) (s : Step) → s ≡ invoke_of shaped h t op → is_ok s.recorded ≡ true
    → (h.count < capacity) × (t < threads)
unfolding invoke_of
taken_in shaped h t op s e k =
    go shaped h.valid (ltb t threads) refl (op_belongs (kind_of h) op) (find_flying t h) (ltb h.count capacity) refl
    (sym (ap (λ (s : Step). is_ok s.recorded) e) ∙ k)
  where
    go : (a b c : Bool) → ltb t threads ≡ c → (d : Result Unit Refusal) (r : Option ℕ) (m : Bool) → ltb h.count capacity ≡ m
        → is_ok (unless a (refuse OutOfShape h) (unless b (refuse AlreadyInvalid h) (unless c (refuse NoSuchThread h) (owned d h (invoke_by r h t op))))
        ).recorded ≡ true
        → (h.count < capacity) × (t < threads)
    go false b c p d r m q z = never z
    go true false c p d r m q z = never z
    go true true false p d r m q z = never z
    go true true true p (Err e) r m q z = never z
    go true true true p (Ok tt) (Some i) m q z = never z
    go true true true p (Ok tt) None false q z = never (rw q at z)
    go true true true p (Ok tt) None true q z = (ltb-true _ _ q, ltb-true _ _ p)

module _ (t : LinearizabilityTester) (thread : ℕ) (op : Op) (s : Step) (e : s ≡ invoke_of (shaped_tester t) t.history thread op) where
  written : List ℕ
  written = notes_with t.history.done thread t.history.count t.notes threads

  either : {b : Bool} → is_ok s.recorded ≡ b → pick b written t.notes ≡ notes_after t thread s
  unfolding written
  either k = sym (ap (λ (b : Bool). pick b written t.notes) k)

  pub invoked_yes : is_ok s.recorded ≡ true → (notes : List ℕ)
      → notes ≡ noted_at t.history.done thread t.history.count t.notes → linearizability_after s notes ≡ linearizability_invoke t thread op
  unfolding linearizability_invoke written
  invoked_yes k notes n =
      let l = (taken_in (shaped_tester t) t.history thread op s e k).0 in
      ap (linearizability_after s) (n ∙ noted_in t.history.done thread t.history.count t.notes l ∙ either k) ∙ ap (invoked_by t thread) e

  pub invoked_no : is_ok s.recorded ≡ false → linearizability_after s t.notes ≡ linearizability_invoke t thread op
  unfolding linearizability_invoke
  invoked_no k = ap (linearizability_after s) (either k) ∙ ap (invoked_by t thread) e
