-- A file loads alike into both testers: the sequential tester has the linearizability tester's history.
use Rattle.std.specs.Prelude.{ℕ, zero, suc, ◌+◌, ◌≡◌, Bool, true, false, List, [], ◌∷◌, eqb, pos, length, drop}
use Rattle.std.proofs.Common.{sym, ap, ◌∙◌}
use Rattle.history.specs.Events.{Event}
use Rattle.families.specs.Families.{families}
use Rattle.families.specs.Objects.{new_register}
use Rattle.families.specs.declared.Kind.{Kind}
use Rattle.families.specs.declared.Object.{Object}
use Rattle.stepping.specs.declared.histories.History.{History}
use Rattle.recording.specs.declared.sequential_consistency.SequentialConsistencyTester.{SequentialConsistencyTester}
use Rattle.recording.specs.declared.linearizability.LinearizabilityTester.{LinearizabilityTester}
use Rattle.stepping.specs.EventSteps.{number_of as recorded_number}
use Rattle.recording.specs.Testers.{sequential}
use Rattle.recording_meaning.specs.Models.{sequential_model, linearizability_model}
use Rattle.recording_meaning.specs.Inputs.{as_input}
use Rattle.recording_meaning.specs.Lawful.{sequential_lawful, linearizability_lawful}
use Rattle.recording_meaning.specs.EventTurns.{Good}
use Rattle.recording_meaning.specs.Reaching.{good_new}
use Rattle.recording_meaning.proofs.TesterFeeding.{good_give}
use Rattle.recording_meaning.specs.TestersAlike.{step_of}
use Rattle.recording_meaning.proofs.TestersAlike.{given}
use Rattle.numbers.specs.FileRefusals.{number_of}
use Rattle.numbers.specs.Reader.{Read, got, refused}
use Rattle.format.specs.Format.{header, event}
use Rattle.corpus.specs.Load.{record_event, load, onward, turn, load_from, load_by, load_of}
use Rattle.corpus.specs.LoadsAlike.{forgetting}

abbrev GoodS : SequentialConsistencyTester → Type 0
GoodS = Good sequential_model sequential_lawful

abbrev GoodL : LinearizabilityTester → Type 0
GoodL = Good linearizability_model linearizability_lawful

stands : (n p : ℕ) (u : SequentialConsistencyTester) (t : LinearizabilityTester) → u.history ≡ t.history
    → load sequential_model n p u ≡ forgetting (load linearizability_model n p t)
stands n p u t e = ap (λ (h : History). load sequential_model n p (sequential h)) e

from_alike : (most : ℕ) (k : Kind) (s : List ℕ) (at : ℕ) (u : SequentialConsistencyTester) (t : LinearizabilityTester) → GoodS u → GoodL t
    → u.history ≡ t.history → load_from sequential_model most k s at u ≡ forgetting (load_from linearizability_model most k s at t)
unfolding load_from
from_alike zero k s at u t a b e = stands 0 0 u t e
from_alike (suc most) k [] at u t a b e = stands 0 0 u t e
from_alike (suc most) k (x ∷ s) at u t a b e =
    go (event k (x ∷ s)) (λ rest next v w c d f. from_alike most k rest next v w c d f)
  where
    Rest : Type 0
    Rest = (rest : List ℕ) (next : ℕ) (v : SequentialConsistencyTester) (w : LinearizabilityTester) → GoodS v → GoodL w → v.history ≡ w.history
        → load_from sequential_model most k rest next v ≡ forgetting (load_from linearizability_model most k rest next w)

    recorded : Rest → (v : Event families) (used : ℕ) → (record_event sequential_model u v).0 ≡ (record_event linearizability_model t v).0
        → (record_event sequential_model u v).1.history ≡ (record_event linearizability_model t v).1.history
        → (z : Bool) → onward sequential_model (load_from sequential_model most k) z (x ∷ s) at used (record_event sequential_model u v)
        ≡ forgetting (onward linearizability_model (load_from linearizability_model most k) z (x ∷ s) at used (record_event linearizability_model t v))
    recorded rec v used r h true =
        rec (drop used (x ∷ s)) (at + used) (record_event sequential_model u v).1 (record_event linearizability_model t v).1
        (good_give sequential_model sequential_lawful u a (as_input v)) (good_give linearizability_model linearizability_lawful t b (as_input v)) h
    recorded rec v used r h false = rw r (stands (recorded_number (record_event linearizability_model t v).0) at (record_event sequential_model u v).1
        (record_event linearizability_model t v).1 h)

    go : (r : Read (Event families)) → Rest → turn sequential_model (load_from sequential_model most k) (x ∷ s) at u r
        ≡ forgetting (turn linearizability_model (load_from linearizability_model most k) (x ∷ s) at t r)
    go (refused why) rec = stands (number_of why) at u t e
    go (got v used) rec =
        let c = given sequential_model sequential_lawful u a (as_input v) in
        let d = given linearizability_model linearizability_lawful t b (as_input v) in
        let r = c.0 ∙ ap (λ (h : History). (step_of h (as_input v)).recorded) e ∙ sym d.0 in
        let h = c.1 ∙ ap (λ (h : History). (step_of h (as_input v)).history) e ∙ sym d.1 in
        ap (λ (z : ℕ). onward sequential_model (load_from sequential_model most k) (eqb z 0) (x ∷ s) at used (record_event sequential_model u v)) (ap recorded_number r)
        ∙ recorded rec v used r h (eqb (recorded_number (record_event linearizability_model t v).0) 0)

new_alike : (o : Object) → (sequential_model.new o).history ≡ (linearizability_model.new o).history
new_alike o = (sequential_lawful.begins o).0 ∙ sym (linearizability_lawful.begins o).0

pub loads_alike : (s : List ℕ) → load_of sequential_model s ≡ forgetting (load_of linearizability_model s)
unfolding load_of
loads_alike s = go (header s)
  where
    go : (r : Read Object) → load_by sequential_model s r ≡ forgetting (load_by linearizability_model s r)
    go (got o used) =
        from_alike (length s) o.kind (drop used s) used (sequential_model.new o) (linearizability_model.new o) (good_new sequential_model sequential_lawful o)
        (good_new linearizability_model linearizability_lawful o) (new_alike o)
    go (refused why) = stands (number_of why) 0 (sequential_model.new (new_register (pos 0))) (linearizability_model.new (new_register (pos 0))) (new_alike (new_register (pos 0)))
