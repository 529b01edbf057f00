-- What loading comes to, told without the loader: a loaded tester is one fed from fresh with the events of its file.
use Prim.Native.Nat.{ℕ, zero, suc, ◌+◌, ◌-◌, ◌≤◌}
use Rattle.std.specs.Prelude.{◌≡◌, Bool, true, false, eqb, pos, length, drop}
use Rattle.std.proofs.Math.Path.{refl}
use Rattle.std.proofs.Common.{sym, ap, eqb-true, drop-drop}
use mathlib.Core.List.{List, [], ◌∷◌}
use native.Mathlib.Omega.{arith}
use Rattle.std.proofs.lemmas.Bool.{eqb-false}
use Rattle.std.proofs.Math.ListN.{length-drop}
use Rattle.history.specs.Events.{Event}
use Rattle.families.specs.Families.{families}
use Rattle.families.specs.Objects.{new_register}
use Rattle.families.specs.declared.Kind.{Kind}
use Rattle.families.specs.declared.Object.{Object}
use Rattle.stepping.specs.EventSteps.{number_of as recorded_number}
use Rattle.recording_meaning.specs.Models.{Model}
use Rattle.numbers.specs.declared.refusal.Refusal.{Refusal}
use Rattle.numbers.specs.FileRefusals.{number_of}
use Rattle.numbers.specs.Reader.{Read, got, refused}
use Rattle.format.specs.Format.{header, event}
use Rattle.corpus.specs.Load.{Load, record_event, load, onward, turn, load_from, load_of}
use Rattle.format.specs.Taking.{first_in}
use Rattle.format.specs.Lengths.{event_field}
use Rattle.corpus.specs.Loaded.{Outcome, ended, unread, unrecorded}

module _ (M : Model) where
  module _ (k : Kind) (s : List ℕ) (at : ℕ) (t : M.Tester) (v : Event families) (used : ℕ) (e : event k s ≡ got v used)
      (z : recorded_number (record_event M t v).0 ≡ 0) (result : Load M) where
    taken : (1 ≤ used) × (used ≤ length s)
    taken = let b = first_in (event k) 2 (event_field k) s v used e in omega arith

    -- one event more at the beginning
    after : Outcome M k (drop used s) (at + used) (record_event M t v).1 result → Outcome M k s at t result
    after (ended l n sp all q r) =
        let i : used + n - used ≡ n = omega arith in
        ended (v ∷ l) (used + n) (used, e, omega arith, rw i sp) (z, all) (omega (arith, taken, length-drop used s)) r
    after (unread l n sp all h why q r) =
        let i : used + n - used ≡ n = omega arith in
        let j : at + used + n ≡ at + (used + n) = omega arith in
        unread (v ∷ l) (used + n) (used, e, omega arith, rw i sp) (z, all) (omega (arith, taken, length-drop used s)) why
        (rw (drop-drop n used s) at q) (rw j at r)
    after (unrecorded l n sp all h w more q d r) =
        let i : used + n - used ≡ n = omega arith in
        let j : at + used + n ≡ at + (used + n) = omega arith in
        unrecorded (v ∷ l) (used + n) (used, e, omega arith, rw i sp) (z, all) (omega (arith, taken, length-drop used s)) w more
        (rw (drop-drop n used s) at q) d (rw j at r)

  outcome : (most : ℕ) (k : Kind) (s : List ℕ) (at : ℕ) (t : M.Tester) → length s ≤ most → Outcome M k s at t (load_from M most k s at t)
  unfolding load_from
  outcome zero k [] at t h = ended [] 0 refl tt refl refl
  outcome zero k (b ∷ s) at t h = absurd (omega arith)
  outcome (suc most) k [] at t h = ended [] 0 refl tt refl refl
  outcome (suc most) k (b ∷ s) at t h =
      go (event k (b ∷ s)) refl (λ rest at' t' h'. outcome most k rest at' t' h')
    where
      add_nothing : at + 0 ≡ at
      add_nothing = omega arith

      drew : (v : Event families) (used : ℕ) → event k (b ∷ s) ≡ got v used
          → ((rest : List ℕ) (at' : ℕ) (t' : M.Tester) → length rest ≤ most → Outcome M k rest at' t' (load_from M most k rest at' t'))
          → (x : Bool) → eqb (recorded_number (record_event M t v).0) 0 ≡ x
          → Outcome M k (b ∷ s) at t (onward M (load_from M most k) x (b ∷ s) at used (record_event M t v))
      drew v used e rec true p =
          let c = taken k (b ∷ s) at t v used e (eqb-true _ _ p) (load M 0 0 t) in
          after k (b ∷ s) at t v used e (eqb-true _ _ p) _ (rec (drop used (b ∷ s)) (at + used) (record_event M t v).1 (omega (arith, length-drop used (b ∷ s))))
      drew v used e rec false p =
          unrecorded [] 0 refl tt (omega arith) v used e (eqb-false _ _ p)
          (ap (λ (p : ℕ). load M (recorded_number (record_event M t v).0) p (record_event M t v).1) (sym add_nothing))

      go : (r : Read (Event families)) → event k (b ∷ s) ≡ r
          → ((rest : List ℕ) (at' : ℕ) (t' : M.Tester) → length rest ≤ most → Outcome M k rest at' t' (load_from M most k rest at' t'))
          → Outcome M k (b ∷ s) at t (turn M (load_from M most k) (b ∷ s) at t r)
      go (got v used) e rec = drew v used e rec (eqb (recorded_number (record_event M t v).0) 0) refl
      go (refused why) e rec = unread [] 0 refl tt (omega arith) why e (ap (λ (p : ℕ). load M (number_of why) p t) (sym add_nothing))

  -- The theorem: a file whose header is read.
  pub loaded : (s : List ℕ) (o : Object) (n : ℕ) → header s ≡ got o n → Outcome M o.kind (drop n s) n (M.new o) (load_of M s)
  unfolding load_of
  loaded s o n e = rw e (outcome (length s) o.kind (drop n s) n (M.new o) (omega (arith, length-drop n s)))

  -- A file whose header is refused: place 0 and a fresh default register.
  pub not_loaded : (s : List ℕ) (why : Refusal) → header s ≡ refused why → load_of M s ≡ load M (number_of why) 0 (M.new (new_register (pos 0)))
  unfolding load_of
  not_loaded s why e = rw e refl
