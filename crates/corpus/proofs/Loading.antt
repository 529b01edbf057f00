-- The loop over the events, for any model.
use Rattle.std.proofs.Common.{ℕ, zero, suc, ◌+◌, ◌<◌, ◌≤◌, ◌≡◌, refl, sym, ap, ◌∙◌, ◌≢◌, List, [], ◌∷◌, arith, eq-eqb, ne_eqb, pos, length, drop, length-drop, drop_of_length-le, drop-drop, Result}
use Rattle.history.specs.Events.{Event}
use Rattle.families.specs.Families.{families}
use Rattle.families.specs.Objects.{new_register}
use Rattle.families.specs.declared.Kind.{Kind}
use Rattle.families.specs.declared.Object.{Object}
use Rattle.stepping.specs.EventSteps.{number_of as recorded_number}
use Rattle.recording_meaning.specs.Models.{Model}
use Rattle.numbers.specs.declared.refusal.Refusal.{Refusal}
use Rattle.numbers.specs.FileRefusals.{number_of}
use Rattle.numbers.specs.Reader.{got, refused}
use Rattle.format.specs.Format.{header, event}
use Rattle.corpus.specs.Load.{Load, record_event, load, turn, load_from, load_of}
use Rattle.format.specs.Taking.{first_in}
use Rattle.format.specs.Lengths.{event_field}
use Rattle.stepping.specs.declared.recorded.Reason.{Reason}

module _ (M : Model) (k : Kind) (s : List ℕ) where
  -- what is left of the file comes to what the whole does
  pub record Running (whole : Load M) (at : ℕ) (t : M.Tester) : Type 0 where
    pub most : ℕ
    pub enough : length s ≤ at + most
    pub same : load_from M most k (drop at s) at t ≡ whole

  pub running : (first : ℕ) (t : M.Tester) → Running (load_from M (length s) k (drop first s) first t) first t
  running first t = record { most = length s; enough = omega arith; same = refl }

  nothing_left : (most at : ℕ) (t : M.Tester) → load_from M most k [] at t ≡ load M 0 0 t
  unfolding load_from
  nothing_left zero at t = refl
  nothing_left (suc most) at t = refl

  one_turn : (most : ℕ) (l : List ℕ) (at : ℕ) (t : M.Tester) → 0 < length l
      → load_from M (suc most) k l at t ≡ turn M (load_from M most k) l at t (event k l)
  unfolding load_from
  one_turn most [] at t h = absurd (omega arith)
  one_turn most (b ∷ l) at t h = refl

  module _ {whole : Load M} {at : ℕ} {t : M.Tester} where
    pub all_loaded : Running whole at t → length s ≤ at → load M 0 0 t ≡ whole
    all_loaded R h =
        let e : drop at s ≡ [] = drop_of_length-le s h in
        sym (nothing_left R.most at t) ∙ (rw e at R.same)

    -- one turn of a loop that runs
    turned : Running whole at t → at < length s
        → (most : ℕ) × (length s ≤ at + suc most) × (turn M (load_from M most k) (drop at s) at t (event k (drop at s)) ≡ whole)
    turned R h = go R.most R.enough R.same
      where
        go : (most : ℕ) → length s ≤ at + most → load_from M most k (drop at s) at t ≡ whole
            → (m : ℕ) × (length s ≤ at + suc m) × (turn M (load_from M m k) (drop at s) at t (event k (drop at s)) ≡ whole)
        go zero enough e = absurd (omega arith)
        go (suc most) enough e = (most, enough, sym (one_turn most (drop at s) at t (omega (arith, length-drop at s))) ∙ e)

    pub stopped : Running whole at t → at < length s → (why : Refusal) → event k (drop at s) ≡ refused why → (n : ℕ) → n ≡ number_of why
        → load M n at t ≡ whole
    stopped R h why e n q = rw q (rw e at (turned R h).2)

    module _ (R : Running whole at t) (h : at < length s) (v : Event families) (used : ℕ) (e : event k (drop at s) ≡ got v used) where
      -- the place behind the event
      pub behind : (at < at + used) × (at + used ≤ length s)
      behind = omega (arith, length-drop at s, first_in (event k) 2 (event_field k) (drop at s) v used e)

      module _ (r : Result Unit Reason) (next : M.Tester) (n : ℕ) (p : r ≡ (record_event M t v).0) (q : next ≡ (record_event M t v).1) (z : n ≡ recorded_number r) where
        pub refused_by_lem : n ≢ 0 → load M n at next ≡ whole
        refused_by_lem d =
            let f : recorded_number (record_event M t v).0 ≢ 0 = λ g. d (z ∙ ap recorded_number p ∙ g) in
            rw (q, z, p) (rw (e, ne_eqb _ _ f) at (turned R h).2)

        pub recorded : n ≡ 0 → Running whole (at + used) next
        recorded d =
            let f : recorded_number (record_event M t v).0 ≡ 0 = sym (z ∙ ap recorded_number p) ∙ d in
            let w = turned R h in
            let b = behind in
            record {
              most = w.0;
              enough = omega (arith, w.1);
              same = rw q (rw (e, eq-eqb _ _ f, drop-drop used at s) at w.2);
            }

-- the file
module _ (M : Model) (s : List ℕ) where
  pub load_refused : (why : Refusal) → header s ≡ refused why → (n : ℕ) (t : M.Tester) → n ≡ number_of why → t ≡ M.new (new_register (pos 0))
      → load M n 0 t ≡ load_of M s
  unfolding load_of
  load_refused why e n t p q = rw (e, p, q) refl

  pub load_fed : (o : Object) (first : ℕ) → header s ≡ got o first → (t : M.Tester) → t ≡ M.new o
      → load_from M (length s) o.kind (drop first s) first t ≡ load_of M s
  unfolding load_of
  load_fed o first e t q = rw (e, q) refl
