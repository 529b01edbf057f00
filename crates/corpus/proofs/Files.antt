-- Files that load, testers that are loaded, and places.
use Prim.Native.Nat.{ℕ, zero, suc, ◌+◌, ◌<◌, ◌≤◌}
use Rattle.std.specs.Prelude.{◌≡◌, ◌≢◌, ◌↔◌, length, drop}
use Rattle.std.proofs.Math.Path.{refl}
use Rattle.std.proofs.Common.{sym, ap, ◌∙◌, arith}
use mathlib.Core.List.{List, [], ◌∷◌, ◌++◌}
use borrow.Author.Tests.{eq-eqb}
use Rattle.std.proofs.Math.ListN.{length-drop}
use Rattle.history.specs.Events.{Event, Events}
use Rattle.families.specs.Families.{families}
use Rattle.families.specs.declared.Kind.{Kind}
use Rattle.families.specs.declared.Object.{Object}
use Rattle.stepping.specs.EventSteps.{number_of as recorded_number}
use Rattle.recording_meaning.specs.Models.{Model}
use Rattle.numbers.specs.declared.refusal.Refusal.{Refusal}
use Rattle.numbers.specs.FileRefusals.{refusal_number}
use Rattle.numbers.specs.Reader.{Read, got, refused}
use Rattle.format.specs.Format.{header, event}
use Rattle.corpus.specs.Load.{Load, record_event, record_events, load, load_from, load_of}
use Rattle.format.specs.Taking.{first_in}
use Rattle.format.specs.Lengths.{event_field, header_field}
use Rattle.format.specs.Spelling.{Spells, spells_more}
use Rattle.corpus.specs.Loaded.{AllRecorded, Outcome, ended, unread, unrecorded}
use Rattle.corpus.proofs.Loaded.{loaded, not_loaded}
use Rattle.corpus.specs.Files.{Whole}

module _ (M : Model) where
  record_more : (t : M.Tester) (l : Events families) (v : Event families) → record_events M t (l ++ (v ∷ [])) ≡ (record_event M (record_events M t l) v).1
  record_more t [] v = refl
  record_more t (w ∷ l) v = record_more (record_event M t w).1 l v

  module _ (s : List ℕ) (o : Object) (n : ℕ) (e : header s ≡ got o n) where
    -- A loaded tester is a fresh one of the header's object, fed with events that the file begins with behind its header.
    pub loaded_fed : (l : Events families) × (m : ℕ) × Spells o.kind (drop n s) l m × ((load_of M s).tester ≡ record_events M (M.new o) l)
    loaded_fed = go (loaded M s o n e)
      where
        go : Outcome M o.kind (drop n s) n (M.new o) (load_of M s)
            → (l : Events families) × (m : ℕ) × Spells o.kind (drop n s) l m × ((load_of M s).tester ≡ record_events M (M.new o) l)
        go (ended l m sp all q r) = (l, m, sp, ap (λ (x : Load M). x.tester) r)
        go (unread l m sp all h why q r) = (l, m, sp, ap (λ (x : Load M). x.tester) r)
        go (unrecorded l m sp all h v used q d r) =
            (l ++ (v ∷ []), m + used, spells_more o.kind l (drop n s) m v used sp q, ap (λ (x : Load M). x.tester) r ∙ sym (record_more (M.new o) l v))

    -- A place of a refusal is that of an event's first byte: inside the file, and behind the header.
    pub place_in : (load_of M s).number ≢ 0 → (6 ≤ (load_of M s).place) × ((load_of M s).place < length s)
    place_in d = go (loaded M s o n e)
      where
        b : (6 ≤ n) × (n ≤ length s)
        b = first_in header 6 header_field s o n e

        at_event : (m : ℕ) → m < length (drop n s) → (load_of M s).place ≡ n + m → (6 ≤ (load_of M s).place) × ((load_of M s).place < length s)
        at_event m h p = rw p (omega (arith, b.0), omega (arith, length-drop n s))

        go : Outcome M o.kind (drop n s) n (M.new o) (load_of M s) → (6 ≤ (load_of M s).place) × ((load_of M s).place < length s)
        go (ended l m sp all q r) = absurd (d (ap (λ (x : Load M). x.number) r))
        go (unread l m sp all h why q r) = at_event m h (ap (λ (x : Load M). x.place) r)
        go (unrecorded l m sp all h v used q u r) = at_event m h (ap (λ (x : Load M). x.place) r)

  to_end : (l : Events families) (most : ℕ) (k : Kind) (s : List ℕ) (at : ℕ) (t : M.Tester) → length s ≤ most
      → Spells k s l (length s) → AllRecorded M t l → load_from M most k s at t ≡ load M 0 0 (record_events M t l)
  unfolding load_from
  to_end [] zero k s at t h sp all = refl
  to_end [] (suc most) k [] at t h sp all = refl
  to_end [] (suc most) k (b ∷ s) at t h sp all = absurd (omega arith)
  to_end (v ∷ l) most k [] at t h sp all = absurd (omega (arith, first_in (event k) 2 (event_field k) [] v sp.0 sp.1, sp.2))
  to_end (v ∷ l) zero k (b ∷ s) at t h sp all = absurd (omega arith)
  to_end (v ∷ l) (suc most) k (b ∷ s) at t h sp all =
      let c = first_in (event k) 2 (event_field k) (b ∷ s) v sp.0 sp.1 in
      let long = length-drop sp.0 (b ∷ s) in
      rw (sp.1, eq-eqb (recorded_number (record_event M t v).0) 0 all.0)
      (to_end l most k (drop sp.0 (b ∷ s)) (at + sp.0) (record_event M t v).1 (omega (arith, c, long)) (rw long sp.3) all.1)

  -- Then it loads.
  pub whole_loads : (s : List ℕ) (w : Whole M s) → load_of M s ≡ load M 0 0 (record_events M (M.new w.start) w.events)
  unfolding load_of
  whole_loads s w =
      rw w.head
      (to_end w.events (length s) w.start.kind (drop w.first s) w.first (M.new w.start) (omega (arith, length-drop w.first s))
      w.spelled w.recorded)

  module _ (s : List ℕ) where
    by_header : (P : Type 0) → ((o : Object) (n : ℕ) → header s ≡ got o n → P) → ((why : Refusal) → header s ≡ refused why → P) → P
    by_header P f g = go (header s) refl
      where
        go : (r : Read Object) → header s ≡ r → P
        go (got o n) e = f o n e
        go (refused why) e = g why e

    -- The number is 0 exactly if the file is read to its end and every event draws 0.
    pub number_zero : (load_of M s).number ≡ 0 ↔ Whole M s
    number_zero = (
      λ z. by_header (Whole M s) (λ o n e. got_whole o n e z (loaded M s o n e))
          (λ why e. absurd (refusal_number why (sym (ap (λ (x : Load M). x.number) (not_loaded M s why e)) ∙ z))),
      λ w. ap (λ (x : Load M). x.number) (whole_loads s w),
    )
      where
        got_whole : (o : Object) (n : ℕ) → header s ≡ got o n → (load_of M s).number ≡ 0
            → Outcome M o.kind (drop n s) n (M.new o) (load_of M s) → Whole M s
        got_whole o n e z (ended l m sp all q r) = record { start = o; first = n; events = l; head = e; spelled = rw q at sp; recorded = all }
        got_whole o n e z (unread l m sp all h why q r) = absurd (refusal_number why (sym (ap (λ (x : Load M). x.number) r) ∙ z))
        got_whole o n e z (unrecorded l m sp all h v used q u r) = absurd (u (sym (ap (λ (x : Load M). x.number) r) ∙ z))

    -- Then the place is 0.
    pub place_zero : (load_of M s).number ≡ 0 → (load_of M s).place ≡ 0
    place_zero z = ap (λ (x : Load M). x.place) (whole_loads s (number_zero.0 z))
