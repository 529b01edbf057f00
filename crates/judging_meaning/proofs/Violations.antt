-- An operation is in violation in the Rust exactly if not as many are placed as it notes: for the sequential tester never, and for the
-- linearizability tester where the notes are in shape.
use Rattle.std.specs.Prelude.{
  ℕ,
  zero,
  suc,
  ◌+◌,
  ◌≤◌,
  ◌<◌,
  ◌≡◌,
  refl,
  ◌≢◌,
  Bool,
  true,
  false,
  cond,
  not,
  ◌&&◌,
  ◌||◌,
  List,
  [],
  ◌∷◌,
  length,
  get_or,
  drop,
  leb,
  ltb,
}
use Rattle.std.proofs.Common.{sym, ap, ◌∙◌, length-set, leb-true, leb-false, le-leb, ltb-true, ltb-false, arith}
use Rattle.std.proofs.Math.Option.{Option, none, some}
use Rattle.std.proofs.Math.ListN.{get_or-eq_default}
use Rattle.std.proofs.lemmas.Bool.{lt-leb}
use Rattle.history.specs.Object.{Object}
use Rattle.history.specs.Rows.{Entry, Rows, row, Is}
use Rattle.history.specs.Recorder.{pending, completed}
use Rattle.history.specs.Space.{more, met}
use Rattle.history.specs.Progress.{more_other, next_row}
use Rattle.recording_meaning.specs.Rust.{Map, Keeps, get, sequential, linearizable}
use Rattle.recording_meaning.specs.RustMaps.{entry, tabled, index, with_notes, without_notes, with_complete, completes}
use Rattle.judging_meaning.specs.Serialize.{Serializes, Queues, behind, any_behind, queue, sequential_serializes, linearizable_serializes}
use Rattle.judging_meaning.specs.Remaining.{left, queues_at, found_there}
use Rattle.judging_meaning.specs.Violations.{Agrees, Noteless, NotesFit}

module _ (O : Object) (rows : Rows O) where
  pub sequential_agrees : Noteless O rows → Agrees O (sequential O.Op O.Ret) (without_notes O) (sequential_serializes O.Op O.Ret) rows
  sequential_agrees w = record {
    pops = λ i op needs q. refl;
    operates = λ op needs. refl;
    violates = λ ps t e many n. ap (λ (l : List ℕ). not (met l ps)) (sym (w t (get_or ps t 0) e (sym (next_row rows ps t many) ∙ n)));
  }

-- tests

not_and : (a b : Bool) → not a || not b ≡ not (a && b)
not_and true b = refl
not_and false b = refl

not_leb : (n p : ℕ) → leb p n ≡ not (leb (suc n) p)
not_leb n p = go (leb p n) refl
  where
    go : (b : Bool) → leb p n ≡ b → b ≡ not (leb (suc n) p)
    go true e = let h = leb-true p n e in rw (lt-leb (suc n) p (omega arith))
    go false e = let h = leb-false p n e in rw (le-leb (suc n) p (omega arith))

met_none : (ns : List ℕ) → met ns [] ≡ true
met_none [] = refl
met_none (n ∷ ns) = refl

module _ (O : Object) where
  abbrev K : Keeps O.Op O.Ret
  K = linearizable O.Op O.Ret

  abbrev S : Serializes K
  S = linearizable_serializes O.Op O.Ret

  -- what is noted of a thread is still in its queue
  abbrev noted : Queues K S → ℕ → Option ℕ → Bool
  noted m u none = false
  noted m u (some n) = behind n (get m u)

  any_entry : (m : Queues K S) (u : ℕ) (o : Option ℕ) (cs : Map ℕ) → any_behind m (entry u o cs) ≡ noted m u o || any_behind m cs
  any_entry m u none cs = refl
  any_entry m u (some n) cs = refl

  any_noted : (m : Queues K S) (ns ps : List ℕ) (k : ℕ)
      → ((i u : ℕ) → u ≡ k + i → noted m u (index O (get_or ns i 0)) ≡ not (leb (get_or ns i 0) (get_or ps i 0)))
      → ((i : ℕ) → length ps ≤ i → get_or ns i 0 ≡ 0) → any_behind m (tabled (index O) k ns) ≡ not (met ns ps)
  any_noted m [] ps k f z = refl
  any_noted m (n ∷ ns) [] k f z =
      let e : n ≡ 0 = z 0 (omega arith) in
      rw e (any_noted m ns [] (suc k) (λ i u h. f (suc i) u (omega arith)) (λ i h. z (suc i) (omega arith)) ∙ ap not (met_none ns))
  any_noted m (n ∷ ns) (p ∷ ps) k f z =
      any_entry m k (index O n) (tabled (index O) (suc k) ns)
      ∙ rw (f 0 k (omega arith), any_noted m ns ps (suc k) (λ i u h. f (suc i) u (omega arith)) (λ i h. z (suc i) (omega arith)))
      (not_and (leb n p) (met ns ps))

  -- once no completed one is left, all are placed
  none_completed : (r : List (Entry O)) (p : ℕ) → completes O K (with_notes O) (drop p r) ≡ [] → completed O r ≤ p
  none_completed [] p e = omega arith
  none_completed (x ∷ r) zero e = go x.ret e (none_completed r zero)
    where
      go : (o : Option O.Ret) → with_complete O K (with_notes O) x o (completes O K (with_notes O) r) ≡ []
          → (completes O K (with_notes O) r ≡ [] → completed O r ≤ 0) → cond (pending O o) (completed O r) (suc (completed O r)) ≤ 0
      go none e f = f e
      go (some q) e f = absurd (let z : ◌≡◌ {A = ℕ} 0 1 = cc in omega arith)
  none_completed (x ∷ r) (suc p) e = go (pending O x.ret) (none_completed r p e)
    where
      go : (b : Bool) → completed O r ≤ p → cond b (completed O r) (suc (completed O r)) ≤ suc p
      go true h = omega arith
      go false h = omega arith

  -- a thread's queue, by what is noted of it
  queue_behind : (r : List (Entry O)) (p n : ℕ) → suc n ≤ completed O r → behind n (left O K (with_notes O) S (r, p)) ≡ not (leb (suc n) p)
  queue_behind [] p n h = absurd (omega arith)
  queue_behind (x ∷ r) p n h = go (completes O K (with_notes O) (drop p (x ∷ r))) (none_completed (x ∷ r) p)
    where
      go : (cs : List K.Complete) → (cs ≡ [] → completed O (x ∷ r) ≤ p) → behind n (some (queue K S p cs)) ≡ not (leb (suc n) p)
      go [] f = rw (le-leb (suc n) p (omega (arith, f refl)))
      go (c ∷ cs) f = not_leb n p

  module _ (rows : Rows O) (w : NotesFit O rows) where
    module _ (ps : List ℕ) (t : ℕ) (e : Entry O) (many : length ps ≡ length rows) (is : Is O rows t (get_or ps t 0) e) where
      -- there is nothing to note of a thread that is not there
      noted_there : (u : ℕ) → length rows ≤ u → get_or e.needs u 0 ≡ 0
      noted_there u h =
          let z : completed O (row O rows u) ≡ 0 = ap (completed O) (get_or-eq_default rows [] h) in
          omega (arith, w.most t (get_or ps t 0) e is u)

      not_own : (u n : ℕ) → get_or e.needs u 0 ≡ suc n → u ≢ t
      not_own u n h z = let y : get_or e.needs u 0 ≡ 0 = ap (λ (v : ℕ). get_or e.needs v 0) z ∙ w.own t (get_or ps t 0) e is in omega arith

      noting : (u n : ℕ) → get_or e.needs u 0 ≡ suc n → u < length rows
      noting u n h = go (ltb u (length rows)) refl
        where
          go : (b : Bool) → ltb u (length rows) ≡ b → u < length rows
          go true z = ltb-true u (length rows) z
          go false z = absurd (omega (arith, noted_there u (ltb-false u (length rows) z)))

      note_agrees : (u : ℕ)
          → noted (queues_at O K (with_notes O) S rows (more ps t)) u (index O (get_or e.needs u 0)) ≡ not (leb (get_or e.needs u 0) (get_or ps u 0))
      note_agrees u = go (get_or e.needs u 0) refl
        where
          go : (m : ℕ) → get_or e.needs u 0 ≡ m
              → noted (queues_at O K (with_notes O) S rows (more ps t)) u (index O m) ≡ not (leb m (get_or ps u 0))
          go zero h = rw (le-leb 0 (get_or ps u 0) (omega arith))
          go (suc n) h =
              ap (behind n) (found_there O rows (more ps t) u (length-set ps t (suc (get_or ps t 0)) ∙ many) (noting u n h) (left O K (with_notes O) S))
              ∙ rw (more_other ps t u (not_own u n h)) (queue_behind (row O rows u) (get_or ps u 0) n (omega (arith, w.most t (get_or ps t 0) e is u)))

    pub linearizable_agrees : Agrees O K (with_notes O) S rows
    linearizable_agrees = record {
      pops = λ i op needs q. refl;
      operates = λ op needs. refl;
      violates = λ ps t e many n.
          let is : Is O rows t (get_or ps t 0) e = sym (next_row rows ps t many) ∙ n in
          any_noted (queues_at O K (with_notes O) S rows (more ps t)) e.needs ps 0
          (λ i u h. let z : u ≡ i = omega arith in rw z (note_agrees ps t e many is i))
          (λ i h. noted_there ps t e many is i (omega arith));
    }
