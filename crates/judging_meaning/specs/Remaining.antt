-- What remains in the Rust's maps where some operations are placed, and what placing one more makes of them.
use Rattle.std.specs.Prelude.{ℕ, zero, suc, ◌<◌, ◌≡◌, refl, ◌&&◌, List, [], ◌∷◌, length, get_or, set, drop, replicate}
use Rattle.std.proofs.Common.{sym, ap, ◌∙◌, arith}
use Rattle.std.proofs.Math.Option.{Option, none, some}
use Rattle.std.proofs.Math.ListN.{get_elem? as nth}
use Rattle.std.proofs.Math.Seq.{drop-nil}
use Rattle.history.specs.Object.{Object}
use Rattle.history.specs.Rows.{Entry, Rows, row, Shaped, empty, in_flight, completed_first}
use Rattle.history.specs.Recorder.{pending}
use Rattle.history.specs.Lists.{not_some, nth_drop}
use Rattle.history.specs.Progress.{next_row}
use Rattle.history.specs.Space.{next, more, only_pending, all_placed}
use Rattle.history.proofs.Explaining.{shaped_drop}
use Rattle.recording_meaning.specs.Rust.{Keeps, get, insert, remove}
use Rattle.recording_meaning.specs.RustMaps.{entry, tabled, with_complete, completes, history_entry, or_flight, flight_entry}
use Rattle.recording_meaning.specs.Tables.{get_tabled, insert_tabled, remove_tabled}
use Rattle.judging_meaning.specs.Serialize.{Serializes, Queues, Flights, queue, queues, is_empty, all_empty}

-- a list whose changed place says what it said is the same map
tabled_same : {A B : Type 0} (f : A → Option B) (l : List A) (k i : ℕ) (a d : A) → f a ≡ f (get_or l i d) → tabled f k (set l i a) ≡ tabled f k l
tabled_same f [] k i a d e = refl
tabled_same f (c ∷ l) k zero a d e = rw e
tabled_same f (c ∷ l) k (suc i) a d e = ap (entry k (f c)) (tabled_same f l (suc k) i a d e)

nth_none : {A : Type 0} (l : List A) (i : ℕ) → drop i l ≡ [] → nth l i ≡ none
nth_none [] i h = refl
nth_none (a ∷ l) zero h = absurd (let z : ◌≡◌ {A = ℕ} 0 1 = cc in omega arith)
nth_none (a ∷ l) (suc i) h = nth_none l i h

module _ (O : Object) where
  -- A row, and how many of its operations are placed; and that of each thread.

  abbrev pub Place : Type 0
  Place = List (Entry O) × ℕ

  abbrev pub places : Rows O → List ℕ → List Place
  places [] ps = []
  places (r ∷ rows) [] = []
  places (r ∷ rows) (p ∷ ps) = (r, p) ∷ places rows ps

  pub places_many : (rows : Rows O) (ps : List ℕ) → length ps ≡ length rows → length (places rows ps) ≡ length rows
  places_many [] ps e = refl
  places_many (r ∷ rows) [] e = absurd (omega arith)
  places_many (r ∷ rows) (p ∷ ps) e = ap suc (places_many rows ps (omega arith))

  pub place_at : (rows : Rows O) (ps : List ℕ) (t : ℕ) → length ps ≡ length rows → get_or (places rows ps) t ([], 0) ≡ (row O rows t, get_or ps t 0)
  place_at [] [] t e = refl
  place_at [] (p ∷ ps) t e = absurd (omega arith)
  place_at (r ∷ rows) [] t e = absurd (omega arith)
  place_at (r ∷ rows) (p ∷ ps) zero e = refl
  place_at (r ∷ rows) (p ∷ ps) (suc t) e = place_at rows ps t (omega arith)

  places_more : (rows : Rows O) (ps : List ℕ) (t : ℕ) → length ps ≡ length rows
      → places rows (more ps t) ≡ set (places rows ps) t (row O rows t, suc (get_or ps t 0))
  places_more [] ps t e = refl
  places_more (r ∷ rows) [] t e = absurd (omega arith)
  places_more (r ∷ rows) (p ∷ ps) zero e = refl
  places_more (r ∷ rows) (p ∷ ps) (suc t) e = ap (λ (l : List Place). (r, p) ∷ l) (places_more rows ps t (omega arith))

  -- a map of the places: what thread t has there, and what it is once one more of thread t is placed
  module _ (rows : Rows O) (ps : List ℕ) (t : ℕ) (many : length ps ≡ length rows) where
    place_same : {B : Type 0} (f : Place → Option B) → f (row O rows t, suc (get_or ps t 0)) ≡ f (row O rows t, get_or ps t 0)
        → tabled f 0 (places rows ps) ≡ tabled f 0 (places rows (more ps t))
    place_same f e =
        sym (ap (tabled f 0) (places_more rows ps t many) ∙ tabled_same f (places rows ps) 0 t _ ([], 0) (e ∙ ap f (sym (place_at rows ps t many))))

    module _ (there : t < length rows) where
      pub found_there : {B : Type 0} (f : Place → Option B) → get (tabled f 0 (places rows ps)) t ≡ f (row O rows t, get_or ps t 0)
      found_there f = get_tabled f (places rows ps) 0 t t ([], 0) (omega arith) (omega (arith, places_many rows ps many)) ∙ ap f (place_at rows ps t many)

      place_removed : {B : Type 0} (f : Place → Option B) → f (row O rows t, suc (get_or ps t 0)) ≡ none
          → remove (tabled f 0 (places rows ps)) t ≡ tabled f 0 (places rows (more ps t))
      place_removed f e =
          remove_tabled f (places rows ps) 0 t t _ (omega arith) (omega (arith, places_many rows ps many)) e
          ∙ ap (tabled f 0) (sym (places_more rows ps t many))

      place_inserted : {B : Type 0} (f : Place → Option B) (b : B) → f (row O rows t, suc (get_or ps t 0)) ≡ some b
          → insert (tabled f 0 (places rows ps)) t b ≡ tabled f 0 (places rows (more ps t))
      place_inserted f b e =
          insert_tabled f (places rows ps) 0 t t _ b (omega arith) (omega (arith, places_many rows ps many)) e
          ∙ ap (tabled f 0) (sym (places_more rows ps t many))

  module _ (K : Keeps O.Op O.Ret) (flight : O.Op → List ℕ → K.InFlight) (S : Serializes K) where
    -- A thread's entries: its queue, if it has an operation, and what it has in flight.

    abbrev pub if_used : List (Entry O) → List S.Remaining → Option (List S.Remaining)
    if_used [] q = none
    if_used (e ∷ r) q = some q

    abbrev pub left : Place → Option (List S.Remaining)
    left a = if_used a.0 (queue K S a.1 (completes O K flight (drop a.1 a.0)))

    abbrev pub flight_left : Place → Option K.InFlight
    flight_left a = flight_entry O K flight (drop a.1 a.0)

    -- The Rust's maps where ps are placed.

    abbrev pub queues_at : Rows O → List ℕ → Queues K S
    queues_at rows ps = tabled left 0 (places rows ps)

    abbrev pub flights_at : Rows O → List ℕ → Flights K S
    flights_at rows ps = tabled flight_left 0 (places rows ps)

    -- where nothing is placed

    pub queues_begin : (rows : Rows O) (k : ℕ)
        → queues K S (tabled (history_entry O K flight) k rows) ≡ tabled left k (places rows (replicate (length rows) 0))
    queues_begin [] k = refl
    queues_begin ([] ∷ rows) k = queues_begin rows (suc k)
    queues_begin ((e ∷ r) ∷ rows) k = ap (entry k (left (e ∷ r, 0))) (queues_begin rows (suc k))

    pub flights_begin : (rows : Rows O) (k : ℕ)
        → tabled (flight_entry O K flight) k rows ≡ tabled flight_left k (places rows (replicate (length rows) 0))
    flights_begin [] k = refl
    flights_begin (r ∷ rows) k = ap (entry k (flight_entry O K flight r)) (flights_begin rows (suc k))

    -- done

    none_left : (p : ℕ) (r : List (Entry O)) → is_empty (queue K S p (completes O K flight r)) ≡ only_pending O r
    none_left p [] = refl
    none_left p (e ∷ r) = go e.ret (none_left p r)
      where
        go : (o : Option O.Ret) → is_empty (queue K S p (completes O K flight r)) ≡ only_pending O r
            → is_empty (queue K S p (with_complete O K flight e o (completes O K flight r))) ≡ pending O o && only_pending O r
        go none h = h
        go (some q) h = refl

    pub done_exactly : (rows : Rows O) (ps : List ℕ) (k : ℕ) → all_empty (tabled left k (places rows ps)) ≡ all_placed O rows ps
    done_exactly [] ps k = refl
    done_exactly (r ∷ rows) [] k = refl
    done_exactly ([] ∷ rows) (p ∷ ps) k = rw (drop-nil {A = Entry O} p) (done_exactly rows ps (suc k))
    done_exactly ((e ∷ r) ∷ rows) (p ∷ ps) k = rw (none_left p (drop p (e ∷ r)), done_exactly rows ps (suc k))

    -- What a thread has next, where ps are placed; what the Rust's maps hold of it; and what they are once it is placed.
    pub data Turn (rows : Rows O) (ps : List ℕ) (t : ℕ) : Type 0 where
      nothing : next rows ps t ≡ none → left (row O rows t, get_or ps t 0) ≡ if_used (row O rows t) [] → get (flights_at rows ps) t ≡ none → Turn rows ps t
      flying : {e : Entry O} → next rows ps t ≡ some e → e.ret ≡ none → left (row O rows t, get_or ps t 0) ≡ some []
          → get (flights_at rows ps) t ≡ some (flight e.op e.needs) → queues_at rows ps ≡ queues_at rows (more ps t)
          → remove (flights_at rows ps) t ≡ flights_at rows (more ps t) → Turn rows ps t
      completed : {e : Entry O} {q : O.Ret} {rest : List S.Remaining} → next rows ps t ≡ some e → e.ret ≡ some q
          → left (row O rows t, get_or ps t 0) ≡ some (S.queued (get_or ps t 0) (K.completed (flight e.op e.needs) q) ∷ rest)
          → insert (queues_at rows ps) t rest ≡ queues_at rows (more ps t) → flights_at rows ps ≡ flights_at rows (more ps t) → Turn rows ps t

    left_used : (r : List (Entry O)) (p : ℕ) (e : Entry O) (q : List S.Remaining) → nth r p ≡ some e → if_used r q ≡ some q
    left_used [] p e q h = not_some h
    left_used (f ∷ r) p e q h = refl

    pub turn : (rows : Rows O) (ps : List ℕ) (t : ℕ) → Shaped O (row O rows t) → length ps ≡ length rows → t < length rows → Turn rows ps t
    turn rows ps t s many there = go (drop p r) refl (shaped_drop O p s)
      where
        r : List (Entry O)
        r = row O rows t

        p : ℕ
        p = get_or ps t 0

        -- what is left, from what is left of the row
        left_is : (i : ℕ) (d : List (Entry O)) → drop i r ≡ d → left (r, i) ≡ if_used r (queue K S i (completes O K flight d))
        left_is i d e = ap (λ (l : List (Entry O)). if_used r (queue K S i (completes O K flight l))) e

        go : (d : List (Entry O)) → drop p r ≡ d → Shaped O d → Turn rows ps t
        go _ e empty =
            nothing (next_row rows ps t many ∙ nth_none r p e) (left_is p [] e)
            (found_there rows ps t many there flight_left ∙ ap (flight_entry O K flight) e)
        go _ e (in_flight {e = x} n) =
            let h = nth_drop r p x [] e in
            let before : left (r, p) ≡ some []
            = left_is p (x ∷ []) e
            ∙ ap (λ (o : Option O.Ret). if_used r (queue K S p (with_complete O K flight x o []))) n
            ∙ left_used r p x [] h.0 in
            let after : left (r, suc p) ≡ some [] = left_is (suc p) [] h.1 ∙ left_used r p x [] h.0 in
            flying (next_row rows ps t many ∙ h.0) n before
            (found_there rows ps t many there flight_left ∙ ap (flight_entry O K flight) e ∙ ap (λ (o : Option O.Ret). or_flight O K flight x o none) n)
            (place_same rows ps t many left (after ∙ sym before))
            (place_removed rows ps t many there flight_left (ap (flight_entry O K flight) h.1))
        go _ e (completed_first {e = x} {q = q} {r = d} n w) =
            let h = nth_drop r p x d e in
            let rest : List S.Remaining = queue K S (suc p) (completes O K flight d) in
            let first : List S.Remaining = S.queued p (K.completed (flight x.op x.needs) q) ∷ rest in
            completed (next_row rows ps t many ∙ h.0) n
            (left_is p (x ∷ d) e
            ∙ ap (λ (o : Option O.Ret). if_used r (queue K S p (with_complete O K flight x o (completes O K flight d)))) n
            ∙ left_used r p x first h.0)
            (place_inserted rows ps t many there left rest (left_is (suc p) d h.1 ∙ left_used r p x rest h.0))
            (place_same rows ps t many flight_left
            (ap (flight_entry O K flight) h.1
            ∙ sym (ap (flight_entry O K flight) e ∙ ap (λ (o : Option O.Ret). or_flight O K flight x o (flight_entry O K flight d)) n)))
