-- What the Rust's calls do to rows: an invoke extends, a return closes.
use Rattle.std.specs.Prelude.{ℕ, zero, suc, ◌+◌, ◌<◌, ◌≡◌, refl, ◌≢◌, true, false, cond, List, [], ◌∷◌, ◌++◌, map, length, set}
use Rattle.std.proofs.Common.{sym, ap, ◌∙◌, eq-eqb, ne_eqb, arith}
use Rattle.std.proofs.Math.Option.{Option, none, some}
use Rattle.std.proofs.lemmas.List.{set-get_or}
use Rattle.history.specs.Object.{Object}
use Rattle.history.specs.Rows.{Entry, Rows, row, Shaped, empty, in_flight, completed_first, operations}
use Rattle.history.specs.Recorder.{pending, flying, completed, extend, close_row, close}
use Rattle.history.specs.Lists.{not_both}
use Rattle.recording_meaning.specs.Rust.{
  Map,
  get,
  insert,
  found,
  or_insert,
  or_default,
  Keeps,
  Ok,
  Err,
  on_invoke,
  on_return,
  with_entry,
  lengths,
  last_of,
  last_completed,
}
use Rattle.recording_meaning.specs.Tables.{insert_past, insert_own, insert_before, get_tabled, insert_tabled, remove_tabled}
use Rattle.recording_meaning.specs.RustMaps.{entry, tabled, index, with_complete, completes, history_entry, flight_entry, in_maps}

module _ (O : Object) (K : Keeps O.Op O.Ret) (flight : O.Op → List ℕ → K.InFlight) where
  -- a row's entries

  found_entry : (r : List (Entry O)) → found [] (history_entry O K flight r) ≡ completes O K flight r
  found_entry [] = refl
  found_entry (e ∷ r) = refl

  no_flight : {r : List (Entry O)} → Shaped O r → flying O r ≡ false → flight_entry O K flight r ≡ none
  no_flight empty f = refl
  no_flight (in_flight {e = e} n) f = let p : pending O e.ret ≡ true = ap (pending O) n in let a : true ≡ false = rw p at f in not_both refl a
  no_flight (completed_first {e = e} n s) f = let p : pending O e.ret ≡ false = ap (pending O) n in rw n (no_flight s (rw p at f))

  -- of a row that is extended

  new_completes : (r : List (Entry O)) (e : Entry O) → e.ret ≡ none → completes O K flight (r ++ (e ∷ [])) ≡ completes O K flight r
  new_completes [] e n = rw n
  new_completes (g ∷ r) e n = rw (new_completes r e n)

  new_entry : (r : List (Entry O)) (e : Entry O) → e.ret ≡ none → history_entry O K flight (r ++ (e ∷ [])) ≡ some (completes O K flight r)
  new_entry [] e n = rw n
  new_entry (g ∷ r) e n = rw (new_completes r e n)

  new_flight : {r : List (Entry O)} (e : Entry O) → e.ret ≡ none → Shaped O r → flying O r ≡ false
      → flight_entry O K flight (r ++ (e ∷ [])) ≡ some (flight e.op e.needs)
  new_flight e h empty f = rw h
  new_flight e h (in_flight {e = g} n) f = let p : pending O g.ret ≡ true = ap (pending O) n in let a : true ≡ false = rw p at f in not_both refl a
  new_flight e h (completed_first {e = g} n s) f = let p : pending O g.ret ≡ false = ap (pending O) n in rw n (new_flight e h s (rw p at f))

  -- of a row whose operation in flight returns

  record Flies (r : List (Entry O)) : Type 0 where
    was : K.InFlight
    flew : flight_entry O K flight r ≡ some was
    landed : (q : O.Ret) → flight_entry O K flight (close_row O r q) ≡ none
    held : (q : O.Ret) → history_entry O K flight (close_row O r q) ≡ some (completes O K flight (close_row O r q))
    more : (q : O.Ret) → completes O K flight (close_row O r q) ≡ completes O K flight r ++ (K.completed was q ∷ [])

  flies : {r : List (Entry O)} → Shaped O r → flying O r ≡ true → Flies r
  flies empty f = not_both f refl
  flies (in_flight {e = e} n) f =
      let p : pending O e.ret ≡ true = ap (pending O) n in
      record { was = flight e.op e.needs; flew = rw n; landed = λ q. rw p; held = λ q. rw p; more = λ q. rw (p, n) }
  flies (completed_first {e = e} {r = r} n s) f =
      let p : pending O e.ret ≡ false = ap (pending O) n in
      let c = flies s (rw p at f) in
      record {
        was = c.was;
        flew = rw n c.flew;
        landed = λ q. rw (p, n) (c.landed q);
        held = λ q. rw p;
        more = λ q. rw (p, n, c.more q);
      }

  -- the calls, on rows

  flight_at : (rows : Rows O) (t : ℕ) → t < length rows → get (tabled (flight_entry O K flight) 0 rows) t ≡ flight_entry O K flight (row O rows t)
  flight_at rows t there = get_tabled (flight_entry O K flight) rows 0 t t [] (omega arith) there

  history_at : (rows : Rows O) (t : ℕ) → t < length rows
      → found [] (get (tabled (history_entry O K flight) 0 rows) t) ≡ completes O K flight (row O rows t)
  history_at rows t there =
      ap (found []) (get_tabled (history_entry O K flight) rows 0 t t [] (omega arith) there) ∙ found_entry (row O rows t)

  -- an entry is made by inserting what is there, or the default
  default_inserts : (rows : Rows O) (t : ℕ) → t < length rows → or_default [] (tabled (history_entry O K flight) 0 rows) t
      ≡ insert (tabled (history_entry O K flight) 0 rows) t (found [] (get (tabled (history_entry O K flight) 0 rows) t))
  default_inserts rows t there = go (get (tabled (history_entry O K flight) 0 rows) t) (get_tabled (history_entry O K flight) rows 0 t t [] (omega arith) there)
    where
      go : (o : Option (List K.Complete)) → o ≡ history_entry O K flight (row O rows t)
          → or_insert o [] (tabled (history_entry O K flight) 0 rows) t ≡ insert (tabled (history_entry O K flight) 0 rows) t (found [] o)
      go none e = refl
      go (some v) e =
          ap (tabled (history_entry O K flight) 0) (sym (set-get_or rows t []))
          ∙ sym (insert_tabled (history_entry O K flight) rows 0 t t (row O rows t) v (omega arith) there (sym e))

  module _ {Start : Type 0} (start : Start) (rows : Rows O) (t : ℕ) (there : t < length rows) where
    -- An invoke of a thread that has one in flight.
    pub invokes_busy : (op : O.Op) → Shaped O (row O rows t) → flying O (row O rows t) ≡ true
        → on_invoke O.Op O.Ret Start K (in_maps O K flight start rows true) t op ≡ record { result = Err; tester = in_maps O K flight start rows false }
    invokes_busy op s f = rw (flight_at rows t there ∙ (flies s f).flew)

    -- A return to a thread that has none in flight: the text of the error makes an entry.
    pub returns_idle : (q : O.Ret) → Shaped O (row O rows t) → flying O (row O rows t) ≡ false
        → on_return O.Op O.Ret Start K (in_maps O K flight start rows true) t q
        ≡ record { result = Err; tester = with_entry O.Op O.Ret Start K (in_maps O K flight start rows false) t }
    returns_idle q s f = rw (flight_at rows t there ∙ no_flight s f)

    -- A return to a thread that has one in flight.
    pub returns_closes : (q : O.Ret) → Shaped O (row O rows t) → flying O (row O rows t) ≡ true
        → on_return O.Op O.Ret Start K (in_maps O K flight start rows true) t q
        ≡ record { result = Ok; tester = in_maps O K flight start (close O rows t q) true }
    returns_closes q s f =
        let c = flies s f in
        let after : List (Entry O) = close_row O (row O rows t) q in
        rw (
          flight_at rows t there ∙ c.flew,
          history_at rows t there,
          sym (c.more q),
          insert_tabled (history_entry O K flight) rows 0 t t after (completes O K flight after) (omega arith) there
              (c.held q),
          remove_tabled (flight_entry O K flight) rows 0 t t after (omega arith) there (c.landed q),
        )

    -- An invoke of a thread that has none in flight, where the Rust takes along what is kept of the rows.
    pub invokes_extends : (op : O.Op) (needs : List ℕ) → K.begun (tabled (history_entry O K flight) 0 rows) t op ≡ flight op needs
        → Shaped O (row O rows t) → flying O (row O rows t) ≡ false
        → on_invoke O.Op O.Ret Start K (in_maps O K flight start rows true) t op
        ≡ record { result = Ok; tester = in_maps O K flight start (extend O rows t (record { op = op; ret = none; needs = needs })) true }
    invokes_extends op needs b s f =
        let e : Entry O = record { op = op; ret = none; needs = needs } in
        rw (
          flight_at rows t there ∙ no_flight s f,
          b,
          default_inserts rows t there,
          history_at rows t there,
          insert_tabled (history_entry O K flight) rows 0 t t (row O rows t ++ (e ∷ [])) (completes O K flight (row O rows t)) (omega arith) there
              (new_entry (row O rows t) e refl),
          insert_tabled (flight_entry O K flight) rows 0 t t (row O rows t ++ (e ∷ [])) (flight op needs) (omega arith) there (new_flight e refl s f),
        )

  -- how many are held

  abbrev counted : Option K.InFlight → ℕ
  counted none = 0
  counted (some w) = 1

  row_length : {r : List (Entry O)} → Shaped O r → counted (flight_entry O K flight r) + length (completes O K flight r) ≡ length r
  row_length empty = refl
  row_length (in_flight n) = rw n
  row_length (completed_first n s) = rw n (omega (arith, row_length s))

  flights_length : (k : ℕ) (o : Option K.InFlight) (m : Map K.InFlight) → length (entry k o m) ≡ counted o + length m
  flights_length k none m = omega arith
  flights_length k (some w) m = omega arith

  history_lengths : (k : ℕ) (r : List (Entry O)) (m : Map (List K.Complete))
      → lengths (entry k (history_entry O K flight r) m) ≡ length (completes O K flight r) + lengths m
  history_lengths k [] m = omega arith
  history_lengths k (e ∷ r) m = refl

  pub len_operations : (k : ℕ) (rows : Rows O) → ((t : ℕ) → Shaped O (row O rows t))
      → length (tabled (flight_entry O K flight) k rows) + lengths (tabled (history_entry O K flight) k rows) ≡ operations O rows
  len_operations k [] s = refl
  len_operations k (r ∷ rows) s =
      omega (
        arith,
        flights_length k (flight_entry O K flight r) (tabled (flight_entry O K flight) (suc k) rows),
        history_lengths k r (tabled (history_entry O K flight) (suc k) rows),
        row_length (s 0),
        len_operations (suc k) rows (λ t. s (suc t)),
      )

  -- an entry that is made where there was none is empty, so that the lengths stay
  entry_lengths : (rows : Rows O) (k i j : ℕ) → j ≡ k + i → i < length rows
      → lengths (insert (tabled (history_entry O K flight) k rows) j (completes O K flight (row O rows i))) ≡ lengths (tabled (history_entry O K flight) k rows)
  entry_lengths [] k i j e h = absurd (omega arith)
  entry_lengths (r ∷ rows) k zero j e h =
      let z : j ≡ k = omega arith in
      let m = tabled (history_entry O K flight) (suc k) rows in
      rw (
        z,
        insert_own k (history_entry O K flight r) m (completes O K flight r)
            (insert_before (history_entry O K flight) rows (suc k) k (completes O K flight r) (omega arith)),
      )
      (sym (history_lengths k r m))
  entry_lengths (r ∷ rows) k (suc i) j e h =
      let m = tabled (history_entry O K flight) (suc k) rows in
      ap lengths (insert_past k j (history_entry O K flight r) m (completes O K flight (row O rows i)) (omega arith))
      ∙ history_lengths k r (insert m j (completes O K flight (row O rows i)))
      ∙ rw (entry_lengths rows (suc k) i j (omega arith) (omega arith)) (sym (history_lengths k r m))

  pub stray_lengths : (rows : Rows O) (t : ℕ) → t < length rows
      → lengths (or_default [] (tabled (history_entry O K flight) 0 rows) t) ≡ lengths (tabled (history_entry O K flight) 0 rows)
  stray_lengths rows t h = rw (default_inserts rows t h, history_at rows t h) (entry_lengths rows 0 t t (omega arith) h)

  -- what the Rust's linearizability tester takes along at an invoke

  completes_length : (r : List (Entry O)) → length (completes O K flight r) ≡ completed O r
  completes_length [] = refl
  completes_length (e ∷ r) = go e.ret (completes_length r)
    where
      go : (o : Option O.Ret) → length (completes O K flight r) ≡ completed O r
          → length (with_complete O K flight e o (completes O K flight r)) ≡ cond (pending O o) (completed O r) (suc (completed O r))
      go none h = h
      go (some q) h = ap suc h

  last_other : (k j : ℕ) (cs : List K.Complete) (m : Map ℕ) → j ≢ k → last_of j k cs m ≡ entry k (index O (length cs)) m
  last_other k j [] m d = refl
  last_other k j (c ∷ cs) m d = rw (ne_eqb k j (λ z. d (sym z)))

  last_own : (k : ℕ) (cs : List K.Complete) (m : Map ℕ) → last_of k k cs m ≡ m
  last_own k [] m = refl
  last_own k (c ∷ cs) m = rw (eq-eqb k k refl)

  last_past : (k j : ℕ) (r : List (Entry O)) (m : Map (List K.Complete)) → j ≢ k
      → last_completed (entry k (history_entry O K flight r) m) j ≡ entry k (index O (completed O r)) (last_completed m j)
  last_past k j [] m d = refl
  last_past k j (e ∷ r) m d = last_other k j (completes O K flight (e ∷ r)) (last_completed m j) d ∙ rw (completes_length (e ∷ r))

  last_here : (k : ℕ) (r : List (Entry O)) (m : Map (List K.Complete))
      → last_completed (entry k (history_entry O K flight r) m) k ≡ last_completed m k
  last_here k [] m = refl
  last_here k (e ∷ r) m = last_own k (completes O K flight (e ∷ r)) (last_completed m k)

  last_before : (rows : Rows O) (k j : ℕ) → j < k
      → last_completed (tabled (history_entry O K flight) k rows) j ≡ tabled (index O) k (map (completed O) rows)
  last_before [] k j h = refl
  last_before (r ∷ rows) k j h =
      last_past k j r (tabled (history_entry O K flight) (suc k) rows) (λ z. omega arith)
      ∙ ap (entry k (index O (completed O r))) (last_before rows (suc k) j (omega arith))

  pub last_noted : (rows : Rows O) (k i j : ℕ) → j ≡ k + i → i < length rows
      → last_completed (tabled (history_entry O K flight) k rows) j ≡ tabled (index O) k (set (map (completed O) rows) i 0)
  last_noted [] k i j e h = absurd (omega arith)
  last_noted (r ∷ rows) k zero j e h =
      let z : j ≡ k = omega arith in
      rw z (last_here k r (tabled (history_entry O K flight) (suc k) rows) ∙ last_before rows (suc k) k (omega arith))
  last_noted (r ∷ rows) k (suc i) j e h =
      last_past k j r (tabled (history_entry O K flight) (suc k) rows) (λ z. omega arith)
      ∙ ap (entry k (index O (completed O r))) (last_noted rows (suc k) i j (omega arith) (omega arith))
