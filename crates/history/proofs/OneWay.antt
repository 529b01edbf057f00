-- The one-way law: a history fed from fresh with notes that has a legal order had one before its last events; so a refused history stays refused
-- whatever events follow.
use Rattle.std.specs.Prelude.{ℕ, zero, suc, ◌<◌, ◌≡◌, refl, ◌⊎◌, Bool, true, false, cond, List, [], ◌∷◌, ◌++◌, length, get_or}
use Rattle.std.proofs.Common.{sym, ap, ◌∙◌, inl, inr, length-set, arith}
use Rattle.std.proofs.Math.Option.{some}
use Rattle.std.proofs.Math.ListN.{get_elem? as nth}
use Rattle.history.specs.Object.{Object, Lawful}
use Rattle.history.specs.Events.{Events}
use Rattle.history.specs.Rows.{Entry, Rows, row, Is, Shaped, AllShaped, empty, in_flight, completed_first}
use Rattle.history.specs.Orders.{Order, LegalOrder}
use Rattle.history.specs.Recorder.{pending, completed, notes, extend, close_row, close, new, Feeds, Fed}
use Rattle.history.specs.Lists.{nth_lt, nth_before, nth_snoc, get_d_below, not_some, own_or_other}
use Rattle.history.specs.Space.{met, all_placed}
use Rattle.history.specs.Progress.{of_met, placed_of, left_of}
use Rattle.history.specs.Feeding.{each_row, along, sooner_self, close_sooner, fed_between}
use Rattle.history.specs.Recorded.{Held, held_invoked, held_returned, fed_held}
use Rattle.history.proofs.Notes.{notes_other}
use Rattle.history.specs.Earlier.{Was, Earlier}
use Rattle.history.proofs.Earlier.{order_before}

module _ (O : Object) where
  -- in shape, the completed operations are the first ones
  completed_first_ones : {r : List (Entry O)} (k : ℕ) (e : Entry O) (q : O.Ret) → Shaped O r → nth r k ≡ some e → e.ret ≡ some q → k < completed O r
  completed_first_ones k e q empty m g = not_some m
  completed_first_ones zero e q (in_flight {e = x} n) m g = let y : x ≡ e = cc in not_some (sym (ap (λ (z : Entry O). z.ret) (sym y) ∙ n) ∙ g)
  completed_first_ones (suc k) e q (in_flight n) m g = not_some m
  completed_first_ones zero e q (completed_first {e = x} n s) m g = let p : pending O x.ret ≡ false = ap (pending O) n in rw p (omega arith)
  completed_first_ones (suc k) e q (completed_first {e = x} n s) m g =
      let p : pending O x.ret ≡ false = ap (pending O) n in
      let z = completed_first_ones k e q s m g in
      rw p (omega arith)

  -- an operation invoked last waits for all that is completed
  waits : (rows : Rows O) → AllShaped O rows → (t : ℕ) (ps : List ℕ) → length ps ≡ length rows → get_or ps t 0 ≡ length (row O rows t)
      → met (notes O rows t) ps ≡ true → all_placed O rows ps ≡ true
  waits rows s t ps l h m = placed_of O rows ps (λ u. left_of O (row O rows u) (get_or ps u 0) (own_or_other
      (λ u. (k : ℕ) (e : Entry O) (q : O.Ret) → Is O rows u k e → e.ret ≡ some q → k < get_or ps u 0) t
      (λ k e q n g. let z = nth_lt (row O rows t) k e n in omega arith)
      (λ u d k e q n g.
      let a = completed_first_ones k e q (s u) n g in
      let b = of_met (notes O rows t) ps m u (let c = get_d_below rows u k e n in omega arith) in
      let c = notes_other O rows t u d in
      omega arith) u))

  -- before an invocation: the operation is not needed in the order, since nothing completed follows it
  before_invoked : (rows : Rows O) (t : ℕ) (o : O.Op) → AllShaped O rows → t < length rows → Earlier O rows (extend O rows t (new O (notes O) rows t o))
  before_invoked rows t o s l = record {
    threads = sym (length-set rows t _);
    completed_then = λ u k e q m g.
        each_row O (λ u r. Is O rows u k e → nth r k ≡ some e) rows t _ l (nth_before (row O rows t) k e _) (λ u d m. m) u m;
    was_there = λ ps h u f m n.
        each_row O (λ u r. nth r (get_or ps u 0) ≡ some f → Was O rows u (get_or ps u 0) f ⊎ (all_placed O rows ps ≡ true)) rows t _ l
        (λ i. last ps h f n (nth_snoc (row O rows t) (get_or ps t 0) _ f i)) (λ u d i. inl (f, i, sooner_self O f)) u m;
  }
    where
      last : (ps : List ℕ) → length ps ≡ length rows → (f : Entry O) → met f.needs ps ≡ true
          → Is O rows t (get_or ps t 0) f ⊎ ((f ≡ new O (notes O) rows t o) × (get_or ps t 0 ≡ length (row O rows t)))
          → Was O rows t (get_or ps t 0) f ⊎ (all_placed O rows ps ≡ true)
      last ps h f n (inl i) = inl (f, i, sooner_self O f)
      last ps h f n (inr i) = inr (waits rows s t ps h i.1 (ap (λ (e : Entry O). met e.needs ps) (sym i.0) ∙ n))

  -- a return leaves what is completed
  close_keeps : (r : List (Entry O)) (q : O.Ret) (k : ℕ) (e : Entry O) (p : O.Ret) → nth r k ≡ some e → e.ret ≡ some p → nth (close_row O r q) k ≡ some e
  close_keeps [] q k e p m g = not_some m
  close_keeps (x ∷ r) q zero e p m g =
      let y : x ≡ e = cc in
      let c : pending O x.ret ≡ false = ap (λ (z : Entry O). pending O z.ret) y ∙ ap (pending O) g in
      rw c m
  close_keeps (x ∷ r) q (suc k) e p m g = go (pending O x.ret) (close_keeps r q k e p m g)
    where
      go : (b : Bool) → nth (close_row O r q) k ≡ some e
          → nth (cond b (record { op = x.op; ret = some q; needs = x.needs } ∷ r) (x ∷ close_row O r q)) (suc k) ≡ some e
      go true i = m
      go false i = i

  -- before a return: its operation was in flight
  before_returned : (rows : Rows O) (t : ℕ) (q : O.Ret) → t < length rows → Earlier O rows (close O rows t q)
  before_returned rows t q l = record {
    threads = sym (length-set rows t _);
    completed_then = λ u k e p m g.
        each_row O (λ u r. Is O rows u k e → nth r k ≡ some e) rows t _ l (λ m. close_keeps (row O rows t) q k e p m g) (λ u d m. m) u m;
    was_there = λ ps h u f m n.
        inl (each_row O (λ u r. nth r (get_or ps u 0) ≡ some f → Was O rows u (get_or ps u 0) f) rows t _ l
        (close_sooner O (row O rows t) q (get_or ps t 0) f) (λ u d i. (f, i, sooner_self O f)) u m);
  }

  -- what is kept while events are fed
  record Kept (rows : Rows O) (s : O.State) (H : Events O) (later : Rows O) : Type 0 where
    held : Held O H later
    before : ((p : Order O) × LegalOrder O later s p) → (q : Order O) × LegalOrder O rows s q

  -- Any events more, one or many: where there is a legal order then, there was one before.
  pub feeds_before : Lawful O → {k : ℕ} {H G : Events O} {rows later : Rows O} → Fed O (notes O) k H rows
      → Feeds O (notes O) rows G later → (s : O.State) → ((p : Order O) × LegalOrder O later s p) → (q : Order O) × LegalOrder O rows s q
  feeds_before L {H = H} {rows = rows} w v s = (along O (notes O) (Kept rows s)
      (λ K mid t o l f z. record {
        held = held_invoked O K mid t (new O (notes O) mid t o) refl l f z.held;
        before = λ p. z.before (order_before O (before_invoked mid t o z.held.shaped l) L s p);
      })
      (λ K mid t q l f z. record {
        held = held_returned O K mid t q l f z.held;
        before = λ p. z.before (order_before O (before_returned mid t q l) L s p);
      }) H (record { held = fed_held O w; before = λ p. p }) v).before

  -- A refused history stays refused: where there is a legal order after more events, there was one before them.
  pub refused_stays : Lawful O → {k : ℕ} {H : Events O} (G : Events O) {rows later : Rows O} → Fed O (notes O) k H rows
      → Fed O (notes O) k (H ++ G) later → (s : O.State) → ((p : Order O) × LegalOrder O later s p) → (q : Order O) × LegalOrder O rows s q
  refused_stays L G w v = feeds_before L w (fed_between O (notes O) w v)
