-- A replay takes an order step by step; what it takes are exactly the legal orders.
use Rattle.std.specs.Prelude.{ℕ, zero, suc, ◌+◌, ◌≤◌, ◌<◌, ◌≡◌, refl, ◌↔◌, Bool, true, false, [], ◌∷◌, length, get_or, take, drop}
use Rattle.std.proofs.Common.{sym, ap, ◌∙◌, drop_of_length-le, arith}
use Rattle.std.proofs.Math.Option.{Option, none, some}
use Rattle.std.proofs.Math.ListN.{get_elem? as nth}
use Rattle.history.specs.Object.{Object, Lawful}
use Rattle.history.specs.Rows.{Entry, Rows, row, Is}
use Rattle.history.specs.Orders.{Item, Order, occurs, Stands, state, InTime, EndsCompleted, LegalOrder}
use Rattle.history.specs.Lists.{nth_lt, nth_has, drop_nth, get_d_below, not_some}
use Rattle.history.specs.Space.{Node, met, all_placed, checked, gives, stepped, root, Plays}
use Rattle.history.specs.Progress.{met_of, of_met, placed_of, of_placed, left_of, of_left}
use Rattle.history.specs.Numbering.{stands_below, find}
use Rattle.history.specs.Reach.{reach, reach_length, reach_at, reach_next, reach_step, reach_end}
use Rattle.history.specs.Replay.{Replays, ended, played}

-- returns

module _ (O : Object) where
  checked_of_lem : (b : Bool) (r q : O.Ret) → checked O b r ≡ some q → (b ≡ true) × (r ≡ q)
  checked_of_lem true r q h = (refl, cc)
  checked_of_lem false r q h = not_some h

  gives_of : (s : O.State) (o : O.Op) (a : Option O.Ret) (r : O.Ret) → ((q : O.Ret) → a ≡ some q → r ≡ q) → (a ≡ none → r ≡ O.answers s o)
      → O.ok s o r ≡ true → gives O s o a ≡ some r
  gives_of s o none r f g h = ap some (sym (g refl))
  gives_of s o (some q) r f g h = let z : r ≡ q = f q refl in rw (← z, h)

  pub gives_recorded : (s : O.State) (o : O.Op) (a : Option O.Ret) (r q : O.Ret) → gives O s o a ≡ some r → a ≡ some q → r ≡ q
  gives_recorded s o none r q h e = not_some e
  gives_recorded s o (some p) r q h e = let z = checked_of_lem (O.ok s o p) p r h in let y = z.1 in cc

  gives_answered : (s : O.State) (o : O.Op) (a : Option O.Ret) (r : O.Ret) → gives O s o a ≡ some r → a ≡ none → r ≡ O.answers s o
  gives_answered s o none r h e = cc
  gives_answered s o (some p) r h e = not_some (sym e)

  pub gives_right : Lawful O → (s : O.State) (o : O.Op) (a : Option O.Ret) (r : O.Ret) → gives O s o a ≡ some r → O.ok s o r ≡ true
  gives_right L s o none r h = let z : O.answers s o ≡ r = cc in rw z at (L.answers_ok s o)
  gives_right L s o (some p) r h = let z = checked_of_lem (O.ok s o p) p r h in rw z.1 at z.0

module _ (O : Object) (rows : Rows O) (s : O.State) (p : Order O) where
  abbrev node : ℕ → Node O
  node i = reach O rows s p i

  -- from legal orders to the replay

  module _ (w : LegalOrder O rows s p) where
    build : (m i : ℕ) → i + m ≡ length p → Replays O rows (node i) (drop i p)
    build zero i h =
        rw (drop_of_length-le p {i = i} (omega arith)) (ended (placed_of O rows (node i).progress (λ t.
        left_of O (row O rows t) (get_or (node i).progress t 0) (λ k e q m g.
        let a = w.complete t k e q m g in
        let b = stands_below O p a.0 t k a.1 a.2 in
        rw (reach_at O rows s p i t (get_d_below rows t k e m), reach_end O rows s p i (omega arith)) b))))
    build (suc m) i h =
        let x = nth_has p i (omega arith) in
        let t = x.0.thread in
        let r = x.0.ret in
        let st : Stands O p i t (occurs O t (take i p)) r = record { here = x.1; number = refl } in
        let e = w.known i t (occurs O t (take i p)) r st in
        let rest : Replays O rows (node (suc i)) (drop (suc i) p) = build m (suc i) (omega arith) in
        rw (drop_nth p i x.0 x.1) (played {p = drop (suc i) p} (record {
          entry = e.0;
          is_next = reach_next O rows s p i t ∙ e.1;
          is_met = met_of e.0.needs (node i).progress (λ u k.
              let l : u < length rows = omega (arith, reach_length O rows s p i) in
              rw (reach_at O rows s p i u l) (w.in_time i t _ r e.0 st e.1 u l));
          is_given = gives_of O (state O rows s p i) e.0.op e.0.ret r (λ q g. w.recorded i t _ r q e.0 st e.1 g)
              (λ g. w.answered i t _ r e.0 st e.1 g) (w.right i t _ r e.0 st e.1);
        }) (rw (reach_step O rows s p i x.0 e.0 x.1 e.1) rest))

    order_replays : Replays O rows (root O rows s) p
    order_replays = build (length p) 0 (omega arith)

  -- and back

  record Head (x : Node O) (i : Item O) (q : Order O) : Type 0 where
    plays : Plays O rows x i.thread i.ret
    others : Replays O rows (stepped O x i.thread plays.entry) q

  head : {x : Node O} {i : Item O} {q : Order O} → Replays O rows x (i ∷ q) → Head x i q
  head (played h w) = record { plays = h; others = w }

  all_ended : {x : Node O} → Replays O rows x [] → all_placed O rows x.progress ≡ true
  all_ended (ended h) = h

  -- a thread's next operation is the one of its number
  pub is_at : (i t : ℕ) (r : O.Ret) (h : Plays O rows (node i) t r) → Is O rows t (occurs O t (take i p)) h.entry
  is_at i t r h = sym (reach_next O rows s p i t) ∙ h.is_next

  module _ (l : Replays O rows (root O rows s) p) where
    head_at : (i : ℕ) (x : Item O) → nth p i ≡ some x → Replays O rows (node i) (drop i p) → Head (node i) x (drop (suc i) p)
    head_at i x h w = head (rw (drop_nth p i x h) at w)

    -- the replay is at that point of the order
    stay : (i : ℕ) → i ≤ length p → Replays O rows (node i) (drop i p)
    stay zero h = l
    stay (suc i) h =
        let x = nth_has p i (omega arith) in
        let z = head_at i x.0 x.1 (stay i (omega arith)) in
        rw (reach_step O rows s p i x.0 z.plays.entry x.1 (is_at i x.0.thread x.0.ret z.plays)) at z.others

    pub plays_at : (i t : ℕ) (r : O.Ret) → nth p i ≡ some (record { thread = t; ret = r }) → Plays O rows (node i) t r
    plays_at i t r h = (head_at i (record { thread = t; ret = r }) h (stay i (let a = nth_lt p i _ h in omega arith))).plays

    -- what the replay says of the operation at a place
    says : (i t k : ℕ) (r : O.Ret) (e : Entry O) → Stands O p i t k r → Is O rows t k e
        → (met e.needs (node i).progress ≡ true) × (gives O (state O rows s p i) e.op e.ret ≡ some r)
    says i t k r e st m =
        let z = plays_at i t r st.here in
        let a : some z.entry ≡ some e = sym (is_at i t r z) ∙ ap (nth (row O rows t)) st.number ∙ m in
        let q : z.entry ≡ e = cc in (
          ap (λ (f : Entry O). met f.needs (node i).progress) (sym q) ∙ z.is_met,
          ap (λ (f : Entry O). gives O (state O rows s p i) f.op f.ret) (sym q) ∙ z.is_given,
        )

    pub all_at_end : (i : ℕ) → i ≡ length p → all_placed O rows (node i).progress ≡ true
    all_at_end i h =
        let w : Replays O rows (node i) [] = rw (drop_of_length-le p {i = i} (omega arith)) at (stay i (omega arith)) in
        all_ended w

    completed_stands : (t k : ℕ) (e : Entry O) (q : O.Ret) → Is O rows t k e → e.ret ≡ some q → k < occurs O t p
    completed_stands t k e q m g =
        let a = of_placed O rows (node (length p)).progress (reach_length O rows s p (length p)) (all_at_end (length p) refl) t in
        let b = of_left O (row O rows t) (get_or (node (length p)).progress t 0) a k e q m g in
        rw (reach_at O rows s p (length p) t (get_d_below rows t k e m), reach_end O rows s p (length p) refl) at b

    replay_in_time : InTime O rows p
    replay_in_time i t k r e st m u h =
        let b = of_met e.needs (node i).progress (says i t k r e st m).0 u (omega (arith, reach_length O rows s p i)) in
        rw (reach_at O rows s p i u h) at b

    replay_order : Lawful O → EndsCompleted O rows p → LegalOrder O rows s p
    replay_order L f = record {
      known = λ i t k r st. let z = plays_at i t r st.here in (z.entry, ap (nth (row O rows t)) (sym st.number) ∙ is_at i t r z);
      complete = λ t k e q m g. find O t p k (completed_stands t k e q m g);
      recorded = λ i t k r q e st m g. gives_recorded O (state O rows s p i) e.op e.ret r q (says i t k r e st m).1 g;
      answered = λ i t k r e st m g. gives_answered O (state O rows s p i) e.op e.ret r (says i t k r e st m).1 g;
      right = λ i t k r e st m. gives_right O L (state O rows s p i) e.op e.ret r (says i t k r e st m).1;
      in_time = replay_in_time;
      ends_completed = f;
    }

-- The legal orders are those that the replay takes and that are empty or end with a completed operation.
pub replay_orders : (O : Object) → Lawful O → (rows : Rows O) (s : O.State) (p : Order O)
    → LegalOrder O rows s p ↔ (Replays O rows (root O rows s) p × EndsCompleted O rows p)
replay_orders O L rows s p = (λ w. (order_replays O rows s p w, w.ends_completed), λ w. replay_order O rows s p w.0 L w.1)
