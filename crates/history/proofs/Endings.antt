-- A replayed order ends with a completed operation exactly if it takes no step once every completed operation is placed.
use Rattle.std.specs.Prelude.{ℕ, zero, suc, ◌+◌, ◌≤◌, ◌≡◌, refl, ◌↔◌, true, false, ◌∷◌, length, get_or, take, drop}
use Rattle.std.proofs.Common.{sym, ap, ◌∙◌, drop_of_length-le, arith}
use Rattle.std.proofs.Math.Option.{Option, none, some}
use Rattle.std.proofs.Math.ListN.{get_elem? as nth}
use Rattle.history.specs.Object.{Object, Lawful}
use Rattle.history.specs.Rows.{Rows, row}
use Rattle.history.specs.Orders.{Order, occurs, Stands, EndsCompleted, LegalOrder}
use Rattle.history.specs.Recorder.{pending}
use Rattle.history.specs.Lists.{nth_has, drop_nth, not_both, not_true}
use Rattle.history.specs.Space.{Node, next, more, all_placed, root}
use Rattle.history.specs.Progress.{next_row, of_placed, of_left, placed_on, placed_back}
use Rattle.history.specs.Reach.{reach, reach_length, reach_next, reach_more}
use Rattle.history.specs.Replay.{Replays}
use Rattle.history.proofs.Replay.{is_at, plays_at, all_at_end, replay_orders}
use Rattle.history.specs.Endings.{Tight}

module _ (O : Object) where
  completed_of : (a : Option O.Ret) → pending O a ≡ false → (q : O.Ret) × (a ≡ some q)
  completed_of none h = absurd (let z : ◌≡◌ {A = ℕ} 0 1 = cc in omega arith)
  completed_of (some q) h = (q, refl)

module _ (O : Object) (rows : Rows O) (s : O.State) (p : Order O) (l : Replays O rows (root O rows s) p) where
  abbrev node : ℕ → Node O
  node i = reach O rows s p i

  -- some completed operation is not placed before the last place
  open_at : EndsCompleted O rows p → (m i : ℕ) → suc (i + m) ≡ length p → all_placed O rows (node i).progress ≡ false
  open_at f zero i h = not_true (λ a.
      let x = nth_has p i (omega arith) in
      let z = plays_at O rows s p l i x.0.thread x.0.ret x.1 in
      let st : Stands O p i x.0.thread (occurs O x.0.thread (take i p)) x.0.ret = record { here = x.1; number = refl } in
      let e = f i x.0.thread _ x.0.ret z.entry (omega arith) st (is_at O rows s p i x.0.thread x.0.ret z) in
      let b = of_placed O rows (node i).progress (reach_length O rows s p i) a x.0.thread in
      let n = get_or (node i).progress x.0.thread 0 in
      let c = of_left O (row O rows x.0.thread) n b n z.entry e.0
      (sym (next_row rows (node i).progress x.0.thread (reach_length O rows s p i)) ∙ z.is_next) e.1 in
      omega arith)
  open_at f (suc m) i h = not_true (λ a.
      let x = nth_has p i (omega arith) in
      let b : all_placed O rows (node (suc i)).progress ≡ true
      = ap (all_placed O rows) (sym (reach_more O rows s p i x.0 x.1)) ∙ placed_on O rows (node i).progress x.0.thread a in
      not_both b (open_at f m (suc i) (omega arith)))

  tight_from : EndsCompleted O rows p → (m i : ℕ) → i + m ≡ length p → Tight O rows (node i).progress (drop i p)
  tight_from f zero i h = rw (drop_of_length-le p {i = i} (omega arith)) tt
  tight_from f (suc m) i h =
      let x = nth_has p i (omega arith) in
      rw (drop_nth p i x.0 x.1) (open_at f m i (omega arith), rw (reach_more O rows s p i x.0 x.1) (tight_from f m (suc i) (omega arith)))

  tight_at : Tight O rows (node 0).progress p → (i : ℕ) → i ≤ length p → Tight O rows (node i).progress (drop i p)
  tight_at w zero h = w
  tight_at w (suc i) h =
      let x = nth_has p i (omega arith) in
      let v : Tight O rows (node i).progress (x.0 ∷ drop (suc i) p) = rw (drop_nth p i x.0 x.1) at (tight_at w i (omega arith)) in
      rw (reach_more O rows s p i x.0 x.1) at v.1

  tight_ends : Tight O rows (node 0).progress p → EndsCompleted O rows p
  tight_ends w i t k r e h st m = completed_of O e.ret (not_true (λ a.
      let v : Tight O rows (node i).progress (record { thread = t; ret = r } ∷ drop (suc i) p)
      = rw (drop_nth p i (record { thread = t; ret = r }) st.here) at (tight_at w i (omega arith)) in
      let n : next rows (node i).progress t ≡ some e = reach_next O rows s p i t ∙ ap (nth (row O rows t)) st.number ∙ m in
      let b : all_placed O rows (more (node i).progress t) ≡ true
      = ap (all_placed O rows) (reach_more O rows s p i (record { thread = t; ret = r }) st.here) ∙ all_at_end O rows s p l (suc i) h in
      not_both (placed_back O rows (node i).progress t e n a b) v.0))

  pub ends_tight : EndsCompleted O rows p ↔ Tight O rows (root O rows s).progress p
  ends_tight = (λ f. tight_from f (length p) 0 (omega arith), tight_ends)

-- The legal orders are those that the replay takes with no step too many.
pub legal_orders : (O : Object) → Lawful O → (rows : Rows O) (s : O.State) (p : Order O)
    → LegalOrder O rows s p ↔ (Replays O rows (root O rows s) p × Tight O rows (root O rows s).progress p)
legal_orders O L rows s p =
    let r = replay_orders O L rows s p in (
      λ w. let l = r.0 w in (l.0, (ends_tight O rows s p l.0).0 l.1),
      λ w. r.1 (w.0, (ends_tight O rows s p w.0).1 w.1),
    )
