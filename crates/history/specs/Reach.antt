-- Where a replay of an order stands after the first places: progress and object.
use Rattle.std.specs.Prelude.{ℕ, suc, ◌+◌, ◌<◌, ◌≡◌, refl, Bool, true, false, List, [], ◌∷◌, ◌++◌, length, get_or, take, replicate, leb}
use Rattle.std.proofs.Common.{sym, ◌∙◌, length-set, take_all, leb-true, leb-false, arith}
use Rattle.std.proofs.Math.Option.{some}
use Rattle.std.proofs.lemmas.List.{length-replicate}
use Rattle.std.proofs.Math.ListN.{get_or-eq_default, get_elem? as nth}
use Rattle.history.specs.Object.{Object}
use Rattle.history.specs.Rows.{Entry, Rows, row, Is}
use Rattle.history.specs.Orders.{Item, Order, occurs, state}
use Rattle.history.specs.Lists.{take_nth, get_d_same}
use Rattle.history.specs.Space.{Node, next, more, stepped}
use Rattle.history.specs.Progress.{more_at, next_row}

module _ (O : Object) where
  -- progress after an order
  abbrev pub progress_after : List ℕ → Order O → List ℕ
  progress_after ps [] = ps
  progress_after ps (x ∷ p) = progress_after (more ps x.thread) p

  progress_snoc : (ps : List ℕ) (p : Order O) (x : Item O) → progress_after ps (p ++ (x ∷ [])) ≡ more (progress_after ps p) x.thread
  progress_snoc ps [] x = refl
  progress_snoc ps (y ∷ p) x = progress_snoc (more ps y.thread) p x

  progress_length : (ps : List ℕ) (p : Order O) → length (progress_after ps p) ≡ length ps
  progress_length ps [] = refl
  progress_length ps (y ∷ p) = progress_length (more ps y.thread) p ∙ length-set ps y.thread _

  progress_at : (ps : List ℕ) (p : Order O) (t : ℕ) → t < length ps → get_or (progress_after ps p) t 0 ≡ get_or ps t 0 + occurs O t p
  progress_at ps [] t h = omega arith
  progress_at ps (x ∷ p) t h =
      let a = progress_at (more ps x.thread) p t (rw (length-set ps x.thread _) h) in
      let b = more_at ps x.thread t (λ y. rw y h) in
      omega arith

module _ (O : Object) (rows : Rows O) (s : O.State) (p : Order O) where
  abbrev pub reach : ℕ → Node O
  reach i = record { progress = progress_after O (replicate (length rows) 0) (take i p); object = state O rows s p i }

  pub reach_length : (i : ℕ) → length (reach i).progress ≡ length rows
  reach_length i = progress_length O (replicate (length rows) 0) (take i p) ∙ length-replicate (length rows) 0

  pub reach_at : (i t : ℕ) → t < length rows → get_or (reach i).progress t 0 ≡ occurs O t (take i p)
  reach_at i t h =
      let a = progress_at O (replicate (length rows) 0) (take i p) t (rw (length-replicate {A = ℕ} (length rows) 0) h) in
      let b = get_d_same {A = ℕ} (length rows) t 0 in
      omega arith

  -- the thread's next operation is the one that stands there
  pub reach_next : (i t : ℕ) → next rows (reach i).progress t ≡ nth (row O rows t) (occurs O t (take i p))
  reach_next i t = next_row rows (reach i).progress t (reach_length i) ∙ go (leb (length rows) t) refl
    where
      go : (b : Bool) → leb (length rows) t ≡ b → nth (row O rows t) (get_or (reach i).progress t 0) ≡ nth (row O rows t) (occurs O t (take i p))
      go true h = let e : row O rows t ≡ [] = get_or-eq_default rows [] (leb-true (length rows) t h) in rw e
      go false h = rw (reach_at i t (leb-false (length rows) t h))

  pub reach_more : (i : ℕ) (x : Item O) → nth p i ≡ some x → more (reach i).progress x.thread ≡ (reach (suc i)).progress
  reach_more i x h = rw (take_nth p i x h) (sym (progress_snoc O (replicate (length rows) 0) (take i p) x))

  pub reach_step : (i : ℕ) (x : Item O) (e : Entry O) → nth p i ≡ some x → Is O rows x.thread (occurs O x.thread (take i p)) e
      → stepped O (reach i) x.thread e ≡ reach (suc i)
  reach_step i x e h k = λ j. record { progress = reach_more i x h j; object = b j }
    where
      b : O.after (state O rows s p i) e.op ≡ state O rows s p (suc i)
      b = rw (h, k)

  pub reach_end : (i : ℕ) → i ≡ length p → take i p ≡ p
  reach_end i h = take_all i p (omega arith)
