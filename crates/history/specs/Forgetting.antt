-- The sequential tester's rows are the linearizable tester's without their notes.
use Rattle.std.specs.Prelude.{ℕ, zero, suc, ◌<◌, ◌≡◌, refl, Bool, true, false, cond, ◌||◌, List, [], ◌∷◌, ◌++◌, map, length, set, replicate}
use Rattle.std.proofs.Common.{sym, ap, ◌∙◌, subst}
use Rattle.std.proofs.Math.Option.{some}
use Rattle.std.proofs.lemmas.List.{map-append, length-map}
use Rattle.std.proofs.Math.ListN.{get_or-map}
use Rattle.history.specs.Object.{Object}
use Rattle.history.specs.Events.{Events}
use Rattle.history.specs.Rows.{Entry, Rows, row, noteless, forget}
use Rattle.history.specs.Recorder.{pending, flying, rows_no_notes, extend, close_row, close, new, Feeds, fed, invokes, gives_back, Fed}

map_set : {A B : Type 0} (f : A → B) (l : List A) (i : ℕ) (a : A) → map f (set l i a) ≡ set (map f l) i (f a)
map_set f [] i a = refl
map_set f (x ∷ l) zero a = refl
map_set f (x ∷ l) (suc i) a = ap (λ (m : List _). f x ∷ m) (map_set f l i a)

map_replicate : {A B : Type 0} (f : A → B) (n : ℕ) (a : A) → map f (replicate n a) ≡ replicate n (f a)
map_replicate f zero a = refl
map_replicate f (suc n) a = ap (λ (k : List _). f a ∷ k) (map_replicate f n a)

module _ (O : Object) where
  pub row_forget : (rows : Rows O) (t : ℕ) → row O (forget O rows) t ≡ map (noteless O) (row O rows t)
  row_forget rows t = get_or-map (map (noteless O)) rows t []

  flying_forget : (r : List (Entry O)) → flying O (map (noteless O) r) ≡ flying O r
  flying_forget [] = refl
  flying_forget (e ∷ r) = ap (λ (b : Bool). pending O e.ret || b) (flying_forget r)

  close_forget : (r : List (Entry O)) (q : O.Ret) → map (noteless O) (close_row O r q) ≡ close_row O (map (noteless O) r) q
  close_forget [] q = refl
  close_forget (e ∷ r) q = go (pending O e.ret) (close_forget r q)
    where
      go : (b : Bool) → map (noteless O) (close_row O r q) ≡ close_row O (map (noteless O) r) q
          → map (noteless O) (cond b (record { op = e.op; ret = some q; needs = e.needs } ∷ r) (e ∷ close_row O r q))
          ≡ cond b (record { op = e.op; ret = some q; needs = [] } ∷ map (noteless O) r) (noteless O e ∷ close_row O (map (noteless O) r) q)
      go true h = refl
      go false h = ap (λ (l : List (Entry O)). noteless O e ∷ l) h

  shut_forget : (rows : Rows O) (t : ℕ) (q : O.Ret) → forget O (close O rows t q) ≡ close O (forget O rows) t q
  shut_forget rows t q =
      map_set (map (noteless O)) rows t _
      ∙ ap (set (forget O rows) t) (close_forget (row O rows t) q ∙ ap (λ (r : List (Entry O)). close_row O r q) (sym (row_forget rows t)))

  busy_forget : (rows : Rows O) (t : ℕ) → flying O (row O (forget O rows) t) ≡ flying O (row O rows t)
  busy_forget rows t = ap (flying O) (row_forget rows t) ∙ flying_forget (row O rows t)

  below_forget : (rows : Rows O) (t : ℕ) → t < length rows → t < length (forget O rows)
  below_forget rows t h = rw (length-map rows (map (noteless O))) h

  module _ (keep : Rows O → ℕ → List ℕ) where
    extend_forget : (rows : Rows O) (t : ℕ) (o : O.Op)
        → forget O (extend O rows t (new O keep rows t o)) ≡ extend O (forget O rows) t (new O (rows_no_notes O) (forget O rows) t o)
    extend_forget rows t o =
        map_set (map (noteless O)) rows t _ ∙ ap (set (forget O rows) t)
        (map-append (noteless O) (row O rows t) (new O keep rows t o ∷ [])
        ∙ ap (λ (r : List (Entry O)). r ++ (new O (rows_no_notes O) (forget O rows) t o ∷ [])) (sym (row_forget rows t)))

    feeds_forget : {rows end : Rows O} {H : Events O} → Feeds O keep rows H end → Feeds O (rows_no_notes O) (forget O rows) H (forget O end)
    feeds_forget fed = fed
    feeds_forget (invokes {rows = rows} {end = end} {t = t} {o = o} {H = H} l f w) =
        invokes (below_forget rows t l) (busy_forget rows t ∙ f)
        (subst (λ (r : Rows O). Feeds O (rows_no_notes O) r H (forget O end)) (extend_forget rows t o) (feeds_forget w))
    feeds_forget (gives_back {rows = rows} {end = end} {t = t} {q = q} {H = H} l f w) =
        gives_back (below_forget rows t l) (busy_forget rows t ∙ f)
        (subst (λ (r : Rows O). Feeds O (rows_no_notes O) r H (forget O end)) (shut_forget rows t q) (feeds_forget w))

    -- Whatever notes a recorder keeps: without them its rows are those of the recorder that keeps none.
    pub fed_forget : {k : ℕ} {H : Events O} {rows : Rows O} → Fed O keep k H rows → Fed O (rows_no_notes O) k H (forget O rows)
    fed_forget {k} {H} {rows} w = record {
      from_fresh = subst (λ (r : Rows O). Feeds O (rows_no_notes O) r H (forget O rows)) (map_replicate (map (noteless O)) k []) (feeds_forget w.from_fresh);
    }
