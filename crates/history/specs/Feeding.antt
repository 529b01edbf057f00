-- Feeding events one by one: what each keeps holds in the end, and the events leave one result.
use Rattle.std.specs.Prelude.{ℕ, zero, suc, ◌<◌, ◌≡◌, refl, ◌⊎◌, ◌≢◌, Bool, true, false, cond, List, [], ◌∷◌, ◌++◌, length, set, replicate}
use Rattle.std.proofs.Common.{sym, ap, ◌∙◌, subst, inl, inr, append_assoc, append-nil, length-set, get_or-set_same, get_or-set_other}
use Rattle.std.proofs.Math.Option.{Option, none, some}
use Rattle.std.proofs.lemmas.List.{length-replicate}
use Rattle.std.proofs.Math.ListN.{get_elem? as nth}
use Rattle.history.specs.Object.{Object}
use Rattle.history.specs.Events.{Events, invoked, returned}
use Rattle.history.specs.Rows.{Entry, Rows, row, Is}
use Rattle.history.specs.Recorder.{pending, flying, extend, close_row, close, new, Feeds, fed, invokes, gives_back, Fed}
use Rattle.history.specs.Lists.{not_some, not_both, own_or_other, nth_snoc, get_d_same}

module _ (O : Object) where
  -- a change of one row
  pub each_row : (P : ℕ → List (Entry O) → Type 0) (rows : Rows O) (t : ℕ) (r : List (Entry O)) → t < length rows → P t r
      → ((u : ℕ) → u ≢ t → P u (row O rows u)) → (u : ℕ) → P u (row O (set rows t r) u)
  each_row P rows t r l f g =
      own_or_other (λ u. P u (row O (set rows t r) u)) t (subst (P t) (sym (get_or-set_same rows t r [] l)) f)
      (λ u d. subst (P u) (sym (get_or-set_other rows t u r [] d)) (g u d))

  -- what holds of fresh rows and is kept by each event holds of rows fed from fresh
  module _ (keep : Rows O → ℕ → List ℕ) (P : Events O → Rows O → Type 0)
      (invoke : (H : Events O) (rows : Rows O) (t : ℕ) (o : O.Op) → t < length rows → flying O (row O rows t) ≡ false → P H rows
      → P (H ++ (invoked t o ∷ [])) (extend O rows t (new O keep rows t o)))
      (return : (H : Events O) (rows : Rows O) (t : ℕ) (q : O.Ret) → t < length rows → flying O (row O rows t) ≡ true → P H rows
      → P (H ++ (returned t q ∷ [])) (close O rows t q)) where
    pub along : {rows end : Rows O} {H : Events O} (A : Events O) → P A rows → Feeds O keep rows H end → P (A ++ H) end
    along A h (fed {rows = rows}) = subst (λ (l : Events O). P l rows) (sym (append-nil A)) h
    along A h (invokes {rows = rows} {end = end} {t = t} {o = o} {H = H} l f w) =
        subst (λ (K : Events O). P K end) (append_assoc A (invoked t o ∷ []) H) (along (A ++ (invoked t o ∷ [])) (invoke A rows t o l f h) w)
    along A h (gives_back {rows = rows} {end = end} {t = t} {q = q} {H = H} l f w) =
        subst (λ (K : Events O). P K end) (append_assoc A (returned t q ∷ []) H) (along (A ++ (returned t q ∷ [])) (return A rows t q l f h) w)

    pub fed_along : {k : ℕ} {H : Events O} {rows : Rows O} → P [] (replicate k []) → Fed O keep k H rows → P H rows
    fed_along h w = along [] h w.from_fresh

  -- what holds of every operation, by its notes: kept by an invocation that it holds of, and by a return

  abbrev pub AllNotes : (ℕ → ℕ → List ℕ → Type 0) → Rows O → Type 0
  AllNotes Q rows = (t k : ℕ) (e : Entry O) → Is O rows t k e → Q t k e.needs

  pub notes_fresh : (Q : ℕ → ℕ → List ℕ → Type 0) (k : ℕ) → AllNotes Q (replicate k [])
  notes_fresh Q k t i e n = not_some (sym (ap (λ (r : List (Entry O)). nth r i) (get_d_same {A = List (Entry O)} k t [])) ∙ n)

  pub notes_new : (Q : ℕ → ℕ → List ℕ → Type 0) (rows : Rows O) (t : ℕ) (e : Entry O) → t < length rows → AllNotes Q rows
      → Q t (length (row O rows t)) e.needs → AllNotes Q (extend O rows t e)
  notes_new Q rows t e l w h u k f =
      each_row (λ u r. nth r k ≡ some f → Q u k f.needs) rows t _ l (λ n. go (nth_snoc (row O rows t) k e f n)) (λ u d. w u k f) u
    where
      go : (nth (row O rows t) k ≡ some f) ⊎ ((f ≡ e) × (k ≡ length (row O rows t))) → Q t k f.needs
      go (inl n) = w t k f n
      go (inr n) = rw (n.0, n.1) h

  -- an operation before its thread's return: perhaps not yet completed
  pub record Sooner (e f : Entry O) : Type 0 where
    pub same_op : e.op ≡ f.op
    pub same_needs : e.needs ≡ f.needs
    pub same_ret : (e.ret ≡ f.ret) ⊎ (e.ret ≡ none)

  pub sooner_self : (e : Entry O) → Sooner e e
  sooner_self e = record { same_op = refl; same_needs = refl; same_ret = inl refl }

  none_of : (a : Option O.Ret) → pending O a ≡ true → a ≡ none
  none_of none h = refl
  none_of (some q) h = not_both h refl

  pub close_sooner : (r : List (Entry O)) (q : O.Ret) (i : ℕ) (f : Entry O) → nth (close_row O r q) i ≡ some f
      → (e : Entry O) × (nth r i ≡ some e) × Sooner e f
  close_sooner [] q i f h = not_some h
  close_sooner (e ∷ r) q i f h = go (pending O e.ret) refl i h (λ j k. close_sooner r q j f k)
    where
      go : (b : Bool) → pending O e.ret ≡ b → (i : ℕ)
          → nth (cond b (record { op = e.op; ret = some q; needs = e.needs } ∷ r) (e ∷ close_row O r q)) i ≡ some f
          → ((j : ℕ) → nth (close_row O r q) j ≡ some f → (e : Entry O) × (nth r j ≡ some e) × Sooner e f)
          → (g : Entry O) × (nth (e ∷ r) i ≡ some g) × Sooner g f
      go true b zero h g =
          let z : ◌≡◌ {A = Entry O} (record { op = e.op; ret = some q; needs = e.needs }) f = cc in
          (e, refl, record { same_op = ap (λ (x : Entry O). x.op) z; same_needs = ap (λ (x : Entry O). x.needs) z; same_ret = inr (none_of e.ret b) })
      go true b (suc i) h g = (f, h, sooner_self f)
      go false b zero h g = (f, h, sooner_self f)
      go false b (suc i) h g = g i h

  pub notes_closed : (Q : ℕ → ℕ → List ℕ → Type 0) (rows : Rows O) (t : ℕ) (q : O.Ret) → t < length rows → AllNotes Q rows → AllNotes Q (close O rows t q)
  notes_closed Q rows t q l w u k f =
      each_row (λ u r. nth r k ≡ some f → Q u k f.needs) rows t _ l
      (λ n. let c = close_sooner (row O rows t) q k f n in subst (Q t k) c.2.same_needs (w t k c.0 c.1)) (λ u d. w u k f) u

  module _ (keep : Rows O → ℕ → List ℕ) where
    -- one event more

    feeds_length : {rows end : Rows O} {H : Events O} → Feeds O keep rows H end → length end ≡ length rows
    feeds_length fed = refl
    feeds_length (invokes {rows = rows} {t = t} l f w) = feeds_length w ∙ length-set rows t _
    feeds_length (gives_back {rows = rows} {t = t} l f w) = feeds_length w ∙ length-set rows t _

    feeds_on : {rows mid end : Rows O} {H K : Events O} → Feeds O keep rows H mid → Feeds O keep mid K end → Feeds O keep rows (H ++ K) end
    feeds_on fed v = v
    feeds_on (invokes l f w) v = invokes l f (feeds_on w v)
    feeds_on (gives_back l f w) v = gives_back l f (feeds_on w v)

    -- Rows fed from fresh are as many as there are threads.
    pub fed_length : {k : ℕ} {H : Events O} {rows : Rows O} → Fed O keep k H rows → length rows ≡ k
    fed_length {k} w = feeds_length w.from_fresh ∙ length-replicate {A = List (Entry O)} k []

    -- An invocation by a thread that has none in flight can be fed next.
    pub fed_invoke : {k : ℕ} {H : Events O} {rows : Rows O} (t : ℕ) (o : O.Op) → t < k → flying O (row O rows t) ≡ false
        → Fed O keep k H rows → Fed O keep k (H ++ (invoked t o ∷ [])) (extend O rows t (new O keep rows t o))
    fed_invoke t o h f w = record { from_fresh = feeds_on w.from_fresh (invokes (rw (fed_length w) h) f fed) }

    -- A return by a thread that has one in flight can be fed next.
    pub fed_return : {k : ℕ} {H : Events O} {rows : Rows O} (t : ℕ) (q : O.Ret) → t < k → flying O (row O rows t) ≡ true
        → Fed O keep k H rows → Fed O keep k (H ++ (returned t q ∷ [])) (close O rows t q)
    fed_return t q h f w = record { from_fresh = feeds_on w.from_fresh (gives_back (rw (fed_length w) h) f fed) }

    feeds_same : {rows a b : Rows O} {H : Events O} → Feeds O keep rows H a → Feeds O keep rows H b → a ≡ b
    feeds_same fed fed = refl
    feeds_same (invokes l f w) (invokes m g v) = feeds_same w v
    feeds_same (gives_back l f w) (gives_back m g v) = feeds_same w v

    -- The same events leave the same rows.
    pub fed_same : {k : ℕ} {H : Events O} {a b : Rows O} → Fed O keep k H a → Fed O keep k H b → a ≡ b
    fed_same w v = feeds_same w.from_fresh v.from_fresh

    feeds_split : {rows end : Rows O} (H : Events O) {G : Events O} → Feeds O keep rows (H ++ G) end
        → (mid : Rows O) × Feeds O keep rows H mid × Feeds O keep mid G end
    feeds_split {rows} [] w = (rows, fed, w)
    feeds_split {rows = rows} {end = end} (invoked t o ∷ H) {G = G} (invokes l f w) = let z = feeds_split {rows = extend O rows t (new O keep rows t o)} H w in (z.0, invokes l f z.1, z.2)
    feeds_split (returned t q ∷ H) (gives_back l f w) = let z = feeds_split H w in (z.0, gives_back l f z.1, z.2)

    -- The events that follow lead on from the rows that the first ones leave.
    pub fed_between : {k : ℕ} {H G : Events O} {rows later : Rows O} → Fed O keep k H rows → Fed O keep k (H ++ G) later → Feeds O keep rows G later
    fed_between {H = H} {G} {rows} {later} w v =
        let z = feeds_split H v.from_fresh in
        subst (λ (mid : Rows O). Feeds O keep mid G later) (feeds_same z.1 w.from_fresh) z.2
