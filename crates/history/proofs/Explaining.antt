-- A replay of rows and a legal sequential history, step for step.
use Rattle.std.specs.Prelude.{ℕ, zero, suc, ◌+◌, ◌<◌, ◌≡◌, refl, ◌⊎◌, ◌≢◌, true, List, [], ◌∷◌, ◌++◌, length, get_or, drop}
use Rattle.std.proofs.Common.{sym, ap, ◌∙◌, subst, inl, inr, length-set, eq-eqb, ne_eqb, arith}
use Rattle.std.proofs.Math.Option.{Option, none, some}
use Rattle.std.proofs.Math.ListN.{get_elem? as nth}
use Rattle.std.proofs.Math.Seq.{drop-nil}
use Rattle.history.specs.Object.{Object, Lawful}
use Rattle.history.specs.Events.{Event, Events, invoked, returned, invocations, returns, sub}
use Rattle.history.specs.Papers.{Responses, none_left, response, Sequential, rest, step}
use Rattle.history.specs.Rows.{Entry, Rows, row, Shaped, AllShaped, empty, in_flight, completed_first}
use Rattle.history.specs.Orders.{Order}
use Rattle.history.specs.Recorder.{pending}
use Rattle.history.specs.Lists.{own_or_other, and_left, drop_nth, nth_drop, get_d_below, not_some, not_both}
use Rattle.history.specs.Space.{Node, more, met, only_pending, gives, Plays}
use Rattle.history.specs.Moves.{next_below}
use Rattle.history.specs.Progress.{more_same, more_other, more_at, next_row, met_of, of_met, placed_of, of_placed}
use Rattle.history.specs.Replay.{Replays, ended, played}
use Rattle.history.proofs.Replay.{gives_recorded, gives_right}
use Rattle.history.specs.Completions.{Fits, fits_nil, fits_whole, fits_left, fits_taken}
use Rattle.history.specs.Explaining.{KeepsNotes, Left, Told, AllFit}

module _ (O : Object) where
  -- what is left of a row

  pub shaped_drop : {r : List (Entry O)} (p : ℕ) → Shaped O r → Shaped O (drop p r)
  shaped_drop zero s = s
  shaped_drop (suc p) empty = empty
  shaped_drop (suc p) (in_flight n) = rw (drop-nil {A = Entry O} p) empty
  shaped_drop (suc p) (completed_first {e = e} {q = q} {r = r} n s) = shaped_drop {r = r} p s

  pending_fits : (t : ℕ) {r : List (Entry O)} → Shaped O r → only_pending O r ≡ true → Fits O t r [] []
  pending_fits t empty h = fits_nil
  pending_fits t (in_flight n) h = fits_left n
  pending_fits t (completed_first {e = e} {r = r} n s) h =
      not_both (and_left (pending O e.ret) (only_pending O r) h) (ap (pending O) n)

  fits_pending : {t : ℕ} {r : List (Entry O)} {C R : Events O} → Fits O t r C R → C ≡ [] → only_pending O r ≡ true
  fits_pending fits_nil h = refl
  fits_pending (fits_whole g w) h = absurd (let z : ◌≡◌ {A = ℕ} 0 1 = cc in omega arith)
  fits_pending (fits_left g) h = rw g
  fits_pending (fits_taken g) h = rw g

  fits_end : {t : ℕ} {r : List (Entry O)} {C R : Events O} → Fits O t r C R → r ≡ [] → (C ≡ []) × (R ≡ [])
  fits_end fits_nil h = (refl, refl)
  fits_end (fits_whole g w) h = absurd (let z : ◌≡◌ {A = ℕ} 0 1 = cc in omega arith)
  fits_end (fits_left g) h = (refl, refl)
  fits_end (fits_taken g) h = absurd (let z : ◌≡◌ {A = ℕ} 0 1 = cc in omega arith)

  -- the next call of a thread is its next operation
  record Front (t : ℕ) (r : List (Entry O)) (o : O.Op) (q : O.Ret) (C : Events O) : Type 0 where
    entry : Entry O
    left : List (Entry O)
    is : r ≡ entry ∷ left
    same_op : entry.op ≡ o
    same_ret : (entry.ret ≡ some q) ⊎ (entry.ret ≡ none)
    R : Events O
    fits : Fits O t left C R

  fits_front : {t : ℕ} {r : List (Entry O)} {D R : Events O} (o : O.Op) (q : O.Ret) (C : Events O) → Fits O t r D R
      → D ≡ invoked t o ∷ returned t q ∷ C → Front t r o q C
  fits_front o q C fits_nil h = absurd (let z : ◌≡◌ {A = ℕ} 0 1 = cc in omega arith)
  fits_front {t} o q C (fits_whole {e = e} {q = p} {r = r} {C = D} {R = R} g w) h =
      let a : e.op ≡ o = cc in
      let b : p ≡ q = cc in
      let c : D ≡ C = cc in
      record { entry = e; left = r; is = refl; same_op = a; same_ret = inl (g ∙ ap some b); R = R; fits = subst (λ (l : Events O). Fits O t r l R) c w }
  fits_front o q C (fits_left g) h = absurd (let z : ◌≡◌ {A = ℕ} 0 1 = cc in omega arith)
  fits_front {t} o q C (fits_taken {e = e} {q = p} g) h =
      let a : e.op ≡ o = cc in
      let c : [] ≡ C = cc in
      record { entry = e; left = []; is = refl; same_op = a; same_ret = inr g; R = []; fits = subst (λ (l : Events O). Fits O t [] l []) c fits_nil }

  -- a call is its own thread's

  sub_call_same : (t : ℕ) (o : O.Op) (r : O.Ret) (S : Events O) → sub O t (invoked t o ∷ returned t r ∷ S) ≡ invoked t o ∷ returned t r ∷ sub O t S
  sub_call_same t o r S = rw (eq-eqb t t refl)

  sub_call_other : (t u : ℕ) (o : O.Op) (r : O.Ret) (S : Events O) → u ≢ t → sub O u (invoked t o ∷ returned t r ∷ S) ≡ sub O u S
  sub_call_other t u o r S d = rw (ne_eqb t u (λ z. d (sym z)))

  nil_split : (A B : Events O) (v : Event O) → [] ≡ A ++ (v ∷ B) → ⊥
  nil_split [] B v h = let z : ◌≡◌ {A = ℕ} 0 1 = cc in omega arith
  nil_split (w ∷ A) B v h = let z : ◌≡◌ {A = ℕ} 0 1 = cc in omega arith

  -- the responses added: one for each operation in flight that is placed

  abbrev added : ℕ → O.Ret → Option O.Ret → Events O → Events O
  added t r none R = returned t r ∷ R
  added t r (some q) R = R

  added_only : (t : ℕ) (r : O.Ret) (a : Option O.Ret) (R : Events O) → Responses O R → Responses O (added t r a R)
  added_only t r none R w = response w
  added_only t r (some q) R w = w

  added_other : (t u : ℕ) (r : O.Ret) (a : Option O.Ret) (R : Events O) → u ≢ t → sub O u (added t r a R) ≡ sub O u R
  added_other t u r none R d = rw (ne_eqb t u (λ z. d (sym z)))
  added_other t u r (some q) R d = refl

  -- a return that is right here
  gives_some : (s : O.State) (o : O.Op) (a : Option O.Ret) (r : O.Ret) → (a ≡ some r) ⊎ (a ≡ none) → O.ok s o r ≡ true
      → (q : O.Ret) × (gives O s o a ≡ some q)
  gives_some s o a r (inl h) k = (r, rw (h, k))
  gives_some s o a r (inr h) k = (O.answers s o, rw h)

module _ (O : Object) (rows : Rows O) where
  -- counting on by one call
  module _ (ps : List ℕ) (t : ℕ) (l : t < length ps) (o : O.Op) (r : O.Ret) where
    call_inv : (u : ℕ) (A : Events O) → get_or (more ps t) u 0 + invocations O u A ≡ get_or ps u 0 + invocations O u (invoked t o ∷ returned t r ∷ A)
    call_inv u A = let a = more_at ps t u (λ y. l) in omega arith

    call_ret : (u : ℕ) (A : Events O) → get_or (more ps t) u 0 + returns O u A ≡ get_or ps u 0 + returns O u (invoked t o ∷ returned t r ∷ A)
    call_ret u A = let a = more_at ps t u (λ y. l) in omega arith

    keeps_after : (S : Events O) → KeepsNotes O rows ps (invoked t o ∷ returned t r ∷ S) → KeepsNotes O rows (more ps t) S
    keeps_after S f A u q B e h n v k =
        let a = f (invoked t o ∷ returned t r ∷ A) u q B e (ap (λ (l : Events O). invoked t o ∷ returned t r ∷ l) h)
        (ap (nth (row O rows u)) (sym (call_inv u A)) ∙ n) v k in
        let b = call_ret v A in
        omega arith

    keeps_before : (S : Events O) (e : Entry O) → length ps ≡ length rows → nth (row O rows t) (get_or ps t 0) ≡ some e → met e.needs ps ≡ true
        → KeepsNotes O rows (more ps t) S → KeepsNotes O rows ps (invoked t o ∷ returned t r ∷ S)
    keeps_before S e w n m f [] u q B g h i v k =
        let a : t ≡ u = cc in
        let z : get_or ps u 0 + 0 ≡ get_or ps u 0 = omega arith in
        let b : nth (row O rows u) (get_or ps u 0) ≡ some g = rw z at i in
        let c : nth (row O rows t) (get_or ps t 0) ≡ some g = rw a b in
        let d : e ≡ g = cc in
        let y = of_met g.needs ps (ap (λ (x : Entry O). met x.needs ps) (sym d) ∙ m) v (omega arith) in
        omega arith
    keeps_before S e w n m f (a ∷ []) u q B g h i v k = absurd (let z : ◌≡◌ {A = ℕ} 0 1 = cc in omega arith)
    keeps_before S e w n m f (a ∷ b ∷ A) u q B g h i v k =
        let x : a ≡ invoked t o = cc in
        let y : b ≡ returned t r = cc in
        let z : S ≡ A ++ (invoked u q ∷ B) = cc in
        let c : invocations O u (a ∷ b ∷ A) ≡ invocations O u (invoked t o ∷ returned t r ∷ A) = rw (x, y) in
        let d : returns O v (a ∷ b ∷ A) ≡ returns O v (invoked t o ∷ returned t r ∷ A) = rw (x, y) in
        let j : get_or (more ps t) u 0 + invocations O u A ≡ get_or ps u 0 + invocations O u (a ∷ b ∷ A) = (let p = call_inv u A in omega arith) in
        let p = f A u q B g z (ap (nth (row O rows u)) j ∙ i) v k in
        let p2 = call_ret v A in
        omega arith

  module _ (shaped : AllShaped O rows) where
    fit_same : (ps : List ℕ) (s : O.State) (t : ℕ) (r : O.Ret) (e : Entry O) (S R : Events O) → t < length ps → nth (row O rows t) (get_or ps t 0) ≡ some e
        → gives O s e.op e.ret ≡ some r → Fits O t (Left O rows (more ps t) t) (sub O t S) (sub O t R)
        → Fits O t (Left O rows ps t) (sub O t (invoked t e.op ∷ returned t r ∷ S)) (sub O t (added O t r e.ret R))
    fit_same ps s t r e S R l n g w =
        let c : drop (suc (get_or ps t 0)) (row O rows t) ≡ Left O rows (more ps t) t = rw (more_same ps t l) in
        let sh : Shaped O (e ∷ drop (suc (get_or ps t 0)) (row O rows t))
        = rw (drop_nth (row O rows t) (get_or ps t 0) e n) at (shaped_drop O (get_or ps t 0) (shaped t)) in
        rw (drop_nth (row O rows t) (get_or ps t 0) e n, sub_call_same O t e.op r S) (go sh (rw (← c) at w) e.ret refl)
      where
        go : {x : List (Entry O)} → Shaped O (e ∷ x) → Fits O t x (sub O t S) (sub O t R) → (a : Option O.Ret) → e.ret ≡ a
            → Fits O t (e ∷ x) (invoked t e.op ∷ returned t r ∷ sub O t S) (sub O t (added O t r a R))
        go sh w (some q) h =
            let z : r ≡ q = gives_recorded O s e.op e.ret r q g h in
            fits_whole (h ∙ ap some (sym z)) w
        go (in_flight m) w none h =
            let z = fits_end O w refl in
            rw (z.0, z.1, eq-eqb t t refl) (fits_taken h)
        go (completed_first m sh) w none h = not_some (sym h ∙ m)

    fit_other : (ps : List ℕ) (t u : ℕ) (o : O.Op) (r : O.Ret) (a : Option O.Ret) (S R : Events O) → u ≢ t
        → Fits O u (Left O rows (more ps t) u) (sub O u S) (sub O u R) → Fits O u (Left O rows ps u) (sub O u (invoked t o ∷ returned t r ∷ S)) (sub O u (added O t r a R))
    fit_other ps t u o r a S R d w = rw (sub_call_other O t u o r S d, added_other O t u r a R d) (rw (more_other ps t u d) at w)

    -- from a replay to a sequential history
    pub replay_told : Lawful O → {x : Node O} {p : Order O} → Replays O rows x p → length x.progress ≡ length rows → Told O rows x.progress x.object
    replay_told L {x} (ended h) l = record {
      S = [];
      R = [];
      legal = rest;
      only = none_left;
      fits = λ t. pending_fits O t (shaped_drop O (get_or x.progress t 0) (shaped t)) (of_placed O rows x.progress l h t);
      keeps = λ A u o B e h n t k. absurd (nil_split O A B (invoked u o) h);
    }
    replay_told L {x} (played {t = t} {r = r} h w) l = go (replay_told L w (length-set x.progress t _ ∙ l))
      where
        k : t < length x.progress
        k = let a = next_below rows x.progress t h.entry h.is_next in omega arith

        is : nth (row O rows t) (get_or x.progress t 0) ≡ some h.entry
        is = sym (next_row rows x.progress t l) ∙ h.is_next

        go : Told O rows (more x.progress t) (O.after x.object h.entry.op) → Told O rows x.progress x.object
        go z = record {
          S = invoked t h.entry.op ∷ returned t r ∷ z.S;
          R = added O t r h.entry.ret z.R;
          legal = step (gives_right O L x.object h.entry.op h.entry.ret r h.is_given) z.legal;
          only = added_only O t r h.entry.ret z.R z.only;
          fits = own_or_other _ t (fit_same x.progress x.object t r h.entry z.S z.R k is h.is_given (z.fits t))
              (λ u d. fit_other x.progress t u h.entry.op r h.entry.ret z.S z.R d (z.fits u));
          keeps = keeps_before x.progress t k h.entry.op r z.S h.entry l is h.is_met z.keeps;
        }

  -- and back

  pub told_replay : {s : O.State} {S : Events O} (ps : List ℕ) → Sequential O s S → length ps ≡ length rows → AllFit O rows ps S → KeepsNotes O rows ps S
      → (p : Order O) × Replays O rows (record { progress = ps; object = s }) p
  told_replay ps rest l f k = ([], ended (placed_of O rows ps (λ t. fits_pending O (f t).1 refl)))
  told_replay ps (step {s = s} {t = t} {o = o} {r = r} {S = S} h w) l f k =
      let z = fits_front O o r (sub O t S) (f t).1 (sub_call_same O t o r S) in
      let a = nth_drop (row O rows t) (get_or ps t 0) z.entry z.left z.is in
      let b = get_d_below rows t (get_or ps t 0) z.entry a.0 in
      let c : t < length ps = omega arith in
      let y : get_or ps t 0 + 0 ≡ get_or ps t 0 = omega arith in
      let g = gives_some O s z.entry.op z.entry.ret r z.same_ret (rw z.same_op h) in
      let i = told_replay (more ps t) w (length-set ps t _ ∙ l)
      (own_or_other _ t (z.R, rw (more_same ps t c, a.1) z.fits)
      (λ u d. ((f u).0, rw (more_other ps t u d) (rw (sub_call_other O t u o r S d) at (f u).1)))) (keeps_after ps t c o r S k) in
      let v : Plays O rows (record { progress = ps; object = s }) t g.0 = record {
        entry = z.entry;
        is_next = next_row rows ps t l ∙ a.0;
        is_met = met_of z.entry.needs ps (λ u v.
            let p = k [] t o (returned t r ∷ S) z.entry refl (ap (nth (row O rows t)) y ∙ a.0) u (omega arith) in omega arith);
        is_given = g.1;
      } in (
        record { thread = t; ret = g.0 } ∷ i.0,
        played {p = i.0} v (subst (λ (q : O.Op). Replays O rows (record { progress = more ps t; object = O.after s q }) i.0) (sym z.same_op) i.1),
      )
