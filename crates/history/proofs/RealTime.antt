-- For rows that hold events and whose notes say what the events say: a sequential history keeps the notes exactly if it keeps time.
use Rattle.std.specs.Prelude.{ℕ, zero, suc, ◌+◌, ◌≤◌, ◌<◌, ◌≡◌, refl, ◌≢◌, [], ◌∷◌, ◌++◌, length, get_or, replicate}
use Rattle.std.proofs.Common.{sym, ap, ◌∙◌, append-nil, arith}
use Rattle.std.proofs.Math.ListN.{get_elem? as nth}
use Rattle.history.specs.Object.{Object}
use Rattle.history.specs.Events.{Events, invoked, returned, invocations, returns, sub, Alternates, nothing, waiting, call, WellFormed, Precedes}
use Rattle.history.specs.Papers.{Sequential, rest, step, KeepsTime}
use Rattle.history.specs.Rows.{Rows, row, Is}
use Rattle.history.specs.Lists.{own_or_other, nth_has, get_d_same, get_d_below}
use Rattle.history.specs.Splits.{sub_append, At}
use Rattle.history.proofs.Splits.{ret_append, counts_sub, at_find, split_in, precedes_at, at_precedes}
use Rattle.history.specs.Recorded.{Held, held_formed}
use Rattle.history.proofs.Recorded.{held_many}
use Rattle.history.specs.Notes.{Tells}
use Rattle.history.specs.Explaining.{KeepsNotes}

module _ (O : Object) where
  -- a thread never returned more often than it invoked
  ahead : {H : Events O} → Alternates O H → (P Q : Events O) (t : ℕ) → H ≡ P ++ Q → returns O t P ≤ invocations O t P
  ahead w [] Q t h = omega arith
  ahead nothing (a ∷ P) Q t h = absurd (let z : ◌≡◌ {A = ℕ} 0 1 = cc in omega arith)
  ahead (waiting {t = u} {o = o}) (a ∷ []) Q t h = let x : a ≡ invoked u o = cc in rw x (omega arith)
  ahead waiting (a ∷ b ∷ P) Q t h = absurd (let z : ◌≡◌ {A = ℕ} 0 1 = cc in omega arith)
  ahead (call {t = u} {o = o} w) (a ∷ []) Q t h = let x : a ≡ invoked u o = cc in rw x (omega arith)
  ahead (call {t = u} {o = o} {r = r} {H = H} w) (a ∷ b ∷ P) Q t h =
      let x : a ≡ invoked u o = cc in
      let y : b ≡ returned u r = cc in
      let z : H ≡ P ++ Q = cc in
      let i = ahead {H = H} w P Q t z in
      rw (x, y) (omega arith)

  formed_ahead : {H : Events O} → WellFormed O H → (P Q : Events O) (t : ℕ) → H ≡ P ++ Q → returns O t P ≤ invocations O t P
  formed_ahead w P Q t h =
      let a = ahead (w t) (sub O t P) (sub O t Q) t (ap (sub O t) h ∙ sub_append O t P Q) in
      let b = counts_sub O t P in
      let c = b.0 in
      let d = b.1 in
      omega arith

  -- between the calls of a sequential history every thread has as many responses as invocations
  balanced : {s : O.State} {S : Events O} → Sequential O s S → (A B : Events O) (u : ℕ) (o : O.Op) → S ≡ A ++ (invoked u o ∷ B)
      → (t : ℕ) → returns O t A ≡ invocations O t A
  balanced w [] B u o h t = refl
  balanced rest (a ∷ A) B u o h t = absurd (let z : ◌≡◌ {A = ℕ} 0 1 = cc in omega arith)
  balanced (step k w) (a ∷ []) B u o h t = absurd (let z : ◌≡◌ {A = ℕ} 0 1 = cc in omega arith)
  balanced {s = s} (step {t = v} {o = p} {r = r} {S = S} k w) (a ∷ (b ∷ A)) B u o h t =
      let x : a ≡ invoked v p = cc in
      let y : b ≡ returned v r = cc in
      let z : S ≡ A ++ (invoked u o ∷ B) = cc in
      let i = balanced {s = O.after s p} w A B u o z t in
      rw (x, y) (omega arith)

  module _ {H : Events O} {rows : Rows O} (w : Held O H rows) (n : Tells O H rows) where
    -- a thread that returned has a row
    returned_below : (t j : ℕ) (A B : Events O) → H ≡ A ++ B → j < returns O t A → t < length rows
    returned_below t j A B h g =
        let a = held_many O w t in
        let b = formed_ahead (held_formed O w) H [] t (sym (append-nil H)) in
        let c : returns O t H ≡ returns O t (A ++ B) = ap (returns O t) h in
        let d = ret_append O t A B in
        let e = nth_has (row O rows t) 0 (omega arith) in
        get_d_below rows t 0 e.0 e.1

    -- a sequential history that keeps the notes keeps time
    pub keeps_time : {s : O.State} {S : Events O} → Sequential O s S → KeepsNotes O rows (replicate (length rows) 0) S → KeepsTime O H S
    keeps_time {s} {S} q f t j u k x i = own_or_other (λ t. Precedes O H t j u k → Precedes O S t j u k) u own other t x
      where
        a : At O S u k
        a = at_find O S u k i

        -- H is well-formed, and S has a response for each invocation
        own : Precedes O H u j u k → Precedes O S u j u k
        own x =
            let b = balanced q a.A a.B u a.op a.split u in
            let c = formed_ahead (held_formed O w) x.A (invoked u x.op ∷ x.B) u x.split in
            let h1 = x.number in
            let h2 = a.number in
            let h3 = x.returned_before in
            precedes_at O a (omega arith)

        -- the operation notes it
        other : (t : ℕ) → t ≢ u → Precedes O H t j u k → Precedes O S t j u k
        other t d x =
            let b = split_in O H x.A x.B u k x.op x.split x.number in
            let e = nth_has (row O rows u) k (let z = held_many O w u in omega arith) in
            let g = (n.others u k e.0 e.1 t d j).1 x in
            let l = returned_below t j x.A (invoked u x.op ∷ x.B) x.split x.returned_before in
            let h1 = get_d_same {A = ℕ} (length rows) u 0 in
            let h2 = get_d_same {A = ℕ} (length rows) t 0 in
            let h3 = a.number in
            let h4 : get_or (replicate (length rows) 0) u 0 + invocations O u a.A ≡ k = omega arith in
            let p = f a.A u a.op a.B e.0 a.split (ap (nth (row O rows u)) h4 ∙ e.1) t l in
            precedes_at O a (omega arith)

    -- and the other way round
    pub time_keeps : {S : Events O} → KeepsTime O H S → KeepsNotes O rows (replicate (length rows) 0) S
    time_keeps {S} f A u o B e h m t l =
        let c = own_or_other (λ t. (c : ℕ) → c ≡ get_or e.needs t 0 → c ≤ returns O t A) u own other t (get_or e.needs t 0) refl in
        omega arith
      where
        is : Is O rows u (invocations O u A) e
        is =
            let h1 = get_d_same {A = ℕ} (length rows) u 0 in
            let h2 : invocations O u A ≡ get_or (replicate (length rows) 0) u 0 + invocations O u A = omega arith in
            ap (nth (row O rows u)) h2 ∙ m

        own : (c : ℕ) → c ≡ get_or e.needs u 0 → c ≤ returns O u A
        own c g = let z = n.own u (invocations O u A) e is in omega arith

        other : (t : ℕ) → t ≢ u → (c : ℕ) → c ≡ get_or e.needs t 0 → c ≤ returns O t A
        other t d zero g = omega arith
        other t d (suc j) g =
            let p = (n.others u (invocations O u A) e is t d j).0 (omega arith) in
            at_precedes O (record { A = A; op = o; B = B; split = h; number = refl })
            (f t j u (invocations O u A) p (split_in O S A B u (invocations O u A) o h refl))
