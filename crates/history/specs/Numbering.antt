-- The numbering of an order's places: each operation once, each thread in its own order, its operation in flight last.
use Rattle.std.specs.Prelude.{ℕ, zero, suc, ◌+◌, ◌≤◌, ◌<◌, ◌≡◌, refl, Bool, true, false, cond, List, [], ◌∷◌, ◌++◌, take, drop, eqb, ltb}
use Rattle.std.proofs.Common.{sym, ap, ◌∙◌, take-append-drop, take-take, eq-eqb, eqb-true, ltb-true, ltb-false, arith}
use Rattle.std.proofs.Math.Option.{none, some}
use Rattle.std.proofs.Math.ListN.{get_elem? as nth}
use Rattle.history.specs.Object.{Object}
use Rattle.history.specs.Rows.{Entry, Rows, Is, Shaped, AllShaped, empty, in_flight, completed_first}
use Rattle.history.specs.Orders.{Order, occurs, Stands, LegalOrder}
use Rattle.history.specs.Lists.{not_some, nth_take, drop_nth}

module _ (O : Object) where
  occurs_append : (t : ℕ) (p q : Order O) → occurs O t (p ++ q) ≡ occurs O t p + occurs O t q
  occurs_append t [] q = omega arith
  occurs_append t (x ∷ p) q = let h = occurs_append t p q in omega arith

  -- an operation that stands in the order is among those of its thread that do
  pub stands_below : (p : Order O) (i t k : ℕ) (r : O.Ret) → Stands O p i t k r → k < occurs O t p
  stands_below p i t k r w =
      let a : occurs O t (take i p ++ drop i p) ≡ occurs O t (take i p) + occurs O t (drop i p) = occurs_append t (take i p) (drop i p) in
      let b : occurs O t p ≡ occurs O t (take i p) + occurs O t (drop i p) = rw (take-append-drop i p) at a in
      let c : occurs O t (drop i p) ≡ 1 + occurs O t (drop (suc i) p) = rw (drop_nth p i (record { thread = t; ret = r }) w.here, eq-eqb t t refl) in
      let d = w.number in
      omega arith

  abbrev Found : Order O → ℕ → ℕ → Type 0
  Found p t k = (i : ℕ) × (r : O.Ret) × Stands O p i t k r

  -- and the other way round
  pub find : (t : ℕ) (p : Order O) (k : ℕ) → k < occurs O t p → Found p t k
  find t [] k h = absurd (omega arith)
  find t (x ∷ p) k h = go (eqb x.thread t) refl k h (find t p)
    where
      later : (k n : ℕ) → n ≡ cond (eqb x.thread t) 1 0 + k → Found p t k → Found (x ∷ p) t n
      later k n e w = (suc w.0, w.1, record { here = w.2.here; number = (let m = w.2.number in omega arith) })

      go : (b : Bool) → eqb x.thread t ≡ b → (k : ℕ) → k < cond b 1 0 + occurs O t p → ((k : ℕ) → k < occurs O t p → Found p t k) → Found (x ∷ p) t k
      go true e zero h f = (0, x.ret, record { here = ap (λ (v : ℕ). some (record { thread = v; ret = x.ret })) (eqb-true x.thread t e); number = refl })
      go true e (suc k) h f = later k (suc k) (rw e (omega arith)) (f k (omega arith))
      go false e k h f = later k k (rw e (omega arith)) (f k (omega arith))

  -- later places have higher numbers
  rises : (p : Order O) (i j t k l : ℕ) (r q : O.Ret) → Stands O p i t k r → Stands O p j t l q → i < j → k < l
  rises p i j t k l r q a b h =
      let st : Stands O (take j p) i t k r
      = record { here = nth_take p i j h ∙ a.here; number = ap (occurs O t) (take-take i j p (omega arith)) ∙ a.number } in
      let z : k < occurs O t (take j p) = stands_below (take j p) i t k r st in
      let y = b.number in
      omega arith

  -- An operation stands at most once.
  pub once : (p : Order O) (i j t k : ℕ) (r q : O.Ret) → Stands O p i t k r → Stands O p j t k q → i ≡ j
  once p i j t k r q a b = go (ltb i j) (ltb j i) refl refl
    where
      go : (c d : Bool) → ltb i j ≡ c → ltb j i ≡ d → i ≡ j
      go true d h g = absurd (let z = rises p i j t k k r q a b (ltb-true i j h) in omega arith)
      go false true h g = absurd (let z = rises p j i t k k q r b a (ltb-true j i g) in omega arith)
      go false false h g = let x = ltb-false i j h in let y = ltb-false j i g in omega arith

  -- Each thread's operations stand in its own order.
  pub own_order : (p : Order O) (i j t k l : ℕ) (r q : O.Ret) → Stands O p i t k r → Stands O p j t l q → k < l → i < j
  own_order p i j t k l r q a b h = go (ltb i j) (ltb j i) refl refl
    where
      go : (c d : Bool) → ltb i j ≡ c → ltb j i ≡ d → i < j
      go true d e f = ltb-true i j e
      go false true e f = absurd (let z = rises p j i t l k q r b a (ltb-true j i f) in omega arith)
      go false false e f = absurd (
          let x = ltb-false i j e in
          let y = ltb-false j i f in
          let m : i ≡ j = omega arith in
          let z : occurs O t (take i p) ≡ occurs O t (take j p) = rw m in
          let v = a.number in
          let w = b.number in
          omega arith)

  shaped_last : {r : List (Entry O)} (k l : ℕ) (e f : Entry O) → Shaped O r → nth r k ≡ some e → e.ret ≡ none → nth r l ≡ some f → l ≤ k
  shaped_last k zero e f s m g n = omega arith
  shaped_last k (suc l) e f empty m g n = not_some n
  shaped_last k (suc l) e f (in_flight h) m g n = not_some n
  shaped_last zero (suc l) e f (completed_first {e = x} h s) m g n = let q : x ≡ e = cc in not_some (sym (ap (λ (y : Entry O). y.ret) q ∙ g) ∙ h)
  shaped_last (suc k) (suc l) e f (completed_first {e = x} {q = q} {r = r} h s) m g n = let z = shaped_last {r = r} k l e f s m g n in omega arith

  -- Of rows in shape, a thread's operation in flight stands after all its others.
  pub in_flight_last : (rows : Rows O) → AllShaped O rows → (s : O.State) (p : Order O) → LegalOrder O rows s p
      → (i t k : ℕ) (r : O.Ret) (e : Entry O) → Stands O p i t k r → Is O rows t k e → e.ret ≡ none → (j l : ℕ) (q : O.Ret) → Stands O p j t l q → j ≤ i
  in_flight_last rows w s p o i t k r e a m g j l q b = go (ltb i j) refl
    where
      go : (c : Bool) → ltb i j ≡ c → j ≤ i
      go true h = absurd (
          let z = o.known j t l q b in
          let x = shaped_last k l e z.0 (w t) m g z.1 in
          let y = rises p i j t k l r q a b (ltb-true i j h) in
          omega arith)
      go false h = ltb-false i j h
