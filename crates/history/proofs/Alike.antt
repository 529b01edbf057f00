-- A legal order stays legal without the notes: where the linearizable tester has an order, the sequential one has the same.
use Rattle.std.specs.Prelude.{ℕ, zero, suc, ◌≡◌, refl, true, List, [], ◌∷◌, map, take}
use Rattle.std.proofs.Common.{sym, ap, ◌∙◌, subst, arith}
use Rattle.std.proofs.Math.Option.{Option, none, some}
use Rattle.std.proofs.Math.ListN.{get_elem? as nth}
use Rattle.history.specs.Object.{Object}
use Rattle.history.specs.Rows.{Entry, Rows, row, Is, noteless, forget}
use Rattle.history.specs.Orders.{Item, Order, occurs, Stands, found, applied, state, LegalOrder}
use Rattle.history.specs.Lists.{nth_map, of_nth_map}
use Rattle.history.specs.Forgetting.{row_forget}

module _ (O : Object) (rows : Rows O) where
  -- the operations, one by one

  is_forget : (t k : ℕ) (e : Entry O) → Is O rows t k e → Is O (forget O rows) t k (noteless O e)
  is_forget t k e m = ap (λ (r : List (Entry O)). nth r k) (row_forget O rows t) ∙ nth_map (noteless O) (row O rows t) k e m

  each_forget : (t k : ℕ) (P : Entry O → Type 0) → ((e : Entry O) → Is O rows t k e → P (noteless O e)) → (f : Entry O) → Is O (forget O rows) t k f → P f
  each_forget t k P h f m =
      let z = of_nth_map (noteless O) (row O rows t) k f (ap (λ (r : List (Entry O)). nth r k) (sym (row_forget O rows t)) ∙ m) in
      subst P z.2 (h z.0 z.1)

  -- and the objects that they leave

  applied_forget : (s : O.State) (r : List (Entry O)) (k : ℕ) → applied O (forget O rows) s (nth (map (noteless O) r) k) ≡ applied O rows s (nth r k)
  applied_forget s [] k = refl
  applied_forget s (e ∷ r) zero = refl
  applied_forget s (e ∷ r) (suc k) = applied_forget s r k

  found_forget : (s : O.State) (p : Order O) (i : ℕ) (x : Option (Item O))
      → applied O (forget O rows) s (found O (forget O rows) p i x) ≡ applied O rows s (found O rows p i x)
  found_forget s p i none = refl
  found_forget s p i (some x) =
      let k = occurs O x.thread (take i p) in
      ap (λ (r : List (Entry O)). applied O (forget O rows) s (nth r k)) (row_forget O rows x.thread) ∙ applied_forget s (row O rows x.thread) k

  state_forget : (s : O.State) (p : Order O) (i : ℕ) → state O (forget O rows) s p i ≡ state O rows s p i
  state_forget s p zero = refl
  state_forget s p (suc i) =
      found_forget (state O (forget O rows) s p i) p i (nth p i) ∙ ap (λ (x : O.State). applied O rows x (found O rows p i (nth p i))) (state_forget s p i)

  -- A legal order is legal without the notes.
  pub legal_forget : {s : O.State} {p : Order O} → LegalOrder O rows s p → LegalOrder O (forget O rows) s p
  legal_forget {s} {p} w = record {
    known = λ i t k r st. let z = w.known i t k r st in (noteless O z.0, is_forget t k z.0 z.1);
    complete = λ t k f q. each_forget t k (λ f. f.ret ≡ some q → (i : ℕ) × (r : O.Ret) × Stands O p i t k r) (λ e m g. w.complete t k e q m g) f;
    recorded = λ i t k r q f st. each_forget t k (λ f. f.ret ≡ some q → r ≡ q) (λ e m g. w.recorded i t k r q e st m g) f;
    answered = λ i t k r f st. each_forget t k (λ f. f.ret ≡ none → r ≡ O.answers (state O (forget O rows) s p i) f.op)
        (λ e m g. w.answered i t k r e st m g ∙ ap (λ (x : O.State). O.answers x e.op) (sym (state_forget s p i))) f;
    right = λ i t k r f st. each_forget t k (λ f. O.ok (state O (forget O rows) s p i) f.op r ≡ true)
        (λ e m. ap (λ (x : O.State). O.ok x e.op r) (state_forget s p i) ∙ w.right i t k r e st m) f;
    in_time = λ i t k r f st m u h. let z = each_forget t k (λ f. f.needs ≡ []) (λ e n. refl) f m in rw z (omega arith);
    ends_completed = λ i t k r f h st. each_forget t k (λ f. (q : O.Ret) × (f.ret ≡ some q)) (λ e m. w.ends_completed i t k r e h st m) f;
  }

  -- Where the rows have a legal order, they have one without the notes.
  pub order_alike : {s : O.State} → ((p : Order O) × LegalOrder O rows s p) → (p : Order O) × LegalOrder O (forget O rows) s p
  order_alike w = (w.0, legal_forget w.1)
