-- The test of a history's shape in its parts.
use Prim.Native.Nat.{ℕ, zero, suc, ◌<◌, ◌≤◌}
use Rattle.std.specs.Prelude.{◌≡◌, Bool, get_or, leb, eqb, Ok, is_ok}
use Rattle.std.proofs.Math.Path.{refl}
use Rattle.std.proofs.Math.Bool.{true, false}
use Rattle.std.proofs.Math.Dec.{ltb}
use borrow.Author.Tests.{leb-true, le-leb, ltb-true, ltb-false, lt-ltb, eqb-true, eq-eqb}
use Rattle.std.proofs.Common.{arith}
use Rattle.history.specs.Lists.{not_both}
use Rattle.values.specs.Value.{pick}
use Rattle.values.specs.Sizes.{threads, capacity}
use Rattle.families.specs.Refusals.{op_belongs, start_check}
use Rattle.families.specs.Room.{clear_yes}
use Rattle.families.specs.declared.Kind.{Kind}
use Rattle.stepping.specs.declared.histories.Operation.{Operation}
use Rattle.stepping.specs.declared.histories.History.{History}
use Rattle.stepping.specs.Record.{held}
use Rattle.stepping.specs.Shape.{kind_of, count_done, all_below, outcome_fits, operation_fits, operations_fit, flying_last, counts_right, shape_of}

-- two tests that must both pass

pub pick_left : (a b : Bool) → pick a b false ≡ true → a ≡ true
pick_left true b e = refl
pick_left false b e = e

pub pick_right : (a b : Bool) → pick a b false ≡ true → b ≡ true
pick_right true b e = e
pick_right false b e = not_both e refl

pub pick_both : (a b : Bool) → a ≡ true → b ≡ true → pick a b false ≡ true
pick_both a b d e = rw (d, e)

-- a test that all numbers below n pass

module _ (p : ℕ → Bool) where
  pub below_each : (n : ℕ) → all_below p n ≡ true → (i : ℕ) → i < n → p i ≡ true
  unfolding all_below
  below_each zero e i l = absurd (omega arith)
  below_each (suc n) e i l = go (ltb i n) refl (λ m. below_each n (pick_left (all_below p n) (p n) e) i m)
    where
      go : (b : Bool) → ltb i n ≡ b → (i < n → p i ≡ true) → p i ≡ true
      go true z f = f (ltb-true i n z)
      go false z f = let y : i ≡ n = omega (arith, ltb-false i n z) in rw y (pick_right (all_below p n) (p n) e)

  pub each_below : (n : ℕ) → ((i : ℕ) → i < n → p i ≡ true) → all_below p n ≡ true
  unfolding all_below
  each_below zero f = refl
  each_below (suc n) f = pick_both (all_below p n) (p n) (each_below n (λ i l. f i (omega arith))) (f n (omega arith))

-- what passes: an operation, and a history

pub record OperationParts (k : Kind) (o : Operation) : Type 0 where
  pub known : o.thread < threads
  pub own : op_belongs k o.op ≡ Ok tt
  pub answered : outcome_fits k o.outcome ≡ true

pub operation_parts : (k : Kind) (o : Operation) → operation_fits k o ≡ true → OperationParts k o
unfolding operation_fits
operation_parts k o e =
    let a = pick_right (ltb o.thread threads) _ e in
    record {
      known = ltb-true _ _ (pick_left (ltb o.thread threads) _ e);
      own = (clear_yes _).0 (pick_left (is_ok (op_belongs k o.op)) _ a);
      answered = pick_right (is_ok (op_belongs k o.op)) _ a;
    }

pub operation_fits_lem : (k : Kind) (o : Operation) → OperationParts k o → operation_fits k o ≡ true
unfolding operation_fits
operation_fits_lem k o w = rw (lt-ltb o.thread threads w.known, (clear_yes (op_belongs k o.op)).1 w.own) w.answered

pub record Parts (h : History) : Type 0 where
  pub few : h.count ≤ capacity
  pub startable : start_check (kind_of h) ≡ Ok tt
  pub fit : operations_fit (kind_of h) (held h) ≡ true
  pub last : flying_last (held h) ≡ true
  pub counted : (t : ℕ) → t < threads → get_or h.done t 0 ≡ count_done t (held h)

pub parts_of : (h : History) → shape_of h ≡ true → Parts h
unfolding shape_of counts_right
parts_of h e =
    let a = pick_right (leb h.count capacity) _ e in
    let b = pick_right (is_ok (start_check (kind_of h))) _ a in
    let c = pick_right (operations_fit (kind_of h) (held h)) _ b in
    record {
      few = leb-true _ _ (pick_left (leb h.count capacity) _ e);
      startable = (clear_yes _).0 (pick_left (is_ok (start_check (kind_of h))) _ a);
      fit = pick_left (operations_fit (kind_of h) (held h)) _ b;
      last = pick_left (flying_last (held h)) _ c;
      counted = λ t l. eqb-true _ _ (below_each (λ u. eqb (get_or h.done u 0) (count_done u (held h))) threads (pick_right (flying_last (held h)) _ c) t l);
    }

pub of_parts : (h : History) → Parts h → shape_of h ≡ true
unfolding shape_of counts_right
of_parts h w =
    rw (le-leb _ _ w.few, (clear_yes (start_check (kind_of h))).1 w.startable, w.fit, w.last)
    (each_below (λ u. eqb (get_or h.done u 0) (count_done u (held h))) threads (λ t l. eq-eqb _ _ (w.counted t l)))
