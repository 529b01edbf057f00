-- The verdicts under a budget of attempts, in terms of legal orders.
use Rattle.std.specs.Prelude.{ℕ, ◌≤◌, ◌<◌, ◌≡◌, refl, ◌↔◌}
use Rattle.std.proofs.Common.{subst, arith}
use Rattle.std.proofs.Math.Option.{Option, none, some}
use Rattle.theory.specs.Tree.{answer, count}
use Rattle.theory.specs.Space.{powers}
use Rattle.theory.specs.Budget.{order, no_order, undecided}
use Rattle.theory.proofs.Verdicts.{judge_order, judge_no_order, judge_undecided}
use Rattle.history.specs.Object.{Object, Lawful}
use Rattle.history.specs.Rows.{Rows, operations, threads_used}
use Rattle.history.specs.Orders.{Order, LegalOrder, First}
use Rattle.history.specs.Ways.{Steps, searched, strip}
use Rattle.history.specs.Verdict.{Answers}
use Rattle.history.proofs.Verdict.{verdict}
use Rattle.history.specs.Attempts.{attempts_bound}
use Rattle.history.specs.Budgets.{judged}

module _ (O : Object) (rows : Rows O) where
  module _ (s : O.State) (b : ℕ) where
    -- Undecided exactly when the budget falls short of the search.
    pub undecided_exactly : (judged O rows b s).verdict ≡ undecided ↔ b < count (searched O rows s)
    undecided_exactly = judge_undecided b (searched O rows s)

    -- k + k² + … + kⁿ attempts always suffice.
    pub always_suffice : powers (threads_used O rows) (operations O rows) ≤ b → (judged O rows b s).verdict ≡ undecided → ⊥
    always_suffice h u = let a = undecided_exactly.0 u in let c = attempts_bound O rows s in omega arith

  module _ (L : Lawful O) (s : O.State) where
    -- the search finds an order exactly if there is a legal one
    found_exactly : ((p : Steps O rows) × (answer (searched O rows s) ≡ some p)) ↔ ((q : Order O) × LegalOrder O rows s q)
    found_exactly = go (answer (searched O rows s)) (verdict O L rows s)
      where
        go : (a : Option (Steps O rows)) → Answers O rows s a → ((p : Steps O rows) × (a ≡ some p)) ↔ ((q : Order O) × LegalOrder O rows s q)
        go (some p) w = (λ h. (strip O rows p, w.legal), λ h. (p, refl))
        go none w = (λ h. absurd (let z : ◌≡◌ {A = ℕ} 0 1 = (let e = h.1 in cc) in omega arith), λ h. absurd (w h.0 h.1))

    none_exactly : answer (searched O rows s) ≡ none ↔ ((q : Order O) → LegalOrder O rows s q → ⊥)
    none_exactly = go (answer (searched O rows s)) (verdict O L rows s)
      where
        go : (a : Option (Steps O rows)) → Answers O rows s a → a ≡ none ↔ ((q : Order O) → LegalOrder O rows s q → ⊥)
        go (some p) w = (λ h. absurd (let z : ◌≡◌ {A = ℕ} 0 1 = cc in omega arith), λ f. absurd (f (strip O rows p) w.legal))
        go none w = (λ h. w, λ f. refl)

    module _ (b : ℕ) where
      -- Order exactly when the budget covers the search and a legal order exists.
      pub order_exactly : ((p : Steps O rows) × ((judged O rows b s).verdict ≡ order p)) ↔ ((count (searched O rows s) ≤ b) × ((q : Order O) × LegalOrder O rows s q))
      order_exactly = (
        λ h. let j = (judge_order b (searched O rows s) h.0).0 h.1 in (j.0, found_exactly.0 (h.0, j.1)),
        λ h. let f = found_exactly.1 h.1 in (f.0, (judge_order b (searched O rows s) f.0).1 (h.0, f.1)),
      )

      -- It comes with the first order.
      pub order_first : (p : Steps O rows) → (judged O rows b s).verdict ≡ order p → First O rows s (strip O rows p)
      order_first p h = subst (Answers O rows s) ((judge_order b (searched O rows s) p).0 h).1 (verdict O L rows s)

      -- No order exactly when the budget covers the search and no legal order exists.
      pub no_order_exactly : (judged O rows b s).verdict ≡ no_order ↔ ((count (searched O rows s) ≤ b) × ((q : Order O) → LegalOrder O rows s q → ⊥))
      no_order_exactly =
          let j = judge_no_order b (searched O rows s) in
          (λ h. ((j.0 h).0, none_exactly.0 (j.0 h).1), λ h. j.1 (h.0, none_exactly.1 h.1))
