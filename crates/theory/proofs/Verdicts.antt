-- When each verdict is given under a budget, with how many attempts, and that a larger budget keeps Order and No order.
use Rattle.std.specs.Prelude.{ℕ, ◌≤◌, ◌<◌, min, ◌≡◌, refl, ◌↔◌, Bool, true, false, cond, List, leb}
use Rattle.std.proofs.Common.{sym, ap, ◌∙◌, leb-true, leb-false, arith}
use Rattle.std.proofs.Math.Option.{Option, none, some}
use Rattle.theory.specs.Tree.{Tree, answer, count}
use Rattle.theory.specs.Budget.{order, no_order, undecided, Judged, told, whole, broken, cut, judge}

module _ {E : Type 0} where
  told_same : (a o : Option (List E)) → told a ≡ told o → a ≡ o
  told_same (some p) (some q) e = cc
  told_same (some p) none e = cc
  told_same none (some q) e = cc
  told_same none none e = refl

  told_decides : (a : Option (List E)) → told a ≡ undecided → ⊥
  told_decides (some p) e = let z : ◌≡◌ {A = ℕ} 0 1 = cc in omega arith
  told_decides none e = let z : ◌≡◌ {A = ℕ} 0 1 = cc in omega arith

  -- any search that comes to the answer a in n attempts
  module _ (a : Option (List E)) (n : ℕ) where
    -- a budget either covers the search or falls short
    by_budget : (b : ℕ) (P : Judged E → Type 0) → (n ≤ b → P (whole a n)) → (b < n → P (broken b)) → P (cut b a n)
    by_budget b P f g = go (leb n b) refl
      where
        go : (t : Bool) → leb n b ≡ t → P (cond t (whole a n) (broken b))
        go true e = f (leb-true n b e)
        go false e = g (leb-false n b e)

    pub cut_enough : (b : ℕ) → n ≤ b → cut b a n ≡ whole a n
    cut_enough b h = by_budget b (λ j. j ≡ whole a n) (λ k. refl) (λ k. absurd (omega arith))

    pub cut_short : (b : ℕ) → b < n → cut b a n ≡ broken b
    cut_short b h = by_budget b (λ j. j ≡ broken b) (λ k. absurd (omega arith)) (λ k. refl)

    pub cut_decided : (b : ℕ) (o : Option (List E)) → (cut b a n).verdict ≡ told o ↔ (n ≤ b) × (a ≡ o)
    cut_decided b o = (
      by_budget b (λ j. j.verdict ≡ told o → (n ≤ b) × (a ≡ o)) (λ h e. (h, told_same a o e)) (λ h e. absurd (told_decides o (sym e))),
      λ h. ap (λ j. j.verdict) (cut_enough b h.0) ∙ ap told h.1,
    )

    pub cut_undecided : (b : ℕ) → (cut b a n).verdict ≡ undecided ↔ b < n
    cut_undecided b = (
      by_budget b (λ j. j.verdict ≡ undecided → b < n) (λ h e. absurd (told_decides a e)) (λ h e. h),
      λ h. ap (λ j. j.verdict) (cut_short b h),
    )

    pub cut_attempts : (b : ℕ) → (cut b a n).attempts ≡ min b n
    cut_attempts b = by_budget b (λ j. j.attempts ≡ min b n) (λ h. omega arith) (λ h. omega arith)

    pub cut_more : (b c : ℕ) → b ≤ c → ((cut b a n).verdict ≡ undecided → ⊥) → cut c a n ≡ cut b a n
    cut_more b c h =
        by_budget b (λ j. (j.verdict ≡ undecided → ⊥) → cut c a n ≡ j) (λ k u. cut_enough c (omega arith)) (λ k u. absurd (u refl))

  -- the walk of a tree under the budget b
  module _ (b : ℕ) (s : Tree E) where
    -- Order p exactly if the budget covers the search and p is the first way
    pub judge_order : (p : List E) → (judge b s).verdict ≡ order p ↔ (count s ≤ b) × (answer s ≡ some p)
    judge_order p = cut_decided (answer s) (count s) b (some p)

    -- No order exactly if the budget covers the search and there is no way
    pub judge_no_order : (judge b s).verdict ≡ no_order ↔ (count s ≤ b) × (answer s ≡ none)
    judge_no_order = cut_decided (answer s) (count s) b none

    -- Undecided exactly if the whole search takes more attempts than the budget has
    pub judge_undecided : (judge b s).verdict ≡ undecided ↔ b < count s
    judge_undecided = cut_undecided (answer s) (count s) b

    -- the attempts are those of the whole search, and never more than the budget
    pub judge_attempts : (judge b s).attempts ≡ min b (count s)
    judge_attempts = cut_attempts (answer s) (count s) b

    -- a budget that covers the search gives the whole answer
    pub judge_enough : count s ≤ b → judge b s ≡ whole (answer s) (count s)
    judge_enough = cut_enough (answer s) (count s) b

    -- a larger budget changes nothing once the verdict is Order or No order
    pub judge_more : (c : ℕ) → b ≤ c → ((judge b s).verdict ≡ undecided → ⊥) → judge c s ≡ judge b s
    judge_more = cut_more (answer s) (count s) b
