-- The threads of an order, place by place.
use Rattle.std.proofs.Common.{ℕ, suc, ◌+◌, ◌<◌, ◌≤◌, ◌≡◌, refl, sym, ◌∙◌, List, [], ◌∷◌, ◌++◌, add-one, arith, length, take, length-set, take_all, take-suc, take-suc-set}
use Rattle.std.specs.Prelude.{set}
use Rattle.std.proofs.Math.ListN.{get_or, length-map, get_or-map}
use Rattle.values.specs.Sizes.{capacity}
use Rattle.judging.specs.declared.answer.Placed.{Placed}
use Rattle.host.specs.Call.{threads_of}

-- the first i threads stand
abbrev pub Filled : List Placed → List ℕ → ℕ → Type 0
Filled order threads i = (i ≤ capacity) × (length threads ≡ capacity) × (take i threads ≡ take i (threads_of order))

module _ (order : List Placed) (sized : length order ≡ capacity) where
  as_many : length (threads_of order) ≡ capacity
  unfolding threads_of
  as_many = length-map order (λ (p : Placed). p.thread) ∙ sized

  pub filled_more : (d : Placed) (threads : List ℕ) (i : ℕ) → i < capacity → Filled order threads i
      → Filled order (set threads i (get_or order i d).thread) (i + 1)
  unfolding threads_of
  filled_more d threads i h f =
      let a = as_many in
      let put : take (suc i) (set threads i (get_or order i d).thread) ≡ take i threads ++ ((get_or order i d).thread ∷ []) =
      take-suc-set threads i (get_or order i d).thread (omega (arith, f.1)) in
      let was : take (suc i) (threads_of order) ≡ take i (threads_of order) ++ (get_or (threads_of order) i d.thread ∷ []) =
      take-suc (threads_of order) i d.thread (omega (arith, a)) in
      let same : get_or (threads_of order) i d.thread ≡ (get_or order i d).thread = get_or-map (λ (p : Placed). p.thread) order i d in
      (omega arith, length-set threads i (get_or order i d).thread ∙ f.1, rw (add-one, put, was, same, f.2) refl)

  pub filled_end : (threads : List ℕ) (i : ℕ) → capacity ≤ i → Filled order threads i → threads ≡ threads_of order
  filled_end threads i h f =
      let a = as_many in
      sym (take_all i threads (omega (arith, f.1))) ∙ f.2 ∙ take_all i (threads_of order) (omega (arith, a))
