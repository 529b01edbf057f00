-- What is shown of every search of a space whose size falls with each step: it finds the first way to an end, within the bound.
use Rattle.std.specs.Prelude.{ℕ, ◌≤◌, ◌↔◌, List}
use Rattle.std.proofs.Math.Option.{Option, none, some}
use Rattle.std.proofs.Common.{arith}
use Rattle.theory.specs.Tree.{Way, answer, count, Says, walk_right}
use Rattle.theory.specs.Least.{Least}
use Rattle.theory.proofs.Least.{walk_least}
use Rattle.theory.specs.Space.{Space, Step, Leads, busy, powers, Falls, Stays}
use Rattle.theory.specs.Ways.{grow_ways}
use Rattle.theory.specs.Rising.{by_thread, grow_ranked}
use Rattle.theory.proofs.Bound.{grow_count}
use Rattle.theory.specs.Judge.{tree, Right}

module _ {L : Type 0} (S : Space L) (size : S.Node → ℕ) (falls : Falls S size) where
  ways : (x : S.Node) (p : List (Step S)) → Way (tree S size falls x) p ↔ Leads S x p
  ways x p = grow_ways S size falls (size x) x p (omega arith)

  right : (x : S.Node) (a : Option (List (Step S))) → Says (tree S size falls x) a
      → ((q : List (Step S)) → Way (tree S size falls x) q → Least (by_thread S) a q) → Right S size falls x a
  right x (some p) h f = ((ways x p).0 h, λ q w. f q ((ways x q).1 w))
  right x none h f = λ p w. h p ((ways x p).1 w)

  -- the walk's answer is the first way to an end, or there is none
  pub search_right : (x : S.Node) → Right S size falls x (answer (tree S size falls x))
  search_right x = right x (answer (tree S size falls x)) (walk_right (tree S size falls x)) (λ q w. walk_least (by_thread S) (tree S size falls x) (grow_ranked S (size x) x) w)

  -- k + k² + … + kⁿ attempts are enough, with k the threads that have something left to place, and n the size
  pub search_bound : Stays S → (x : S.Node) → count (tree S size falls x) ≤ powers (busy S x 0 S.threads) (size x)
  search_bound s x = grow_count S s (busy S x 0 S.threads) (size x) x (omega arith)
