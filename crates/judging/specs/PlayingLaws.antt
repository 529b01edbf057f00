-- A path that goes one thread further, and a path up to one of its threads.
use Prim.Native.Nat.{ℕ, zero, suc, ◌<◌}
use Rattle.std.specs.Prelude.{◌≡◌, length, get_or, take}
use Rattle.std.proofs.Math.Path.{refl, ap}
use mathlib.Core.List.{List, [], ◌∷◌, ◌++◌}
use Rattle.std.proofs.Common.{arith}
use Rattle.values.specs.Sizes.{threads}
use Rattle.stepping.specs.declared.histories.History.{History}
use Rattle.judging.specs.declared.answer.Placed.{Placed}
use Rattle.judging.specs.Places.{places_of}
use Rattle.judging.specs.Playing.{Situation, onward, given_to, played, reached, Playable}

module _ (h : History) where
  -- Thread t is one of the threads and has an operation left.
  abbrev pub HasNext : Situation → ℕ → Type 0
  HasNext s t = (t < threads) × (get_or s.progress t 0 < length (places_of h t))

  -- one thread further

  pub played_more : (s : Situation) (ts : List ℕ) (t : ℕ) → played h s (ts ++ (t ∷ [])) ≡ played h s ts ++ (given_to h (reached h s ts) t ∷ [])
  unfolding played reached
  played_more s [] t = refl
  played_more s (u ∷ ts) t = ap (λ (l : List Placed). given_to h s u ∷ l) (played_more (onward h s u) ts t)

  pub reached_more : (s : Situation) (ts : List ℕ) (t : ℕ) → reached h s (ts ++ (t ∷ [])) ≡ onward h (reached h s ts) t
  unfolding reached
  reached_more s [] t = refl
  reached_more s (u ∷ ts) t = reached_more (onward h s u) ts t

  pub playable_more : (s : Situation) (ts : List ℕ) (t : ℕ) → Playable h s ts → HasNext (reached h s ts) t → Playable h s (ts ++ (t ∷ []))
  unfolding Playable reached
  playable_more s [] t p n = (n.0, n.1, tt)
  playable_more s (u ∷ ts) t p n = (p.0, p.1, playable_more (onward h s u) ts t p.2 n)

  -- up to a place

  pub playable_at : (s : Situation) (ts : List ℕ) (i : ℕ) → Playable h s ts → i < length ts → HasNext (reached h s (take i ts)) (get_or ts i 0)
  unfolding Playable reached
  playable_at s [] i p l = absurd (omega arith)
  playable_at s (u ∷ ts) zero p l = (p.0, p.1)
  playable_at s (u ∷ ts) (suc i) p l = playable_at (onward h s u) ts i p.2 (omega arith)

  -- how many

  pub played_length : (s : Situation) (ts : List ℕ) → length (played h s ts) ≡ length ts
  unfolding played
  played_length s [] = refl
  played_length s (u ∷ ts) = ap suc (played_length (onward h s u) ts)
