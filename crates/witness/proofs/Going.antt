-- What is left of the words: from the stage reached they give the answer for all of them.
use Rattle.std.proofs.Common.{ℕ, ◌≤◌, ◌<◌, ◌≡◌, refl, sym, ap, ◌∙◌, Bool, true, false, List, [], ◌∷◌, length, take, drop, arith}
use Rattle.std.proofs.Math.ListN.{get_or}
use Rattle.std.proofs.lemmas.List.{nil_from_length}
use Rattle.std.specs.Prelude.{Some, None}
use Rattle.std.specs.List.{IsSplitAt}
use Rattle.std.specs.declared.option.Option.{Option}
use Rattle.stepping.specs.declared.histories.History.{History}
use Rattle.witness.specs.declared.replay.Stage.{Stage}
use Rattle.witness.specs.Words.{place_words}
use Rattle.witness.specs.WordsPlayed.{reaches_of, stage_after, goes_on, play_from}

-- too few words for a place, and yet some
pub short_words : (notes : List ℕ) (h : History) (s : Stage) (ws : List ℕ) → 0 < length ws → length ws < place_words → false ≡ play_from notes h s ws
unfolding play_from
short_words notes h s [] a b = absurd (omega arith)
short_words notes h s (t ∷ []) a b = refl
short_words notes h s (t ∷ n ∷ []) a b = refl
short_words notes h s (t ∷ n ∷ c ∷ []) a b = refl
short_words notes h s (t ∷ n ∷ c ∷ v ∷ ws) a b = absurd (omega arith)

-- the words split behind the first place
module _ (notes : List ℕ) (h : History) (s : Stage) (ws front back : List ℕ) (e : IsSplitAt ws place_words front back) where
  -- what the place leaves
  abbrev placed : Option Stage
  placed = stage_after notes h s (get_or front 0 0) (get_or front 1 0 ∷ get_or front 2 0 ∷ get_or front 3 0 ∷ [])

  one_place : play_from notes h s ws ≡ goes_on placed (λ z. play_from notes h z back)
  unfolding play_from
  one_place = rw (e.1, e.2) (go ws e.0)
    where
      go : (ws : List ℕ) → place_words ≤ length ws
          → play_from notes h s ws
          ≡ goes_on (stage_after notes h s (get_or (take place_words ws) 0 0) (get_or (take place_words ws) 1 0 ∷ get_or (take place_words ws) 2 0 ∷ get_or (take place_words ws) 3 0 ∷ []))
          (λ z. play_from notes h z (drop place_words ws))
      go [] l = absurd (omega arith)
      go (t ∷ []) l = absurd (omega arith)
      go (t ∷ n ∷ []) l = absurd (omega arith)
      go (t ∷ n ∷ c ∷ []) l = absurd (omega arith)
      go (t ∷ n ∷ c ∷ v ∷ ws) l = refl

  pub shorter : length back < length ws
  shorter = omega (arith, e.4)

  pub going_on : (next : Stage) → placed ≡ Some next → play_from notes h next back ≡ play_from notes h s ws
  going_on next q = sym (one_place ∙ ap (λ (x : Option Stage). goes_on x (λ z. play_from notes h z back)) q)

  pub going_wrong : placed ≡ None → false ≡ play_from notes h s ws
  going_wrong q = sym (one_place ∙ ap (λ (x : Option Stage). goes_on x (λ z. play_from notes h z back)) q)

module _ (notes : List ℕ) (h : History) (s : Stage) (ws : List ℕ) where
  pub going_ended : length ws ≡ 0 → s.ended ≡ true → (b : Bool) → b ≡ reaches_of h.done 0 s.progress → b ≡ play_from notes h s ws
  unfolding play_from
  going_ended l y b q = let none : ws ≡ [] = nil_from_length ws l in rw (none, y, q)

  pub going_pending : length ws ≡ 0 → s.ended ≡ false → false ≡ play_from notes h s ws
  unfolding play_from
  going_pending l y = let none : ws ≡ [] = nil_from_length ws l in rw (none, y)
