-- A legal order has no more places than there are operations.
use Rattle.std.specs.Prelude.{ℕ, ◌≤◌, ◌≡◌, refl, List, [], ◌∷◌, length, replicate}
use Rattle.std.proofs.Common.{subst, arith}
use Rattle.theory.specs.Space.{Space, Step, Leads, ends, goes, Falls}
use Rattle.history.specs.Object.{Object, Lawful}
use Rattle.history.specs.Rows.{Rows, operations}
use Rattle.history.specs.Orders.{Order, LegalOrder}
use Rattle.history.specs.Space.{unplaced, space, size}
use Rattle.history.specs.Moves.{falls}
use Rattle.history.specs.Ways.{Steps, strip}
use Rattle.history.proofs.Ways.{order_way}

-- a way has no more steps than the situation is large
leads_within : {L : Type 0} (S : Space L) (size : S.Node → ℕ) → Falls S size → {x : S.Node} {p : List (Step S)} → Leads S x p → length p ≤ size x
leads_within S size falls (ends e) = omega arith
leads_within S size falls (goes {x = x} {y = y} {l = l} {t = t} o k e w) = omega (arith, falls x y t l e, leads_within S size falls w)

module _ (O : Object) where
  -- where nothing is placed, all operations are left
  pub all_unplaced : (rows : Rows O) → unplaced rows (replicate (length rows) 0) ≡ operations O rows
  all_unplaced [] = refl
  all_unplaced (r ∷ rows) = omega (arith, all_unplaced rows)

  module _ (rows : Rows O) where
    strip_length : (p : Steps O rows) → length (strip O rows p) ≡ length p
    strip_length [] = refl
    strip_length (e ∷ p) = omega (arith, strip_length p)

    pub legal_within : Lawful O → (s : O.State) (p : Order O) → LegalOrder O rows s p → length p ≤ operations O rows
    legal_within L s p w =
        let z = order_way O rows L s p w in
        subst (λ (q : Order O). length q ≤ operations O rows) z.2
        (omega (
          arith,
          strip_length z.0,
          leads_within (space O rows) (size O rows) (falls O rows) z.1,
          all_unplaced rows,
        ))
