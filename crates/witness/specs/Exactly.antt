-- The checker says yes exactly to the legal orders of testers that are in shape and valid.
use Rattle.std.specs.Prelude.{ℕ, ◌≡◌, refl, ◌↔◌, true, List}
use Rattle.std.proofs.Common.{subst}
use Rattle.history.specs.Orders.{Order, LegalOrder}
use Rattle.history.specs.Space.{root}
use Rattle.history.proofs.Endings.{legal_orders}
use Rattle.families.specs.Families.{families}
use Rattle.families.specs.Same.{lawful}
use Rattle.semantics.specs.Invoking.{holds}
use Rattle.recording_meaning.specs.Models.{Model, tester_rows}
use Rattle.recording_meaning.specs.Parts.{pick_left, pick_right, pick_both}
use Rattle.witness.specs.Words.{order_words}
use Rattle.witness.specs.Checking.{replays, check_of, check_with}
use Rattle.witness.specs.WordsReplayed.{words_order, order_words_lem}

module _ (M : Model) (s : M.Tester) (ws : List ℕ) where
  -- The words are those of a legal order of the tester's rows, from its initial object on.
  abbrev pub Legal : Type 0
  Legal = (p : Order families) × (order_words p ≡ ws) × LegalOrder families (tester_rows M s) (holds (M.history s).start) p

  abbrev taken : Type 0
  taken = replays (tester_rows M s) true (root families (tester_rows M s) (holds (M.history s).start)) ws ≡ true

  taken_legal : taken → Legal
  taken_legal e =
      let w = words_order (tester_rows M s) true (root families (tester_rows M s) (holds (M.history s).start)) ws e in
      (w.0, w.1, (legal_orders families lawful (tester_rows M s) (holds (M.history s).start) w.0).1 (w.2, w.3))

  legal_taken : Legal → taken
  legal_taken w =
      let l = (legal_orders families lawful (tester_rows M s) (holds (M.history s).start) w.0).0 w.2 in
      subst (λ (vs : List ℕ). replays (tester_rows M s) true (root families (tester_rows M s) (holds (M.history s).start)) vs ≡ true) w.1
      (order_words_lem (tester_rows M s) true l.0 l.1 (λ e. refl))

  -- Yes exactly if the tester is in shape and valid and the order is legal.
  pub check_exactly : check_of M s ws ≡ true ↔ (M.shaped s ≡ true) × ((M.history s).valid ≡ true) × Legal
  unfolding check_with
  check_exactly = (
    λ e. let a = pick_right (M.shaped s) _ e in
        (pick_left (M.shaped s) _ e, pick_left (M.history s).valid _ a, taken_legal (pick_right (M.history s).valid _ a)),
    λ w. pick_both (M.shaped s) _ w.0 (pick_both (M.history s).valid _ w.1 (legal_taken w.2)),
  )
