-- Rows that ask no more than other rows: where those have a legal order, these have one.
use Rattle.std.specs.Prelude.{ℕ, ◌≡◌, ◌⊎◌, true, List, [], ◌∷◌, length, get_or, replicate}
use Rattle.std.proofs.Common.{sym, ap, ◌∙◌, subst, inl, inr, length-set}
use Rattle.std.proofs.Math.Option.{none, some}
use Rattle.std.proofs.lemmas.List.{length-replicate}
use Rattle.history.specs.Object.{Object, Lawful}
use Rattle.history.specs.Rows.{Entry, Rows, row}
use Rattle.history.specs.Orders.{Order, LegalOrder}
use Rattle.history.specs.Space.{Node, met, all_placed, gives, stepped, Plays}
use Rattle.history.specs.Progress.{next_row, placed_of, of_placed, left_of, of_left}
use Rattle.history.specs.Replay.{Replays, ended, played}
use Rattle.history.proofs.Ways.{some_legal}
use Rattle.history.specs.Feeding.{Sooner}
use Rattle.history.specs.Earlier.{Was, Earlier}

module _ (O : Object) where
  -- an operation that has a return has one without its recorded return
  gives_sooner : (s : O.State) (e f : Entry O) (r : O.Ret) → Sooner O e f → gives O s f.op f.ret ≡ some r
      → (q : O.Ret) × (gives O s e.op e.ret ≡ some q)
  gives_sooner s e f r h k = go h.same_ret
    where
      go : (e.ret ≡ f.ret) ⊎ (e.ret ≡ none) → (q : O.Ret) × (gives O s e.op e.ret ≡ some q)
      go (inl m) = (r, rw (m, h.same_op) k)
      go (inr m) = (O.answers s e.op, ap (gives O s e.op) m)

  module _ {rows later : Rows O} (w : Earlier O rows later) where
    placed_then : (ps : List ℕ) → length ps ≡ length rows → all_placed O later ps ≡ true → all_placed O rows ps ≡ true
    placed_then ps l h = placed_of O rows ps (λ t. left_of O (row O rows t) (get_or ps t 0) (λ k e q m g.
        of_left O (row O later t) (get_or ps t 0) (of_placed O later ps (l ∙ w.threads) h t) k e q (w.completed_then t k e q m g) g))

    replays_before : {x : Node O} {p : Order O} → length x.progress ≡ length rows → Replays O later x p → (q : Order O) × Replays O rows x q
    replays_before {x} l (ended h) = ([], ended (placed_then x.progress l h))
    replays_before {x} l (played {t = t} {r = r} h v) =
        go (w.was_there x.progress l t h.entry (sym (next_row later x.progress t (l ∙ w.threads)) ∙ h.is_next) h.is_met)
        (replays_before (length-set x.progress t _ ∙ l) v)
      where
        go : Was O rows t (get_or x.progress t 0) h.entry ⊎ (all_placed O rows x.progress ≡ true)
            → (q : Order O) × Replays O rows (stepped O x t h.entry) q → (q : Order O) × Replays O rows x q
        go (inl a) z =
            let e = a.0 in
            let g = gives_sooner x.object e h.entry r a.2 h.is_given in
            let y : stepped O x t h.entry ≡ stepped O x t e = rw a.2.same_op in
            let b : Plays O rows x t g.0 = record {
              entry = e;
              is_next = next_row rows x.progress t l ∙ a.1;
              is_met = ap (λ (n : List ℕ). met n x.progress) a.2.same_needs ∙ h.is_met;
              is_given = g.1;
            } in
            (record { thread = t; ret = g.0 } ∷ z.0, played b (subst (λ (n : Node O). Replays O rows n z.0) y z.1))
        go (inr a) z = ([], ended a)

    -- Where the later rows have a legal order, the rows have one: an operation that was in flight has there what the object answers.
    pub order_before : Lawful O → (s : O.State) → ((p : Order O) × LegalOrder O later s p) → (q : Order O) × LegalOrder O rows s q
    order_before L s z =
        let v = (some_legal O later L s).0 z in
        (some_legal O rows L s).1 (replays_before (length-replicate (length rows) 0)
        (subst (λ (n : ℕ). Replays O later (record { progress = replicate n 0; object = s }) v.0) (sym w.threads) v.1))
