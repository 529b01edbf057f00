-- For events fed from fresh a legal order exists exactly if they are linearizable; where no notes are kept, exactly if they are sequentially
-- consistent.
use Rattle.std.specs.Prelude.{ℕ, ◌≡◌, refl, ◌↔◌, List, [], ◌++◌, length, replicate}
use Rattle.std.proofs.Common.{sym, ap, ◌∙◌, subst, arith}
use Rattle.std.proofs.lemmas.List.{length-replicate}
use Rattle.history.specs.Object.{Object, Lawful}
use Rattle.history.specs.Events.{Events, sub, Alternates}
use Rattle.history.specs.Papers.{complete, Explains, Linearizable, SequentiallyConsistent}
use Rattle.history.specs.Rows.{Rows, row}
use Rattle.history.specs.Orders.{Order, LegalOrder}
use Rattle.history.specs.Recorder.{notes, rows_no_notes, Fed}
use Rattle.history.specs.Lists.{get_d_same}
use Rattle.history.specs.Splits.{sub_append}
use Rattle.history.specs.Feeding.{fed_along, AllNotes, notes_fresh, notes_new, notes_closed}
use Rattle.history.specs.Recorded.{spell, Held, fed_held}
use Rattle.history.proofs.Notes.{fed_tells}
use Rattle.history.proofs.RealTime.{keeps_time, time_keeps}
use Rattle.history.proofs.Ways.{some_legal}
use Rattle.history.specs.Completions.{Fits}
use Rattle.history.proofs.Completions.{sub_complete, fits_complete, fits_alternates, fits_of_lem, mine_of}
use Rattle.history.specs.Explaining.{KeepsNotes, Left, Told, AllFit}
use Rattle.history.proofs.Explaining.{replay_told, told_replay}

module _ (O : Object) (rows : Rows O) (s : O.State) (H : Events O) (w : Held O H rows) where
  abbrev start : List ℕ
  start = replicate (length rows) 0

  sub_extended : (R : Events O) (t : ℕ) → sub O t (H ++ R) ≡ spell O t (row O rows t) ++ sub O t R
  sub_extended R t = sub_append O t H R ∙ ap (λ (l : Events O). l ++ sub O t R) (w.spelt t)

  told_explains : (z : Told O rows start s) → Explains O s H z.S
  told_explains z = record {
    H' = H ++ z.R;
    extension = record {
      responses = z.R;
      only = z.only;
      appended = refl;
      formed = λ t. subst (Alternates O) (sym (sub_extended z.R t)) (fits_alternates O (fits_row t));
    };
    equivalent = λ t. sub_complete O t (H ++ z.R) ∙ ap (complete O) (sub_extended z.R t) ∙ fits_complete O (fits_row t);
    legal = z.legal;
  }
    where
      fits_row : (t : ℕ) → Fits O t (row O rows t) (sub O t z.S) (sub O t z.R)
      fits_row t = rw (get_d_same {A = ℕ} (length rows) t 0) at (z.fits t)

  explains_fit : (S : Events O) → Explains O s H S → AllFit O rows start S
  explains_fit S x t =
      let e = x.extension in
      let R = e.responses in
      let h : sub O t x.H' ≡ spell O t (row O rows t) ++ sub O t R = ap (sub O t) e.appended ∙ sub_extended R t in
      let f = fits_of_lem O t (sub O t R) (w.shaped t) (mine_of O t e.only) (subst (Alternates O) h (e.formed t)) in
      let g : complete O (spell O t (row O rows t) ++ sub O t R) ≡ sub O t S = ap (complete O) (sym h) ∙ sym (sub_complete O t x.H') ∙ x.equivalent t in
      (sub O t R, go g f)
    where
      go : {C R : Events O} → C ≡ sub O t S → Fits O t (row O rows t) C R → Fits O t (Left O rows start t) (sub O t S) R
      go {C} {R} g f = rw (get_d_same {A = ℕ} (length rows) t 0) (subst (λ (D : Events O). Fits O t (row O rows t) D R) g f)

  -- a legal order of the rows is a legal sequential history that explains the events, each operation after those that it notes
  orders_explain : Lawful O → ((p : Order O) × LegalOrder O rows s p) ↔ ((S : Events O) × Explains O s H S × KeepsNotes O rows start S)
  orders_explain L = (
    λ o. let z = replay_told O rows w.shaped L ((some_legal O rows L s).0 o).1 (length-replicate (length rows) 0) in (z.S, told_explains z, z.keeps),
    λ x. (some_legal O rows L s).1 (told_replay O rows start x.1.legal (length-replicate (length rows) 0) (explains_fit x.0 x.1) x.2),
  )

module _ (O : Object) where
  -- Herlihy and Wing: for events fed from fresh with notes, a legal order exists exactly if they are linearizable.
  pub linearizable : Lawful O → {k : ℕ} {H : Events O} {rows : Rows O} → Fed O (notes O) k H rows → (s : O.State)
      → ((p : Order O) × LegalOrder O rows s p) ↔ Linearizable O s H
  linearizable L {k} {H} {rows} w s =
      let h = fed_held O w in
      let n = fed_tells O w in
      let x = orders_explain O rows s H h L in (
        λ o. let z = x.0 o in record { S = z.0; explains = z.1; keeps_time = keeps_time O h n z.1.legal z.2 },
        λ l. x.1 (l.S, l.explains, time_keeps O h n l.keeps_time),
      )

  -- where no notes are kept there are none

  abbrev Bare : ℕ → ℕ → List ℕ → Type 0
  Bare t k n = n ≡ []

  fed_bare : {k : ℕ} {H : Events O} {rows : Rows O} → Fed O (rows_no_notes O) k H rows → AllNotes O Bare rows
  fed_bare {k} w =
      fed_along O (rows_no_notes O) (λ H rows. AllNotes O Bare rows) (λ H rows t o l f h. notes_new O Bare rows t _ l h refl)
      (λ H rows t q l f h. notes_closed O Bare rows t q l h) (notes_fresh O Bare k) w

  -- Lamport: for events fed from fresh without notes, a legal order exists exactly if they are sequentially consistent.
  pub sequentially_consistent : Lawful O → {k : ℕ} {H : Events O} {rows : Rows O} → Fed O (rows_no_notes O) k H rows → (s : O.State)
      → ((p : Order O) × LegalOrder O rows s p) ↔ SequentiallyConsistent O s H
  sequentially_consistent L {k} {H} {rows} w s =
      let x = orders_explain O rows s H (fed_held O w) L in (
        λ o. let z = x.0 o in record { S = z.0; explains = z.1 },
        λ l. x.1 (l.S, l.explains, λ A u o B e h n t i. let z = fed_bare w u _ e n in rw z (omega arith)),
      )
