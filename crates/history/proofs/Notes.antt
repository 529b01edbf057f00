-- Fed from fresh, the notes say exactly what the events say.
use Rattle.std.specs.Prelude.{ℕ, ◌<◌, ◌≡◌, refl, ◌≢◌, true, false, List, [], ◌∷◌, ◌++◌, map, length, get_or, replicate}
use Rattle.std.proofs.Common.{sym, ap, ◌∙◌, append_assoc, get_or-set_same, get_or-set_other, arith}
use Rattle.std.proofs.Math.ListN.{get_or-map}
use Rattle.std.proofs.lemmas.List.{length-map}
use Rattle.history.specs.Object.{Object}
use Rattle.history.specs.Events.{Events, invoked, returned, invocations, returns}
use Rattle.history.specs.Rows.{Rows, row}
use Rattle.history.specs.Recorder.{flying, completed, notes, extend, close, new, Fed}
use Rattle.history.specs.Lists.{nth_lt}
use Rattle.history.proofs.Splits.{split_once, at_find, precedes_at}
use Rattle.history.specs.Feeding.{fed_along, AllNotes, notes_fresh, notes_new, notes_closed}
use Rattle.history.specs.Recorded.{Held, held_invoked, held_returned, held_fresh}
use Rattle.history.proofs.Recorded.{held_many, held_done}
use Rattle.history.specs.Notes.{Tells}

module _ (O : Object) where
  -- the notes that are taken

  notes_own : (rows : Rows O) (t : ℕ) → t < length rows → get_or (notes O rows t) t 0 ≡ 0
  notes_own rows t h = get_or-set_same (map (completed O) rows) t 0 0 (rw (length-map rows (completed O)) h)

  pub notes_other : (rows : Rows O) (t u : ℕ) → u ≢ t → get_or (notes O rows t) u 0 ≡ completed O (row O rows u)
  notes_other rows t u h = get_or-set_other (map (completed O) rows) t u 0 0 h ∙ get_or-map (completed O) rows u []

  -- what is kept while events are fed: the note on u is how often u had returned, and none is on the own thread

  abbrev Says : Events O → ℕ → ℕ → List ℕ → Type 0
  Says H t k n = (A : Events O) (o : O.Op) (B : Events O) → H ≡ A ++ (invoked t o ∷ B) → invocations O t A ≡ k
      → (u : ℕ) → u ≢ t → get_or n u 0 ≡ returns O u A

  abbrev Own : ℕ → ℕ → List ℕ → Type 0
  Own t k n = get_or n t 0 ≡ 0

  record Noted (H : Events O) (rows : Rows O) : Type 0 where
    held : Held O H rows
    says : AllNotes O (Says H) rows
    of_own : AllNotes O Own rows

  -- an operation that was there stays where it was in the events
  says_still : (H K : Events O) (rows : Rows O) → Noted H rows → AllNotes O (Says (H ++ K)) rows
  says_still H K rows w t k e n A o B h m u d =
      let c = nth_lt (row O rows t) k e n in
      let l = held_many O w.held t in
      let a = at_find O H t k (omega arith) in
      let b : H ++ K ≡ a.A ++ (invoked t a.op ∷ (a.B ++ K))
      = ap (λ (l : Events O). l ++ K) a.split ∙ append_assoc a.A (invoked t a.op ∷ a.B) K in
      let y : a.A ≡ A = split_once O t a.op o a.A (a.B ++ K) A B (sym b ∙ h) (a.number ∙ sym m) in
      w.says t k e n a.A a.op a.B a.split a.number u d ∙ ap (returns O u) y

  noted_invoked : (H : Events O) (rows : Rows O) (t : ℕ) (o : O.Op) → t < length rows → flying O (row O rows t) ≡ false → Noted H rows
      → Noted (H ++ (invoked t o ∷ [])) (extend O rows t (new O (notes O) rows t o))
  noted_invoked H rows t o l f w = record {
    held = held_invoked O H rows t (new O (notes O) rows t o) refl l f w.held;
    says = notes_new O (Says (H ++ (invoked t o ∷ []))) rows t _ l (says_still H (invoked t o ∷ []) rows w) (λ A p B h m u d.
        let y : H ≡ A = split_once O t o p H [] A B h (sym (held_many O w.held t) ∙ sym m) in
        notes_other rows t u d ∙ held_done O w.held u ∙ ap (returns O u) y);
    of_own = notes_new O Own rows t _ l w.of_own (notes_own rows t l);
  }

  noted_returned : (H : Events O) (rows : Rows O) (t : ℕ) (q : O.Ret) → t < length rows → flying O (row O rows t) ≡ true → Noted H rows
      → Noted (H ++ (returned t q ∷ [])) (close O rows t q)
  noted_returned H rows t q l f w = record {
    held = held_returned O H rows t q l f w.held;
    says = notes_closed O (Says (H ++ (returned t q ∷ []))) rows t q l (says_still H (returned t q ∷ []) rows w);
    of_own = notes_closed O Own rows t q l w.of_own;
  }

  noted_fresh : (k : ℕ) → Noted [] (replicate k [])
  noted_fresh k = record { held = held_fresh O k; says = notes_fresh O (Says []) k; of_own = notes_fresh O Own k }

  noted_tells : {H : Events O} {rows : Rows O} → Noted H rows → Tells O H rows
  noted_tells {H} {rows} w = record {
    others = λ t k e n u d j. (
      λ h. let c = nth_lt (row O rows t) k e n in
          let l = held_many O w.held t in
          let a = at_find O H t k (omega arith) in
          let b = w.says t k e n a.A a.op a.B a.split a.number u d in
          precedes_at O a (omega arith),
      λ p. let b = w.says t k e n p.A p.op p.B p.split p.number u d in let c = p.returned_before in omega arith,
    );
    own = w.of_own;
  }

  -- Fed from fresh, they do.
  pub fed_tells : {k : ℕ} {H : Events O} {rows : Rows O} → Fed O (notes O) k H rows → Tells O H rows
  fed_tells {k} w = noted_tells (fed_along O (notes O) Noted noted_invoked noted_returned (noted_fresh k) w)
