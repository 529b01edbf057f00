-- Whatever notes are kept: rows fed from fresh are in shape, and each thread's events are those of its row.
use Rattle.std.specs.Prelude.{ℕ, ◌<◌, ◌≡◌, refl, ◌≢◌, true, false, List, [], ◌∷◌, ◌++◌, length, replicate}
use Rattle.std.proofs.Common.{sym, ap, ◌∙◌, subst, append-nil}
use Rattle.std.proofs.Math.Option.{Option, none, some}
use Rattle.history.specs.Object.{Object}
use Rattle.history.specs.Events.{Event, Events, invoked, returned, thread_of, sub, Alternates, nothing, waiting, call, WellFormed}
use Rattle.history.specs.Rows.{Entry, Rows, row, Shaped, AllShaped, empty, in_flight, completed_first}
use Rattle.history.specs.Recorder.{pending, flying, extend, close_row, close, new, Fed}
use Rattle.history.specs.Lists.{not_both, get_d_same}
use Rattle.history.specs.Splits.{sub_append, sub_mine, sub_not_mine}
use Rattle.history.specs.Feeding.{each_row, fed_along}

module _ (O : Object) where
  -- shape

  shaped_new : {r : List (Entry O)} (e : Entry O) → e.ret ≡ none → Shaped O r → flying O r ≡ false → Shaped O (r ++ (e ∷ []))
  shaped_new e h empty f = in_flight h
  shaped_new e h (in_flight {e = g} n) f = let p : pending O g.ret ≡ true = ap (pending O) n in let a : true ≡ false = rw p at f in not_both refl a
  shaped_new e h (completed_first {e = g} n s) f =
      let p : pending O g.ret ≡ false = ap (pending O) n in
      completed_first n (shaped_new e h s (rw p at f))

  shaped_close : {r : List (Entry O)} (q : O.Ret) → Shaped O r → Shaped O (close_row O r q)
  shaped_close q empty = empty
  shaped_close q (in_flight {e = e} n) = let p : pending O e.ret ≡ true = ap (pending O) n in rw p (completed_first refl empty)
  shaped_close q (completed_first {e = e} n s) = let p : pending O e.ret ≡ false = ap (pending O) n in rw p (completed_first n (shaped_close q s))

  -- the events of a row

  abbrev pub response_of : ℕ → Option O.Ret → Events O → Events O
  response_of t none l = l
  response_of t (some q) l = returned t q ∷ l

  abbrev pub spell : ℕ → List (Entry O) → Events O
  spell t [] = []
  spell t (e ∷ r) = invoked t e.op ∷ response_of t e.ret (spell t r)

  response_append : (t : ℕ) (a : Option O.Ret) (H K : Events O) → response_of t a (H ++ K) ≡ response_of t a H ++ K
  response_append t none H K = refl
  response_append t (some q) H K = refl

  spell_new : (t : ℕ) (r : List (Entry O)) (e : Entry O) → e.ret ≡ none → spell t (r ++ (e ∷ [])) ≡ spell t r ++ (invoked t e.op ∷ [])
  spell_new t [] e n = rw n
  spell_new t (g ∷ r) e n =
      ap (λ (l : Events O). invoked t g.op ∷ l) (rw (spell_new t r e n) (response_append t g.ret (spell t r) (invoked t e.op ∷ [])))

  spell_close : (t : ℕ) {r : List (Entry O)} (q : O.Ret) → Shaped O r → flying O r ≡ true → spell t (close_row O r q) ≡ spell t r ++ (returned t q ∷ [])
  spell_close t q empty f = not_both f refl
  spell_close t q (in_flight {e = e} n) f = let p : pending O e.ret ≡ true = ap (pending O) n in rw (p, n)
  spell_close t q (completed_first {e = e} {r = r} n s) f =
      let p : pending O e.ret ≡ false = ap (pending O) n in
      rw (p, spell_close t q s (rw p at f)) (ap (λ (l : Events O). invoked t e.op ∷ l) (response_append t e.ret (spell t r) (returned t q ∷ [])))

  spell_alternates : (t : ℕ) {r : List (Entry O)} → Shaped O r → Alternates O (spell t r)
  spell_alternates t empty = nothing
  spell_alternates t (in_flight n) = rw n waiting
  spell_alternates t (completed_first n s) = rw n (call (spell_alternates t s))

  -- what rows hold of events
  pub record Held (H : Events O) (rows : Rows O) : Type 0 where
    pub shaped : AllShaped O rows
    pub spelt : (t : ℕ) → sub O t H ≡ spell t (row O rows t)

  -- a thread's own event, and that of another
  sub_own : (t : ℕ) (H : Events O) (v : Event O) → thread_of O v ≡ t → sub O t (H ++ (v ∷ [])) ≡ sub O t H ++ (v ∷ [])
  sub_own t H v h = sub_append O t H (v ∷ []) ∙ rw (sub_mine O t v [] h)

  sub_other : (u : ℕ) (H : Events O) (v : Event O) → u ≢ thread_of O v → sub O u (H ++ (v ∷ [])) ≡ sub O u H
  sub_other u H v h = sub_append O u H (v ∷ []) ∙ rw (sub_not_mine O u v [] h) (append-nil (sub O u H))

  pub held_invoked : (H : Events O) (rows : Rows O) (t : ℕ) (e : Entry O) → e.ret ≡ none → t < length rows → flying O (row O rows t) ≡ false
      → Held H rows → Held (H ++ (invoked t e.op ∷ [])) (extend O rows t e)
  held_invoked H rows t e n l f w = record {
    shaped = each_row O (λ u r. Shaped O r) rows t _ l (shaped_new e n (w.shaped t) f) (λ u d. w.shaped u);
    spelt = each_row O (λ u r. sub O u (H ++ (invoked t e.op ∷ [])) ≡ spell u r) rows t _ l
        (sub_own t H (invoked t e.op) refl ∙ rw (w.spelt t) (sym (spell_new t (row O rows t) e n)))
        (λ u d. sub_other u H (invoked t e.op) d ∙ w.spelt u);
  }

  pub held_returned : (H : Events O) (rows : Rows O) (t : ℕ) (q : O.Ret) → t < length rows → flying O (row O rows t) ≡ true
      → Held H rows → Held (H ++ (returned t q ∷ [])) (close O rows t q)
  held_returned H rows t q l f w = record {
    shaped = each_row O (λ u r. Shaped O r) rows t _ l (shaped_close q (w.shaped t)) (λ u d. w.shaped u);
    spelt = each_row O (λ u r. sub O u (H ++ (returned t q ∷ [])) ≡ spell u r) rows t _ l
        (sub_own t H (returned t q) refl ∙ rw (w.spelt t) (sym (spell_close t q (w.shaped t) f)))
        (λ u d. sub_other u H (returned t q) d ∙ w.spelt u);
  }

  pub held_fresh : (k : ℕ) → Held [] (replicate k [])
  held_fresh k = record { shaped = λ t. rw (get_d_same {A = List (Entry O)} k t []) empty; spelt = λ t. rw (get_d_same {A = List (Entry O)} k t []) }

  -- Rows fed from fresh are in shape, and each thread's events are those of its row.
  pub fed_held : {keep : Rows O → ℕ → List ℕ} {k : ℕ} {H : Events O} {rows : Rows O} → Fed O keep k H rows → Held H rows
  fed_held {keep} {k} w = fed_along O keep Held (λ H rows t o. held_invoked H rows t (new O keep rows t o) refl) held_returned (held_fresh k) w

  pub held_formed : {H : Events O} {rows : Rows O} → Held H rows → WellFormed O H
  held_formed w t = subst (Alternates O) (sym (w.spelt t)) (spell_alternates t (w.shaped t))
