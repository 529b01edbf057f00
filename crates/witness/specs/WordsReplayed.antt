-- The words that the replay takes are those of the orders that history's replay takes with no step too many.
use Rattle.std.specs.Prelude.{ℕ, zero, suc, ◌≡◌, Bool, drop, eqb}
use Rattle.std.proofs.Math.Path.{refl}
use Rattle.std.proofs.Common.{sym, eqb-true, eq-eqb, arith}
use Rattle.std.proofs.Math.Bool.{true, false, not}
use Rattle.std.proofs.Math.Option.{Option, none, some}
use mathlib.Core.List.{List, [], ◌∷◌}
use Rattle.std.proofs.Math.ListN.{get_elem? as nth}
use Rattle.history.specs.Lists.{not_some, not_both, not_true, and_left, and_right}
use Rattle.history.specs.Rows.{Entry, Rows}
use Rattle.history.specs.Orders.{Order}
use Rattle.history.specs.Recorder.{pending}
use Rattle.history.specs.Space.{Node, next, met, only_pending, all_placed, gives, stepped, Plays}
use Rattle.history.specs.Progress.{placed_on, placed_back}
use Rattle.history.specs.Replay.{Replays, ended, played}
use Rattle.history.specs.Endings.{Tight}
use Rattle.families.specs.Families.{families}
use Rattle.families.specs.Codes.{ret_coded}
use Rattle.families.specs.declared.Ret.{Ret}
use Rattle.recording_meaning.specs.Parts.{pick_left, pick_right}
use Rattle.witness.specs.Words.{words_of, order_words}
use Rattle.witness.specs.Checking.{same_words, told, placed, replays}

-- words

words_equal : (vs ws : List ℕ) → same_words vs ws ≡ true → vs ≡ ws
unfolding same_words
words_equal [] [] e = refl
words_equal [] (w ∷ ws) e = not_both refl (sym e)
words_equal (v ∷ vs) [] e = not_both refl (sym e)
words_equal (v ∷ vs) (w ∷ ws) e =
    rw (eqb-true v w (pick_left (eqb v w) (same_words vs ws) e), words_equal vs ws (pick_right (eqb v w) (same_words vs ws) e))

words_self : (ws : List ℕ) → same_words ws ws ≡ true
unfolding same_words
words_self [] = refl
words_self (w ∷ ws) = rw (eq-eqb w w refl) (words_self ws)

record Three (ws : List ℕ) : Type 0 where
  number : ℕ
  count : ℕ
  word : ℕ
  all : ws ≡ number ∷ count ∷ word ∷ []

three : (r : Ret) → Three (words_of r)
unfolding words_of
three r = record { number = (ret_coded r).number; count = (ret_coded r).count; word = (ret_coded r).word; all = refl }

pub told_return : (g : Option Ret) (ws : List ℕ) → told g ws ≡ true → (r : Ret) × (g ≡ some r) × (words_of r ≡ ws)
told_return none ws e = not_both refl (sym e)
told_return (some r) ws e = (r, refl, words_equal (words_of r) ws e)

module _ (rows : Rows families) where
  -- once every completed operation is placed, only one in flight can be next

  pending_row : (r : List (Entry families)) (p : ℕ) (e : Entry families) → nth r p ≡ some e → only_pending families (drop p r) ≡ true
      → pending families e.ret ≡ true
  pending_row [] p e n h = not_some n
  pending_row (f ∷ r) zero e n h =
      let q : f ≡ e = cc in
      rw (sym q) (and_left (pending families f.ret) (only_pending families r) h)
  pending_row (f ∷ r) (suc p) e n h = pending_row r p e n h

  next_pending : (rows : Rows families) (ps : List ℕ) (t : ℕ) (e : Entry families) → next rows ps t ≡ some e → all_placed families rows ps ≡ true
      → pending families e.ret ≡ true
  next_pending [] ps t e n h = not_some n
  next_pending (r ∷ rows) [] t e n h = not_some n
  next_pending (r ∷ rows) (p ∷ ps) zero e n h =
      pending_row r p e n (and_left (only_pending families (drop p r)) (all_placed families rows ps) h)
  next_pending (r ∷ rows) (p ∷ ps) (suc t) e n h =
      next_pending rows ps t e n (and_right (only_pending families (drop p r)) (all_placed families rows ps) h)

  -- what a place that is taken says
  record Taken (x : Node families) (t : ℕ) (ws : List ℕ) (go : Bool → Node families → Bool) : Type 0 where
    ret : Ret
    plays : Plays families rows x t ret
    words : words_of ret ≡ ws
    onward : go (not (pending families plays.entry.ret)) (stepped families x t plays.entry) ≡ true

  taken : (x : Node families) (t : ℕ) (ws : List ℕ) (go : Bool → Node families → Bool) → placed x t ws (next rows x.progress t) go ≡ true
      → Taken x t ws go
  taken x t ws go e = of_next (next rows x.progress t) refl e
    where
      of_next : (v : Option (Entry families)) → next rows x.progress t ≡ v → placed x t ws v go ≡ true → Taken x t ws go
      of_next none n e = not_both refl (sym e)
      of_next (some f) n e =
          let m = met f.needs x.progress in
          let g = told (gives families x.object f.op f.ret) ws in
          let a = pick_right m _ e in
          let r = told_return _ ws (pick_left g _ a) in
          record {
            ret = r.0;
            plays = record { entry = f; is_next = n; is_met = pick_left m _ e; is_given = r.1 };
            words = r.2;
            onward = pick_right g _ a;
          }

  -- the replay does not go on once every completed operation is placed

  closed : (x : Node families) (ws : List ℕ) → all_placed families rows x.progress ≡ true → replays rows false x ws ≡ true → ⊥
  unfolding replays
  closed x [] h e = not_both refl (sym e)
  closed x (t ∷ []) h e = not_both refl (sym e)
  closed x (t ∷ n ∷ []) h e = not_both refl (sym e)
  closed x (t ∷ n ∷ c ∷ []) h e = not_both refl (sym e)
  closed x (t ∷ n ∷ c ∷ v ∷ ws) h e =
      let k = taken x t (n ∷ c ∷ v ∷ []) (λ b y. replays rows b y ws) e in
      let f = k.plays.entry in
      let z : replays rows false (stepped families x t f) ws ≡ true = rw (next_pending rows x.progress t f k.plays.is_next h) at k.onward in
      closed (stepped families x t f) ws (placed_on families rows x.progress t h) z

  -- from words to an order

  abbrev Ordered : Node families → List ℕ → Type 0
  Ordered x ws = (p : Order families) × (order_words p ≡ ws) × Replays families rows x p × Tight families rows x.progress p

  pub words_order : (b : Bool) (x : Node families) (ws : List ℕ) → replays rows b x ws ≡ true → Ordered x ws
  unfolding replays
  words_order b x [] e = ([], refl, ended (pick_right b _ e), tt)
  words_order b x (t ∷ []) e = not_both refl (sym e)
  words_order b x (t ∷ n ∷ []) e = not_both refl (sym e)
  words_order b x (t ∷ n ∷ c ∷ []) e = not_both refl (sym e)
  words_order b x (t ∷ n ∷ c ∷ v ∷ ws) e =
      let k = taken x t (n ∷ c ∷ v ∷ []) (λ b y. replays rows b y ws) e in
      let f = k.plays.entry in
      let y = stepped families x t f in
      let r = words_order (not (pending families f.ret)) y ws k.onward in
      let open_yet : all_placed families rows x.progress ≡ false
      = not_true (λ a.
      let z : replays rows false y ws ≡ true = rw (next_pending rows x.progress t f k.plays.is_next a) at k.onward in
      closed y ws (placed_on families rows x.progress t a) z) in
      (record { thread = t; ret = k.ret } ∷ r.0, rw (k.words, r.1), played k.plays r.2, (open_yet, r.3))

  -- and back

  none_left : {x : Node families} {p : Order families} → Replays families rows x p → p ≡ [] → all_placed families rows x.progress ≡ true
  none_left (ended h) e = h
  none_left (played h w) e = absurd (let z : ◌≡◌ {A = ℕ} 0 1 = cc in omega arith)

  completed_of : (b : Bool) → (b ≡ true → ⊥) → not b ≡ true
  completed_of true f = absurd (f refl)
  completed_of false f = refl

  pub order_words_lem : {x : Node families} {p : Order families} (b : Bool) → Replays families rows x p → Tight families rows x.progress p
      → (p ≡ [] → b ≡ true) → replays rows b x (order_words p) ≡ true
  unfolding replays
  order_words_lem b (ended h) w l = rw (l refl) h
  order_words_lem {x} b (played {t = t} {r = r} {p = p} h o) w l =
      let k = three r in
      let f = h.entry in
      let done : p ≡ [] → not (pending families f.ret) ≡ true
      = λ e. completed_of (pending families f.ret) (λ g.
      not_both (placed_back families rows x.progress t f h.is_next g (none_left o e)) w.0) in
      let rest = order_words_lem (not (pending families f.ret)) o w.1 done in
      let said : same_words (words_of r) (k.number ∷ k.count ∷ k.word ∷ []) ≡ true = rw (sym k.all) (words_self (words_of r)) in
      rw (k.all, h.is_next, h.is_met, h.is_given, said) rest
