-- Fed from fresh, whatever the inputs: the rows are those of the recorded events, validity is off exactly if some input drew 4 or 5, and len counts
-- the invocations recorded.
use Rattle.std.specs.Prelude.{ℕ, ◌+◌, ◌<◌, ◌≡◌, ◌↔◌, Bool, true, false, cond, ◌||◌, ◌&&◌, not, [], ◌∷◌, length, replicate, is_ok}
use Rattle.std.proofs.Math.Path.{refl, ap}
use Rattle.std.proofs.Common.{sym, ◌∙◌, subst, arith, Result, Ok, Err}
use Rattle.history.specs.Lists.{not_both}
use Rattle.history.specs.Events.{Events, invoked, returned}
use Rattle.history.specs.Rows.{Rows, operations}
use Rattle.history.specs.Recorder.{Feeds, fed, invokes, gives_back, Fed}
use Rattle.values.specs.Sizes.{threads}
use Rattle.values.specs.Value.{pick}
use Rattle.families.specs.Families.{families}
use Rattle.families.specs.declared.Object.{Object}
use Rattle.families.specs.declared.Op.{Op}
use Rattle.families.specs.declared.Ret.{Ret}
use Rattle.stepping.specs.declared.histories.History.{History}
use Rattle.stepping.specs.declared.recorded.Reason.{Reason}
use Rattle.stepping.specs.Record.{fresh}
use Rattle.stepping.specs.EventSteps.{breaks, size_of}
use Rattle.recording_meaning.specs.Reading.{rows_of}
use Rattle.recording_meaning.specs.Shaping.{rows_count}
use Rattle.recording_meaning.specs.Beginning.{start_of, begun_is, fresh_rows}
use Rattle.recording_meaning.specs.Rowing.{rows_many}
use Rattle.recording_meaning.specs.Cases.{Barred, barred_keeps}
use Rattle.recording_meaning.specs.Models.{Model, tester_rows}
use Rattle.recording_meaning.specs.Lawful.{Lawful}
use Rattle.recording_meaning.specs.EventTurns.{
  Good,
  good_shaped,
  InvokeTurn,
  invoke_refused,
  second,
  no_room,
  invoke_taken,
  ReturnTurn,
  return_refused,
  stray,
  return_taken,
  invoke_turn,
  return_turn,
}
use Rattle.recording_meaning.specs.Reaching.{good_new, good_invoke, good_return, good_invret}
use Rattle.recording_meaning.specs.Inputs.{Input, invoke, return, invret, Inputs, broke, broken, invocations_in, give, feed, drawn, takes, taken}
use Rattle.recording_meaning.specs.InputLaws.{invocations_both}
use Rattle.recording_meaning.specs.TesterFeeding.{Step}
use Rattle.values.specs.declared.refusal.Refusal.{Refusal}

module _ (M : Model) (L : Lawful M) where
  still : (a : Bool) → a ≡ a && not false
  still true = refl
  still false = refl

  -- rows that stay
  stays : {s next : M.Tester} {turned : Bool} → tester_rows M next ≡ tester_rows M s → (M.history next).valid ≡ (M.history s).valid && not turned
      → (M.history next).count ≡ (M.history s).count → (M.history next).start ≡ (M.history s).start → Step M L s [] turned next
  stays w b c o = record {
    reads = λ {end} {K} f. subst (λ (rows : Rows families). Feeds families M.keep rows K end) w f;
    valid = b;
    count = c ∙ omega arith;
    start = o;
  }

  step_refused : {s : M.Tester} {t : ℕ} {said : Result Unit Refusal} {r : Reason} → Barred (M.history s) t said r → Step M L s [] (breaks r) s
  step_refused {s} w = stays refl (rw (barred_keeps w) (still (M.history s).valid)) refl refl

  in_rows : (s : M.Tester) (t : ℕ) → t < threads → t < length (tester_rows M s)
  in_rows s t l = rw (rows_many (M.needs s) (M.history s)) l

  step_invoke : {s next : M.Tester} {t : ℕ} {op : Op} {r : Result Unit Reason} → InvokeTurn M s t op r next
      → Step M L s (cond (is_ok r) (invoked t op ∷ []) []) (broke r) next
  unfolding breaks
  step_invoke (invoke_refused w) = step_refused w
  step_invoke (second a b h w) =
      stays w (ap (λ (x : History). x.valid) h ∙ rw a.valid) (ap (λ (x : History). x.count) h) (ap (λ (x : History). x.start) h)
  step_invoke (no_room a b c) = stays refl (rw a.valid) refl refl
  step_invoke {s} {next} {t} {op} (invoke_taken a b c h w) = record {
    reads = λ {end} {K} f. invokes (in_rows s t a.known) b (subst (λ (rows : Rows families). Feeds families M.keep rows K end) w f);
    valid = ap (λ (x : History). x.valid) h ∙ rw a.valid;
    count = ap (λ (x : History). x.count) h;
    start = ap (λ (x : History). x.start) h;
  }

  step_return : {s next : M.Tester} {t : ℕ} {ret : Ret} {r : Result Unit Reason} → ReturnTurn M s t ret r next
      → Step M L s (cond (is_ok r) (returned t ret ∷ []) []) (broke r) next
  unfolding breaks
  step_return (return_refused w) = step_refused w
  step_return (stray a b h w) =
      stays w (ap (λ (x : History). x.valid) h ∙ rw a.valid) (ap (λ (x : History). x.count) h) (ap (λ (x : History). x.start) h)
  step_return {s} {next} {t} {ret} (return_taken i a b h w) = record {
    reads = λ {end} {K} f. gives_back (in_rows s t a.known) b (subst (λ (rows : Rows families). Feeds families M.keep rows K end) w f);
    valid = ap (λ (x : History). x.valid) h ∙ rw a.valid;
    count = ap (λ (x : History). x.count) h ∙ omega arith;
    start = ap (λ (x : History). x.start) h;
  }

  -- an invocation that is taken, and then what the return does
  step_both : {s mid next : M.Tester} {t : ℕ} {op : Op} {H : Events families} {turned : Bool} → Step M L s (invoked t op ∷ []) false mid
      → Step M L mid H turned next → Step M L s (invoked t op ∷ H) turned next
  step_both {s} {turned = turned} a b = record {
    reads = λ f. a.reads (b.reads f);
    valid = b.valid ∙ ap (λ (v : Bool). v && not turned) (a.valid ∙ sym (still (M.history s).valid));
    count = omega (arith, a.count, b.count);
    start = b.start ∙ a.start;
  }

  taken_keeps : (r : Result Unit Reason) → is_ok r ≡ true → broke r ≡ false
  taken_keeps (Ok tt) e = refl
  taken_keeps (Err r) e = not_both e refl

  module _ (s : M.Tester) (g : Good M L s) (t : ℕ) (op : Op) (ret : Ret) where
    step_invret : Step M L s (takes M s (invret t op ret)) (broke (M.on_invret s t op ret).0) (M.on_invret s t op ret).1
    step_invret =
        subst
        (λ (a : Result Unit Reason × M.Tester). Step M L s (cond (is_ok first.0) (invoked t op ∷ cond (is_ok a.0) (returned t ret ∷ []) []) []) (broke a.0) a.1)
        (sym (L.invrets s t op ret)) (go (is_ok first.0) refl)
      where
        first : Result Unit Reason × M.Tester
        first = M.on_invoke s t op

        begin : Step M L s (cond (is_ok first.0) (invoked t op ∷ []) []) (broke first.0) first.1
        begin = step_invoke (invoke_turn M L s g t op)

        go : (b : Bool) → is_ok first.0 ≡ b → (let a = pick b (M.on_return first.1 t ret) first in
            Step M L s (cond b (invoked t op ∷ cond (is_ok a.0) (returned t ret ∷ []) []) []) (broke a.0) a.1)
        go true e =
            step_both (rw (e, taken_keeps first.0 e) at begin) (step_return (return_turn M L first.1 (good_invoke M L s g t op) t ret))
        go false e = rw e at begin

  pub step_of : (s : M.Tester) → Good M L s → (v : Input) → Step M L s (takes M s v) (broke (give M s v).0) (give M s v).1
  step_of s g (invoke t op) = step_invoke (invoke_turn M L s g t op)
  step_of s g (return t ret) = step_return (return_turn M L s g t ret)
  step_of s g (invret t op ret) = step_invret s g t op ret

  pub good_give : (s : M.Tester) → Good M L s → (v : Input) → Good M L (give M s v).1
  good_give s g (invoke t op) = good_invoke M L s g t op
  good_give s g (return t ret) = good_return M L s g t ret
  good_give s g (invret t op ret) = good_invret M L s g t op ret

  pub good_feed : (l : Inputs) (s : M.Tester) → Good M L s → Good M L (feed M s l)
  good_feed [] s g = g
  good_feed (v ∷ l) s g = good_feed l (give M s v).1 (good_give s g v)

  -- along the inputs

  feed_reads : (l : Inputs) (s : M.Tester) → Good M L s → Feeds families M.keep (tester_rows M s) (taken M s l) (tester_rows M (feed M s l))
  feed_reads [] s g = fed
  feed_reads (v ∷ l) s g = (step_of s g v).reads (feed_reads l (give M s v).1 (good_give s g v))

  off : (a b c : Bool) → (a && not b) && not c ≡ a && not (b || c)
  off true true c = refl
  off true false c = refl
  off false b c = refl

  feed_valid : (l : Inputs) (s : M.Tester) → Good M L s → (M.history (feed M s l)).valid ≡ (M.history s).valid && not (broken (drawn M s l))
  feed_valid [] s g = still (M.history s).valid
  feed_valid (v ∷ l) s g =
      feed_valid l (give M s v).1 (good_give s g v)
      ∙ ap (λ (b : Bool). b && not (broken (drawn M (give M s v).1 l))) (step_of s g v).valid
      ∙ off (M.history s).valid (broke (give M s v).0) (broken (drawn M (give M s v).1 l))

  feed_count : (l : Inputs) (s : M.Tester) → Good M L s → (M.history (feed M s l)).count ≡ (M.history s).count + invocations_in (taken M s l)
  feed_count [] s g = omega arith
  feed_count (v ∷ l) s g =
      let next = (give M s v).1 in
      omega (arith, feed_count l next (good_give s g v), (step_of s g v).count, invocations_both (takes M s v) (taken M next l))

  -- A tester in shape has the len that it counts, which is that of its rows.

  len_count : (s : M.Tester) → Good M L s → M.len s ≡ (M.history s).count
  unfolding size_of
  len_count s g = L.size s ∙ rw (good_shaped M L s g)

  pub len_operations : (s : M.Tester) → Good M L s → M.len s ≡ operations families (tester_rows M s)
  len_operations s g = len_count s g ∙ sym (rows_count (M.needs s) (M.history s) g.parts g.sized)

  -- a fresh tester

  new_history : (start : Object) → M.history (M.new start) ≡ fresh (start_of start)
  new_history start = (L.begins start).0 ∙ begun_is start

  pub new_rows : (start : Object) → tester_rows M (M.new start) ≡ replicate threads []
  new_rows start = ap (rows_of (M.needs (M.new start))) (new_history start) ∙ fresh_rows (M.needs (M.new start)) (start_of start)

  pub new_valid : (start : Object) → (M.history (M.new start)).valid ≡ true
  unfolding fresh
  new_valid start = ap (λ (h : History). h.valid) (new_history start)

  pub new_count : (start : Object) → (M.history (M.new start)).count ≡ 0
  unfolding fresh
  new_count start = ap (λ (h : History). h.count) (new_history start)

  module _ (start : Object) (l : Inputs) where
    -- The rows are those of the recorded events.
    pub fed_rows : Fed families M.keep threads (taken M (M.new start) l) (tester_rows M (feed M (M.new start) l))
    fed_rows = record {
      from_fresh = subst (λ (rows : Rows families). Feeds families M.keep rows (taken M (M.new start) l) (tester_rows M (feed M (M.new start) l)))
          (new_rows start) (feed_reads l (M.new start) (good_new M L start));
    }

    -- Validity is off exactly if some input drew 4 or 5 at its turn.
    pub invalid_exactly : (M.history (feed M (M.new start) l)).valid ≡ false ↔ broken (drawn M (M.new start) l) ≡ true
    invalid_exactly =
        let e = feed_valid l (M.new start) (good_new M L start) ∙ ap (λ (b : Bool). b && not (broken (drawn M (M.new start) l))) (new_valid start) in
        (λ h. turned (broken (drawn M (M.new start) l)) (sym e ∙ h), λ h. e ∙ ap not h)
      where
        turned : (b : Bool) → not b ≡ false → b ≡ true
        turned true h = refl
        turned false h = not_both refl h

    -- len counts the invocations recorded.
    pub len_invocations : M.len (feed M (M.new start) l) ≡ invocations_in (taken M (M.new start) l)
    len_invocations =
        let g = good_new M L start in
        len_count (feed M (M.new start) l) (good_feed l (M.new start) g)
        ∙ feed_count l (M.new start) g
        ∙ rw (new_count start) (omega arith)
