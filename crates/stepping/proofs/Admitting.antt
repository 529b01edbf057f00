-- The code's steps of an event come to what the definitions say.
use Rattle.std.specs.Prelude.{ℕ, ◌<◌, ◌≡◌, Bool, List, ltb, get_or, is_ok}
use Rattle.std.proofs.Math.Path.{refl, sym}
use Rattle.std.proofs.Common.{ap, ◌∙◌, Option, Some, None, Result, Ok, Err}
use Rattle.std.proofs.Math.Bool.{true, false}
use borrow.Author.Tests.{ltb-true}
use Rattle.values.specs.Value.{pick}
use Rattle.values.specs.Sizes.{threads, capacity}
use Rattle.families.specs.Refusals.{op_belongs, ret_belongs}
use Rattle.families.specs.declared.event.Event.{Event}
use Rattle.families.specs.declared.event.Event.TheVariants.{Invoked, Returned}
use Rattle.stepping.specs.declared.histories.History.{History}
use Rattle.stepping.specs.declared.recorded.Reason.TheVariants.{AlreadyInvalid, NoSuchThread, OutOfShape}
use Rattle.stepping.specs.declared.step.Step.{Step}
use Rattle.stepping.specs.declared.step.Change.{Change}
use Rattle.stepping.specs.Record.{operation_at, extended, completed, find_flying}
use Rattle.stepping.specs.Shape.{kind_of, shaped_with}
use Rattle.stepping.specs.EventSteps.{breaks, valid_after, unless, step, refuse, owned, invoke_by, invoke_of, return_by, return_of, size_of}
use Rattle.stepping.specs.StepChecks.{Known, place_in, place_at, checked_of, admit_by, admit_of, invoke_go, invoke_check, return_go, return_check}
use Rattle.stepping.specs.OneStep.{event_of, thread_of, comes_to, place_for, change_of, changed, change_at, change_invoked, change_returned}
use Rattle.stepping.specs.RecordLaws.{never}
use Rattle.stepping.specs.HeldPlaces.{place_small, done_small}
use Rattle.stepping.specs.Admitting.{Fits}
use Rattle.values.specs.declared.refusal.Refusal.{Refusal}
use Rattle.stepping.specs.declared.recorded.Reason.{Reason}

-- what the code hands back for what an event came to: the history as it is after the event, or as it came but for its validity
abbrev outcome : History → Result Unit Reason → History → Step
outcome h r after =
    pick (is_ok r) (step r after) (step r (record {
      start = h.start;
      ops = h.ops;
      count = h.count;
      done = h.done;
      valid = valid_after
          h.valid r;
    }))

outcome_taken : (h : History) (r : Result Unit Reason) (after : History) → is_ok r ≡ true → step r after ≡ outcome h r after
outcome_taken h r after k = rw k refl

outcome_refused : (h : History) (r : Result Unit Reason) (after : History) (v : Bool) → v ≡ valid_after h.valid r → is_ok r ≡ false
    → step r (record { start = h.start; ops = h.ops; count = h.count; done = h.done; valid = v }) ≡ outcome h r after
outcome_refused h r after v e k = rw (k, e) refl

-- the first refusals by their tests
abbrev chain : Bool → Bool → Bool → Result Unit Refusal → History → Step → Step
chain a b c d h next = unless a (refuse OutOfShape h) (unless b (refuse AlreadyInvalid h) (unless c (refuse NoSuchThread h) (owned d h next)))

-- an event whose second reason is looked at where the first let it pass
by_turns : (a b c : Bool) (d : Result Unit Refusal) (h : History) (second : Result Unit Reason) (after : History) (next : Step)
    → (is_ok (admit_by a b c d) ≡ true → outcome h second after ≡ next)
    → outcome h (pick (is_ok (admit_by a b c d)) second (admit_by a b c d)) after ≡ chain a b c d h next
unfolding admit_by checked_of valid_after breaks
by_turns false b c d h second after next e = refl
by_turns true false c d h second after next e = refl
by_turns true true false d h second after next e = refl
by_turns true true true (Err r) h second after next e = refl
by_turns true true true (Ok tt) h second after next e = e refl

-- what was let pass is in shape, and of one of the threads

let_pass : (a b c : Bool) (d : Result Unit Refusal) → is_ok (admit_by a b c d) ≡ true → (a ≡ true) × (c ≡ true)
unfolding admit_by checked_of
let_pass false b c d z = never z
let_pass true false c d z = never z
let_pass true true false d z = never z
let_pass true true true (Err r) z = never z
let_pass true true true (Ok tt) z = (refl, refl)

both_taken : (first second : Result Unit Reason) → is_ok (pick (is_ok first) second first) ≡ true → (is_ok first ≡ true) × (is_ok second ≡ true)
both_taken first second k = go (is_ok first) refl
  where
    go : (b : Bool) → is_ok first ≡ b → (is_ok first ≡ true) × (is_ok second ≡ true)
    go true e = (e, rw e at k)
    go false e = never (sym e ∙ rw e at k)

-- An event by its parts: what the object says of it, its second reason, and what it comes to and leaves where that is in flight.

abbrev own_of : History → Event → Result Unit Refusal
own_of h (Invoked t op) = op_belongs (kind_of h) op
own_of h (Returned t ret) = ret_belongs (kind_of h) ret

abbrev second_of : Event → Option ℕ → Bool → Result Unit Reason
second_of (Invoked t op) q room = invoke_go q room
second_of (Returned t ret) q room = return_go q

abbrev step_by : Event → Option ℕ → History → Step
step_by (Invoked t op) q h = invoke_by q h t op
step_by (Returned t ret) q h = return_by q h t ret

abbrev after : Event → Option ℕ → History → History
after (Invoked t op) q h = extended h t op
after (Returned t ret) q h = completed h (place_at q) t ret

second_step : (v : Event) (q : Option ℕ) (h : History) (m : Bool) → ltb h.count capacity ≡ m → outcome h (second_of v q m) (after v q h) ≡ step_by v q h
unfolding valid_after breaks place_at
second_step (Invoked t op) (Some i) h m e = refl
second_step (Invoked t op) None h true e = rw e refl
second_step (Invoked t op) None h false e = rw e refl
second_step (Returned t ret) (Some i) h m e = refl
second_step (Returned t ret) None h m e = refl

-- An event, for what the code has in hand: what the pass found, and what the event came to.
module _ (noted : Bool) (h : History) (ok : Bool) (flying : List (Option ℕ)) (L : Known (shaped_with noted h) h ok flying) where
  abbrev place : Event → ℕ
  place v = place_for v flying h.count

  -- where the marks say that the thread has its operation in flight
  abbrev marked : Event → Option ℕ
  marked v = place_in flying (thread_of v)

  abbrev first : Event → Result Unit Reason
  first v = admit_by (shaped_with noted h) h.valid (ltb (thread_of v) threads) (own_of h v)

  abbrev second : Event → Result Unit Reason
  second v = second_of v (marked v) (ltb h.count capacity)

  comes_by_lem : (v : Event) → comes_to (shaped_with noted h) h.valid (kind_of h) flying h.count v ≡ pick (is_ok (first v)) (second v) (first v)
  unfolding comes_to thread_of admit_of invoke_check return_check
  comes_by_lem (Invoked t op) = refl
  comes_by_lem (Returned t ret) = refl

  event_by : (v : Event) → chain (shaped_with noted h) h.valid (ltb (thread_of v) threads) (own_of h v) h (step_by v (find_flying (thread_of v) h) h)
      ≡ event_of (shaped_with noted h) h v
  unfolding thread_of invoke_of return_of
  event_by (Invoked t op) = refl
  event_by (Returned t ret) = refl

  fits_by : (v : Event) → shaped_with noted h ≡ true → thread_of v < threads → marked v ≡ find_flying (thread_of v) h → is_ok (second v) ≡ true
      → Fits h v (place v)
  unfolding thread_of place_for place_at
  fits_by (Invoked t op) s l p k =
      let y = go (place_in flying t) (ltb h.count capacity) k in
      record { known = l; room = ltb-true _ _ y.0; few = done_small noted h s t l; found = sym p ∙ y.1 }
    where
      go : (q : Option ℕ) (m : Bool) → is_ok (invoke_go q m) ≡ true → (m ≡ true) × (q ≡ None)
      go (Some i) m z = never z
      go None true z = (refl, refl)
      go None false z = never z
  fits_by (Returned t ret) s l p k =
      let y = sym p ∙ go (place_in flying t) k in
      record { known = l; room = place_small noted h s t _ y; few = done_small noted h s t l; found = y }
    where
      go : (q : Option ℕ) → is_ok (return_go q) ≡ true → q ≡ Some (place_at q)
      go (Some i) z = refl
      go None z = never z

  changes : (v : Event) → Fits h v (place v) → changed h (place v) (thread_of v) (change_at h v (place v)) ≡ after v (marked v) h
  unfolding thread_of place_for
  changes (Invoked t op) w = change_invoked h t op w.known w.room
  changes (Returned t ret) w = change_returned h (place_at (place_in flying t)) t ret w.few

  module _ (v : Event) (r : Result Unit Reason) (e : r ≡ comes_to ok h.valid (kind_of h) flying h.count v) where
    -- what was let pass is in shape and of one of the threads, and its place is where the marks say
    let_in : is_ok (first v) ≡ true
        → (shaped_with noted h ≡ true) × ((thread_of v < threads) × (marked v ≡ find_flying (thread_of v) h))
    unfolding place_in
    let_in k =
        let w = let_pass (shaped_with noted h) h.valid (ltb (thread_of v) threads) (own_of h v) k in
        let l = ltb-true (thread_of v) threads w.1 in
        (w.0, (l, rw w.1 (L.places w.0 (thread_of v) l)))

    came : r ≡ pick (is_ok (first v)) (second v) (first v)
    came = e ∙ ap (λ (s : Bool). comes_to s h.valid (kind_of h) flying h.count v) L.ok_is ∙ comes_by_lem v

    told : outcome h r (after v (marked v) h) ≡ event_of (shaped_with noted h) h v
    told =
        ap (λ (r : Result Unit Reason). outcome h r (after v (marked v) h)) came
        ∙ by_turns (shaped_with noted h) h.valid (ltb (thread_of v) threads) (own_of h v) h (second v)
        (after v (marked v) h) (step_by v (find_flying (thread_of v) h) h)
        (λ k. second_step v (marked v) h (ltb h.count capacity) refl ∙ ap (λ (q : Option ℕ). step_by v q h) (let_in k).1.1)
        ∙ event_by v

    pub event_fits : is_ok r ≡ true → Fits h v (place_for v flying h.count)
    event_fits k =
        let b = both_taken (first v) (second v) (sym (ap is_ok came) ∙ k) in
        let w = let_in b.0 in
        fits_by v w.0 w.1.0 w.1.1 b.1

    pub event_taken : is_ok r ≡ true → (i t : ℕ) (c : Change) → i ≡ place_for v flying h.count → t ≡ thread_of v
        → c ≡ change_of v (operation_at h i) i h.count (get_or h.done t 0) → step r (changed h i t c) ≡ event_of (shaped_with noted h) h v
    event_taken k i t c p q z =
        rw (z, p, q)
        (ap (step r) (changes v (event_fits k)) ∙ outcome_taken h r (after v (marked v) h) k ∙ told)

    pub event_refused : is_ok r ≡ false → (b : Bool) → b ≡ valid_after h.valid r
        → step r (record { start = h.start; ops = h.ops; count = h.count; done = h.done; valid = b }) ≡ event_of (shaped_with noted h) h v
    event_refused k b q = outcome_refused h r (after v (marked v) h) b q k ∙ told

-- the size

pub size_yes : (shaped : Bool) (h : History) → shaped ≡ true → h.count ≡ size_of shaped h
unfolding size_of
size_yes shaped h e = rw e refl

pub size_no : (shaped : Bool) (h : History) → shaped ≡ false → ◌≡◌ {A = ℕ} 0 (size_of shaped h)
unfolding size_of
size_no shaped h e = rw e refl

-- a record out of shape

pub event_out : (shaped : Bool) (h : History) (v : Event) → false ≡ shaped → step (Err OutOfShape) h ≡ event_of shaped h v
unfolding invoke_of return_of
event_out shaped h (Invoked t op) e = rw (sym e) refl
event_out shaped h (Returned t ret) e = rw (sym e) refl
