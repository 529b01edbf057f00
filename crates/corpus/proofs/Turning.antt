-- What the next event comes to, by the ways in which it can go.
use Rattle.std.proofs.Common.{ℕ, ◌-◌, Result, length, take, drop, ◌≡◌, refl, sym, ap, ◌∙◌, ◌≢◌, Bool, true, false, List, Option, Err, eq-eqb, ne_eqb, eqb-true}
use Rattle.std.proofs.lemmas.Bool.{eqb-false}
use Rattle.std.proofs.Math.Dec.{eqb}
use Rattle.history.specs.Events.{Event, invoked, returned}
use Rattle.values.specs.Value.{pick}
use Rattle.families.specs.Families.{families}
use Rattle.families.specs.declared.Kind.{Kind}
use Rattle.families.specs.declared.event.Event.{Event as CEvent}
use Rattle.families.specs.declared.event.Event.TheVariants.{Invoked, Returned}
use Rattle.stepping.specs.EventSteps.{number_of as recorded_number, valid_after}
use Rattle.stepping.specs.OneStep.{place_for}
use Rattle.corpus.specs.declared.turns.Stopped.{Stopped}
use Rattle.corpus.specs.declared.turns.Taken.{Taken}
use Rattle.numbers.specs.declared.refusal.Refusal.{Refusal}
use Rattle.numbers.specs.FileRefusals.{number_of}
use Rattle.numbers.specs.Reader.{Read, got, refused}
use Rattle.numbers.specs.declared.Got.{Got}
use Rattle.format.specs.Fields.{tail}
use Rattle.format.specs.Format.{event}
use Rattle.format.specs.ReadAnswers.{said, heard, as_event}
use Rattle.corpus.specs.LoaderTurns.{comes_by, stopped_with, taken_at, refused_by, unreadable, turn_by, turn_of}
use Rattle.stepping.specs.declared.recorded.Reason.{Reason}

-- an event as the code has it and as the file says it

pub said_heard : (v : CEvent) → said (heard v) ≡ v
said_heard (Invoked t op) = refl
said_heard (Returned t ret) = refl

heard_said : (v : Event families) → heard (said v) ≡ v
heard_said (invoked t op) = refl
heard_said (returned t ret) = refl

-- what the reader says of the rest of a file
pub read_rest : (k : Kind) (s : List ℕ) (at : ℕ) {r : Result (Got CEvent) Refusal} → r ≡ as_event (event k (take (length s - at) (drop at s)))
    → r ≡ as_event (event k (drop at s))
read_rest k s at e = e ∙ ap (λ (l : List ℕ). as_event (event k l)) (tail s at)

-- what an answer says

stopped_same : {n m : ℕ} {b c : Bool} → stopped_with n b ≡ stopped_with m c → (n ≡ m) × (b ≡ c)
stopped_same {n} {m} {b} {c} e =
    let s : ◌≡◌ {A = Stopped} (record { number = n; valid = b }) (record { number = m; valid = c }) = cc in
    (ap (λ (s : Stopped). s.number) s, ap (λ (s : Stopped). s.valid) s)

taken_same : {v w : CEvent} {i j m n : ℕ} → taken_at v i m ≡ taken_at w j n → (v ≡ w) × (i ≡ j) × (m ≡ n)
taken_same {v} {w} {i} {j} {m} {n} e =
    let t : ◌≡◌ {A = Taken} (record { event = v; place = i; used = m }) (record { event = w; place = j; used = n }) = cc in
    (ap (λ (t : Taken). t.event) t, ap (λ (t : Taken). t.place) t, ap (λ (t : Taken). t.used) t)

module _ (flying : List (Option ℕ)) (k : Kind) (count : ℕ) where
  -- forward, for the code that works it out

  pub turn_unread : (x : Read (Event families)) (why : Refusal) → x ≡ refused why → turn_of flying k count x ≡ Err (unreadable why)
  unfolding turn_of
  turn_unread x why e = rw e refl

  module _ (x : Read (Event families)) (v : CEvent) (used : ℕ) (e : x ≡ got (heard v) used) (r : Result Unit Reason) (c : r ≡ comes_by flying k count v)
      (n : ℕ) (z : n ≡ recorded_number r) where
    turned : turn_by flying k count v used ≡ turn_of flying k count x
    unfolding turn_of
    turned = rw e (ap (λ (v : CEvent). turn_by flying k count v used) (sym (said_heard v)))

    pub turn_refused : n ≢ 0 → (b : Bool) → b ≡ valid_after true r → stopped_with n b ≡ turn_of flying k count x
    turn_refused d b q =
        let g : recorded_number (comes_by flying k count v) ≢ 0 = λ y. d (z ∙ ap recorded_number c ∙ y) in
        rw (q, z, c) (sym (ap (λ (b : Bool). pick b (taken_at v (place_for v flying count) used) (refused_by (comes_by flying k count v))) (ne_eqb _ _ g)) ∙ turned)

    pub turn_taken : n ≡ 0 → (i : ℕ) → i ≡ place_for v flying count → taken_at v i used ≡ turn_of flying k count x
    turn_taken d i q =
        let g : recorded_number (comes_by flying k count v) ≡ 0 = sym (z ∙ ap recorded_number c) ∙ d in
        rw q (sym (ap (λ (b : Bool). pick b (taken_at v (place_for v flying count) used) (refused_by (comes_by flying k count v))) (eq-eqb _ _ g)) ∙ turned)

  -- backward, for the code that acts on it

  -- the event v is read, in so many bytes, and taken, with its operation at place i
  pub record Taking (x : Read (Event families)) (v : CEvent) (i used : ℕ) : Type 0 where
    pub read : x ≡ got (heard v) used
    pub drawn : recorded_number (comes_by flying k count v) ≡ 0
    pub placed : i ≡ place_for v flying count

  -- loading stops: an event that can't be read, or one that recording refuses
  pub data Stopping (x : Read (Event families)) (n : ℕ) (b : Bool) : Type 0 where
    unread : (why : Refusal) → x ≡ refused why → n ≡ number_of why → b ≡ true → Stopping x n b
    unrecorded : (v : CEvent) (used : ℕ) → x ≡ got (heard v) used → recorded_number (comes_by flying k count v) ≢ 0
        → n ≡ recorded_number (comes_by flying k count v) → b ≡ valid_after true (comes_by flying k count v) → Stopping x n b

  pub stops : (x : Read (Event families)) {n : ℕ} {b : Bool} → stopped_with n b ≡ turn_of flying k count x → Stopping x n b
  unfolding turn_of
  stops (refused why) {n} {b} e =
      let z = stopped_same e in
      unread why refl z.0 z.1
  stops (got w used) {n} {b} e = go (said w) (ap (λ (w : Event families). got w used) (sym (heard_said w))) (eqb (recorded_number (comes_by flying k count (said w))) 0) refl e
    where
      go : (v : CEvent) → got w used ≡ got (heard v) used → (t : Bool) → eqb (recorded_number (comes_by flying k count v)) 0 ≡ t
          → stopped_with n b ≡ pick t (taken_at v (place_for v flying count) used) (refused_by (comes_by flying k count v)) → Stopping (got w used) n b
      go v y true q e = cc
      go v y false q e =
          let z = stopped_same e in
          unrecorded v used y (eqb-false _ _ q) z.0 z.1

  pub takes : (x : Read (Event families)) {v : CEvent} {i used : ℕ} → taken_at v i used ≡ turn_of flying k count x → Taking x v i used
  unfolding turn_of
  takes (refused why) e = cc
  takes (got w m) {v} {i} {used} e = go (said w) (ap (λ (w : Event families). got w m) (sym (heard_said w))) (eqb (recorded_number (comes_by flying k count (said w))) 0) refl e
    where
      go : (u : CEvent) → got w m ≡ got (heard u) m → (t : Bool) → eqb (recorded_number (comes_by flying k count u)) 0 ≡ t
          → taken_at v i used ≡ pick t (taken_at u (place_for u flying count) m) (refused_by (comes_by flying k count u)) → Taking (got w m) v i used
      go u y true q e =
          let z = taken_same (sym e) in
          record { read = y ∙ rw (z.0, z.2) refl; drawn = eqb-true _ _ (rw z.0 at q); placed = rw z.0 at (sym z.1) }
      go u y false q e = cc
