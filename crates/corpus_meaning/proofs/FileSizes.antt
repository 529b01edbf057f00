-- 20 and 21 exactly: "a corpus file is at most 65,536 bytes", and "a file opens with the four bytes 52 41 57 31", whatever else it holds; 20 before 21.
use Rattle.std.specs.Prelude.{ℕ, ◌<◌, ◌≤◌, ◌≡◌, refl, ◌↔◌, ◌⊎◌, Bool, true, false, List, ltb, length, take, drop}
use Rattle.std.proofs.Common.{sym, ap, ◌∙◌, inl, inr, ⊎_elim, arith, lt-ltb, le-ltb, ltb-true, ltb-false, Result, Ok, Err}
use Rattle.history.specs.Lists.{not_both}
use Rattle.values.specs.Checks.{number_of as refusal_number}
use Rattle.values.specs.declared.refusal.Refusal.{Refusal as ObjectRefusal}
use Rattle.values.specs.declared.refusal.Refusal.TheVariants.{OtherFamily, NoRoom, StartTooDeep as TooDeep, OutOfShape as ShapeLost}
use Rattle.families.specs.declared.Object.{Object}
use Rattle.stepping.specs.declared.recorded.Reason.TheVariants.{AlreadyInvalid, NoSuchThread, NotOwn, InFlight, NothingInFlight, Full, OutOfShape}
use Rattle.stepping.specs.EventSteps.{reason_number, number_of as recorded_number}
use Rattle.recording_meaning.specs.Models.{Model}
use Rattle.numbers.specs.declared.refusal.Refusal.{Refusal}
use Rattle.numbers.specs.declared.refusal.Refusal.TheVariants.{TooLong, Unopened, Cut, TooBig, Unknown, StartTooDeep}
use Rattle.numbers.specs.FileRefusals.{number_of}
use Rattle.numbers.specs.Reader.{Read, got, refused, from}
use Rattle.format.specs.Format.{start, opening, same_bytes, opens, header}
use Rattle.format.specs.SameBytes.{same_true}
use Rattle.format.specs.Taking.{OfField}
use Rattle.format.specs.Lengths.{event_built, start_built}
use Rattle.corpus.specs.Load.{Load, load_of}
use Rattle.corpus.specs.Loaded.{Outcome, ended, unread, unrecorded}
use Rattle.corpus.proofs.Loaded.{loaded, not_loaded}
use Rattle.corpus_meaning.specs.FieldReasons.{from_fine, built_fine}
use Rattle.corpus_meaning.specs.FileSizes.{Opened}
use Rattle.stepping.specs.declared.recorded.Reason.{Reason}

-- What the header comes to, by length and opening.

long_header : (s : List ℕ) → 65536 < length s → header s ≡ refused TooLong
unfolding header
long_header s h = rw (lt-ltb 65536 (length s) h) refl

other_header : (s : List ℕ) → length s ≤ 65536 → opens s ≡ false → header s ≡ refused Unopened
unfolding header
other_header s h o = rw (le-ltb 65536 (length s) h, o) refl

opened_header : (s : List ℕ) → length s ≤ 65536 → opens s ≡ true → header s ≡ from start s 4
unfolding header
opened_header s h o = rw (le-ltb 65536 (length s) h, o) refl

opens_true : (s : List ℕ) → opens s ≡ true → Opened s
unfolding opens
opens_true s e = same_true (take 4 s) opening e

opens_false : (s : List ℕ) → opens s ≡ false → Opened s → ⊥
unfolding opens same_bytes
opens_false s e o = let q : same_bytes (take 4 s) opening ≡ true = rw o refl in not_both q e

-- Numbers of other refusals are other numbers.

file_number : (why : Refusal) → OfField why → 21 < number_of why
unfolding number_of
file_number TooLong h = absurd h
file_number Unopened h = absurd h
file_number Cut h = omega arith
file_number TooBig h = omega arith
file_number Unknown h = omega arith
file_number StartTooDeep h = omega arith

object_number : (why : ObjectRefusal) → refusal_number why < 20
unfolding refusal_number
object_number OtherFamily = omega arith
object_number NoRoom = omega arith
object_number TooDeep = omega arith
object_number ShapeLost = omega arith

event_number : (r : Result Unit Reason) → recorded_number r < 20
unfolding recorded_number reason_number
event_number (Ok tt) = omega arith
event_number (Err AlreadyInvalid) = omega arith
event_number (Err NoSuchThread) = omega arith
event_number (Err (NotOwn why)) = object_number why
event_number (Err InFlight) = omega arith
event_number (Err NothingInFlight) = omega arith
event_number (Err Full) = omega arith
event_number (Err OutOfShape) = omega arith

of_event : (n : ℕ) (r : Result Unit Reason) → n ≡ recorded_number r → n < 20
of_event n r e = rw e (event_number r)

module _ (M : Model) (s : List ℕ) where
  told : {l : Load M} → load_of M s ≡ l → (load_of M s).number ≡ l.number
  told e = ap (λ (l : Load M). l.number) e

  long_number : 65536 < length s → (load_of M s).number ≡ 20
  unfolding number_of
  long_number h = told (not_loaded M s TooLong (long_header s h))

  other_number : length s ≤ 65536 → opens s ≡ false → (load_of M s).number ≡ 21
  unfolding number_of
  other_number h o = told (not_loaded M s Unopened (other_header s h o))

  -- where length and opening are right, the number is neither
  opened_number : length s ≤ 65536 → opens s ≡ true → ((load_of M s).number < 20) ⊎ (21 < (load_of M s).number)
  opened_number h o = by_header (header s) refl
    where
      by_outcome : (x : Object) (n : ℕ) → Outcome M x.kind (drop n s) n (M.new x) (load_of M s) → ((load_of M s).number < 20) ⊎ (21 < (load_of M s).number)
      by_outcome x n (ended l m sp all q r) = inl (omega (arith, told r))
      by_outcome x n (unread l m sp all i why q r) = inr (omega (arith, told r, file_number why (rw q at (built_fine (event_built x.kind) (drop m (drop n s))))))
      by_outcome x n (unrecorded l m sp all i v used q d r) = inl (of_event _ _ (told r))

      by_header : (r : Read Object) → header s ≡ r → ((load_of M s).number < 20) ⊎ (21 < (load_of M s).number)
      by_header (got x n) e = by_outcome x n (loaded M s x n e)
      by_header (refused why) e =
          let f : from start s 4 ≡ refused why = sym (opened_header s h o) ∙ e in
          inr (omega (arith, told (not_loaded M s why e), file_number why (rw f at (from_fine start (built_fine start_built) s 4))))

  by_size : {P : Type 0} → (65536 < length s → P) → (length s ≤ 65536 → opens s ≡ false → P) → (length s ≤ 65536 → opens s ≡ true → P) → P
  by_size {P} long other opened = go (ltb 65536 (length s)) refl (opens s) refl
    where
      go : (l : Bool) → ltb 65536 (length s) ≡ l → (o : Bool) → opens s ≡ o → P
      go true h o e = long (ltb-true 65536 (length s) h)
      go false h true e = opened (ltb-false 65536 (length s) h) e
      go false h false e = other (ltb-false 65536 (length s) h) e

  -- 20 exactly if the file is longer than 65,536 bytes.
  pub twenty_exactly : ((load_of M s).number ≡ 20) ↔ (65536 < length s)
  twenty_exactly = (
    λ e. by_size (λ h. h) (λ h o. absurd (omega (arith, other_number h o)))
        (λ h o. absurd (⊎_elim (λ l. omega arith) (λ l. omega arith) (opened_number h o))),
    long_number,
  )

  -- 21 exactly if it is not, and opens with other bytes, or has not even four.
  pub twenty_one_exactly : ((load_of M s).number ≡ 21) ↔ ((length s ≤ 65536) × (Opened s → ⊥))
  twenty_one_exactly = (
    λ e. by_size (λ h. absurd (omega (arith, long_number h))) (λ h o. (h, opens_false s o))
        (λ h o. absurd (⊎_elim (λ l. omega arith) (λ l. omega arith) (opened_number h o))),
    λ p. by_size (λ h. absurd (omega (arith, p.0))) other_number (λ h o. absurd (p.1 (opens_true s o))),
  )
