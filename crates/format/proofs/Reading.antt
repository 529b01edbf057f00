-- Steps of the code's cursor, one after the other.
use Rattle.std.proofs.Common.{ℕ, ◌+◌, ◌-◌, ◌≤◌, ◌≡◌, refl, sym, ap, ◌∙◌, List, Result, Ok, Err, arith, length, take, drop, length-drop}
use Rattle.numbers.specs.declared.Got.{Got}
use Rattle.numbers.specs.declared.refusal.Refusal.{Refusal}
use Rattle.numbers.specs.Reader.{Read, got, refused, Reader, later, from, give, refuse, ◌then◌, as_read}
use Rattle.numbers.specs.Number.{number}
use Rattle.numbers.specs.Answered.{read_got, read_refused}
use Rattle.format.specs.Taking.{number_field, first_in}
use Rattle.format.specs.declared.cursor.Cursor.{Cursor}
use Rattle.format.specs.Fields.{tail, from_give, from_refuse, at_got, at_refused, then_got, then_refused}
use Rattle.format.specs.Reads.{read_as, Reads}

pub reads_give : {A : Type 0} (a : A) (c : Cursor) → Reads (give a) c c (Ok a)
reads_give a c = record { same = refl; said = from_give c.bytes.now c.at a }

pub reads_refuse : {A : Type 0} (why : Refusal) (c : Cursor) → Reads {A = A} (refuse why) c c (Err why)
reads_refuse why c = record { same = refl; said = from_refuse c.bytes.now c.at why }

module _ {A B : Type 0} {f : Reader A} {a b : Cursor} {s : Result A Refusal} where
  -- a field that is read, and behind it what is due after what it says
  pub reads_then : (g : A → Reader B) {x : A} {c : Cursor} {r : Result B Refusal} → Reads f a b s → s ≡ Ok x → Reads (g x) b c r → Reads (f then g) a c r
  reads_then g {x} h e k =
      let said : from f a.bytes.now a.at ≡ got x b.at = rw e at h.said in
      record { same = k.same ∙ h.same; said = then_got f g a.bytes.now a.at x b.at said ∙ rw h.same at k.said }

  -- a field that is refused
  pub reads_stop : (g : A → Reader B) {why : Refusal} → Reads f a b s → s ≡ Err why → Reads (f then g) a b (Err why)
  reads_stop g {why} h e =
      let said : from f a.bytes.now a.at ≡ refused why = rw e at h.said in
      record { same = h.same; said = then_refused f g a.bytes.now a.at why said }

  -- a field, and what is made of it
  pub reads_made : (h : A → B) {x : A} → Reads f a b s → s ≡ Ok x → Reads (f then λ y. give (h y)) a b (Ok (h x))
  reads_made h {x} k e = reads_then (λ y. give (h y)) k e (reads_give (h x) b)

pub ruleset steps = (reads_give, reads_refuse, reads_stop)

-- A number at a place is the one that opens the bytes from there on, its end counted from the first byte.
module _ (s : Cursor) {r : Result (Got ℕ) Refusal} (e : r ≡ as_read (number (take (length s.bytes.now - s.at) (drop s.at s.bytes.now)))) where
  here : r ≡ as_read (number (drop s.at s.bytes.now))
  here = e ∙ ap (λ (l : List ℕ). as_read (number l)) (tail s.bytes.now s.at)

  pub number_next : {g : Got ℕ} → r ≡ Ok g → (from number s.bytes.now s.at ≡ got g.value (s.at + g.next)) × (s.at + g.next ≤ length s.bytes.now)
  number_next q =
      let read = read_got (number (drop s.at s.bytes.now)) here q in
      let end = first_in number 1 number_field (drop s.at s.bytes.now) _ _ read in
      (at_got s.bytes.now s.at number _ _ read, omega (arith, s.inside, length-drop s.at s.bytes.now, end))

  pub number_none : {why : Refusal} → r ≡ Err why → from number s.bytes.now s.at ≡ refused why
  number_none q = at_refused s.bytes.now s.at number _ (read_refused (number (drop s.at s.bytes.now)) here q)

-- What is read from the first byte on.

later_none : {A : Type 0} (r : Read A) → later 0 r ≡ r
later_none (got a used) = ap (got a) (omega arith)
later_none (refused why) = refl

pub whole : {A : Type 0} {f : Reader A} {a b : Cursor} {r : Result A Refusal} {s : List ℕ} → Reads f a b r → a.bytes.now ≡ s → a.at ≡ 0 → f s ≡ read_as r b.at
unfolding from
whole {f = f} {s = s} h e z = sym (later_none (f s)) ∙ rw (e, z) at h.said
