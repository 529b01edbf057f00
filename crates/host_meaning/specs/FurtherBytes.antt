-- A file that goes on: what was read of it is read as before.
use Rattle.std.specs.Prelude.{ℕ, ◌+◌, ◌-◌, ◌*◌, ◌%◌, ◌^◌, ◌≤◌, ◌≡◌, refl, Bool, true, false, List, [], ◌∷◌, ◌++◌, ltb, length, drop}
use Rattle.std.proofs.Common.{sym, ap, ◌∙◌, arith, le-ltb, length-append, length-drop}
use Rattle.std.proofs.lemmas.List.{take-append-le, drop-append-le}
use Rattle.history.specs.Events.{Event, Events}
use Rattle.families.specs.Families.{families}
use Rattle.values.specs.Value.{pick}
use Rattle.families.specs.declared.Kind.{Kind}
use Rattle.families.specs.declared.Object.{Object}
use Rattle.numbers.specs.declared.refusal.Refusal.TheVariants.{Unopened}
use Rattle.numbers.specs.Reader.{Read, got, refused, Reader, later, from, give, refuse, behind, ◌then◌}
use Rattle.numbers.specs.Number.{too_big, group_by, number_from, number}
use Rattle.format.specs.Format.{start, opening, opens, longest, header, event}
use Rattle.format.specs.Taking.{Field, BuiltOf, one_number, no_bytes, never, either, next_to, fewer, built_field, first_in}
use Rattle.format.specs.Lengths.{event_built, event_field, start_built, opened_long}
use Rattle.format.specs.Spelling.{Spells}

-- What a field says stays, whatever follows.
abbrev pub Stays : {A : Type 0} → Reader A → Type 0
Stays {A} f = (s more : List ℕ) (a : A) (used : ℕ) → f s ≡ got a used → f (s ++ more) ≡ got a used

number_stays : (s more : List ℕ) (i sum n used : ℕ) → number_from s i sum ≡ got n used → number_from (s ++ more) i sum ≡ got n used
unfolding number_from
number_stays [] more i sum n used e = cc
number_stays (b ∷ bs) more i sum n used e = go (too_big i b) (ltb b 128) (number_stays bs more (i + 1) (sum + b % 128 * 128 ^ i) n used) e
  where
    go : (big last : Bool) → (number_from bs (i + 1) (sum + b % 128 * 128 ^ i) ≡ got n used → number_from (bs ++ more) (i + 1) (sum + b % 128 * 128 ^ i) ≡ got n used)
        → group_by big last (number_from bs) (i + 1) (sum + b % 128 * 128 ^ i) ≡ got n used
        → group_by big last (number_from (bs ++ more)) (i + 1) (sum + b % 128 * 128 ^ i) ≡ got n used
    go true last rest h = cc
    go false true rest h = h
    go false false rest h = rest h

-- a field at a place
from_stays : {A : Type 0} (f : Reader A) → Stays f → (s more : List ℕ) (at : ℕ) → at ≤ length s → (a : A) (used : ℕ) → from f s at ≡ got a used
    → from f (s ++ more) at ≡ got a used
unfolding from
from_stays {A} f F s more at h a used e = rw (drop-append-le at s more h) (go (f (drop at s)) refl e)
  where
    go : (r : Read A) → f (drop at s) ≡ r → later at r ≡ got a used → later at (f (drop at s ++ more)) ≡ got a used
    go (got b n) q k = rw (F (drop at s) more b n q) k
    go (refused why) q k = cc

then_stays : {A B : Type 0} (m : ℕ) (f : Reader A) (g : A → Reader B) → Field m f → Stays f → ((a : A) → Stays (g a)) → Stays (f then g)
unfolding ◌then◌
then_stays {A} {B} m f g T F G s more a used e = go (f s) refl e
  where
    go : (r : Read A) → f s ≡ r → behind g s r ≡ got a used → behind g (s ++ more) (f (s ++ more)) ≡ got a used
    go (got b k) q h = rw (F s more b k q) (from_stays (g b) (G b) s more k (first_in f m T s b k q).1 a used h)
    go (refused why) q h = cc

pub built_stays : {A : Type 0} {n : ℕ} {f : Reader A} → BuiltOf A n f → Stays f
unfolding number give refuse
built_stays one_number s more a used e = number_stays s more 0 0 a used e
built_stays (no_bytes b) s more a used e = e
built_stays (never A why n h) s more a used e = cc
built_stays (either n true f g F G) s more a used e = built_stays F s more a used e
built_stays (either n false f g F G) s more a used e = built_stays G s more a used e
built_stays (next_to m n f g F G) s more a used e =
    then_stays m f g (built_field F) (λ s more b k q. built_stays F s more b k q) (λ b s more c k q. built_stays (G b) s more c k q) s more a used e
built_stays (fewer f least F n h) s more a used e = built_stays F s more a used e

still_opens : (s more : List ℕ) → opens s ≡ true → opens (s ++ more) ≡ true
unfolding opens
still_opens s more q = rw (take-append-le (length opening) s more (opened_long s q)) q

-- A header stays, unless the file becomes too long.
pub header_stays : (s more : List ℕ) (o : Object) (n : ℕ) → header s ≡ got o n → length (s ++ more) ≤ longest → header (s ++ more) ≡ got o n
unfolding header
header_stays s more o n e h =
    let l : length s ≤ longest = omega (arith, length-append s more) in
    rw (le-ltb longest (length (s ++ more)) h) (go (opens s) refl (rw (le-ltb longest (length s) l) at e))
  where
    go : (b : Bool) → opens s ≡ b → pick b (from start s (length opening)) (refused Unopened) ≡ got o n
        → pick (opens (s ++ more)) (from start (s ++ more) (length opening)) (refused Unopened) ≡ got o n
    go true q k = rw (still_opens s more q) (from_stays start (built_stays start_built) s more (length opening) (opened_long s q) o n k)
    go false q k = cc

-- Bytes that begin with the events l, and go on, spell l and then others to their end.
pub spells_further : (k : Kind) (l : Events families) (s more : List ℕ) (n : ℕ) → Spells k s l n → (l' : Events families) (n' : ℕ)
    → Spells k (s ++ more) l' n' → n' ≡ length (s ++ more) → (rest : Events families) × (l' ≡ l ++ rest)
spells_further k [] s more n sp l' n' sp' e = (l', refl)
spells_further k (v ∷ l) s more n sp [] n' sp' e =
    absurd (omega (arith, length-append s more, first_in (event k) 2 (event_field k) s v sp.0 sp.1))
spells_further k (v ∷ l) s more n (used, q, h, sp) (v' ∷ l') n' (used', q', h', sp') e =
    let b = first_in (event k) 2 (event_field k) s v used q in
    let same : got v' used' ≡ got v used = sym q' ∙ built_stays (event_built k) s more v used q in
    let sv : v' ≡ v = cc in
    let su : used' ≡ used = cc in
    let d : drop used (s ++ more) ≡ drop used s ++ more = drop-append-le used s more b.1 in
    one_more (spells_further k l (drop used s) more (n - used) sp l' (n' - used)
    (rw (su, d) at sp') (omega (arith, length-append s more, length-append (drop used s) more, length-drop used s))) sv
  where
    one_more : (rest : Events families) × (l' ≡ l ++ rest) → v' ≡ v → (rest : Events families) × (v' ∷ l' ≡ v ∷ l ++ rest)
    one_more w sv = (w.0, ap (λ (x : Event families). x ∷ l') sv ∙ ap (λ (m : Events families). v ∷ m) w.1)
