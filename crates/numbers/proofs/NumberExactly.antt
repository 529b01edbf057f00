-- A number is read, cut off or too big exactly when Forms says so.
use Rattle.std.specs.Prelude.{
  ℕ,
  zero,
  suc,
  ◌+◌,
  ◌*◌,
  ◌%◌,
  ◌^◌,
  ◌<◌,
  ◌≤◌,
  ◌≡◌,
  refl,
  ◌↔◌,
  ◌⊎◌,
  Bool,
  true,
  false,
  List,
  [],
  ◌∷◌,
  ◌++◌,
  ltb,
  length,
  get_or,
  drop,
}
use Rattle.std.proofs.Common.{
  sym,
  ap,
  ◌∙◌,
  subst,
  inl,
  inr,
  ⊎_elim,
  add-one,
  add-zero,
  arith,
  ltb-true,
  ltb-false,
  length-drop,
  length-append,
  drop-drop,
  get_or-drop,
}
use Rattle.std.proofs.Math.ListN.{get_or-append}
use Rattle.numbers.specs.declared.refusal.Refusal.{Refusal}
use Rattle.numbers.specs.declared.refusal.Refusal.TheVariants.{TooLong, Unopened, Cut, TooBig, Unknown, StartTooDeep}
use Rattle.numbers.specs.Reader.{Read, got, refused}
use Rattle.numbers.specs.Number.{too_big, group_by, number_from, number}
use Rattle.numbers.specs.Groups.{group_fits, goes_on, sum_lt, is_fifth}
use Rattle.numbers.specs.Forms.{sum_of, Form, CutOff, Over, When}
use Rattle.numbers.specs.NumberExactly.{sum_append}

-- What is read is so.

-- the bytes up to place i said that more follow
abbrev Followed : List ℕ → ℕ → Type 0
Followed s i = (j : ℕ) → j < i → 128 ≤ get_or s j 0

followed_on : (s : List ℕ) (i : ℕ) → Followed s i → 128 ≤ get_or s i 0 → Followed s (i + 1)
followed_on s i h l j k = go (ltb j i) refl
  where
    go : (b : Bool) → ltb j i ≡ b → 128 ≤ get_or s j 0
    go true e = h j (ltb-true j i e)
    go false e = let q : j ≡ i = omega (arith, ltb-false j i e) in rw q l

when_from : (s : List ℕ) (i : ℕ) (rest : List ℕ) → drop i s ≡ rest → i ≤ 4 → (sum : ℕ) → sum < 128 ^ i → sum ≡ sum_of s i
    → Followed s i → When s (number_from rest i sum)
unfolding number_from
when_from s i [] d h sum l e f =
    let z = ap length d in
    let y = length-drop i s in
    record { few = omega arith; more = λ j k. f j (omega arith) }
when_from s i (b ∷ rest) d h sum l e f =
    go (too_big i b) (ltb b 128) refl refl (λ d' h' l' e' f'. when_from s (i + 1) rest d' h' (sum + b % 128 * 128 ^ i) l' e' f')
  where
    here : get_or s i 0 ≡ b
    here = rw (add-zero i) at (sym (get_or-drop i s 0 0) ∙ ap (λ (r : List ℕ). get_or r 0 0) d)

    inside : i < length s
    inside = omega (arith, length-drop i s, ap length d)

    next : drop (i + 1) s ≡ rest
    next = sym (drop-drop 1 i s) ∙ ap (λ (r : List ℕ). drop 1 r) d

    step : sum + b % 128 * 128 ^ i ≡ sum_of s (i + 1)
    step = rw (add-one i, here, ← e) refl

    go : (big end : Bool) → too_big i b ≡ big → ltb b 128 ≡ end
        → (drop (i + 1) s ≡ rest → i + 1 ≤ 4 → sum + b % 128 * 128 ^ i < 128 ^ (i + 1) → sum + b % 128 * 128 ^ i ≡ sum_of s (i + 1) → Followed s (i + 1)
        → When s (number_from rest (i + 1) (sum + b % 128 * 128 ^ i)))
        → When s (group_by big end (number_from rest) (i + 1) (sum + b % 128 * 128 ^ i))
    go true end p r rec =
        let q = is_fifth i b h p in
        record {
          fifth = omega (arith, inside, q.0);
          more = λ j k. f j (omega (arith, q.0));
          above = rw (← q.0, here) q.1;
        }
    go false true p r rec = record {
      some = omega arith;
      five = omega arith;
      here = omega (arith, inside);
      more = λ j m. f j (omega arith);
      last = λ j m. let j_i : j ≡ i = omega arith in rw (j_i, here) (ltb-true b 128 r);
      sum = sym step;
      small = group_fits i b sum h p l;
    }
    go false false p r rec =
        let m : 128 ≤ b = ltb-false b 128 r in
        rec next (goes_on i b h p m) (sum_lt sum (b % 128) i l (omega arith)) step (followed_on s i f (rw here m))

when_read : (s : List ℕ) → When s (number s)
unfolding number
when_read s = when_from s 0 s refl (omega arith) 0 (omega arith) refl (λ j k. absurd (omega arith))

-- No two of the conditions hold.

-- the reasons that there are
reason : (s : List ℕ) (why : Refusal) → When s (refused why) → ((why ≡ Cut) × CutOff s) ⊎ ((why ≡ TooBig) × Over s)
reason s Cut w = inl (refl, w)
reason s TooBig w = inr (refl, w)
reason s TooLong w = absurd w
reason s Unopened w = absurd w
reason s Unknown w = absurd w
reason s StartTooDeep w = absurd w

module _ (s : List ℕ) where
  -- the last byte of a form, by its place
  last_of : (n k : ℕ) → Form s n k → (i : ℕ) × (i + 1 ≡ k) × (get_or s i 0 < 128)
  last_of n zero f = absurd (omega (arith, f.some))
  last_of n (suc i) f = (i, omega arith, f.last i (omega arith))

  no_longer : (n m k j : ℕ) → Form s n k → Form s m j → k ≤ j
  no_longer n m k j f g = go (ltb j k) refl
    where
      go : (b : Bool) → ltb j k ≡ b → k ≤ j
      go true e =
          let l = last_of m j g in
          absurd (omega (arith, l.2, f.more l.0 (omega (arith, ltb-true j k e, l.1))))
      go false e = ltb-false j k e

  one_form : (n m k j : ℕ) → Form s n k → Form s m j → got n k ≡ got m j
  one_form n m k j f g =
      let e : k ≡ j = omega (arith, no_longer n m k j f g, no_longer m n j k g f) in
      let q : n ≡ m = sym f.sum ∙ ap (sum_of s) e ∙ g.sum in
      cc

  form_ends : (n k : ℕ) → Form s n k → CutOff s → ⊥
  form_ends n k f c = let l = last_of n k f in omega (arith, l.2, c.more l.0 (omega (arith, l.1, f.here)))

  form_small : (n k : ℕ) → Form s n k → Over s → ⊥
  form_small n k f o = go (ltb l.0 4) refl
    where
      l : (i : ℕ) × (i + 1 ≡ k) × (get_or s i 0 < 128)
      l = last_of n k f

      go : (b : Bool) → ltb l.0 4 ≡ b → ⊥
      go true e = omega (arith, l.2, o.more l.0 (ltb-true l.0 4 e))
      go false e =
          let q : k ≡ 5 = omega (arith, ltb-false l.0 4 e, l.1, f.five) in
          let i : l.0 ≡ 4 = omega (arith, q, l.1) in
          let b : get_or s 4 0 < 128 = rw (← i) l.2 in
          let z : sum_of s 5 ≡ n = rw q at f.sum in
          omega (arith, f.small, o.above)

  only : (r q : Read ℕ) → When s r → When s q → r ≡ q
  only (got n k) (got m j) w v = one_form n m k j w v
  only (got n k) (refused b) w v = absurd (⊎_elim (λ c. form_ends n k w c.1) (λ o. form_small n k w o.1) (reason s b v))
  only (refused a) (got m j) w v = absurd (⊎_elim (λ c. form_ends m j v c.1) (λ o. form_small m j v o.1) (reason s a w))
  only (refused a) (refused b) w v = ap refused (same (reason s a w) (reason s b v))
    where
      same : ((a ≡ Cut) × CutOff s) ⊎ ((a ≡ TooBig) × Over s) → ((b ≡ Cut) × CutOff s) ⊎ ((b ≡ TooBig) × Over s) → a ≡ b
      same (inl c) (inl d) = c.0 ∙ sym d.0
      same (inr c) (inr d) = c.0 ∙ sym d.0
      same (inl c) (inr d) = absurd (omega (arith, c.1.few, d.1.fifth))
      same (inr c) (inl d) = absurd (omega (arith, d.1.few, c.1.fifth))

-- The theorem: what is read of any bytes, exactly when.
pub number_exactly : (s : List ℕ) (r : Read ℕ) → (number s ≡ r) ↔ When s r
number_exactly s r = (λ e. subst (When s) e (when_read s), λ w. only s (number s) r (when_read s) w)

-- So a form of a number is read as the number, whatever follows.

pub form_read : (s rest : List ℕ) (n : ℕ) → Form s n (length s) → number (s ++ rest) ≡ got n (length s)
form_read s rest n f = (number_exactly (s ++ rest) (got n (length s))).1 (record {
  some = f.some;
  five = f.five;
  here = omega (arith, length-append s rest);
  more = λ i h. rw (get_or-append s rest 0 i (omega arith)) (f.more i h);
  last = λ i h. rw (get_or-append s rest 0 i (omega arith)) (f.last i h);
  sum = sum_append s rest (length s) (omega arith) ∙ f.sum;
  small = f.small;
})
