-- Fields one after the other, from a place on.
use Rattle.std.specs.Prelude.{ℕ, ◌+◌, ◌-◌, List, length, take, drop}
use Rattle.std.proofs.Math.Path.{◌≡◌, refl, ap}
use Rattle.std.proofs.Common.{◌∙◌, add-zero, arith, length-drop, take_all, drop-drop}
use Rattle.numbers.specs.declared.refusal.Refusal.{Refusal}
use Rattle.numbers.specs.Reader.{Read, got, refused, Reader, later, from, give, refuse, behind, ◌then◌}
use Rattle.values.specs.Value.{signed}
use Rattle.numbers.specs.Number.{number}
use Rattle.format.specs.Format.{value}

-- a part up to the end
pub tail : (s : List ℕ) (at : ℕ) → take (length s - at) (drop at s) ≡ drop at s
tail s at = take_all (length s - at) (drop at s) (simp length-drop (omega arith))

later_later : {A : Type 0} (m n : ℕ) (r : Read A) → later m (later n r) ≡ later (m + n) r
later_later m n (got a used) = ap (got a) (omega arith)
later_later m n (refused why) = refl

module _ {A : Type 0} (s : List ℕ) (at : ℕ) where
  pub from_give : (a : A) → from (give a) s at ≡ got a at
  unfolding from give
  from_give a = ap (got a) (add-zero at)

  pub from_refuse : (why : Refusal) → from (refuse {A = A} why) s at ≡ refused why
  unfolding from refuse
  from_refuse why = refl

  pub at_got : (f : Reader A) (a : A) (used : ℕ) → f (drop at s) ≡ got a used → from f s at ≡ got a (at + used)
  unfolding from
  at_got f a used e = rw e refl

  pub at_refused : (f : Reader A) (why : Refusal) → f (drop at s) ≡ refused why → from f s at ≡ refused why
  unfolding from
  at_refused f why e = rw e refl

module _ {A B : Type 0} (f : Reader A) (g : A → Reader B) (s : List ℕ) where
  pub first_got : (a : A) (next : ℕ) → f s ≡ got a next → (f then g) s ≡ from (g a) s next
  unfolding ◌then◌
  first_got a next e = rw e refl

  pub first_refused : (why : Refusal) → f s ≡ refused why → (f then g) s ≡ refused why
  unfolding ◌then◌
  first_refused why e = rw e refl

  module _ (at : ℕ) where
    pub then_got : (a : A) (next : ℕ) → from f s at ≡ got a next → from (f then g) s at ≡ from (g a) s next
    unfolding from ◌then◌
    then_got a next e = go (f (drop at s)) e
      where
        go : (r : Read A) → later at r ≡ got a next → later at (behind g (drop at s) r) ≡ later next (g a (drop next s))
        go (got x used) h =
            let p : x ≡ a = cc in
            let q : at + used ≡ next = cc in
            rw (drop-drop used at s, later_later at used (g x (drop (at + used) s)), p, q) refl
        go (refused why) h = let z : ◌≡◌ {A = ℕ} 0 1 = cc in absurd (omega arith)

    pub then_refused : (why : Refusal) → from f s at ≡ refused why → from (f then g) s at ≡ refused why
    unfolding from ◌then◌
    then_refused why e = go (f (drop at s)) e
      where
        go : (r : Read A) → later at r ≡ refused why → later at (behind g (drop at s) r) ≡ refused why
        go (got x used) h = let z : ◌≡◌ {A = ℕ} 0 1 = cc in absurd (omega arith)
        go (refused w) h = let p : w ≡ why = cc in rw p refl

-- a field and what is made of it
pub made_of : {A B : Type 0} (f : Reader A) (h : A → B) (s : List ℕ) (at : ℕ) (a : A) (next : ℕ) → from f s at ≡ got a next
    → from (f then λ x. give (h x)) s at ≡ got (h a) next
made_of f h s at a next e = then_got f (λ x. give (h x)) s at a next e ∙ from_give s next (h a)

-- a value is a number
module _ (s : List ℕ) (at : ℕ) where
  pub value_got : (n next : ℕ) → from number s at ≡ got n next → from value s at ≡ got (signed n) next
  unfolding value
  value_got n next e = made_of number signed s at n next e

  pub value_refused : (why : Refusal) → from number s at ≡ refused why → from value s at ≡ refused why
  unfolding value
  value_refused why e = then_refused number (λ n. give (signed n)) s at why e
