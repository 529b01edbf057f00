-- The tests for "the same" value and the same numbers are equality.
use Rattle.std.specs.Prelude.{ℕ, ◌≡◌, refl, Bool, true, false, eqb, ℤ, Option, Some, None}
use Rattle.std.proofs.Common.{sym, ap, ◌∙◌, eq-eqb, eqb-true, arith}
use Rattle.std.specs.Bool.{one_answer}
use Rattle.std.specs.Cmp.{signed_Decides}
use Rattle.std.specs.Option.{option_eq}
use Rattle.std.specs.Ordering.{int_eq}
use Rattle.values.specs.Value.{pick, zigzag, signed, eq_z, same_maybe}
use Rattle.values.specs.Coded.{coded, maybe_coded, same_coded}
use Rattle.values.specs.Sent.{sent_back}
use Rattle.values.specs.declared.coded.Coded.{Coded}

-- a test that is true exactly for equal values
pub record Decides {A : Type 0} (same : A → A → Bool) : Type 0 where
  pub equal : (a b : A) → same a b ≡ true → a ≡ b
  pub self : (a : A) → same a a ≡ true

pub values : Decides eq_z
unfolding eq_z
values = record {
  equal = λ a b h. sym (sent_back a) ∙ ap signed (eqb-true (zigzag a) (zigzag b) h) ∙ sent_back b;
  self = λ a. eq-eqb (zigzag a) (zigzag a) refl;
}

-- what `==` says of two values
pub int_eq_same : (a b : ℤ) → int_eq a b ≡ eq_z a b
int_eq_same a b = one_answer _ _ (signed_Decides a b) (values.equal a b, λ h. rw h (values.self b))

-- and of nothing or a value
pub option_eq_same : (a b : Option ℤ) → option_eq int_eq a b ≡ same_maybe a b
unfolding same_maybe
option_eq_same None None = refl
option_eq_same None (Some b) = refl
option_eq_same (Some a) None = refl
option_eq_same (Some a) (Some b) = int_eq_same a b

-- a choice that is true only by its first test
pub both : (a b : Bool) → pick a b false ≡ true → (a ≡ true) × (b ≡ true)
both true b h = (refl, h)
both false b h = absurd (let z : ◌≡◌ {A = ℕ} 0 1 = cc in omega arith)

pub numbers : Decides same_coded
unfolding same_coded
numbers = record {
  equal = λ a b h. same a b (both (eqb a.number b.number) _ h);
  self = λ a. rw (eq-eqb a.number a.number refl, eq-eqb a.count a.count refl) (eq-eqb a.word a.word refl);
}
  where
    same : (a b : Coded) → (eqb a.number b.number ≡ true) × (pick (eqb a.count b.count) (eqb a.word b.word) false ≡ true) → a ≡ b
    same a b h =
        let g = both (eqb a.count b.count) (eqb a.word b.word) h.1 in
        let n = eqb-true a.number b.number h.0 in
        let c = eqb-true a.count b.count g.0 in
        let w = eqb-true a.word b.word g.1 in
        ap (λ (i : ℕ). coded i a.count a.word) n ∙ ap (λ (i : ℕ). coded b.number i a.word) c ∙ ap (coded b.number b.count) w

-- of nothing or a value
pub maybe_same : (n : ℕ) (a b : Option ℤ) → same_coded (maybe_coded n a) (maybe_coded n b) ≡ same_maybe a b
unfolding same_coded maybe_coded same_maybe eq_z
maybe_same n None None = rw (eq-eqb n n refl)
maybe_same n None (Some b) = rw (eq-eqb n n refl)
maybe_same n (Some a) None = rw (eq-eqb n n refl)
maybe_same n (Some a) (Some b) = rw (eq-eqb n n refl)
