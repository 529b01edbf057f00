-- How many bytes a field takes.
use Rattle.std.specs.Prelude.{ℕ, ◌+◌, ◌*◌, ◌%◌, ◌^◌, ◌≤◌, ◌≡◌, Bool, true, false, List, [], ◌∷◌, drop, ltb}
use Rattle.std.proofs.Common.{arith}
use Rattle.std.proofs.Math.ListN.{length, length-drop}
use Rattle.values.specs.Value.{pick}
use Rattle.numbers.specs.declared.refusal.Refusal.{Refusal}
use Rattle.numbers.specs.declared.refusal.Refusal.TheVariants.{TooLong, Unopened, Cut, TooBig, Unknown, StartTooDeep}
use Rattle.numbers.specs.Reader.{Read, got, refused, Reader, later, from, give, refuse, behind, ◌then◌}
use Rattle.numbers.specs.Number.{too_big, group_by, number_from, number}

-- between two numbers of bytes, where it is not refused
abbrev pub Takes : {A : Type 0} → ℕ → ℕ → Read A → Type 0
Takes least most (got a used) = (least ≤ used) × (used ≤ most)
Takes least most (refused why) = Unit {0}

-- at least so many, and none behind the end
abbrev pub Field : {A : Type 0} → ℕ → Reader A → Type 0
Field least f = (s : List ℕ) → Takes least (length s) (f s)

takes_wider : {A : Type 0} (r : Read A) (a b m n : ℕ) → m ≤ a → b ≤ n → Takes a b r → Takes m n r
takes_wider (got x used) a b m n h k t = omega arith
takes_wider (refused why) a b m n h k t = tt

takes_later : {A : Type 0} (r : Read A) (at least most : ℕ) → Takes least most r → Takes (at + least) (at + most) (later at r)
takes_later (got x used) at least most t = omega arith
takes_later (refused why) at least most t = tt

module _ {A : Type 0} (f : Reader A) (least : ℕ) (F : Field least f) where
  fewer_field : (n : ℕ) → n ≤ least → Field n f
  fewer_field n h s = takes_wider (f s) least (length s) n (length s) h (omega arith) (F s)

  pub from_takes : (s : List ℕ) (at : ℕ) → at ≤ length s → Takes (at + least) (length s) (from f s at)
  unfolding from
  from_takes s at h =
      let k : at + length (drop at s) ≤ length s = omega (arith, length-drop at s) in
      takes_wider (later at (f (drop at s))) (at + least) (at + length (drop at s)) (at + least) (length s) (omega arith) k
      (takes_later (f (drop at s)) at least (length (drop at s)) (F (drop at s)))

  -- the place behind a field

  pub first_in : (s : List ℕ) (a : A) (used : ℕ) → f s ≡ got a used → (least ≤ used) × (used ≤ length s)
  first_in s a used e = rw e at (F s)

  pub next_in : (s : List ℕ) (at : ℕ) → at ≤ length s → (a : A) (next : ℕ) → from f s at ≡ got a next
      → (at + least ≤ next) × (next ≤ length s)
  next_in s at h a next e = rw e at (from_takes s at h)

give_field : {A : Type 0} (a : A) → Field 0 (give a)
unfolding give
give_field a s = omega arith

refuse_field : (A : Type 0) (why : Refusal) (n : ℕ) → Field n (refuse {A = A} why)
unfolding refuse
refuse_field A why n s = tt

pick_field : {A : Type 0} (n : ℕ) (b : Bool) (f g : Reader A) → Field n f → Field n g → Field n (pick b f g)
pick_field n true f g F G = F
pick_field n false f g F G = G

then_field : {A B : Type 0} (m n : ℕ) (f : Reader A) (g : A → Reader B) → Field m f → ((a : A) → Field n (g a)) → Field (m + n) (f then g)
unfolding ◌then◌
then_field {A} {B} m n f g F G s = go (f s) (F s)
  where
    go : (r : Read A) → Takes m (length s) r → Takes (m + n) (length s) (behind g s r)
    go (got a used) t =
        takes_wider (from (g a) s used) (used + n) (length s) (m + n) (length s) (omega arith) (omega arith) (from_takes (g a) n (G a) s used t.1)
    go (refused why) t = tt

number_takes : (s : List ℕ) (i sum : ℕ) → Takes (i + 1) (i + length s) (number_from s i sum)
unfolding number_from
number_takes [] i sum = tt
number_takes (b ∷ bs) i sum = go (λ v. number_takes bs (i + 1) v) (too_big i b) (ltb b 128) (sum + b % 128 * 128 ^ i)
  where
    go : ((v : ℕ) → Takes (i + 1 + 1) (i + 1 + length bs) (number_from bs (i + 1) v)) → (big last : Bool) (v : ℕ)
        → Takes (i + 1) (i + length (b ∷ bs)) (group_by big last (number_from bs) (i + 1) v)
    go rest true true v = tt
    go rest true false v = tt
    go rest false true v = omega arith
    go rest false false v =
        takes_wider (number_from bs (i + 1) v) (i + 1 + 1) (i + 1 + length bs) (i + 1) (i + length (b ∷ bs)) (omega arith) (omega arith) (rest v)

pub number_field : Field 1 number
unfolding number
number_field s = takes_wider (number_from s 0 0) 1 (0 + length s) 1 (length s) (omega arith) (omega arith) (number_takes s 0 0)

-- Reasons that are not of the file as a whole, its length or its opening.
abbrev pub OfField : Refusal → Type 0
OfField TooLong = ⊥
OfField Unopened = ⊥
OfField Cut = Unit {0}
OfField TooBig = Unit {0}
OfField Unknown = Unit {0}
OfField StartTooDeep = Unit {0}

-- A field that is put together from numbers, and the least number of bytes that it takes; it is refused for a reason of its own.
pub data BuiltOf : (A : Type 0) → ℕ → Reader A → Type 1 where
  one_number : BuiltOf ℕ 1 number
  no_bytes : {A : Type 0} (a : A) → BuiltOf A 0 (give a)
  never : (A : Type 0) (why : Refusal) (n : ℕ) → OfField why → BuiltOf A n (refuse why)
  either : {A : Type 0} (n : ℕ) (b : Bool) (f g : Reader A) → BuiltOf A n f → BuiltOf A n g → BuiltOf A n (pick b f g)
  next_to : {A B : Type 0} (m n : ℕ) (f : Reader A) (g : A → Reader B) → BuiltOf A m f → ((a : A) → BuiltOf B n (g a)) → BuiltOf B (m + n) (f then g)
  fewer : {A : Type 0} (f : Reader A) (least : ℕ) → BuiltOf A least f → (n : ℕ) → n ≤ least → BuiltOf A n f

abbrev pub Built : {A : Type 0} → ℕ → Reader A → Type 1
Built {A} n f = BuiltOf A n f

pub built_field : {A : Type 0} {n : ℕ} {f : Reader A} → Built n f → Field n f
built_field one_number = number_field
built_field (no_bytes a) = give_field a
built_field (never A why n h) = refuse_field A why n
built_field (either n b f g F G) = pick_field n b f g (built_field F) (built_field G)
built_field (next_to m n f g F G) = then_field m n f g (built_field F) (λ a. built_field (G a))
built_field (fewer f least F n h) = fewer_field f least (built_field F) n h
