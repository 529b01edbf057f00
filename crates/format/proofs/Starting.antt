-- The values of a start, one after the other.
use Rattle.std.proofs.Common.{ℕ, suc, ◌+◌, ◌-◌, ◌<◌, ◌≤◌, ◌^◌, ◌≡◌, refl, sym, ◌∙◌, List, ℤ, Result, Ok, Err, arith, w32, to_z, of_z, to_z-of_z}
use Rattle.std.specs.Prelude.{set}
use Rattle.std.specs.Int.Signed.{mag}
use mir.Val.{hbits}
use Rattle.values.specs.Value.{signed}
use Rattle.numbers.specs.declared.refusal.Refusal.{Refusal}
use Rattle.numbers.specs.Reader.{got, refused, Reader, from}
use Rattle.format.specs.declared.cursor.Cursor.{Cursor}
use Rattle.format.specs.Format.{value, values_from}
use Rattle.format.specs.Fields.{from_give, then_got, then_refused}
use Rattle.format.specs.Reads.{Reads}

-- the number of the bits of a value is the value
pub told : (z : ℤ) (n : ℕ) → mag z < 2 ^ hbits w32 → z ≡ signed n → to_z w32 (of_z w32 z) ≡ signed n
told z n h e = to_z-of_z {w = w32} (record { sfits = h }) ∙ e

one_more : (count i : ℕ) → i < count → count - i ≡ suc (count - (i + 1))
one_more count i h = omega arith

-- What is left to read at b says the same as the whole at a.
pub record Left {A : Type 0} (f : Reader A) (a : Cursor) (g : Reader A) (b : Cursor) : Type 0 where
  pub same : b.bytes ≡ a.bytes
  pub left : from g b.bytes.now b.at ≡ from f a.bytes.now a.at

pub left_all : {A : Type 0} (f g : Reader A) (a : Cursor) → g ≡ f → Left f a g a
left_all f g a e = record { same = refl; left = rw e refl }

module _ {f : Reader (List ℤ)} {a b : Cursor} {count i : ℕ} (items : List ℤ) (l : Left f a (values_from (count - i) i items) b) where
  module _ (more : i < count) {c : Cursor} {s : Result ℤ Refusal} (k : Reads value b c s) where
    pub left_more : {v : ℤ} → s ≡ Ok v → Left f a (values_from (count - (i + 1)) (i + 1) (set items i v)) c
    unfolding values_from
    left_more {v} e =
        let said : from value b.bytes.now b.at ≡ got v c.at = rw e at k.said in
        let whole = rw (one_more count i more) at l.left in
        let rest = then_got value (λ x. values_from (count - (i + 1)) (i + 1) (set items i x)) b.bytes.now b.at v c.at said in
        record { same = k.same ∙ l.same; left = rw k.same (sym rest ∙ whole) }

    pub left_refused : {why : Refusal} → s ≡ Err why → Reads f a c (Err why)
    unfolding values_from
    left_refused {why} e =
        let said : from value b.bytes.now b.at ≡ refused why = rw e at k.said in
        let whole = rw (one_more count i more) at l.left in
        let rest = then_refused value (λ x. values_from (count - (i + 1)) (i + 1) (set items i x)) b.bytes.now b.at why said in
        record { same = k.same ∙ l.same; said = sym whole ∙ rest }

  pub left_none : count ≤ i → Reads f a b (Ok items)
  unfolding values_from
  left_none h =
      let z : count - i ≡ 0 = omega arith in
      let whole = rw z at l.left in
      record { same = l.same; said = sym whole ∙ from_give b.bytes.now b.at items }
