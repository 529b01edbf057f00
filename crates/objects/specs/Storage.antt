-- The storage holds a stack: what it answers and leaves is what the list of its values does.
use Prim.Native.Nat.{ℕ, zero, suc, ◌-◌, ◌≤◌, ◌<◌}
use Rattle.std.specs.Prelude.{◌≡◌, Bool, ◌≢◌, List, set, ℤ, pos}
use Rattle.std.proofs.Math.Path.{refl, sym, ap}
use Rattle.std.proofs.Math.Bool.{true, false}
use Rattle.std.proofs.Math.ListN.{length, get_or, get_or-eq_default}
use Rattle.std.proofs.Math.Seq.{get_or-set_same}
use Rattle.std.proofs.Common.{get_or-set_other}
use Rattle.std.proofs.Math.Dec.{ltb}
use borrow.Author.Tests.{lt-ltb, le-leb, ne_eqb, ltb-false}
use Rattle.std.proofs.Math.Numerals.{add-one}
use native.Mathlib.Omega.{arith}
use Rattle.values.specs.Value.{pick}
use Rattle.values.specs.Sizes.{room}
use Rattle.objects.specs.Stack.{first, stack_answer, stack_after, held_values, item_at, top_of, storage_answer, frees, depth_after, items_after}
use Rattle.objects.specs.declared.vec.VecOp.{VecOp}
use Rattle.objects.specs.declared.vec.VecOp.TheVariants.{Push, Pop, Len}
use Rattle.objects.specs.declared.vec.VecRet.TheVariants.{PopOk, LenOk}

-- the depth leaves the operation its place
abbrev pub HasRoom : ℕ → VecOp → Type 0
HasRoom d (Push v) = d < room
HasRoom d Pop = d ≤ room
HasRoom d Len = Unit {0}

held_set : (items : List ℤ) (i d : ℕ) (v : ℤ) → d ≤ i → held_values (set items i v) d ≡ held_values items d
unfolding held_values
held_set items i zero v h = refl
held_set items i (suc d) v h =
    let n : d ≢ i = omega arith in
    rw (get_or-set_other items i d v (pos 0) n, held_set items i d v (omega arith))

held_length : (items : List ℤ) (d : ℕ) → length (held_values items d) ≡ d
unfolding held_values
held_length items zero = refl
held_length items (suc d) = ap suc (held_length items d)

module _ (items : List ℤ) (full : length items ≡ room) where
  item_at_lem : (i : ℕ) → item_at items i ≡ get_or items i (pos 0)
  unfolding item_at
  item_at_lem i = go (ltb i room) refl
    where
      go : (b : Bool) → ltb i room ≡ b → pick b (get_or items i (pos 0)) (pos 0) ≡ get_or items i (pos 0)
      go true e = refl
      go false e = sym (get_or-eq_default items (pos 0) (omega (arith, ltb-false i room e)))

  top_first : (d : ℕ) → top_of items d ≡ first (held_values items d)
  unfolding held_values top_of
  top_first zero = refl
  top_first (suc d) =
      let q : suc d - 1 ≡ d = omega arith in
      rw (ne_eqb (suc d) 0 (omega arith), q, item_at_lem d)

  pub storage_answers : (d : ℕ) (op : VecOp) → storage_answer items d op ≡ stack_answer (held_values items d) op
  unfolding storage_answer stack_answer
  storage_answers d (Push v) = refl
  storage_answers d Pop = ap PopOk (top_first d)
  storage_answers d Len = ap LenOk (sym (held_length items d))

  pub storage_leaves : (d : ℕ) (op : VecOp) → HasRoom d op → held_values (items_after items d op) (depth_after d op) ≡ stack_after (held_values items d) op
  unfolding items_after depth_after stack_after frees held_values
  storage_leaves d (Push v) h =
      let m : d < length items = omega arith in
      rw (lt-ltb d room h, add-one d, get_or-set_same items d v (pos 0) m, held_set items d d v (omega arith))
  storage_leaves zero Pop h = refl
  storage_leaves (suc d) Pop h =
      let q : suc d - 1 ≡ d = omega arith in
      rw (ne_eqb (suc d) 0 (omega arith), le-leb (suc d) room h, q, held_set items d d (pos 0) (omega arith))
  storage_leaves d Len h = refl
