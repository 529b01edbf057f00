-- A history of steps on a bare object is the Rust's `is_valid_history` where none of them is refused, and within document 01's sizes none is.
use Rattle.std.specs.Prelude.{ℕ, suc, ◌≡◌, Bool, true, false, List, [], ◌∷◌, map, Result, Ok, Err}
use Rattle.std.proofs.Math.Path.{refl}
use Rattle.std.proofs.Common.{sym, ap, ◌∙◌, subst}
use Rattle.std.proofs.Math.ListN.{length}
use Rattle.values.specs.Value.{pick}
use Rattle.values.specs.Sizes.{room}
use Rattle.families.specs.declared.family.Family.{Family}
use Rattle.families.specs.Family.{family_of, op_family, ret_family}
use Rattle.families.specs.Placing.{held_of, leaves_wrong}
use Rattle.families.specs.PlacingUndone.{leaves_length}
use Rattle.families.specs.Refusals.{shape_check, room_check, took_room, step_room}
use Rattle.families.specs.Room.{own_op, own_ret, room_shape, room_clear}
use Rattle.families.specs.RustObjects.{RefObj, is_valid_step, is_valid_history, ref_objects, ref_obj}
use Rattle.families.specs.declared.Object.{Object}
use Rattle.families.specs.declared.Op.{Op}
use Rattle.families.specs.declared.Ret.{Ret}
use Rattle.values.specs.declared.refusal.Refusal.{Refusal}
use Rattle.semantics.specs.Calls.{step_check, right_by, left_by, stepped, step_by, step_of}
use Rattle.semantics.specs.Clear.{StepClear, step_clear}
use Rattle.semantics.specs.Histories.{Turn, onward, taken, history_by, history_of}
use Rattle.semantics.specs.Steps.{step_yes_left}
use Rattle.semantics.specs.Roomy.{RoomFor, left_alike, left_roomy}
use Rattle.semantics.specs.RustCalls.{step_says_as, step_leaves_as}
use Rattle.semantics.specs.declared.Stepped.{Stepped}

-- The steps, as the Rust is given them.
abbrev pub pairs : List Turn → List (Op × Ret)
pairs ts = map (λ (t : Turn). (t.op, t.ret)) ts

module _ (o : Object) (op : Op) (ret : Ret) where
  -- a step that says yes or no was not refused
  told_clear : (b : Bool) → (step_of o op ret).said ≡ Ok b → StepClear o.kind op ret
  unfolding step_of
  told_clear b e = go (step_check o.kind op ret) refl e
    where
      go : (c : Result Unit Refusal) → step_check o.kind op ret ≡ c → (step_by c o op ret).said ≡ Ok b → StepClear o.kind op ret
      go (Ok tt) h e = (step_clear o.kind op ret).0 h
      go (Err r) h e = absurd cc

  -- and leaves as many items
  step_full : length o.items ≡ room → length (step_of o op ret).object.items ≡ room
  unfolding step_of left_by
  step_full full = go (step_check o.kind op ret) (right_by o op ret) (leaves_wrong op ret)
    where
      left : length (left_by o op).items ≡ room
      left = leaves_length o.items (held_of o.kind) op ∙ full

      by : (b w : Bool) → length (pick b (stepped (Ok true) (left_by o op)) (pick w (stepped (Ok false) (left_by o op)) (stepped (Ok false) o))).object.items ≡ room
      by true w = left
      by false true = left
      by false false = full

      go : (c : Result Unit Refusal) (b w : Bool) → length (step_by c o op ret).object.items ≡ room
      go (Err r) b w = full
      go (Ok tt) b w = by (right_by o op ret) (leaves_wrong op ret)

  -- what the Rust's step is then
  step_as : length o.items ≡ room → (b : Bool) → (step_of o op ret).said ≡ Ok b → is_valid_step (ref_obj o) op ret ≡ (b, ref_obj (step_of o op ret).object)
  step_as full b e =
      let c = told_clear b e in
      let said = step_says_as o op full ret c in
      let h : (is_valid_step (ref_obj o) op ret).0 ≡ b = cc in
      ap (λ (d : Bool). (d, (is_valid_step (ref_obj o) op ret).1)) h ∙ ap (λ (r : RefObj). (b, r)) (sym (step_leaves_as o op full ret c))

-- the steps of a history, from an object on
taken_as : (ts : List Turn) (o : Object) → length o.items ≡ room → (b : Bool) → (taken ts o).said ≡ Ok b
    → is_valid_history ref_objects (pairs ts) (ref_obj o) ≡ (b, ref_obj (taken ts o).object)
unfolding taken
taken_as [] o full b e = let h : true ≡ b = cc in ap (λ (d : Bool). (d, ref_obj o)) h
taken_as (t ∷ ts) o full b e = go x.said refl e (λ h. taken_as ts x.object (step_full o t.op t.ret full) b h)
  where
    x : Stepped
    x = step_of o t.op t.ret

    go : (s : Result Bool Refusal) → x.said ≡ s → (onward s x (taken ts)).said ≡ Ok b
        → ((taken ts x.object).said ≡ Ok b → is_valid_history ref_objects (pairs ts) (ref_obj x.object) ≡ (b, ref_obj (taken ts x.object).object))
        → is_valid_history ref_objects (pairs (t ∷ ts)) (ref_obj o) ≡ (b, ref_obj (onward s x (taken ts)).object)
    go (Ok true) h e f = rw (step_as o t.op t.ret full true h) (f e)
    go (Ok false) h e f = let no : b ≡ false = cc in rw (step_as o t.op t.ret full false h, no)
    go (Err r) h e f = absurd cc

-- `is_valid_history` says and leaves what the Rust's does, unless it is refused.
pub history_as : (ts : List Turn) (o : Object) → length o.items ≡ room → (b : Bool) → (history_of o ts).said ≡ Ok b
    → is_valid_history ref_objects (pairs ts) (ref_obj o) ≡ (b, ref_obj (history_of o ts).object)
unfolding history_of
history_as ts o full b e = go (shape_check o.kind) e
  where
    go : (c : Result Unit Refusal) → (history_by c o ts).said ≡ Ok b → is_valid_history ref_objects (pairs ts) (ref_obj o) ≡ (b, ref_obj (history_by c o ts).object)
    go (Err r) e = absurd cc
    go (Ok tt) e = taken_as ts o full b e

-- Steps of one family, operations and returns.
abbrev pub AllOwn : Family → List Turn → Type 0
AllOwn f [] = Unit {0}
AllOwn f (t ∷ ts) = (op_family t.op ≡ f) × (ret_family t.ret ≡ f) × AllOwn f ts

-- a step with room is not refused
room_step : (o : Object) (op : Op) (ret : Ret) (n : ℕ) → RoomFor o (suc n) → op_family op ≡ family_of o.kind → ret_family ret ≡ family_of o.kind
    → StepClear o.kind op ret
unfolding step_room
room_step o op ret n roomy f g =
    let own = (own_op o.kind op).1 f in
    record {
      in_shape = room_shape o.kind (suc n) roomy;
      own = own;
      own_ret = (own_ret o.kind ret).1 g;
      has_room = either (took_room ret) (room_clear o.kind (held_of o.kind) op n own roomy);
    }
  where
    either : (b : Bool) → room_check (held_of o.kind) op ≡ Ok tt → pick b (room_check (held_of o.kind) op) (Ok tt) ≡ Ok tt
    either true c = c
    either false c = refl

taken_told : (ts : List Turn) (o : Object) → length o.items ≡ room → RoomFor o (length ts) → AllOwn (family_of o.kind) ts
    → (b : Bool) × ((taken ts o).said ≡ Ok b)
unfolding taken
taken_told [] o full roomy own = (true, refl)
taken_told (t ∷ ts) o full roomy own =
    go (is_valid_step (ref_obj o) t.op t.ret).0 (step_says_as o t.op full t.ret clear)
    (λ y. let e = step_yes_left o t.op t.ret y in
    taken_told ts x.object (step_full o t.op t.ret full)
    (subst (λ (p : Object). RoomFor p (length ts)) (sym e) (left_roomy o t.op (length ts) full clear.own roomy))
    (subst (λ (f : Family). AllOwn f ts) (left_alike o t.op (length ts) full clear.own roomy ∙ ap (λ (p : Object). family_of p.kind) (sym e)) own.2))
  where
    x : Stepped
    x = step_of o t.op t.ret

    clear : StepClear o.kind t.op t.ret
    clear = room_step o t.op t.ret (length ts) roomy own.0 own.1

    go : (b : Bool) → x.said ≡ Ok b → (x.said ≡ Ok true → (c : Bool) × ((taken ts x.object).said ≡ Ok c))
        → (c : Bool) × ((onward x.said x (taken ts)).said ≡ Ok c)
    go true y f = rw y (f y)
    go false y f = rw y (false, refl)

-- Within document 01's sizes none is refused: an object with room for as many operations as there are steps, all of its family.
pub history_in_sizes : (ts : List Turn) (o : Object) → length o.items ≡ room → RoomFor o (length ts) → AllOwn (family_of o.kind) ts
    → ((history_of o ts).said ≡ Ok (is_valid_history ref_objects (pairs ts) (ref_obj o)).0)
    × (ref_obj (history_of o ts).object ≡ (is_valid_history ref_objects (pairs ts) (ref_obj o)).1)
unfolding history_of
history_in_sizes ts o full roomy own =
    let shape = room_shape o.kind (length ts) roomy in
    let told = taken_told ts o full roomy own in
    let said : (history_of o ts).said ≡ Ok told.0 = rw shape told.1 in
    let same = history_as ts o full told.0 said in
    (said ∙ ap (λ (x : Bool × RefObj). Ok x.0) (sym same), ap (λ (x : Bool × RefObj). x.1) (sym same))
