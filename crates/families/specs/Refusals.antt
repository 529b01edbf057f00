-- Why an object, an operation or a return is refused.
use Rattle.std.specs.Prelude.{Bool, false, eqb, Result, Ok, Err}
use Rattle.values.specs.Value.{pick}
use Rattle.values.specs.Sizes.{room}
use Rattle.values.specs.Checks.{in_order}
use Rattle.families.specs.Family.{Family, family_of, op_family, ret_family, family_number}
use Rattle.objects.specs.Stack.{pushed, depth_check, low_check, stack_room}
use Rattle.families.specs.declared.Kind.{Kind}
use Rattle.families.specs.declared.Kind.TheVariants.{Register, WORegister, Vec}
use Rattle.families.specs.declared.Op.{Op}
use Rattle.families.specs.declared.Op.TheVariants.{Register as ORegister, WORegister as OWORegister, Vec as OVec}
use Rattle.families.specs.declared.Ret.{Ret}
use Rattle.families.specs.declared.Ret.TheVariants.{Register as RRegister, WORegister as RWORegister, Vec as RVec}
use Rattle.values.specs.declared.held.Held.{Held}
use Rattle.values.specs.declared.refusal.Refusal.TheVariants.{OtherFamily}
use Rattle.values.specs.declared.refusal.Refusal.{Refusal}

-- whether an operation or a return belongs to an object: 3 for another family

unfoldable pub family_check : Family → Family → Result Unit Refusal
family_check f g = pick (eqb (family_number f) (family_number g)) (Ok tt) (Err OtherFamily)

unfoldable pub op_belongs : Kind → Op → Result Unit Refusal
op_belongs k op = family_check (op_family op) (family_of k)

unfoldable pub ret_belongs : Kind → Ret → Result Unit Refusal
ret_belongs k ret = family_check (ret_family ret) (family_of k)

-- an object out of shape: 9
unfoldable pub shape_check : Kind → Result Unit Refusal
shape_check (Register v) = Ok tt
shape_check (WORegister m) = Ok tt
shape_check (Vec d) = depth_check d

-- an object that a tester can't start with, though it is in shape: 8
unfoldable pub size_check : Kind → Result Unit Refusal
size_check (Register v) = Ok tt
size_check (WORegister m) = Ok tt
size_check (Vec d) = low_check d

-- what a constructor says of a start: 9 comes before 8
unfoldable pub start_check : Kind → Result Unit Refusal
start_check k = in_order (shape_check k) (size_check k)

-- an object without room for one value more
unfoldable pub is_full : Kind → Bool
is_full (Register v) = false
is_full (WORegister m) = false
is_full (Vec d) = eqb d room

-- an operation without room: 7

unfoldable pub room_check : Held → Op → Result Unit Refusal
room_check h (ORegister p) = Ok tt
room_check h (OWORegister p) = Ok tt
room_check h (OVec p) = stack_room h.height p

-- a return that says that its operation took room
unfoldable pub took_room : Ret → Bool
took_room (RRegister q) = false
took_room (RWORegister q) = false
took_room (RVec q) = pushed q

-- a step wants room only where its return says so
unfoldable pub step_room : Held → Op → Ret → Result Unit Refusal
step_room h op ret = pick (took_room ret) (room_check h op) (Ok tt)
