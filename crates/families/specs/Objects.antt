-- Objects: how each is made, the default of its family, and what fills arrays.
use Rattle.std.specs.Prelude.{ℕ, List, replicate, ℤ, pos, Option, None}
use Rattle.values.specs.Sizes.{room}
use Rattle.families.specs.declared.Kind.{Kind}
use Rattle.families.specs.declared.Kind.TheVariants.{Register, WORegister, Vec}
use Rattle.families.specs.declared.Object.{Object}
use Rattle.families.specs.declared.Op.{Op}
use Rattle.families.specs.declared.Op.TheVariants.{Register as ORegister}
use Rattle.families.specs.declared.Ret.{Ret}
use Rattle.families.specs.declared.Ret.TheVariants.{Register as RRegister}
use Rattle.objects.specs.declared.register.RegisterOp.TheVariants.{Write}
use Rattle.objects.specs.declared.register.RegisterRet.TheVariants.{WriteOk}

abbrev pub zeros : List ℤ
zeros = replicate room (pos 0)

abbrev pub object : Kind → List ℤ → Object
object k is = record { kind = k; items = is }

unfoldable pub new_register : ℤ → Object
new_register v = object (Register v) zeros

unfoldable pub new_once : Option ℤ → Object
new_once m = object (WORegister m) zeros

unfoldable pub new_stack : List ℤ → ℕ → Object
new_stack is d = object (Vec d) is

-- The default of a family stands in for an object that a tester can't start with.
unfoldable pub stand_in : Kind → Object
stand_in (Register v) = new_register (pos 0)
stand_in (WORegister m) = new_once None
stand_in (Vec d) = new_stack zeros 0

-- what stands in a place of an array that no operation, or no return, has taken

abbrev pub no_op : Op
no_op = ORegister (Write (pos 0))

abbrev pub no_ret : Ret
no_ret = RRegister WriteOk
