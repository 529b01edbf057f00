-- What `invoke` and a step leave of an object that is not too deep is not too deep.
use Rattle.std.specs.Prelude.{◌≡◌, refl, Result, Ok, Err}
use Rattle.families.specs.BareRefusals.{TooDeep, in_shape_exactly}
use Rattle.families.specs.declared.Object.{Object}
use Rattle.families.specs.declared.Op.{Op}
use Rattle.families.specs.declared.Ret.{Ret}
use Rattle.semantics.specs.Calls.{invoke_check, invoke_by, invoke_of, step_of}
use Rattle.semantics.specs.Clear.{invoke_clear}
use Rattle.semantics.specs.Invoking.{left_in_shape}
use Rattle.semantics.specs.Steps.{step_in_shape}
use Rattle.values.specs.declared.refusal.Refusal.{Refusal}

pub invoke_shaped : (o : Object) (op : Op) → ¬ TooDeep o.kind → ¬ TooDeep (invoke_of o op).object.kind
unfolding invoke_of
invoke_shaped o op n = go (invoke_check o.kind op) refl
  where
    go : (c : Result Unit Refusal) → invoke_check o.kind op ≡ c → ¬ TooDeep (invoke_by c o op).object.kind
    go (Err r) e = n
    go (Ok tt) e = let c = (invoke_clear o.kind op).0 e in (in_shape_exactly _).0 (left_in_shape o op c.in_shape c.own)

pub step_shaped : (o : Object) (op : Op) (ret : Ret) → ¬ TooDeep o.kind → ¬ TooDeep (step_of o op ret).object.kind
step_shaped o op ret n = (in_shape_exactly _).0 (step_in_shape o op ret ((in_shape_exactly o.kind).1 n))
