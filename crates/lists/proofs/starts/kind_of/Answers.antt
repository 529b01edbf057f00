-- A family's number starts an object of that family.
use Rattle.std.specs.Prelude.{ℤ, ◌≡◌, List, Option, Some, None, IfSome}
use Rattle.values.specs.declared.coded.Coded.{Coded}
use Rattle.families.specs.declared.Object.{Object}
use Rattle.families.specs.declared.family.Family.{Family}
use Rattle.families.specs.Family.{family_of, family_number}
use Rattle.families.specs.Codes.{start_from}
use Rattle.families.specs.Decoded.{start_family}
use Rattle.lists.proofs.starts.kind_of.Goals as goal

own : (m : Option Family) (c : Coded) (items : List ℤ) (o : Object) → IfSome m (λ f. c.number ≡ family_number f) → o ≡ start_from c items
    → IfSome m (λ f. family_of o.kind ≡ f)
own (Some f) c items o n e = rw e (start_family f c items n)
own None c items o n e = n

pub returns : goal.returns
returns c = own c.args.family _ _ _ (rw c.bare-coded.ensures c.number_of.ensures) c.start_from-object.ensures
