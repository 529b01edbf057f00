-- What a file can say: its header an object that a tester starts with, and its events operations and returns of that object's family.
use Rattle.std.specs.Prelude.{ℕ, ◌/◌, ◌%◌, ◌≤◌, ◌≡◌, refl, Bool, true, false, List, ltb, eqb, length, drop, Ok}
use Rattle.std.proofs.Common.{arith, ltb-false}
use Rattle.history.specs.Events.{Event, invoked, returned}
use Rattle.values.specs.Value.{pick}
use Rattle.values.specs.Sizes.{start_room}
use Rattle.families.specs.Family.{family_of}
use Rattle.families.specs.Families.{families}
use Rattle.values.specs.Coded.{coded}
use Rattle.families.specs.Codes.{op_form, op_from, ret_form, ret_from, start_form, start_from}
use Rattle.families.specs.Objects.{zeros}
use Rattle.families.specs.Refusals.{op_belongs, ret_belongs, start_check}
use Rattle.families.specs.Decoded.{start_clear, op_from_belongs, ret_from_belongs}
use Rattle.values.specs.declared.coded.Coded.{Coded}
use Rattle.values.specs.declared.coded.Form.{Form}
use Rattle.values.specs.declared.coded.Form.TheVariants.{Unknown as NoForm, Bare, Number, Flagged}
use Rattle.values.specs.declared.coded.StartForm.{StartForm}
use Rattle.values.specs.declared.coded.StartForm.TheVariants.{Unknown as NoStart, Number as StartNumber, Flagged as StartFlagged, Values}
use Rattle.families.specs.declared.Kind.{Kind}
use Rattle.families.specs.declared.Object.{Object}
use Rattle.families.specs.declared.Op.{Op}
use Rattle.families.specs.declared.Ret.{Ret}
use Rattle.numbers.specs.declared.refusal.Refusal.{Refusal}
use Rattle.numbers.specs.declared.refusal.Refusal.TheVariants.{TooLong, Unopened, Unknown, StartTooDeep}
use Rattle.numbers.specs.Reader.{Read, got, refused, Reader, later, from, give, refuse, behind, ◌then◌}
use Rattle.numbers.specs.Number.{number}
use Rattle.format.specs.Format.{single, flagged, maybe, payload, single_start, values_from, values, counted, counted_start, start_by, object, start, opening, opens, longest, header, operation_of, operation, answer_of, answer, event_of, event}

-- what is read is so, where something is read
abbrev Says : {A : Type 0} → (A → Type 0) → Read A → Type 0
Says P (got a used) = P a
Says P (refused why) = Unit {0}

abbrev Always : {A : Type 0} → (A → Type 0) → Reader A → Type 0
Always P f = (s : List ℕ) → Says P (f s)

-- nothing is asked of what is read
abbrev Any : {A : Type 0} → A → Type 0
Any a = Unit {0}

module _ {A : Type 0} (P : A → Type 0) where
  later_says : (n : ℕ) (r : Read A) → Says P r → Says P (later n r)
  later_says n (got a used) h = h
  later_says n (refused why) h = tt

  from_says : (f : Reader A) → Always P f → (s : List ℕ) (at : ℕ) → Says P (from f s at)
  unfolding from
  from_says f F s at = later_says at (f (drop at s)) (F (drop at s))

  give_says : (a : A) → P a → Always P (give a)
  unfolding give
  give_says a h s = h

  refuse_says : (why : Refusal) → Always P (refuse why)
  unfolding refuse
  refuse_says why s = tt

  pick_says : (b : Bool) (f g : Reader A) → Always P f → Always P g → Always P (pick b f g)
  pick_says true f g F G = F
  pick_says false f g F G = G

any_says : {A : Type 0} (f : Reader A) → Always (Any {A = A}) f
any_says {A} f s = go (f s)
  where
    go : (r : Read A) → Says (Any {A = A}) r
    go (got a used) = tt
    go (refused why) = tt

module _ {A B : Type 0} (Q : A → Type 0) (P : B → Type 0) where
  then_says : (f : Reader A) (g : A → Reader B) → Always Q f → ((a : A) → Q a → Always P (g a)) → Always P (f then g)
  unfolding ◌then◌
  then_says f g F G s = go (f s) (F s)
    where
      go : (r : Read A) → Says Q r → Says P (behind g s r)
      go (got a used) q = from_says P (g a) (G a q) s used
      go (refused why) q = tt

-- a number, and then what is always so
module _ {A B : Type 0} (P : B → Type 0) where
  after_says : (f : Reader A) (g : A → Reader B) → ((a : A) → Always P (g a)) → Always P (f then g)
  after_says f g G = then_says (Any {A = A}) P f g (any_says f) (λ a q. G a)

-- what follows a number carries one value at most

abbrev Few : Coded → Type 0
Few c = c.count ≤ 1

single_few : (n : ℕ) → Always Few (single n)
unfolding single
single_few n = after_says Few number (λ w. give (coded n 1 w)) (λ w. give_says Few (coded n 1 w) (omega arith))

flagged_few : (n flag : ℕ) → Always Few (flagged n flag)
unfolding flagged
flagged_few n flag =
    pick_says Few (eqb flag 0) _ _ (give_says Few (coded n 0 0) (omega arith))
    (pick_says Few (eqb flag 1) (single n) (refuse Unknown) (single_few n) (refuse_says Few Unknown))

payload_few : (n : ℕ) (f : Form) → Always Few (payload n f)
unfolding payload maybe
payload_few n NoForm = refuse_says Few Unknown
payload_few n Bare = give_says Few (coded n 0 0) (omega arith)
payload_few n Number = single_few n
payload_few n Flagged = after_says Few number (flagged n) (flagged_few n)

-- a header's object

abbrev Starts : Object → Type 0
Starts o = start_check o.kind ≡ Ok tt

single_starts : (n : ℕ) (f : Form) → Always Starts (single_start n f)
unfolding single_start
single_starts n f =
    then_says Few Starts (payload n f) (λ c. give (start_from c zeros)) (payload_few n f)
    (λ c few. give_says Starts (start_from c zeros) (start_clear c zeros (omega arith)))

counted_starts : (n count : ℕ) → Always Starts (counted n count)
unfolding counted values
counted_starts n count = go (ltb start_room count) refl
  where
    go : (b : Bool) → ltb start_room count ≡ b
        → Always Starts (pick b (refuse StartTooDeep) (values_from count 0 zeros then λ items. give (start_from (coded n count 0) items)))
    go true e = refuse_says Starts StartTooDeep
    go false e =
        after_says Starts (values_from count 0 zeros) (λ items. give (start_from (coded n count 0) items))
        (λ items. give_says Starts (start_from (coded n count 0) items) (start_clear (coded n count 0) items (ltb-false start_room count e)))

by_starts : (n : ℕ) (f : StartForm) → Always Starts (start_by n f)
unfolding start_by counted_start
by_starts n NoStart = refuse_says Starts Unknown
by_starts n StartNumber = single_starts n Number
by_starts n StartFlagged = single_starts n Flagged
by_starts n Values = after_says Starts number (counted n) (counted_starts n)

start_starts : Always Starts start
unfolding start object
start_starts = after_says Starts number object (λ n. by_starts n (start_form n))

header_starts : Always Starts header
unfolding header
header_starts s = go (ltb longest (length s)) (opens s)
  where
    go : (long opened : Bool) → Says Starts (pick long (refused TooLong) (pick opened (from start s (length opening)) (refused Unopened)))
    go true true = tt
    go true false = tt
    go false true = from_says Starts start start_starts s (length opening)
    go false false = tt

-- The object of a header is one that a tester starts with.
pub header_clear : (s : List ℕ) (o : Object) (n : ℕ) → header s ≡ got o n → start_check o.kind ≡ Ok tt
header_clear s o n e = rw e at (header_starts s)

-- the operation or the return of an event belongs to the object

module _ (k : Kind) where
  abbrev OpOf : Op → Type 0
  OpOf op = op_belongs k op ≡ Ok tt

  abbrev RetOf : Ret → Type 0
  RetOf ret = ret_belongs k ret ≡ Ok tt

  abbrev pub Belongs : Event families → Type 0
  Belongs (invoked t op) = op_belongs k op ≡ Ok tt
  Belongs (returned t ret) = ret_belongs k ret ≡ Ok tt

  operation_belongs : Always OpOf (operation k)
  unfolding operation operation_of
  operation_belongs =
      after_says OpOf number (operation_of k)
      (λ n. after_says OpOf (payload n (op_form (family_of k) n)) (λ c. give (op_from (family_of k) c))
      (λ c. give_says OpOf (op_from (family_of k) c) (op_from_belongs k c)))

  answer_belongs : Always RetOf (answer k)
  unfolding answer answer_of
  answer_belongs =
      after_says RetOf number (answer_of k)
      (λ n. after_says RetOf (payload n (ret_form (family_of k) n)) (λ c. give (ret_from (family_of k) c))
      (λ c. give_says RetOf (ret_from (family_of k) c) (ret_from_belongs k c)))

  event_says : Always Belongs (event k)
  unfolding event event_of
  event_says =
      after_says Belongs number (event_of k)
      (λ head. pick_says Belongs (eqb (head % 2) 0) _ _
      (then_says OpOf Belongs (operation k) (λ op. give (invoked (head / 2) op)) operation_belongs (λ op h. give_says Belongs (invoked (head / 2) op) h))
      (then_says RetOf Belongs (answer k) (λ ret. give (returned (head / 2) ret)) answer_belongs (λ ret h. give_says Belongs (returned (head / 2) ret) h)))

  pub event_belongs : (s : List ℕ) (v : Event families) (used : ℕ) → event k s ≡ got v used → Belongs v
  event_belongs s v used e = rw e at (event_says s)
