-- Feeding a tester: any inputs, one after the other, and what of them is recorded. An input is any of the three calls, with any thread number and any
-- operation or return, whether it fits or not.
use Rattle.std.specs.Prelude.{ℕ, suc, ◌≤◌, ◌≡◌, Bool, true, false, cond, ◌||◌, List, [], ◌∷◌, ◌++◌, Result, Ok, Err, is_ok}
use Rattle.history.specs.Events.{Event, Events, invoked, returned, ThreadsBelow}
use Rattle.history.specs.Rows.{Rows}
use Rattle.values.specs.Sizes.{threads, capacity}
use Rattle.families.specs.Refusals.{op_belongs, ret_belongs}
use Rattle.families.specs.Families.{families}
use Rattle.families.specs.declared.Kind.{Kind}
use Rattle.families.specs.declared.Op.{Op}
use Rattle.families.specs.declared.Ret.{Ret}
use Rattle.stepping.specs.EventSteps.{breaks}
use Rattle.recording_meaning.specs.Models.{Model, tester_rows}
use Rattle.stepping.specs.declared.recorded.Reason.{Reason}

-- A call of on_invoke, of on_return, or of on_invret.
pub data Input : Type 0 where
  invoke : ℕ → Op → Input
  return : ℕ → Ret → Input
  invret : ℕ → Op → Ret → Input

abbrev pub Inputs : Type 0
Inputs = List Input

-- The events that inputs name: an invocation, a return, or both in turn.

abbrev pub named : Input → Events families
named (invoke t op) = invoked t op ∷ []
named (return t ret) = returned t ret ∷ []
named (invret t op ret) = invoked t op ∷ returned t ret ∷ []

abbrev pub events_in : Inputs → Events families
events_in [] = []
events_in (v ∷ l) = named v ++ events_in l

-- Events, given one call each.

abbrev pub as_input : Event families → Input
as_input (invoked t op) = invoke t op
as_input (returned t ret) = return t ret

abbrev pub as_inputs : Events families → Inputs
as_inputs [] = []
as_inputs (v ∷ H) = as_input v ∷ as_inputs H

-- 4 or 5
abbrev pub broke : Result Unit Reason → Bool
broke (Ok tt) = false
broke (Err r) = breaks r

-- One of them is 4 or 5.
abbrev pub broken : List (Result Unit Reason) → Bool
broken [] = false
broken (r ∷ l) = broke r || broken l

-- How many of the events are invocations.
abbrev pub invocations_in : Events families → ℕ
invocations_in [] = 0
invocations_in (invoked t op ∷ H) = suc (invocations_in H)
invocations_in (returned t ret ∷ H) = invocations_in H

-- Every event is one that an object of kind k has.
abbrev pub Own : Kind → Events families → Type 0
Own k [] = Unit {0}
Own k (invoked t op ∷ H) = (op_belongs k op ≡ Ok tt) × Own k H
Own k (returned t ret ∷ H) = (ret_belongs k ret ≡ Ok tt) × Own k H

-- Events within document 01's sizes, of an object of kind k: threads 0 to 7, the object's own operations and returns, at most 64 invocations.
pub record InSizes (k : Kind) (H : Events families) : Type 0 where
  pub known : ThreadsBelow families threads H
  pub own : Own k H
  pub room : invocations_in H ≤ capacity

module _ (M : Model) where
  -- The call that an input is: what it draws, and the tester after it.
  abbrev pub give : M.Tester → Input → Result Unit Reason × M.Tester
  give s (invoke t op) = M.on_invoke s t op
  give s (return t ret) = M.on_return s t ret
  give s (invret t op ret) = M.on_invret s t op ret

  -- The tester after the inputs.
  abbrev pub feed : M.Tester → Inputs → M.Tester
  feed s [] = s
  feed s (v ∷ l) = feed (give s v).1 l

  -- What each input drew at its turn.
  abbrev pub drawn : M.Tester → Inputs → List (Result Unit Reason)
  drawn s [] = []
  drawn s (v ∷ l) = (give s v).0 ∷ drawn (give s v).1 l

  -- The events that are recorded of an input. Of on_invret: none where the invocation is refused, and the invocation alone where only the return is.
  abbrev pub takes : M.Tester → Input → Events families
  takes s (invoke t op) = cond (is_ok (M.on_invoke s t op).0) (invoked t op ∷ []) []
  takes s (return t ret) = cond (is_ok (M.on_return s t ret).0) (returned t ret ∷ []) []
  takes s (invret t op ret) =
      cond (is_ok (M.on_invoke s t op).0) (invoked t op ∷ cond (is_ok (M.on_invret s t op ret).0) (returned t ret ∷ []) []) []

  -- The events that were recorded, in their order.
  abbrev pub taken : M.Tester → Inputs → Events families
  taken s [] = []
  taken s (v ∷ l) = takes s v ++ taken (give s v).1 l

  -- All of the inputs are recorded, the history stays valid, and it reads as rows.
  pub record Wellfed (s : M.Tester) (l : Inputs) (rows : Rows families) : Type 0 where
    pub all_taken : taken s l ≡ events_in l
    pub valid : (M.history (feed s l)).valid ≡ true
    pub reads : tester_rows M (feed s l) ≡ rows
