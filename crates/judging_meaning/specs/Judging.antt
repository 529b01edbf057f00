-- What a judge's answers mean: when each verdict is given, the order that comes with it, and the attempts that are counted.
use Rattle.std.specs.Prelude.{ℕ, ◌-◌, ◌≤◌, ◌<◌, min, ◌≡◌, ◌↔◌, ◌⊎◌, ◌≢◌, true, false, map, length, take, drop, replicate}
use Rattle.theory.specs.Tree.{count}
use Rattle.history.specs.Events.{Events}
use Rattle.history.specs.Orders.{Item, Order as Places, LegalOrder, First}
use Rattle.history.specs.Ways.{searched}
use Rattle.values.specs.Sizes.{capacity}
use Rattle.families.specs.Families.{State, families}
use Rattle.semantics.specs.Invoking.{holds}
use Rattle.families.specs.declared.Object.{Object}
use Rattle.recording_meaning.specs.Models.{Model, tester_rows}
use Rattle.recording_meaning.specs.Inputs.{Inputs, broken, feed, drawn, taken}
use Rattle.recording_meaning.specs.Meaning.{Fresh}
use Rattle.judging.specs.declared.answer.Answer.{Answer}
use Rattle.judging.specs.declared.answer.Placed.{Placed}
use Rattle.judging.specs.declared.answer.Verdict.{Verdict}
use Rattle.judging.specs.declared.answer.Verdict.TheVariants.{Order, NoOrder, Undecided, Invalid}
use Rattle.judging.specs.Answers.{is_consistent, nobody_there, judge_of}

-- A place of an answer, as a place of an order.
abbrev pub item : Placed → Item families
item p = record { thread = p.thread; ret = p.ret }

-- The order in an answer: its first places, as many as its length says.
abbrev pub order_in : Answer → Places families
order_in a = map item (take a.length a.order)

module _ (M : Model) where
  -- The state that a tester's orders start from: that of its initial object.
  abbrev pub start_of : M.Tester → State
  start_of s = holds (M.history s).start

  -- The attempts of the search without a budget.
  abbrev pub needed : M.Tester → ℕ
  needed s = count (searched families (tester_rows M s) (start_of s))

  -- A legal order of what is recorded exists.
  abbrev pub HasOrder : M.Tester → Type 0
  HasOrder s = (p : Places families) × LegalOrder families (tester_rows M s) (start_of s) p

  -- In shape, with a valid history; and not so.

  abbrev pub Sound : M.Tester → Type 0
  Sound s = (M.shaped s ≡ true) × ((M.history s).valid ≡ true)

  abbrev pub Unsound : M.Tester → Type 0
  Unsound s = (M.shaped s ≡ false) ⊎ ((M.history s).valid ≡ false)

  -- When each verdict is given under the budget b.
  abbrev pub VerdictWhen : M.Tester → ℕ → Verdict → Type 0
  VerdictWhen s b Order = Sound s × (needed s ≤ b) × HasOrder s
  VerdictWhen s b NoOrder = Sound s × (needed s ≤ b) × (HasOrder s → ⊥)
  VerdictWhen s b Undecided = Sound s × (b < needed s)
  VerdictWhen s b Invalid = Unsound s

  -- What the answer a of the tester s under the budget b has to be.
  pub record Answered (s : M.Tester) (b : ℕ) (a : Answer) : Type 0 where
    -- each verdict exactly under its condition
    pub verdict_exactly : (v : Verdict) → (a.verdict ≡ v) ↔ VerdictWhen s b v
    -- Order comes with the first order: legal, and the least of the legal ones
    pub order_first : a.verdict ≡ Order → First families (tester_rows M s) (start_of s) (order_in a)
    -- the attempts made are those of the search without a budget, as far as the budget goes
    pub attempts_made : Sound s → a.attempts ≡ min b (needed s)
    -- none for Invalid
    pub invalid_attempts : a.verdict ≡ Invalid → a.attempts ≡ 0
    -- for Undecided the budget
    pub undecided_attempts : a.verdict ≡ Undecided → a.attempts ≡ b
    -- and never more than the budget
    pub within_budget : a.attempts ≤ b
    -- the length is that of the order, which fits in the places of an answer
    pub length_is : length (order_in a) ≡ a.length
    pub length_fits : M.Lengths s → a.length ≤ capacity
    -- 0 without Order
    pub no_length : a.verdict ≢ Order → a.length ≡ 0
    -- nobody stands behind the order
    pub nobody_behind : drop a.length a.order ≡ replicate (capacity - a.length) nobody_there
    -- consistent exactly for Order
    pub consistent_exactly : (is_consistent a.verdict ≡ true) ↔ (a.verdict ≡ Order)

  -- Every answer of the judge is so.
  abbrev pub Judges : Type 0
  Judges = (s : M.Tester) (b : ℕ) → Answered s b (judge_of M s b)

  -- A tester fed from fresh, whatever the inputs, of the three calls in any order, is judged by what of them was recorded, where Meets says of events,
  -- from an object on, that they meet the model.
  pub record JudgesFed (Meets : State → Events families → Type 0) (start : Object) (l : Inputs) (b : ℕ) (a : Answer) : Type 0 where
    -- Invalid exactly if some input drew 4 or 5
    pub invalid_fed : (a.verdict ≡ Invalid) ↔ (broken (drawn M (M.new start) l) ≡ true)
    -- if none did, from the object o that the constructor began with, the start given or what stands in for it: Order exactly if the budget covers the
    -- search and the events meet the model, No order exactly if it does and they do not
    pub order_fed : (o : Object) → Fresh M o (M.new start) → broken (drawn M (M.new start) l) ≡ false
        → (a.verdict ≡ Order) ↔ ((needed (feed M (M.new start) l) ≤ b) × Meets (holds o) (taken M (M.new start) l))
    pub no_order_fed : (o : Object) → Fresh M o (M.new start) → broken (drawn M (M.new start) l) ≡ false
        → (a.verdict ≡ NoOrder) ↔ ((needed (feed M (M.new start) l) ≤ b) × (Meets (holds o) (taken M (M.new start) l) → ⊥))
    -- and Undecided exactly if the budget is less than what the search needs
    pub undecided_fed : broken (drawn M (M.new start) l) ≡ false → (a.verdict ≡ Undecided) ↔ (b < needed (feed M (M.new start) l))

  abbrev pub JudgesFresh : (State → Events families → Type 0) → Type 0
  JudgesFresh Meets = (start : Object) (l : Inputs) (b : ℕ) → JudgesFed Meets start l b (judge_of M (feed M (M.new start) l) b)
