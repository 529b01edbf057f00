-- The loop that replays a path: after d of its threads it has what they make.
use Rattle.std.proofs.Common.{ℕ, suc, ◌+◌, ◌-◌, ◌<◌, ◌≤◌, ◌≡◌, sym, ap, ◌∙◌, subst, List, [], ◌∷◌, ◌++◌, length, take, replicate, take-suc, take_all, length-take-le, ℤ, add-one, arith}
use Rattle.std.proofs.Math.ListN.{get_or}
use Rattle.std.specs.Prelude.{set}
use Rattle.std.proofs.Math.Seq.{append_snoc, set_at}
use Rattle.values.specs.Sizes.{threads, capacity}
use Rattle.families.specs.Placing.{held_of, given_of, leaves_of, acted_of}
use Rattle.families.specs.declared.Ret.{Ret}
use Rattle.values.specs.declared.held.Held.{Held}
use Rattle.values.specs.declared.held.Acted.{Acted}
use Rattle.stepping.specs.declared.histories.History.{History}
use Rattle.stepping.specs.Record.{operation_at}
use Rattle.judging.specs.declared.answer.Placed.{Placed}
use Rattle.judging.specs.Answers.{placed, nobody_there}
use Rattle.judging.specs.Places.{places_of}
use Rattle.judging.specs.PlacesLaws.{places_few}
use Rattle.judging.specs.Playing.{Situation, situation, origin, upcoming, onward, given_to, played, reached, Playable}
use Rattle.judging.specs.PlayingLaws.{HasNext, played_more, reached_more, playable_at, played_length}

-- the order that the first d threads of a path make, and nobody behind it
abbrev pub order_of : History → List ℕ → ℕ → List Placed
order_of h path d = played h (origin h) (take d path) ++ replicate (capacity - d) nobody_there

pub record Replaying (h : History) (path : List ℕ) (s : Situation) (order : List Placed) (d : ℕ) : Type 0 where
  pub few : h.count ≤ capacity
  pub within : length path ≤ capacity
  pub playable : Playable h (origin h) path
  pub here : s ≡ reached h (origin h) (take d path)
  pub so_far : order ≡ order_of h path d

module _ {h : History} {path : List ℕ} {s : Situation} {order : List Placed} {d : ℕ} (r : Replaying h path s order d) (more : d < length path) where
  abbrev own : ℕ
  own = get_or path d 0

  has_next : HasNext h s (get_or path d 0)
  has_next = subst (λ (x : Situation). HasNext h x (get_or path d 0)) (sym r.here) (playable_at h (origin h) path d r.playable more)

  pub own_low : get_or path d 0 < threads
  own_low = has_next.0

  pub has : get_or s.progress (get_or path d 0) 0 < length (places_of h (get_or path d 0))
  has = has_next.1

  pub few_placed : get_or s.progress (get_or path d 0) 0 < capacity
  few_placed = omega (arith, has, places_few h own h.count, r.few)

  take_more : take (d + 1) path ≡ take d path ++ (own ∷ [])
  take_more = rw (add-one d) (take-suc path d 0 more)

  -- one thread more is replayed, with its operation's place and what `given` and `act` hand back
  module _ (at : ℕ) (place : at ≡ get_or (places_of h (get_or path d 0)) (get_or s.progress (get_or path d 0) 0) 0)
      (ret : Ret) (e : ret ≡ given_of s.items s.held (operation_at h at).op (operation_at h at).outcome)
      (acted : Acted) (f : acted ≡ acted_of s.items s.held (operation_at h at).op)
      (left : List ℤ) (g : left ≡ leaves_of s.items s.held (operation_at h at).op) where
    same : operation_at h at ≡ upcoming h s own
    same = ap (operation_at h) place

    reached_now : situation left acted.held (set s.progress own (get_or s.progress own 0 + 1)) ≡ reached h (origin h) (take (d + 1) path)
    unfolding acted_of
    reached_now =
        let on : situation left acted.held (set s.progress own (get_or s.progress own 0 + 1)) ≡ onward h s own = rw (g, f, same) in
        on
        ∙ ap (λ (x : Situation). onward h x own) r.here
        ∙ sym (ap (reached h (origin h)) take_more ∙ reached_more h (origin h) (take d path) own)

    order_now : set order d (placed own ret) ≡ order_of h path (d + 1)
    order_now =
        let before : List Placed = played h (origin h) (take d path) in
        let behind : List Placed = replicate (capacity - (d + 1)) nobody_there in
        let long : length before ≡ d = played_length h (origin h) (take d path) ∙ length-take-le d path (omega (arith, more)) in
        let one : replicate (capacity - d) nobody_there ≡ nobody_there ∷ behind
        = (let k : capacity - d ≡ suc (capacity - (d + 1)) = omega (arith, r.within) in rw k) in
        let given : placed own ret ≡ given_to h s own = rw (e, same) in
        ap (λ (l : List Placed). set l d (placed own ret)) (r.so_far ∙ ap (λ (l : List Placed). before ++ l) one)
        ∙ set_at before nobody_there behind (placed own ret) d long
        ∙ ap (λ (x : Placed). before ++ (x ∷ behind)) (given ∙ ap (λ (x : Situation). given_to h x own) r.here)
        ∙ sym (append_snoc before (given_to h (reached h (origin h) (take d path)) own) behind)
        ∙ ap (λ (l : List Placed). l ++ behind) (sym (ap (played h (origin h)) take_more ∙ played_more h (origin h) (take d path) own))

    pub replay_more : Replaying h path (situation left acted.held (set s.progress (get_or path d 0) (get_or s.progress (get_or path d 0) 0 + 1)))
        (set order d (placed (get_or path d 0) ret)) (d + 1)
    replay_more = record { few = r.few; within = r.within; playable = r.playable; here = reached_now; so_far = order_now }

-- before the first
pub replay_start : (h : History) (path : List ℕ) → h.count ≤ capacity → length path ≤ capacity → Playable h (origin h) path
    → (held : Held) → held ≡ held_of h.start.kind → (last : Placed) → last ≡ nobody_there
    → Replaying h path (situation h.start.items held (replicate threads 0)) (replicate capacity last) 0
unfolding played reached
replay_start h path few within playable held e last f =
    record { few = few; within = within; playable = playable; here = rw e; so_far = rw f }

-- behind the last
pub replay_end : {h : History} {path : List ℕ} {s : Situation} {order : List Placed} → Replaying h path s order (length path)
    → order ≡ played h (origin h) path ++ replicate (capacity - length path) nobody_there
replay_end {h} {path} r = r.so_far ∙ ap (λ (l : List ℕ). played h (origin h) l ++ replicate (capacity - length path) nobody_there) (take_all (length path) path (omega arith))
