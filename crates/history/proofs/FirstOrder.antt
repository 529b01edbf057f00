-- There is one first order.
use Rattle.std.specs.Prelude.{ℕ, ◌≡◌, refl, List, map}
use Rattle.std.proofs.Common.{sym, ap, ◌∙◌, subst, arith}
use Rattle.std.proofs.Math.Option.{some}
use Rattle.theory.specs.Least.{short, less, same}
use Rattle.history.specs.Object.{Object, Lawful}
use Rattle.history.specs.Rows.{Entry, Rows}
use Rattle.history.specs.Orders.{Item, Order, Before, First}
use Rattle.history.specs.Space.{Node, next, gives, stepped}
use Rattle.history.specs.Replay.{Replays, ended, played}
use Rattle.history.proofs.Replay.{replay_orders}

module _ (O : Object) where
  abbrev threads : Order O → List ℕ
  threads p = map (λ (x : Item O). x.thread) p

  before_both : {p q : Order O} → Before O p q → Before O q p → threads p ≡ threads q
  before_both short short = refl
  before_both (less h) (less k) = absurd (omega arith)
  before_both (less h) (same k v) = absurd (omega arith)
  before_both (same h w) (less k) = absurd (omega arith)
  before_both (same h w) (same k v) = let a = before_both w v in cc

  module _ (rows : Rows O) where
    -- the threads of an order fix its returns
    replays_same : {x : Node O} {p q : Order O} → Replays O rows x p → Replays O rows x q → threads p ≡ threads q → p ≡ q
    replays_same (ended h) (ended k) e = refl
    replays_same (ended h) (played k v) e = absurd (let z : ◌≡◌ {A = ℕ} 0 1 = cc in omega arith)
    replays_same (played h w) (ended k) e = absurd (let z : ◌≡◌ {A = ℕ} 0 1 = cc in omega arith)
    replays_same (played {x = x} {t = t} {r = r} {p = p} h w) (played {t = u} {r = q} {p = o} k v) e =
        let y : u ≡ t = cc in
        let n : next rows x.progress t ≡ some k.entry = ap (next rows x.progress) (sym y) ∙ k.is_next in
        let f : k.entry ≡ h.entry = (let m = h.is_next in cc) in
        let g : gives O x.object h.entry.op h.entry.ret ≡ some q
        = ap (λ (d : Entry O). gives O x.object d.op d.ret) (sym f) ∙ k.is_given in
        let c : r ≡ q = (let m = h.is_given in cc) in
        let z : stepped O x u k.entry ≡ stepped O x t h.entry = rw (y, f) in
        let d : p ≡ o = replays_same w (subst (λ (s : Node O). Replays O rows s o) z v) (cc) in
        cc

    -- Two first orders are the same, with their returns.
    pub first_unique : Lawful O → (s : O.State) (p q : Order O) → First O rows s p → First O rows s q → p ≡ q
    first_unique L s p q a b =
        replays_same ((replay_orders O L rows s p).0 a.legal).0 ((replay_orders O L rows s q).0 b.legal).0
        (before_both (a.least q b.legal) (b.least p a.legal))
