-- The ways to an end in the search's tree are exactly the legal orders.
use Rattle.std.specs.Prelude.{ℕ, ◌≡◌, refl, ◌↔◌, Bool, true, false, [], ◌∷◌}
use Rattle.std.proofs.Common.{ap, subst, arith}
use Rattle.theory.specs.Tree.{Way}
use Rattle.theory.specs.Space.{Leads, ends, goes}
use Rattle.theory.specs.Ways.{grow_ways}
use Rattle.history.specs.Object.{Object, Lawful}
use Rattle.history.specs.Rows.{Rows}
use Rattle.history.specs.Orders.{Order, LegalOrder}
use Rattle.history.specs.Space.{Node, all_placed, stepped, space, size, root, Plays}
use Rattle.history.specs.Moves.{move_plays, plays_move, next_below, falls}
use Rattle.history.specs.Replay.{Replays, ended, played}
use Rattle.history.specs.Endings.{Tight}
use Rattle.history.proofs.Endings.{legal_orders}
use Rattle.history.specs.Ways.{Steps, searched, strip}

module _ (O : Object) (rows : Rows O) where
  leads_replays : {x : Node O} {p : Steps O rows} → Leads (space O rows) x p → Replays O rows x (strip O rows p)
  leads_replays (ends h) = ended h
  leads_replays (goes {x = x} {y = y} {l = r} {t = t} o b m w) =
      let q = move_plays O rows x y t r m in
      played q.0 (rw q.1 at (leads_replays w))

  leads_tight : {x : Node O} {p : Steps O rows} → Leads (space O rows) x p → Tight O rows x.progress (strip O rows p)
  leads_tight (ends h) = tt
  leads_tight (goes {x = x} {y = y} {l = r} {t = t} {p = p} o b m w) =
      let q = move_plays O rows x y t r m in
      (o, subst (λ (z : Node O). Tight O rows z.progress (strip O rows p)) q.1 (leads_tight w))

  -- one step on
  leads_on : {x : Node O} {t : ℕ} {r : O.Ret} {p : Steps O rows} (h : Plays O rows x t r) → all_placed O rows x.progress ≡ false
      → Leads (space O rows) (stepped O x t h.entry) p → Leads (space O rows) x (record { thread = t; label = r; to = stepped O x t h.entry } ∷ p)
  leads_on {x} {t} h o w = goes o (next_below rows x.progress t h.entry h.is_next) (plays_move O rows h) w

  -- whatever the replay takes holds a way: up to where every completed operation is placed
  replays_lead : {x : Node O} {p : Order O} → Replays O rows x p → (q : Steps O rows) × Leads (space O rows) x q
  replays_lead (ended h) = ([], ends h)
  replays_lead (played {x = x} {t = t} {r = r} h w) = go (all_placed O rows x.progress) refl (replays_lead w)
    where
      go : (b : Bool) → all_placed O rows x.progress ≡ b → (q : Steps O rows) × Leads (space O rows) (stepped O x t h.entry) q
          → (q : Steps O rows) × Leads (space O rows) x q
      go true o i = ([], ends o)
      go false o i = (record { thread = t; label = r; to = stepped O x t h.entry } ∷ i.0, leads_on h o i.1)

  -- and with no step too many it is one
  tight_leads : {x : Node O} {p : Order O} → Replays O rows x p → Tight O rows x.progress p → (q : Steps O rows) × Leads (space O rows) x q × (strip O rows q ≡ p)
  tight_leads (ended h) d = ([], ends h, refl)
  tight_leads (played {x = x} {t = t} {r = r} h w) d =
      let i = tight_leads w d.1 in (
        record { thread = t; label = r; to = stepped O x t h.entry } ∷ i.0,
        leads_on h d.0 i.1,
        ap (λ (p : Order O). record { thread = t; ret = r } ∷ p) i.2,
      )

  module _ (L : Lawful O) (s : O.State) where
    pub way_order : {q : Steps O rows} → Leads (space O rows) (root O rows s) q → LegalOrder O rows s (strip O rows q)
    way_order {q} w = (legal_orders O L rows s (strip O rows q)).1 (leads_replays w, leads_tight w)

    pub order_way : (p : Order O) → LegalOrder O rows s p → (q : Steps O rows) × Leads (space O rows) (root O rows s) q × (strip O rows q ≡ p)
    order_way p w = let l = (legal_orders O L rows s p).0 w in tight_leads l.0 l.1

    -- The ways in the search's tree are exactly the legal orders.
    pub ways : (p : Order O) → LegalOrder O rows s p ↔ ((q : Steps O rows) × Way (searched O rows s) q × (strip O rows q ≡ p))
    ways p = (
      λ w. let z = order_way p w in (z.0, (in_tree z.0).1 z.1, z.2),
      λ w. subst (LegalOrder O rows s) w.2 (way_order ((in_tree w.0).0 w.1)),
    )
      where
        in_tree : (q : Steps O rows) → Way (searched O rows s) q ↔ Leads (space O rows) (root O rows s) q
        in_tree q = grow_ways (space O rows) (size O rows) (falls O rows) (size O rows (root O rows s)) (root O rows s) q (omega arith)

    -- A legal order exists exactly if the replay takes some order, whether or not it takes a step too many.
    pub some_legal : ((p : Order O) × LegalOrder O rows s p) ↔ ((p : Order O) × Replays O rows (root O rows s) p)
    some_legal = (
      λ w. (w.0, ((legal_orders O L rows s w.0).0 w.1).0),
      λ w. let z = replays_lead w.1 in (strip O rows z.0, way_order z.1),
    )
