-- The replay on the record is the replay over the rows that it reads as.
use Rattle.std.proofs.Common.{ℕ, zero, suc, ◌+◌, ◌-◌, ◌*◌, ◌<◌, ◌≤◌, ◌≡◌, refl, sym, ap, ◌∙◌, subst, Bool, true, false, not, List, [], ◌∷◌, add-one, arith, length, replicate, length-set, ltb-true, ltb-false, Ok}
use Rattle.std.proofs.Math.Option.{Option, none, some}
use Rattle.std.proofs.Math.ListN.{get_or}
use Rattle.std.specs.Prelude.{ltb, set, None}
use Rattle.std.specs.Option.{option_map}
use Rattle.theory.specs.Space.{idle}
use Rattle.history.specs.Rows.{Entry, Rows}
use Rattle.history.specs.Recorder.{pending}
use Rattle.history.specs.Space.{Node, next, met, gives, stepped, placing, trying, size, root, Plays}
use Rattle.history.specs.Moves.{falls, plays_move}
use Rattle.history.proofs.Left.{spent}
use Rattle.history.specs.Attempts.{size_root}
use Rattle.values.specs.Value.{pick}
use Rattle.values.specs.Sizes.{threads, capacity, room}
use Rattle.families.specs.Families.{families}
use Rattle.semantics.specs.Calls.{left_by}
use Rattle.families.specs.Placing.{held_of}
use Rattle.families.specs.Refusals.{op_belongs}
use Rattle.families.specs.Room.{start_room_lem, room_fewer}
use Rattle.families.specs.States.{Alike, alike_op}
use Rattle.semantics.specs.Invoking.{holds}
use Rattle.semantics.specs.Roomy.{RoomFor, left_holds, left_full, left_alike, left_roomy}
use Rattle.families.specs.declared.Ret.{Ret}
use Rattle.stepping.specs.declared.histories.Operation.{Operation}
use Rattle.stepping.specs.declared.histories.History.{History}
use Rattle.stepping.specs.Record.{held, operation_at}
use Rattle.stepping.specs.Shape.{shape_of}
use Rattle.recording_meaning.specs.Reading.{Sized, entry_of, rows_of}
use Rattle.recording_meaning.specs.Rowing.{rows_many}
use Rattle.recording_meaning.specs.Parts.{parts_of}
use Rattle.recording_meaning.specs.Shaping.{rows_count}
use Rattle.recording_meaning.specs.ShapeExactly.{shape_exactly}
use Rattle.witness.specs.declared.replay.Stage.{Stage}
use Rattle.witness.specs.Checking.{told, placed, replays}
use Rattle.witness.specs.WordsReplayed.{told_return}
use Rattle.witness.specs.WordsPlayed.{place_of, reaches_of, settled, settle_of, stage, on_stage, stage_at, stage_after, goes_on, play_from, begun, play_of}
use Rattle.witness.proofs.Objects.{settles}
use Rattle.witness.proofs.Entries.{held_many, next_unknown, next_there, next_none}
use Rattle.witness.proofs.Endings.{done_placed}

-- a thread that has a next operation leaves something to place
module _ (rows : Rows families) (x : Node families) (t : ℕ) (e : Entry families) (n : next rows x.progress t ≡ some e) where
  tries : (b : Bool) (g : Option Ret) → placing families x t e b g ≡ idle → ⊥
  tries false g h = let z : ◌≡◌ {A = ℕ} 0 1 = cc in omega arith
  tries true none h = let z : ◌≡◌ {A = ℕ} 0 1 = cc in omega arith
  tries true (some r) h = let z : ◌≡◌ {A = ℕ} 0 1 = cc in omega arith

  some_left : 0 < size families rows x
  some_left = go (size families rows x) refl
    where
      go : (k : ℕ) → size families rows x ≡ k → 0 < k
      go zero z =
          let a : trying families x t (some e) ≡ idle = ap (trying families x t) (sym n) ∙ spent families rows x z t in
          absurd (tries (met e.needs x.progress) (gives families x.object e.op e.ret) a)
      go (suc k) z = omega arith

-- a stage as a situation of history's search
abbrev node_of : Stage → Node families
node_of s = record { progress = s.progress; object = holds s.object }

module _ (notes : List ℕ) (needs : ℕ → List ℕ) (h : History) (z : Sized h) (e : shape_of h ≡ true)
    (timely : (i : ℕ) (ps : List ℕ) → length ps ≡ threads → met (needs i) ps ≡ reaches_of notes (i * threads) ps) where
  abbrev rows : Rows families
  rows = rows_of needs h

  -- the counters are all there, and the object is of the history's kind and has room for all that is not placed
  record Fine (s : Stage) : Type 0 where
    many : length s.progress ≡ threads
    full : length s.object.items ≡ room
    own : Alike h.start.kind s.object.kind
    roomy : RoomFor s.object (size families rows (node_of s))

  module _ (s : Stage) (f : Fine s) (t : ℕ) (ws : List ℕ) where
    -- one place more, at place i of the record
    module _ (i : ℕ) (here : next rows s.progress t ≡ some (entry_of (operation_at h i) (needs i))) (l : i < h.count) where
      abbrev o : Operation
      o = operation_at h i

      op_own : op_belongs s.object.kind o.op ≡ Ok tt
      op_own = alike_op h.start.kind s.object.kind o.op f.own (((shape_exactly h z).1 e).own_op i l)

      -- how many are not placed after it
      abbrev more : ℕ
      more = size families rows (node_of s) - 1

      has_room : RoomFor s.object (suc more)
      has_room =
          let q : size families rows (node_of s) ≡ suc more = omega (arith, some_left rows (node_of s) t _ here) in
          subst (RoomFor s.object) q f.roomy

      abbrev entry : Entry families
      entry = entry_of o (needs i)

      abbrev given : Bool
      given = told (gives families (holds s.object) o.op entry.ret) ws

      abbrev after : Stage
      after = stage (not (pending families entry.ret)) (set s.progress t (get_or s.progress t 0 + 1)) (left_by s.object o.op)

      steps : node_of after ≡ stepped families (node_of s) t entry
      steps = rw (add-one (get_or s.progress t 0), left_holds s.object o.op more f.full op_own has_room)

      module _ (y : given ≡ true) (m : met (needs i) s.progress ≡ true) where
        one_less : size families rows (node_of s) ≡ suc (size families rows (node_of after))
        one_less =
            let g = told_return (gives families (holds s.object) o.op entry.ret) ws y in
            let p : Plays families rows (node_of s) t g.0 = record { entry = entry; is_next = here; is_met = m; is_given = g.1 } in
            falls families rows (node_of s) _ t g.0 (plays_move families rows p) ∙ ap (λ x. suc (size families rows x)) (sym steps)

        fine : Fine after
        fine = record {
          many = length-set s.progress t _ ∙ f.many;
          full = left_full s.object o.op more f.full op_own has_room;
          own = f.own ∙ left_alike s.object o.op more f.full op_own has_room;
          roomy = subst (RoomFor (left_by s.object o.op)) (omega (arith, one_less)) (left_roomy s.object o.op more f.full op_own has_room);
        }

      -- what `go` says of the stage that is left, `on` says of the situation
      settle_step : (go : Stage → Bool) (on : Bool → Node families → Bool) → ((v : Stage) → Fine v → go v ≡ on v.ended (node_of v))
          → met (needs i) s.progress ≡ true
          → goes_on (option_map (on_stage s.progress t) (settle_of s.object o.op o.outcome ws)) go
          ≡ pick given (on (not (pending families entry.ret)) (stepped families (node_of s) t entry)) false
      settle_step go on same m =
          ap (λ x. goes_on (option_map (on_stage s.progress t) x) go) (settles s.object o.op more f.full op_own has_room o.outcome ws) ∙ by_given given refl
        where
          by_given : (b : Bool) → given ≡ b
              → goes_on (option_map (on_stage s.progress t) (settled b (not (pending families entry.ret)) (left_by s.object o.op))) go
              ≡ pick b (on (not (pending families entry.ret)) (stepped families (node_of s) t entry)) false
          by_given true y = same after (fine y m) ∙ ap (on (not (pending families entry.ret))) steps
          by_given false y = refl

    module _ (go : Stage → Bool) (on : Bool → Node families → Bool) (same : (v : Stage) → Fine v → go v ≡ on v.ended (node_of v)) where
      place_step : goes_on (stage_after notes h s t ws) go ≡ placed (node_of s) t ws (next rows s.progress t) on
      unfolding stage_after
      place_step = known (ltb t threads) refl
        where
          few : h.count ≤ capacity
          few = (parts_of h e).few

          timed : (i : ℕ) → next rows s.progress t ≡ some (entry_of (operation_at h i) (needs i)) → i < h.count
              → (b : Bool) → met (needs i) s.progress ≡ b
              → goes_on (pick b (option_map (on_stage s.progress t) (settle_of s.object (operation_at h i).op (operation_at h i).outcome ws)) None) go
              ≡ placed (node_of s) t ws (some (entry_of (operation_at h i) (needs i))) on
          timed i here l true m = settle_step i here l go on same m ∙ rw m
          timed i here l false m = rw m

          there : t < threads → (i : ℕ) → i ≡ place_of (held h) t (get_or s.progress t 0) → (b : Bool) → ltb i (length (held h)) ≡ b
              → goes_on (pick b (pick (reaches_of notes (i * threads) s.progress)
              (option_map (on_stage s.progress t) (settle_of s.object (operation_at h i).op (operation_at h i).outcome ws)) None) None) go
              ≡ placed (node_of s) t ws (next rows s.progress t) on
          there low i q true l =
              let k : i < h.count = omega (arith, ltb-true i (length (held h)) l, held_many needs h z few) in
              let here = next_there needs h z few s.progress f.many t low i q k in
              rw (sym (timely i s.progress f.many), here) (timed i here k (met (needs i) s.progress) refl)
          there low i q false l = rw (next_none needs h z few s.progress f.many t low i q (omega (arith, ltb-false i (length (held h)) l, held_many needs h z few)))

          known : (b : Bool) → ltb t threads ≡ b
              → goes_on (pick b (stage_at notes h s t ws (place_of (held h) t (get_or s.progress t 0))) None) go
              ≡ placed (node_of s) t ws (next rows s.progress t) on
          known true l =
              there (ltb-true t threads l) (place_of (held h) t (get_or s.progress t 0)) refl
              (ltb (place_of (held h) t (get_or s.progress t 0)) (length (held h))) refl
          known false l = rw (next_unknown needs h z few s.progress f.many t (ltb-false t threads l))

  play : (ws : List ℕ) (s : Stage) → Fine s → play_from notes h s ws ≡ replays rows s.ended (node_of s) ws
  unfolding play_from replays
  play [] s f = ap (λ (b : Bool). pick s.ended b false) (sym (done_placed needs h (parts_of h e) s.progress f.many))
  play (t ∷ []) s f = refl
  play (t ∷ n ∷ []) s f = refl
  play (t ∷ n ∷ c ∷ []) s f = refl
  play (t ∷ n ∷ c ∷ v ∷ ws) s f =
      place_step s f t (n ∷ c ∷ v ∷ []) (λ v. play_from notes h v ws) (λ b y. replays rows b y ws) (λ v g. play ws v g)

  pub played : length h.start.items ≡ room → (ws : List ℕ) → play_of notes h ws ≡ replays rows true (root families rows (holds h.start)) ws
  unfolding play_of
  played full ws =
      let w = parts_of h e in
      let at_root : node_of (begun h) ≡ root families rows (holds h.start)
      = ap (λ (n : ℕ). record { progress = replicate n 0; object = holds h.start }) (sym (rows_many needs h)) in
      let all : size families rows (node_of (begun h)) ≡ h.count
      = ap (size families rows) at_root ∙ size_root families rows (holds h.start) ∙ rows_count needs h w z in
      play ws (begun h) (record {
        many = refl;
        full = full;
        own = refl;
        roomy = room_fewer h.start.kind (held_of h.start.kind) capacity _ (omega (arith, all, w.few))
            (start_room_lem h.start.kind ((shape_exactly h z).1 e).startable);
      }) ∙ ap (λ x. replays rows true x ws) at_root
