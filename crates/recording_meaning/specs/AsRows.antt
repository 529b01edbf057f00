-- What the two testers hand out tells of their rows.
use Rattle.std.specs.Prelude.{ℕ, ◌*◌, ◌≡◌, refl, Bool, true, false, List, get_or, drop, take, replicate, ltb}
use Rattle.std.proofs.Common.{◌∙◌, length-take, get_or-take, get_or-drop, ltb-true, ltb-false, arith}
use Rattle.std.proofs.Math.ListN.{get_or-eq_default}
use Rattle.history.specs.Lists.{get_d_same}
use Rattle.history.specs.Space.{met}
use Rattle.history.specs.Progress.{met_of}
use Rattle.values.specs.Sizes.{threads}
use Rattle.stepping.specs.Shape.{shape_of}
use Rattle.recording.specs.declared.linearizability.LinearizabilityTester.{LinearizabilityTester}
use Rattle.recording.specs.Testers.{notes_shaped, shaped_tester}
use Rattle.recording_meaning.specs.Reading.{notes_of, no_notes}
use Rattle.recording_meaning.specs.Parts.{pick_right}

pub history_in_shape : (t : LinearizabilityTester) → shaped_tester t ≡ true → shape_of t.history ≡ true
history_in_shape t e = pick_right (notes_shaped t) (shape_of t.history) e

-- notes of zeros

zero_note : (n i u : ℕ) → get_or (notes_of (replicate n 0) i) u 0 ≡ 0
unfolding notes_of
zero_note n i u = go (ltb u threads) refl
  where
    zeros : List ℕ
    zeros = replicate n 0

    go : (b : Bool) → ltb u threads ≡ b → get_or (take threads (drop (i * threads) zeros)) u 0 ≡ 0
    go true e = get_or-take threads (drop (i * threads) zeros) u 0 (ltb-true u threads e) ∙ get_or-drop (i * threads) zeros u 0 ∙ get_d_same n _ 0
    go false e =
        get_or-eq_default (take threads (drop (i * threads) zeros)) 0
        (omega (arith, length-take threads (drop (i * threads) zeros), ltb-false u threads e))

-- they ask nothing, like none
pub zeros_alike : (n i : ℕ) (ps : List ℕ) → met (notes_of (replicate n 0) i) ps ≡ met (no_notes i) ps
zeros_alike n i ps = met_of (notes_of (replicate n 0) i) ps (λ u l. omega (arith, zero_note n i u))
