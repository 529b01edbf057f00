-- The path of the levels above a state leads there from the origin, and shows the same order.
use Prim.Native.Nat.{ℕ, zero, suc, ◌≤◌}
use Rattle.std.specs.Prelude.{◌≡◌, List, [], ◌∷◌, ◌++◌, length}
use Rattle.std.proofs.Math.Path.{refl, sym}
use Rattle.std.proofs.Common.{◌∙◌, append_assoc, arith}
use Rattle.std.proofs.Math.ListN.{get_or, take}
use Rattle.std.proofs.Math.Seq.{take-suc}
use Rattle.theory.specs.Undoing.{Fine, fine_fits, fine_parts, shown_above}
use Rattle.stepping.specs.declared.histories.History.{History}
use Rattle.judging.specs.declared.answer.Placed.{Placed}
use Rattle.judging.specs.declared.search.Level.{Level}
use Rattle.judging.specs.Answers.{placed}
use Rattle.judging.specs.Playing.{Situation, origin, given_to, played, reached, Playable}
use Rattle.judging.specs.PlayingLaws.{played_more, reached_more, playable_more}
use Rattle.judging.specs.SearchMachine.{lv_of, undone, Can, S, U}

module _ (needs : ℕ → List ℕ) (h : History) (path : List ℕ) (levels : List Level) where
  -- The first d threads of the path lead to the state s, and they show what the d levels above s do.
  pub record Led (d : ℕ) (s : Situation) : Type 0 where
    pub leads : reached h (origin h) (take d path) ≡ s
    pub shows : (q : List Placed) → shown_above (S needs h) (U needs h) placed (lv_of path levels) d s q ≡ played h (origin h) (take d path) ++ q
    pub playable : Playable h (origin h) (take d path)

  pub led : (d : ℕ) (s : Situation) → d ≤ length path → Fine (S needs h) (U needs h) (lv_of path levels) d s → Led d s
  unfolding shown_above played reached Playable
  led zero s l f =
      let e : s ≡ origin h = (fine_fits (S needs h) (U needs h) (lv_of path levels) 0 s f).begins refl in
      record { leads = sym e; shows = λ q. refl; playable = tt }
  led (suc d) s l f =
      let w = fine_parts (S needs h) (U needs h) (lv_of path levels) d s f in
      one_more w.0 (led d (undone (lv_of path levels d) s) (omega arith) w.1)
    where
      one_more : Can needs h (lv_of path levels d) s → Led d (undone (lv_of path levels d) s) → Led (suc d) s
      one_more can i =
          let t : ℕ = get_or path d 0 in
          let b : Situation = undone (lv_of path levels d) s in
          let p : take (suc d) path ≡ take d path ++ (t ∷ []) = take-suc path d 0 (omega arith) in
          record {
            leads = rw (p, reached_more h (origin h) (take d path) t, i.leads) can.again;
            shows = λ q.
                i.shows (given_to h b t ∷ q)
                ∙ rw (p, played_more h (origin h) (take d path) t, i.leads)
                (sym (append_assoc (played h (origin h) (take d path)) (given_to h b t ∷ []) q));
            playable = rw p (playable_more h (origin h) (take d path) t i.playable (rw i.leads (can.low, can.had)));
          }
