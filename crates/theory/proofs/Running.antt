-- After b attempts the machine stands where the walk stands: its outcome is the walk's under the budget b.
use Rattle.std.specs.Prelude.{ℕ, zero, suc, ◌+◌, ◌≡◌, refl, Bool, true, false, cond, List, [], ◌∷◌}
use Rattle.std.proofs.Common.{sym, ap, ◌∙◌, zero-add, suc-add, arith}
use Rattle.std.proofs.Math.Option.{Option, none, some}
use Rattle.theory.specs.Tree.{Tree, done, stuck, turned, placed}
use Rattle.theory.specs.Budget.{Judged, whole, broken, cut, judge}
use Rattle.theory.proofs.Verdicts.{cut_enough, cut_short}
use Rattle.theory.specs.Store.{Store, none_stored, Found, found, once_more, go_on, after, enter, walk}
use Rattle.theory.proofs.Store.{walk_plain}
use Rattle.theory.specs.Machine.{Level, State, state, trail, settle, attempt, run, start, outcome}

module _ {E M : Type 0} (Z : Store E M) where
  -- what the levels above come to, where the walk below them came to x
  abbrev resume : Found E M → List (Level E) → Found E M
  resume x [] = x
  resume x (l ∷ ls) = resume (after Z l.edge x (walk Z l.rest)) ls

  -- what is still to come
  abbrev coming : State E M → Found E M
  coming x = resume (walk Z x.here x.store) x.above

  -- what b attempts more will come to
  abbrev promised : State E M → ℕ → Judged E
  promised x b = cut (x.made + b) (coming x).way (x.made + (coming x).tries)

  -- below the root something is left to try, or it is an end
  abbrev Settled : Tree E → List (Level E) → Type 0
  Settled s [] = Unit {0}
  Settled done (l ∷ ls) = Unit {0}
  Settled stuck (l ∷ ls) = ⊥
  Settled (turned r) (l ∷ ls) = Unit {0}
  Settled (placed e s r) (l ∷ ls) = Unit {0}

  -- x is settled, with n attempts made and f to come
  record Stands (x : State E M) (n : ℕ) (f : Found E M) : Type 0 where
    settled : Settled x.here x.above
    attempts : x.made ≡ n
    left : coming x ≡ f

  settle_stands : (ls : List (Level E)) (s : Tree E) (n : ℕ) (m : M) → Stands (settle Z ls s n m) n (resume (walk Z s m) ls)
  settle_stands [] s n m = record { settled = tt; attempts = refl; left = refl }
  settle_stands (l ∷ ls) done n m = record { settled = tt; attempts = refl; left = refl }
  settle_stands (l ∷ ls) stuck n m =
      let x = settle_stands ls l.rest n (Z.add l.edge m) in
      record { settled = x.settled; attempts = x.attempts; left = x.left ∙ rw zero-add }
  settle_stands (l ∷ ls) (turned r) n m = record { settled = tt; attempts = refl; left = refl }
  settle_stands (l ∷ ls) (placed e s r) n m = record { settled = tt; attempts = refl; left = refl }

  enter_stands : (t : Bool) (e : E) (s r : Tree E) (ls : List (Level E)) (n : ℕ) (m : M)
      → Stands (cond t (settle Z ls r n m) (settle Z (record { edge = e; rest = r } ∷ ls) s n m)) n (resume (enter Z t e (walk Z s) (walk Z r) m) ls)
  enter_stands true e s r ls n m = settle_stands ls r n m
  enter_stands false e s r ls n m = settle_stands (record { edge = e; rest = r } ∷ ls) s n m

  -- an attempt below the levels above is an attempt of the whole

  go_on_once : (e : E) (a : Option (List E)) (n : ℕ) (m : M) (rest : M → Found E M)
      → go_on Z e a (suc n) m rest ≡ once_more (go_on Z e a n m rest)
  go_on_once e (some p) n m rest = refl
  go_on_once e none n m rest = rw suc-add

  resume_once : (ls : List (Level E)) (x : Found E M) → resume (once_more x) ls ≡ once_more (resume x ls)
  resume_once [] x = refl
  resume_once (l ∷ ls) x =
      ap (λ (y : Found E M). resume y ls) (go_on_once l.edge x.way x.tries x.store (walk Z l.rest))
      ∙ resume_once ls (after Z l.edge x (walk Z l.rest))

  -- a way that is found below the levels above is a way of the whole
  resume_some : (ls : List (Level E)) (p : List E) (m : M) → resume (found (some p) 0 m) ls ≡ found (some (trail ls p)) 0 m
  resume_some [] p m = refl
  resume_some (l ∷ ls) p m = resume_some ls (l.edge ∷ p) m

  -- where the search has ended, any budget gives what it came to
  promised_ended : (x : State E M) (a : Option (List E)) (b : ℕ) → coming x ≡ found a 0 x.store → promised x b ≡ whole a x.made
  promised_ended x a b h =
      rw h (cut_enough a (x.made + 0) (x.made + b) (omega arith) ∙ ap (whole a) (omega arith))

  -- where it has not, nothing is decided without a further attempt
  promised_open : (x : State E M) (f : Found E M) → coming x ≡ once_more f → promised x 0 ≡ broken x.made
  promised_open x f h =
      rw h (cut_short f.way (x.made + suc f.tries) (x.made + 0) (omega arith) ∙ ap broken (omega arith))

  -- an attempt keeps the promise
  promised_step : (x y : State E M) (f : Found E M) (b : ℕ) → coming x ≡ once_more f → Stands y (suc x.made) f
      → promised y b ≡ promised x (suc b)
  promised_step x y f b h k =
      let p : y.made + b ≡ x.made + suc b = omega (arith, k.attempts) in
      let q : y.made + f.tries ≡ x.made + suc f.tries = omega (arith, k.attempts) in
      rw (h, k.left, p, q)

  -- a settled machine has ended with the answer a, or makes an attempt that leaves f to come
  data Now (x : State E M) : Type 0 where
    ended : (a : Option (List E)) → coming x ≡ found a 0 x.store → attempt Z x ≡ x → outcome Z x ≡ whole a x.made → Now x
    trying : (f : Found E M) → coming x ≡ once_more f → Stands (attempt Z x) (suc x.made) f → outcome Z x ≡ broken x.made → Now x

  now : (s : Tree E) (ls : List (Level E)) (n : ℕ) (m : M) → Settled s ls → Now (state s ls n m)
  now done ls n m h = ended (some (trail ls [])) (resume_some ls [] m) refl refl
  now stuck [] n m h = ended none refl refl refl
  now stuck (l ∷ ls) n m h = absurd h
  now (turned r) ls n m h = trying _ (resume_once ls (walk Z r m)) (settle_stands ls r (suc n) m) refl
  now (placed e s r) ls n m h =
      trying _ (resume_once ls (enter Z (Z.known m e) e (walk Z s) (walk Z r) m)) (enter_stands (Z.known m e) e s r ls (suc n) m) refl

  run_promised : (b : ℕ) (x : State E M) → Settled x.here x.above → outcome Z (run Z b x) ≡ promised x b
  run_promised zero x h = go (now x.here x.above x.made x.store h)
    where
      go : Now x → outcome Z x ≡ promised x 0
      go (ended a c e o) = o ∙ sym (promised_ended x a 0 c)
      go (trying f c k o) = o ∙ sym (promised_open x f c)
  run_promised (suc b) x h = go (now x.here x.above x.made x.store h) (run_promised b)
    where
      go : Now x → ((y : State E M) → Settled y.here y.above → outcome Z (run Z b y) ≡ promised y b)
          → outcome Z (run Z b (attempt Z x)) ≡ promised x (suc b)
      go (ended a c e o) ih = ap (λ y. outcome Z (run Z b y)) e ∙ ih x h ∙ promised_ended x a b c ∙ sym (promised_ended x a (suc b) c)
      go (trying f c k o) ih = ih (attempt Z x) k.settled ∙ promised_step x (attempt Z x) f b c k

  -- to run the machine for b attempts is to judge the walk under the budget b
  pub run_judge : (b : ℕ) (s : Tree E) (m : M) → outcome Z (run Z b (start Z s m)) ≡ cut b (walk Z s m).way (walk Z s m).tries
  run_judge b s m = run_promised b (start Z s m) tt ∙ rw (zero-add b, zero-add (walk Z s m).tries)

-- of the plain walk: to run the machine for b attempts is to judge the tree under the budget b
pub run_plain : {E : Type 0} (b : ℕ) (s : Tree E) → outcome none_stored (run none_stored b (start none_stored s tt)) ≡ judge b s
run_plain b s = run_judge none_stored b s tt ∙ rw (walk_plain s tt)
