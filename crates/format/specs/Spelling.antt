-- Bytes that begin with events, one after the other.
use Rattle.std.specs.Prelude.{ℕ, ◌+◌, ◌-◌, ◌≤◌, ◌≡◌, List, [], ◌∷◌, ◌++◌, drop}
use Rattle.std.proofs.Common.{ap, ◌∙◌, arith, drop-drop}
use Rattle.history.specs.Events.{Event, Events}
use Rattle.families.specs.Families.{families}
use Rattle.families.specs.declared.Kind.{Kind}
use Rattle.numbers.specs.Reader.{got}
use Rattle.format.specs.Format.{event}

-- The bytes begin with these events, one after the other, and they take n bytes.
abbrev pub Spells : Kind → List ℕ → Events families → ℕ → Type 0
Spells k s [] n = n ≡ 0
Spells k s (v ∷ l) n = (used : ℕ) × (event k s ≡ got v used) × (used ≤ n) × Spells k (drop used s) l (n - used)

-- one event more at the end
pub spells_more : (k : Kind) (l : Events families) (s : List ℕ) (n : ℕ) (v : Event families) (used : ℕ) → Spells k s l n → event k (drop n s) ≡ got v used
    → Spells k s (l ++ (v ∷ [])) (n + used)
spells_more k [] s n v used sp e =
    let b : n + used - used ≡ 0 = omega arith in
    (used, rw sp at e, omega arith, b)
spells_more k (w ∷ l) s n v used sp e =
    let a : n + used - sp.0 ≡ n - sp.0 + used = omega (arith, sp.2) in
    let c : sp.0 + (n - sp.0) ≡ n = omega (arith, sp.2) in
    let b : drop (n - sp.0) (drop sp.0 s) ≡ drop n s = drop-drop (n - sp.0) sp.0 s ∙ ap (λ (i : ℕ). drop i s) c in
    (sp.0, sp.1, omega (arith, sp.2), rw a (spells_more k l (drop sp.0 s) (n - sp.0) v used sp.3 (rw b e)))
