-- Lists by places, tests joined by "and", and a thread beside the others.
use Rattle.std.specs.Prelude.{ℕ, zero, suc, ◌<◌, ◌≡◌, refl, ◌⊎◌, ◌≢◌, Bool, true, false, ◌&&◌, List, [], ◌∷◌, ◌++◌, map, length, get_or, take, drop, replicate, eqb}
use Rattle.std.proofs.Common.{sym, ap, ◌∙◌, subst, inl, inr, true≢false, eqb-true, arith}
use Rattle.std.proofs.lemmas.Bool.{false≢true, eqb-false}
use Rattle.std.proofs.Math.Option.{none, some, none-ne-some}
use Rattle.std.proofs.Math.ListN.{get_elem? as nth}

-- what cannot be

pub not_some : {A B : Type 0} {x : A} → none ≡ some x → B
not_some {x = x} h = absurd (none-ne-some x h)

pub not_both : {B : Type 0} {b : Bool} → b ≡ true → b ≡ false → B
not_both h k = absurd (true≢false (sym h ∙ k))

pub not_true : {b : Bool} → (b ≡ true → ⊥) → b ≡ false
not_true {b} f = go b f
  where
    go : (b : Bool) → (b ≡ true → ⊥) → b ≡ false
    go true f = absurd (f refl)
    go false f = refl

-- a thread, and the others

pub own_or_other : (P : ℕ → Type 0) (t : ℕ) → P t → ((u : ℕ) → u ≢ t → P u) → (u : ℕ) → P u
own_or_other P t f g u = go (eqb t u) refl
  where
    go : (b : Bool) → eqb t u ≡ b → P u
    go true e = subst P (eqb-true t u e) f
    go false e = g u (λ z. eqb-false t u e (sym z))

-- tests

pub and_left : (a b : Bool) → a && b ≡ true → a ≡ true
and_left true b h = refl
and_left false b h = h

pub and_right : (a b : Bool) → a && b ≡ true → b ≡ true
and_right true b h = h
and_right false b h = absurd (false≢true h)

pub and_both : (a b : Bool) → a ≡ true → b ≡ true → a && b ≡ true
and_both a b h k = rw (h, k)

-- places

module _ {A : Type 0} where
  pub nth_lt : (p : List A) (i : ℕ) (x : A) → nth p i ≡ some x → i < length p
  nth_lt [] i x h = not_some h
  nth_lt (y ∷ p) zero x h = omega arith
  nth_lt (y ∷ p) (suc i) x h = omega (arith, nth_lt p i x h)

  pub nth_has : (p : List A) (i : ℕ) → i < length p → (x : A) × (nth p i ≡ some x)
  nth_has [] i h = absurd (omega arith)
  nth_has (y ∷ p) zero h = (y, refl)
  nth_has (y ∷ p) (suc i) h = nth_has p i (omega arith)

  pub nth_take : (p : List A) (i j : ℕ) → i < j → nth (take j p) i ≡ nth p i
  nth_take p i zero h = absurd (omega arith)
  nth_take [] i (suc j) h = refl
  nth_take (x ∷ p) zero (suc j) h = refl
  nth_take (x ∷ p) (suc i) (suc j) h = nth_take p i j (omega arith)

  pub nth_before : (p : List A) (i : ℕ) (x : A) (l : List A) → nth p i ≡ some x → nth (p ++ l) i ≡ some x
  nth_before [] i x l h = not_some h
  nth_before (y ∷ p) zero x l h = h
  nth_before (y ∷ p) (suc i) x l h = nth_before p i x l h

  pub nth_snoc : (p : List A) (i : ℕ) (x y : A) → nth (p ++ (x ∷ [])) i ≡ some y → (nth p i ≡ some y) ⊎ ((y ≡ x) × (i ≡ length p))
  nth_snoc [] zero x y h = inr (cc, refl)
  nth_snoc [] (suc i) x y h = not_some h
  nth_snoc (z ∷ p) zero x y h = inl h
  nth_snoc (z ∷ p) (suc i) x y h = go (nth_snoc p i x y h)
    where
      go : (nth p i ≡ some y) ⊎ ((y ≡ x) × (i ≡ length p)) → (nth p i ≡ some y) ⊎ ((y ≡ x) × (suc i ≡ suc (length p)))
      go (inl a) = inl a
      go (inr a) = inr (a.0, ap suc a.1)

  pub take_nth : (p : List A) (i : ℕ) (x : A) → nth p i ≡ some x → take (suc i) p ≡ take i p ++ (x ∷ [])
  take_nth [] i x h = not_some h
  take_nth (y ∷ p) zero x h = let q : y ≡ x = cc in rw q
  take_nth (y ∷ p) (suc i) x h = ap (λ (l : List A). y ∷ l) (take_nth p i x h)

  pub drop_nth : (p : List A) (i : ℕ) (x : A) → nth p i ≡ some x → drop i p ≡ x ∷ drop (suc i) p
  drop_nth [] i x h = not_some h
  drop_nth (y ∷ p) zero x h = let q : y ≡ x = cc in rw q
  drop_nth (y ∷ p) (suc i) x h = drop_nth p i x h

  pub nth_drop : (p : List A) (i : ℕ) (x : A) (l : List A) → drop i p ≡ x ∷ l → (nth p i ≡ some x) × (drop (suc i) p ≡ l)
  nth_drop [] zero x l h = absurd (let z : ◌≡◌ {A = ℕ} 0 1 = cc in omega arith)
  nth_drop [] (suc i) x l h = absurd (let z : ◌≡◌ {A = ℕ} 0 1 = cc in omega arith)
  nth_drop (y ∷ p) zero x l h = (let q : y ≡ x = cc in rw q, cc)
  nth_drop (y ∷ p) (suc i) x l h = nth_drop p i x l h

  pub get_d_same : (n i : ℕ) (a : A) → get_or (replicate n a) i a ≡ a
  get_d_same zero i a = refl
  get_d_same (suc n) zero a = refl
  get_d_same (suc n) (suc i) a = get_d_same n i a

  pub get_d_below : (l : List (List A)) (t k : ℕ) (x : A) → nth (get_or l t []) k ≡ some x → t < length l
  get_d_below [] t k x h = not_some h
  get_d_below (r ∷ l) zero k x h = omega arith
  get_d_below (r ∷ l) (suc t) k x h = omega (arith, get_d_below l t k x h)

pub nth_map : {A B : Type 0} (f : A → B) (p : List A) (i : ℕ) (x : A) → nth p i ≡ some x → nth (map f p) i ≡ some (f x)
nth_map f [] i x h = not_some h
nth_map f (y ∷ p) zero x h = let q : y ≡ x = cc in rw q
nth_map f (y ∷ p) (suc i) x h = nth_map f p i x h

pub of_nth_map : {A B : Type 0} (f : A → B) (p : List A) (i : ℕ) (y : B) → nth (map f p) i ≡ some y → (x : A) × (nth p i ≡ some x) × (f x ≡ y)
of_nth_map f [] i y h = not_some h
of_nth_map f (x ∷ p) zero y h = (x, refl, cc)
of_nth_map f (x ∷ p) (suc i) y h = of_nth_map f p i y h
