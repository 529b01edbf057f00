-- What a map's calls do to the map of a list: a change of one place.
use Rattle.std.specs.Prelude.{ℕ, zero, suc, ◌+◌, ◌<◌, ◌≡◌, refl, ◌≢◌, List, [], ◌∷◌, length, get_or, set}
use Rattle.std.proofs.Common.{ap, ◌∙◌, eq-eqb, ne_eqb, lt-ltb, le-ltb, arith}
use Rattle.std.proofs.Math.Option.{Option, none, some}
use Rattle.recording_meaning.specs.Rust.{Map, get, insert, remove}
use Rattle.recording_meaning.specs.RustMaps.{entry, tabled}

module _ {B : Type 0} where
  -- a map's calls on another number, and on its own

  get_past : (k j : ℕ) (o : Option B) (m : Map B) → j ≢ k → get (entry k o m) j ≡ get m j
  get_past k j none m d = refl
  get_past k j (some b) m d = rw (ne_eqb j k d)

  remove_past : (k j : ℕ) (o : Option B) (m : Map B) → j ≢ k → remove (entry k o m) j ≡ entry k o (remove m j)
  remove_past k j none m d = refl
  remove_past k j (some b) m d = rw (ne_eqb j k d)

  pub insert_past : (k j : ℕ) (o : Option B) (m : Map B) (b : B) → k < j → insert (entry k o m) j b ≡ entry k o (insert m j b)
  insert_past k j none m b h = refl
  insert_past k j (some c) m b h = rw (ne_eqb j k (λ z. omega arith), le-ltb j k (omega arith))

  insert_first : (k j : ℕ) (o : Option B) (m : Map B) (b : B) → j < k → insert m j b ≡ (j, b) ∷ m → insert (entry k o m) j b ≡ (j, b) ∷ entry k o m
  insert_first k j none m b h e = e
  insert_first k j (some c) m b h e = rw (ne_eqb j k (λ z. omega arith), lt-ltb j k h)

  get_own : (k : ℕ) (o : Option B) (m : Map B) → get m k ≡ none → get (entry k o m) k ≡ o
  get_own k none m e = e
  get_own k (some b) m e = rw (eq-eqb k k refl)

  remove_own : (k : ℕ) (o : Option B) (m : Map B) → remove m k ≡ m → remove (entry k o m) k ≡ m
  remove_own k none m e = e
  remove_own k (some b) m e = rw (eq-eqb k k refl)

  pub insert_own : (k : ℕ) (o : Option B) (m : Map B) (b : B) → insert m k b ≡ (k, b) ∷ m → insert (entry k o m) k b ≡ (k, b) ∷ m
  insert_own k none m b e = e
  insert_own k (some c) m b e = rw (eq-eqb k k refl)

module _ {A B : Type 0} (f : A → Option B) where
  -- a number before the first

  get_before : (l : List A) (k j : ℕ) → j < k → get (tabled f k l) j ≡ none
  get_before [] k j h = refl
  get_before (a ∷ l) k j h = get_past k j (f a) (tabled f (suc k) l) (λ z. omega arith) ∙ get_before l (suc k) j (omega arith)

  remove_before : (l : List A) (k j : ℕ) → j < k → remove (tabled f k l) j ≡ tabled f k l
  remove_before [] k j h = refl
  remove_before (a ∷ l) k j h =
      remove_past k j (f a) (tabled f (suc k) l) (λ z. omega arith) ∙ ap (entry k (f a)) (remove_before l (suc k) j (omega arith))

  pub insert_before : (l : List A) (k j : ℕ) (b : B) → j < k → insert (tabled f k l) j b ≡ (j, b) ∷ tabled f k l
  insert_before [] k j b h = refl
  insert_before (a ∷ l) k j b h = insert_first k j (f a) (tabled f (suc k) l) b h (insert_before l (suc k) j b (omega arith))

  -- place i, whose number is j

  pub get_tabled : (l : List A) (k i j : ℕ) (d : A) → j ≡ k + i → i < length l → get (tabled f k l) j ≡ f (get_or l i d)
  get_tabled [] k i j d e h = absurd (omega arith)
  get_tabled (a ∷ l) k zero j d e h =
      let z : j ≡ k = omega arith in
      rw z (get_own k (f a) (tabled f (suc k) l) (get_before l (suc k) k (omega arith)))
  get_tabled (a ∷ l) k (suc i) j d e h =
      get_past k j (f a) (tabled f (suc k) l) (λ z. omega arith) ∙ get_tabled l (suc k) i j d (omega arith) (omega arith)

  pub remove_tabled : (l : List A) (k i j : ℕ) (a : A) → j ≡ k + i → i < length l → f a ≡ none → remove (tabled f k l) j ≡ tabled f k (set l i a)
  remove_tabled [] k i j a e h s = absurd (omega arith)
  remove_tabled (c ∷ l) k zero j a e h s =
      let z : j ≡ k = omega arith in
      rw (z, s) (remove_own k (f c) (tabled f (suc k) l) (remove_before l (suc k) k (omega arith)))
  remove_tabled (c ∷ l) k (suc i) j a e h s =
      remove_past k j (f c) (tabled f (suc k) l) (λ z. omega arith) ∙ ap (entry k (f c)) (remove_tabled l (suc k) i j a (omega arith) (omega arith) s)

  pub insert_tabled : (l : List A) (k i j : ℕ) (a : A) (b : B) → j ≡ k + i → i < length l → f a ≡ some b → insert (tabled f k l) j b ≡ tabled f k (set l i a)
  insert_tabled [] k i j a b e h s = absurd (omega arith)
  insert_tabled (c ∷ l) k zero j a b e h s =
      let z : j ≡ k = omega arith in
      rw (z, s) (insert_own k (f c) (tabled f (suc k) l) b (insert_before l (suc k) k b (omega arith)))
  insert_tabled (c ∷ l) k (suc i) j a b e h s =
      insert_past k j (f c) (tabled f (suc k) l) b (omega arith) ∙ ap (entry k (f c)) (insert_tabled l (suc k) i j a b (omega arith) (omega arith) s)
