-- The lowest bytes of a number, and the two parts of an answer laid one after the other.
use Rattle.std.proofs.Common.{ℕ, zero, suc, ◌+◌, ◌/◌, ◌%◌, ◌^◌, ◌≡◌, refl, sym, ap, ◌∙◌, List, [], ◌∷◌, ◌++◌, div-one, arith, length, take, drop, take_all, take_at, drop-drop}
use Rattle.std.proofs.Math.Nat.{div-div-eq-div-mul, pow-suc}
use Rattle.std.proofs.Math.ListN.{get_or}
use Rattle.std.proofs.lemmas.Slice.{put_mid-paste}
use Rattle.std.specs.Int.{w32, w64, byte_at, bytes_low_first, to_le_bytes}
use borrow.Rule.Slice.PartMut.{put_mid}
use Rattle.std.proofs.Math.Seq.{paste, drop-append-add}
use Rattle.values.specs.Sizes.{capacity}
use Rattle.host.specs.declared.report.Report.{Report}
use Rattle.host.specs.Call.{little, head_of, head_size, bytes_of, answer_size}

-- the lowest bytes of n, from byte i on
little_low : (many i n : ℕ) → little many (n / 256 ^ i) ≡ bytes_low_first i many n
little_low zero i n = refl
little_low (suc many) i n =
    let next : n / 256 ^ i / 256 ≡ n / 256 ^ suc i = div-div-eq-div-mul n (256 ^ i) 256 ∙ ap (λ (d : ℕ). n / d) (sym (pow-suc 256 i)) in
    rw (here i) (ap (λ (l : List ℕ). byte_at i n ∷ l) (ap (little many) next ∙ little_low many (suc i) n))
  where
    here : (i : ℕ) → n / 256 ^ i % 256 ≡ byte_at i n
    here zero = ap (λ (m : ℕ). m % 256) (div-one n)
    here (suc i) = refl

little_bytes : (many n : ℕ) → little many n ≡ bytes_low_first 0 many n
little_bytes many n = ap (little many) (sym (div-one n)) ∙ little_low many 0 n

pub head_bytes : (v n l attempts place : ℕ) (bs ps : List ℕ) → bs ≡ to_le_bytes w64 attempts → ps ≡ to_le_bytes w32 place
    → v ∷ n ∷ l ∷ get_or bs 0 0 ∷ get_or bs 1 0 ∷ get_or bs 2 0 ∷ get_or bs 3 0 ∷ get_or bs 4 0 ∷ get_or bs 5 0 ∷ get_or bs 6 0 ∷ get_or bs 7 0
    ∷ get_or ps 0 0 ∷ get_or ps 1 0 ∷ get_or ps 2 0 ∷ get_or ps 3 0 ∷ []
    ≡ head_of v n l attempts place
unfolding head_of
head_bytes v n l attempts place bs ps e f =
    rw (e, f) (sym (ap (λ (x : List ℕ). v ∷ n ∷ l ∷ x ++ little 4 place) (little_bytes 8 attempts)
    ∙ ap (λ (x : List ℕ). v ∷ n ∷ l ∷ bytes_low_first 0 8 attempts ++ x) (little_bytes 4 place)))

head_length : (verdict number count attempts place : ℕ) → length (head_of verdict number count attempts place) ≡ head_size
unfolding head_of
head_length v n l a p = refl

-- the head, and the thread numbers behind it
parts : (d h r e f : List ℕ) → length h ≡ head_size → length r ≡ capacity → e ≡ paste d 0 h (length h) → f ≡ paste e head_size r (length r)
    → f ≡ (h ++ r) ++ drop answer_size d
parts d h r e f eh er p q =
    let th : take head_size h ≡ h = take_all head_size h (omega arith) in
    let tr : take capacity r ≡ r = take_all capacity r (omega arith) in
    let first : e ≡ h ++ drop head_size d = p ∙ ap (λ (n : ℕ). paste d 0 h n) eh ∙ ap (λ (x : List ℕ). x ++ drop head_size d) th in
    let front : take head_size (h ++ drop head_size d) ≡ h = take_at h (drop head_size d) head_size eh in
    let rest : drop answer_size (h ++ drop head_size d) ≡ drop answer_size d =
    ap (λ (n : ℕ). drop (n + capacity) (h ++ drop head_size d)) (sym eh) ∙ drop-append-add h (drop head_size d) capacity ∙ drop-drop capacity head_size d in
    q
    ∙ ap (λ (n : ℕ). paste e head_size r n) er
    ∙ ap (λ (x : List ℕ). paste x head_size r capacity) first
    ∙ ap (λ (x : List ℕ). (x ++ take capacity r) ++ drop answer_size (h ++ drop head_size d)) front
    ∙ ap (λ (x : List ℕ). (h ++ x) ++ drop answer_size (h ++ drop head_size d)) tr
    ∙ ap (λ (x : List ℕ). (h ++ r) ++ x) rest

-- the bytes of a report, its head written over the first ones and its threads over the next
pub laid : (r : Report) (d h : List ℕ) → length r.threads ≡ capacity → h ≡ head_of r.verdict r.number r.length r.attempts r.place
    → put_mid head_size capacity (put_mid 0 head_size d h) r.threads ≡ bytes_of r ++ drop answer_size d
unfolding bytes_of
laid r d h long i =
    let size : length h ≡ head_size = ap length i ∙ head_length r.verdict r.number r.length r.attempts r.place in
    parts d h r.threads _ _ size long (put_mid-paste 0 head_size d h h (length h) refl size refl)
    (put_mid-paste head_size capacity _ r.threads r.threads (length r.threads) refl long refl)
    ∙ ap (λ (x : List ℕ). (x ++ r.threads) ++ drop answer_size d) i
