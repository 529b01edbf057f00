-- 20 and 21 exactly: "a corpus file is at most 65,536 bytes", and "a file opens with the four bytes 52 41 57 31", whatever else it holds; 20 before 21.
use Rattle.std.specs.Prelude.{ℕ, ◌≡◌, List, [], ◌∷◌, take}

-- The file opens with the four bytes.
abbrev pub Opened : List ℕ → Type 0
Opened s = take 4 s ≡ 0x52 ∷ 0x41 ∷ 0x57 ∷ 0x31 ∷ []
