-- Trace 14 of document 01: trace 3 as a file, of both models, and any budget from 2 on.
use Rattle.std.specs.Prelude.{ℕ, List, [], ◌∷◌, ◌++◌, replicate}

-- 00 00 02, 02 and seven 00, four 00, 00 01, then 62 times FF.
abbrev pub trace_bytes : List ℕ
trace_bytes = 0x00 ∷ 0x00 ∷ 0x02 ∷ 0x02 ∷ replicate 7 0x00 ++ replicate 4 0x00 ++ (0x00 ∷ 0x01 ∷ []) ++ replicate 62 0xFF
