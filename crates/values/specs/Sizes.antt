-- The sizes of document 01.
use Rattle.std.specs.Prelude.{ℕ}

-- A stack has room for 96 values.
abbrev pub room : ℕ
room = 96

-- Threads 0 to 7.
abbrev pub threads : ℕ
threads = 8

-- At most 64 operations in a tester, completed and in flight together.
abbrev pub capacity : ℕ
capacity = 64

-- An initial stack holds at most 32 values.
abbrev pub start_room : ℕ
start_room = 32
