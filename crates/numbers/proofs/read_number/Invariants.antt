-- What is left to read from byte i on, above what is summed up so far, says the same number as the whole.
use Rattle.std.proofs.Common.{◌≤◌, ◌<◌, ◌^◌, ◌≡◌, drop}
use Rattle.numbers.specs.Number.{number_from, number}
use Rattle.numbers.proofs.read_number.Given as goal

abbrev pub invariant-loop-i : goal.invariant-loop-i
invariant-loop-i l = record {
  group : l.i ≤ 4;
  below : l.value < 128 ^ l.i;
  rest : number_from (drop l.i l.bytes) l.i l.value ≡ number l.bytes;
}
