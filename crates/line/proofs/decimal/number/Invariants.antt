-- `line::decimal::number` reads digits: what stands from a byte on decides, after the n that was read. Assumes nothing.
use Rattle.std.proofs.Common.{◌≡◌, ◌^◌, ◌<◌, drop}
use Rattle.line.specs.Number.{all_digits, amount, number}
use Rattle.line.specs.Steps.{saturated}
use Rattle.line.proofs.decimal.number.Given as goal

abbrev pub invariant-loop-b : goal.invariant-loop-b
invariant-loop-b l = record {
  small : l.n < 2 ^ 32;
  digits : all_digits l.w ≡ all_digits (drop l.b-index l.w);
  said : saturated (number l.w) ≡ saturated (amount l.n (drop l.b-index l.w));
}
