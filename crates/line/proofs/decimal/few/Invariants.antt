-- `line::decimal::few` reads digits: what stands from a byte on decides, after the n that was read. Assumes nothing.
use Rattle.std.proofs.Common.{◌≡◌, ◌^◌, ◌<◌, drop}
use Rattle.line.specs.Number.{all_digits, amount, number}
use Rattle.line.proofs.decimal.few.Given as goal

abbrev pub invariant-loop-b : goal.invariant-loop-b
invariant-loop-b l = record {
  small : l.n < 10 ^ l.b-index;
  digits : all_digits l.w ≡ all_digits (drop l.b-index l.w);
  said : number l.w ≡ amount l.n (drop l.b-index l.w);
}
