-- `numbers::number` meets its contract: so far the number of the bytes from the i-th on.
use Rattle.std.proofs.Common.{◌≡◌, ℕ, ◌-◌, ◌<◌, ◌≤◌, ◌^◌, drop, arith}
use Rattle.std.proofs.lemmas.Grind.{common_steps}
use Rattle.std.proofs.Math.Nat.{pow-le-pow_right}
use Rattle.numbers.specs.Numbers.{number_at}
use Rattle.numbers.proofs.NumberAt.{number_at_none, number_at_before, power_before}
use Rattle.numbers.proofs.number.Goals as goal

-- Where three of four bytes at most are read, one more fits.
room : (n i x : ℕ) → 0 < i → i ≤ n → n ≤ 4 → x < 256 ^ (n - i) → x < 2 ^ 24
room n i x some within few small =
    let below : 256 ^ (n - i) ≤ 256 ^ 3 = pow-le-pow_right {n = 256} (omega arith) {i = n - i} {j = 3} (omega arith) in
    omega arith

pub loop-i-init : goal.loop-i-init
loop-i-init g c =
    let none : g.row.N - g.row.N ≡ 0 = omega arith in
    rw none (record { value = number_at_none _ _; small = omega arith })

pub overflow_mul-x : goal.overflow_mul-x
overflow_mul-x g c = record { fits = omega (arith, room g.row.N c.loop-i.i c.loop-i.x c.loop-i-test.true (omega arith) c.requires c.loop-i.invariant.small) }

pub overflow_add-x : goal.overflow_add-x
overflow_add-x g c = record { fits = omega (arith, room g.row.N c.loop-i.i c.loop-i.x c.loop-i-test.true (omega arith) c.requires c.loop-i.invariant.small) }

pub loop-i-preserved : goal.loop-i-preserved
loop-i-preserved g c =
    let before = number_at_before c.unwrap_or-rest.result.now c.loop-i.i g.row.N c.loop-i-test.true (omega arith) in
    let power = power_before c.loop-i.i g.row.N c.loop-i-test.true (omega arith) in
    record {
      value = rw (before, ← c.byte.ensures, ← c.loop-i.invariant.value) (omega arith);
      small = rw power (omega (arith, c.loop-i.invariant.small));
    }

pub returns-clause-value : goal.returns-clause-value
unfolding number_at
returns-clause-value g c =
    let rest : c.unwrap_or-rest.result.now ≡ drop c.args.at c.args.bytes.now = grind (arith, common_steps) in
    let first : c.loop-i.i ≡ 0 = omega arith in
    let all : g.row.N - c.loop-i.i ≡ g.row.N = omega arith in
    rw (all, first, rest) at c.loop-i.invariant.value

pub returns-clause-upper_bound : goal.returns-clause-upper_bound
returns-clause-upper_bound g c =
    let first : g.row.N - c.loop-i.i ≡ g.row.N = omega arith in
    rw first at c.loop-i.invariant.small
