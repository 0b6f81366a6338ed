-- The byte code's map: its laws.
use Rattle.std.specs.Prelude.{◌^◌, nat_eq}
use Rattle.std.proofs.Common.{eqb→eq, lit<}
use Rattle.cyclic.specs.Maps.{power, Linear, Returns, Lawful}
use Rattle.cyclic.proofs.Powers.{power_linear}
use Rattle.cyclic.proofs.Orders.{judge_theorem}
use Rattle.cyclic.proofs.Units.{fixes_all, each_below}
use Rattle.codes.specs.Doubling.{double}
use Rattle.codes.specs.Divisors.{divisors_by_test}
use Rattle.codes.specs.Additive.{doubled_linear}

pub double_linear : Linear 8 double
double_linear = doubled_linear 8 0x1d (lit< tt)

pub double_returns : Returns 8 255 double
double_returns =
    fixes_all 8 (power double 255) (power_linear 8 double double_linear 255)
    (λ i li. eqb→eq (power double 255 (2 ^ i)) (2 ^ i) (each_below 8 (λ j. nat_eq (power double 255 (2 ^ j)) (2 ^ j)) tt i li))

pub double_lawful : Lawful 8 255 double
double_lawful =
    (judge_theorem 8 255 double (lit< tt) (lit< tt) double_linear).0
    record { returns = double_returns; divisors = divisors_by_test 8 double 255 tt }
