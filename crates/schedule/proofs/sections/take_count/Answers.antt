use Rattle.std.proofs.Common.{refl, arith}
use Rattle.schedule.proofs.Fronts.{same_number}
use Rattle.schedule.proofs.sections.take_count.Goals as goal

pub returns-then-count-gt-MOST_EVENTS : goal.returns-then-count-gt-MOST_EVENTS
returns-then-count-gt-MOST_EVENTS c =
    (refl, λ m after le k. omega (arith, (same_number _ _ after _ m c.in_ok-count.ensures k).0))
