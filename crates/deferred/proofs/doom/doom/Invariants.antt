use Rattle.std.proofs.Common.{◌≡◌, map}
use Rattle.memory.specs.Meaning.{struck, none}
use Rattle.memory.specs.Logs.{tx_kept}
use Rattle.memory.proofs.Woven.{woven, others}
use Rattle.deferred.proofs.doom.doom.Given as goal

-- the places before i are done
abbrev pub invariant-loop-i : goal.invariant-loop-i
invariant-loop-i l =
    let ts = map tx_kept l.initial.txs in
    map tx_kept l.txs ≡ woven l.i (others (struck l.how l.place.cell) l.place.card none ts) ts
