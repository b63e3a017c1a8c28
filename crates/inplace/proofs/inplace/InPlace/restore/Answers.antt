use Rattle.std.proofs.Common.{◌<◌, length, rules}
use Rattle.inplace.proofs.Restores.{restored_apart}
use Rattle.inplace.proofs.inplace.InPlace.restore.Goals as goal

pub invariant_of-self-clause-apart : goal.invariant_of-self-clause-apart
invariant_of-self-clause-apart c =
    let e = c.args.self.now in
    let t = c.index-self-place in
    let card = c.args.place.card in
    let h : card < length e.txs = search rules in
    restored_apart e.cells e.txs card t.result c.args.to h t.is c.requires.bare e.apart
