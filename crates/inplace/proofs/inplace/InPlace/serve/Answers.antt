use Rattle.std.proofs.Common.{◌≡◌, ◌<◌, length, arith, rules}
use Rattle.std.proofs.lemmas.List.{get_or-set_same}
use Rattle.memory.specs.declared.log.Transaction.TheVariants.{Closed}
use Rattle.inplace.proofs.Dooms.{served_written, served_apart, served_after}
use Rattle.inplace.proofs.inplace.InPlace.serve.Goals as goal

pub invariant_of-self-clause-apart : goal.invariant_of-self-clause-apart
invariant_of-self-clause-apart c =
    let a = c.args in
    let e = a.self.now in
    let d = c.doom in
    let n = e.eight in
    let h : a.place.card < length e.txs = search rules in
    let l : length d.new.txs ≡ length e.txs = search rules in
    served_apart a.how a.place.card a.place.cell e.cells d.new.cells e.txs d.new.txs a.own h l
    d.ensures.apart d.ensures.own d.ensures.after c.requires.same

pub returns : goal.returns
returns c =
    let a = c.args in
    let e = a.self.now in
    let d = c.doom in
    let n = e.eight in
    let h : a.place.card < length e.txs = search rules in
    let l : length d.new.txs ≡ length e.txs = search rules in
    let k : a.place.card < length d.new.txs = omega arith in
    record {
      own = get_or-set_same d.new.txs a.place.card a.own Closed k;
      written =
          served_written a.how a.place.card a.place.cell e.cells d.new.cells e.txs d.new.txs a.own h l
          d.ensures.apart d.ensures.own d.ensures.after c.requires.same;
      after =
          served_after a.how a.place.card a.place.cell e.cells d.new.cells e.txs d.new.txs a.own h l
          d.ensures.apart d.ensures.own d.ensures.after c.requires.same;
    }
