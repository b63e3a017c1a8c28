use Rattle.std.proofs.Common.{◌<◌, List, map, length, sym, ap, ◌∙◌, rules}
use Rattle.std.proofs.lemmas.List.{length-map}
use Rattle.memory.specs.declared.write.Write.{Write}
use Rattle.memory.specs.declared.access.Access.TheVariants.{Writes}
use Rattle.memory.specs.declared.log.Transaction.TheVariants.{Open}
use Rattle.memory.specs.Logs.{marks_of}
use Rattle.memory.specs.Meaning.{Meaning, replaced, live, with_tx}
use Rattle.inplace.specs.Undo.{undo_log, written}
use Rattle.inplace.specs.Standing.{meaning_of}
use Rattle.inplace.proofs.Assigns.{again_cells, again_txs, free_after, served_again}
use Rattle.inplace.proofs.Firsts.{first_apart, first_after}
use Rattle.inplace.proofs.Conflicts.{wrote_written}
use Rattle.inplace.proofs.Means.{both}
use Rattle.inplace.proofs.Opens.{write_again, write_new}
use Rattle.inplace.proofs.Own.{own_at}
use Rattle.inplace.proofs.calls.InPlaceMemory.write.Goals as goal

-- another value for a written cell
pub returns-then-wrote-clause-after : goal.returns-then-wrote-clause-after
returns-then-wrote-clause-after c =
    let a = c.args in
    let n = c.open.new.self in
    let e = c.serve.new.self in
    let p = c.in_ok-place.place in
    let l = c.in_ok-log.log in
    let own = own_at e p.card (Open l) p.within.0 c.serve.ensures.own in
    let free = free_after e Writes p.card p.cell _ (meaning_of n) c.serve.ensures.after in
    let known = sym c.wrote.ensures ∙ c.if-wrote.true in
    let fits : p.cell < length e.cells = search rules in
    let new = λ (ws : List Write). live (marks_of l) (replaced ws p.cell a.value) in
    let ws = map (written n.cells) (undo_log l) in
    both _ _ (again_cells e.cells e.txs p.card l p.cell a.value own.0 own.1 e.apart free known fits)
    (again_txs e.cells e.txs p.card l p.cell a.value own.0 own.1 e.apart free known fits)
    ∙ (ap (λ l. with_tx (meaning_of e) p.card (new l)) c.serve.ensures.written
    ∙ (ap (λ (m : Meaning). with_tx m p.card (new ws)) c.serve.ensures.after
    ∙ (served_again Writes p.card p.cell _ (new ws) (meaning_of n)
    ∙ sym (ap (λ o. o.after)
    (write_again a.self.now n p a.card a.cell l c.in_ok-place.ensures c.in_ok-log.ensures a.value
    (wrote_written n.cells (undo_log l) p.cell ∙ known))))))

-- the log with the old value keeps no cell twice
pub invariant_of-self-2-clause-apart : goal.invariant_of-self-2-clause-apart
invariant_of-self-2-clause-apart c =
    let l = c.in_ok-log.log in
    let e = c.serve-2.new.self in
    let fits : c.in_ok-place.place.cell < length e.cells = search rules in
    let roomy : length (undo_log l) < 4 = search rules in
    first_apart c.open.new.self e c.in_ok-place.place l c.record.new.self c.record.result fits
    c.serve-2.ensures.after c.serve-2.ensures.own c.serve-2.ensures.written
    (sym c.wrote.ensures ∙ c.if-wrote.false) roomy c.record.ensures.marks c.record.ensures.writes

-- the first value for a cell
pub returns-clause-after : goal.returns-clause-after
returns-clause-after c =
    let a = c.args in
    let n = c.open.new.self in
    let e = c.serve-2.new.self in
    let p = c.in_ok-place.place in
    let l = c.in_ok-log.log in
    let fits : p.cell < length e.cells = search rules in
    let roomy : length (undo_log l) < 4 = search rules in
    let fresh = sym c.wrote.ensures ∙ c.if-wrote.false in
    first_after n e p l c.record.new.self c.record.result fits c.serve-2.ensures.after c.serve-2.ensures.own
    c.serve-2.ensures.written fresh roomy c.record.ensures.marks c.record.ensures.writes a.value
    ∙ sym (ap (λ o. o.after)
    (write_new a.self.now n p a.card a.cell l c.in_ok-place.ensures c.in_ok-log.ensures a.value
    (wrote_written n.cells (undo_log l) p.cell ∙ fresh) (rw (length-map (undo_log l) (written n.cells)) roomy)))
