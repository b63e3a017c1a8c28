use Rattle.std.proofs.Common.{◌≡◌, false, map, sym, refl, ap, ◌∙◌, subst}
use Rattle.memory.specs.declared.access.Access.TheVariants.{Writes}
use Rattle.memory.specs.Meaning.{Meaning, none, struck, with_cell, wrote}
use Rattle.inplace.specs.Undo.{undoes}
use Rattle.inplace.specs.Standing.{meaning_of}
use Rattle.inplace.proofs.Means.{both}
use Rattle.inplace.proofs.Opens.{store_free}
use Rattle.inplace.proofs.Restores.{Lack, lack_map, lack_set, lack_undoes, put_cells, put_txs}
use Rattle.inplace.proofs.calls.InPlaceMemory.store.Goals as goal

-- nobody keeps an old value of the cell after the access, so the new one stands
pub returns-clause-after : goal.returns-clause-after
returns-clause-after c =
    let e = c.serve.new.self in
    let m = meaning_of c.args.self.now in
    let p = c.in_ok-place.place in
    let value = c.args.value in
    let w = c.serve.ensures.after in
    let k : Lack p.cell (meaning_of e).txs =
    subst (λ (n : Meaning). Lack p.cell n.txs) (sym w)
    (lack_set p.cell (map (struck Writes p.cell) m.txs) p.card none refl (lack_map Writes p.cell m.txs)) in
    let l : wrote (undoes e.txs) p.cell ≡ false = lack_undoes e.cells p.cell e.txs k in
    both _ (with_cell (meaning_of e) p.cell value) (put_cells e.cells e.txs p.cell value l)
    (put_txs e.cells e.txs p.cell value l)
    ∙ (ap (λ (n : Meaning). with_cell n p.cell value) w
    ∙ sym (ap (λ o. o.after) (store_free m p c.args.card c.args.cell value c.in_ok-place.ensures)))
