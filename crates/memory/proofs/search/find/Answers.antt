use Rattle.std.proofs.Common.{◌∙◌, rules, tests}
use Rattle.std.proofs.lemmas.Iterator.{YieldsList-from_slice}
use Rattle.std.proofs.lemmas.Iterator.Search.{position_from_yields_List}
use Rattle.memory.proofs.Seeks.{of_cell, seek_is}
use Rattle.memory.proofs.search.find.Goals as goal

-- the closure tests for the cell, so `position` answers the first record of it
pub returns-clause-first : goal.returns-clause-first
returns-clause-first g c =
    let place = g.T.Celled.place in
    let cell = c.args.cell in
    let xs = c.args.items.now in
    position_from_yields_List (of_cell place cell) _ _ c.position.result c.position.ensures.ran
    (YieldsList-from_slice xs (cc)) (λ x b q k. search (rules, tests))
    ∙ seek_is place cell xs
