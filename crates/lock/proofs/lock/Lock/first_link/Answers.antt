use Rattle.std.proofs.Common.{rules, tests}
use Rattle.std.proofs.lemmas.Iterator.{YieldsList-from_slice}
use Rattle.std.proofs.lemmas.Iterator.Search.{find_from_yields_List}
use Rattle.stages.specs.declared.stage.Card.{Card}
use Rattle.lock.specs.Lines.{leads}
use Rattle.lock.proofs.Cards.{first_found}
use Rattle.lock.proofs.lock.Lock.first_link.Goals as goal

pub returns : goal.returns
returns g c =
    let m = g.M.Memory.meaning c.args.self.now.memory in
    let cs = c.args.self.now.table.records in
    let f = find_from_yields_List (λ (r : Card). leads m cs r.stage) _ _ c.find.result c.find.ensures.ran
    (YieldsList-from_slice cs cc) (λ x b q k. search (rules, tests)) in
    first_found m cs cs c.find.result c.map_or.result _ f (λ y q. search rules) c.map_or.ensures
